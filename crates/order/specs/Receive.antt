-- Event 3, receive: the first match in the caller's inbox is taken, or the caller receives.
use Rattle.std.specs.Prelude.{ℕ, ◌≤◌, ◌<◌, ◌≡◌, refl, ◌≢◌, List, Bool, true, false, cond, ◌||◌, eqb}
use Rattle.std.proofs.Common.{sym, ap, ◌∙◌, arith, eqb-true, eq-eqb, le-leb}
use Rattle.std.proofs.lemmas.Bool.{eqb-false}
use Rattle.lists.specs.Lists.{none, bit, count, first_of}
use Rattle.lists.specs.Search.{found_in, found_none}
use Rattle.rules.specs.Values.{nobody}
use Rattle.rules.specs.Model.{places, last_number, Empty, Running, Awaiting, Receiving, Model, inbox, thread, line}
use Rattle.rules.specs.Rules.{place_of, mine, put, told, stands, stops, wants, awaits, takes, receive}
use Rattle.rules.specs.Consistent.{is_number, belongs}
use Rattle.order.specs.ByLine.{at_inbox}
use Rattle.order.specs.Sound.{Short, Sound, small, sending, sent}
use Rattle.order.specs.Belongs.{in_none, in_inbox}
use Rattle.order.specs.Places.{none_nowhere, placed}
use Rattle.order.specs.Lines.{stays, leaves, drops_without}
use Rattle.order.specs.Moves.{beside, Step, stepped, then, stopping, aside}
use Rattle.order.specs.Standings.{named, told_by}
use Rattle.order.specs.Caller.{one, alive, nowhere}

-- p, in c's inbox, now awaits c's reply
pub awaiting : (m : Model) → Sound m → (c p : ℕ) → (thread m c).standing ≢ Empty → 1 ≤ count p (line m (inbox c)) → Step m (awaits c p m)
awaiting m S c p live h =
    let e = sending m S c p h in
    let lived : (thread m p).standing ≢ Empty = omega arith in
    let i : c < places = small m S c live in
    let low : (thread m p).partner ≤ last_number = rw (sent m S c p h) ((S.fits c).number live) in
    let t = stands Awaiting (thread m p).partner (thread m p).word (thread m p) in
    stepped m p t m.running _ S (named m S p lived Awaiting (thread m p).partner (thread m p).word m.running _ (omega arith)
    (le-leb (thread m p).partner last_number low) (S.fits p).words.0 (c, live, sym (sent m S c p h)) ((S.fits p).apart lived (omega arith))
    (λ r e. absurd (omega arith))
    (aside m S p t (omega arith) (small m S p lived) (omega arith))
    (leaves m S p t (inbox c) (omega arith) _ (drops_without m p (inbox c) h) (in_inbox m (thread m p) S c live e (sent m S c p h)) (in_none m t (omega arith))))
    (omega arith)

-- the running thread gets an answer and goes on
pub goes_on_lem : (m : Model) → Sound m → (c : ℕ) → m.running ≡ c → (thread m c).standing ≡ Running → (n w : ℕ) → n ≤ last_number → Short w → Step m (put c (told 0 n w (thread m c)) m)
goes_on_lem m S c e o n w h short =
    let t = told 0 n w (thread m c) in
    let lived : (thread m c).standing ≢ Empty = λ z. omega arith in
    let F = S.fits c in
    stepped m c t m.running _ S (record {
      lived = lived;
      lives = lived;
      named = refl;
      raised = refl;
      fit = record {
        clean = λ z. absurd (lived z);
        table = F.table;
        answer = (told_by 0 n w h refl short).allowed;
        number = F.number;
        apart = F.apart;
        words = (F.words.0, short);
      };
      turn = record { alone = λ s i f. S.alone s f; own = λ _. e; busy = λ f g. S.busy f; busy_own = λ _. o };
      shift = stays m S c t same_lines;
      served = S.served c;
      hearing = λ s. S.deaf c s;
      heard = λ r. S.deaf r c;
      listens = λ five _. absurd (omega arith);
    }) (omega arith)
  where
    same_lines : (q : ℕ) → belongs m (told 0 n w (thread m c)) q ≡ belongs m (thread m c) q
    same_lines q = refl

module _ (m : Model) (S : Sound m) (busy : m.running ≢ none) where
  -- a match: the caller takes it
  pub taking : (p : ℕ) → 1 ≤ count p (line m (inbox m.running)) → Step m (takes m.running p m)
  taking p h =
      let c = m.running in
      let o = one m S busy in
      let e = sending m S c p h in
      let ne : c ≢ p = λ z. let y : ◌≡◌ {A = ℕ} 1 3 = cc in omega arith in
      let F = awaiting m S c p (alive m S busy) h in
      let k = awaits c p m in
      then m k (takes c p m) F (goes_on_lem k F.kept.sound c refl
      (rw (beside m p c (stands Awaiting (thread m p).partner (thread m p).word (thread m p)) ne) o)
      (thread m p).number (thread m p).word ((S.fits p).number (omega arith)) (S.fits p).words.0)

  module _ (n : ℕ) (source : is_number n || eqb n nobody ≡ true) (apart : n ≢ mine m) (live : n ≢ nobody → place_of m n ≢ none) where
    -- no match: the caller receives
    pub listens : first_of (λ p. wants n (thread m p).number) (line m (inbox m.running)) ≡ none → Step m (stops Receiving n 0 m)
    listens e =
        let c = m.running in
        let t = stands Receiving n 0 (thread m c) in
        let lived = alive m S busy in
        let o = one m S busy in
        let F = S.fits c in
        stepped m c t none _ S (record {
          lived = lived;
          lives = omega arith;
          named = refl;
          raised = refl;
          fit = record {
            clean = λ z. absurd (omega arith);
            table = λ _. rw source;
            answer = F.answer;
            number = λ _. F.number lived;
            apart = λ _ _. apart;
            words = (omega arith, F.words.1);
          };
          turn = stopping m S c t o (omega arith);
          shift = stays m S c t (λ q. in_none m t (omega arith) q ∙ sym (nowhere m S busy q));
          served = λ i j. absurd (omega arith);
          hearing = λ s i j. found_none (λ p. wants n (thread m p).number) (line m (inbox c)) (none_nowhere m S (inbox c)) e s
              (let k : count s (line m (inbox c)) ≡ 1 = S.stood s (inbox c) ∙ ap bit (at_inbox m (thread m s) c) ∙ rw (i, j, eq-eqb (thread m c).number (thread m c).number refl) in omega arith);
          heard = λ r i j. absurd (omega arith);
          listens = λ _ k. let at = placed m n (live k) in (place_of m n, at.0, at.1);
        }) (omega arith)

    pub receives : Step m (receive n m)
    receives = go (eqb (first_of f l) none) refl
      where
        f : ℕ → Bool
        f p = wants n (thread m p).number

        l : List ℕ
        l = line m (inbox m.running)

        go : (b : Bool) → eqb (first_of f l) none ≡ b → Step m (cond b (stops Receiving n 0 m) (takes m.running (first_of f l) m))
        go true e = listens (eqb-true _ _ e)
        go false e = taking (first_of f l) (found_in f l (eqb-false _ _ e))
