-- `Sound`: consistency in the shape that proofs use, without its clause `settled` and those of parents (`Kin`), which fail in the middle of an event.
-- `old_sound`, `old_kin` and `old_whole` say that `OldConsistent` is `Sound` and these; `Consistent` has the clause of P2 besides (`sound`, `kin`, `whole`).
use Rattle.std.specs.Prelude.{ℕ, ◌^◌, ◌≤◌, ◌<◌, ◌≡◌, refl, ◌≢◌, List, [], ◌∷◌, Bool, true, false, ◌&&◌, length, eqb, ltb}
use Rattle.std.proofs.Common.{sym, ap, ◌∙◌, arith, eqb-true, eq-eqb, ltb-true}
use Rattle.std.proofs.Math.Decide.{dec_lt}
use Rattle.std.proofs.Math.ListN.{get_or-eq_default}
use Rattle.lists.specs.Lists.{none, bit, count}
use Rattle.lists.specs.Laws.{by_test, never, and_left, and_right}
use Rattle.lists.specs.Counts.{count_self}
use Rattle.kin.specs.Climb.{climb}
use Rattle.rules.specs.Values.{nobody}
use Rattle.rules.specs.Model.{places, devices, last_number, line_count, Empty, Running, Sending, Awaiting, Receiving, AtDevice, Thread, vacant, Model, ready, inbox, thread, line}
use Rattle.rules.specs.Rules.{wants, hears}
use Rattle.rules.specs.Consistent.{above, belongs, as_table, is_answer, OldConsistent, ListensToLive, Consistent, ConsistentBy}
use Rattle.order.specs.ByLine.{at_inbox}

-- a 32-bit word
abbrev pub Short : ℕ → Type 0
Short w = w < 2 ^ 32

-- what a place must be, taken alone
pub record Fit (t : Thread) : Type 0 where
  pub clean : t.standing ≡ Empty → t ≡ vacant
  pub table : t.standing ≢ Empty → as_table t.standing t.partner t.word ≡ true
  pub answer : is_answer t.code t.who t.answer ≡ true
  pub number : t.standing ≢ Empty → t.number ≤ last_number
  pub apart : t.standing ≢ Empty → t.standing ≢ AtDevice → t.partner ≢ t.number
  pub words : Short t.word × Short t.answer

-- an empty place has the number of nobody, so that whoever has a thread's number lives
pub numbered : {t : Thread} → Fit t → t.number ≤ last_number → t.standing ≢ Empty
numbered F h z = let c = ap (λ (t : Thread). t.number) (F.clean z) in omega arith

-- a live thread has the number n
abbrev pub Live : Model → ℕ → Type 0
Live m n = (r : ℕ) × ((thread m r).standing ≢ Empty) × ((thread m r).number ≡ n)

pub record Sound (m : Model) : Type 0 where
  pub threads : length m.threads ≡ places
  pub lines : length m.lines ≡ line_count
  pub last : m.last ≤ last_number
  pub fits : (p : ℕ) → Fit (thread m p)
  -- one of the two lives: an empty place has the number of nobody
  pub differ : (p r : ℕ) → (thread m p).standing ≢ Empty → (thread m p).number ≡ (thread m r).number → p ≡ r
  pub alone : (p : ℕ) → (thread m p).standing ≡ Running → m.running ≡ p
  pub busy : m.running ≢ none → (thread m m.running).standing ≡ Running
  pub served : (p : ℕ) → Sending ≤ (thread m p).standing → (thread m p).standing ≤ Awaiting → Live m (thread m p).partner
  -- whoever stands in r's inbox is not one that r is waiting to hear
  pub deaf : (r p : ℕ) → (thread m p).standing ≡ Sending → (thread m p).partner ≡ (thread m r).number → hears (thread m r) (thread m p).number ≡ false
  pub stood : (p q : ℕ) → count p (line m q) ≡ bit (belongs m (thread m p) q)

-- Parents are live and never form a ring. This is no part of Sound: the end of one thread alone does not keep it where the thread has children.
pub record Kin (m : Model) : Type 0 where
  pub parented : (p : ℕ) → (thread m p).standing ≢ Empty → (thread m p).parent ≢ nobody → Live m (thread m p).parent
  pub rooted : (p : ℕ) → (thread m p).standing ≢ Empty → (k : ℕ) × (climb (above m) k p ≡ none)

-- ---- what the sizes give

module _ (m : Model) (sized : length m.threads ≡ places) where
  -- past the places there is nobody
  pub out : (p : ℕ) → places ≤ p → thread m p ≡ vacant
  out p h = get_or-eq_default m.threads vacant {n = p} (omega arith)

  -- a live thread stands at one of the places
  pub inside : (p : ℕ) → (thread m p).standing ≢ Empty → p < places
  inside p k = elim (dec_lt p places) [ yes h ↦ h | no h ↦ absurd (k (ap (λ (t : Thread). t.standing) (out p (omega arith)))) ]

-- ---- what a Sound nucleus gives at once

pub small : (m : Model) → Sound m → (p : ℕ) → (thread m p).standing ≢ Empty → p < places
small m S p h = inside m S.threads p h

-- whoever waits at a device waits at one of the indexes
pub at_index : (m : Model) → Sound m → (p : ℕ) → (thread m p).standing ≡ AtDevice → (thread m p).partner < devices
at_index m S p e =
    let t : as_table AtDevice (thread m p).partner (thread m p).word ≡ true = rw e at ((S.fits p).table (omega arith)) in
    ltb-true _ _ (and_left (ltb (thread m p).partner devices) _ t)

-- whoever stands in a line belongs there
pub member : (m : Model) → Sound m → (p q : ℕ) → 1 ≤ count p (line m q) → belongs m (thread m p) q ≡ true
member m S p q h = by_test (belongs m (thread m p) q) (λ e. e) (λ e. let z = S.stood p q ∙ ap bit e in absurd (omega arith))

pub front_belongs : (m : Model) → Sound m → (p q : ℕ) (l : List ℕ) → line m q ≡ p ∷ l → belongs m (thread m p) q ≡ true
front_belongs m S p q l e = member m S p q (rw (e, count_self p l) (omega arith))

-- and in an inbox stand those who send to its owner
module _ (m : Model) (S : Sound m) (r p : ℕ) (h : 1 ≤ count p (line m (inbox r))) where
  inside_it : eqb (thread m p).standing Sending && eqb (thread m p).partner (thread m r).number ≡ true
  inside_it = sym (at_inbox m (thread m p) r) ∙ member m S p (inbox r) h

  pub sending : (thread m p).standing ≡ Sending
  sending = eqb-true _ _ (and_left _ (eqb (thread m p).partner (thread m r).number) inside_it)

  pub sent : (thread m p).partner ≡ (thread m r).number
  sent = eqb-true _ _ (and_right (eqb (thread m p).standing Sending) _ inside_it)

  pub unheard : hears (thread m r) (thread m p).number ≡ false
  unheard = S.deaf r p sending sent

-- ---- the tie to the readable text

module _ (m : Model) (C : OldConsistent m) where
  fit : (p : ℕ) → Fit (thread m p)
  fit p = record { clean = C.clean p; table = C.table p; answer = C.answers p; number = C.numbers p; apart = C.apart p; words = C.words p }

  -- p stands in r's inbox: r cannot be waiting to hear it
  unheard_by : (r p : ℕ) → (thread m p).standing ≡ Sending → (thread m p).partner ≡ (thread m r).number → hears (thread m r) (thread m p).number ≡ true → ⊥
  unheard_by r p e f h =
      let five : (thread m r).standing ≡ Receiving = eqb-true _ _ (and_left _ (wants (thread m r).partner (thread m p).number) h) in
      let w : wants (thread m r).partner (thread m p).number ≡ true = and_right (eqb (thread m r).standing Receiving) _ h in
      let in-it : count p (line m (inbox r)) ≡ 1 = C.stood p (inbox r) ∙ ap bit (at_inbox m (thread m p) r) ∙ rw (e, f, eq-eqb (thread m r).number (thread m r).number refl) in
      by_test (eqb (thread m r).partner nobody)
      (λ t. let z : ◌≡◌ {A = ℕ} 0 1 = rw (C.any r five (eqb-true _ _ t)) at in-it in omega arith)
      (λ t. let z = C.from r p five (eqb-true _ _ (rw t at w)) in omega arith)

  pub old_sound : Sound m
  old_sound = record {
    threads = C.threads;
    lines = C.lines;
    last = C.last;
    fits = fit;
    differ = λ p r h e. let a = C.numbers p h in C.differ p r h (numbered (fit r) (omega arith)) e;
    alone = C.one;
    busy = C.busy;
    served = C.served;
    deaf = λ r p e f. by_test (hears (thread m r) (thread m p).number) (λ h. absurd (unheard_by r p e f h)) (λ h. h);
    stood = C.stood;
  }

  pub old_kin : Kin m
  old_kin = record { parented = C.parented; rooted = C.rooted }

pub sound : (m : Model) → Consistent m → Sound m
sound m C = old_sound m C.old

pub kin : (m : Model) → Consistent m → Kin m
kin m C = old_kin m C.old

-- either way
pub old_of : (strict : Bool) {m : Model} → ConsistentBy strict m → OldConsistent m
old_of true C = C.old
old_of false C = C

module _ (m : Model) (S : Sound m) where
  any_empty : (r : ℕ) → (thread m r).standing ≡ Receiving → (thread m r).partner ≡ nobody → (l : List ℕ) → line m (inbox r) ≡ l → l ≡ []
  any_empty r five e [] z = refl
  any_empty r five e (p ∷ l) z = never {b = true} refl (rw (five, e) at (unheard m S r p (rw (z, count_self p l) (omega arith))))

  from_absent : (r p : ℕ) → (thread m r).standing ≡ Receiving → (thread m r).partner ≡ (thread m p).number → count p (line m (inbox r)) ≡ 0
  from_absent r p five e = elim (dec_lt 0 (count p (line m (inbox r)))) [
    | no n ↦ omega arith
    | yes h ↦
        let u : wants (thread m r).partner (thread m p).number ≡ false = rw five at (unheard m S r p h) in
        by_test (eqb (thread m r).partner nobody)
        (λ t. never {b = true} refl (rw t at u))
        (λ t. never (eq-eqb _ _ e) (rw t at u))
  ]

  pub old_whole : (m.running ≡ none → line m ready ≡ []) → Kin m → OldConsistent m
  old_whole settled K = record {
    threads = S.threads;
    lines = S.lines;
    words = λ p. (S.fits p).words;
    differ = λ p r h _. S.differ p r h;
    numbers = λ p. (S.fits p).number;
    last = S.last;
    one = S.alone;
    busy = S.busy;
    settled = settled;
    stood = S.stood;
    table = λ p. (S.fits p).table;
    served = S.served;
    apart = λ p. (S.fits p).apart;
    any = λ r five e. any_empty r five e (line m (inbox r)) refl;
    from = from_absent;
    answers = λ p. (S.fits p).answer;
    parented = K.parented;
    rooted = K.rooted;
    clean = λ p. (S.fits p).clean;
  }

  pub whole : (m.running ≡ none → line m ready ≡ []) → Kin m → ListensToLive m → Consistent m
  whole settled K listens = record { old = old_whole settled K; listens = listens }
