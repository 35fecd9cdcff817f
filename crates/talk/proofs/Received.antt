-- Event 3, receive: the first match in the caller's inbox is taken, or the caller receives.
use Rattle.std.specs.Prelude.{◌≡◌, refl, List, Result, Ok, Err, Bool, true, false, ◌&&◌, ℕ, ◌+◌, ◌≤◌, ◌<◌, get_or}
use Rattle.std.proofs.Common.{sym, ap, subst, ◌∙◌, arith, eq-eqb, ne_eqb}
use Rattle.lists.specs.Lists.{none, count, first_of}
use Rattle.lists.specs.Counts.{some_among}
use Rattle.lists.specs.Search.{first_ext_in, found_in}
use Rattle.lines.specs.Lines.{line_of}
use Rattle.rules.specs.Values.{nobody, refusal_code, code_in}
use Rattle.rules.specs.declared.Place.{Place}
use Rattle.rules.specs.declared.Refusal.{Refusal}
use Rattle.rules.specs.Model.{places, last_number, Awaiting, Receiving, Thread, Model, inbox, thread, line}
use Rattle.rules.specs.Rules.{mine, stands, told, leave, wants, takes, receive_from, receive, no_number, no_source, own_number, not_live, dead_source}
use Rattle.rules.specs.declared.Number.{Number}
use Rattle.rules.specs.declared.Event.TheVariants.{Receive}
use Rattle.order.specs.Accepted.{accepted}
use Rattle.order.specs.Caller.{alive}
use Rattle.order.specs.Stood.{stands_at_lem}
use Rattle.table.specs.Cells.{cell, model_of, shown, Whole, Stands, inbox_lines, inbox_line, running}
use Rattle.table.specs.Rows.{thread_at, line_at}
use Rattle.table.specs.declared.Desk.{Desk}
use Rattle.events.specs.declared.Outcome.{Outcome}
use Rattle.verbs.specs.Steps.{Steps, Turns, changing, then, stays, turns}
use Rattle.events.specs.Events.{Did, answered, refused, done, no_word}
use Rattle.verbs.specs.Caller.{sounds, caller_place}
use Rattle.verbs.specs.Address.{addressing, Addressed, Addresses, refused_not}
use Rattle.talk.specs.Pick.{taken, picked}
use Rattle.talk.specs.Receive.{SourcesBy, Sources}

and_true : (a : Bool) → a && true ≡ a
and_true true = refl
and_true false = refl

module _ {d : Desk} {b : List ℕ} (n : Number) where
  -- a number is named: refused as for a send
  pub source_named : (n.0 ≡ nobody → ⊥) → {r : Result Place Refusal} → Addresses d b n.0 r → Sources d b n r
  source_named z {r} e w l k =
      let m = shown d b w l in
      let s : no_source n.0 ≡ no_number n.0 = rw (ne_eqb n.0 nobody z) (and_true (no_number n.0)) in
      let t : dead_source m n.0 ≡ not_live m n.0 = rw (ne_eqb n.0 nobody z) in
      let a = e w l k in
      sym (coded r a) ∙ sym (rw (s, t))
    where
      coded : (r : Result Place Refusal) → Addressed d b w l n.0 r → addressing (shown d b w l) n.0 0 ≡ code_in r
      coded (Ok p) a = a.past refl 0
      coded (Err f) a = a.not refl 0

  module _ (any : n.0 ≡ nobody) where
    pub source_1 : d.running.0 ≡ none → SourcesBy d b n 1
    source_1 e w l k = rw (eq-eqb d.running.0 none e)

    pub source_0 : (d.running.0 ≡ none → ⊥) → SourcesBy d b n 0
    source_0 busy w l k =
        let m = shown d b w l in
        let S = sounds k in
        let low : mine m ≤ last_number = (S.fits d.running.0).number (alive m S busy) in
        let own : own_number m n.0 ≡ false = ne_eqb n.0 (mine m) (λ z. omega arith) in
        rw (ne_eqb d.running.0 none busy, own, any)

-- ---- a match is taken
pub took : {b w l l₁ b₁ w₁ b₂ w₂ : List ℕ} {c p pa n x : ℕ} → Whole b w l → p < places → pa ≡ get_or b (cell 2 p) 0 → n ≡ get_or b (cell 0 p) 0 → x ≡ get_or w (cell 0 p) 0
    → Steps b w l b w l₁ (leave (inbox_lines + c) p) → Steps b w l₁ b₁ w₁ l₁ (changing p (stands Awaiting pa x)) → Steps b₁ w₁ l₁ b₂ w₂ l₁ (changing c (told 0 n x)) → Steps b w l b₂ w₂ l₁ (takes c p)
took {b} {w} {l} {c = c} {p} {pa} {n} {x} k h e f g r s t = record {
  whole = t.whole;
  seen = λ y z.
      let m = model_of y z b w l in
      (then r (then s t)).seen y z ∙ rw (inbox_line c, e, f, g)
      (ap (λ (u : Thread). changing c (told 0 u.number u.word) (changing p (stands Awaiting u.partner u.word) (leave (inbox c) p m))) (sym (thread_at y z b w l p h)));
}

-- ---- the search is the rule's

-- the inbox of who runs
abbrev inbox_of : Model → List ℕ
inbox_of m = line m (inbox m.running)

-- does a receive from n take from p
abbrev suits : Model → ℕ → ℕ → Bool
suits m n p = wants n (thread m p).number

module _ {d : Desk} {b w l : List ℕ} (k : Stands d b w l) (busy : d.running.0 ≡ none → ⊥) (n : ℕ) {r : ℕ} (f : r ≡ picked b l (inbox_lines + d.running.0) n) where
  at_place : (p : ℕ) → 1 ≤ count p (inbox_of (shown d b w l)) → p < places
  at_place p h = stands_at_lem (shown d b w l) (sounds k) p (inbox d.running.0) (some_among p (inbox_of (shown d b w l)) h)

  search : first_of (suits (shown d b w l) n) (inbox_of (shown d b w l)) ≡ r
  search =
      let m = shown d b w l in
      let h = caller_place k busy in
      let e : inbox_of m ≡ line_of places l (inbox_lines + d.running.0) = line_at d.last.0 d.running.0 b w l (inbox d.running.0) (omega arith) ∙ rw (inbox_line d.running.0) in
      first_ext_in (suits m n) (taken b n) (inbox_of m) (λ p i. ap (λ (t : Thread). wants n t.number) (thread_at d.last.0 d.running.0 b w l p (at_place p i)))
      ∙ ap (first_of (taken b n)) e ∙ sym f

  looked : receive n (shown d b w l) ≡ receive_from r n (shown d b w l)
  looked = ap (λ (p : ℕ). receive_from p n (shown d b w l)) search

  pub match_place : (r ≡ none → ⊥) → r < places
  match_place z =
      let m = shown d b w l in
      at_place r (subst (λ (p : ℕ). 1 ≤ count p (inbox_of m)) search (found_in (suits m n) (inbox_of m) (λ y. z (sym search ∙ y))))

  pub received : (r ≡ none → ⊥) → {b' w' l' : List ℕ} → Steps b w l b' w' l' (takes d.running.0 r) → Turns d b w l d b' w' l' (receive n)
  received z s =
      let t = stays {d = d} s in
      record { whole = t.whole; filled = refl; seen = t.seen ∙ sym (looked ∙ rw (ne_eqb r none z)) }

  pub receives : r ≡ none → {e : Desk} {b' w' : List ℕ} → Steps b w l b' w' l (changing d.running.0 (stands Receiving n 0)) → e ≡ running none d → Turns d b w l e b' w' l (receive n)
  receives z s y = turns (receive n) s y (sym (looked ∙ rw z))

-- ---- the event
module _ {d : Desk} {b w l : List ℕ} (k : Stands d b w l) (n : Number) {c : ℕ} (a : SourcesBy d b n c) where
  pub receive_not : (f : Refusal) → c ≡ refusal_code f → Did d b w l (Receive n) (answered (refusal_code f) d) b w l
  receive_not f z = refused k (Receive n) no_word (refusal_code f) (refused_not f) (sym (a w l k) ∙ z) refl refl

  module _ (z : c ≡ 0) where
    pub receive_busy : d.running.0 ≡ none → ⊥
    receive_busy = (accepted (Receive n) (shown d b w l) (sym (a w l k) ∙ z)).0

    pub receive_0 : {e : Desk} {b' w' l' : List ℕ} → Turns d b w l e b' w' l' (receive n.0) → {o : Outcome} → o ≡ answered 0 e → Did d b w l (Receive n) o b' w' l'
    receive_0 t = done k (Receive n) no_word (sym (a w l k) ∙ z) refl (λ p. refl) t
