-- The choice, read off the arrays.
use Rattle.std.specs.Prelude.{◌≡◌, refl, List, [], ◌∷◌, Bool, false, not, ℕ, suc, ◌+◌, ◌≤◌, ◌<◌, eqb, get_or}
use Rattle.std.proofs.Common.{sym, ap, ◌∙◌, arith, eq-eqb, ne_eqb, eqb-true}
use Rattle.std.proofs.Math.Bool.{true}
use Rattle.std.proofs.Math.Decide.{dec_lt}
use Rattle.std.proofs.lemmas.Bool.{eqb-false}
use Rattle.lists.specs.Lists.{none, among, front, first_of, tally}
use Rattle.lists.specs.Laws.{by_test, never, not_head}
use Rattle.lists.specs.Search.{found_from, found_no}
use Rattle.lists.specs.Tables.{tally_ext}
use Rattle.lines.specs.Lines.{line_of, Tidy}
use Rattle.lines.specs.Along.{no_place}
use Rattle.rules.specs.Model.{places, devices, queue_count, line_count, Thread, lives_at, live, clock, line}
use Rattle.rules.specs.Rules.{is_nil, mine, outside, waited, choice}
use Rattle.rules.specs.declared.Choice.TheVariants.{Run, Halt, Wait, Stuck}
use Rattle.table.specs.Cells.{cell, shown, stands_at, Filled, Stands}
use Rattle.table.specs.Rows.{thread_at, thread_past, line_at, line_past}
use Rattle.table.specs.declared.Desk.{Desk}

-- a line is empty exactly if nobody is in front
pub nil_front : (xs : List ℕ) → among none xs ≡ false → eqb (front xs) none ≡ is_nil xs
nil_front [] h = refl
nil_front (x ∷ xs) h = ne_eqb x none (not_head none x xs h)

-- ---- somebody waits outside: a line from the clock's to the last device's has a front
module _ {l : List ℕ} (t : Tidy places line_count l) where
  module _ (d : Desk) (b w : List ℕ) where
    abbrev filled : ℕ → Bool
    filled q = not (is_nil (line (shown d b w l) q))

    has : (q : ℕ) → q < queue_count → filled q ≡ not (eqb (front (line_of places l q)) none)
    has q h =
        rw (line_at d.last.0 d.running.0 b w l q (omega arith), nil_front (line_of places l q) (no_place t (omega arith) none q (omega arith) (omega arith)))

    pub waits_yes : (q : ℕ) → clock ≤ q → q < queue_count → (front (line_of places l q) ≡ none → ⊥) → true ≡ waited (shown d b w l)
    unfolding outside
    waits_yes q h g n =
        let f : filled q ≡ true = has q g ∙ rw (ne_eqb _ none n) in
        let e : filled (first_of filled outside) ≡ true = found_from filled (suc devices) clock q h (omega arith) f in
        let k : first_of filled outside ≡ none → ⊥ = λ z. never (rw z at e) (rw (line_past d.last.0 d.running.0 b w l none (omega arith))) in
        rw (ne_eqb _ none k)

    pub waits_no : ((q : ℕ) → clock ≤ q → q < queue_count → front (line_of places l q) ≡ none) → false ≡ waited (shown d b w l)
    unfolding outside
    waits_no o =
        let e : first_of filled outside ≡ none = found_no filled (suc devices) clock (λ q h g. has q (omega arith) ∙ rw (o q h (omega arith))) in
        rw e

-- the lines from the clock's up to q have none
pub record NoneUpTo (l : List ℕ) (q : ℕ) : Type 0 where
  pub from : clock ≤ q
  pub upto : q ≤ queue_count
  pub empty : (r : ℕ) → clock ≤ r → r < q → front (line_of places l r) ≡ none

pub none_more : {l : List ℕ} {q x : ℕ} → NoneUpTo l q → q < queue_count → x ≡ front (line_of places l q) → x ≡ none → NoneUpTo l (q + 1)
none_more {l} {q} k h e z = record {
  from = let a = k.from in omega arith;
  upto = omega arith;
  empty = λ r a b. by_test (eqb r q) (λ t. rw (eqb-true r q t) (sym e ∙ z)) (λ t. let n = eqb-false r q t in k.empty r a (omega arith));
}

-- what a look at the desk and the arrays asks for
pub record Legible (d : Desk) (b l : List ℕ) : Type 0 where
  pub lines : Tidy places line_count l
  pub filled : Filled d.filled b
  pub seat : (d.running.0 ≡ none → ⊥) → d.running.0 < places

pub legible : {d : Desk} {b w l : List ℕ} → Stands d b w l → Legible d b l
legible {d} {b} {w} {l} s = record {
  lines = s.whole.lines;
  filled = s.filled;
  seat = λ k. elim (dec_lt d.running.0 places) [
    | yes h ↦ h
    | no h ↦
        let e : ◌≡◌ {A = ℕ} 0 1 = sym (ap (λ (t : Thread). t.standing) (thread_past d.last.0 d.running.0 b w l d.running.0 (omega arith))) ∙ s.consistent.old.busy k in
        absurd (omega arith)
  ];
}

module _ (d : Desk) (b w l : List ℕ) where
  -- The live count is its ones
  pub live_is : live (shown d b w l) ≡ tally places (stands_at b)
  live_is = tally_ext places (lives_at (shown d b w l)) (stands_at b) (λ p h. rw (thread_at d.last.0 d.running.0 b w l p h))

  pub choose_run : (d.running.0 ≡ none → ⊥) → d.running.0 < places → Run (record { 0 = get_or b (cell 0 d.running.0) 0 }) ≡ choice (shown d b w l)
  choose_run k h =
      let e : Run (record { 0 = get_or b (cell 0 d.running.0) 0 }) ≡ Run (record { 0 = mine (shown d b w l) }) = ap (λ (t : Thread). Run (record { 0 = t.number })) (sym (thread_at d.last.0 d.running.0 b w l d.running.0 h)) in
      rw (ne_eqb d.running.0 none k) e

  module _ (z : d.running.0 ≡ none) (n : ℕ) (e : n ≡ tally places (stands_at b)) where
    pub choose_halt : n ≡ 0 → Halt ≡ choice (shown d b w l)
    choose_halt h = rw (eq-eqb d.running.0 none z, live_is, ← e, h)

    module _ (k : n ≡ 0 → ⊥) (r : Bool) (f : r ≡ waited (shown d b w l)) where
      pub choose_wait : r ≡ true → Wait ≡ choice (shown d b w l)
      choose_wait h = rw (eq-eqb d.running.0 none z, live_is, ← e, ne_eqb n 0 k, ← f, h)

      pub choose_stuck : r ≡ false → Stuck ≡ choice (shown d b w l)
      choose_stuck h = rw (eq-eqb d.running.0 none z, live_is, ← e, ne_eqb n 0 k, ← f, h)
