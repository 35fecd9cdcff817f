-- The verbs of the code are those of the rules: wake, and dispatch by its three ways. And what a pop leaves.
use Rattle.std.specs.Prelude.{◌≡◌, refl, List, [], ◌∷◌, ℕ, ◌<◌, length}
use Rattle.std.proofs.Common.{ap, ◌∙◌, arith, eq-eqb, ne_eqb}
use Rattle.lists.specs.Lists.{none, front, rest}
use Rattle.lists.specs.Tables.{length_tab}
use Rattle.lines.specs.Lines.{line_of, Popped}
use Rattle.lines.specs.Callers.{Nobody, Somebody, pop_none, pop_some}
use Rattle.rules.specs.Values.{nobody}
use Rattle.rules.specs.Model.{places, line_count, Running, Ready, ready}
use Rattle.rules.specs.Rules.{stands, told, join, relined, readied, woken, starts, dispatched}
use Rattle.table.specs.Cells.{thread_of, model_of, Whole, running}
use Rattle.table.specs.Rows.{line_at}
use Rattle.table.specs.Stores.{Stood}
use Rattle.table.specs.declared.Desk.{Desk}
use Rattle.verbs.specs.Steps.{Steps, Turns, changing, then, turns, stood, turned, twice}

-- ---- wake

pub woke : {b w l b₁ w₁ b₂ w₂ l₂ : List ℕ} {p co n x : ℕ} → Whole b w l → p < places → Steps b w l b₁ w₁ l (changing p (told co n x)) → Steps b₁ w₁ l b₂ w₂ l₂ (readied p) → Steps b w l b₂ w₂ l₂ (woken p co n x)
woke {b} {w} {l} {p = p} {co} {n} {x} k h s t = record {
  whole = t.whole;
  seen = λ y z.
      let v = length_tab places (thread_of b w) in
      (then s t).seen y z ∙ ap (join ready p) (twice (told co n x) (stands Ready nobody 0) (model_of y z b w l) p (omega arith));
}

-- ---- a pop

module _ {b w l l' : List ℕ} (k : Whole b w l) {q r : ℕ} (h : q < line_count) (t : Popped places line_count l l' q r) where
  pub popped : Steps b w l b w l' (relined q (rest (line_of places l q)))
  popped = turned k h t.turned

  pub nobody_there : r ≡ none → Nobody places l l' q
  nobody_there e = pop_none k.lines t h (omega arith) e

  pub somebody : (r ≡ none → ⊥) → Somebody places line_count l l' q r
  somebody n = pop_some k.lines t h (omega arith) n

-- ---- dispatch

module _ {b w l : List ℕ} (k : Whole b w l) (d : Desk) where
  -- somebody runs
  pub dispatch_busy : (d.running.0 ≡ none → ⊥) → Turns d b w l d b w l dispatched
  dispatch_busy n = record { whole = k; filled = refl; seen = rw (ne_eqb d.running.0 none n) }

  module _ (idle : d.running.0 ≡ none) {l' : List ℕ} {r : ℕ} (t : Popped places line_count l l' ready r) where
    -- nobody runs, and nobody is ready
    pub dispatch_none : r ≡ none → Turns d b w l d b w l' dispatched
    dispatch_none e =
        let n = nobody_there k (omega arith) t e in
        record {
          whole = (popped k (omega arith) t).whole;
          filled = refl;
          seen = rw (n.same, eq-eqb d.running.0 none idle, line_at d.last.0 d.running.0 b w l ready (omega arith), n.empty);
        }

    -- the front of ready runs
    pub dispatch_some : (r ≡ none → ⊥) → {e : Desk} {b' w' : List ℕ} → Stood b w r Running nobody 0 b' w' → e ≡ running r d → Turns d b w l e b' w' l' dispatched
    dispatch_some n s z =
        let f = somebody k (omega arith) t n in
        let u = popped k (omega arith) t in
        turns dispatched (then u (stood u.whole f.place s)) z
        (rw (eq-eqb d.running.0 none idle, line_at d.last.0 d.running.0 b w l ready (omega arith)) (front_starts (line_of places l ready) f.line ∙ rw idle))
      where
        front_starts : (xs : List ℕ) → xs ≡ r ∷ rest xs → changing r (stands Running nobody 0) (relined ready (rest xs) (model_of d.last.0 r b w l)) ≡ starts xs (model_of d.last.0 none b w l)
        front_starts [] e = absurd (let z = ap length e in omega arith)
        front_starts (p ∷ ps) e = rw (ap front e)
