-- A loop that empties a line from the front, and does the same to each who stood there: tick, and the hand-backs of an end.
use Rattle.std.specs.Prelude.{◌≡◌, refl, List, [], ◌∷◌, Bool, true, false, ℕ, ◌<◌, length}
use Rattle.std.proofs.Common.{sym, ap, ◌∙◌, arith, get_or-set_same}
use Rattle.lists.specs.Lists.{rest, tab}
use Rattle.lists.specs.Lists as Lists
use Rattle.lists.specs.Laws.{never}
use Rattle.lists.specs.Tables.{length_tab}
use Rattle.lines.specs.Lines.{line_of, Popped}
use Rattle.rules.specs.Model.{places, line_count, Model, line}
use Rattle.rules.specs.Rules.{relined}
use Rattle.table.specs.Cells.{model_of, Whole}
use Rattle.table.specs.Rows.{line_at}
use Rattle.table.specs.declared.Arrays.{Arrays}
use Rattle.verbs.specs.Steps.{Steps, then}
use Rattle.verbs.specs.Verbs.{popped, nobody_there, somebody}

-- those of a list leave line q, front to back, and g is done to each
abbrev pub drained : (ℕ → Model → Model) → ℕ → List ℕ → Model → Model
drained g q [] m = m
drained g q (p ∷ ps) m = drained g q ps (g p (relined q ps m))

-- all of the line
abbrev pub drains : (ℕ → Model → Model) → ℕ → Model → Model
drains g q m = drained g q (line m q) m

-- p left line q, and ps are those behind
pub record One (g : ℕ → Model → Model) (q : ℕ) (b w l b' w' l' : List ℕ) (p : ℕ) (ps : List ℕ) : Type 0 where
  pub was : line_of places l q ≡ p ∷ ps
  pub left : line_of places l' q ≡ ps
  pub steps : Steps b w l b' w' l' (λ m. g p (relined q ps m))

-- the first of line q, if there was one
pub record First (g : ℕ → Model → Model) (q : ℕ) (b w l b' w' l' : List ℕ) (r : Bool) : Type 0 where
  pub some : r ≡ true → (p : ℕ) × (ps : List ℕ) × One g q b w l b' w' l' p ps
  pub none : r ≡ false → (line_of places l q ≡ []) × Steps b w l b' w' l' (λ m. m)

-- the same of the arrays as they are lent
abbrev pub FirstIn : (ℕ → Model → Model) → ℕ → Arrays → Arrays → Bool → Type 0
FirstIn g q a a' r = First g q a.table.blocks a.table.words a.lines a'.table.blocks a'.table.words a'.lines r

-- what g does to p leaves line q as it is
abbrev pub Spares : (ℕ → Model → Model) → ℕ → Type 0
Spares g q = (p : ℕ) (m : Model) → line (g p m) q ≡ line m q

module _ (g : ℕ → Model → Model) {q : ℕ} (h : q < line_count) {b w l l₁ : List ℕ} (k : Whole b w l) {r : ℕ} (t : Popped places line_count l l₁ q r) where
  pub first_none : r ≡ Lists.none → First g q b w l b w l₁ false
  first_none e =
      let n = nobody_there k h t e in
      record {
        some = λ y. never y refl;
        none = λ _. (n.empty, record { whole = (popped k h t).whole; seen = λ y x. rw n.same });
      }

  pub first_some : Spares g q → (r ≡ Lists.none → ⊥) → {b₂ w₂ l₂ : List ℕ} → Steps b w l₁ b₂ w₂ l₂ (g r) → First g q b w l b₂ w₂ l₂ true
  first_some spares n {b₂} {w₂} {l₂} s =
      let xs = rest (line_of places l q) in
      let u = then (popped k h t) s in
      let ls = tab line_count (line_of places l) in
      let v = length_tab line_count (line_of places l) in
      record {
        some = λ _. (
          r,
          xs,
          record {
            was = (somebody k h t n).line;
            left = sym (line_at 0 0 b₂ w₂ l₂ q h) ∙ ap (λ (m : Model). line m q) (u.seen 0 0) ∙ spares r (relined q xs (model_of 0 0 b w l)) ∙ get_or-set_same ls q xs [] (omega arith);
            steps = u;
          },
        );
        none = λ y. never refl y;
      }

-- ---- the loop

-- what is left to do
pub record Draining (g : ℕ → Model → Model) (q : ℕ) (b w l b' w' l' : List ℕ) : Type 0 where
  pub whole : Whole b' w' l'
  pub goes : (y x : ℕ) → drained g q (line_of places l q) (model_of y x b w l) ≡ drained g q (line_of places l' q) (model_of y x b' w' l')

abbrev pub DrainingIn : (ℕ → Model → Model) → ℕ → Arrays → Arrays → Type 0
DrainingIn g q a a' = Draining g q a.table.blocks a.table.words a.lines a'.table.blocks a'.table.words a'.lines

pub drain_start : {g : ℕ → Model → Model} {q : ℕ} {b w l : List ℕ} → Whole b w l → Draining g q b w l b w l
drain_start k = record { whole = k; goes = λ y x. refl }

module _ {g : ℕ → Model → Model} {q : ℕ} {b₀ w₀ l₀ b w l b' w' l' : List ℕ} (k : Draining g q b₀ w₀ l₀ b w l) {r : Bool} (s : First g q b w l b' w' l' r) where
  pub drain_again : r ≡ true → Draining g q b₀ w₀ l₀ b' w' l'
  drain_again h =
      let a = (s.some h).2 in
      record { whole = a.steps.whole; goes = λ y x. k.goes y x ∙ rw (a.was, a.left, a.steps.seen y x) }

  pub drain_less : r ≡ true → length (line_of places l' q) < length (line_of places l q)
  drain_less h = let a = (s.some h).2 in let e = ap length a.was in let f = ap length a.left in omega arith

  pub drain_end : q < line_count → r ≡ false → Steps b₀ w₀ l₀ b' w' l' (drains g q)
  drain_end i h =
      let a = s.none h in
      record {
        whole = a.1.whole;
        seen = λ y x. a.1.seen y x ∙ rw (line_at y x b₀ w₀ l₀ q i) (sym (k.goes y x ∙ ap (λ (ps : List ℕ). drained g q ps (model_of y x b w l)) a.0));
      }
