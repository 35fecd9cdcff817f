-- What one end keeps, a family's end keeps: it is a chain of ends of one thread each (`OneByOne`).
use Rattle.std.specs.Prelude.{◌≡◌, ◌≢◌, List, [], ◌∷◌, Bool, true, ℕ}
use Rattle.std.proofs.Common.{sym, ap, ◌∙◌}
use Rattle.lists.specs.Laws.{never}
use Rattle.kin.specs.Family.{EndLaws}
use Rattle.kin.specs.Family

module _ {M : Type 0} (Good : M → Type 0) (lives : M → ℕ → Bool) (above : M → ℕ → ℕ) (one : ℕ → M → M)
    (n : ℕ) (all : List ℕ) (child : M → ℕ → ℕ → Bool) (E : EndLaws Good lives above one n all child) where
  abbrev OneByOne : List ℕ → M → M → Type 0
  OneByOne = Family.OneByOne Good lives above one

  -- whatever an end leaves true of every other thread, and goes on being true from one end to the next, is true of whoever lives after all of them
  pub carried : (Still : M → M → ℕ → Type 0) → ((m : M) (r : ℕ) → Still m m r) → ((a b c : M) (r : ℕ) → Still a b r → Still b c r → Still a c r)
      → ((m : M) → Good m → (p : ℕ) → lives m p ≡ true → (r : ℕ) → r ≢ p → lives m r ≡ true → Still m (one p m) r)
      → (l : List ℕ) (m k : M) → Good m → OneByOne l m k → (r : ℕ) → lives k r ≡ true → (lives m r ≡ true) × Still m k r
  carried Still self then one-still [] m k G e r h = rw e (rw e at h, self m r)
  carried Still self then one-still (q ∷ l) m k G t r h =
      let w = carried Still self then one-still l (one q m) k (E.good m G q t.0) t.1 r h in
      let n : r ≢ q = λ z. never w.0 (ap (lives (one q m)) z ∙ E.out m G q t.0) in
      let g = sym (E.others m G q t.0 r n) ∙ w.0 in
      (g, then m (one q m) k r (one-still m G q t.0 r n g) w.1)

  -- and the same of the nucleus as a whole
  pub chained : (Rel : M → M → Type 0) → ((m : M) → Good m → Rel m m) → ((a b c : M) → Good a → Good b → Good c → Rel a b → Rel b c → Rel a c)
      → ((m : M) → Good m → (p : ℕ) → lives m p ≡ true → Rel m (one p m)) → (l : List ℕ) (m k : M) → Good m → OneByOne l m k → Good k × Rel m k
  chained Rel self then one-rel [] m k G e = rw e (G, self m G)
  chained Rel self then one-rel (q ∷ l) m k G t =
      let G' = E.good m G q t.0 in
      let w = chained Rel self then one-rel l (one q m) k G' t.1 in
      (w.0, then m (one q m) k G G' w.0 (one-rel m G q t.0) w.1)
