-- A word that a loop makes, place by place: the invariant is `w ≡ word_of k (upto i f)`. Assumes nothing.
use Rattle.std.specs.Prelude.{◌≡◌, refl, Bool, true, false, ◌&&◌, ℕ, suc, eqb, ltb}
use Rattle.std.proofs.Common.{sym, arith, eqb-true, lt-ltb, le-ltb, ltb-true, ltb-false}
use Rattle.std.proofs.lemmas.Bool.{eqb-false}
use Rattle.lists.specs.Laws.{by_test}
use Rattle.filled.specs.Filled.{word_of, including, upto}
use Rattle.filled.specs.Words.{word_ext, word_none}

-- ---- the part below i
pub upto_none : (k : ℕ) (f : ℕ → Bool) → word_of k (upto 0 f) ≡ 0
upto_none k f = word_none k (upto 0 f) (λ p h. rw (le-ltb p 0 (omega arith)))

pub upto_all : (k : ℕ) (f : ℕ → Bool) → word_of k (upto k f) ≡ word_of k f
upto_all k f = word_ext k (upto k f) f (λ p h. rw (lt-ltb p k h))

ltb_past : (p i : ℕ) → (p ≡ i → ⊥) → ltb p (suc i) ≡ ltb p i
ltb_past p i n =
    by_test (ltb p i)
    (λ t. let h = ltb-true p i t in rw (t, lt-ltb p (suc i) (omega arith)))
    (λ t. let h = ltb-false p i t in rw (t, le-ltb p (suc i) (omega arith)))

-- ---- one place more
module _ (k i : ℕ) (f : ℕ → Bool) where
  -- i is in the set, and put into the word
  pub upto_in : f i ≡ true → word_of k (including i (upto i f)) ≡ word_of k (upto (suc i) f)
  upto_in e =
      word_ext k (including i (upto i f)) (upto (suc i) f)
      (λ p h. by_test (eqb p i)
      (λ t. let z : p ≡ i = eqb-true p i t in let y : ltb p (suc i) ≡ true = lt-ltb p (suc i) (omega arith) in let x : f p ≡ true = rw z e in rw (t, y, x))
      (λ t. rw (t, ltb_past p i (eqb-false p i t))))

  -- i is not in the set, and the word stays
  pub upto_out : f i ≡ false → word_of k (upto i f) ≡ word_of k (upto (suc i) f)
  upto_out e =
      word_ext k (upto i f) (upto (suc i) f)
      (λ p h. by_test (eqb p i)
      (λ t. let z : p ≡ i = eqb-true p i t in let y : ltb p i ≡ false = le-ltb p i (omega arith) in let x : f p ≡ false = rw z e in rw (y, x) (sym (off (ltb p (suc i)))))
      (λ t. rw (ltb_past p i (eqb-false p i t))))
    where
      off : (b : Bool) → b && false ≡ false
      off true = refl
      off false = refl
