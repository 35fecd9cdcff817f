-- What comes into the code's set: nothing, one number, and what comes in one after another. Assumes nothing.
use Rattle.std.specs.Prelude.{◌≡◌, Bool, false, ◌||◌, List, ℕ, ◌+◌, ◌*◌, ◌/◌, ◌%◌, ◌^◌, ◌<◌, eqb, get_or, set}
use Rattle.std.proofs.Common.{sym, ap, ◌∙◌, arith, eq-eqb, ne_eqb, eqb-true}
use Rattle.std.proofs.Math.Bool.{or-true, or-false, or_assoc}
use Rattle.std.proofs.lemmas.Bool.{eqb-false}
use Rattle.std.specs.Int.Bits.{bit_or}
use Rattle.lists.specs.Laws.{by_test}
use Rattle.filled.specs.Filled.{including}
use Rattle.filled.specs.Bits.{shl_one}
use Rattle.bits.specs.Set.{word_digits, word_count, set_of, Adds}
use Rattle.bits.specs.Words.{words_ext, words_with}

set_ext : {s : List ℕ} (f g : ℕ → Bool) → ((n : ℕ) → f n ≡ g n) → s ≡ set_of f → s ≡ set_of g
set_ext f g e t = t ∙ words_ext word_digits word_count f g e

set_with : (n : ℕ) (f : ℕ → Bool) (s : List ℕ) → n < word_digits * word_count → s ≡ set_of f
    → set s (n / word_digits) (bit_or (get_or s (n / word_digits) 0) ((1 * 2 ^ (n % word_digits)) % 2 ^ word_digits)) ≡ set_of (including n f)
set_with n f s h e =
    let z : word_digits * (n / word_digits) + n % word_digits ≡ n = omega arith in
    rw (e, shl_one word_digits (n % word_digits) (omega arith))
    (words_with word_digits word_count (n / word_digits) (n % word_digits) f (omega arith) (omega arith) ∙ ap (λ (m : ℕ). set_of (including m f)) z)

also : (f : ℕ → Bool) (n m : ℕ) → including n f m ≡ f m || eqb n m
also f n m =
    by_test (eqb m n)
    (λ t. rw (t, eq-eqb n m (sym (eqb-true m n t))) (sym (or-true (f m))))
    (λ t. rw (t, ne_eqb n m (λ e. eqb-false m n t (sym e))) (sym (or-false (f m))))

module _ {s : List ℕ} where
  pub adds_none : Adds s (λ _. false) s
  adds_none = record { adds = λ f. set_ext f (λ n. f n || false) (λ n. sym (or-false (f n))) }

  pub adds_one : (n : ℕ) → n < word_digits * word_count
      → Adds s (eqb n) (set s (n / word_digits) (bit_or (get_or s (n / word_digits) 0) ((1 * 2 ^ (n % word_digits)) % 2 ^ word_digits)))
  adds_one n h = record { adds = λ f e. set_ext (including n f) (λ m. f m || eqb n m) (also f n) (set_with n f s h e) }

  pub adds_both : {t u : ℕ → Bool} {s' s'' : List ℕ} → Adds s t s' → Adds s' u s'' → Adds s (λ n. t n || u n) s''
  adds_both {t = t} {u = u} a b = record {
    adds = λ f e.
        set_ext (λ n. f n || t n || u n) (λ n. f n || (t n || u n)) (λ n. or_assoc (f n) (t n) (u n)) (b.adds (λ n. f n || t n) (a.adds f e));
  }

  pub adds_ext : {t : ℕ → Bool} (u : ℕ → Bool) {s' : List ℕ} → ((n : ℕ) → t n ≡ u n) → Adds s t s' → Adds s u s'
  adds_ext {t = t} u e a = record {
    adds = λ f z. set_ext (λ n. f n || t n) (λ n. f n || u n) (λ n. ap (λ (x : Bool). f n || x) (e n)) (a.adds f z);
  }
