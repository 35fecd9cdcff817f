-- The words of a set, for any number of words and of digits: those of the same set, those of none, whose they are, and one number more. Assumes nothing.
use Rattle.std.specs.Prelude.{◌≡◌, refl, Bool, false, List, ℕ, ◌+◌, ◌*◌, ◌/◌, ◌%◌, ◌^◌, ◌<◌, eqb, length, get_or, set, replicate}
use Rattle.std.proofs.Common.{sym, ap, ◌∙◌, mod-eq_of_lt, arith, eq-eqb, ne_eqb, eqb-true}
use Rattle.std.proofs.Math.Nat.{mul-add-div, div-eq_of_lt, mul-add-mod_self_left}
use Rattle.std.proofs.lemmas.Bool.{eqb-false}
use Rattle.std.specs.Int.Bits.{bit_or}
use Rattle.lists.specs.Laws.{by_test}
use Rattle.lists.specs.Tables.{get_d_tab, tab_ext, tab_of, tab_all, tab_set}
use Rattle.rules.specs.Devices.{digit}
use Rattle.filled.specs.Filled.{word_of, including}
use Rattle.filled.specs.Words.{word_ext, word_none}
use Rattle.filled.specs.Bits.{word_with}
use Rattle.bits.specs.Set.{words_of}
use Rattle.bits.specs.Digits.{word_told}

pub words_ext : (k c : ℕ) (f g : ℕ → Bool) → ((n : ℕ) → f n ≡ g n) → words_of k c f ≡ words_of k c g
words_ext k c f g e = tab_ext c _ _ (λ j h. word_ext k _ _ (λ i l. e (k * j + i)))

pub words_none : (k c : ℕ) → words_of k c (λ _. false) ≡ replicate c 0
words_none k c = tab_ext c _ (λ _. 0) (λ j h. word_none k _ (λ i l. refl)) ∙ tab_all c 0

pub words_at : (k c j : ℕ) (f : ℕ → Bool) → j < c → get_or (words_of k c f) j 0 ≡ word_of k (λ i. f (k * j + i))
words_at k c j f h = get_d_tab c _ j 0 h

-- a number has one word, and one digit of it
own_word : (k j i : ℕ) → i < k → (k * j + i) / k ≡ j
own_word k j i h = mul-add-div (omega arith) j i ∙ omega (arith, div-eq_of_lt h)

own_digit : (k j i : ℕ) → i < k → (k * j + i) % k ≡ i
own_digit k j i h = mul-add-mod_self_left k j i ∙ mod-eq_of_lt h

-- whatever the words are, they are those of a set: so no contract over the sets that words stand for leaves any words out
pub words_told : (k c : ℕ) (s : List ℕ) → length s ≡ c → ((j : ℕ) → j < c → get_or s j 0 < 2 ^ k)
    → s ≡ words_of k c (λ n. digit (n % k) (get_or s (n / k) 0))
words_told k c s e b =
    sym (tab_of 0 c s e)
    ∙ tab_ext c _ _
    (λ j h. word_told k (get_or s j 0) (b j h)
    ∙ word_ext k (λ i. digit i (get_or s j 0)) (λ i. digit ((k * j + i) % k) (get_or s ((k * j + i) / k) 0)) (λ i l. rw (own_word k j i l, own_digit k j i l)))

-- ---- one number more: digit p of word j

module _ (k c j p : ℕ) (f : ℕ → Bool) (hp : p < k) (hj : j < c) where
  -- in word j it is digit p
  here : word_of k (λ i. including (k * j + p) f (k * j + i)) ≡ bit_or (get_or (words_of k c f) j 0) (2 ^ p)
  here =
      word_ext k _ (including p (λ i. f (k * j + i)))
      (λ i h. by_test (eqb i p)
      (λ t. let z : i ≡ p = eqb-true i p t in rw (t, eq-eqb (k * j + i) (k * j + p) (omega arith)))
      (λ t. let z = eqb-false i p t in rw (t, ne_eqb (k * j + i) (k * j + p) (λ e. z (omega arith)))))
      ∙ sym (ap (λ (x : ℕ). bit_or x (2 ^ p)) (words_at k c j f hj) ∙ word_with k p (λ i. f (k * j + i)) hp)

  -- in another word it is none
  there : (q : ℕ) → (q ≡ j → ⊥) → word_of k (λ i. including (k * j + p) f (k * q + i)) ≡ word_of k (λ i. f (k * q + i))
  there q n =
      word_ext k _ _
      (λ i h. rw (ne_eqb (k * q + i) (k * j + p) (λ e. n (sym (own_word k q i h) ∙ ap (λ (x : ℕ). x / k) e ∙ own_word k j p hp))))

  pub words_with : set (words_of k c f) j (bit_or (get_or (words_of k c f) j 0) (2 ^ p)) ≡ words_of k c (including (k * j + p) f)
  words_with = sym (tab_set 0 c _ _ j _ hj here (λ q h n. there q n))
