-- Which number the search of the rules comes to, by what is used: one further up, one from 0 on where all further up are used, or none.
use Rattle.std.specs.Prelude.{◌≡◌, Bool, true, false}
use Rattle.std.proofs.Math.Path.{refl}
use Rattle.std.proofs.Common.{◌∙◌, lt-ltb, le-ltb}
use Prim.Native.Nat.{ℕ, zero, suc, ◌+◌, ◌-◌, ◌≤◌, ◌<◌}
use Rattle.std.proofs.Math.Decide.{dec_lt}
use native.Mathlib.Omega.{arith}
use Rattle.lists.specs.Laws.{never}
use Rattle.rules.specs.Values.{nobody}
use Rattle.rules.specs.Model.{last_number}
use Rattle.rules.specs.Rules.{successor, first_free}

-- of the numbers from n on all are used that are below m
abbrev pub AllUsed : (ℕ → Bool) → ℕ → ℕ → Type 0
AllUsed used n m = (i : ℕ) → n ≤ i → i < m → used i ≡ true

-- the successor of anything is a number, and that of one below the last is the next
next_low : (n : ℕ) → successor n ≤ last_number
next_low n = elim (dec_lt n last_number) [ yes h ↦ rw (lt-ltb n last_number h) (omega arith) | no h ↦ rw (le-ltb n last_number (omega arith)) (omega arith) ]

next_is : (n : ℕ) → n < last_number → successor n ≡ suc n
next_is n h = rw (lt-ltb n last_number h) (omega arith)

module _ (used : ℕ → Bool) where
  -- of the k after n, the d that come first are used, and r, which is next, is not
  climb : (d k n r : ℕ) → d < k → successor n + d ≡ r → r ≤ last_number → AllUsed used (successor n) r → used r ≡ false → first_free used k n ≡ r
  unfolding first_free
  climb d zero n r h e l p t = absurd (omega arith)
  climb zero (suc k) n r h e l p t = let z : successor n ≡ r = omega arith in rw (z, t)
  climb (suc d) (suc k) n r h e l p t =
      let z : successor (successor n) ≡ suc (successor n) = next_is (successor n) (omega arith) in
      rw (p (successor n) (omega arith) (omega arith)) (climb d k (successor n) r (omega arith) (omega arith) l (λ i a b. p i (omega arith) b) t)

  -- of the m after n, those up to the last number are used, and k are left
  top : (d k m n : ℕ) → m ≡ suc d + k → successor n + d ≡ last_number → AllUsed used (successor n) (suc last_number)
      → first_free used m n ≡ first_free used k last_number
  unfolding first_free
  top d k zero n h e p = absurd (omega arith)
  top zero k (suc m) n h e p =
      let z : successor n ≡ last_number = omega arith in
      let y : m ≡ k = omega arith in
      rw (p (successor n) (omega arith) (omega arith), z, y)
  top (suc d) k (suc m) n h e p =
      let z : successor (successor n) ≡ suc (successor n) = next_is (successor n) (omega arith) in
      rw (p (successor n) (omega arith) (omega arith)) (top d k m (successor n) (omega arith) (omega arith) (λ i a b. p i (omega arith) b))

  -- all of the k after n are used
  none_left : (k n : ℕ) → AllUsed used 0 (suc last_number) → first_free used k n ≡ nobody
  unfolding first_free
  none_left zero n p = refl
  none_left (suc k) n p = let l = next_low n in rw (p (successor n) (omega arith) (omega arith)) (none_left k (successor n) p)

  pub first_up : (n r : ℕ) → successor n ≤ r → r ≤ last_number → AllUsed used (successor n) r → used r ≡ false → first_free used (suc last_number) n ≡ r
  first_up n r g l p t = climb (r - successor n) (suc last_number) n r (omega arith) (omega arith) l p t

  pub first_round : (n r : ℕ) → AllUsed used (successor n) (suc last_number) → r ≤ last_number → AllUsed used 0 r → used r ≡ false
      → first_free used (suc last_number) n ≡ r
  first_round n r p l q t =
      let m = next_low n in
      let h : r < successor n = elim (dec_lt r (successor n)) [ yes a ↦ a | no a ↦ never (p r (omega arith) (omega arith)) t ] in
      top (last_number - successor n) (successor n) (suc last_number) n (omega arith) (omega arith) p
      ∙ climb r (successor n) last_number r h (omega arith) l (λ i a b. q i (omega arith) b) t

  pub first_none : (n : ℕ) → AllUsed used 0 (suc last_number) → first_free used (suc last_number) n ≡ nobody
  first_none n p = none_left (suc last_number) n p
