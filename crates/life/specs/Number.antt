-- The search for the number of a new thread: the first of the 254 after the last one given that is not barred.
use Rattle.std.specs.Prelude.{◌≡◌, List, Bool, true, not, ◌&&◌, ◌||◌, get_or}
use Rattle.std.proofs.Math.Path.{refl}
use Rattle.std.proofs.Math.Bool.{false, or-true}
use Prim.Native.Nat.{ℕ, zero, suc, ◌+◌, ◌≤◌, ◌<◌}
use Rattle.std.proofs.Common.{arith}
use borrow.Author.Tests.{ne_eqb}
use Rattle.std.proofs.Math.Dec.{eqb}
use Rattle.lists.specs.Lists.{none, first_of, up_from}
use Rattle.lists.specs.Laws.{by_test}
use Rattle.rules.specs.Model.{places, last_number, all_places, thread, lives_at}
use Rattle.rules.specs.Rules.{barred, successor, first_free, next_number}
use Rattle.table.specs.Cells.{cell, model_of, stands_at}
use Rattle.table.specs.Rows.{thread_at}

-- ---- what bars a number

-- does a thread at p have the number n, or an answer with n as its who
abbrev pub bars_at : List ℕ → ℕ → ℕ → Bool
bars_at b n p = stands_at b p && (eqb (get_or b (cell 0 p) 0) n || eqb (get_or b (cell 4 p) 0) n)

-- does one of the places p, p + 1, .., c of them. (No abbrev: c is a numeral.)
unfoldable pub bars_from : List ℕ → ℕ → ℕ → ℕ → Bool
bars_from b n p zero = false
bars_from b n p (suc c) = bars_at b n p || bars_from b n (suc p) c

-- of all places
abbrev pub bars : List ℕ → ℕ → Bool
bars b n = bars_from b n 0 places

-- the first after n that none bars
abbrev pub free_after : List ℕ → ℕ → ℕ
free_after b n = first_free (bars b) (suc last_number) n

-- ---- it is the rule's

-- a place is found by one test or by the other, of the c places from p on
module _ (b : List ℕ) (n : ℕ) (f g : ℕ → Bool) (e : (p : ℕ) → p < places → bars_at b n p ≡ f p || g p) where
  abbrev finds : (ℕ → Bool) → ℕ → ℕ → Bool
  finds t p c = not (eqb (first_of t (up_from p c)) none)

  either : (c p : ℕ) → p + c ≤ places → finds f p c || finds g p c ≡ bars_from b n p c
  unfolding bars_from
  either zero p i = refl
  either (suc c) p i =
      let ih = either c (suc p) (omega arith) in
      let here : eqb p none ≡ false = ne_eqb p none (omega arith) in
      by_test (f p)
      (λ t. rw (e p (omega arith), t, here))
      (λ t. by_test (g p)
      (λ u. rw (e p (omega arith), t, u, here) (or-true (finds f (suc p) c)))
      (λ u. rw (e p (omega arith), t, u) ih))

shared : (x y z : Bool) → x && (y || z) ≡ x && y || x && z
shared true y z = refl
shared false y z = refl

barred_is : (y x n : ℕ) (b w l : List ℕ) → barred (model_of y x b w l) n ≡ bars b n
unfolding all_places
barred_is y x n b w l =
    let m = model_of y x b w l in
    either b n (λ p. lives_at m p && eqb (thread m p).number n) (λ p. lives_at m p && eqb (thread m p).who n)
    (λ p h. rw (thread_at y x b w l p h) (shared (stands_at b p) (eqb (get_or b (cell 0 p) 0) n) (eqb (get_or b (cell 4 p) 0) n)))
    places 0 (omega arith)

free_ext : (f g : ℕ → Bool) → ((n : ℕ) → f n ≡ g n) → (k n : ℕ) → first_free f k n ≡ first_free g k n
unfolding first_free
free_ext f g e zero n = refl
free_ext f g e (suc k) n = rw (e (successor n), free_ext f g e k (successor n))

pub number_is : (y x : ℕ) (b w l : List ℕ) → next_number (model_of y x b w l) ≡ free_after b y
number_is y x b w l = free_ext (barred (model_of y x b w l)) (bars b) (λ n. barred_is y x n b w l) (suc last_number) y
