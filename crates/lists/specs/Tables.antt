-- Tables, a value for each number below n, and tallies, of how many of them a test holds. Assumes nothing.
use Rattle.std.specs.Prelude.{◌≡◌, refl, ◌≢◌, List, ◌∷◌, Bool, true, false, ℕ, zero, suc, ◌+◌, ◌≤◌, ◌<◌, eqb, length, get_or, set, replicate}
use Rattle.std.proofs.Common.{sym, ap, ap₂, ◌∙◌, arith, eqb-true, length-set, get_or-set_same, get_or-set_other, ext_get_or}
use Rattle.std.proofs.lemmas.Bool.{eqb-false}
use Rattle.std.proofs.Math.ListN.{get_or-eq_default}
use Rattle.lists.specs.Lists.{bit, tab, tally}
use Rattle.lists.specs.Laws.{by_test}

-- ---- tables
pub length_tab {ℓ} : {A : Type ℓ} (n : ℕ) (f : ℕ → A) → length (tab n f) ≡ n
unfolding tab
length_tab zero f = refl
length_tab (suc n) f = ap (λ (k : ℕ). suc k) (length_tab n (λ k. f (suc k)))

pub get_d_tab {ℓ} : {A : Type ℓ} (n : ℕ) (f : ℕ → A) (i : ℕ) (d : A) → i < n → get_or (tab n f) i d ≡ f i
unfolding tab
get_d_tab zero f i d h = absurd (omega arith)
get_d_tab (suc n) f zero d h = refl
get_d_tab (suc n) f (suc i) d h = get_d_tab n (λ k. f (suc k)) i d (omega arith)

-- past its end there is nothing
pub tab_past {ℓ} : {A : Type ℓ} (n : ℕ) (f : ℕ → A) (i : ℕ) (d : A) → n ≤ i → get_or (tab n f) i d ≡ d
tab_past n f i d h = let v = length_tab n f in get_or-eq_default (tab n f) d {n = i} (omega arith)

-- a table is what it holds
pub tab_ext : {A : Type 0} (n : ℕ) (f g : ℕ → A) → ((i : ℕ) → i < n → f i ≡ g i) → tab n f ≡ tab n g
unfolding tab
tab_ext zero f g e = refl
tab_ext (suc n) f g e = ap₂ (λ (x : _) (xs : List _). x ∷ xs) (e 0 (omega arith)) (tab_ext n (λ k. f (suc k)) (λ k. g (suc k)) (λ i h. e (suc i) (omega arith)))

pub tab_same : {A : Type 0} (d : A) (n : ℕ) (f g : ℕ → A) → tab n f ≡ tab n g → (i : ℕ) → i < n → f i ≡ g i
tab_same d n f g e i h = sym (get_d_tab n f i d h) ∙ ap (λ (xs : List _). get_or xs i d) e ∙ get_d_tab n g i d h

-- a list is the table of its elements
pub tab_of : {A : Type 0} (d : A) (n : ℕ) (xs : List A) → length xs ≡ n → tab n (λ i. get_or xs i d) ≡ xs
tab_of d n xs e =
    let v = length_tab n (λ i. get_or xs i d) in
    ext_get_or d (tab n (λ i. get_or xs i d)) xs (v ∙ sym e) (λ i h. get_d_tab n (λ i. get_or xs i d) i d (omega arith))

-- and where all of them are one, a list of that
pub tab_all : {A : Type 0} (n : ℕ) (a : A) → tab n (λ _. a) ≡ replicate n a
unfolding tab
tab_all zero a = refl
tab_all {A = A} (suc n) a = ap (λ (l : List A). a ∷ l) (tab_all n a)

pub all_same : {A : Type 0} (n i : ℕ) (a : A) → get_or (replicate n a) i a ≡ a
all_same zero i a = refl
all_same (suc n) zero a = refl
all_same (suc n) (suc i) a = all_same n i a

-- a table of which one entry is another
pub tab_set : {A : Type 0} (d : A) (n : ℕ) (f g : ℕ → A) (p : ℕ) (t : A) → p < n → g p ≡ t → ((r : ℕ) → r < n → (r ≡ p → ⊥) → g r ≡ f r) → tab n g ≡ set (tab n f) p t
tab_set d n f g p t b e o =
    let v = length_tab n f in
    let w = length_tab n g in
    ext_get_or d (tab n g) (set (tab n f) p t) (w ∙ sym (length-set (tab n f) p t ∙ v))
    (λ i h.
    let hi : i < n = omega arith in
    get_d_tab n g i d hi ∙ by_test (eqb i p)
    (λ y. let z : i ≡ p = eqb-true i p y in rw z (e ∙ sym (get_or-set_same (tab n f) p t d (omega arith))))
    (λ y. let z = eqb-false i p y in o i hi z ∙ sym (get_or-set_other (tab n f) p i t d z ∙ get_d_tab n f i d hi)))

-- ---- tallies
pub bit_low : (b : Bool) → bit b ≤ 1
bit_low true = omega arith
bit_low false = omega arith

pub bit_same : (a b : Bool) → bit a ≡ bit b → a ≡ b
bit_same true true e = refl
bit_same true false e = absurd (omega arith)
bit_same false true e = absurd (omega arith)
bit_same false false e = refl

pub tally_ext : (n : ℕ) (f g : ℕ → Bool) → ((i : ℕ) → i < n → f i ≡ g i) → tally n f ≡ tally n g
unfolding tally
tally_ext zero f g e = refl
tally_ext (suc n) f g e = ap₂ (λ (a b : ℕ). a + b) (ap bit (e 0 (omega arith))) (tally_ext n (λ k. f (suc k)) (λ k. g (suc k)) (λ i h. e (suc i) (omega arith)))

-- one of them changes its answer
pub tally_set : (n : ℕ) (f g : ℕ → Bool) (p : ℕ) → p < n → ((r : ℕ) → r < n → r ≢ p → g r ≡ f r) → tally n g + bit (f p) ≡ tally n f + bit (g p)
unfolding tally
tally_set zero f g p h o = absurd (omega arith)
tally_set (suc n) f g zero h o =
    let e : tally n (λ k. g (suc k)) ≡ tally n (λ k. f (suc k)) = tally_ext n (λ k. g (suc k)) (λ k. f (suc k)) (λ i b. o (suc i) (omega arith) (omega arith)) in
    omega arith
tally_set (suc n) f g (suc p) h o =
    let i = tally_set n (λ k. f (suc k)) (λ k. g (suc k)) p (omega arith) (λ r b m. o (suc r) (omega arith) (omega arith)) in
    let e : bit (g zero) ≡ bit (f zero) = ap bit (o zero (omega arith) (omega arith)) in
    omega arith

-- where none is counted, none is one
pub tally_none : (n : ℕ) (f : ℕ → Bool) → tally n f ≡ 0 → (p : ℕ) → p < n → f p ≡ false
unfolding tally
tally_none zero f e p h = absurd (omega arith)
tally_none (suc n) f e zero h = by_test (f zero) (λ t. let b = ap bit t in absurd (omega arith)) (λ t. t)
tally_none (suc n) f e (suc p) h = tally_none n (λ k. f (suc k)) (omega arith) p (omega arith)

-- all of them
pub tally_full : (n : ℕ) (f : ℕ → Bool) → ((p : ℕ) → p < n → f p ≡ true) → tally n f ≡ n
unfolding tally
tally_full zero f h = refl
tally_full (suc n) f h = rw (h 0 (omega arith), tally_full n (λ k. f (suc k)) (λ p i. h _ (omega arith))) (omega arith)
