-- Laws on tests, and on who stands in a list. Assumes nothing.
use Rattle.std.specs.Prelude.{◌≡◌, refl, List, [], ◌∷◌, ◌++◌, Bool, true, false, cond, ◌&&◌, ◌⊎◌, ℕ, zero, suc, ◌<◌, eqb, length, get_or}
use Rattle.std.proofs.Common.{sym, ap, ap₂, ◌∙◌, inl, inr, ⊎_elim, arith, eq-eqb, ne_eqb, eqb-true}
use Rattle.std.proofs.lemmas.Bool.{false≢true, eqb-false}
use Rattle.lists.specs.Lists.{none, among, Distinct, front, rest}

-- ---- tests
-- a goal by the two answers of a test
pub by_test : {G : Type 0} (b : Bool) → (b ≡ true → G) → (b ≡ false → G) → G
by_test true f g = f refl
by_test false f g = g refl

-- a test has one answer
pub never : {G : Type 0} {b : Bool} → b ≡ true → b ≡ false → G
never h g = absurd (false≢true (sym g ∙ h))

pub and_left : (a b : Bool) → a && b ≡ true → a ≡ true
and_left true b e = refl
and_left false b e = e

pub and_right : (a b : Bool) → a && b ≡ true → b ≡ true
and_right true b e = e
and_right false b e = never e refl

pub and_both : (a b : Bool) → a ≡ true → b ≡ true → a && b ≡ true
and_both a b e f = rw (e, f)

-- one of the first n has it, or none
pub find : (b : ℕ → Bool) (n : ℕ) → ((q : ℕ) × (q < n) × (b q ≡ true)) ⊎ ((q : ℕ) → q < n → b q ≡ false)
find b zero = inr (λ q h. absurd (omega arith))
find b (suc n) =
    let ih = find b n in
    by_test (b n)
    (λ h. inl (n, omega arith, h))
    (λ h. ⊎_elim (λ w. inl (w.0, omega (arith, w.1), w.2)) (λ w. inr (λ q g. by_test (eqb q n) (λ t. let u : q ≡ n = eqb-true q n t in rw u h) (λ t. let u = eqb-false q n t in w q (omega arith)))) ih)

-- ---- who stands in a list: `not-..` of who does not, `is-..` of who does
pub not_head : (i x : ℕ) (xs : List ℕ) → among i (x ∷ xs) ≡ false → x ≡ i → ⊥
not_head i x xs h e = never (rw (eq-eqb x i e)) h

pub not_tail : (i x : ℕ) (xs : List ℕ) → among i (x ∷ xs) ≡ false → among i xs ≡ false
not_tail i x xs h = rw (ne_eqb x i (not_head i x xs h)) at h

pub not_cons : (i x : ℕ) (xs : List ℕ) → (x ≡ i → ⊥) → among i xs ≡ false → among i (x ∷ xs) ≡ false
not_cons i x xs h g = rw (ne_eqb x i h) g

pub not_append : (i : ℕ) (xs ys : List ℕ) → among i xs ≡ false → among i ys ≡ false → among i (xs ++ ys) ≡ false
not_append i [] ys h g = g
not_append i (x ∷ xs) ys h g = not_cons i x (xs ++ ys) (not_head i x xs h) (not_append i xs ys (not_tail i x xs h) g)

pub not_left : (i : ℕ) (xs ys : List ℕ) → among i (xs ++ ys) ≡ false → among i xs ≡ false
not_left i [] ys h = refl
not_left i (x ∷ xs) ys h = not_cons i x xs (not_head i x (xs ++ ys) h) (not_left i xs ys (not_tail i x (xs ++ ys) h))

pub not_right : (i : ℕ) (xs ys : List ℕ) → among i (xs ++ ys) ≡ false → among i ys ≡ false
not_right i [] ys h = h
not_right i (x ∷ xs) ys h = not_right i xs ys (not_tail i x (xs ++ ys) h)

pub is_head : (i x : ℕ) (xs : List ℕ) → x ≡ i → among i (x ∷ xs) ≡ true
is_head i x xs e = rw (eq-eqb x i e)

pub is_tail : (i x : ℕ) (xs : List ℕ) → among i xs ≡ true → among i (x ∷ xs) ≡ true
is_tail i x xs h = by_test (eqb x i) (λ e. rw e) (λ e. rw e h)

pub is_left : (i : ℕ) (xs ys : List ℕ) → among i xs ≡ true → among i (xs ++ ys) ≡ true
is_left i xs ys h = by_test (among i (xs ++ ys)) (λ t. t) (λ t. never h (not_left i xs ys t))

pub is_right : (i : ℕ) (xs ys : List ℕ) → among i ys ≡ true → among i (xs ++ ys) ≡ true
is_right i xs ys h = by_test (among i (xs ++ ys)) (λ t. t) (λ t. never h (not_right i xs ys t))

-- one more at the back
pub among_last : (r p : ℕ) (qs : List ℕ) → among r (qs ++ (p ∷ [])) ≡ cond (eqb p r) true (among r qs)
among_last r p [] = refl
among_last r p (q ∷ qs) =
    let ih = among_last r p qs in
    by_test (eqb q r)
    (λ e. rw e (by_test (eqb p r) (λ t. rw t) (λ t. rw t)))
    (λ e. rw e ih)

-- who stands in a list stands somewhere in it
pub among_at : (p : ℕ) (xs : List ℕ) → among p xs ≡ true → (i : ℕ) × (i < length xs) × (get_or xs i 0 ≡ p)
among_at p [] h = never h refl
among_at p (x ∷ xs) h =
    let ih = among_at p xs in
    by_test (eqb x p)
    (λ e. (zero, omega arith, eqb-true x p e))
    (λ e. let w = ih (rw e at h) in (suc w.0, omega (arith, w.1), w.2))

-- ---- lists in which nobody stands twice
pub distinct_fore : (p : ℕ) (xs ys : List ℕ) → Distinct (xs ++ (p ∷ ys)) → among p xs ≡ false
distinct_fore p [] ys d = refl
distinct_fore p (x ∷ xs) ys d =
    not_cons p x xs (λ e. not_head x p ys (not_right x xs (p ∷ ys) d.0) (sym e)) (distinct_fore p xs ys d.1)

pub distinct_aft : (p : ℕ) (xs ys : List ℕ) → Distinct (xs ++ (p ∷ ys)) → among p ys ≡ false
distinct_aft p [] ys d = d.0
distinct_aft p (x ∷ xs) ys d = distinct_aft p xs ys d.1

-- who stands in a list once has one list in front of it
pub fore_one : (p : ℕ) (xs ys us vs : List ℕ) → among p xs ≡ false → among p ys ≡ false → xs ++ (p ∷ us) ≡ ys ++ (p ∷ vs) → xs ≡ ys
fore_one p [] [] us vs h g e = refl
fore_one p [] (y ∷ ys) us vs h g e = absurd (not_head p y ys g (sym (ap front e)))
fore_one p (x ∷ xs) [] us vs h g e = absurd (not_head p x xs h (ap front e))
fore_one p (x ∷ xs) (y ∷ ys) us vs h g e = ap₂ ◌∷◌ (ap front e) (fore_one p xs ys us vs (not_tail p x xs h) (not_tail p y ys g) (ap rest e))

-- ---- the first
-- of a list in which there is one
pub front_some : (xs : List ℕ) → (front xs ≡ none → ⊥) → xs ≡ front xs ∷ rest xs
front_some [] n = absurd (n refl)
front_some (x ∷ xs) n = refl

pub front_among : (xs : List ℕ) → (front xs ≡ none → ⊥) → among (front xs) xs ≡ true
front_among [] n = absurd (n refl)
front_among (x ∷ xs) n = is_head x x xs refl

-- where none is no place, none in front means that nobody is there
pub front_none : (xs : List ℕ) → among none xs ≡ false → front xs ≡ none → xs ≡ []
front_none [] h e = refl
front_none (x ∷ xs) h e = absurd (not_head none x xs h e)

-- who does not stand there is not the first
pub front_not : (i : ℕ) (xs : List ℕ) → among i xs ≡ false → (i ≡ none → ⊥) → i ≡ front xs → ⊥
front_not i [] h n e = n e
front_not i (x ∷ xs) h n e = not_head i x xs h (sym e)

-- the first does not stand there again
pub front_once : (xs : List ℕ) → Distinct xs → (front xs ≡ none → ⊥) → among (front xs) (rest xs) ≡ false
front_once [] d n = absurd (n refl)
front_once (x ∷ xs) d n = d.0
