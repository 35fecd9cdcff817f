-- Of every element of a list: what a table says, row by row. Assumes nothing.
use Rattle.std.specs.Prelude.{◌≡◌, List, [], ◌∷◌, map}

abbrev pub Every : {A : Type 0} → (A → Type 0) → List A → Type 0
Every P [] = Unit {0}
Every P (x ∷ xs) = P x × Every P xs

-- two columns that are equal are so in every row
pub each : {A B : Type 0} (f g : A → B) (xs : List A) → map f xs ≡ map g xs → Every (λ x. f x ≡ g x) xs
each f g [] e = tt
each f g (x ∷ xs) e = (let h : f x ≡ g x = cc in h, each f g xs (let t : map f xs ≡ map g xs = cc in t))

pub every : {A : Type 0} (P Q : A → Type 0) → ((x : A) → P x → Q x) → (xs : List A) → Every P xs → Every Q xs
every P Q f [] k = tt
every P Q f (x ∷ xs) k = (f x k.0, every P Q f xs k.1)
