-- The parts of an image, place by place, as the writer's loops go through them: what one place adds, and what is left from a place on.
use Rattle.std.specs.Prelude.{ℕ, ◌+◌, ◌-◌, ◌≤◌, ◌<◌, ◌≡◌, refl, List, [], ◌∷◌, ◌++◌, length}
use Rattle.std.proofs.Common.{sym, ap, ◌∙◌, append_assoc, arith, length-append}
use Rattle.lists.specs.Lists.{none, up_from, only}
use Rattle.lists.specs.Search.{up_from_step}
use Rattle.lists.specs.Only.{only_append}
use Rattle.lines.specs.Lines.{line_of}
use Rattle.rules.specs.Model.{Place, Number, places, Model, all_places, lives_at}
use Rattle.table.specs.Cells.{model_of, shown_in}
use Rattle.table.specs.declared.Arrays.{Arrays}
use Rattle.table.specs.declared.Desk.{Desk}
use Rattle.saving.specs.Format.{live_places, parent_bytes, body_of, bodies, contents, first_body, tail}
use Rattle.saving.specs.declared.format.Row.{Row}

-- The model of the arrays. Nothing behind the head asks for the last number given or who runs, and so here it is none.
abbrev pub held : Arrays → Model
held a = model_of none none a.table.blocks a.table.words a.lines

-- ---- the live places
-- p, if it lives
abbrev pub here : Model → Place → List Place
here m p = only (lives_at m) (p ∷ [])

-- from p on. (No abbrev: at a numeral p it would unfold wherever it stands.)
unfoldable pub lives_from : Model → Place → List Place
lives_from m p = only (lives_at m) (up_from p (places - p))

-- the parts of the arrays' image that the contracts name: an inbox, line q, with the parent n; the body of p, if it lives; all bodies; the contents, for a first
-- body at o; all behind the head
abbrev pub inbox_part : Row → Number → List ℕ → ℕ → List ℕ
inbox_part row n l q = length (line_of places l q) ∷ parent_bytes row n ++ line_of places l q

abbrev pub body_in : Row → Arrays → Place → List ℕ
body_in row a p = bodies row (held a) (here (held a) p)

abbrev pub bodies_in : Row → Arrays → List ℕ
bodies_in row a = bodies row (held a) (live_places (held a))

abbrev pub contents_in : Row → Arrays → ℕ → List ℕ
contents_in row a o = contents row (held a) o (live_places (held a))

abbrev pub tail_in : Row → Arrays → List ℕ
tail_in row a = tail row (held a)

-- ---- laws on the live places
pub lives_start : (m : Model) → lives_from m 0 ≡ live_places m
unfolding lives_from all_places
lives_start m = refl

pub lives_step : (m : Model) (p : Place) → p < places → lives_from m p ≡ here m p ++ lives_from m (p + 1)
unfolding lives_from
lives_step m p h = ap (only (lives_at m)) (up_from_step places p h) ∙ only_append (lives_at m) (p ∷ []) (up_from (p + 1) (places - (p + 1)))

pub lives_end : (m : Model) (p : Place) → places ≤ p → lives_from m p ≡ []
unfolding lives_from
lives_end m p h = let e : places - p ≡ 0 = omega arith in ap (λ (k : ℕ). only (lives_at m) (up_from p k)) e

-- ---- one part behind the other
pub bodies_append : (row : Row) (m : Model) (xs ys : List Place) → bodies row m (xs ++ ys) ≡ bodies row m xs ++ bodies row m ys
bodies_append row m [] ys = refl
bodies_append row m (x ∷ xs) ys = ap (λ (t : List ℕ). body_of row m x ++ t) (bodies_append row m xs ys) ∙ sym (append_assoc (body_of row m x) (bodies row m xs) (bodies row m ys))

pub contents_append : (row : Row) (m : Model) (o : ℕ) (xs ys : List Place) → contents row m o (xs ++ ys) ≡ contents row m o xs ++ contents row m (o + length (bodies row m xs)) ys
contents_append row m o [] ys = let e : o + 0 ≡ o = omega arith in rw e
contents_append row m o (x ∷ xs) ys =
    let k = length-append (body_of row m x) (bodies row m xs) in
    let e : o + length (body_of row m x ++ bodies row m xs) ≡ o + length (body_of row m x) + length (bodies row m xs) = omega arith in
    rw (e, contents_append row m (o + length (body_of row m x)) xs ys)

-- ---- they are those of the threads and the lines
module _ (d : Desk) (a : Arrays) (row : Row) where
  bodies_same : (ps : List Place) → bodies row (shown_in d a) ps ≡ bodies row (held a) ps
  bodies_same [] = refl
  bodies_same (p ∷ ps) = ap (λ (t : List ℕ). body_of row (held a) p ++ t) (bodies_same ps)

  contents_same : (o : ℕ) (ps : List Place) → contents row (shown_in d a) o ps ≡ contents row (held a) o ps
  contents_same o [] = refl
  contents_same o (p ∷ ps) = rw (contents_same (o + length (body_of row (held a) p)) ps)

  pub tail_same : tail row (shown_in d a) ≡ tail row (held a)
  tail_same = rw (contents_same (first_body row (held a)) (live_places (held a)), bodies_same (live_places (held a)))
