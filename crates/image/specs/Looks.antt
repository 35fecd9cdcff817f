-- Looking up: the part that was located is what is to be seen, and there is one such part. Assumes nothing.
use Rattle.std.specs.Prelude.{◌≡◌, ◌≢◌, List, ℕ, ◌+◌, ◌≤◌, length, take, drop}
use Rattle.std.proofs.Common.{sym, ap, ap₂, ◌∙◌, arith, length-take, length-drop}
use Rattle.rules.specs.Model.{Empty, thread}
use Rattle.order.specs.Places.{lives_at_lem}
use Rattle.saving.specs.Format.{body_of}
use Rattle.saving.specs.declared.format.Row.{Row}
use Rattle.loading.specs.Finds.{row_is, place_is, offset_is}
use Rattle.loading.specs.Entry.{body_at}
use Rattle.loading.proofs.Injective.{image_one}
use Rattle.loading.proofs.Accepts.{refuses_not}
use Rattle.image.specs.Locates.{Spotted, Absent, Locates, spotted, missing, unread}
use Rattle.image.specs.Locating.{spotted_lives, locate_body, locate_within, locate_one}
use Rattle.image.specs.Sees.{Found, Sees, found, absent, refused, Lies}

-- ---- what was located is seen

sees_found : {s : List ℕ} {n o l : ℕ} → (F : Spotted s n o l) → o + l ≤ length s → Found s n (take l (drop o s))
sees_found {s} {n} {o} {l} F h =
    let entry = length F.before in
    let e : body_at F.row s entry ≡ o = offset_is F.image F.before F.place F.behind F.split ∙ sym F.starts in
    let z : length (take l (drop o s)) ≡ l = ap length (locate_body F) ∙ sym F.long in
    record {
      row = F.row;
      m = F.m;
      image = F.image;
      place = F.place;
      lives = spotted_lives F;
      number = F.number;
      body = locate_body F;
      entry = entry;
      named = place_is F.image F.before F.place F.behind F.split;
      within = omega arith;
      stands = ap₂ (λ (x y : ℕ). take x (drop y s)) (sym z) (sym e);
    }

pub locate_sees : {s : List ℕ} {n c o l : ℕ} → Locates s n c o l → Sees s n (take l (drop o s))
locate_sees (spotted F z) = found (sees_found F (locate_within (spotted F z)))
locate_sees {s} {o = o} (missing A z f g) = absent A (ap (λ (x : ℕ). take x (drop o s)) g)
locate_sees {s} {o = o} (unread R f g) = refused (λ m I. refuses_not R (m, I)) (ap (λ (x : ℕ). take x (drop o s)) g)

-- it is as long as was said
pub part_long : {s : List ℕ} {n c o l : ℕ} → Locates s n c o l → length (take l (drop o s)) ≡ l
part_long {s} {o = o} {l = l} L = let h = locate_within L in let a = length-take l (drop o s) in let b = length-drop o s in omega arith

-- ---- one part

module _ {s : List ℕ} {n : ℕ} {a b : List ℕ} where
  found_one : Found s n a → Found s n b → a ≡ b
  found_one F G =
      let e : F.m ≡ G.m = image_one (F.row, F.image) (G.row, G.image) in
      let l : (thread G.m F.place).standing ≢ Empty = rw e at (lives_at_lem F.m F.place F.lives) in
      let v : (thread G.m F.place).number ≡ n = rw e at F.number in
      let p : F.place ≡ G.place = G.image.consistent.old.differ F.place G.place l (lives_at_lem G.m G.place G.lives) (v ∙ sym G.number) in
      let r : F.row ≡ G.row = row_is F.image ∙ sym (row_is G.image) in
      F.body ∙ ap (λ (x : Row). body_of x F.m F.place) r ∙ ap₂ (body_of G.row) e p ∙ sym G.body

found_not : {X : Type 0} {s : List ℕ} {n : ℕ} {a : List ℕ} → Found s n a → Absent s n → X
found_not F A =
    let e : F.m ≡ A.m = image_one (F.row, F.image) A.image in
    absurd (A.nobody F.place (rw e at F.lives) (rw e at F.number))

-- two parts that keep the promise are one
pub look_one : {s : List ℕ} {n : ℕ} {a b : List ℕ} → Sees s n a → Sees s n b → a ≡ b
look_one (found F) (found G) = found_one F G
look_one (found F) (absent B y) = found_not F B
look_one (found F) (refused g y) = absurd (g F.m (F.row, F.image))
look_one (absent A x) (found G) = found_not G A
look_one (absent A x) (absent B y) = x ∙ sym y
look_one (absent A x) (refused g y) = x ∙ sym y
look_one (refused f x) (found G) = absurd (f G.m (G.row, G.image))
look_one (refused f x) (absent B y) = x ∙ sym y
look_one (refused f x) (refused g y) = x ∙ sym y

-- and they lie at one place
pub lies_one : {s : List ℕ} {n : ℕ} {base at at' : ℕ × ℕ} {a b : List ℕ} → Lies s n base at a → Lies s n base at' b → (at.0 ≡ at'.0) × (at.1 ≡ at'.1)
lies_one {base = base} A B =
    let e = (locate_one A.located B.located).offset_same in
    (A.block ∙ sym B.block, A.from ∙ ap (λ (o : ℕ). base.1 + o) e ∙ sym B.from)
