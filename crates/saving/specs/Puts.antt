-- What a writer is held to, and how parts are written one behind the other.
use Rattle.std.specs.Prelude.{ℕ, ◌+◌, ◌≤◌, ◌≡◌, refl, List, [], ◌++◌, length}
use Rattle.std.proofs.Common.{sym, ap, ◌∙◌, arith, length-append}
use Rattle.lists.specs.Laid.{laid, Wrote, laid_none, laid_length, wrote_then, Going, going_start, going_by, going_room, going_more, going_end}
use Rattle.saving.specs.declared.writer.Writer.{Writer}

-- the buffer has room for xs at the position
abbrev pub HasRoom : Writer → List ℕ → Type 0
HasRoom w xs = w.at + length xs ≤ length w.out.now

-- both write to one buffer
abbrev pub SameBuffer : Writer → Writer → Type 0
SameBuffer v w = w.out.ghost_name ≡ v.out.ghost_name

-- xs was written, and the position stands behind it
pub record Puts (v : Writer) (xs : List ℕ) (w : Writer) : Type 0 where
  pub wrote : Wrote v.out.now v.at xs w.out.now w.at
  pub same : SameBuffer v w

-- on the way: of xs, ys is left to write
pub record Putting (v : Writer) (xs : List ℕ) (w : Writer) (ys : List ℕ) : Type 0 where
  pub going : Going (laid v.out.now v.at xs) (v.at + length xs) w.out.now w.at ys
  pub same : SameBuffer v w

pub puts_none : (v : Writer) → Puts v [] v
puts_none v = record { wrote = record { next = omega arith; bytes = sym (laid_none v.out.now v.at) }; same = refl }

-- ---- two parts
pub room_first : (v : Writer) (xs ys : List ℕ) → HasRoom v (xs ++ ys) → HasRoom v xs
room_first v xs ys h = let k = length-append xs ys in omega arith

module _ {u v : Writer} {xs : List ℕ} (p : Puts u xs v) (ys : List ℕ) (h : HasRoom u (xs ++ ys)) where
  pub room_then : HasRoom v ys
  room_then =
      let k = length-append xs ys in
      let n = p.wrote.next in
      let l = ap length p.wrote.bytes ∙ laid_length u.out.now u.at xs (omega arith) in
      omega arith

  pub puts_then : {w : Writer} → Puts v ys w → Puts u (xs ++ ys) w
  puts_then q = record {
    wrote = let k = length-append xs ys in wrote_then p.wrote q.wrote (omega arith);
    same = q.same ∙ p.same;
  }

-- ---- three parts
module _ {t u : Writer} {xs : List ℕ} (p : Puts t xs u) (ys zs : List ℕ) (h : HasRoom t (xs ++ (ys ++ zs))) where
  pub second_room : HasRoom u ys
  second_room = room_first u ys zs (room_then p (ys ++ zs) h)

  module _ {v : Writer} (q : Puts u ys v) where
    pub third_room : HasRoom v zs
    third_room = room_then q zs (room_then p (ys ++ zs) h)

    pub puts_three : {w : Writer} → Puts v zs w → Puts t (xs ++ (ys ++ zs)) w
    puts_three r = puts_then p (ys ++ zs) h (puts_then q zs (room_then p (ys ++ zs) h) r)

-- ---- as many as there are
pub putting_start : (v : Writer) (xs : List ℕ) → HasRoom v xs → Putting v xs v xs
putting_start v xs h = record { going = going_start v.out.now v.at xs h; same = refl }

module _ {v : Writer} {xs : List ℕ} {w : Writer} where
  pub putting_by : {ys zs : List ℕ} → Putting v xs w ys → ys ≡ zs → Putting v xs w zs
  putting_by g e = record { going = going_by g.going e; same = g.same }

  pub putting_room : (ys zs : List ℕ) → Putting v xs w (ys ++ zs) → HasRoom w ys
  putting_room ys zs g = going_room ys zs g.going

  pub putting_more : {u : Writer} {ys zs : List ℕ} → Putting v xs w (ys ++ zs) → Puts w ys u → Putting v xs u zs
  putting_more g p = record { going = going_more g.going p.wrote; same = p.same ∙ g.same }

  pub putting_end : Putting v xs w [] → Puts v xs w
  putting_end g = record { wrote = going_end g.going; same = g.same }
