-- How the code comes to each outcome of a save: the image stands in front of an array of its own, from where it is copied.
use Rattle.std.specs.Prelude.{ℕ, ◌+◌, ◌≤◌, ◌<◌, ◌≡◌, refl, List, ◌++◌, false, length, take, drop}
use Rattle.std.proofs.Common.{sym, ap, ◌∙◌, arith, length-append, length-take-le, take_at}
use Rattle.lists.specs.Sizes.{queue_count}
use Rattle.lists.specs.Laid.{laid, Wrote, laid_front}
use Rattle.table.specs.Cells.{StandsByIn}
use Rattle.nucleus.specs.View.{view, Consists}
use Rattle.nucleus.specs.declared.State.{State}
use Rattle.saving.specs.Format.{newest, encode}
use Rattle.saving.specs.Written.{Written}
use Rattle.saving.specs.Save.{Saves, inconsistent, short, saved}
use Rattle.saving.specs.declared.format.Row.{Row}

pub save_14 : {s : State} (before : List ℕ) → (Consists s → ⊥) → Saves s before 14 0 before
save_14 before n = inconsistent n (record { code_is = refl; length_is = refl; bytes_are = refl })

-- what is written need be consistent by the old rules only
pub save_stands : {s : State} → Consists s → StandsByIn false s.desk s.arrays
save_stands k = record { whole = k.whole; filled = k.filled; consistent = k.consistent.old }

pub save_few : {row : Row} → row ≡ newest → row.queues ≤ queue_count
save_few e = rw e (omega arith)

-- the array is t, and the image its first r bytes
module _ {s : State} (k : Consists s) {row : Row} (f : row ≡ newest) {i t : List ℕ} {r : ℕ} (p : Written row (view s) i t r) where
  image : Written newest (view s) i t r
  image = rw f at p

  pub image_fits : r ≤ length t
  image_fits = let a = image.size in let b = ap length image.bytes ∙ length-append (encode (view s)) (drop r i) in omega arith

  pub image_size : r ≡ length (take r t)
  image_size = sym (length-take-le r t image_fits)

  image_is : take r t ≡ encode (view s)
  image_is = ap (take r) image.bytes ∙ take_at (encode (view s)) (drop r i) r (sym image.size)

  module _ (before : List ℕ) where
    pub save_7 : length before < r → Saves s before 7 0 before
    save_7 h = let a = image.size in short k (omega arith) (record { code_is = refl; length_is = refl; bytes_are = refl })

    pub save_room : r ≤ length before → 0 + length (take r t) ≤ length before
    save_room h = let a = image_size in omega arith

    pub save_0 : r ≤ length before → {a : List ℕ} {v : ℕ} → Wrote before 0 (take r t) a v → Saves s before 0 r a
    save_0 h q =
        let z = image.size in
        saved k (omega arith) (record { code_is = refl; length_is = z; bytes_are = q.bytes ∙ ap (laid before 0) image_is ∙ laid_front before (encode (view s)) })

    -- the same of bytes that were copied to the front
    pub save_copied : r ≤ length before → {xs : List ℕ} → xs ≡ take r t → Saves s before 0 r (xs ++ drop r before)
    save_copied h e =
        let z = image.size in
        saved k (omega arith) (record { code_is = refl; length_is = z; bytes_are = rw (e, image_is, z) })
