-- Clean places: one after the other is cleaned, until all are.
use Rattle.std.specs.Prelude.{◌≡◌, List, ℕ, ◌+◌, ◌*◌, ◌<◌, length}
use Rattle.std.proofs.Common.{◌∙◌, add-one, arith}
use Rattle.std.proofs.Math.Decide.{ℕ_discrete}
use Rattle.rules.specs.Values.{nobody}
use Rattle.rules.specs.Model.{places, Empty, Thread, vacant}
use Rattle.table.specs.Cells.{byte_rows, word_rows, thread_of}
use Rattle.table.specs.Stores.{Stood, Told, Named, Raised, Stored, wrote_then, named, stood, heard, raised}

-- the arrays have the sizes of their types
pub record Sized (b w : List ℕ) : Type 0 where
  pub blocks : length b ≡ byte_rows * places
  pub words : length w ≡ word_rows * places

abbrev pub emptied : Thread → Thread
emptied t = vacant

pub cleaned : {b w b₁ w₁ b₂ w₂ b₃ w₃ b₄ w₄ : List ℕ} {p : ℕ} → Sized b w → p < places → Named b w p nobody b₁ w₁ → Stood b₁ w₁ p Empty nobody 0 b₂ w₂ → Told b₂ w₂ p 0 nobody 0 b₃ w₃
    → Raised b₃ w₃ p nobody b₄ w₄ → Stored b w p emptied b₄ w₄
cleaned k h n s t r =
    let x = named k.blocks k.words h n in
    let y = stood x.blocks x.words h s in
    let z = heard y.blocks y.words h t in
    wrote_then x (wrote_then y (wrote_then z (raised z.blocks z.words h r)))

-- the first i places are clean
pub record Emptied (b w : List ℕ) (i : ℕ) : Type 0 where
  pub sized : Sized b w
  pub clean : (p : ℕ) → p < i → thread_of b w p ≡ vacant

pub emptied_none : {b w : List ℕ} → Sized b w → Emptied b w 0
emptied_none k = record { sized = k; clean = λ p h. absurd (omega arith) }

pub emptied_more : {b w b' w' : List ℕ} {i : ℕ} → Emptied b w i → i < places → Stored b w i emptied b' w' → Emptied b' w' (i + 1)
emptied_more {i = i} k h t = rw add-one (record {
  sized = record { blocks = t.blocks; words = t.words };
  clean = λ p g. elim (ℕ_discrete p i) [
    | yes e ↦ rw e t.here
    | no n ↦ t.there p (omega arith) n ∙ k.clean p (omega arith)
  ];
})
