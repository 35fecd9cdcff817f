-- What the reads and stores of the table find and leave in the arrays, and what that makes of the threads: one is another, and all others are as they were.
use Rattle.std.specs.Prelude.{◌≡◌, List, Bool, ◌&&◌, ℕ, ◌*◌, ◌<◌, eqb, length, get_or, set}
use Rattle.std.proofs.Common.{ap, ◌∙◌, arith, length-set}
use Rattle.rules.specs.Model.{places, Awaiting, Thread}
use Rattle.rules.specs.Rules.{stands, told}
use Rattle.table.specs.Cells.{cell, byte_rows, word_rows, thread_of}
use Rattle.table.specs.Rows.{with_byte, with_word, byte_here, byte_there, word_here, word_there}

-- ---- what the code reads

-- does the thread at p await a reply of the number k
abbrev pub awaits_of : List ℕ → ℕ → ℕ → Bool
awaits_of b p k = eqb (get_or b (cell 1 p) 0) Awaiting && eqb (get_or b (cell 2 p) 0) k

-- ---- what the code leaves

-- a standing, a partner and a word at p
abbrev pub Stood : List ℕ → List ℕ → ℕ → ℕ → ℕ → ℕ → List ℕ → List ℕ → Type 0
Stood b w p st pa x b' w' = (b' ≡ set (set b (cell 1 p) st) (cell 2 p) pa) × (w' ≡ set w (cell 0 p) x)

-- an answer at p: code, who and word
abbrev pub Told : List ℕ → List ℕ → ℕ → ℕ → ℕ → ℕ → List ℕ → List ℕ → Type 0
Told b w p co n x b' w' = (b' ≡ set (set b (cell 3 p) co) (cell 4 p) n) × (w' ≡ set w (cell 1 p) x)

-- a number at p
abbrev pub Named : List ℕ → List ℕ → ℕ → ℕ → List ℕ → List ℕ → Type 0
Named b w p n b' w' = (b' ≡ set b (cell 0 p) n) × (w' ≡ w)

-- a parent at p
abbrev pub Raised : List ℕ → List ℕ → ℕ → ℕ → List ℕ → List ℕ → Type 0
Raised b w p n b' w' = (b' ≡ set b (cell 5 p) n) × (w' ≡ w)

-- ---- what it makes of the threads

-- f made another of the thread at p, and nothing else is changed
pub record Stored (b w : List ℕ) (p : ℕ) (f : Thread → Thread) (b' w' : List ℕ) : Type 0 where
  pub blocks : length b' ≡ byte_rows * places
  pub words : length w' ≡ word_rows * places
  pub here : thread_of b' w' p ≡ f (thread_of b w p)
  pub there : (r : ℕ) → r < places → (r ≡ p → ⊥) → thread_of b' w' r ≡ thread_of b w r

pub wrote_then : {b w b₁ w₁ b₂ w₂ : List ℕ} {p : ℕ} {f g : Thread → Thread} → Stored b w p f b₁ w₁ → Stored b₁ w₁ p g b₂ w₂ → Stored b w p (λ t. g (f t)) b₂ w₂
wrote_then {g = g} s t = record { blocks = t.blocks; words = t.words; here = t.here ∙ ap g s.here; there = λ r h n. t.there r h n ∙ s.there r h n }

module _ {b w : List ℕ} (i : length b ≡ byte_rows * places) (j : length w ≡ word_rows * places) {p : ℕ} (h : p < places) where
  byte : (k x : ℕ) → k < byte_rows → Stored b w p (with_byte k x) (set b (cell k p) x) w
  byte k x e = record { blocks = length-set b (cell k p) x ∙ i; words = j; here = byte_here b w p h i x k e; there = byte_there b w p h i x k }

  word : (k x : ℕ) → k < word_rows → Stored b w p (with_word k x) b (set w (cell k p) x)
  word k x e = record { blocks = i; words = length-set w (cell k p) x ∙ j; here = word_here b w p h j x k e; there = word_there b w p h j x k }

module _ {b w : List ℕ} (i : length b ≡ byte_rows * places) (j : length w ≡ word_rows * places) {p : ℕ} (h : p < places) {b' w' : List ℕ} where
  pub stood : {st pa x : ℕ} → Stood b w p st pa x b' w' → Stored b w p (stands st pa x) b' w'
  stood {st} {pa} {x} e =
      let s = byte i j h 1 st (omega arith) in
      let t = byte s.blocks s.words h 2 pa (omega arith) in
      rw (e.0, e.1) (wrote_then s (wrote_then t (word t.blocks t.words h 0 x (omega arith))))

  pub heard : {co n x : ℕ} → Told b w p co n x b' w' → Stored b w p (told co n x) b' w'
  heard {co} {n} {x} e =
      let s = byte i j h 3 co (omega arith) in
      let t = byte s.blocks s.words h 4 n (omega arith) in
      rw (e.0, e.1) (wrote_then s (wrote_then t (word t.blocks t.words h 1 x (omega arith))))

pub named : {b w b' w' : List ℕ} {p n : ℕ} → length b ≡ byte_rows * places → length w ≡ word_rows * places → p < places → Named b w p n b' w' → Stored b w p (with_byte 0 n) b' w'
named {n = n} i j h e = rw (e.0, e.1) (byte i j h 0 n (omega arith))

pub raised : {b w b' w' : List ℕ} {p n : ℕ} → length b ≡ byte_rows * places → length w ≡ word_rows * places → p < places → Raised b w p n b' w' → Stored b w p (with_byte 5 n) b' w'
raised {n = n} i j h e = rw (e.0, e.1) (byte i j h 5 n (omega arith))
