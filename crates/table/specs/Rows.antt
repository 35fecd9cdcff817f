-- What a store in one cell does to the threads, and that the model settles the arrays, to the last byte. One law serves every row.
use Rattle.std.specs.Prelude.{◌≡◌, List, [], cond, ℕ, zero, suc, ◌*◌, ◌/◌, ◌%◌, ◌≤◌, ◌<◌, eqb, length, get_or, set}
use Rattle.std.proofs.Common.{sym, ap, ◌∙◌, arith, eqb-true, get_or-set_same, get_or-set_other, ext_get_or}
use Rattle.std.proofs.lemmas.Bool.{eqb-false}
use Rattle.lists.specs.Laws.{by_test}
use Rattle.lists.specs.Tables.{get_d_tab, tab_past, tab_same}
use Rattle.lines.specs.Lines.{line_of}
use Rattle.lines.specs.Arrays.{unique}
use Rattle.rules.specs.Model.{places, line_count, Thread, vacant, Model, thread, line}
use Rattle.table.specs.Cells.{cell, byte_rows, word_rows, thread_of, model_of, Whole}

-- ---- a store

-- a thread with the byte of row k, or the word of row k, made x
abbrev pub with_byte : ℕ → ℕ → Thread → Thread
with_byte zero x t = record { number = x; standing = t.standing; partner = t.partner; word = t.word; code = t.code; who = t.who; answer = t.answer; parent = t.parent }
with_byte (suc zero) x t = record { number = t.number; standing = x; partner = t.partner; word = t.word; code = t.code; who = t.who; answer = t.answer; parent = t.parent }
with_byte (suc (suc zero)) x t = record { number = t.number; standing = t.standing; partner = x; word = t.word; code = t.code; who = t.who; answer = t.answer; parent = t.parent }
with_byte (suc (suc (suc zero))) x t = record { number = t.number; standing = t.standing; partner = t.partner; word = t.word; code = x; who = t.who; answer = t.answer; parent = t.parent }
with_byte (suc (suc (suc (suc zero)))) x t = record { number = t.number; standing = t.standing; partner = t.partner; word = t.word; code = t.code; who = x; answer = t.answer; parent = t.parent }
with_byte (suc (suc (suc (suc (suc k))))) x t = record { number = t.number; standing = t.standing; partner = t.partner; word = t.word; code = t.code; who = t.who; answer = t.answer; parent = x }

abbrev pub with_word : ℕ → ℕ → Thread → Thread
with_word zero x t = record { number = t.number; standing = t.standing; partner = t.partner; word = x; code = t.code; who = t.who; answer = t.answer; parent = t.parent }
with_word (suc k) x t = record { number = t.number; standing = t.standing; partner = t.partner; word = t.word; code = t.code; who = t.who; answer = x; parent = t.parent }

-- row j of place p after a store at row k of it
row_set : (a : List ℕ) (n k j p x : ℕ) → length a ≡ n * places → k < n → p < places → get_or (set a (cell k p) x) (cell j p) 0 ≡ cond (eqb j k) x (get_or a (cell j p) 0)
row_set a n k j p x e h b =
    by_test (eqb j k)
    (λ y. let z : j ≡ k = eqb-true j k y in rw (y, z) (get_or-set_same a (cell k p) x 0 (omega arith)))
    (λ y. let z = eqb-false j k y in rw y (get_or-set_other a (cell k p) (cell j p) x 0 (omega arith)))

-- and of another place
row_other : (a : List ℕ) (k j p r x : ℕ) → p < places → r < places → (r ≡ p → ⊥) → get_or (set a (cell k p) x) (cell j r) 0 ≡ get_or a (cell j r) 0
row_other a k j p r x h g n = get_or-set_other a (cell k p) (cell j r) x 0 (omega arith)

module _ (b w : List ℕ) (p : ℕ) (h : p < places) where
  module _ (e : length b ≡ byte_rows * places) (x : ℕ) where
    at_row : (k j : ℕ) → k < byte_rows → get_or (set b (cell k p) x) (cell j p) 0 ≡ cond (eqb j k) x (get_or b (cell j p) 0)
    at_row k j i = row_set b byte_rows k j p x e i h

    pub byte_here : (k : ℕ) → k < byte_rows → thread_of (set b (cell k p) x) w p ≡ with_byte k x (thread_of b w p)
    byte_here zero i = rw (at_row 0 0 i, at_row 0 1 i, at_row 0 2 i, at_row 0 3 i, at_row 0 4 i, at_row 0 5 i)
    byte_here (suc zero) i = rw (at_row 1 0 i, at_row 1 1 i, at_row 1 2 i, at_row 1 3 i, at_row 1 4 i, at_row 1 5 i)
    byte_here (suc (suc zero)) i = rw (at_row 2 0 i, at_row 2 1 i, at_row 2 2 i, at_row 2 3 i, at_row 2 4 i, at_row 2 5 i)
    byte_here (suc (suc (suc zero))) i = rw (at_row 3 0 i, at_row 3 1 i, at_row 3 2 i, at_row 3 3 i, at_row 3 4 i, at_row 3 5 i)
    byte_here (suc (suc (suc (suc zero)))) i = rw (at_row 4 0 i, at_row 4 1 i, at_row 4 2 i, at_row 4 3 i, at_row 4 4 i, at_row 4 5 i)
    byte_here (suc (suc (suc (suc (suc zero))))) i = rw (at_row 5 0 i, at_row 5 1 i, at_row 5 2 i, at_row 5 3 i, at_row 5 4 i, at_row 5 5 i)
    byte_here (suc (suc (suc (suc (suc (suc k)))))) i = absurd (omega arith)

    pub byte_there : (k : ℕ) (r : ℕ) → r < places → (r ≡ p → ⊥) → thread_of (set b (cell k p) x) w r ≡ thread_of b w r
    byte_there k r g n = rw (row_other b k 0 p r x h g n, row_other b k 1 p r x h g n, row_other b k 2 p r x h g n, row_other b k 3 p r x h g n, row_other b k 4 p r x h g n, row_other b k 5 p r x h g n)

  module _ (e : length w ≡ word_rows * places) (x : ℕ) where
    pub word_here : (k : ℕ) → k < word_rows → thread_of b (set w (cell k p) x) p ≡ with_word k x (thread_of b w p)
    word_here zero i = rw (row_set w word_rows 0 0 p x e i h, row_set w word_rows 0 1 p x e i h)
    word_here (suc zero) i = rw (row_set w word_rows 1 0 p x e i h, row_set w word_rows 1 1 p x e i h)
    word_here (suc (suc k)) i = absurd (omega arith)

    pub word_there : (k : ℕ) (r : ℕ) → r < places → (r ≡ p → ⊥) → thread_of b (set w (cell k p) x) r ≡ thread_of b w r
    word_there k r g n = rw (row_other w k 0 p r x h g n, row_other w k 1 p r x h g n)

-- ---- the thread at a place, and a line, in the model

pub thread_at : (y x : ℕ) (b w l : List ℕ) (p : ℕ) → p < places → thread (model_of y x b w l) p ≡ thread_of b w p
thread_at y x b w l p h = get_d_tab places (thread_of b w) p vacant h

pub line_at : (y x : ℕ) (b w l : List ℕ) (q : ℕ) → q < line_count → line (model_of y x b w l) q ≡ line_of places l q
line_at y x b w l q h = get_d_tab line_count (line_of places l) q [] h

-- past the places there is nobody, and past the lines no line
pub thread_past : (y x : ℕ) (b w l : List ℕ) (p : ℕ) → places ≤ p → thread (model_of y x b w l) p ≡ vacant
thread_past y x b w l p h = tab_past places (thread_of b w) p vacant h

pub line_past : (y x : ℕ) (b w l : List ℕ) (q : ℕ) → line_count ≤ q → line (model_of y x b w l) q ≡ []
line_past y x b w l q h = tab_past line_count (line_of places l) q [] h

-- ---- the model settles the arrays

-- arrays of n rows that are equal row by row
same_rows : (n : ℕ) (a c : List ℕ) → length a ≡ n * places → length c ≡ n * places
    → ((k p : ℕ) → k < n → p < places → get_or a (cell k p) 0 ≡ get_or c (cell k p) 0) → a ≡ c
same_rows n a c e f g = ext_get_or 0 a c (e ∙ sym f) (λ i h.
    let z : i ≡ cell (i / places) (i % places) = omega arith in
    rw z (g (i / places) (i % places) (omega arith) (omega arith)))

module _ {b w l b' w' l' : List ℕ} (k : Whole b w l) (k' : Whole b' w' l') {y x y' x' : ℕ} (e : model_of y x b w l ≡ model_of y' x' b' w' l') where
  same_thread : (p : ℕ) → p < places → thread_of b w p ≡ thread_of b' w' p
  same_thread p h = tab_same vacant places (thread_of b w) (thread_of b' w') (ap (λ (m : Model). m.threads) e) p h

  same_byte : (j p : ℕ) → j < byte_rows → p < places → get_or b (cell j p) 0 ≡ get_or b' (cell j p) 0
  same_byte zero p i h = ap (λ (t : Thread). t.number) (same_thread p h)
  same_byte (suc zero) p i h = ap (λ (t : Thread). t.standing) (same_thread p h)
  same_byte (suc (suc zero)) p i h = ap (λ (t : Thread). t.partner) (same_thread p h)
  same_byte (suc (suc (suc zero))) p i h = ap (λ (t : Thread). t.code) (same_thread p h)
  same_byte (suc (suc (suc (suc zero)))) p i h = ap (λ (t : Thread). t.who) (same_thread p h)
  same_byte (suc (suc (suc (suc (suc zero))))) p i h = ap (λ (t : Thread). t.parent) (same_thread p h)
  same_byte (suc (suc (suc (suc (suc (suc j)))))) p i h = absurd (omega arith)

  same_word : (j p : ℕ) → j < word_rows → p < places → get_or w (cell j p) 0 ≡ get_or w' (cell j p) 0
  same_word zero p i h = ap (λ (t : Thread). t.word) (same_thread p h)
  same_word (suc zero) p i h = ap (λ (t : Thread). t.answer) (same_thread p h)
  same_word (suc (suc j)) p i h = absurd (omega arith)

  pub same_blocks : b ≡ b'
  same_blocks = same_rows byte_rows b b' k.blocks k'.blocks same_byte

  pub same_words : w ≡ w'
  same_words = same_rows word_rows w w' k.words k'.words same_word

  pub same_lines : l ≡ l'
  same_lines = unique places line_count (omega arith) l l' k.lines k'.lines
      (tab_same [] line_count (line_of places l) (line_of places l') (ap (λ (m : Model). m.lines) e))
