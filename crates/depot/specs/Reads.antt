-- A READER OF TEXTS, which knows nothing of who wrote them: a newline ends a line, and a blank a word. Of lines of plain words it reads back what was written.
use Rattle.std.specs.Prelude.{◌≡◌, refl, List, [], ◌∷◌, ◌++◌, Bool, true, false, cond, not, ◌||◌, ℕ, eqb}
use Rattle.std.proofs.Common.{ap, ◌∙◌, append_assoc}
use Rattle.lists.specs.Laws.{by_test, never}
use Rattle.depot.specs.Text.{blank, newline, Line, behind, line_bytes, text_bytes}

-- ---- the reader, from the end: in front of the lines of the rest ..

-- .. a blank puts an empty word in front of the first line;
abbrev pub new_word : List Line → List Line
new_word [] = ([] ∷ []) ∷ []
new_word (l ∷ ls) = ([] ∷ l) ∷ ls

-- a byte that is no mark goes onto the first word of the first line;
abbrev pub on_word : ℕ → Line → Line
on_word x [] = (x ∷ []) ∷ []
on_word x (w ∷ ws) = (x ∷ w) ∷ ws

abbrev pub on_line : ℕ → List Line → List Line
on_line x [] = on_word x [] ∷ []
on_line x (l ∷ ls) = on_word x l ∷ ls

-- and a newline begins a line of one empty word.
abbrev pub lines_in : List ℕ → List Line
lines_in [] = []
lines_in (x ∷ s) = cond (eqb x newline) (([] ∷ []) ∷ lines_in s) (cond (eqb x blank) (new_word (lines_in s)) (on_line x (lines_in s)))

-- is it the same word
abbrev pub same : List ℕ → List ℕ → Bool
same [] [] = true
same [] (y ∷ ys) = false
same (x ∷ xs) [] = false
same (x ∷ xs) (y ∷ ys) = cond (eqb x y) (same xs ys) false

-- what a reader makes of the lines that it knows
abbrev pub picked : {A : Type 0} → (Line → Bool) → (Line → A) → List Line → List A
picked f g [] = []
picked f g (l ∷ ls) = cond (f l) (g l ∷ picked f g ls) (picked f g ls)

-- ---- what can be read back

-- does a test hold of all
abbrev pub all : {A : Type 0} → (A → Bool) → List A → Bool
all f [] = true
all f (x ∷ xs) = cond (f x) (all f xs) false

-- A plain word has neither blank nor newline, ..
abbrev pub is_plain : List ℕ → Bool
is_plain w = all (λ x. not (eqb x newline || eqb x blank)) w

-- .. and a plain line at least one word, all of them plain.
abbrev pub is_line : Line → Bool
is_line [] = false
is_line (w ∷ ws) = all is_plain (w ∷ ws)

-- of a first and of the others
pub all_head : {A : Type 0} (f : A → Bool) (x : A) (xs : List A) → all f (x ∷ xs) ≡ true → f x ≡ true
all_head f x xs h = by_test (f x) (λ t. t) (λ t. never (rw t at h) refl)

pub all_tail : {A : Type 0} (f : A → Bool) (x : A) (xs : List A) → all f (x ∷ xs) ≡ true → all f xs ≡ true
all_tail f x xs h = rw (all_head f x xs h) at h

-- ---- what is written is read back: a word, a line, a text
word_back : (w s : List ℕ) (l : Line) (ls : List Line) → is_plain w ≡ true → lines_in s ≡ ([] ∷ l) ∷ ls → lines_in (w ++ s) ≡ (w ∷ l) ∷ ls
word_back [] s l ls h e = e
word_back (x ∷ w) s l ls h e =
    let ih = word_back w s l ls in
    by_test (eqb x newline) (λ t. never (rw t at h) refl)
    (λ t. by_test (eqb x blank) (λ u. never (rw (t, u) at h) refl) (λ u. rw (t, u, ih (rw (t, u) at h) e)))

line_back : (w : List ℕ) (ws : Line) (s : List ℕ) → is_line (w ∷ ws) ≡ true → lines_in (line_bytes (w ∷ ws) ++ s) ≡ (w ∷ ws) ∷ lines_in s
line_back w [] s h = rw (append_assoc w (newline ∷ []) s) (word_back w (newline ∷ s) [] (lines_in s) (all_head is_plain w [] h) refl)
line_back w (v ∷ vs) s h =
    let ih = ap new_word (line_back v vs s (all_tail is_plain w (v ∷ vs) h)) in
    rw (append_assoc w (behind (v ∷ vs)) s) (word_back w (behind (v ∷ vs) ++ s) (v ∷ vs) (lines_in s) (all_head is_plain w (v ∷ vs) h) ih)

pub read_back : (ls : List Line) → all is_line ls ≡ true → lines_in (text_bytes ls) ≡ ls
read_back [] h = refl
read_back ([] ∷ ls) h = never h refl
read_back ((w ∷ ws) ∷ ls) h =
    let ih = read_back ls (all_tail is_line (w ∷ ws) ls h) in
    line_back w ws (text_bytes ls) (all_head is_line (w ∷ ws) ls h) ∙ ap (λ (k : List Line). (w ∷ ws) ∷ k) ih
