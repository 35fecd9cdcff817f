-- WHAT A TEXT IS MADE OF: lines of words. A blank stands between a word and the next, and every line ends in a newline (document 02, P7).
use Rattle.std.specs.Prelude.{List, [], ◌∷◌, ◌++◌, ℕ}
use Prim.Native.Char.{code}
use Prim.Native.String.{String, [] as empty, ◌∷◌ as ◌and◌}

-- the bytes of a text in ASCII. (No abbrev: it would be spelt out wherever it stands.)
unfoldable pub ascii : String → List ℕ
ascii empty = []
ascii (c and s) = code c ∷ ascii s

abbrev pub blank : ℕ
blank = 32

abbrev pub newline : ℕ
newline = 10

-- the bytes of each of its words
abbrev pub Line : Type 0
Line = List (List ℕ)

-- what stands behind a word, with these words behind it
abbrev pub behind : Line → List ℕ
behind [] = newline ∷ []
behind (w ∷ ws) = blank ∷ w ++ behind ws

abbrev pub line_bytes : Line → List ℕ
line_bytes [] = newline ∷ []
line_bytes (w ∷ ws) = w ++ behind ws

abbrev pub text_bytes : List Line → List ℕ
text_bytes [] = []
text_bytes (l ∷ ls) = line_bytes l ++ text_bytes ls
