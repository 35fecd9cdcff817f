-- HOW LONG A LINE IS: each of its words and one byte behind each. And how long each line of a sheet can be, taken alone.
use Rattle.std.specs.Prelude.{◌≡◌, refl, List, [], ◌∷◌, ◌++◌, Bool, true, false, cond, ◌&&◌, ◌||◌, ℕ, zero, suc, ◌+◌, ◌*◌, ◌^◌, ◌≤◌, ◌<◌, eqb, ltb, length}
use Rattle.std.proofs.Common.{sym, ap, ◌∙◌, append_assoc, arith, eqb-true, ltb-true, ltb-false, leb-true, length-append}
use Rattle.lists.specs.Lists.{bit}
use Rattle.lists.specs.Laws.{by_test, never, and_left}
use Rattle.rules.specs.Values.{nobody}
use Rattle.rules.specs.Model.{Place, devices, Running, Ready, Sending, Awaiting, Receiving, Waiting, AtDevice, Thread}
use Rattle.rules.specs.Consistent.{is_number, as_table}
use Rattle.journal.specs.Format.{read_at}
use Rattle.journal.proofs.Laws.{read_spans}
use Rattle.journal.specs.declared.Read.{Read}
use Rattle.journal.specs.declared.Read.TheVariants.{Record, AtEnd, CutShort, UnknownKind, PastEnd}
use Rattle.logging.specs.Log.{limit, Parsed, goes_on, parsed, records_in}
use Rattle.depot.specs.Text.{ascii, Line, behind, line_bytes, text_bytes}
use Rattle.depot.specs.Decimal.{decimal}
use Rattle.depot.specs.Digits.{decimal_length}
use Rattle.depot.specs.Report.{standing_words, thread_line, load_line, stop_word, log_line, lengthy, last_line}

-- ---- words, lines and texts
-- the words and the bytes between and behind them
abbrev pub size_of : Line → ℕ
size_of [] = 0
size_of (w ∷ ws) = length w + 1 + size_of ws

behind_length : (ws : Line) → length (behind ws) ≡ 1 + size_of ws
behind_length [] = refl
behind_length (w ∷ ws) = let i = behind_length ws in let a = length-append w (behind ws) in omega arith

pub line_length : (w : List ℕ) (ws : Line) → length (line_bytes (w ∷ ws)) ≡ size_of (w ∷ ws)
line_length w ws = let i = behind_length ws in let a = length-append w (behind ws) in omega arith

pub text_one : (l : Line) → length (text_bytes (l ∷ [])) ≡ length (line_bytes l)
text_one l = let a = length-append (line_bytes l) [] in omega arith

-- one text behind the other, and how long they are together
pub text_append : (xs ys : List Line) → text_bytes (xs ++ ys) ≡ text_bytes xs ++ text_bytes ys
text_append [] ys = refl
text_append (x ∷ xs) ys = ap (λ (z : List ℕ). line_bytes x ++ z) (text_append xs ys) ∙ sym (append_assoc (line_bytes x) (text_bytes xs) (text_bytes ys))

pub text_both : (xs ys : List Line) → length (text_bytes (xs ++ ys)) ≡ length (text_bytes xs) + length (text_bytes ys)
text_both xs ys = ap length (text_append xs ys) ∙ length-append (text_bytes xs) (text_bytes ys)

-- ---- a thread's line
-- a byte has three digits at most
pub byte_length : (n : ℕ) → n ≤ nobody → length (decimal n) ≤ 3
byte_length n h = decimal_length 3 n (omega arith) (omega arith)

-- by the table, a partner is a byte
either : {G : Type 0} (x y : Bool) → x || y ≡ true → (x ≡ true → G) → (y ≡ true → G) → G
either true y h f g = f h
either false y h f g = g h

pub partner_low : (st pa w : ℕ) → as_table st pa w ≡ true → pa ≤ nobody
partner_low st pa w h =
    let number : is_number pa ≡ true → pa ≤ nobody = λ e. let l = leb-true pa 253 e in omega arith in
    let none : eqb pa nobody ≡ true → pa ≤ nobody = λ e. let l = eqb-true pa nobody e in omega arith in
    let both : eqb pa nobody && eqb w 0 ≡ true → pa ≤ nobody = λ e. none (and_left (eqb pa nobody) (eqb w 0) e) in
    by_test (eqb st Running)
    (λ a. both (rw a at h))
    (λ a. by_test (eqb st Ready)
    (λ b. both (rw (a, b) at h))
    (λ b. by_test (eqb st Sending)
    (λ c. number (rw (a, b, c) at h))
    (λ c. by_test (eqb st Awaiting)
    (λ d. number (rw (a, b, c, d) at h))
    (λ d. by_test (eqb st Receiving)
    (λ f. either (is_number pa) (eqb pa nobody) (and_left (is_number pa || eqb pa nobody) (eqb w 0) (rw (a, b, c, d, f) at h)) number none)
    (λ f. by_test (eqb st Waiting)
    (λ g. both (rw (a, b, c, d, f, g) at h))
    (λ g. by_test (eqb st AtDevice)
    (λ i. let l = ltb-true pa devices (and_left (ltb pa devices) (eqb w 0) (rw (a, b, c, d, f, g, i) at h)) in omega arith)
    (λ i. never (rw (a, b, c, d, f, g, i) at h) refl)))))))

-- What a thread adds to the other lines beside its own: a digit, perhaps, to the count of those who are ready or wait for the clock, and its number to the next
-- line. Whoever does so has a shorter line for it.
abbrev pub elsewhere : Thread → ℕ
elsewhere t = bit (eqb t.standing Ready) + bit (eqb t.standing Waiting) + 2 * bit (eqb t.standing Running)

standing_length : (t : Thread) → t.partner ≤ nobody → size_of (standing_words t) + elsewhere t ≤ 19
unfolding ascii
standing_length t h =
    let few = byte_length t.partner h in
    by_test (eqb t.standing Running)
    (λ a. rw (eqb-true t.standing Running a) (omega arith))
    (λ a. by_test (eqb t.standing Ready)
    (λ b. rw (eqb-true t.standing Ready b) (omega arith))
    (λ b. by_test (eqb t.standing Sending)
    (λ c. rw (eqb-true t.standing Sending c) (omega arith))
    (λ c. by_test (eqb t.standing Awaiting)
    (λ d. rw (eqb-true t.standing Awaiting d) (omega arith))
    (λ d. by_test (eqb t.standing Receiving)
    (λ f. rw (eqb-true t.standing Receiving f) (by_test (eqb t.partner nobody) (λ g. rw g (omega arith)) (λ g. rw g (omega arith))))
    (λ f. by_test (eqb t.standing Waiting)
    (λ g. rw (eqb-true t.standing Waiting g) (omega arith))
    (λ g. rw (a, b, c, d, f, g) (omega arith)))))))

-- `253 place 9 receiving from 252`, and a digit more where the place has two
abbrev pub thread_length : Place → ℕ
thread_length p = 30 + length (decimal p)

pub thread_length_lem : (p : Place) (t : Thread) → t.number ≤ nobody → t.partner ≤ nobody → length (line_bytes (thread_line p t)) + elsewhere t ≤ thread_length p
unfolding ascii
thread_length_lem p t n h =
    let a = line_length (decimal t.number) (ascii "place" ∷ decimal p ∷ standing_words t) in
    let b = byte_length t.number n in
    let c = standing_length t h in
    omega arith

-- ---- a load's line
-- `load from 253 to 252 word 4294967295 not received`
abbrev pub load_length : ℕ
load_length = 50

pub load_length_lem : (t : Thread) → t.number ≤ nobody → t.partner ≤ nobody → t.word < 2 ^ 32 → length (line_bytes (load_line t)) ≤ load_length
unfolding ascii
load_length_lem t n h w =
    let last : Line = cond (eqb t.standing Awaiting) (ascii "received" ∷ []) (ascii "not" ∷ ascii "received" ∷ []) in
    let a = line_length (ascii "load") (ascii "from" ∷ decimal t.number ∷ ascii "to" ∷ decimal t.partner ∷ ascii "word" ∷ decimal t.word ∷ last) in
    let b = byte_length t.number n in
    let c = byte_length t.partner h in
    let d = decimal_length 10 t.word (omega arith) (omega arith) in
    let e : size_of last ≤ 13 = by_test (eqb t.standing Awaiting) (λ y. rw y (omega arith)) (λ y. rw y (omega arith)) in
    omega arith

-- ---- the last line
-- A record is a byte at least, so there are no more of them than bytes read, and no more bytes are read than there are.
abbrev pub Few : List ℕ → ℕ → Parsed → Type 0
Few s at p = (at + length p.events ≤ p.stop) × (p.stop ≤ length s)

pub records_few : (n : ℕ) (s : List ℕ) (at : ℕ) → at ≤ length s → Few s at (parsed n s at)
unfolding parsed
records_few zero s at h = (omega arith, h)
records_few (suc n) s at h = by_read (read_at s at) refl (records_few n s)
  where
    by_read : (r : Read) → read_at s at ≡ r → ((next : ℕ) → next ≤ length s → Few s next (parsed n s next)) → Few s at (goes_on at r (parsed n s))
    by_read (Record e next) q f = let w = read_spans s at e next q in let i = f next w.within in (omega (arith, w.on, i.0), i.1)
    by_read AtEnd q f = (omega arith, h)
    by_read CutShort q f = (omega arith, h)
    by_read UnknownKind q f = (omega arith, h)
    by_read PastEnd q f = (omega arith, h)

-- `log 10000 records 10000 bytes unknown`
abbrev pub last_length : ℕ
last_length = 38

log_length : (p : Parsed) → length p.events ≤ limit → p.stop ≤ limit → length (line_bytes (log_line p)) ≤ last_length
unfolding ascii
log_length p n h =
    let a = line_length (ascii "log") (decimal (length p.events) ∷ ascii "records" ∷ decimal p.stop ∷ ascii "bytes" ∷ stop_word p.code ∷ []) in
    let b = decimal_length 5 (length p.events) (omega arith) (omega arith) in
    let c = decimal_length 5 p.stop (omega arith) (omega arith) in
    let d : length (stop_word p.code) ≤ 7 =
    by_test (eqb p.code 12)
    (λ y. rw y (omega arith))
    (λ y. by_test (eqb p.code 13) (λ z. rw (y, z) (omega arith)) (λ z. rw (y, z) (omega arith))) in
    omega arith

pub last_length_lem : (log : List ℕ) → length (line_bytes (last_line log)) ≤ last_length
unfolding ascii
last_length_lem log =
    by_test (lengthy log)
    (λ t. rw t (let a = line_length (ascii "log") (ascii "refused" ∷ decimal 11 ∷ []) in let b = byte_length 11 (omega arith) in omega arith))
    (λ t. rw t (
    let h = ltb-false limit (length log) t in
    let w = records_few (length log) log 0 (omega arith) in
    log_length (records_in log 0) (omega (arith, w.0, w.1)) (omega (arith, w.1))))
