-- The tests that the code makes of one place, given where each place stands (`at`, a line or none) and where each number lives (`who`, a
-- place or none). With those two arrays no test looks at more than two places, so that the whole is linear.
use Rattle.std.specs.Prelude.{ℕ, ◌≤◌, ◌<◌, ◌≡◌, ◌≢◌, List, Bool, true, cond, not, ◌&&◌, ◌||◌, get_or, eqb, ltb}
use Rattle.lists.specs.Lists.{none, bit, count}
use Rattle.rules.specs.Values.{nobody}
use Rattle.rules.specs.Model.{places, devices, Empty, Running, Ready, Sending, Awaiting, Receiving, Waiting, AtDevice, Thread, Model, ready, clock, device, inbox, line_count, thread, line}
use Rattle.rules.specs.Rules.{idle, hears, is_nil}
use Rattle.rules.specs.Consistent.{is_number, as_table, is_answer}

-- one fixed clean value
abbrev pub is_clean : Thread → Bool
is_clean t = eqb t.number nobody && (eqb t.partner nobody && (eqb t.word 0 && (eqb t.code 0 && (eqb t.who nobody && (eqb t.answer 0 && eqb t.parent nobody)))))

-- what a place must be, taken alone
abbrev pub fits : Thread → Bool
fits t =
    cond (eqb t.standing Empty) (is_clean t)
    (is_number t.number && (as_table t.standing t.partner t.word && ((eqb t.standing AtDevice || not (eqb t.partner t.number)) && is_answer t.code t.who t.answer)))

-- no line, and not none: the home of one whose partner is not live, or whose device is none
abbrev pub astray : ℕ
astray = 254

-- the line into which its standing puts a thread, or none
abbrev pub home : List ℕ → Thread → ℕ
home who t =
    let r = get_or who t.partner 0 in
    cond (eqb t.standing Ready) ready
    (cond (eqb t.standing Waiting) clock
    (cond (eqb t.standing AtDevice) (cond (ltb t.partner devices) (device t.partner) astray)
    (cond (eqb t.standing Sending) (cond (ltb r places) (inbox r) astray)
    (cond (eqb t.standing Awaiting) (cond (ltb r places) none astray)
    none))))

-- the running thread is the one that runs
abbrev pub runs_alone : ℕ → ℕ → Thread → Bool
runs_alone running p t = cond (eqb t.standing Running) (eqb running p) true

-- whoever stands in an inbox is not one whom its owner, d, waits to hear
abbrev pub unheard : Thread → Thread → Bool
unheard d t = cond (eqb t.standing Sending) (not (hears d t.number)) true

-- whoever receives from a number names a thread that lives, at r. (The old rules, where strict is false, did not ask.)
abbrev pub names_live : Bool → ℕ → Thread → Bool
names_live strict r t = cond strict (cond (eqb t.standing Receiving) (eqb t.partner nobody || ltb r places) true) true

-- a parent is nobody, or a number that is found
abbrev pub parent_found : List ℕ → Thread → Bool
parent_found who t = eqb t.parent nobody || is_number t.parent && ltb (get_or who t.parent 0) places

-- all of these, of a thread t that stands at p
abbrev pub seat_test : Bool → Model → List ℕ → List ℕ → ℕ → Thread → Bool
seat_test strict m at who p t =
    let r = get_or who t.partner 0 in
    fits t && (runs_alone m.running p t && (eqb (get_or at p 0) (home who t) && (unheard (thread m r) t && (names_live strict r t && parent_found who t))))

abbrev pub place_test : Bool → Model → List ℕ → List ℕ → ℕ → Bool
place_test strict m at who p = seat_test strict m at who p (thread m p)

-- the last number given, and who runs
abbrev pub desk_test : Model → Bool
desk_test m = is_number m.last && cond (idle m) (is_nil (line m ready)) (eqb (thread m m.running).standing Running)

-- at[p] is the line in which p stands, or none
pub record Homes (m : Model) (at : List ℕ) : Type 0 where
  pub within : (p q : ℕ) → p < places → q < line_count → count p (line m q) ≡ bit (eqb (get_or at p 0) q)
  pub beyond : (p q : ℕ) → places ≤ p → count p (line m q) ≡ 0
  pub sure : (p : ℕ) → p < places → get_or at p 0 ≢ none → get_or at p 0 < line_count

-- who[n] is the place of the live number n, or none
pub record Index (m : Model) (who : List ℕ) : Type 0 where
  pub to : (p : ℕ) → p < places → (thread m p).standing ≢ Empty → get_or who (thread m p).number 0 ≡ p
  pub back : (n : ℕ) → n ≤ nobody → get_or who n 0 ≢ none
      → (get_or who n 0 < places) × ((thread m (get_or who n 0)).standing ≢ Empty) × ((thread m (get_or who n 0)).number ≡ n)
