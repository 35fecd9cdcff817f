-- WHAT ONE READS OFF THE LOADS SHEET: every send that is not answered yet, with its word, and whether it was received. That is as the state has it.
use Rattle.std.specs.Prelude.{◌≡◌, refl, List, [], true, false, ◌||◌, ◌≢◌, ℕ, ◌+◌, ◌≤◌, eqb, length}
use Rattle.std.proofs.Common.{arith, eq-eqb, eqb-true, leb-true}
use Rattle.std.proofs.lemmas.Bool.{eqb-false}
use Rattle.lists.specs.Laws.{by_test}
use Rattle.rules.specs.Model.{Place, Code, last_number, Empty, Sending, Awaiting, Thread, Model, thread}
use Rattle.rules.specs.Consistent.{as_table, Consistent}
use Rattle.depot.specs.Text.{ascii}
use Rattle.depot.specs.Digits.{value_decimal}
use Rattle.depot.specs.Reads.{lines_in}
use Rattle.depot.specs.Report.{is_load, loads, loads_line, load_line, lengthy, last_line, image_refused, state_after, loads_of, refused, loaded}
use Rattle.depot.specs.Sheets.{Reader}
use Rattle.depot.proofs.Sheets.{lines_count, text_back, none_back, text_all}
use Rattle.depot.specs.declared.Sheet.TheVariants.{Pay}
use Rattle.depot.specs.Owed.{Load, load_at, owed, tells_load, load_in, loads_in}

-- Of a thread there is a load just where it is in one of the two standings of a send that is not answered.
pub each_load : (t : Thread) → Sending ≤ t.standing → t.standing ≤ Awaiting → is_load t ≡ true
each_load t h k =
    by_test (eqb t.standing Sending) (λ e. rw e refl)
    (λ e. let n = eqb-false t.standing Sending e in let z : t.standing ≡ Awaiting = omega (arith, n) in rw e (eq-eqb t.standing Awaiting z))

pub no_other : (t : Thread) → is_load t ≡ true → (Sending ≤ t.standing) × (t.standing ≤ Awaiting)
no_other t =
    by_test (eqb t.standing Sending)
    (λ e. let a = eqb-true t.standing Sending e in λ h. (omega arith, omega arith))
    (λ e. rw e (λ h. let a = eqb-true t.standing Awaiting h in (omega arith, omega arith)))

-- ---- a line tells of its load

-- Whoever sends or awaits a reply lives, and his partner is a number.
load_fits : (x n w : ℕ) → eqb x Sending || eqb x Awaiting ≡ true → (x ≢ Empty) × (as_table x n w ≡ true → n ≤ last_number)
load_fits x n w = by_test (eqb x Sending)
    (λ e. rw e (λ h. let z : x ≡ Sending = eqb-true x Sending e in rw z ((λ y. absurd (omega arith)), λ t. leb-true n last_number t)))
    (λ e. rw e (λ h. let z : x ≡ Awaiting = eqb-true x Awaiting h in rw z ((λ y. absurd (omega arith)), λ t. leb-true n last_number t)))

own_line : (m : Model) → Consistent m → (p : Place) → is_load (thread m p) ≡ true
    → (tells_load (load_line (thread m p)) ≡ true) × (load_in (load_line (thread m p)) ≡ load_at m p)
unfolding ascii
own_line m C p h =
    let t = thread m p in
    let f = load_fits t.standing t.partner t.word h in
    let a = C.old.numbers p f.0 in
    let b = f.1 (C.old.table p f.0) in
    let c = (C.old.words p).0 in (
      refl,
      rw (value_decimal t.number (omega arith), value_decimal t.partner (omega arith), value_decimal t.word (omega arith))
          (by_test (eqb t.standing Awaiting) (λ e. rw e) (λ e. rw e)),
    )

not_first : (m : Model) → tells_load (loads_line m) ≡ false
unfolding ascii
not_first m = refl

not_last : (log : List ℕ) → tells_load (last_line log) ≡ false
unfolding ascii
not_last log = by_test (lengthy log) (λ t. rw t) (λ t. rw t)

not_refused : (c : Code) → tells_load (image_refused c) ≡ false
unfolding ascii
not_refused c = refl

abbrev reader : Reader Pay Load
reader = record {
  knows = tells_load;
  makes = load_in;
  stands = load_at;
  own = own_line;
  not_first = not_first;
  not_next = λ x l h. rw h;
  not_last = not_last;
  not_refused = not_refused;
}

-- ---- what the sheet promises

-- A line for each load, and two more.
pub owed_count : (m : Model) (log : List ℕ) → length (lines_in (loads_of (loaded m) log)) ≡ loads (state_after m log) + 2
owed_count m log = let e = lines_count Pay m log in omega arith

-- What it tells of the loads, by rising place of their senders, is what they are, and it tells of no other.
pub owed_back : (m : Model) (log : List ℕ) → Consistent (state_after m log) → loads_in (loads_of (loaded m) log) ≡ owed (state_after m log)
owed_back m log C = text_back reader m log C

pub owed_none : (c : Code) (log : List ℕ) → loads_in (loads_of (refused c) log) ≡ []
owed_none c log = none_back reader c log

-- So the same sheet tells of the same loads.
pub owed_all : (m n : Model) (log log' : List ℕ) → Consistent (state_after m log) → Consistent (state_after n log')
    → loads_of (loaded m) log ≡ loads_of (loaded n) log' → owed (state_after m log) ≡ owed (state_after n log')
owed_all m n log log' C D e = text_all reader m n log log' C D e
