-- WHAT ONE READS OFF A REPORT: who lives, at which place, in which standing and with which partner. All of it is as the state has it.
use Rattle.std.specs.Prelude.{◌≡◌, refl, List, [], ◌∷◌, ◌++◌, map, Bool, true, false, cond, ◌&&◌, ◌||◌, ℕ, ◌+◌, eqb, ltb, length}
use Rattle.std.proofs.Common.{sym, ap, ◌∙◌, arith, eqb-true, ltb-true, leb-true}
use Rattle.std.proofs.Math.Bool.{or-false}
use Rattle.std.proofs.lemmas.Bool.{not-false}
use Rattle.lists.specs.Lists.{among, only}
use Rattle.lists.specs.Laws.{by_test, never, and_left}
use Rattle.lists.specs.Counts.{some_among}
use Rattle.rules.specs.Values.{nobody}
use Rattle.rules.specs.Model.{Place, Code, Number, devices, last_number, Empty, Running, Ready, Sending, Awaiting, Receiving, Waiting, AtDevice, Thread, vacant, Model, thread, all_places, lives_at, live}
use Rattle.rules.specs.Consistent.{is_number, as_table, Consistent}
use Rattle.rules.specs.declared.Choice.{Choice}
use Rattle.rules.specs.declared.Choice.TheVariants.{Run, Halt, Wait, Stuck}
use Rattle.order.specs.Sound.{inside}
use Rattle.order.specs.Places.{every_place, lives_at_lem}
use Rattle.depot.specs.Text.{ascii, Line}
use Rattle.depot.specs.Decimal.{decimal, value}
use Rattle.depot.specs.Digits.{value_decimal}
use Rattle.depot.specs.Reads.{lines_in, same, picked}
use Rattle.depot.specs.Report.{standing_words, thread_line, next_lines, lengthy, last_line, image_refused, state_after, report_of, refused, loaded}
use Rattle.depot.specs.Sheets.{Reader}
use Rattle.depot.proofs.Sheets.{lines_count, no_number_lem, text_back, none_back, text_all}
use Rattle.depot.specs.declared.Sheet.TheVariants.{Report}
use Rattle.depot.specs.Crew.{Seen, seen, seen_at, crew, standing_in, partner_in, is_thread, seen_in, crew_in}

-- ---- a line tells of its thread

-- the three kinds of partner: none, a number, a device's index
nobody_back : (n : Number) (b : Bool) → eqb n nobody && b ≡ true → nobody ≡ n
nobody_back n b h = sym (eqb-true n nobody (and_left (eqb n nobody) b h))

number_back : (n : Number) → is_number n ≡ true → value (decimal n) ≡ n
number_back n h = let b = leb-true n last_number h in value_decimal n (omega arith)

device_back : (n : Number) (b : Bool) → ltb n devices && b ≡ true → value (decimal n) ≡ n
device_back n b h = let l = ltb-true n devices (and_left (ltb n devices) b h) in value_decimal n (omega arith)

-- These words say which standing it is, and with whom.
record Says (ws : Line) (x n : ℕ) : Type 0 where
  standing : standing_in ws ≡ x
  partner : partner_in ws ≡ n

says : (ws : Line) (x k n : ℕ) → standing_in ws ≡ k → eqb x k ≡ true → partner_in ws ≡ n → Says ws x n
says ws x k n e t f = record { standing = e ∙ sym (eqb-true x k t); partner = f }

-- So they do of each of the standings, as the table has it.
words_back : (t : Thread) → as_table t.standing t.partner t.word ≡ true → Says (standing_words t) t.standing t.partner
unfolding ascii
words_back t =
    let x = t.standing in
    let n = t.partner in
    let w = eqb t.word 0 in
    let any : same (decimal n) (ascii "any") ≡ false = no_number_lem n _ _ (omega arith) in
    by_test (eqb x Running) (λ e. rw e (λ h. says _ x Running n refl e (nobody_back n w h)))
    (λ a. rw a (by_test (eqb x Ready) (λ e. rw e (λ h. says _ x Ready n refl e (nobody_back n w h)))
    (λ b. rw b (by_test (eqb x Sending) (λ e. rw e (λ h. says _ x Sending n refl e (number_back n h)))
    (λ c. rw c (by_test (eqb x Awaiting) (λ e. rw e (λ h. says _ x Awaiting n refl e (rw any (number_back n h))))
    (λ d. rw d (by_test (eqb x Receiving)
    (λ e. rw e (by_test (eqb n nobody) (λ u. rw u (λ h. says _ x Receiving n refl e (sym (eqb-true n nobody u))))
    (λ u. rw u (λ h. says _ x Receiving n refl e (number_back n (sym (or-false (is_number n)) ∙ and_left (is_number n || false) w h))))))
    (λ f. rw f (by_test (eqb x Waiting) (λ e. rw e (λ h. says _ x Waiting n refl e (nobody_back n w h)))
    (λ g. rw g (by_test (eqb x AtDevice) (λ e. rw e (λ h. says _ x AtDevice n refl e (rw any (device_back n w h))))
    (λ k. rw k (λ h. never h refl))))))))))))))

own_line : (m : Model) → Consistent m → (p : Place) → lives_at m p ≡ true
    → (is_thread (thread_line p (thread m p)) ≡ true) × (seen_in (thread_line p (thread m p)) ≡ seen_at m p)
unfolding ascii
own_line m C p h =
    let l = lives_at_lem m p h in
    let b = C.old.numbers p l in
    let i = inside m C.old.threads p l in
    let w = words_back (thread m p) (C.old.table p l) in
    (refl, rw (value_decimal (thread m p).number (omega arith), value_decimal p (omega arith), w.standing, w.partner))

not_next : (x : Choice) (l : Line) → is_thread l ≡ false → picked is_thread seen_in (next_lines Report x ++ (l ∷ [])) ≡ []
unfolding ascii
not_next (Run n) l h = rw h
not_next Halt l h = rw h
not_next Wait l h = rw h
not_next Stuck l h = rw h

not_place : (n : ℕ) → same (decimal n) (ascii "place") ≡ false
unfolding ascii
not_place n = no_number_lem n _ _ (omega arith)

not_last : (log : List ℕ) → is_thread (last_line log) ≡ false
unfolding ascii
not_last log = by_test (lengthy log) (λ t. rw t) (λ t. rw t (not_place _))

not_refused : (c : Code) → is_thread (image_refused c) ≡ false
unfolding ascii
not_refused c = refl

abbrev reader : Reader Report Seen
reader = record {
  knows = is_thread;
  makes = seen_in;
  stands = seen_at;
  own = own_line;
  not_first = λ m. not_place (live m);
  not_next = not_next;
  not_last = not_last;
  not_refused = not_refused;
}

-- ---- what the report promises

-- A line for each live thread, and three more.
pub crew_count : (m : Model) (log : List ℕ) → length (lines_in (report_of (loaded m) log)) ≡ live (state_after m log) + 3
crew_count m log = let e = lines_count Report m log in omega arith

-- What it tells of the threads, by rising place, is what they are, and it tells of no other.
pub told_back : (m : Model) (log : List ℕ) → Consistent (state_after m log) → crew_in (report_of (loaded m) log) ≡ crew (state_after m log)
told_back m log C = text_back reader m log C

pub told_none : (c : Code) (log : List ℕ) → crew_in (report_of (refused c) log) ≡ []
told_none c log = none_back reader c log

-- who of a crew is at a place; where there is none, what an empty place holds
abbrev who_at : Place → List Seen → Seen
who_at p [] = seen p vacant
who_at p (x ∷ xs) = cond (eqb x.place p) x (who_at p xs)

at_place : (m : Model) → Consistent m → (p : Place) (ps : List Place) → (lives_at m p ≡ true → among p ps ≡ true)
    → who_at p (map (seen_at m) (only (lives_at m) ps)) ≡ seen_at m p
at_place m C p [] h = by_test (lives_at m p) (λ t. never (h t) refl) (λ t. sym (ap (seen p) (C.old.clean p (eqb-true _ Empty (not-false _ t)))))
at_place m C p (q ∷ ps) h =
    let ih = at_place m C p ps in
    by_test (eqb q p)
    (λ e. let z : q ≡ p = eqb-true q p e in by_test (lives_at m q) (λ t. rw (t, e) (ap (seen_at m) z)) (λ t. rw t (ih (λ l. never l (rw z at t)))))
    (λ e. let i = ih (λ l. rw e at (h l)) in by_test (lives_at m q) (λ t. rw (t, e) i) (λ t. rw t i))

on_board : (m : Model) → Consistent m → (p : Place) → who_at p (crew m) ≡ seen_at m p
on_board m C p = at_place m C p all_places (λ l. some_among p all_places (every_place p (inside m C.old.threads p (lives_at_lem m p l))))

-- So the same report tells of the same crew, ..
pub told_all : (m n : Model) (log log' : List ℕ) → Consistent (state_after m log) → Consistent (state_after n log')
    → report_of (loaded m) log ≡ report_of (loaded n) log' → crew (state_after m log) ≡ crew (state_after n log')
told_all m n log log' C D e = text_all reader m n log log' C D e

-- .. and place by place number, standing and partner are the same.
pub told_each : (m n : Model) (log log' : List ℕ) → Consistent (state_after m log) → Consistent (state_after n log')
    → report_of (loaded m) log ≡ report_of (loaded n) log' → (p : Place) → seen_at (state_after m log) p ≡ seen_at (state_after n log') p
told_each m n log log' C D e p = sym (on_board (state_after m log) C p) ∙ ap (who_at p) (told_all m n log log' C D e) ∙ on_board (state_after n log') D p
