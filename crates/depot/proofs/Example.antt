-- THE DOCUMENT'S OWN TEXT (document 02, P7): for document 01's 43-byte image and an empty log. It is computed, and whoever meets the promise has it; and so are
-- texts with each of the other words, and the one line for nothing at all.
use Rattle.std.specs.Prelude.{◌≡◌, refl, List, [], ◌∷◌, ◌++◌, ℕ, zero, suc, ◌≤◌, ◌<◌, length}
use Rattle.std.proofs.Common.{ap, ◌∙◌, arith, lt-ltb}
use Rattle.lists.specs.Lists.{tally}
use Rattle.lists.specs.Sizes.{queue_count}
use Rattle.lists.specs.Tables.{all_same}
use Rattle.rules.specs.Values.{nobody}
use Rattle.rules.specs.Model.{Place, Empty, Thread, vacant, Model, thread, line, all_places}
use Rattle.rules.specs.Rules.{first_free, outside, fresh, after}
use Rattle.rules.specs.declared.Event.TheVariants.{Create, WaitClock, SliceEnd, Tick}
use Rattle.order.proofs.Keeps.{fresh_consistent}
use Rattle.order.proofs.Always.{always}
use Rattle.rules.specs.Devices.{all_devices}
use Rattle.journal.specs.Format.{length_of, event_of, read_from, read_at}
use Rattle.saving.specs.Format.{queues_of, parents_of, places_of, row_of, queues_in, encode_as}
use Rattle.saving.specs.Editions.{known_of}
use Rattle.loading.specs.Loads.{Image, by_head}
use Rattle.logging.specs.Log.{limit, parsed}
use Rattle.depot.specs.Text.{ascii, line_bytes}
use Rattle.depot.specs.Decimal.{digits}
use Rattle.depot.specs.Report.{loaded, refused, state_after, last_line, text_of, report_of, loads_of}
use Rattle.depot.specs.Promise.{Finds, found, unloaded, handed, Tells}
use Rattle.depot.proofs.Once.{finds_one}
use Rattle.depot.specs.declared.Sheet.{Sheet}
use Rattle.depot.specs.declared.Sheet.TheVariants.{Report}
use Rattle.depot.specs.declared.Told.{Told}
use Rattle.depot.specs.Example.{image}

-- ---- the image

-- Two threads, of which neither has a parent: the second was created while nobody ran.
abbrev two : Model
two = after (Create ∷ WaitClock ∷ Create ∷ Tick ∷ SliceEnd ∷ []) fresh

no_queue : (q : ℕ) → 2 ≤ q → q < queue_count → line two q ≡ []
unfolding all_places tally first_free
no_queue zero h k = absurd (omega arith)
no_queue (suc zero) h k = absurd (omega arith)
no_queue (suc (suc q)) h k = all_same 112 q []

no_other : (p : Place) → thread two (suc (suc p)) ≡ vacant
unfolding all_places tally first_free
no_other p = all_same 62 p vacant

no_parent : (p : Place) → (thread two p).parent ≡ nobody
unfolding all_places tally first_free
no_parent zero = refl
no_parent (suc zero) = refl
no_parent (suc (suc p)) = ap (λ (t : Thread). t.parent) (no_other p)

no_place : (p : Place) → 32 ≤ p → (thread two p).standing ≡ Empty
no_place zero h = absurd (omega arith)
no_place (suc zero) h = absurd (omega arith)
no_place (suc (suc p)) h = ap (λ (t : Thread). t.standing) (no_other p)

two_image : Image two image
unfolding queues_of parents_of places_of queues_in encode_as all_places tally first_free
two_image = (
  row_of 1,
  record {
    known = known_of 1 (λ z. omega arith);
    consistent = always (Create ∷ WaitClock ∷ Create ∷ Tick ∷ SliceEnd ∷ []) fresh fresh_consistent (omega arith, (omega arith, (omega arith, (omega arith, (omega arith, tt)))));
    holds = record { queues = no_queue; parents = λ z. no_parent; places = λ p h k. no_place p h };
    bytes = refl;
  },
)

-- ---- its texts
report_counted : report_of (loaded two) [] ≡ ascii "threads 2 ready 1 clock 0\n0 place 0 running\n1 place 1 ready\nnext run 0\nlog 0 records 0 bytes whole\n"
unfolding ascii digits text_of parsed read_from read_at all_places tally first_free
report_counted = refl

loads_counted : loads_of (loaded two) [] ≡ ascii "loads 0\nlog 0 records 0 bytes whole\n"
unfolding ascii digits text_of parsed read_from read_at all_places tally first_free
loads_counted = refl

-- Nothing lives, and a byte of no kind; one who waits for the clock; one whom nobody can wake.
halts : report_of (loaded fresh) (0 ∷ []) ≡ ascii "threads 0 ready 0 clock 0\nnext halt\nlog 0 records 0 bytes unknown\n"
unfolding ascii digits text_of parsed length_of event_of read_from read_at all_places all_devices outside tally first_free
halts = refl

sleeps : report_of (loaded fresh) (1 ∷ 6 ∷ []) ≡ ascii "threads 1 ready 0 clock 1\n0 place 0 clock\nnext wait\nlog 2 records 2 bytes whole\n"
unfolding ascii digits text_of parsed length_of event_of read_from read_at all_places all_devices outside tally first_free
sleeps = refl

sticks : report_of (loaded fresh) (1 ∷ 3 ∷ 255 ∷ []) ≡ ascii "threads 1 ready 0 clock 0\n0 place 0 receiving any\nnext stuck\nlog 2 records 3 bytes whole\n"
unfolding ascii digits text_of parsed length_of event_of read_from read_at all_places all_devices outside tally first_free
sticks = refl

-- Every standing at once, and a record that is cut short: nine are created; 0 waits for the clock, 1 at device 33, 2 receives any, 3 from 5; 4 sends 7 to 5,
-- and 5 sends 9 to 6, which receives it.
abbrev busy : List ℕ
busy =
    1 ∷ 1 ∷ 1 ∷ 1 ∷ 1 ∷ 1 ∷ 1 ∷ 1 ∷ 1
    ∷ 6
    ∷ 9 ∷ 33
    ∷ 3 ∷ 255
    ∷ 3 ∷ 5
    ∷ 2 ∷ 5 ∷ 7 ∷ 0 ∷ 0 ∷ 0
    ∷ 2 ∷ 6 ∷ 9 ∷ 0 ∷ 0 ∷ 0
    ∷ 3 ∷ 5
    ∷ 2 ∷ []

everyone : report_of (loaded fresh) busy
    ≡ ascii "threads 9 ready 2 clock 1\n0 place 0 clock\n1 place 1 device 33\n2 place 2 receiving any\n3 place 3 receiving from 5\n"
    ++ ascii "4 place 4 sending to 5\n5 place 5 awaiting 6\n6 place 6 running\n7 place 7 ready\n8 place 8 ready\nnext run 6\nlog 16 records 30 bytes torn\n"
unfolding ascii digits text_of parsed length_of event_of read_from read_at all_places all_devices outside tally first_free
everyone = refl

everything : loads_of (loaded fresh) busy
    ≡ ascii "loads 2\nload from 4 to 5 word 7 not received\nload from 5 to 6 word 9 received\nlog 16 records 30 bytes torn\n"
unfolding ascii digits text_of parsed length_of event_of read_from read_at all_places all_devices outside tally first_free
everything = refl

-- A log over the limit: nothing of it happens, and this is the last line.
over_limit : (m : Model) (log : List ℕ) → limit < length log → (state_after m log ≡ m) × (line_bytes (last_line log) ≡ ascii "log refused 11\n")
unfolding ascii digits
over_limit m log h = rw (lt-ltb limit (length log) h) (refl, refl)

-- Whoever meets the promise gives this text.
pub counted : {out : List ℕ} {t : Told × List ℕ} → Tells Report image [] out t
    → t ≡ handed (ascii "threads 2 ready 1 clock 0\n0 place 0 running\n1 place 1 ready\nnext run 0\nlog 0 records 0 bytes whole\n") out
counted {out} T =
    let e = finds_one T.finds (found (omega arith) two two_image refl) in
    T.told ∙ ap (λ (t : List ℕ). handed t out) (ap (λ x. report_of x []) e ∙ report_counted)

-- nothing at all
nothing_found : Finds [] (refused 8)
nothing_found = unloaded (omega arith) 8 (by_head (λ z. absurd (omega arith)) refl) refl

pub nothing : (s : Sheet) {log out : List ℕ} {t : Told × List ℕ} → Tells s [] log out t → t ≡ handed (ascii "image refused 8\n") out
unfolding ascii digits text_of
nothing s {log} {out} T = T.told ∙ ap (λ x. handed (text_of s x log) out) (finds_one T.finds nothing_found)
