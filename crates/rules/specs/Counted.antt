-- "Loads that were counted" (document 01): the starred cases that need no image and no log, and cases of document 02's P1 to P3 and P5, as one table, and one
-- fact that covers it.
use Rattle.std.specs.Prelude.{ℕ, ◌≡◌, refl, List, [], ◌∷◌, ◌++◌, map, cond, eqb}
use Rattle.lists.specs.Lists.{tally}
use Rattle.rules.specs.Values.{nobody}
use Rattle.rules.specs.Model.{last_number, Running, Ready, Waiting, Receiving, AtDevice, Thread, vacant, Model, thread, all_places}
use Rattle.rules.specs.Rules.{first_free, end_down, outside, fresh, gave, choice, after, Outcome, outcome}
use Rattle.rules.specs.Devices.{all_devices}
use Rattle.rules.specs.declared.Device.{Device}
use Rattle.rules.specs.declared.Pending.{Pending}
use Rattle.rules.specs.declared.Number.{Number}
use Rattle.rules.specs.declared.Event.{Event}
use Rattle.rules.specs.declared.Event.TheVariants.{Create, Send, Receive, Reply, End, WaitClock, SliceEnd, Tick, WaitDevice, Interrupt}
use Rattle.rules.specs.declared.Choice.{Choice}
use Rattle.rules.specs.declared.Choice.TheVariants.{Run, Halt, Wait, Stuck}

-- a number as the code has it
abbrev pub no : ℕ → Number
no n = record { 0 = n }

-- a device, and the pending sets of one index in the low digits and in the high ones, 32 and 33 being the lowest of these
abbrev pub dev : ℕ → Device
dev i = record { 0 = i }

abbrev pub pending : ℕ → ℕ → Pending
pending l h = record { low = l; high = h }

-- what is seen once the events of a case have come: the last one's code and number, the choice, and the thread at a place looked at
pub record Seen : Type 0 where
  pub code : ℕ
  pub number : ℕ
  pub choice : Choice
  pub thread : Thread

pub record Case : Type 0 where
  pub start : Model
  pub events : List Event
  pub place : ℕ
  pub seen : Seen

-- what the rules give, event by event
abbrev pub played : Outcome → List Event → ℕ → Seen
played o [] p = record { code = o.code; number = o.number; choice = o.choice; thread = thread o.state p }
played o (e ∷ es) p = played (outcome e o.state) es p

-- before any event
abbrev pub begun : Model → Outcome
begun m = record { state = m; code = 0; choice = choice m; number = nobody }

abbrev pub found : Case → Seen
found c = played (begun c.start) c.events c.place

-- thread 0 is created with nobody running, and any other while 0 runs, unless it is said to be started by another
abbrev parent_as : ℕ → ℕ
parent_as n = cond (eqb n 0) nobody 0

abbrev thread_as : ℕ → ℕ → ℕ → ℕ → ℕ → ℕ → ℕ → Thread
thread_as n st pa w c k a = record { number = n; standing = st; partner = pa; word = w; code = c; who = k; answer = a; parent = parent_as n }

-- the thread n with the answer c, k, a: running ..
abbrev runner : ℕ → ℕ → ℕ → ℕ → Thread
runner n c k a = thread_as n Running nobody 0 c k a

-- .. and ready
abbrev queued : ℕ → ℕ → ℕ → ℕ → Thread
queued n c k a = thread_as n Ready nobody 0 c k a

abbrev started_by : ℕ → Thread → Thread
started_by n t = record { number = t.number; standing = t.standing; partner = t.partner; word = t.word; code = t.code; who = t.who; answer = t.answer; parent = n }

abbrev case : Model → List Event → ℕ → ℕ → ℕ → Choice → Thread → Case
case m es p c n x t = record { start = m; events = es; place = p; seen = record { code = c; number = n; choice = x; thread = t } }

-- the histories that the cases share
abbrev pub one : List Event
one = Create ∷ []

abbrev pair : List Event
pair = Create ∷ Create ∷ []

abbrev met : List Event
met = Create ∷ Create ∷ Receive (no nobody) ∷ Send (no 0) 7 ∷ []

abbrev pub dropped : List Event
dropped = Create ∷ Create ∷ Send (no 1) 7 ∷ End (no 1) ∷ []

abbrev pub left_holding : List Event
left_holding = Create ∷ Create ∷ Receive (no nobody) ∷ Send (no 0) 7 ∷ End (no 1) ∷ []

abbrev pub ready_holding : List Event
ready_holding = Create ∷ Create ∷ Create ∷ SliceEnd ∷ Send (no 2) 7 ∷ End (no 2) ∷ []

-- 1 is created while nobody runs, since 0 waits for the clock: so it is not ended with 0
abbrev pub first_ended : List Event
first_ended = Create ∷ WaitClock ∷ Create ∷ End (no 0) ∷ []

-- 0 creates 1 and 2, and 1, once it runs, creates 3
abbrev pub family : List Event
family = Create ∷ Create ∷ Create ∷ SliceEnd ∷ Create ∷ []

unfoldable pub cases : List Case
cases =
    -- Fresh: choice halt.
    case fresh [] 0 0 nobody Halt vacant
    -- Create twice: numbers 0, 1; 0 runs.
    ∷ case fresh one 0 0 0 (Run (no 0)) (runner 0 0 nobody 0)
    ∷ case fresh pair 1 0 1 (Run (no 0)) (queued 1 0 nobody 0)
    -- Then 0 receives any: 1 runs.
    ∷ case fresh (pair ++ (Receive (no nobody) ∷ [])) 1 0 nobody (Run (no 1)) (runner 1 0 nobody 0)
    -- 1 sends 7 to 0: 0 runs with answer 0, 1, 7.
    ∷ case fresh met 0 0 nobody (Run (no 0)) (runner 0 0 1 7)
    -- 0 replies 9: 1 runs with 0, 0, 9; 0 is ready.
    ∷ case fresh (met ++ (Reply (no 1) 9 ∷ [])) 1 0 nobody (Run (no 1)) (runner 1 0 0 9)
    ∷ case fresh (met ++ (Reply (no 1) 9 ∷ [])) 0 0 nobody (Run (no 1)) (queued 0 0 1 7)
    -- From the pair: 0 sends 7 to 1, then 1 is ended: 0 runs with 16, 1, 7.
    ∷ case fresh dropped 0 0 nobody (Run (no 0)) (runner 0 16 1 7)
    -- The next create gives number 2 in place 1.
    ∷ case fresh (dropped ++ (Create ∷ [])) 1 0 2 (Run (no 0)) (queued 2 0 nobody 0)
    -- Thread 0 alone sends to 254, 0, 5: codes 2, 3, 4.
    ∷ case fresh (one ++ (Send (no 254) 7 ∷ [])) 0 2 nobody (Run (no 0)) (runner 0 0 nobody 0)
    ∷ case fresh (one ++ (Send (no 0) 7 ∷ [])) 0 3 nobody (Run (no 0)) (runner 0 0 nobody 0)
    ∷ case fresh (one ++ (Send (no 5) 7 ∷ [])) 0 4 nobody (Run (no 0)) (runner 0 0 nobody 0)
    -- Last given 253, only 0 live: create gives 1.
    ∷ case (gave last_number (after one fresh)) one 1 0 1 (Run (no 0)) (queued 1 0 nobody 0)
    -- 0 alone waits for the clock: wait; tick: run 0.
    ∷ case fresh (one ++ (WaitClock ∷ [])) 0 0 nobody Wait (thread_as 0 Waiting nobody 0 0 nobody 0)
    ∷ case fresh (one ++ (WaitClock ∷ Tick ∷ [])) 0 0 nobody (Run (no 0)) (runner 0 0 nobody 0)
    -- 0 alone receives any: stuck, and a tick leaves it so.
    ∷ case fresh (one ++ (Receive (no nobody) ∷ [])) 0 0 nobody Stuck (thread_as 0 Receiving nobody 0 0 nobody 0)
    ∷ case fresh (one ++ (Receive (no nobody) ∷ Tick ∷ [])) 0 0 nobody Stuck (thread_as 0 Receiving nobody 0 0 nobody 0)
    -- P1. 0 alone waits at device 33: wait. Event 10 with that bit and status 5: run 0 with answer 0, 255, 5.
    ∷ case fresh (one ++ (WaitDevice (dev 33) ∷ [])) 0 0 nobody Wait (thread_as 0 AtDevice 33 0 0 nobody 0)
    ∷ case fresh (one ++ (WaitDevice (dev 33) ∷ Interrupt (pending 0 2) 5 ∷ [])) 0 0 nobody (Run (no 0)) (runner 0 0 nobody 5)
    -- A set whose first bit has no waiter changes nothing, and so does the empty set; a tick wakes no device waiter.
    ∷ case fresh (one ++ (WaitDevice (dev 33) ∷ Interrupt (pending 0 3) 5 ∷ [])) 0 0 nobody Wait (thread_as 0 AtDevice 33 0 0 nobody 0)
    ∷ case fresh (one ++ (WaitDevice (dev 33) ∷ Interrupt (pending 2147483648 2) 5 ∷ [])) 0 0 nobody Wait (thread_as 0 AtDevice 33 0 0 nobody 0)
    ∷ case fresh (one ++ (WaitDevice (dev 33) ∷ Interrupt (pending 0 0) 5 ∷ [])) 0 0 nobody Wait (thread_as 0 AtDevice 33 0 0 nobody 0)
    ∷ case fresh (one ++ (WaitDevice (dev 33) ∷ Tick ∷ [])) 0 0 nobody Wait (thread_as 0 AtDevice 33 0 0 nobody 0)
    -- Two waiters, first come first: 1 waits at device 31 and then 0, and the first interrupt there is 1's.
    ∷ case fresh (pair ++ (SliceEnd ∷ WaitDevice (dev 31) ∷ WaitDevice (dev 31) ∷ Interrupt (pending 2147483648 65535) 8 ∷ [])) 1 0 nobody (Run (no 1)) (runner 1 0 nobody 8)
    ∷ case fresh (pair ++ (SliceEnd ∷ WaitDevice (dev 31) ∷ WaitDevice (dev 31) ∷ Interrupt (pending 2147483648 65535) 8 ∷ [])) 0 0 nobody (Run (no 1)) (thread_as 0 AtDevice 31 0 0 nobody 0)
    ∷ case fresh (pair ++ (SliceEnd ∷ WaitDevice (dev 31) ∷ WaitDevice (dev 31) ∷ Interrupt (pending 2147483648 0) 8 ∷ Interrupt (pending 2147483648 0) 9 ∷ [])) 0 0 nobody (Run (no 1)) (queued 0 0 nobody 9)
    -- Device 48 is none: 2; with nobody running: 1; a thread may wait at the device whose index is its own number, and is ended there.
    ∷ case fresh (one ++ (WaitDevice (dev 48) ∷ [])) 0 2 nobody (Run (no 0)) (runner 0 0 nobody 0)
    ∷ case fresh (WaitDevice (dev 48) ∷ []) 0 1 nobody Halt vacant
    ∷ case fresh (one ++ (WaitDevice (dev 0) ∷ End (no 0) ∷ [])) 0 0 nobody Halt vacant
    -- P2. 0 receives from 1, 1 is ended by itself: 0 runs with 16, 1, 0.
    ∷ case fresh (pair ++ (Receive (no 1) ∷ End (no 1) ∷ [])) 0 0 nobody (Run (no 0)) (runner 0 16 1 0)
    -- The answer's word is 0, and not that of the last answer. (0 had 7 from 1, and replied.)
    ∷ case fresh (met ++ (Reply (no 1) 9 ∷ SliceEnd ∷ Receive (no 1) ∷ End (no 1) ∷ [])) 0 0 nobody (Run (no 0)) (runner 0 16 1 0)
    -- Receive from a dead number: 4, after 3 and 2; from any, or from one that lives: 0.
    ∷ case fresh (one ++ (Receive (no 5) ∷ [])) 0 4 nobody (Run (no 0)) (runner 0 0 nobody 0)
    ∷ case fresh (one ++ (Receive (no 0) ∷ [])) 0 3 nobody (Run (no 0)) (runner 0 0 nobody 0)
    ∷ case fresh (one ++ (Receive (no 254) ∷ [])) 0 2 nobody (Run (no 0)) (runner 0 0 nobody 0)
    ∷ case fresh (pair ++ (Receive (no 1) ∷ [])) 0 0 nobody (Run (no 1)) (thread_as 0 Receiving 1 0 0 nobody 0)
    -- P3. Last given 253, only 0 live, its answer's who 1, be it 16, 1, 7 or 0, 1, 7: create gives 2. Once 0 has another answer, create gives 1.
    ∷ case (gave last_number (after dropped fresh)) one 1 0 2 (Run (no 0)) (queued 2 0 nobody 0)
    ∷ case (gave last_number (after left_holding fresh)) one 1 0 2 (Run (no 0)) (queued 2 0 nobody 0)
    ∷ case (gave last_number (after dropped fresh)) (WaitClock ∷ Tick ∷ Create ∷ []) 1 0 1 (Run (no 0)) (queued 1 0 nobody 0)
    -- 0 runs, and 1, which is ready, has the answer 16, 2, 7: create gives 3.
    ∷ case (gave last_number (after ready_holding fresh)) one 2 0 3 (Run (no 0)) (queued 3 0 nobody 0)
    -- Who 255 is nobody, and bars no number: last given 253, only 1 live, its answer 0, 255, 0: create gives 0.
    ∷ case (gave last_number (after first_ended fresh)) one 0 0 0 (Run (no 1)) (started_by 1 (queued 0 0 nobody 0))
    -- A freed number that nobody holds is not given again at once either: 1 is ended, and the next create gives 2.
    ∷ case fresh (pair ++ (End (no 1) ∷ Create ∷ [])) 1 0 2 (Run (no 0)) (queued 2 0 nobody 0)
    -- A number that is held and not live is still refused: 4.
    ∷ case fresh (dropped ++ (Send (no 1) 7 ∷ [])) 0 4 nobody (Run (no 0)) (runner 0 16 1 7)
    -- P5. The parent of a thread is the number running at its creation, or 255.
    ∷ case fresh family 3 0 3 (Run (no 1)) (started_by 1 (queued 3 0 nobody 0))
    ∷ case fresh (one ++ (WaitClock ∷ Create ∷ [])) 1 0 1 (Run (no 1)) (started_by nobody (runner 1 0 nobody 0))
    -- 1 is ended, and 3 with it; 2 and 0 stay, and 2, the front of ready, runs.
    ∷ case fresh (family ++ (End (no 1) ∷ [])) 3 0 nobody (Run (no 2)) vacant
    ∷ case fresh (family ++ (End (no 1) ∷ [])) 2 0 nobody (Run (no 2)) (runner 2 0 nobody 0)
    ∷ case fresh (family ++ (End (no 1) ∷ [])) 0 0 nobody (Run (no 2)) (queued 0 0 nobody 0)
    -- 0 is ended, and all with it.
    ∷ case fresh (family ++ (End (no 0) ∷ [])) 2 0 nobody Halt vacant
    -- 1 sends to its child 3, and is ended: 3 goes first and wakes 1, which is ended in its turn.
    ∷ case fresh (family ++ (Send (no 3) 7 ∷ End (no 1) ∷ [])) 1 0 nobody (Run (no 2)) vacant
    ∷ []

pub counted : map found cases ≡ map (λ c. c.seen) cases
unfolding cases all_places all_devices outside first_free tally end_down
counted = refl
