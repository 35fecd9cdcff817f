-- The numbers and values that documents 01 and 02 give to each case of an enum; those of a choice are ours (docs/DECISIONS.md).
use Rattle.std.specs.Prelude.{ℕ, Option, Some, None, Result, Ok, Err, cond, eqb}
use Rattle.lists.specs.Lists.{none}
use Rattle.rules.specs.declared.Place.{Place}
use Rattle.rules.specs.declared.Device.{Device}
use Rattle.rules.specs.declared.Pending.{Pending}
use Rattle.rules.specs.declared.Event.{Event}
use Rattle.rules.specs.declared.Event.TheVariants.{Create, Send, Receive, Reply, End, WaitClock, SliceEnd, Tick, WaitDevice, Interrupt}
use Rattle.rules.specs.declared.Refusal.{Refusal}
use Rattle.rules.specs.declared.Refusal.TheVariants.{Idle, NoNumber, OwnNumber, NotLive, NotAwaiting, Full}
use Rattle.rules.specs.declared.Choice.{Choice}
use Rattle.rules.specs.declared.Choice.TheVariants.{Run, Halt, Wait, Stuck}

-- 255 means nobody, or anyone
abbrev pub nobody : ℕ
nobody = 255

-- The ten events, by their numbers
abbrev pub kind_of : Event → ℕ
kind_of Create = 1
kind_of (Send to w) = 2
kind_of (Receive from) = 3
kind_of (Reply to w) = 4
kind_of (End t) = 5
kind_of WaitClock = 6
kind_of SliceEnd = 7
kind_of Tick = 8
kind_of (WaitDevice i) = 9
kind_of (Interrupt s w) = 10

-- the number, or the device's index, that an event names, nobody where it names none
abbrev pub number_in : Event → ℕ
number_in Create = nobody
number_in (Send to w) = to.0
number_in (Receive from) = from.0
number_in (Reply to w) = to.0
number_in (End t) = t.0
number_in WaitClock = nobody
number_in SliceEnd = nobody
number_in Tick = nobody
number_in (WaitDevice i) = i.0
number_in (Interrupt s w) = nobody

-- and the word, 0 where there is none
abbrev pub word_in : Event → ℕ
word_in Create = 0
word_in (Send to w) = w
word_in (Receive from) = 0
word_in (Reply to w) = w
word_in (End t) = 0
word_in WaitClock = 0
word_in SliceEnd = 0
word_in Tick = 0
word_in (WaitDevice i) = 0
word_in (Interrupt s w) = w

-- and the pending set, the empty one where there is none
abbrev pub empty_set : Pending
empty_set = record { low = 0; high = 0 }

abbrev pub set_in : Event → Pending
set_in Create = empty_set
set_in (Send to w) = empty_set
set_in (Receive from) = empty_set
set_in (Reply to w) = empty_set
set_in (End t) = empty_set
set_in WaitClock = empty_set
set_in SliceEnd = empty_set
set_in Tick = empty_set
set_in (WaitDevice i) = empty_set
set_in (Interrupt s w) = s

-- The codes of the refusals
abbrev pub refusal_code : Refusal → ℕ
refusal_code Idle = 1
refusal_code NoNumber = 2
refusal_code OwnNumber = 3
refusal_code NotLive = 4
refusal_code NotAwaiting = 5
refusal_code Full = 6

-- The code that an answer has: 0, or that of a refusal
abbrev pub code_in : {A : Type 0} → Result A Refusal → ℕ
code_in (Ok x) = 0
code_in (Err e) = refusal_code e

-- The place that a number stands for, if it stands for one
abbrev pub place_known : ℕ → Option Place
place_known x = cond (eqb x none) None (Some (record { 0 = x }))

-- The device that an index stands for, if it stands for one
abbrev pub device_known : ℕ → Option Device
device_known x = cond (eqb x none) None (Some (record { 0 = x }))

-- A choice as a number, and who runs
abbrev pub choice_kind : Choice → ℕ
choice_kind (Run n) = 0
choice_kind Halt = 1
choice_kind Wait = 2
choice_kind Stuck = 3

abbrev pub choice_runs : Choice → ℕ
choice_runs (Run n) = n.0
choice_runs Halt = nobody
choice_runs Wait = nobody
choice_runs Stuck = nobody
