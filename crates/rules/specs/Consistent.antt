-- When a nucleus is consistent (document 01, "The cab's threads", and document 02, P1, P2 and P5), in the order of the document's sentence.
use Rattle.std.specs.Prelude.{ℕ, ◌-◌, ◌^◌, ◌≤◌, ◌<◌, ◌≡◌, ◌≢◌, [], Bool, true, false, cond, ◌&&◌, ◌||◌, length, eqb, leb, ltb}
use Rattle.lists.specs.Lists.{none, bit, count}
use Rattle.kin.specs.Climb.{climb}
use Rattle.rules.specs.Values.{nobody, word_in, set_in}
use Rattle.rules.specs.Model.{Place, places, devices, queue_count, last_number, Empty, Running, Ready, Sending, Awaiting, Receiving, Waiting, AtDevice, Thread, vacant, Model, ready, clock, device, inbox, line_count, thread, line}
use Rattle.rules.specs.Rules.{place_of}
use Rattle.rules.specs.declared.Event.{Event}

-- is it a thread's number
abbrev pub is_number : ℕ → Bool
is_number n = leb n last_number

-- does a thread's standing put it into line q: ready, the clock's, a device's, the inbox of a place. (`by_line` of crate `order` goes through these cases.)
abbrev pub belongs : Model → Thread → ℕ → Bool
belongs m t q =
    cond (eqb q ready) (eqb t.standing Ready)
    (cond (eqb q clock) (eqb t.standing Waiting)
    (cond (ltb q queue_count) (eqb t.standing AtDevice && eqb q (device t.partner))
    (eqb t.standing Sending && eqb t.partner (thread m (q - queue_count)).number)))

-- the table: partner and word by standing. An empty place is none of its rows.
abbrev pub as_table : ℕ → ℕ → ℕ → Bool
as_table st partner word =
    cond (eqb st Running) (eqb partner nobody && eqb word 0)
    (cond (eqb st Ready) (eqb partner nobody && eqb word 0)
    (cond (eqb st Sending) (is_number partner)
    (cond (eqb st Awaiting) (is_number partner)
    (cond (eqb st Receiving) ((is_number partner || eqb partner nobody) && eqb word 0)
    (cond (eqb st Waiting) (eqb partner nobody && eqb word 0)
    (cond (eqb st AtDevice) (ltb partner devices && eqb word 0)
    false))))))

-- code 0 or 16 and who 0..253, or 0, 255 and any word
abbrev pub is_answer : ℕ → ℕ → ℕ → Bool
is_answer code who word = (eqb code 0 || eqb code 16) && is_number who || eqb code 0 && eqb who nobody

-- the place of a thread's parent, or none
abbrev pub above : Model → Place → Place
above m p = place_of m (thread m p).parent

-- an event's word has 32 bits, and its pending set 32 and 16, as each that the code can hold
abbrev pub Fits : Event → Type 0
Fits e = (word_in e < 2 ^ 32) × ((set_in e).low < 2 ^ 32) × ((set_in e).high < 2 ^ 16)

-- Every clause but that of P2, which comes behind it. The update load takes this. (The old rules, those before P2, know no parents: where nobody has one, the
-- clauses of P5 hold, by `kin_older` of crate `order`.)
pub record OldConsistent (m : Model) : Type 0 where
  -- a thread for each place, a list for each line, and 32-bit words
  pub threads : length m.threads ≡ places
  pub lines : length m.lines ≡ line_count
  pub words : (p : ℕ) → ((thread m p).word < 2 ^ 32) × ((thread m p).answer < 2 ^ 32)
  -- live numbers differ and lie in 0..253, as does the last given;
  pub differ : (p r : ℕ) → (thread m p).standing ≢ Empty → (thread m r).standing ≢ Empty → (thread m p).number ≡ (thread m r).number → p ≡ r
  pub numbers : (p : ℕ) → (thread m p).standing ≢ Empty → (thread m p).number ≤ last_number
  pub last : m.last ≤ last_number
  -- at most one thread runs, and if none does the ready queue is empty; (the running place is that of the one that runs)
  pub one : (p : ℕ) → (thread m p).standing ≡ Running → m.running ≡ p
  pub busy : m.running ≢ none → (thread m m.running).standing ≡ Running
  pub settled : m.running ≡ none → line m ready ≡ []
  -- ready queue, clock queue, each device's queue and each inbox hold exactly the threads whose standing says so, each once;
  pub stood : (p q : ℕ) → count p (line m q) ≡ bit (belongs m (thread m p) q)
  -- partners and words are as above;
  pub table : (p : ℕ) → (thread m p).standing ≢ Empty → as_table (thread m p).standing (thread m p).partner (thread m p).word ≡ true
  -- the partner in standings 3 and 4 (from Sending to Awaiting) is live;
  pub served : (p : ℕ) → Sending ≤ (thread m p).standing → (thread m p).standing ≤ Awaiting
      → (r : ℕ) × ((thread m r).standing ≢ Empty) × ((thread m r).number ≡ (thread m p).partner)
  -- no partner is the thread itself; (a device's index is no thread, even where it is the thread's own number)
  pub apart : (p : ℕ) → (thread m p).standing ≢ Empty → (thread m p).standing ≢ AtDevice → (thread m p).partner ≢ (thread m p).number
  -- receiving any means an empty inbox, receiving from N means N is not in it;
  pub any : (r : ℕ) → (thread m r).standing ≡ Receiving → (thread m r).partner ≡ nobody → line m (inbox r) ≡ []
  pub from : (r p : ℕ) → (thread m r).standing ≡ Receiving → (thread m r).partner ≡ (thread m p).number → count p (line m (inbox r)) ≡ 0
  -- an answer has code 0 or 16 and who 0..253, or is 0, 255 and a word;
  pub answers : (p : ℕ) → is_answer (thread m p).code (thread m p).who (thread m p).answer ≡ true
  -- parents are live ..
  pub parented : (p : ℕ) → (thread m p).standing ≢ Empty → (thread m p).parent ≢ nobody
      → (r : ℕ) × ((thread m r).standing ≢ Empty) × ((thread m r).number ≡ (thread m p).parent)
  -- .. and never form a ring: from parent to parent one comes to nobody;
  pub rooted : (p : ℕ) → (thread m p).standing ≢ Empty → (k : ℕ) × (climb (above m) k p ≡ none)
  -- an empty place, and a queue slot past its queue's length, holds one fixed clean value. (The slots are the code's: `Tidy` of crate `lines`.)
  pub clean : (p : ℕ) → (thread m p).standing ≡ Empty → thread m p ≡ vacant

-- P2: a consistent state has no receiver naming a dead thread. (255 is nobody.)
abbrev pub ListensToLive : Model → Type 0
ListensToLive m = (p : ℕ) → (thread m p).standing ≡ Receiving → (thread m p).partner ≢ nobody
    → (r : ℕ) × ((thread m r).standing ≢ Empty) × ((thread m r).number ≡ (thread m p).partner)

pub record Consistent (m : Model) : Type 0 where
  pub old : OldConsistent m
  pub listens : ListensToLive m

-- By the rules as they are, or, where strict is false, by the old ones, which is without P2's clause: so is everything of which the name ends in By.
abbrev pub ConsistentBy : Bool → Model → Type 0
ConsistentBy true m = Consistent m
ConsistentBy false m = OldConsistent m
