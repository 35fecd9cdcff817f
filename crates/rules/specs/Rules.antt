-- THE RULES (document 01, "The eight events" and "When the nucleus says no"; document 02, P1 to P3 and P5), in the documents' order and words.
-- No proofs here: what is proved of the rules is in the crate `order`.
use Rattle.std.specs.Prelude.{ℕ, zero, suc, ◌+◌, List, [], ◌∷◌, ◌++◌, Bool, true, false, cond, not, ◌&&◌, ◌||◌, set, replicate, ltb, eqb}
use Rattle.lists.specs.Lists.{none, without, first_of, only, up_from}
use Rattle.kin.specs.Turns.{in_turn}
use Rattle.rules.specs.Values.{nobody}
use Rattle.rules.specs.Model.{Place, Number, Device, Code, Word, places, devices, last_number, Running, Ready, Sending, Awaiting, Receiving, Waiting, AtDevice, Thread, vacant, Model, ready, clock, device, inbox, line_count, thread, line, all_places, lives_at, live}
use Rattle.rules.specs.Devices.{first_pending}
use Rattle.rules.specs.declared.Pending.{Pending}
use Rattle.rules.specs.declared.Event.{Event}
use Rattle.rules.specs.declared.Event.TheVariants.{Create, Send, Receive, Reply, End, WaitClock, SliceEnd, Tick, WaitDevice, Interrupt}
use Rattle.rules.specs.declared.Choice.{Choice}
use Rattle.rules.specs.declared.Choice.TheVariants.{Run, Halt, Wait, Stuck}

-- ---- looking up

-- the place where a live thread has the number n, or none
abbrev pub place_of : Model → Number → Place
place_of m n = first_of (λ p. lives_at m p && eqb (thread m p).number n) all_places

-- nobody runs
abbrev pub idle : Model → Bool
idle m = eqb m.running none

-- the number of the running thread, which is the caller
abbrev pub mine : Model → Number
mine m = (thread m m.running).number

-- ---- the verbs: what happens to one place, from which every event is made

-- p runs
abbrev pub runs : Place → Model → Model
runs p m = record { last = m.last; running = p; threads = m.threads; lines = m.lines }

-- the place p holds the thread t
abbrev pub put : Place → Thread → Model → Model
put p t m = record { last = m.last; running = m.running; threads = set m.threads p t; lines = m.lines }

-- the line q is l
abbrev pub relined : ℕ → List Place → Model → Model
relined q l m = record { last = m.last; running = m.running; threads = m.threads; lines = set m.lines q l }

-- p joins the back of line q
abbrev pub join : ℕ → Place → Model → Model
join q p m = relined q (line m q ++ (p ∷ [])) m

-- p leaves line q
abbrev pub leave : ℕ → Place → Model → Model
leave q p m = relined q (without p (line m q)) m

-- a thread with another standing, partner and word. Its answer stays: an answer changes only where a rule says so. (And nobody's parent changes.)
abbrev pub stands : Code → Number → Word → Thread → Thread
stands st pa w t = record { number = t.number; standing = st; partner = pa; word = w; code = t.code; who = t.who; answer = t.answer; parent = t.parent }

-- a thread with another answer: code, who, word
abbrev pub told : Code → Number → Word → Thread → Thread
told c n w t = record { number = t.number; standing = t.standing; partner = t.partner; word = t.word; code = c; who = n; answer = w; parent = t.parent }

-- p goes to the back of ready. Nothing ever enters ready except at the back.
abbrev pub readied : Place → Model → Model
readied p m = join ready p (put p (stands Ready nobody 0 (thread m p)) m)

-- p's call is over: it has its answer, and goes to the back of ready
abbrev pub woken : Place → Code → Number → Word → Model → Model
woken p c n w m = join ready p (put p (stands Ready nobody 0 (told c n w (thread m p))) m)

-- the caller no longer runs, and stands so
abbrev pub stops : Code → Number → Word → Model → Model
stops st pa w m = runs none (put m.running (stands st pa w (thread m m.running)) m)

-- ---- the number of a new thread

-- The counter steps to its successor, and from 253 or above to 0.
abbrev pub successor : Number → Number
successor n = cond (ltb n last_number) (n + 1) 0

abbrev pub in_use : Model → Number → Bool
in_use m n = not (eqb (place_of m n) none)

-- the place of a live thread whose answer has n as its who, or none
abbrev pub holder_of : Model → Number → Place
holder_of m n = first_of (λ p. lives_at m p && eqb (thread m p).who n) all_places

abbrev pub still_held : Model → Number → Bool
still_held m n = not (eqb (holder_of m n) none)

-- A number is passed over while it is in use, and also while it is the "who" in any live thread's answer.
abbrev pub barred : Model → Number → Bool
barred m n = in_use m n || still_held m n

-- of the k numbers after n, the first that is not used. (No abbrev: k is 254.)
unfoldable pub first_free : (Number → Bool) → ℕ → Number → Number
first_free used zero n = nobody
first_free used (suc k) n = cond (used (successor n)) (first_free used k (successor n)) (successor n)

-- A new thread gets the first number that is not barred after the last one given, modulo 254.
abbrev pub next_number : Model → Number
next_number m = first_free (barred m) (suc last_number) m.last

-- Fresh: last given is 253, so the first is 0.
abbrev pub fresh : Model
fresh = record { last = last_number; running = none; threads = replicate places vacant; lines = replicate line_count [] }

-- ---- 1. Create. The thread joins the back of the ready queue. Returns its number (below, `given`).

-- A new thread's answer is 0, 255, 0.
abbrev pub newcomer : Number → Number → Thread
newcomer n pa = record { number = n; standing = Ready; partner = nobody; word = 0; code = 0; who = nobody; answer = 0; parent = pa }

-- A new thread takes the lowest empty place.
abbrev pub empty_place : Model → Place
empty_place m = first_of (λ p. not (lives_at m p)) all_places

-- the last number given is n
abbrev pub gave : Number → Model → Model
gave n m = record { last = n; running = m.running; threads = m.threads; lines = m.lines }

-- Each thread gets a parent: the number running at its creation, or 255.
abbrev pub creator : Model → Number
creator m = cond (idle m) nobody (mine m)

abbrev pub create_at : Place → Number → Model → Model
create_at p n m = join ready p (put p (newcomer n (creator m)) (gave n m))

abbrev pub create : Model → Model
create m = create_at (empty_place m) (next_number m) m

-- ---- 2. Send to D, word w (by the running thread S).

-- a receive from n, or from any, takes what the number k sends
abbrev pub wants : Number → Number → Bool
wants n k = eqb n nobody || eqb n k

-- the thread receives any or from k
abbrev pub hears : Thread → Number → Bool
hears t k = eqb t.standing Receiving && wants t.partner k

-- If D receives any or from S: D's answer is 0, S, w, D goes to the back of ready, S awaits reply.
-- Otherwise S joins the back of D's inbox.
abbrev pub send_to : Place → Number → Number → Word → Model → Model
send_to p s d w m = cond (hears (thread m p) s) (woken p 0 s w (stops Awaiting d w m)) (join (inbox p) m.running (stops Sending d w m))

abbrev pub send : Number → Word → Model → Model
send d w m = send_to (place_of m d) (mine m) d w m

-- ---- 3. Receive from N or any. If the inbox has a match, the first is taken: the caller's answer is 0, sender, word; the sender now awaits reply; the
-- caller keeps running. Otherwise the caller receives.

-- the sender at p leaves the inbox of the place c, and awaits the reply with partner and word as they were
abbrev pub awaits : Place → Place → Model → Model
awaits c p m = put p (stands Awaiting (thread m p).partner (thread m p).word (thread m p)) (leave (inbox c) p m)

-- the caller, at c, takes the word of the sender at p
abbrev pub takes : Place → Place → Model → Model
takes c p m = let m₁ = awaits c p m in put c (told 0 (thread m p).number (thread m p).word (thread m₁ c)) m₁

-- p is the first match, or none
abbrev pub receive_from : Place → Number → Model → Model
receive_from p n m = cond (eqb p none) (stops Receiving n 0 m) (takes m.running p m)

abbrev pub receive : Number → Model → Model
receive n m = receive_from (first_of (λ p. wants n (thread m p).number) (line m (inbox m.running))) n m

-- ---- 4. Reply to T, word w. T's answer is 0, replier, w. The replier goes to the back of ready and T runs at once (doc 000, 4.4.1):
-- a client that was answered does not wait behind those who were not.

abbrev pub reply_to : Place → Number → Word → Model → Model
reply_to p s w m =
    let m₁ = runs none (readied m.running m) in
    runs p (put p (stands Running nobody 0 (told 0 s w (thread m₁ p))) m₁)

abbrev pub reply : Number → Word → Model → Model
reply t w m = reply_to (place_of m t) (mine m) w m

-- ---- 5. End T. Nobody need run, and a thread may end itself.

-- T leaves its queue; and if it ran, nobody does.
abbrev pub out_of_line : Place → Model → Model
out_of_line p m =
    let t = thread m p in
    cond (eqb t.standing Running) (runs none m)
    (cond (eqb t.standing Ready) (leave ready p m)
    (cond (eqb t.standing Sending) (leave (inbox (place_of m t.partner)) p m)
    (cond (eqb t.standing Waiting) (leave clock p m)
    (cond (eqb t.standing AtDevice) (leave (device t.partner) p m) m))))

-- Those in its inbox front to back ..
abbrev pub handed_back : Number → Place → List Place → Model → Model
handed_back n r [] m = m
handed_back n r (p ∷ l) m = handed_back n r l (woken p 16 n (thread m p).word (relined (inbox r) l m))

-- A group of those who wait in vain: which threads it picks, and whose number and what word each of them gets with answer 16.
pub record Group : Type 0 where
  pub picks : Thread → Bool
  pub who : Thread → Number
  pub word : Thread → Word

-- those of the places l whom the group picks get their answer, in this order, and join ready
abbrev pub let_go : Group → List Place → Model → Model
let_go g [] m = m
let_go g (p ∷ l) m = let_go g l (cond (g.picks (thread m p)) (woken p 16 (g.who (thread m p)) (g.word (thread m p)) m) m)

-- .. then those awaiting its reply by rising place, get answer 16, T, and their own word back, and join ready.
abbrev pub awaiting : Number → Group
awaiting n = record { picks = λ t. eqb t.standing Awaiting && eqb t.partner n; who = λ t. n; word = λ t. t.word }

-- Ending T shall also wake those receiving from T, by rising place, after the other two groups, with answer 16, T, 0.
abbrev pub listening : Number → Group
listening n = record { picks = λ t. eqb t.standing Receiving && eqb t.partner n; who = λ t. n; word = λ t. 0 }

-- T's place is cleaned.
abbrev pub end_at : Place → Number → Model → Model
end_at p n m =
    let m₁ = out_of_line p m in
    let m₂ = handed_back n p (line m₁ (inbox p)) m₁ in
    put p vacant (let_go (listening n) all_places (let_go (awaiting n) all_places m₂))

-- the thread at p, by the whole of that
abbrev pub end_one : Place → Model → Model
end_one p m = end_at p (thread m p).number m

-- is the thread at r a child of the thread at p
abbrev pub child_of : Model → Place → Place → Bool
child_of m p r = lives_at m r && eqb (thread m r).parent (thread m p).number

-- the children of the thread at p, lowest place first
abbrev pub children : Model → Place → List Place
children m p = only (child_of m p) all_places

-- Ending a thread goes down through its children, lowest place first, each child's own children before it, and ends the parent last. d is the depth left.
-- Woken threads that are themselves in the family are ended in their turn: they are children as before. The next thread is chosen only once, at the end
-- (below, `dispatched`).
unfoldable pub end_down : ℕ → Place → Model → Model
end_down zero p m = m
end_down (suc d) p m = end_one p (in_turn (end_down d) (children m p) m)

-- the depth is at first the live count
abbrev pub end : Number → Model → Model
end n m = end_down (live m) (place_of m n) m

-- ---- 6. Wait for the clock. The caller joins the back of the clock queue.

abbrev pub wait_clock : Model → Model
wait_clock m = join clock m.running (stops Waiting nobody 0 m)

-- ---- 7. Slice end. The running thread goes to the back of ready and the front runs (below, `dispatched`). With none running, nothing
-- changes; code 0.

abbrev pub slice_end : Model → Model
slice_end m = cond (idle m) m (runs none (readied m.running m))

-- ---- 8. Tick. All clock waiters join ready in order, answer 0, 255, 0.

abbrev pub rung : List Place → Model → Model
rung [] m = m
rung (p ∷ l) m = rung l (woken p 0 nobody 0 (relined clock l m))

abbrev pub tick : Model → Model
tick m = rung (line m clock) m

-- ---- 9. Wait at a device: the running thread waits at the index given. Standing 7 carries the index as partner (even its own number) and word 0.

abbrev pub wait_device : Device → Model → Model
wait_device i m = join (device i) m.running (stops AtDevice i 0 m)

-- ---- 10. Interrupt: brings a pending set and a 32-bit status. Only the first pending index is served: its longest waiter joins ready with answer
-- 0, 255, status. An empty set, or no waiter, changes nothing.

-- l are those who wait at i
abbrev pub served_at : Device → List Place → Word → Model → Model
served_at i [] w m = m
served_at i (p ∷ l) w m = woken p 0 nobody w (relined (device i) l m)

-- i is the first pending index, or none
abbrev pub serves : Device → Word → Model → Model
serves i w m = cond (eqb i none) m (served_at i (line m (device i)) w m)

abbrev pub interrupt : Pending → Word → Model → Model
interrupt s w m = serves (first_pending s) w m

-- ---- After any accepted event, if nobody runs and ready is not empty, its front runs.

abbrev pub starts : List Place → Model → Model
starts [] m = m
starts (p ∷ l) m = runs p (relined ready l (put p (stands Running nobody 0 (thread m p)) m))

abbrev pub dispatched : Model → Model
dispatched m = cond (idle m) (starts (line m ready) m) m

abbrev pub act : Event → Model → Model
act Create m = create m
act (Send d w) m = send d.0 w m
act (Receive n) m = receive n.0 m
act (Reply t w) m = reply t.0 w m
act (End t) m = end t.0 m
act WaitClock m = wait_clock m
act SliceEnd m = slice_end m
act Tick m = tick m
act (WaitDevice i) m = wait_device i.0 m
act (Interrupt s w) m = interrupt s w m

-- ---- Choice (doc 002): run N; else halt (no live threads); else wait (clock queue not empty, or that of a device); else stuck.

abbrev pub is_nil : List Place → Bool
is_nil [] = true
is_nil (p ∷ l) = false

-- the queues of those who wait for what comes from outside: the clock's and the devices'. (No abbrev: there are 49.)
unfoldable pub outside : List ℕ
outside = up_from clock (suc devices)

-- somebody stands in one of them
abbrev pub waited : Model → Bool
waited m = not (eqb (first_of (λ q. not (is_nil (line m q))) outside) none)

abbrev pub choice : Model → Choice
choice m =
    cond (not (idle m)) (Run (record { 0 = mine m }))
    (cond (eqb (live m) 0) Halt
    (cond (waited m) Wait Stuck))

-- ---- When the nucleus says no: the first test that holds gives its code. Order: 14, 11, then 1, 2, 3, 4, 5 for an event. 14 is about states, which may
-- stand for no model that is consistent (crate `nucleus`), and 11 about logs (crate `logging`).

infixr 5 ◌gives◌else◌
abbrev pub ◌gives◌else◌ : Bool → Code → Code → Code
b gives c else d = cond b c d

-- 1: events 2, 3, 4, 6, 9 with nobody running (`idle`)
-- 2: number above 253 (receive: 254 only, of what a byte can be: 255 is any); wait at a device: from 48 on
abbrev pub no_number : Number → Bool
no_number n = ltb last_number n

abbrev pub no_source : Number → Bool
no_source n = no_number n && not (eqb n nobody)

abbrev pub no_device : Device → Bool
no_device i = not (ltb i devices)

-- 3: send, receive or reply names the caller
abbrev pub own_number : Model → Number → Bool
own_number m n = eqb n (mine m)

-- 4: send, receive, reply or end: number not live (receive: 255 is any)
abbrev pub not_live : Model → Number → Bool
not_live m n = not (in_use m n)

abbrev pub dead_source : Model → Number → Bool
dead_source m n = not (eqb n nobody) && not_live m n

-- 5: reply: T doesn't await the caller's reply
abbrev pub awaits_at : Place → Number → Model → Bool
awaits_at p n m = (awaiting n).picks (thread m p)

abbrev pub not_awaiting : Model → Number → Bool
not_awaiting m t = not (awaits_at (place_of m t) (mine m) m)

-- 6: create with 64 live (document 02, P6)
abbrev pub full : Model → Bool
full m = eqb (live m) places

abbrev pub refusal : Event → Model → Code
refusal Create m = full m gives 6 else 0
refusal (Send d w) m = idle m gives 1 else no_number d.0 gives 2 else own_number m d.0 gives 3 else not_live m d.0 gives 4 else 0
refusal (Receive n) m = idle m gives 1 else no_source n.0 gives 2 else own_number m n.0 gives 3 else dead_source m n.0 gives 4 else 0
refusal (Reply t w) m =
    idle m gives 1 else no_number t.0 gives 2 else own_number m t.0 gives 3 else not_live m t.0 gives 4 else not_awaiting m t.0 gives 5 else 0
refusal (End t) m = no_number t.0 gives 2 else not_live m t.0 gives 4 else 0
refusal WaitClock m = idle m gives 1 else 0
refusal SliceEnd m = 0
refusal Tick m = 0
refusal (WaitDevice i) m = idle m gives 1 else no_device i.0 gives 2 else 0
refusal (Interrupt s w) m = 0

-- ---- Each event takes the state and hands the next state back, with a code and the choice. A refused one leaves the state as it is, and still gives
-- the choice of the unchanged state.

abbrev pub next : Event → Model → Model
next e m = cond (eqb (refusal e m) 0) (dispatched (act e m)) m

-- Create returns its number (255 if refused). Number is 255 for every event but create.
abbrev pub given : Event → Model → Number
given Create m = cond (full m) nobody (next_number m)
given (Send d w) m = nobody
given (Receive n) m = nobody
given (Reply t w) m = nobody
given (End t) m = nobody
given WaitClock m = nobody
given SliceEnd m = nobody
given Tick m = nobody
given (WaitDevice i) m = nobody
given (Interrupt s w) m = nobody

pub record Outcome : Type 0 where
  pub state : Model
  pub code : Code
  pub choice : Choice
  pub number : Number

abbrev pub outcome : Event → Model → Outcome
outcome e m = record { state = next e m; code = refusal e m; choice = choice (next e m); number = given e m }

-- a history
abbrev pub after : List Event → Model → Model
after [] m = m
after (e ∷ es) m = after es (next e m)

-- ---- The update load (document 02, P2) takes what the old rules call consistent ..

-- .. and wakes each receiver that names a dead thread, by rising place, with 16, the dead number, 0; ..
abbrev pub deserted : Model → Group
deserted m = record { picks = λ t. eqb t.standing Receiving && dead_source m t.partner; who = λ t. t.partner; word = λ t. 0 }

-- .. then, if nobody runs, the front of ready does.
abbrev pub updated : Model → Model
updated m = dispatched (let_go (deserted m) all_places m)
