-- Examples where the order of a line matters, computed from the rules: whoever came first is first, and not whoever has the lower place.
use Rattle.std.specs.Prelude.{◌≡◌, refl, List, [], ◌∷◌, ◌++◌, map, ℕ, ◌-◌, replicate}
use Rattle.lists.specs.Lists.{none, tally}
use Rattle.rules.specs.Values.{nobody}
use Rattle.rules.specs.Model.{places, line_count, Awaiting, Receiving, Thread, vacant, Model, ready, clock, inbox, line, thread, all_places}
use Rattle.rules.specs.Rules.{first_free, end_down, put, fresh, after, updated}
use Rattle.rules.specs.Counted.{no}
use Rattle.rules.specs.declared.Event.{Event}
use Rattle.rules.specs.declared.Event.TheVariants.{Create, Send, Receive, End, WaitClock, SliceEnd, Tick}

-- after three creates and a slice end 1 runs, and 2 and 0 are ready
-- thread 1 waits for the clock, then 2, then 0: ready takes them in that order, and its front runs
tick_by_line :
    (line (after (Create ∷ Create ∷ Create ∷ SliceEnd ∷ WaitClock ∷ WaitClock ∷ WaitClock ∷ []) fresh) clock ≡ 1 ∷ 2 ∷ 0 ∷ [])
    × ((after (Create ∷ Create ∷ Create ∷ SliceEnd ∷ WaitClock ∷ WaitClock ∷ WaitClock ∷ Tick ∷ []) fresh).running ≡ 1)
    × (line (after (Create ∷ Create ∷ Create ∷ SliceEnd ∷ WaitClock ∷ WaitClock ∷ WaitClock ∷ Tick ∷ []) fresh) ready ≡ 2 ∷ 0 ∷ [])
unfolding all_places first_free tally
tick_by_line = (refl, refl, refl)

-- a fourth thread, 3, is sent a word by 1 and then by 0. It takes the first to come, where it names nobody; and where it ends they are handed back in that order
abbrev sent : List Event
sent = Create ∷ Create ∷ Create ∷ Create ∷ SliceEnd ∷ Send (no 3) 7 ∷ SliceEnd ∷ SliceEnd ∷ Send (no 3) 9 ∷ []

first_match : (line (after sent fresh) (inbox 3) ≡ 1 ∷ 0 ∷ []) × ((thread (after (Create ∷ Create ∷ Create ∷ Create ∷ SliceEnd ∷ Send (no 3) 7 ∷ SliceEnd ∷ SliceEnd ∷ Send (no 3) 9 ∷ SliceEnd ∷ Receive (no nobody) ∷ []) fresh) 3).who ≡ 1)
unfolding all_places first_free tally
first_match = (refl, refl)

handed_by_line : line (after (Create ∷ Create ∷ Create ∷ Create ∷ SliceEnd ∷ Send (no 3) 7 ∷ SliceEnd ∷ SliceEnd ∷ Send (no 3) 9 ∷ End (no 3) ∷ []) fresh) ready ≡ 1 ∷ 0 ∷ []
unfolding all_places first_free tally end_down
handed_by_line = refl

-- Thread 4 is sent a word by 0, 1, 3 and 2, and has received those of 0 and 1 when it ends: the two in its inbox are first, in their line's order, and then
-- those who await its reply, by rising place. (The front of ready, 3, runs then.)
abbrev heard_two : List Event
heard_two =
    Create ∷ Create ∷ Create ∷ Create ∷ Create ∷ SliceEnd ∷ SliceEnd ∷ SliceEnd ∷ SliceEnd ∷ Receive (no nobody) ∷ Send (no 4) 7 ∷ Send (no 4) 8 ∷ SliceEnd ∷ Send (no 4) 9
    ∷ Receive (no nobody) ∷ SliceEnd ∷ Send (no 4) 10 ∷ []

end_by_groups :
    (line (after heard_two fresh) (inbox 4) ≡ 3 ∷ 2 ∷ [])
    × (map (λ (p : ℕ). (thread (after heard_two fresh) p).standing) (0 ∷ 1 ∷ []) ≡ Awaiting ∷ Awaiting ∷ [])
    × ((after (heard_two ++ (End (no 4) ∷ [])) fresh).running ≡ 3)
    × (line (after (heard_two ++ (End (no 4) ∷ [])) fresh) ready ≡ 2 ∷ 0 ∷ 1 ∷ [])
unfolding all_places first_free tally end_down
end_by_groups = (refl, refl, refl, refl)

-- P2: thread 5 has 4 and 3 in its inbox and owes 2 a reply, and 1 and then 0 receive from it. When it ends, these come last, by rising place, with word 0.
abbrev listened_to : List Event
listened_to =
    Create ∷ Create ∷ Create ∷ Create ∷ Create ∷ Create ∷ SliceEnd ∷ Receive (no 5) ∷ Send (no 5) 7 ∷ SliceEnd ∷ Send (no 5) 8 ∷ Receive (no nobody) ∷ SliceEnd ∷ Receive (no 5)
    ∷ Send (no 5) 9 ∷ []

-- who runs, ready, and the answers of the threads at some places
abbrev woken_in : Model → List ℕ → List (List ℕ)
woken_in m ps = (m.running ∷ []) ∷ line m ready ∷ map (λ (t : Thread). t.code ∷ t.who ∷ t.answer ∷ []) (map (thread m) ps)

end_by_three_groups :
    (line (after listened_to fresh) (inbox 5) ≡ 4 ∷ 3 ∷ [])
    × (woken_in (after (listened_to ++ (End (no 5) ∷ [])) fresh) (0 ∷ 1 ∷ 2 ∷ [])
    ≡ (4 ∷ []) ∷ (3 ∷ 2 ∷ 0 ∷ 1 ∷ []) ∷ (16 ∷ 5 ∷ 0 ∷ []) ∷ (16 ∷ 5 ∷ 0 ∷ []) ∷ (16 ∷ 5 ∷ 7 ∷ []) ∷ [])
unfolding all_places first_free tally end_down
end_by_three_groups = (refl, refl)

-- a thread of number n that receives from another, as under the old rules it could whoever that was
abbrev receiver : ℕ → ℕ → Thread
receiver n from = record { number = n; standing = Receiving; partner = from; word = 0; code = 0; who = nobody; answer = 0; parent = nobody }

-- The update load: 0 and 2 receive from 9 and 7, who are dead, 1 from 2, who lives, and 3 from any. Nobody runs: 0 and 2 are woken, by rising place, and 0
-- runs. (The nucleus is written out, since one that is played from fresh is computed anew at each look.)
abbrev two_dead : Model
two_dead = record {
  last = 3;
  running = none;
  threads = receiver 0 9 ∷ receiver 1 2 ∷ receiver 2 7 ∷ receiver 3 nobody ∷ replicate (places - 4) vacant;
  lines = replicate line_count [];
}

update_by_place : woken_in (updated two_dead) (0 ∷ 2 ∷ []) ≡ (0 ∷ []) ∷ (2 ∷ []) ∷ (16 ∷ 9 ∷ 0 ∷ []) ∷ (16 ∷ 7 ∷ 0 ∷ []) ∷ []
unfolding all_places first_free tally
update_by_place = refl

update_past : map (λ (t : Thread). t.standing ∷ t.partner ∷ []) (map (thread (updated two_dead)) (1 ∷ 3 ∷ [])) ≡ (Receiving ∷ 2 ∷ []) ∷ (Receiving ∷ nobody ∷ []) ∷ []
unfolding all_places first_free tally
update_past = refl

-- Where somebody runs, it goes on, and whoever is woken is ready behind those who are.
abbrev one_dead : Model
one_dead = put 0 (receiver 0 7) (after (Create ∷ Create ∷ Create ∷ Receive (no nobody) ∷ []) fresh)

update_running : woken_in (updated one_dead) (0 ∷ []) ≡ (1 ∷ []) ∷ (2 ∷ 0 ∷ []) ∷ (16 ∷ 7 ∷ 0 ∷ []) ∷ []
unfolding all_places first_free tally
update_running = refl
