-- Examples of families that end (document 02, P5), where the order matters, computed from the rules: it shows in the order in which others join ready.
use Rattle.std.specs.Prelude.{◌≡◌, refl, List, [], ◌∷◌, ◌++◌}
use Rattle.lists.specs.Lists.{tally, only}
use Rattle.rules.specs.Model.{Place, Model, ready, thread, line, lives_at, all_places}
use Rattle.rules.specs.Rules.{first_free, end_down, fresh, after}
use Rattle.rules.specs.Counted.{no, family}
use Rattle.rules.specs.declared.Event.{Event}
use Rattle.rules.specs.declared.Event.TheVariants.{Create, Send, End, WaitClock, SliceEnd, Tick}

-- the places where somebody lives
abbrev living : Model → List Place
living m = only (lives_at m) all_places

-- 1 sends 7 to its child 3, and then 2 sends 9 to it; 0 runs and ends 1. Child 3 goes first, and hands both back: 1 is ready again, and 2 behind it. Then 1
-- goes too, out of ready; 2 stays there with answer 16, 3, 9, and 0 goes on running: the next thread is chosen only once, at the end.
abbrev sent_to_child : List Event
sent_to_child = family ++ (Send (no 3) 7 ∷ Send (no 3) 9 ∷ End (no 1) ∷ [])

ended_in_turn : (living (after sent_to_child fresh) ≡ 0 ∷ 2 ∷ []) × ((after sent_to_child fresh).running ≡ 0) × (line (after sent_to_child fresh) ready ≡ 2 ∷ [])
    × ((thread (after sent_to_child fresh) 2).code ≡ 16) × ((thread (after sent_to_child fresh) 2).who ≡ 3) × ((thread (after sent_to_child fresh) 2).answer ≡ 9)
unfolding all_places first_free tally end_down
ended_in_turn = (refl, refl, refl, refl, refl, refl)

-- 0 and its child 1 wait for the clock; 2, created while nobody runs, is nobody's child, and creates 3 and 4. 3 is ended, and 2 creates 5 in its place: so the
-- child 5 stands in place 3, and 4 in place 4. After a tick and three slice ends 0 runs, and then 1, and then 2.
abbrev two_families : List Event
two_families = Create ∷ Create ∷ WaitClock ∷ WaitClock ∷ Create ∷ Create ∷ Create ∷ End (no 3) ∷ Create ∷ Tick ∷ SliceEnd ∷ SliceEnd ∷ SliceEnd ∷ []

-- The children, lowest place first, and not lowest number: 0 sends to 4, then 1 sends to 5; 2 runs and ends itself. Child 5 goes before 4, so that 1 is ready
-- before 0.
abbrev to_both : List Event
to_both = two_families ++ (Send (no 4) 7 ∷ Send (no 5) 9 ∷ End (no 2) ∷ [])

lowest_first : ((after to_both fresh).running ≡ 1) × (line (after to_both fresh) ready ≡ 0 ∷ []) × (living (after to_both fresh) ≡ 0 ∷ 1 ∷ [])
unfolding all_places first_free tally end_down
lowest_first = (refl, refl, refl)

-- The parent last: 0 sends to 2, then 1 sends to 5, and 2 is ended. Child 5 goes before its parent, so that 1 is ready before 0.
abbrev to_parent : List Event
to_parent = two_families ++ (Send (no 2) 7 ∷ Send (no 5) 9 ∷ End (no 2) ∷ [])

parent_last : ((after to_parent fresh).running ≡ 1) × (line (after to_parent fresh) ready ≡ 0 ∷ [])
unfolding all_places first_free tally end_down
parent_last = (refl, refl)
