-- What an event answers, on any state whatever, and that there is one such answer.
use Rattle.std.specs.Prelude.{◌≡◌, List, ℕ}
use Rattle.std.proofs.Common.{sym, ap, ◌∙◌}
use Rattle.rules.specs.Values.{nobody}
use Rattle.rules.specs.Rules.{Outcome, outcome, choice}
use Rattle.rules.specs.declared.Event.{Event}
use Rattle.rules.specs.declared.Choice.{Choice}
use Rattle.rules.specs.declared.Choice.TheVariants.{Halt}
use Rattle.table.specs.Cells.{shown}
use Rattle.table.specs.declared.Arrays.{Arrays}
use Rattle.threads.specs.Ran.{RanIn}
use Rattle.events.specs.declared.Outcome.{Outcome as Ended}
use Rattle.nucleus.specs.View.{view, Shows, Looked, held, refused}
use Rattle.nucleus.specs.Settled.{shows_one}
use Rattle.nucleus.specs.declared.State.{State}
use Rattle.nucleus.specs.declared.Reply.{Reply}

-- a reply as the rules' outcome has it: a consistent state, code, choice and number
pub record Meets (o : Outcome) (r : Reply) : Type 0 where
  pub state : Shows r.state o.state
  pub code : r.code ≡ o.code
  pub choice : r.choice ≡ o.choice
  pub number : r.number.0 ≡ o.number

-- 14: state given is not consistent: the state unchanged, the choice halt
abbrev pub inconsistent : State → Reply
inconsistent s = record { state = s; code = 14; choice = Halt; number = record { 0 = nobody } }

-- Order: 14, then 1, 2, 3, 4, 5 (and 6 for create)
abbrev pub Answers : State → Event → Reply → Type 0
Answers s e r = Looked s (Meets (outcome e (view s)) r) (r ≡ inconsistent s)

-- what the cores have done is what the rules say
pub meets : {s : State} {a : Arrays} {o : Ended} (e : Event) (x : Choice) → RanIn s.desk s.arrays e o a
    → ((v : List ℕ) → x ≡ choice (shown o.desk a.table.blocks v a.lines)) → Meets (outcome e (view s)) (record { state = record { desk = o.desk; arrays = a }; code = o.code; choice = x; number = o.number })
meets {a = a} e x u f = record { state = record { consists = u.stands; seen = u.seen }; code = u.code; choice = f a.table.words ∙ ap choice u.seen; number = u.number }

-- two replies to one outcome are equal
pub meets_one : {o : Outcome} {r t : Reply} → Meets o r → Meets o t → r ≡ t
meets_one a b =
    let s = shows_one a.state b.state in
    let c = a.code ∙ sym b.code in
    let x = a.choice ∙ sym b.choice in
    let n = a.number ∙ sym b.number in
    λ i. record { state = s i; code = c i; choice = x i; number = record { 0 = n i } }

-- two replies that meet the contract are equal
pub one_outcome : (s : State) (e : Event) {r t : Reply} → Answers s e r → Answers s e t → r ≡ t
one_outcome s e (held k a) (held l b) = meets_one a b
one_outcome s e (held k a) (refused n b) = absurd (n k)
one_outcome s e (refused n a) (held l b) = absurd (n l)
one_outcome s e (refused n a) (refused m b) = a ∙ sym b
