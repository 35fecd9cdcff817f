-- A CHAIN OF REPLIES: events one after the other, each on the state that the reply before handed back, by what `State::step` promises and nothing else.
use Rattle.std.proofs.Common.{ap, ◌∙◌}
use Rattle.std.specs.Prelude.{List, [], ◌∷◌}
use Rattle.rules.specs.Model.{Model}
use Rattle.rules.specs.Rules.{next, after}
use Rattle.rules.specs.Consistent.{Fits}
use Rattle.rules.specs.declared.Event.{Event}
use Rattle.order.specs.Keeps.{AllFit}
use Rattle.nucleus.specs.View.{Shows, held, refused}
use Rattle.nucleus.specs.Answers.{Answers}
use Rattle.nucleus.specs.declared.State.{State}
use Rattle.nucleus.specs.declared.Reply.{Reply}

-- From a state, these events get these replies, and the last state is this. (An event's word has 32 bits, as its type says.)
pub data Chain : State → List Event → List Reply → State → Type 0 where
  stays : {s : State} → Chain s [] [] s
  steps : {s t : State} {e : Event} {es : List Event} {r : Reply} {rs : List Reply} → Fits e → Answers s e r → Chain r.state es rs t → Chain s (e ∷ es) (r ∷ rs) t

pub chain_fits : {s t : State} {es : List Event} {rs : List Reply} → Chain s es rs t → AllFit es
chain_fits stays = tt {0}
chain_fits (steps f a rest) = (f, chain_fits rest)

-- a reply on the way is the rules'
pub reply_shows : {s : State} {m : Model} (e : Event) {r : Reply} → Shows s m → Answers s e r → Shows r.state (next e m)
reply_shows e S (held k a) = record { consists = a.state.consists; seen = a.state.seen ∙ ap (next e) S.seen }
reply_shows e S (refused n a) = absurd (n S.consists)

-- and so is the last state
pub chain_shows : {s t : State} {es : List Event} {rs : List Reply} {m : Model} → Shows s m → Chain s es rs t → Shows t (after es m)
chain_shows S stays = S
chain_shows S (steps {e = e} f a rest) = chain_shows (reply_shows e S a) rest
