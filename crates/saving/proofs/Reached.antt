-- The longest image is reached: a thread is created for every place, and all of them wait for the clock.
use Rattle.std.specs.Prelude.{ℕ, zero, suc, ◌≡◌, refl, List, ◌++◌, length, replicate}
use Rattle.std.proofs.Common.{arith}
use Rattle.lists.specs.Lists.{tally}
use Rattle.rules.specs.Model.{places, Model, all_places}
use Rattle.rules.specs.Rules.{first_free, fresh, after}
use Rattle.rules.specs.Consistent.{Fits, Consistent}
use Rattle.rules.specs.declared.Event.{Event}
use Rattle.rules.specs.declared.Event.TheVariants.{Create, WaitClock}
use Rattle.order.specs.Keeps.{AllFit}
use Rattle.order.proofs.Keeps.{fresh_consistent}
use Rattle.order.proofs.Always.{always}
use Rattle.saving.specs.Format.{queues_in, encode_as, encode}
use Rattle.saving.specs.Longest.{longest_image}

-- all create, and all wait
abbrev all_wait : List Event
all_wait = replicate places Create ++ replicate places WaitClock

many_fit : (e : Event) (n : ℕ) (es : List Event) → Fits e → AllFit es → AllFit (replicate n e ++ es)
many_fit e zero es f g = g
many_fit e (suc n) es f g = (f, many_fit e n es f g)

fits : AllFit all_wait
fits = many_fit Create places (replicate places WaitClock) (omega arith) (wait_fit places)
  where
    wait_fit : (n : ℕ) → AllFit (replicate n WaitClock)
    wait_fit zero = tt
    wait_fit (suc n) = (omega arith, wait_fit n)

reached_length : length (encode (after all_wait fresh)) ≡ longest_image
unfolding encode_as queues_in all_places tally first_free
reached_length = refl

pub reached : (m : Model) × Consistent m × (length (encode m) ≡ longest_image)
reached = (after all_wait fresh, always all_wait fresh fresh_consistent fits, reached_length)
