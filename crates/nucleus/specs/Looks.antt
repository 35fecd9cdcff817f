-- What a look at a consistent state finds is what the model has.
use Rattle.std.specs.Prelude.{◌≡◌, List, ℕ, ◌≤◌, ◌<◌}
use Rattle.std.proofs.Common.{sym, ◌∙◌}
use Rattle.std.proofs.Math.Bool.{not}
use Rattle.lists.specs.Lists.{none, up_from, first_of}
use Rattle.lists.specs.Search.{first_ext}
use Rattle.filled.specs.Filled.{lowest_out}
use Rattle.filled.specs.Lowest.{lowest_first, lowest_none}
use Rattle.rules.specs.Model.{places, lives_at, all_places}
use Rattle.rules.specs.Rules.{empty_place}
use Rattle.table.specs.Cells.{shown, stands_at}
use Rattle.table.specs.Rows.{thread_at}
use Rattle.table.specs.declared.Desk.{Desk}

module _ (d : Desk) (b w l : List ℕ) where
  -- a new thread takes the lowest empty place, found by counting zeros or ones in that word
  empty_is : empty_place (shown d b w l) ≡ first_of (λ p. not (stands_at b p)) (up_from 0 places)
  unfolding all_places
  empty_is = first_ext (λ p. not (lives_at (shown d b w l) p)) (λ p. not (stands_at b p)) places 0 (λ p h. rw (thread_at d.last.0 d.running.0 b w l p h))

  module _ {r : ℕ} (e : r ≡ lowest_out places (stands_at b)) where
    pub lowest_some : r < places → r ≡ empty_place (shown d b w l)
    lowest_some h = e ∙ sym (empty_is ∙ lowest_first places (stands_at b) (rw (← e) h))

    pub lowest_full : places ≤ r → none ≡ empty_place (shown d b w l)
    lowest_full h = sym (empty_is ∙ lowest_none places (stands_at b) (rw (← e) h))
