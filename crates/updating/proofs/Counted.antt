-- "An edition 1 image with such a receiver: load 10, update wakes it" (document 02, P2): thread 1 was created and has ended, and 0 receives from it still,
-- as the old rules had it. A row of the table of counted cases (recovery), and tied to what load and the update load promise.
use Rattle.std.specs.Prelude.{ℕ, zero, suc, ◌≡◌, refl, ◌≢◌}
use Rattle.std.proofs.Common.{subst, arith}
use Rattle.lists.specs.Lists.{tally}
use Rattle.rules.specs.Model.{Empty, thread, all_places}
use Rattle.rules.specs.Rules.{outside}
use Rattle.rules.specs.Consistent.{ListensToLive}
use Rattle.loading.specs.Loads.{Foreign}
use Rattle.loading.proofs.Injective.{image_one}
use Rattle.loading.specs.Judges.{head_image}
use Rattle.loading.proofs.Accepts.{refuses}
use Rattle.updating.proofs.Updates.{update_takes, update_gives, old_image}
use Rattle.updating.specs.Counted.{deserter, others, before, image, SeenOfUpdate}

nobody_heard : ListensToLive deserter → ⊥
nobody_heard L = let l = L 0 refl (omega arith) in dead l.0 l.1 l.2
  where
    dead : (r : ℕ) → (thread deserter r).standing ≢ Empty → (thread deserter r).number ≡ 1 → ⊥
    dead zero h e = omega arith
    dead (suc r) h e = (rw (others r) at h) refl

-- no consistent state has it
foreign : Foreign before
foreign m J = nobody_heard (subst ListensToLive (image_one (old_image J) image) J.1.consistent.listens)

pub counted_update : SeenOfUpdate
unfolding all_places tally outside
counted_update = record {
  load_refuses = λ r L. (refuses L).1 (head_image image) foreign;
  update_takes_it = λ r U. ((update_takes U).1 deserter image, update_gives deserter image U);
  choice_before = refl;
  choice_behind = refl;
  thread_behind = refl;
}
