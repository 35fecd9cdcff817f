-- The board's promises have one outcome each: no second answer, and no other byte of the buffer, meets them. (The fresh image's promise is an equation, a
-- look-up's is settled by `locate_one` of the image, and a report's by `tells_one` of the depot.) And a call that is refused changes no byte of the buffer.
use Rattle.std.specs.Prelude.{◌≡◌, refl, ◌≢◌, List, ℕ, eqb, ltb, length}
use Rattle.std.proofs.Common.{sym, ap, ◌∙◌}
use Rattle.lists.specs.Laws.{by_test}
use Rattle.rules.specs.Model.{Model}
use Rattle.rules.specs.Rules.{Outcome, outcome, updated}
use Rattle.rules.specs.declared.Choice.TheVariants.{Halt}
use Rattle.journal.specs.Format.{read_at}
use Rattle.journal.specs.declared.Read.{Read}
use Rattle.journal.specs.declared.Read.TheVariants.{Record, AtEnd, CutShort, UnknownKind, PastEnd}
use Rattle.saving.specs.Format.{encode}
use Rattle.loading.proofs.Accepts.{refuses_not, refuses_one}
use Rattle.loading.proofs.Injective.{image_one}
use Rattle.board.specs.Promise.{declined, acted, taken, step_on, Boards, unloaded, stepped, unplayed, replay_on, Brings, unread, played, uncarried, carried_on, Carries, untaken, took_over}
use Rattle.board.specs.declared.Told.{Told}
use Rattle.board.specs.declared.Brought.{Brought}
use Rattle.board.specs.declared.Carried.{Carried}

pub board_one : {image rec out : List ℕ} {t u : Told × List ℕ} → Boards image rec out t → Boards image rec out u → t ≡ u
board_one {out = out} (unloaded c R h) (unloaded d Q g) = h ∙ ap (λ (c : ℕ). (declined c Halt, out)) (refuses_one R Q) ∙ sym g
board_one (unloaded c R h) (stepped n J g) = absurd (refuses_not R (n, J))
board_one (stepped m I h) (unloaded d Q g) = absurd (refuses_not Q (m, I))
board_one {rec = rec} {out = out} (stepped m I h) (stepped n J g) = h ∙ ap (λ (m : Model). step_on m rec out) (image_one I J) ∙ sym g

pub brings_one : {image log out : List ℕ} {t u : Brought × List ℕ} → Brings image log out t → Brings image log out u → t ≡ u
brings_one {out = out} (unread c R h) (unread d Q g) = h ∙ ap (λ (c : ℕ). (unplayed c Halt, out)) (refuses_one R Q) ∙ sym g
brings_one (unread c R h) (played n J g) = absurd (refuses_not R (n, J))
brings_one (played m I h) (unread d Q g) = absurd (refuses_not Q (m, I))
brings_one {log = log} {out = out} (played m I h) (played n J g) = h ∙ ap (λ (m : Model). replay_on m log out) (image_one I J) ∙ sym g

pub carries_one : {image out : List ℕ} {t u : Carried × List ℕ} → Carries image out t → Carries image out u → t ≡ u
carries_one {out = out} (untaken c R h) (untaken d Q g) = h ∙ ap (λ (c : ℕ). (uncarried c Halt, out)) (refuses_one R Q) ∙ sym g
carries_one (untaken c R h) (took_over n J g) = absurd (refuses_not R (n, J))
carries_one (took_over m I h) (untaken d Q g) = absurd (refuses_not Q (m, I))
carries_one {out = out} (took_over m I h) (took_over n J g) = h ∙ ap (λ (m : Model). carried_on (updated m) out) (image_one I J) ∙ sym g

-- ---- a refused call changes nothing, however long the buffer
acted_still : (m : Model) (o : Outcome) (out : List ℕ) → (acted m o out).0.code ≢ 0 → (acted m o out).1 ≡ out
unfolding acted
acted_still m o out h =
    by_test (eqb o.code 0)
    (λ t. by_test (ltb (length out) (length (encode o.state))) (λ u. rw (t, u) refl) (λ u. absurd ((rw (t, u) at h) refl)))
    (λ t. rw t refl)

taken_still : (m : Model) (r : Read) (size : ℕ) (out : List ℕ) → (taken m r size out).0.code ≢ 0 → (taken m r size out).1 ≡ out
taken_still m (Record e n) size out h = by_test (eqb n size) (λ t. rw t (acted_still m (outcome e m) out (rw t at h))) (λ t. rw t refl)
taken_still m AtEnd size out h = refl
taken_still m CutShort size out h = refl
taken_still m UnknownKind size out h = refl
taken_still m PastEnd size out h = refl

pub refused_still : {image rec out : List ℕ} {t : Told × List ℕ} → Boards image rec out t → t.0.code ≢ 0 → t.1 ≡ out
refused_still (unloaded c R g) z = ap (λ (x : Told × List ℕ). x.1) g
refused_still {rec = rec} {out = out} (stepped m I g) z = ap (λ (x : Told × List ℕ). x.1) g ∙ taken_still m (read_at rec 0) (length rec) out (rw g at z)
