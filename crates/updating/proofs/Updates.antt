-- WHAT THE UPDATE LOAD PROMISES, of any bytes whatever (document 02, P2): it refuses as load does, but takes what the old rules call consistent and wakes each
-- receiver that names a dead thread. That it settles the answer, and what it comes to: below.
use Rattle.std.specs.Prelude.{ℕ, ◌≡◌, refl, ◌≢◌, List}
use Rattle.std.proofs.Common.{sym, ap, subst, ◌∙◌, arith}
use Rattle.rules.specs.Model.{Model}
use Rattle.rules.specs.Rules.{updated}
use Rattle.rules.specs.Consistent.{OldConsistent, Consistent}
use Rattle.order.specs.Update.{updates, unanswered, same_inboxes, update_same}
use Rattle.nucleus.specs.View.{view, Shows}
use Rattle.nucleus.specs.Settled.{shows_one}
use Rattle.nucleus.specs.declared.State.{State}
use Rattle.loading.specs.Loads.{head_code, Refused, bad_head, good_head, foreign, accepted, by_head, by_whole, Image, Loads, OldImage, LoadsOld, OldRefuses}
use Rattle.loading.proofs.Injective.{image_one}
use Rattle.loading.proofs.Accepts.{loaded_is, refused_one, refuses_not, refuses_one, accepted_of}
use Rattle.loading.specs.declared.Loaded.{Loaded}
use Rattle.updating.specs.Updates.{Updates, NothingLost}
use Rattle.updating.specs.Updates.Updates.{refused, taken_over}

-- ---- how the code comes to it
pub update_refused : {s : List ℕ} {r : Loaded} → LoadsOld s r → r.code ≢ 0 → Updates s r
update_refused {s} (bad_head n R) k = refused (head_code s) (by_head n refl) R
update_refused (good_head h (foreign f R)) k = refused 10 (by_whole h f refl) R
update_refused (good_head h (accepted A)) k = absurd (k A.told)

pub update_done : {s : List ℕ} {a : Loaded} → LoadsOld s a → a.code ≡ 0 → {t : State} → Shows t (updated (view a.state)) → Updates s (record { code = 0; state = t })
update_done {a = a} L z S = taken_over (view a.state) (accepted_of L z).image refl S

-- ---- one answer
pub update_one : {s : List ℕ} {r t : Loaded} → Updates s r → Updates s t → r ≡ t
update_one {t = t} (refused c R K) (refused d S L) = refused_one K (subst (λ (x : ℕ). Refused x t) (refuses_one S R) L)
update_one (refused c R K) (taken_over m I e S) = absurd (refuses_not R (m, I))
update_one (taken_over m I e S) (refused c R K) = absurd (refuses_not R (m, I))
update_one {t = t} (taken_over m I e S) (taken_over k J f T) =
    loaded_is (e ∙ sym f) (shows_one S (subst (λ (x : Model). Shows t.state (updated x)) (image_one J I) T))

-- ---- what it comes to

-- a refusal has another code than 0
pub refuses_some : {s : List ℕ} {c : ℕ} → OldRefuses s c → c ≢ 0
refuses_some (by_head n e) z = n (sym e ∙ z)
refuses_some (by_whole h f e) z = omega arith

-- code 0 exactly for what the old rules call an image
pub update_takes : {s : List ℕ} {r : Loaded} → Updates s r → (r.code ≡ 0 → (m : Model) × OldImage m s × Shows r.state (updated m)) × ((m : Model) → OldImage m s → r.code ≡ 0)
update_takes (refused c R K) = (λ z. absurd (refuses_some R (sym K.told ∙ z)), λ m I. absurd (refuses_not R (m, I)))
update_takes (taken_over m I e S) = (λ _. (m, I, S), λ k J. e)

-- what the bytes are the image of by the old rules is given, updated
pub update_gives : {s : List ℕ} {r : Loaded} (m : Model) → OldImage m s → Updates s r → Shows r.state (updated m)
update_gives m I (refused c R K) = absurd (refuses_not R (m, I))
update_gives {r = r} m I (taken_over k J e S) = subst (λ (x : Model). Shows r.state (updated x)) (image_one J I) S

-- any other code is a refusal
pub update_refuses : {s : List ℕ} {r : Loaded} → Updates s r → r.code ≢ 0 → OldRefuses s r.code
update_refuses {s} (refused c R K) k = subst (OldRefuses s) (sym K.told) R
update_refuses (taken_over m I e S) k = absurd (k e)

-- what it gives is consistent by the rules as they are
pub update_consistent : (m : Model) {s : List ℕ} → OldImage m s → Consistent (updated m)
update_consistent m I = updates m I.1.consistent

-- an image is one by the old rules too
pub old_image : {m : Model} {s : List ℕ} → Image m s → OldImage m s
old_image (row, I) = (row, record { known = I.known; consistent = I.consistent.old; holds = I.holds; bytes = I.bytes })

-- it changes nothing where load accepts: both give the same
pub update_loads : {s : List ℕ} {a r : Loaded} → Loads s a → a.code ≡ 0 → Updates s r → r ≡ a
update_loads L z (refused c R K) = absurd (refuses_not R (_, old_image (accepted_of L z).image))
update_loads {a = a} {r = r} L z (taken_over m I e S) =
    let A = accepted_of L z in
    let J = A.image in
    let k : view a.state ≡ m = image_one (old_image J) I in
    let f : updated m ≡ view a.state = ap updated (sym k) ∙ update_same (view a.state) J.1.consistent in
    let T : Shows a.state (updated m) = record { consists = A.consists; seen = sym f } in
    loaded_is (e ∙ sym z) (shows_one S T)

pub lost_nothing : (m : Model) → OldConsistent m → NothingLost m (updated m)
lost_nothing m C = record { sends = unanswered m C; inboxes = same_inboxes m C }

pub nothing_lost : {s : List ℕ} {r : Loaded} (m : Model) → OldImage m s → Updates s r → NothingLost m (view r.state)
nothing_lost m I U = rw (update_gives m I U).seen (lost_nothing m I.1.consistent)
