-- What the promise of load comes to: 0 for the images of consistent states and for nothing else, the state that was saved, and one answer for any bytes.
use Rattle.std.specs.Prelude.{◌≡◌, refl, ◌≢◌, List, Bool, true, eqb, ltb, length, ℕ, ◌≤◌}
use Rattle.std.proofs.Common.{sym, ap, ◌∙◌, eq-eqb, arith}
use Rattle.lists.specs.Lists.{bit, count}
use Rattle.lists.specs.Laws.{by_test}
use Rattle.lists.specs.Bytes.{two_at}
use Rattle.rules.specs.Model.{AtDevice, Model, device, thread, line}
use Rattle.rules.specs.Consistent.{belongs}
use Rattle.order.specs.ByLine.{at_device}
use Rattle.order.specs.Sound.{old_sound, old_of, at_index}
use Rattle.nucleus.specs.View.{view, ShowsBy}
use Rattle.nucleus.specs.Settled.{settled, shows_one}
use Rattle.saving.specs.Format.{shortest_head, total_at, head_length}
use Rattle.saving.specs.declared.format.Row.{Row}
use Rattle.loading.specs.Loads.{row_at, head_code, ImageAsBy, ImageBy, ForeignBy, Refused, TakenBy, JudgedBy, foreign, accepted, LoadsBy, bad_head, good_head, RefusesBy, by_head, by_whole}
use Rattle.loading.specs.Judges.{head_image}
use Rattle.loading.proofs.Injective.{image_one}
use Rattle.loading.specs.declared.Loaded.{Loaded}
use Rattle.loading.specs.Accepts.{IsImageBy}

-- load gives 0 exactly for these
pub accepts : {strict : Bool} {s : List ℕ} {r : Loaded} → LoadsBy strict s r → (r.code ≡ 0 → IsImageBy strict s) × (IsImageBy strict s → r.code ≡ 0)
accepts (bad_head n R) = (λ z. absurd (n (sym R.told ∙ z)), λ w. absurd (n (head_image w.1)))
accepts (good_head h (foreign f R)) = (λ z. let t = R.told in absurd (omega arith), λ w. absurd (f w.0 w.1))
accepts {r = r} (good_head h (accepted A)) = (λ z. (view r.state, A.image), λ w. A.told)

-- and 10 exactly where neither 8 nor 9 is given and the bytes are the image of no consistent model
head_codes : (s : List ℕ) → head_code s ≡ 10 → ⊥
head_codes s e =
    by_test (ltb (length s) shortest_head)
    (λ t. let z : ◌≡◌ {A = ℕ} 8 10 = rw t at e in omega arith)
    (λ t. by_test (eqb (row_at s).queues 0)
    (λ u. let z : ◌≡◌ {A = ℕ} 9 10 = rw (t, u) at e in omega arith)
    (λ u. by_test (ltb (length s) (head_length (row_at s)))
    (λ v. let z : ◌≡◌ {A = ℕ} 8 10 = rw (t, u, v) at e in omega arith)
    (λ v. by_test (eqb (two_at s (total_at (row_at s))) (length s))
    (λ w. let z : ◌≡◌ {A = ℕ} 0 10 = rw (t, u, v, w) at e in omega arith)
    (λ w. let z : ◌≡◌ {A = ℕ} 8 10 = rw (t, u, v, w) at e in omega arith))))

pub refuses : {strict : Bool} {s : List ℕ} {r : Loaded} → LoadsBy strict s r → (r.code ≡ 10 → (head_code s ≡ 0) × ForeignBy strict s) × (head_code s ≡ 0 → ForeignBy strict s → r.code ≡ 10)
refuses {s = s} (bad_head n R) = (λ z. absurd (head_codes s (sym R.told ∙ z)), λ h f. absurd (n h))
refuses (good_head h (foreign f R)) = (λ z. (h, f), λ g k. R.told)
refuses {r = r} (good_head h (accepted A)) = (λ z. let t = A.told in absurd (omega arith), λ g k. absurd (k (view r.state) A.image))

-- code 0 says that the bytes are the image of the state given
pub accepted_of : {strict : Bool} {s : List ℕ} {r : Loaded} → LoadsBy strict s r → r.code ≡ 0 → TakenBy strict s r
accepted_of (bad_head n R) z = absurd (n (sym R.told ∙ z))
accepted_of (good_head h (foreign f R)) z = let t = R.told in absurd (omega arith)
accepted_of (good_head h (accepted A)) z = A

-- any other code than 0 is a refusal, ..
pub refuses_of : {strict : Bool} {s : List ℕ} {r : Loaded} → LoadsBy strict s r → r.code ≢ 0 → RefusesBy strict s r.code
refuses_of (bad_head n R) k = by_head n R.told
refuses_of (good_head h (foreign f R)) k = by_whole h f R.told
refuses_of (good_head h (accepted A)) k = absurd (k A.told)

-- .. no image of a consistent model is refused, ..
pub refuses_not : {strict : Bool} {s : List ℕ} {c : ℕ} → RefusesBy strict s c → IsImageBy strict s → ⊥
refuses_not (by_head n e) w = n (head_image w.1)
refuses_not (by_whole h f e) w = f w.0 w.1

-- .. and bytes are refused with one code
pub refuses_one : {strict : Bool} {s : List ℕ} {c d : ℕ} → RefusesBy strict s c → RefusesBy strict s d → c ≡ d
refuses_one (by_head n e) (by_head k g) = e ∙ sym g
refuses_one (by_head n e) (by_whole h f g) = absurd (n h)
refuses_one (by_whole h f e) (by_head k g) = absurd (k h)
refuses_one (by_whole h f e) (by_whole j k g) = e ∙ sym g

-- what the bytes are the image of is loaded
pub loads_back : {strict : Bool} {s : List ℕ} {r : Loaded} (m : Model) → ImageBy strict m s → LoadsBy strict s r → ShowsBy strict r.state m
loads_back m I (bad_head n R) = absurd (n (head_image I))
loads_back m I (good_head h (foreign f R)) = absurd (f m I)
loads_back m I (good_head h (accepted A)) = record { consists = A.consists; seen = image_one A.image I }

-- ---- an edition without device queues has nobody who waits at a device: a standing 7 in edition 1 gets 10
pub none_waits : {strict : Bool} {row : Row} {m : Model} {s : List ℕ} → ImageAsBy strict row m s → row.queues ≤ device 0 → (p : ℕ) → (thread m p).standing ≢ AtDevice
none_waits {strict} {row} {m} I h p z =
    let S = old_sound m (old_of strict I.consistent) in
    let i = at_index m S p z in
    let q = device (thread m p).partner in
    let a : belongs m (thread m p) q ≡ true = at_device m (thread m p) (thread m p).partner i ∙ rw (z, eq-eqb q q refl) in
    let b : count p (line m q) ≡ 1 = S.stood p q ∙ ap bit a in
    let c : ◌≡◌ {A = ℕ} 0 1 = rw (I.holds.queues q (omega arith) (omega arith)) at b in
    omega arith

-- ---- one answer
pub loaded_is : {r t : Loaded} → r.code ≡ t.code → r.state ≡ t.state → r ≡ t
loaded_is e f = λ i. record { code = e i; state = f i }

pub refused_one : {c : ℕ} {r t : Loaded} → Refused c r → Refused c t → r ≡ t
refused_one R T = loaded_is (R.told ∙ sym T.told) (shows_one R.state T.state)

accepted_one : {strict : Bool} {s : List ℕ} {r t : Loaded} → TakenBy strict s r → TakenBy strict s t → r ≡ t
accepted_one {r = r} {t} A B =
    loaded_is (A.told ∙ sym B.told)
    (settled r.state t.state A.consists B.consists
    (image_one A.image B.image))

never_both : {strict : Bool} {G : Type 0} {s : List ℕ} {r : Loaded} → ForeignBy strict s → TakenBy strict s r → G
never_both {r = r} f A = absurd (f (view r.state) A.image)

judged_one : {strict : Bool} {s : List ℕ} {r t : Loaded} → JudgedBy strict s r → JudgedBy strict s t → r ≡ t
judged_one (foreign f R) (foreign g T) = refused_one R T
judged_one (foreign f R) (accepted B) = never_both f B
judged_one (accepted A) (foreign g T) = never_both g A
judged_one (accepted A) (accepted B) = accepted_one A B

-- two answers that keep the promise are one, states included
pub load_one : {strict : Bool} {s : List ℕ} {r t : Loaded} → LoadsBy strict s r → LoadsBy strict s t → r ≡ t
load_one (bad_head n R) (bad_head k T) = refused_one R T
load_one (bad_head n R) (good_head g K) = absurd (n g)
load_one (good_head h J) (bad_head k T) = absurd (k h)
load_one (good_head h J) (good_head g K) = judged_one J K
