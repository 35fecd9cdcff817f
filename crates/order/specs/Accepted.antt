-- What code 0 says of each event: none of the reasons for a refusal holds.
use Rattle.std.specs.Prelude.{ℕ, suc, ◌<◌, ◌≡◌, refl, ◌≢◌, Bool, true, false, cond, ◌||◌, eqb}
use Rattle.std.proofs.Math.Bool.{or-true}
use Rattle.std.proofs.Common.{arith, eqb-true, ne_eqb, ltb-true, ltb-false, le-leb}
use Rattle.std.proofs.lemmas.Bool.{eqb-false, not-true, not-false}
use Rattle.lists.specs.Lists.{none}
use Rattle.lists.specs.Laws.{by_test, never, and_left, and_right}
use Rattle.rules.specs.Values.{nobody}
use Rattle.rules.specs.Model.{devices, last_number, Awaiting, Model, thread}
use Rattle.rules.specs.Rules.{place_of, idle, mine, empty_place, no_number, no_source, no_device, own_number, not_live, dead_source, not_awaiting, full, refusal}
use Rattle.rules.specs.Consistent.{is_number}
use Rattle.rules.specs.declared.Event.{Event}
use Rattle.rules.specs.declared.Event.TheVariants.{Create, Send, Receive, Reply, End, WaitClock, SliceEnd, Tick, WaitDevice, Interrupt}
use Rattle.order.specs.Places.{not_full}

abbrev pub Accepted : Event → Model → Type 0
Accepted Create m = empty_place m ≢ none
Accepted (Send d w) m = (m.running ≢ none) × (place_of m d.0 ≢ none) × (d.0 ≢ mine m)
Accepted (Receive n) m = (m.running ≢ none) × (is_number n.0 || eqb n.0 nobody ≡ true) × (n.0 ≢ mine m) × (n.0 ≢ nobody → place_of m n.0 ≢ none)
Accepted (Reply t w) m =
    (m.running ≢ none) × (place_of m t.0 ≢ none) × (t.0 ≢ mine m) × ((thread m (place_of m t.0)).standing ≡ Awaiting) × ((thread m (place_of m t.0)).partner ≡ mine m)
Accepted (End t) m = place_of m t.0 ≢ none
Accepted WaitClock m = m.running ≢ none
Accepted SliceEnd m = Unit {0}
Accepted Tick m = Unit {0}
Accepted (WaitDevice i) m = (m.running ≢ none) × (i.0 < devices)
Accepted (Interrupt s w) m = Unit {0}

-- a code is 0: the test in front of it failed, and the code behind it is 0
passed : (b : Bool) (c d : ℕ) → cond b (suc c) d ≡ 0 → (b ≡ false) × (d ≡ 0)
passed true c d e = absurd (omega arith)
passed false c d e = (refl, e)

-- a number, or any
source : (n : ℕ) → no_source n ≡ false → is_number n || eqb n nobody ≡ true
source n e =
    by_test (eqb n nobody)
    (λ t. rw t (or-true (is_number n)))
    (λ t. by_test (no_number n) (λ u. never (rw (u, t)) e) (λ u. rw (le-leb n last_number (ltb-false last_number n u))))

live_found : (m : Model) (n : ℕ) → not_live m n ≡ false → place_of m n ≢ none
live_found m n e = eqb-false _ _ (not-true _ (not-false _ e))

pub accepted : (e : Event) (m : Model) → refusal e m ≡ 0 → Accepted e m
accepted Create m z = not_full m (passed (full m) 5 0 z).0
accepted (Send d w) m z =
    let a = passed (idle m) 0 _ z in
    let b = passed (no_number d.0) 1 _ a.1 in
    let c = passed (own_number m d.0) 2 _ b.1 in
    let u = passed (not_live m d.0) 3 0 c.1 in
    (eqb-false _ _ a.0, live_found m d.0 u.0, eqb-false _ _ c.0)
accepted (Receive n) m z =
    let a = passed (idle m) 0 _ z in
    let b = passed (no_source n.0) 1 _ a.1 in
    let c = passed (own_number m n.0) 2 _ b.1 in
    let u = passed (dead_source m n.0) 3 0 c.1 in
    (eqb-false _ _ a.0, source n.0 b.0, eqb-false _ _ c.0, λ k. live_found m n.0 (rw (ne_eqb n.0 nobody k) at u.0))
accepted (Reply t w) m z =
    let a = passed (idle m) 0 _ z in
    let b = passed (no_number t.0) 1 _ a.1 in
    let c = passed (own_number m t.0) 2 _ b.1 in
    let u = passed (not_live m t.0) 3 _ c.1 in
    let v = not-false _ (passed (not_awaiting m t.0) 4 0 u.1).0 in (
      eqb-false _ _ a.0,
      live_found m t.0 u.0,
      eqb-false _ _ c.0,
      eqb-true _ _ (and_left _ (eqb (thread m (place_of m t.0)).partner (mine m)) v),
      eqb-true _ _ (and_right (eqb (thread m (place_of m t.0)).standing Awaiting) _ v),
    )
accepted (End t) m z =
    let a = passed (no_number t.0) 1 _ z in
    let u = passed (not_live m t.0) 3 0 a.1 in
    live_found m t.0 u.0
accepted WaitClock m z = eqb-false _ _ (passed (idle m) 0 0 z).0
accepted SliceEnd m z = tt
accepted Tick m z = tt
accepted (WaitDevice i) m z =
    let a = passed (idle m) 0 _ z in
    let b = passed (no_device i.0) 1 0 a.1 in
    (eqb-false _ _ a.0, ltb-true _ _ (not-false _ b.0))
accepted (Interrupt s w) m z = tt
