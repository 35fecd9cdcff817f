-- A consistent nucleus passes each test (`passes`, `seated`): the tests refuse no nucleus that is consistent by the rules that they go by.
use Rattle.std.specs.Prelude.{ℕ, ◌≤◌, ◌<◌, ◌≡◌, refl, List, Bool, true, false, get_or, eqb}
use Rattle.std.proofs.Common.{sym, ap, ◌∙◌, arith, eqb-true, eq-eqb, ne_eqb, le-leb, lt-ltb}
use Rattle.std.proofs.Math.Decide.{ℕ_discrete}
use Rattle.lists.specs.Lists.{none}
use Rattle.lists.specs.Laws.{never, and_both}
use Rattle.lists.specs.Tables.{bit_same}
use Rattle.rules.specs.Values.{nobody}
use Rattle.rules.specs.Model.{places, last_number, Running, Ready, Sending, Awaiting, Receiving, Waiting, AtDevice, Thread, Model, ready, clock, device, inbox, line_count, thread}
use Rattle.rules.specs.Rules.{is_nil}
use Rattle.rules.specs.Consistent.{is_number, belongs, OldConsistent, ConsistentBy}
use Rattle.order.specs.ByLine.{at_device, at_inbox}
use Rattle.order.specs.Sound.{old_sound, old_of, inside, at_index}
use Rattle.order.specs.Belongs.{Lineless, in_none}
use Rattle.audit.specs.Tests.{fits, home, runs_alone, unheard, names_live, parent_found, place_test, desk_test, Homes, Index}
use Rattle.audit.specs.Alone.{fit_fits, home_none, found}

module _ (strict : Bool) (m : Model) (at who : List ℕ) (W : Homes m at) (X : Index m who) (K : ConsistentBy strict m) where
  C : OldConsistent m
  C = old_of strict K

  -- where p stands is where its standing puts it
  standing_at : (p q : ℕ) → p < places → q < line_count → eqb (get_or at p 0) q ≡ belongs m (thread m p) q
  standing_at p q h l = bit_same (eqb (get_or at p 0) q) (belongs m (thread m p) q) (sym (W.within p q h l) ∙ C.stood p q)

  in_line : (p q : ℕ) → p < places → q < line_count → belongs m (thread m p) q ≡ true → get_or at p 0 ≡ q
  in_line p q h l e = eqb-true _ _ (standing_at p q h l ∙ e)

  in_no_line : (p : ℕ) → p < places → ((q : ℕ) → belongs m (thread m p) q ≡ false) → get_or at p 0 ≡ none
  in_no_line p h n = elim (ℕ_discrete (get_or at p 0) none) [
    | yes e ↦ e
    | no k ↦
        let l = W.sure p h k in
        let e : eqb (get_or at p 0) (get_or at p 0) ≡ false = standing_at p (get_or at p 0) h l ∙ n (get_or at p 0) in
        never (eq-eqb (get_or at p 0) (get_or at p 0) refl) e
  ]

  -- the partner's place is found
  meets : (p : ℕ) → Sending ≤ (thread m p).standing → (thread m p).standing ≤ Awaiting
      → (get_or who (thread m p).partner 0 < places) × ((thread m (get_or who (thread m p).partner 0)).number ≡ (thread m p).partner)
  meets p i j =
      let v = C.served p i j in
      let f = found m C.threads X v.0 (thread m p).partner v.1 v.2 in
      (rw f (inside m C.threads v.0 v.1), rw f v.2)

  home_at : (p : ℕ) → p < places → get_or at p 0 ≡ home who (thread m p)
  home_at p h = elim (ℕ_discrete (thread m p).standing Ready) [
    | yes z ↦ in_line p ready h (omega arith) (rw z) ∙ sym (rw z)
    | no a ↦ elim (ℕ_discrete (thread m p).standing Waiting) [
      | yes z ↦ in_line p clock h (omega arith) (rw z) ∙ sym (rw z)
      | no c ↦ elim (ℕ_discrete (thread m p).standing Sending) [
        | yes z ↦
            let v = meets p (omega arith) (omega arith) in
            let r = get_or who (thread m p).partner 0 in
            in_line p (inbox r) h (omega (arith, v.0)) (at_inbox m (thread m p) r ∙ rw (z, v.1, eq-eqb (thread m p).partner (thread m p).partner refl))
            ∙ sym (rw (z, lt-ltb r places v.0))
        | no b ↦ elim (ℕ_discrete (thread m p).standing AtDevice) [
          | yes z ↦
              let i = at_index m (old_sound m C) p z in
              in_line p (device (thread m p).partner) h (omega arith) (at_device m (thread m p) (thread m p).partner i ∙ rw (z, eq-eqb (device (thread m p).partner) (device (thread m p).partner) refl))
              ∙ sym (rw (z, lt-ltb _ _ i))
          | no f ↦ in_no_line p h (in_none m (thread m p) (a, b, c, f)) ∙ sym (homeless (a, b, c, f))
        ]
      ]
    ]
  ]
    where
      homeless : Lineless (thread m p).standing → home who (thread m p) ≡ none
      homeless k = elim (ℕ_discrete (thread m p).standing Awaiting) [
        | yes z ↦ let v = meets p (omega arith) (omega arith) in rw (z, lt-ltb (get_or who (thread m p).partner 0) places v.0)
        | no d ↦ home_none who (thread m p) k d
      ]

  quiet : (p : ℕ) → unheard (thread m (get_or who (thread m p).partner 0)) (thread m p) ≡ true
  quiet p = elim (ℕ_discrete (thread m p).standing Sending) [
    | no k ↦ rw (ne_eqb (thread m p).standing Sending k)
    | yes z ↦ let d = (old_sound m C).deaf (get_or who (thread m p).partner 0) p z (sym (meets p (omega arith) (omega arith)).1) in rw (z, d)
  ]

  -- whom a receiver names is found too
  listened : (b : Bool) → ConsistentBy b m → (p : ℕ) → names_live b (get_or who (thread m p).partner 0) (thread m p) ≡ true
  listened false L p = refl
  listened true L p = elim (ℕ_discrete (thread m p).standing Receiving) [
    | no k ↦ rw (ne_eqb (thread m p).standing Receiving k)
    | yes five ↦ rw (eq-eqb (thread m p).standing Receiving five) (elim (ℕ_discrete (thread m p).partner nobody) [
      | yes z ↦ rw (eq-eqb (thread m p).partner nobody z)
      | no k ↦
          let v = L.listens p five k in
          let f = found m C.threads X v.0 (thread m p).partner v.1 v.2 in
          rw (ne_eqb (thread m p).partner nobody k, f) (lt-ltb v.0 places (inside m C.threads v.0 v.1))
    ])
  ]

  -- and so is a parent
  parent_found_lem : (p : ℕ) → parent_found who (thread m p) ≡ true
  parent_found_lem p = elim (ℕ_discrete (thread m p).parent nobody) [
    | yes z ↦ rw (eq-eqb (thread m p).parent nobody z)
    | no k ↦
        let v = C.parented p (λ z. k (ap (λ (t : Thread). t.parent) (C.clean p z))) k in
        let f = found m C.threads X v.0 (thread m p).parent v.1 v.2 in
        let n = C.numbers v.0 v.1 in
        let e = v.2 in
        rw (ne_eqb (thread m p).parent nobody k, le-leb (thread m p).parent last_number (omega arith), f) (lt-ltb v.0 places (inside m C.threads v.0 v.1))
  ]

  pub passes : (p : ℕ) → p < places → place_test strict m at who p ≡ true
  passes p h =
      and_both (fits (thread m p)) _ (fit_fits (thread m p) ((old_sound m C).fits p))
      (and_both (runs_alone m.running p (thread m p)) _ alone
      (and_both (eqb (get_or at p 0) (home who (thread m p))) _ (eq-eqb _ _ (home_at p h))
      (and_both (unheard (thread m (get_or who (thread m p).partner 0)) (thread m p)) _ (quiet p)
      (and_both (names_live strict (get_or who (thread m p).partner 0) (thread m p)) _ (listened strict K p) (parent_found_lem p)))))
    where
      alone : runs_alone m.running p (thread m p) ≡ true
      alone = elim (ℕ_discrete (thread m p).standing Running) [
        | yes z ↦ rw z (eq-eqb m.running p (C.one p z))
        | no k ↦ rw (ne_eqb (thread m p).standing Running k)
      ]

pub seated : (m : Model) → OldConsistent m → desk_test m ≡ true
seated m C = and_both (is_number m.last) _ (le-leb _ _ C.last) (elim (ℕ_discrete m.running none) [
  | yes z ↦ rw (eq-eqb m.running none z) (ap is_nil (C.settled z))
  | no k ↦ rw (ne_eqb m.running none k) (eq-eqb (thread m m.running).standing Running (C.busy k))
])
