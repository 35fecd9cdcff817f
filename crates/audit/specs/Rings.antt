-- Parents by the arrays: a walk from parent to parent that stamps each place it comes to, what it has found where it stops (`Stamped`, `Ring`), and that
-- the rules say the same (`ends_above`, `ring_not`).
use Rattle.std.specs.Prelude.{ℕ, zero, suc, ◌+◌, ◌≤◌, ◌<◌, ◌≡◌, refl, ◌≢◌, List, [], ◌∷◌, cond, length, get_or, set, replicate, ltb}
use Rattle.std.proofs.Common.{sym, ap, ◌∙◌, arith, length-set, get_or-set_same, get_or-set_other, ne_eqb, lt-ltb, le-ltb}
use Rattle.std.proofs.Math.Decide.{ℕ_discrete, dec_lt}
use Rattle.std.proofs.lemmas.List.{length-replicate}
use Rattle.lists.specs.Lists.{none, count}
use Rattle.lists.specs.Tables.{all_same}
use Rattle.kin.specs.Climb.{climb, climb_last, climb_add, climb_none, no_return}
use Rattle.rules.specs.Values.{nobody}
use Rattle.rules.specs.Model.{places, Empty, Thread, Model, thread}
use Rattle.rules.specs.Rules.{place_of}
use Rattle.rules.specs.Consistent.{above, OldConsistent}
use Rattle.order.specs.Sound.{Sound, old_sound, out}
use Rattle.order.specs.Places.{placed, unused}
use Rattle.order.specs.Above.{nobody_nowhere, above_none}
use Rattle.table.specs.Cells.{cell, model_of}
use Rattle.table.specs.Rows.{thread_at}
use Rattle.audit.specs.Tests.{Index}
use Rattle.audit.specs.Alone.{found}
use Rattle.audit.specs.Loops.{Indexed, bytes, indexed}

-- the place above r: that of its parent, or none
abbrev pub over : List ℕ → List ℕ → ℕ → ℕ
over b who r = cond (ltb r places) (get_or who (get_or b (cell 5 r) 0) 0) none

-- from parent to parent one comes from s to nobody
abbrev pub Rises : List ℕ → List ℕ → ℕ → Type 0
Rises b who s = (k : ℕ) × (climb (over b who) k s ≡ none)

-- or from a place back to it
pub record Ring (b who : List ℕ) : Type 0 where
  pub place : ℕ
  pub inside : place < places
  pub steps : ℕ
  pub back : climb (over b who) (suc steps) place ≡ place

-- the walks from the first n places have ended, and so do those from every place that has a stamp
pub record Stamped (b who stamps : List ℕ) (n : ℕ) : Type 0 where
  pub room : length stamps ≡ places
  pub ends : (s : ℕ) → s < n → Rises b who s
  pub known : (s : ℕ) → s < places → get_or stamps s 0 ≢ 0 → (get_or stamps s 0 ≤ n) × Rises b who s

-- the walk from p has come to r, and by way of those that have its own stamp
pub record Walk (b who stamps : List ℕ) (p r : ℕ) : Type 0 where
  pub room : length stamps ≡ places
  pub known : (s : ℕ) → s < places → get_or stamps s 0 ≢ 0 → get_or stamps s 0 ≢ p + 1 → (get_or stamps s 0 ≤ p) × Rises b who s
  pub own : (s : ℕ) → s < places → get_or stamps s 0 ≡ p + 1 → (j : ℕ) × (climb (over b who) (suc j) s ≡ r)
  pub led : (i : ℕ) × (climb (over b who) i p ≡ r)
  pub top : places ≤ r → r ≡ none

-- each step leaves one place fewer without a stamp
pub fewer : (l : List ℕ) (i x : ℕ) → i < length l → get_or l i 0 ≡ 0 → x ≢ 0 → count 0 (set l i x) < count 0 l
fewer [] i x h e n = absurd (omega arith)
fewer (y ∷ l) zero x h e n = rw (e, ne_eqb x 0 n) (omega arith)
fewer (y ∷ l) (suc i) x h e n = let ih = fewer l i x (omega arith) e n in omega (arith, ih)

pub stamp_none : {b who stamps : List ℕ} → stamps ≡ replicate places 0 → Stamped b who stamps 0
stamp_none e = record {
  room = ap length e ∙ length-replicate {A = ℕ} places 0;
  ends = λ s h. absurd (omega arith);
  known = λ s h k. absurd (k (rw e (all_same places s 0)));
}

module _ {b who : List ℕ} where
  -- the walk from p begins ..
  pub walk_from : {stamps : List ℕ} {p : ℕ} → p < places → Stamped b who stamps p → Walk b who stamps p p
  walk_from h S = record {
    room = S.room;
    known = λ s i k _. S.known s i k;
    own = λ s i e. let v = (S.known s i (λ z. omega arith)).0 in absurd (omega arith);
    led = (0, refl);
    top = λ i. absurd (omega arith);
  }

  module _ {stamps : List ℕ} {p r : ℕ} (W : Walk b who stamps p r) where
    -- .. goes on ..
    pub walk_on : Indexed b who places → r < places → get_or stamps r 0 ≡ 0 → get_or b (cell 5 r) 0 < bytes → Walk b who (set stamps r (p + 1)) p (get_or who (get_or b (cell 5 r) 0) 0)
    walk_on X h z low = record {
      room = length-set stamps r (p + 1) ∙ W.room;
      known = λ s i k n. elim (ℕ_discrete s r) [
        | yes e ↦ absurd (n (rw e here))
        | no d ↦ let o = get_or-set_other stamps r s (p + 1) 0 d in rw o (W.known s i (λ y. k (o ∙ y)) (λ y. n (o ∙ y)))
      ];
      own = λ s i e. elim (ℕ_discrete s r) [
        | yes y ↦ (0, rw y step)
        | no d ↦ let v = W.own s i (sym (get_or-set_other stamps r s (p + 1) 0 d) ∙ e) in (suc v.0, more (suc v.0) s v.1)
      ];
      led = (suc W.led.0, more W.led.0 p W.led.1);
      top = λ g. elim (ℕ_discrete (get_or who (get_or b (cell 5 r) 0) 0) none) [
        | yes e ↦ e
        | no n ↦ let v = (X.back (get_or b (cell 5 r) 0) low n).0 in absurd (omega arith)
      ];
    }
      where
        here : get_or (set stamps r (p + 1)) r 0 ≡ p + 1
        here = let o = W.room in get_or-set_same stamps r (p + 1) 0 (omega arith)

        step : over b who r ≡ get_or who (get_or b (cell 5 r) 0) 0
        step = rw (lt-ltb r places h)

        more : (i s : ℕ) → climb (over b who) i s ≡ r → climb (over b who) (suc i) s ≡ get_or who (get_or b (cell 5 r) 0) 0
        more i s e = climb_last (over b who) i s ∙ ap (over b who) e ∙ step

    -- .. and stops: where one comes from there to nobody, one does from all that it has stamped,
    pub walk_ends : {before : List ℕ} → Stamped b who before p → Rises b who r → Stamped b who stamps (p + 1)
    walk_ends S E = record {
      room = W.room;
      ends = λ s h. elim (ℕ_discrete s p) [
        | yes e ↦ rw e (by_way W.led.0 p W.led.1)
        | no n ↦ S.ends s (omega arith)
      ];
      known = λ s h k. elim (ℕ_discrete (get_or stamps s 0) (p + 1)) [
        | yes e ↦ let v = W.own s h e in (omega arith, by_way (suc v.0) s v.1)
        | no n ↦ let v = W.known s h k n in (omega (arith, v.0), v.1)
      ];
    }
      where
        by_way : (i s : ℕ) → climb (over b who) i s ≡ r → Rises b who s
        by_way i s e = (i + E.0, climb_add (over b who) i E.0 s ∙ ap (climb (over b who) E.0) e ∙ E.1)

    -- and where it finds its own stamp, it has come back
    pub walk_ring : r < places → get_or stamps r 0 ≡ p + 1 → Ring b who
    walk_ring h e = let v = W.own r h e in record { place = r; inside = h; steps = v.0; back = v.1 }

-- ---- by the rules

-- a number is found at the place where the rules find it
where_lives : (m : Model) → Sound m → {who : List ℕ} → Index m who → (n : ℕ) → n ≤ nobody → get_or who n 0 ≡ place_of m n
where_lives m S {who} X n low = elim (ℕ_discrete (place_of m n) none) [
  | no k ↦ let v = placed m n k in found m S.threads X (place_of m n) n v.0 v.1
  | yes e ↦ elim (ℕ_discrete (get_or who n 0) none) [
    | yes z ↦ z ∙ sym e
    | no k ↦ let v = X.back n low k in absurd (unused m S n e (get_or who n 0) v.1 v.2)
  ]
]

module _ {b who : List ℕ} (y x : ℕ) (w l : List ℕ) (k : Indexed b who places) where
  abbrev m : Model
  m = model_of y x b w l

  module _ (S : Sound m) (low : (p : ℕ) → (thread m p).parent ≤ nobody) where
    over_above : (r : ℕ) → over b who r ≡ above m r
    over_above r = elim (dec_lt r places) [
      | yes h ↦
          let e : get_or b (cell 5 r) 0 ≡ (thread m r).parent = ap (λ (t : Thread). t.parent) (sym (thread_at y x b w l r h)) in
          rw (lt-ltb r places h, e) (where_lives m S (indexed y x w l k) (thread m r).parent (low r))
      | no h ↦ rw (le-ltb r places (omega arith), out m S.threads r (omega arith)) (sym (nobody_nowhere m S))
    ]

    climbs : (j r : ℕ) → climb (over b who) j r ≡ climb (above m) j r
    climbs j r = ap (λ (f : ℕ → ℕ). climb f j r) (λ i s. over_above s i)

    pub ends_above : {p : ℕ} → Rises b who p → (j : ℕ) × (climb (above m) j p ≡ none)
    ends_above {p} E = (E.0, sym (climbs E.0 p) ∙ E.1)

  -- a ring is not consistent
  pub ring_not : Ring b who → OldConsistent m → ⊥
  ring_not R C =
      let S = old_sound m C in
      let s = R.place in
      let h = R.inside in
      let back = sym (climbs S low (suc R.steps) s) ∙ R.back in
      elim (ℕ_discrete (thread m s).standing Empty) [
        | no n ↦ no_return (above m) (above_none m S) (C.rooted s n).0 R.steps s (λ e. omega arith) (C.rooted s n).1 back
        | yes z ↦
            let a : above m s ≡ none = ap (λ (t : Thread). place_of m t.parent) (C.clean s z) ∙ nobody_nowhere m S in
            let e : none ≡ s = sym (ap (climb (above m) R.steps) a ∙ climb_none (above m) (above_none m S) R.steps) ∙ back in
            omega arith
      ]
    where
      low : (p : ℕ) → (thread m p).parent ≤ nobody
      low p = elim (ℕ_discrete (thread m p).parent nobody) [
        | yes e ↦ omega arith
        | no n ↦
            let v = C.parented p (λ z. n (ap (λ (t : Thread). t.parent) (C.clean p z))) n in
            let i = C.numbers v.0 v.1 in
            let e = v.2 in
            omega arith
      ]
