-- The test as a whole: what its parts have told, put together.
use Rattle.std.specs.Prelude.{ℕ, ◌*◌, ◌^◌, ◌<◌, ◌≡◌, List, [], Bool, true, false, ◌&&◌, length, get_or, eqb}
use Rattle.std.proofs.Common.{sym, ap, ◌∙◌, arith, eqb-true, eq-eqb}
use Rattle.std.proofs.Math.Decide.{dec_lt}
use Rattle.lists.specs.Lists.{bit}
use Rattle.lists.specs.Laws.{never, and_left, and_right}
use Rattle.lists.specs.Counts.{distinct_count, among_none}
use Rattle.lists.specs.Tables.{length_tab}
use Rattle.lists.specs.Tells.{Tells}
use Rattle.lines.specs.Lines as Lines
use Rattle.lines.specs.Lines.{line_of, Tidy}
use Rattle.lines.specs.Arrays.{once}
use Rattle.lines.specs.Along.{no_place}
use Rattle.rules.specs.Model.{places, line_count}
use Rattle.rules.specs.Consistent.{ConsistentBy}
use Rattle.order.specs.Sound.{old_of}
use Rattle.table.specs.Cells.{cell, byte_rows, word_rows, thread_of, model_of, shown, Filled, StandsBy}
use Rattle.table.specs.Rows.{thread_at, thread_past, line_at, line_past}
use Rattle.table.specs.declared.Desk.{Desk}
use Rattle.audit.specs.Tests.{place_test, desk_test, Homes}
use Rattle.audit.specs.Judge.{judged}
use Rattle.audit.specs.Passes.{passes, seated}
use Rattle.audit.specs.Loops.{Indexed, Twice, indexed, twice_not}
use Rattle.audit.specs.Rings.{Rises, Ring, ends_above, ring_not}

-- every place passes, with an index of the numbers, and by that index parents form no ring
pub record Members (strict : Bool) (x : ℕ) (b w at : List ℕ) : Type 0 where
  pub who : List ℕ
  pub index : Indexed b who places
  pub tests : (p : ℕ) → p < places → place_test strict (model_of 0 x b w []) at who p ≡ true
  pub ends : (p : ℕ) → p < places → Rises b who p

-- no nucleus of these places is consistent
pub record Strangers (strict : Bool) (x : ℕ) (b w at : List ℕ) : Type 0 where
  pub never : (y : ℕ) (l : List ℕ) → Homes (model_of y x b w l) at → ConsistentBy strict (model_of y x b w l) → ⊥

module _ {strict : Bool} {x : ℕ} {b w at : List ℕ} where
  pub strangers_twice : Twice b → Strangers strict x b w at
  strangers_twice t = record { never = λ y l W C. twice_not y x w l t (old_of strict C) }

  module _ {who : List ℕ} (k : Indexed b who places) where
    pub strangers_one : (p : ℕ) × (p < places) × (place_test strict (model_of 0 x b w []) at who p ≡ false) → Strangers strict x b w at
    strangers_one v = record { never = λ y l W C. never (passes strict (model_of y x b w l) at who W (indexed y x w l k) C v.0 v.1) v.2 }

    pub told : ((p : ℕ) → p < places → place_test strict (model_of 0 x b w []) at who p ≡ true) → {r : Bool} → Tells r ((p : ℕ) → p < places → Rises b who p) (Ring b who)
        → Tells r (Members strict x b w at) (Strangers strict x b w at)
    told t s = record {
      yes = λ e. record { who = who; index = k; tests = t; ends = s.yes e };
      no = λ e. record { never = λ y l W C. ring_not y x w l k (s.no e) (old_of strict C) };
    }

-- what the survey of the lines found, in the model
pub found : {l at : List ℕ} (y x : ℕ) (b w : List ℕ) → Lines.Whereabouts places line_count l at → Homes (model_of y x b w l) at
found {l} {at} y x b w k = record {
  within = λ p q h i. rw (line_at y x b w l q i) (distinct_count p (line_of places l q) (once places line_count (omega arith) l k.tidy q i) ∙ ap bit (k.here p q h i));
  beyond = λ p q h. elim (dec_lt q line_count) [
    | yes i ↦ rw (line_at y x b w l q i) (among_none p (line_of places l q) (no_place k.tidy (omega arith) p q i h))
    | no i ↦ rw (line_past y x b w l q (omega arith))
  ];
  sure = k.sure;
}

-- ---- what each part has told, and the answer

consists : (strict : Bool) (d : Desk) {b w l at : List ℕ} → Lines.Whereabouts places line_count l at → Members strict d.running.0 b w at → desk_test (shown d b w l) ≡ true
    → ((i : ℕ) → get_or w i 0 < 2 ^ 32) → ConsistentBy strict (shown d b w l)
consists strict d {b} {w} {l} {at} k s e fit =
    judged strict (shown d b w l) (length_tab places (thread_of b w)) (length_tab line_count (line_of places l)) at s.who (found d.last.0 d.running.0 b w k)
    (indexed d.last.0 d.running.0 w l s.index)
    (λ p. elim (dec_lt p places) [
      | yes h ↦ rw (thread_at d.last.0 d.running.0 b w l p h) (fit (cell 0 p), fit (cell 1 p))
      | no h ↦ rw (thread_past d.last.0 d.running.0 b w l p (omega arith)) (omega arith, omega arith)
    ])
    s.tests e (λ S low p h. ends_above d.last.0 d.running.0 w l s.index S low (s.ends p h))

module _ {strict : Bool} {d : Desk} {b w l : List ℕ} where
  pub not_tidy : (Tidy places line_count l → ⊥) → StandsBy strict d b w l → ⊥
  not_tidy n s = n s.whole.lines

  pub not_members : {at : List ℕ} → Lines.Whereabouts places line_count l at → Strangers strict d.running.0 b w at → StandsBy strict d b w l → ⊥
  not_members k n s = n.never d.last.0 l (found d.last.0 d.running.0 b w k) s.consistent

  pub not_seated : desk_test (shown d b w l) ≡ false → StandsBy strict d b w l → ⊥
  not_seated e s = never (seated (shown d b w l) (old_of strict s.consistent)) e

  -- the last test: the filled set, and the sizes
  pub answer : {at : List ℕ} (f x y : ℕ) → Lines.Whereabouts places line_count l at → Members strict d.running.0 b w at → desk_test (shown d b w l) ≡ true → ((i : ℕ) → get_or w i 0 < 2 ^ 32)
      → Filled f b → x ≡ length b → y ≡ length w
      → Tells (eqb f d.filled && (eqb x (byte_rows * places) && eqb y (word_rows * places))) (StandsBy strict d b w l) (StandsBy strict d b w l → ⊥)
  answer f x y k s e fit z ex ey = record {
    yes = λ t.
        let t₁ = and_right (eqb f d.filled) _ t in
        record {
          whole = record {
            blocks = sym ex ∙ eqb-true _ _ (and_left (eqb x (byte_rows * places)) _ t₁);
            words = sym ey ∙ eqb-true _ _ (and_right (eqb x (byte_rows * places)) _ t₁);
            lines = k.tidy;
          };
          filled = sym (eqb-true _ _ (and_left (eqb f d.filled) _ t)) ∙ z;
          consistent = consists strict d k s e fit;
        };
    no = λ t c.
        never (rw (eq-eqb f d.filled (z ∙ sym c.filled), eq-eqb x (byte_rows * places) (ex ∙ c.whole.blocks), eq-eqb y (word_rows * places) (ey ∙ c.whole.words))) t;
  }

  -- where the sizes are those of the types, the filled set alone
  pub filled_answer : {at : List ℕ} (f : ℕ) → length b ≡ byte_rows * places → length w ≡ word_rows * places → Lines.Whereabouts places line_count l at → Members strict d.running.0 b w at → desk_test (shown d b w l) ≡ true → ((i : ℕ) → get_or w i 0 < 2 ^ 32)
      → Filled f b → Tells (eqb f d.filled) (StandsBy strict d b w l) (StandsBy strict d b w l → ⊥)
  filled_answer f eb ew k s e fit z = record {
    yes = λ t. record { whole = record { blocks = eb; words = ew; lines = k.tidy }; filled = sym (eqb-true _ _ t) ∙ z; consistent = consists strict d k s e fit };
    no = λ t c. never (eq-eqb f d.filled (z ∙ sym c.filled)) t;
  }
