-- The model of a consistent state settles every byte of it.
use Rattle.std.specs.Prelude.{◌≡◌, refl, List, [], Bool, true, false, not, ℕ, eqb}
use Rattle.std.proofs.Common.{sym, ap, ap₂, subst, ◌∙◌}
use Rattle.lists.specs.Lists.{none}
use Rattle.lists.specs.Tables.{tab_ext, tab_all}
use Rattle.lines.specs.Lines.{line_of, Clear}
use Rattle.filled.specs.Filled.{word_of}
use Rattle.filled.specs.Words.{word_none}
use Rattle.lists.specs.Tells.{Tells}
use Rattle.rules.specs.declared.Place.{Place}
use Rattle.rules.specs.Model as Model
use Rattle.rules.specs.Model.{places, line_count, last_number, Empty, vacant}
use Rattle.rules.specs.Rules.{fresh}
use Rattle.rules.specs.Consistent.{Consistent}
use Rattle.order.proofs.Keeps.{fresh_consistent}
use Rattle.table.specs.Cells.{thread_of, model_of, stands_at, as_thread}
use Rattle.table.specs.declared.Thread.{Thread}
use Rattle.table.specs.Rows.{same_blocks, same_words, same_lines}
use Rattle.table.specs.Clean.{Emptied}
use Rattle.nucleus.specs.View.{view, laid, ConsistsBy, ShowsBy, Shows, Looked, held, refused}
use Rattle.nucleus.specs.declared.State.{State}

-- two consistent states that stand for one model are one state
pub settled : {strict : Bool} (s t : State) → ConsistsBy strict s → ConsistsBy strict t → view s ≡ view t → s ≡ t
settled s t a b e =
    let eb = same_blocks a.whole b.whole e in
    let ew = same_words a.whole b.whole e in
    let el = same_lines a.whole b.whole e in
    let ef : s.desk.filled ≡ t.desk.filled = a.filled ∙ ap (λ (x : List ℕ). word_of places (stands_at x)) eb ∙ sym b.filled in
    let ey : s.desk.last.0 ≡ t.desk.last.0 = ap (λ (m : Model.Model). m.last) e in
    let ex : s.desk.running.0 ≡ t.desk.running.0 = ap (λ (m : Model.Model). m.running) e in
    λ i. record {
      desk = record { filled = ef i; last = record { 0 = ey i }; running = record { 0 = ex i } };
      arrays = record { table = record { blocks = eb i; words = ew i }; lines = el i };
    }

-- and so is what shows a model
pub shows_one : {strict : Bool} {s t : State} {m : Model.Model} → ShowsBy strict s m → ShowsBy strict t m → s ≡ t
shows_one {s = s} {t} a b = settled s t a.consists b.consists (a.seen ∙ sym b.seen)

-- so there is one answer to whoever looks
pub looked_one : {A : Type 0} {s : State} {r t a b : A} → Looked s (r ≡ a) (r ≡ b) → Looked s (t ≡ a) (t ≡ b) → r ≡ t
looked_one (held k e) (held l f) = e ∙ sym f
looked_one (held k e) (refused n f) = absurd (n k)
looked_one (refused n e) (held l f) = absurd (n l)
looked_one (refused n e) (refused m f) = e ∙ sym f

-- ---- fresh

abbrev as_model : List Model.Thread → List (List ℕ) → Model.Model
as_model t q = record { last = last_number; running = none; threads = t; lines = q }

pub fresh_shows : {b w l : List ℕ} → Emptied b w places → Clear places line_count l
    → Shows (laid (record { filled = 0; last = record { 0 = last_number }; running = record { 0 = none } }) b w l) fresh
fresh_shows {b} {w} {l} k c = record {
  consists = record {
    whole = record { blocks = k.sized.blocks; words = k.sized.words; lines = c.tidy };
    filled = sym (word_none places (stands_at b) (λ p h. ap (λ (t : Model.Thread). not (eqb t.standing Empty)) (k.clean p h)));
    consistent = subst Consistent (sym seen) fresh_consistent;
  };
  seen = seen;
}
  where
    no_places : List ℕ
    no_places = []

    seen : model_of last_number none b w l ≡ fresh
    seen =
        ap₂ as_model (tab_ext places (thread_of b w) (λ _. vacant) k.clean ∙ tab_all places vacant)
        (tab_ext line_count (line_of places l) (λ _. no_places) c.empty ∙ tab_all line_count no_places)

-- what is looked at by its values: a place, a thread, a yes or no
place_same : {r t : Place} → r.0 ≡ t.0 → r ≡ t
place_same e = λ i. record { 0 = e i }

thread_same : {r t : Thread} → as_thread r ≡ as_thread t → r ≡ t
thread_same e = λ i. record {
  number = record { 0 = (e i).number };
  standing = (e i).standing;
  partner = record { 0 = (e i).partner };
  word = (e i).word;
  answer = record { code = (e i).code; who = record { 0 = (e i).who }; word = (e i).answer };
  parent = record { 0 = (e i).parent };
}

pub place_one : (s : State) {r t : Place} {a b : ℕ} → Looked s (r.0 ≡ a) (r.0 ≡ b) → Looked s (t.0 ≡ a) (t.0 ≡ b) → r ≡ t
place_one s x y = place_same (looked_one x y)

pub thread_one : (s : State) {r t : Thread} {a b : Model.Thread} → Looked s (as_thread r ≡ a) (as_thread r ≡ b) → Looked s (as_thread t ≡ a) (as_thread t ≡ b) → r ≡ t
thread_one s x y = thread_same (looked_one x y)

pub told_one : (r t : Bool) {A : Type 0} → Tells r A (A → ⊥) → Tells t A (A → ⊥) → r ≡ t
told_one true true x y = refl
told_one false false x y = refl
told_one true false x y = absurd (y.no refl (x.yes refl))
told_one false true x y = absurd (x.no refl (y.yes refl))
