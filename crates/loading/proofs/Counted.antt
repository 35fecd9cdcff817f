-- The images of "Loads that were counted" (document 01), and those of document 02's P1, P5 and P6: one table, and both ways: loading these bytes gives the
-- state, and saving the state gives the bytes of the newest edition.
use Rattle.std.specs.Prelude.{ℕ, zero, suc, ◌+◌, ◌-◌, ◌≤◌, ◌<◌, ◌≡◌, refl, List, [], ◌∷◌, length, get_or, take, drop, Bool, true, ◌&&◌, ◌||◌, eqb}
use Rattle.std.proofs.Common.{sym, ap, subst, ◌∙◌, arith, get_or-take, get_or-drop, eqb-true}
use Rattle.lists.specs.Lists.{tally}
use Rattle.lists.specs.Every.{Every}
use Rattle.lists.specs.Sizes.{queue_count}
use Rattle.lists.specs.Laws.{never, and_left, and_right}
use Rattle.rules.specs.Values.{nobody}
use Rattle.rules.specs.Model.{Empty, Thread, vacant, Model, thread, line, all_places}
use Rattle.rules.specs.Rules.{is_nil, first_free, fresh, after}
use Rattle.order.proofs.Keeps.{fresh_consistent}
use Rattle.order.proofs.Always.{always}
use Rattle.rules.specs.Consistent.{Consistent}
use Rattle.nucleus.specs.View.{view}
use Rattle.saving.specs.Format.{queues_of, parents_of, places_of, row_of, Known, Holds, queues_in, encode_as, encode}
use Rattle.saving.specs.Editions.{known_of, newest_known, newest_holds}
use Rattle.loading.specs.Loads.{ImageAs}
use Rattle.saving.specs.declared.format.Row.{Row}
use Rattle.loading.proofs.Accepts.{accepts, loads_back}
use Rattle.loading.proofs.RoundTrip.{saves_well, front_image}
use Rattle.loading.specs.Counted.{pair, strangers, waits, images, state, Undone}

strangers_consistent : Consistent (after strangers fresh)
strangers_consistent = always strangers fresh fresh_consistent (omega arith, (omega arith, (omega arith, (omega arith, (omega arith, tt)))))

pair_consistent : Consistent (after pair fresh)
pair_consistent = always pair fresh fresh_consistent (omega arith, (omega arith, tt))

undone : (m : Model) (e : ℕ) (image saved : List ℕ) → Known (row_of e) → Holds (row_of e) m → Consistent m → encode_as (row_of e) m ≡ image → encode m ≡ saved → Undone m image saved
undone m e image saved k h C i j = record {
  loads = λ r L. let I : ImageAs (row_of e) m image = record { known = k; consistent = C; holds = h; bytes = i } in ((accepts L).1 (m, (row_of e, I)), loads_back m (row_of e, I) L);
  saves = λ s before a c n S h K.
      let f : encode (view s) ≡ saved = ap encode S.seen ∙ j in
      let w = saves_well S.consists (subst (λ (l : List ℕ). length l ≤ length before) (sym f) h) K in
      (w.0, sym (front_image w.1).1 ∙ f);
}

-- The editions below 4 are known, and hold those who live at the places that they have; edition 1, if they wait at no device, and editions 1 and 2, if they
-- have no parent.
first_known : Known (row_of 1)
unfolding queues_of
first_known = known_of 1 (λ z. omega arith)

second_known : Known (row_of 2)
unfolding queues_of
second_known = known_of 2 (λ z. omega arith)

third_known : Known (row_of 3)
unfolding queues_of
third_known = known_of 3 (λ z. omega arith)

unfoldable each : (Thread → Bool) → List Thread → Bool
each f [] = true
each f (t ∷ ts) = f t && each f ts

each_at : (f : Thread → Bool) → f vacant ≡ true → (ts : List Thread) (p : ℕ) → each f ts ≡ true → f (get_or ts p vacant) ≡ true
unfolding each
each_at f v [] p e = v
each_at f v (t ∷ ts) zero e = and_left (f t) _ e
each_at f v (t ∷ ts) (suc p) e = each_at f v ts p (and_right (f t) _ e)

abbrev parentless : Thread → Bool
parentless t = eqb t.parent nobody

abbrev empty : Thread → Bool
empty t = eqb t.standing Empty

empty_from : (n : ℕ) (m : Model) → each empty (drop n m.threads) ≡ true → (p : ℕ) → n ≤ p → (thread m p).standing ≡ Empty
empty_from n m e p h =
    let i : n + (p - n) ≡ p = omega arith in
    eqb-true _ _ (ap (λ (r : ℕ). empty (thread m r)) (sym i) ∙ ap empty (sym (get_or-drop n m.threads (p - n) vacant)) ∙ each_at empty refl (drop n m.threads) (p - n) e)

unfoldable empties : List (List ℕ) → Bool
empties [] = true
empties (l ∷ ls) = is_nil l && empties ls

empty_at : (ls : List (List ℕ)) (i : ℕ) → empties ls ≡ true → get_or ls i [] ≡ []
unfolding empties
empty_at [] i e = refl
empty_at ([] ∷ ls) zero e = refl
empty_at ((x ∷ l) ∷ ls) zero e = never refl (sym e)
empty_at (l ∷ ls) (suc i) e = empty_at ls i (and_right (is_nil l) _ e)

empties_by : (n : ℕ) (m : Model) → empties (take (queue_count - n) (drop n m.lines)) ≡ true → (q : ℕ) → n ≤ q → q < queue_count → line m q ≡ []
empties_by n m e q h k =
    let i : n + (q - n) ≡ q = omega arith in
    ap (line m) (sym i) ∙ sym (get_or-drop n m.lines (q - n) []) ∙ sym (get_or-take (queue_count - n) (drop n m.lines) (q - n) [] (omega arith))
    ∙ empty_at (take (queue_count - n) (drop n m.lines)) (q - n) e

holds_by : (row : Row) (m : Model) → empties (take (queue_count - row.queues) (drop row.queues m.lines)) ≡ true → (row.parents || each parentless m.threads) ≡ true
    → each empty (drop row.places m.threads) ≡ true → Holds row m
holds_by row m e f g = record {
  queues = empties_by row.queues m e;
  parents = λ z p. eqb-true _ _ (each_at parentless refl m.threads p (rw z at f));
  places = λ p h _. empty_from row.places m g p h;
}

-- each row's image is that of its state in its edition, and both ways
pub counted_images : Every (λ c. (encode_as (row_of c.edition) (state c) ≡ c.image) × (encode (state c) ≡ c.saved) × Undone (state c) c.image c.saved) images
unfolding images each empties encode_as queues_of parents_of places_of queues_in all_places tally first_free
counted_images = (
  (refl, refl, undone fresh 1 _ _ first_known (holds_by (row_of 1) fresh refl refl refl) fresh_consistent refl refl),
  (
    (refl, refl, undone (after strangers fresh) 1 _ _ first_known (holds_by (row_of 1) (after strangers fresh) refl refl refl) strangers_consistent refl refl),
    (
      (refl, refl, undone (after strangers fresh) 2 _ _ second_known (holds_by (row_of 2) (after strangers fresh) refl refl refl) strangers_consistent refl refl),
      (
        (refl, refl, undone (after waits fresh) 2 _ _ second_known (holds_by (row_of 2) (after waits fresh) refl refl refl) (always waits fresh fresh_consistent (omega arith, (omega arith, tt))) refl refl),
        (
          (refl, refl, undone (after pair fresh) 3 _ _ third_known (holds_by (row_of 3) (after pair fresh) refl refl refl) pair_consistent refl refl),
          ((refl, refl, undone (after pair fresh) 4 _ _ newest_known (newest_holds (after pair fresh)) pair_consistent refl refl), tt),
        ),
      ),
    ),
  ),
)
