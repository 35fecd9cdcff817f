-- Which places an image names: none that its edition has not, wherever it stands (document 02, P6). So bytes of an edition below 4 that name a place which
-- there was not before P6 get 10, by the rules as they are and by the old ones, so that the update refuses them too.
use Rattle.std.specs.Prelude.{ℕ, zero, suc, ◌≤◌, ◌<◌, ◌≡◌, ◌≢◌, List, [], ◌∷◌, Bool, true}
use Rattle.std.proofs.Math.Path.{refl, subst}
use Rattle.std.proofs.Common.{sym, ap, ◌∙◌, arith}
use Rattle.std.proofs.Math.ListN.{get_or}
use Rattle.lists.specs.Lists.{among}
use Rattle.rules.specs.Model.{Place, Empty, Model, inbox, thread, line, live}
use Rattle.rules.specs.Consistent.{OldConsistent, Consistent}
use Rattle.order.specs.Sound.{old_of, inside}
use Rattle.order.specs.Places.{at_lives}
use Rattle.saving.specs.Format.{queues_of, places_of, row_of, newest, encode_as, encode}
use Rattle.saving.specs.Editions.{newest_known, newest_holds}
use Rattle.saving.proofs.Held.{stands_held, runs_held}
use Rattle.saving.specs.Layout.{called_edition}
use Rattle.saving.specs.declared.format.Row.{Row}
use Rattle.loading.specs.Loads.{row_at, head_code, ImageAsBy, ForeignBy, LoadsBy, ImageAs}
use Rattle.loading.specs.Finds.{running_is, live_is, row_is, queue_found}
use Rattle.loading.specs.Entry.{p_is, p_named, entry_at, entry_inbox}
use Rattle.loading.specs.Judges.{head_image}
use Rattle.loading.proofs.Injective.{entry_of}
use Rattle.loading.proofs.Accepts.{refuses}
use Rattle.loading.specs.declared.Loaded.{Loaded}
use Rattle.loading.specs.Named.{NamesItsPlaces}

module _ {strict : Bool} {row : Row} {m : Model} {s : List ℕ} (I : ImageAsBy strict row m s) where
  abbrev consistent_in : OldConsistent m
  consistent_in = old_of strict I.consistent

  low : (p : Place) (q : ℕ) {xs : List Place} → xs ≡ line m q → among p xs ≡ true → p < row.places
  low p q e a = stands_held I.holds consistent_in p q (ap (among p) (sym e) ∙ a)

  within : {i : ℕ} → i < get_or s 3 0 → i < live m
  within h = rw (live_is I) at h

  -- an image names those of its edition only
  pub names_its_places : NamesItsPlaces row s
  names_its_places = record {
    running = λ k. rw (running_is I) (runs_held I.holds consistent_in (rw (running_is I) at k));
    contents = λ i h. rw (p_is I (within h)) (p_named I (within h));
    queues = λ q h p a. low p q (queue_found I q h) a;
    inboxes = λ i h p a. low p (inbox (get_or s (entry_at row i) 0)) (sym (entry_inbox I (within h))) a;
  }

-- and bytes that name another get 10, whoever loads them
module _ {strict : Bool} {s : List ℕ} (n : NamesItsPlaces (row_at s) s → ⊥) where
  others_foreign : ForeignBy strict s
  others_foreign m (row, I) = n (subst (λ (r : Row). NamesItsPlaces r s) (row_is I) (names_its_places I))

  pub others_refused : (r : Loaded) → head_code s ≡ 0 → LoadsBy strict s r → r.code ≡ 10
  others_refused r h L = (refuses L).1 h others_foreign

-- ---- what is saved is of edition 4, which has edition 3's layout and more places
as_before : (e : ℕ) (s : List ℕ) (n : ℕ) → 1 ≤ n → get_or (called_edition e s) n 0 ≡ get_or s n 0
as_before e s zero h = absurd (omega arith)
as_before e [] (suc n) h = refl
as_before e (x ∷ xs) (suc n) h = refl

-- Somebody lives at a place that edition 3 has not. What is saved is an image, in edition 4; called edition 3, it gets 10, though all else is as it was.
module _ {m : Model} (C : Consistent m) (p : Place) (h : places_of 3 ≤ p) (l : (thread m p).standing ≢ Empty) where
  saved_crew : ImageAs newest m (encode m)
  saved_crew = record { known = newest_known; consistent = C; holds = newest_holds m; bytes = refl }

  called_names : NamesItsPlaces (row_of 3) (called_edition 3 (encode m)) → p < places_of 3
  unfolding encode_as queues_of
  called_names N =
      let w = entry_of saved_crew p (inside m C.old.threads p l) (at_lives m p l) in
      let z : get_or (called_edition 3 (encode m)) (entry_at newest w.0) 0 < places_of 3 = N.contents w.0 w.1 in
      let e : get_or (called_edition 3 (encode m)) (entry_at newest w.0) 0 ≡ p = as_before 3 (encode m) (entry_at newest w.0) (omega arith) ∙ w.2 in
      subst (λ (x : ℕ). x < places_of 3) e z

  called_head : head_code (called_edition 3 (encode m)) ≡ head_code (encode m)
  unfolding encode_as queues_of
  called_head = refl

  pub called_refused : {strict : Bool} (r : Loaded) → LoadsBy strict (called_edition 3 (encode m)) r → r.code ≡ 10
  called_refused r = others_refused (λ N. let z = called_names N in omega arith) r (called_head ∙ head_image (newest, saved_crew))
