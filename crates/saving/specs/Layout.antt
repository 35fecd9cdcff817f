-- Edition 4 has edition 3's layout (document 02, P6): rows that have the same queues and parents write the same bytes, but for the edition.
use Rattle.std.specs.Prelude.{ℕ, ◌+◌, ◌≡◌, refl, drop}
use Rattle.std.proofs.Math.Path.{ap}
use Rattle.std.proofs.Common.{◌∙◌}
use mathlib.Core.List.{List, [], ◌∷◌, ◌++◌}
use Rattle.std.proofs.Math.ListN.{length}
use Rattle.lists.specs.Bytes.{two_bytes}
use Rattle.rules.specs.Model.{Place, Model, thread, live}
use Rattle.saving.specs.Format.{queues_of, parents_of, places_of, row_of, newest, head_length, live_places, body_of, bodies, contents, queues_in, queue_lengths, queues, first_body, tail, encode_as, encode}
use Rattle.saving.specs.declared.format.Row.{Row}

-- the same bytes, said to be of the edition e
abbrev pub called_edition : ℕ → List ℕ → List ℕ
called_edition e s = e ∷ drop 1 s

module _ (row : Row) (e n : ℕ) (m : Model) where
  -- another edition with the same queues and parents
  abbrev other : Row
  other = record { edition = e; queues = row.queues; parents = row.parents; places = n }

  same_bodies : (ps : List Place) → bodies other m ps ≡ bodies row m ps
  same_bodies [] = refl
  same_bodies (p ∷ ps) = ap (λ (t : List ℕ). body_of row m p ++ t) (same_bodies ps)

  same_contents : (o : ℕ) (ps : List Place) → contents other m o ps ≡ contents row m o ps
  same_contents o [] = refl
  same_contents o (p ∷ ps) = ap (λ (t : List ℕ). p ∷ (thread m p).number ∷ two_bytes o ++ t) (same_contents (o + length (body_of row m p)) ps)

  same_tail : tail other m ≡ tail row m
  unfolding queues_in
  same_tail =
      ap (λ (t : List ℕ). t ++ (queues row m ++ bodies other m (live_places m))) (same_contents (first_body row m) (live_places m))
      ∙ ap (λ (t : List ℕ). contents row m (first_body row m) (live_places m) ++ (queues row m ++ t)) (same_bodies (live_places m))

  pub same_layout : encode_as other m ≡ called_edition e (encode_as row m)
  unfolding encode_as queues_in
  same_layout = ap (λ (t : List ℕ). (e ∷ m.last ∷ m.running ∷ live m ∷ queue_lengths row m ++ two_bytes (head_length row + length t)) ++ t) same_tail

-- what edition 3 has of a model is what is saved of it, called edition 3
pub third_layout : (m : Model) → encode_as (row_of 3) m ≡ called_edition 3 (encode m)
unfolding queues_of parents_of
third_layout m = same_layout newest 3 (places_of 3) m
