-- Where the parts of an image stand: the live places, the entries of the contents, the queues and the bodies. Assumes nothing.
use Rattle.std.specs.Prelude.{◌≡◌, refl, ℕ, ◌+◌, ◌*◌, ◌<◌}
use Rattle.std.proofs.Common.{sym, ◌∙◌, arith, length-append, drop_at, drop-drop}
use Rattle.std.proofs.Math.Path.{ap}
use mathlib.Core.List.{List, ◌∷◌, ◌++◌, append_assoc}
use Rattle.std.proofs.Math.ListN.{length, drop}
use Rattle.std.proofs.Math.Seq.{drop-append-add}
use Rattle.lists.specs.Lists.{among, up_from}
use Rattle.lists.specs.Laws.{by_test}
use Rattle.lists.specs.Counts.{some_among}
use Rattle.lists.specs.Search.{count_up_from}
use Rattle.lists.specs.Only.{only_out, only_in}
use Rattle.lists.specs.Bytes.{two_bytes}
use Rattle.rules.specs.Model.{places, Model, thread, all_places, lives_at, live}
use Rattle.saving.specs.Format.{lengths_at, head_length, entry_length, live_places, body_of, bodies, contents, queue_lengths, queues, first_body, tail, head, encode_as}
use Rattle.saving.proofs.Longest.{live_length, contents_length, head_length_lem}
use Rattle.saving.specs.Parts.{bodies_append, contents_append}
use Rattle.saving.specs.declared.format.Row.{Row}

-- ---- the live places
-- whoever lives stands there, and nobody else
pub live_in : (m : Model) (p : ℕ) → p < places → among p (live_places m) ≡ lives_at m p
unfolding all_places
live_in m p h =
    by_test (lives_at m p)
    (λ t. rw t (only_in (lives_at m) p (up_from 0 places) t (some_among p (up_from 0 places) (count_up_from places 0 p (omega arith) (omega arith)))))
    (λ t. rw t (only_out (lives_at m) p (up_from 0 places) t))

-- ---- the image of m

-- where the bodies of the places behind qs start
abbrev pub offset : Row → Model → List ℕ → ℕ
offset row m qs = first_body row m + length (bodies row m qs)

-- all behind the entry of p, which has qs before it and rs behind it
abbrev pub behind : Row → Model → List ℕ → ℕ → List ℕ → List ℕ
behind row m qs p rs = contents row m (offset row m qs + length (body_of row m p)) rs ++ (queues row m ++ bodies row m (live_places m))

module _ (row : Row) (m : Model) where
  at_tail : (n : ℕ) → drop (head_length row + n) (encode_as row m) ≡ drop n (tail row m)
  unfolding encode_as
  at_tail n = ap (λ (k : ℕ). drop (k + n) (head row m ++ tail row m)) (sym (head_length_lem row m)) ∙ drop-append-add (head row m) (tail row m) n

  -- behind the first four bytes: the lengths of the queues, and the total
  pub lengths_at_lem : drop lengths_at (encode_as row m) ≡ queue_lengths row m ++ (two_bytes (head_length row + length (tail row m)) ++ tail row m)
  unfolding encode_as
  lengths_at_lem = append_assoc (queue_lengths row m) (two_bytes (head_length row + length (tail row m))) (tail row m)

  -- behind the head and the contents: the queues, and then the bodies
  pub queues_at : drop (head_length row + entry_length * live m) (encode_as row m) ≡ queues row m ++ bodies row m (live_places m)
  queues_at =
      let e = contents_length row m (first_body row m) (live_places m) in
      let v = live_length m in
      at_tail (entry_length * live m) ∙ drop_at (contents row m (first_body row m) (live_places m)) (queues row m ++ bodies row m (live_places m)) (entry_length * live m) (omega arith)

  -- p is live, and qs are before it
  module _ (qs : List ℕ) (p : ℕ) (rs : List ℕ) (split : live_places m ≡ qs ++ (p ∷ rs)) where
    -- its entry
    pub entry_at : drop (head_length row + entry_length * length qs) (encode_as row m) ≡ p ∷ (thread m p).number ∷ two_bytes (offset row m qs) ++ behind row m qs p rs
    entry_at =
        at_tail (entry_length * length qs)
        ∙ ap (λ (t : List ℕ). drop (entry_length * length qs) (t ++ (queues row m ++ bodies row m (live_places m)))) (ap (contents row m (first_body row m)) split ∙ contents_append row m (first_body row m) qs (p ∷ rs))
        ∙ ap (drop (entry_length * length qs)) (append_assoc (contents row m (first_body row m) qs) (contents row m (offset row m qs) (p ∷ rs)) (queues row m ++ bodies row m (live_places m)))
        ∙ drop_at (contents row m (first_body row m) qs) (contents row m (offset row m qs) (p ∷ rs) ++ (queues row m ++ bodies row m (live_places m))) (entry_length * length qs) (contents_length row m (first_body row m) qs)

    -- its body
    pub body_at : drop (offset row m qs) (encode_as row m) ≡ body_of row m p ++ bodies row m rs
    body_at =
        let v = live_length m in
        let w = length-append (queues row m) (bodies row m qs) in
        let e : offset row m qs ≡ head_length row + entry_length * live m + (length (queues row m) + length (bodies row m qs)) = omega arith in
        ap (λ (n : ℕ). drop n (encode_as row m)) e
        ∙ sym (drop-drop (length (queues row m) + length (bodies row m qs)) (head_length row + entry_length * live m) (encode_as row m))
        ∙ ap (drop (length (queues row m) + length (bodies row m qs))) queues_at
        ∙ drop-append-add (queues row m) (bodies row m (live_places m)) (length (bodies row m qs))
        ∙ ap (λ (t : List ℕ). drop (length (bodies row m qs)) t) (ap (bodies row m) split ∙ bodies_append row m qs (p ∷ rs))
        ∙ drop_at (bodies row m qs) (bodies row m (p ∷ rs)) (length (bodies row m qs)) refl
