-- Entry i of the contents, in the image of a consistent model: whom it names, and what its body says, read off the bytes. Assumes nothing.
use Rattle.std.specs.Prelude.{◌≡◌, refl, List, ◌∷◌, ◌++◌, Bool, true, false, ℕ, suc, ◌+◌, ◌*◌, ◌<◌, length, take, drop, get_or}
use Rattle.std.proofs.Common.{sym, ap, ◌∙◌, arith, length-take-le}
use Rattle.std.proofs.Math.Seq.{split_at}
use Rattle.lists.specs.Lists.{among, up_from}
use Rattle.lists.specs.Laws.{by_test, never, is_head, is_right, distinct_fore}
use Rattle.lists.specs.Counts.{among_some}
use Rattle.lists.specs.Search.{up_from_within}
use Rattle.lists.specs.Only.{only_not}
use Rattle.lists.specs.Bytes.{two_at}
use Rattle.rules.specs.Model.{places, Model, inbox, thread, line, all_places, lives_at, live}
use Rattle.order.specs.Sound.{old_of}
use Rattle.order.specs.Places.{lives_at_lem}
use Rattle.saving.specs.Format.{head_length, entry_length, inbox_length_at, body_length, live_places}
use Rattle.saving.proofs.Held.{lives_held}
use Rattle.saving.proofs.Longest.{live_length, live_distinct}
use Rattle.saving.specs.declared.format.Row.{Row}
use Rattle.loading.specs.Loads.{ImageAsBy}
use Rattle.loading.specs.Positions.{offset, live_in}
use Rattle.loading.specs.Reading.{thread_in}
use Rattle.loading.specs.Finds.{place_is, number_is, offset_is, thread_is, inbox_length, inbox_is}

pub live_low : (m : Model) (p : ℕ) → among p (live_places m) ≡ true → p < places
unfolding all_places
live_low m p h =
    by_test (among p (up_from 0 places))
    (λ t. let k = up_from_within places 0 p (among_some p (up_from 0 places) t) in omega arith)
    (λ t. never h (only_not (lives_at m) p (up_from 0 places) t))

module _ {strict : Bool} {row : Row} {m : Model} {s : List ℕ} (I : ImageAsBy strict row m s) {i : ℕ} (h : i < live m) where
  abbrev ps : List ℕ
  ps = live_places m

  abbrev qs : List ℕ
  qs = take i ps

  abbrev p : ℕ
  p = get_or ps i 0

  abbrev rs : List ℕ
  rs = drop (suc i) ps

  pub within : i < length ps
  within = let v = live_length m in omega arith

  pub split : ps ≡ qs ++ (p ∷ rs)
  split = split_at ps i 0 within

  pub before : length qs ≡ i
  before = length-take-le i ps (let w = within in omega arith)

  p_among : among p ps ≡ true
  p_among = ap (among p) split ∙ is_right p qs (p ∷ rs) (is_head p p rs refl)

  pub p_low : p < places
  p_low = live_low m p p_among

  pub p_named : p < row.places
  p_named = lives_held I.holds (old_of strict I.consistent) p (lives_at_lem m p (sym (live_in m p p_low) ∙ p_among))

  pub p_new : among p qs ≡ false
  p_new = distinct_fore p qs rs (rw split at (live_distinct m))

  pub p_is : get_or s (head_length row + entry_length * i) 0 ≡ p
  p_is = ap (λ (k : ℕ). get_or s (head_length row + entry_length * k) 0) (sym before) ∙ place_is I qs p rs split

  pub n_is : get_or s (head_length row + entry_length * i + 1) 0 ≡ (thread m p).number
  n_is = ap (λ (k : ℕ). get_or s (head_length row + entry_length * k + 1) 0) (sym before) ∙ number_is I qs p rs split

  pub o_is : two_at s (head_length row + entry_length * i + 2) ≡ offset row m qs
  o_is = ap (λ (k : ℕ). two_at s (head_length row + entry_length * k + 2)) (sym before) ∙ offset_is I qs p rs split

-- ---- the same, said of the bytes alone

-- where entry i starts, and where it says that the body starts
abbrev pub entry_at : Row → ℕ → ℕ
entry_at row i = head_length row + entry_length * i

abbrev pub body_at : Row → List ℕ → ℕ → ℕ
body_at row s i = two_at s (entry_at row i + 2)

module _ {strict : Bool} {row : Row} {m : Model} {s : List ℕ} (I : ImageAsBy strict row m s) {i : ℕ} (h : i < live m) where
  pub entry_thread : thread m (get_or s (entry_at row i) 0) ≡ thread_in row s (get_or s (entry_at row i + 1) 0) (body_at row s i)
  entry_thread = rw (p_is I h, n_is I h, o_is I h) (sym (thread_is I (take i (live_places m)) (get_or (live_places m) i 0) (drop (suc i) (live_places m)) (split I h)))

  entry_inbox_length : get_or s (body_at row s i + inbox_length_at) 0 ≡ length (line m (inbox (get_or (live_places m) i 0)))
  entry_inbox_length = ap (λ (x : ℕ). get_or s (x + inbox_length_at) 0) (o_is I h) ∙ inbox_length I (take i (live_places m)) (get_or (live_places m) i 0) (drop (suc i) (live_places m)) (split I h)

  pub entry_inbox : line m (inbox (get_or s (entry_at row i) 0)) ≡ take (get_or s (body_at row s i + inbox_length_at) 0) (drop (body_at row s i + body_length row) s)
  entry_inbox = rw (p_is I h, entry_inbox_length, o_is I h) (sym (inbox_is I (take i (live_places m)) (get_or (live_places m) i 0) (drop (suc i) (live_places m)) (split I h)))
