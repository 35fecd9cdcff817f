-- The format tells consistent models apart: all that a model has can be read off its image. Assumes nothing.
use Rattle.std.specs.Prelude.{◌≡◌, refl, List, [], Bool, true, ℕ, ◌<◌, ltb, get_or}
use Rattle.std.proofs.Common.{sym, ap, subst, ◌∙◌, arith, ext_get_or, ltb-true, ltb-false}
use Rattle.lists.specs.Sizes.{queue_count}
use Rattle.lists.specs.Lists.{among, tab}
use Rattle.lists.specs.Laws.{by_test, among_at}
use Rattle.lists.specs.Tables.{tab_ext, tab_of}
use Rattle.rules.specs.Model.{places, line_count, vacant, Model, inbox, thread, line, lives_at, live}
use Rattle.rules.specs.Consistent.{OldConsistent, Consistent, ConsistentBy}
use Rattle.order.specs.Sound.{old_of}
use Rattle.saving.specs.Format.{Known, newest, Holds, live_places, encode_as, encode}
use Rattle.saving.specs.Editions.{newest_known, newest_holds}
use Rattle.saving.specs.Queues.{each_line}
use Rattle.saving.proofs.Longest.{live_length}
use Rattle.loading.specs.Positions.{live_in}
use Rattle.saving.specs.declared.format.Row.{Row}
use Rattle.loading.specs.Loads.{ImageAsBy, ImageBy}
use Rattle.loading.specs.Finds.{last_is, running_is, live_is, row_is, queue_found}
use Rattle.loading.specs.Entry.{p_is, entry_at, entry_thread, entry_inbox}
use Rattle.loading.specs.Fills.{no_inbox, dead}

-- a live place has an entry
pub entry_of : {strict : Bool} {row : Row} {m : Model} {s : List ℕ} → ImageAsBy strict row m s → (p : ℕ) → p < places → lives_at m p ≡ true → (i : ℕ) × (i < live m) × (get_or s (entry_at row i) 0 ≡ p)
entry_of {m = m} I p h l =
    let w = among_at p (live_places m) (live_in m p h ∙ l) in
    let v = live_length m in
    let b : w.0 < live m = omega (arith, w.1) in
    (w.0, b, p_is I b ∙ w.2)

module _ {strict : Bool} {row : Row} {m : Model} {s : List ℕ} (I : ImageAsBy strict row m s) where
  abbrev consistent_in : OldConsistent m
  consistent_in = old_of strict I.consistent

  whole_threads : tab places (thread m) ≡ m.threads
  whole_threads = tab_of vacant places m.threads consistent_in.threads

  whole_lines : tab line_count (line m) ≡ m.lines
  whole_lines = tab_of [] line_count m.lines consistent_in.lines

-- two images in one edition
module _ {strict : Bool} {row : Row} {m k : Model} {s : List ℕ} (I : ImageAsBy strict row m s) (J : ImageAsBy strict row k s) where
  same_live : live m ≡ live k
  same_live = sym (live_is I) ∙ live_is J

  same_places : live_places m ≡ live_places k
  same_places =
      let v = live_length m in
      let w = live_length k in
      let z = same_live in
      ext_get_or 0 (live_places m) (live_places k) (omega arith) (λ i h. sym (p_is I (omega arith)) ∙ p_is J (omega arith))

  same_lives : (p : ℕ) → p < places → lives_at m p ≡ lives_at k p
  same_lives p h = sym (live_in m p h) ∙ ap (among p) same_places ∙ live_in k p h

  same_thread : (p : ℕ) → p < places → thread m p ≡ thread k p
  same_thread p h =
      by_test (lives_at m p)
      (λ t.
      let w = entry_of I p h t in
      let z = same_live in
      ap (thread m) (sym w.2) ∙ entry_thread I w.1 ∙ sym (entry_thread J (omega (arith, w.1))) ∙ ap (thread k) w.2)
      (λ t. (consistent_in I).clean p (dead (consistent_in I) p t) ∙ sym ((consistent_in J).clean p (dead (consistent_in J) p (sym (same_lives p h) ∙ t))))

  same_inbox : (p : ℕ) → p < places → line m (inbox p) ≡ line k (inbox p)
  same_inbox p h =
      by_test (lives_at m p)
      (λ t.
      let w = entry_of I p h t in
      let z = same_live in
      ap (λ (r : ℕ). line m (inbox r)) (sym w.2) ∙ entry_inbox I w.1 ∙ sym (entry_inbox J (omega (arith, w.1))) ∙ ap (λ (r : ℕ). line k (inbox r)) w.2)
      (λ t. no_inbox (consistent_in I) p (dead (consistent_in I) p t) ∙ sym (no_inbox (consistent_in J) p (dead (consistent_in J) p (sym (same_lives p h) ∙ t))))

  -- a queue that the row has is read off the bytes, and any other is empty
  same_queue : (q : ℕ) → q < queue_count → line m q ≡ line k q
  same_queue q h =
      by_test (ltb q row.queues)
      (λ t. let z = ltb-true q row.queues t in sym (queue_found I q z) ∙ queue_found J q z)
      (λ t. let z = ltb-false q row.queues t in I.holds.queues q z h ∙ sym (J.holds.queues q z h))

  same_line : (q : ℕ) → q < line_count → line m q ≡ line k q
  same_line = each_line (λ q. line m q ≡ line k q) same_queue same_inbox

  same_model : m ≡ k
  same_model =
      let ey = sym (last_is I) ∙ last_is J in
      let ex = sym (running_is I) ∙ running_is J in
      let et = sym (whole_threads I) ∙ tab_ext places (thread m) (thread k) same_thread ∙ whole_threads J in
      let el = sym (whole_lines I) ∙ tab_ext line_count (line m) (line k) same_line ∙ whole_lines J in
      λ i. record { last = ey i; running = ex i; threads = et i; lines = el i }

-- an edition tells apart what it can hold, ..
pub as_injective : (strict : Bool) (row : Row) (m k : Model) → Known row → ConsistentBy strict m → ConsistentBy strict k → Holds row m → Holds row k → encode_as row m ≡ encode_as row k → m ≡ k
as_injective strict row m k K C D f g e =
    let I : ImageAsBy strict row m (encode_as row k) = record { known = K; consistent = C; holds = f; bytes = e } in
    same_model I (record { known = K; consistent = D; holds = g; bytes = refl })

-- .. and bytes are an image in one edition, and so of one model
pub image_one : {strict : Bool} {m k : Model} {s : List ℕ} → ImageBy strict m s → ImageBy strict k s → m ≡ k
image_one {strict} {k = k} {s = s} (row, I) (other, J) = same_model I (subst (λ (r : Row). ImageAsBy strict r k s) (row_is J ∙ sym (row_is I)) J)

pub encode_injective : (m k : Model) → Consistent m → Consistent k → encode m ≡ encode k → m ≡ k
encode_injective m k C D e = as_injective true newest m k newest_known C D (newest_holds m) (newest_holds k) e
