-- The promise has one outcome: no second answer, and no other byte of the buffer, meets it. And what a caller has of it: a buffer of the longest text's size
-- always has room, and what stands in it then is what the state is.
use Rattle.std.specs.Prelude.{◌≡◌, refl, ◌≢◌, List, ℕ, ◌≤◌, eqb, ltb, length, take, drop}
use Rattle.std.proofs.Common.{sym, ap, ◌∙◌, arith, le-ltb, take_at}
use Rattle.lists.specs.Laws.{by_test}
use Rattle.lists.specs.Bytes.{two_at}
use Rattle.journal.specs.Laws.{Bytes}
use Rattle.rules.specs.Values.{nobody}
use Rattle.rules.specs.Model.{Code, Model}
use Rattle.saving.specs.Format.{shortest_head, total_at, head_length}
use Rattle.loading.specs.Loads.{row_at, Image, Refuses, by_head, by_whole}
use Rattle.loading.proofs.Accepts.{refuses_not, refuses_one}
use Rattle.loading.proofs.Injective.{image_one}
use Rattle.depot.specs.Report.{Finding, refused, loaded, state_after, text_of}
use Rattle.depot.specs.Promise.{image_limit, Finds, too_long, unloaded, found, handed, Tells}
use Rattle.depot.proofs.Sheets.{stays}
use Rattle.depot.specs.Crew.{crew, crew_in}
use Rattle.depot.proofs.Crew.{told_back}
use Rattle.depot.specs.Owed.{owed, loads_in}
use Rattle.depot.proofs.Owed.{owed_back}
use Rattle.depot.specs.Longest.{longest_of}
use Rattle.depot.proofs.Longest.{enough, enough_refused}
use Rattle.depot.specs.declared.Sheet.{Sheet}
use Rattle.depot.specs.declared.Sheet.TheVariants.{Report, Pay}
use Rattle.depot.specs.declared.Told.{Told}

-- ---- one outcome
pub finds_one : {image : List ℕ} {x y : Finding} → Finds image x → Finds image y → x ≡ y
finds_one (too_long h e) (too_long k f) = e ∙ sym f
finds_one (too_long h e) (unloaded k c R f) = absurd (omega arith)
finds_one (too_long h e) (found k m I f) = absurd (omega arith)
finds_one (unloaded h c R e) (too_long k f) = absurd (omega arith)
finds_one (unloaded h c R e) (unloaded k d Q f) = e ∙ ap refused (refuses_one R Q) ∙ sym f
finds_one (unloaded h c R e) (found k m I f) = absurd (refuses_not R (m, I))
finds_one (found h m I e) (too_long k f) = absurd (omega arith)
finds_one (found h m I e) (unloaded k d Q f) = absurd (refuses_not Q (m, I))
finds_one (found h m I e) (found k n J f) = e ∙ ap loaded (image_one I J) ∙ sym f

pub tells_one : {s : Sheet} {image log out : List ℕ} {t u : Told × List ℕ} → Tells s image log out t → Tells s image log out u → t ≡ u
tells_one {s} {log = log} {out = out} T U = T.told ∙ ap (λ (x : Finding). handed (text_of s x log) out) (finds_one T.finds U.finds) ∙ sym U.told

-- ---- what a caller has

-- The text is in front, with its length and code 0, where it fits; where it does not, no byte is changed.
handed_fit : (t out : List ℕ) → length t ≤ length out → ((handed t out).0.code ≡ 0) × (take (handed t out).0.length (handed t out).1 ≡ t)
handed_fit t out h = rw (le-ltb (length out) (length t) h) (refl, take_at t (drop (length t) out) (length t) refl)

handed_still : (t out : List ℕ) → (handed t out).0.code ≢ 0 → (handed t out).1 ≡ out
handed_still t out z = by_test (ltb (length out) (length t)) (λ e. rw e refl) (λ e. absurd ((rw e at z) refl))

pub tight_still : {s : Sheet} {image log out : List ℕ} {t : Told × List ℕ} → Tells s image log out t → t.0.code ≢ 0 → t.1 ≡ out
tight_still {s} {log = log} {out = out} T z = ap (λ x. x.1) T.told ∙ handed_still (text_of s T.finding log) out (rw T.told at z)

-- load's codes are bytes
refuses_low : {image : List ℕ} {c : Code} → Refuses image c → c ≤ nobody
refuses_low {image} (by_head n e) = rw e (by_test (ltb (length image) shortest_head) (λ t. rw t (omega arith))
    (λ t. rw t (by_test (eqb (row_at image).queues 0) (λ u. rw u (omega arith))
    (λ u. rw u (by_test (ltb (length image) (head_length (row_at image))) (λ v. rw v (omega arith))
    (λ v. rw v (by_test (eqb (two_at image (total_at (row_at image))) (length image)) (λ w. rw w (omega arith)) (λ w. rw w (omega arith)))))))))
refuses_low (by_whole n f e) = omega arith

-- A text of any image and of any log of bytes is no longer than the longest.
pub fits : (s : Sheet) {image : List ℕ} (log : List ℕ) {x : Finding} → Bytes log → Finds image x → length (text_of s x log) ≤ longest_of s
fits s log B (too_long h e) = rw e (enough_refused s 8 log (omega arith))
fits s log B (unloaded h c R e) = rw e (enough_refused s c log (refuses_low R))
fits s log B (found h m I e) = rw e (enough s m log (stays m log I.1.consistent B))

-- So a buffer of the longest text's size always has room, ..
pub has_room : {s : Sheet} {image log out : List ℕ} {t : Told × List ℕ} → Bytes log → longest_of s ≤ length out → Tells s image log out t → t.0.code ≡ 0
has_room {s} {log = log} {out = out} B h T =
    let k = fits s log B T.finds in
    ap (λ x. x.0.code) T.told ∙ (handed_fit (text_of s T.finding log) out (omega arith)).0

-- .. and what stands in it then, for an image that load takes, is the text of the state after the log, ..
module _ {image log out : List ℕ} {m : Model} (I : Image m image) (h : length image ≤ image_limit) (B : Bytes log) where
  written : (s : Sheet) {t : Told × List ℕ} → longest_of s ≤ length out → Tells s image log out t → take t.0.length t.1 ≡ text_of s (loaded m) log
  written s k T =
      let l = fits s log B T.finds in
      ap (λ x. take x.0.length x.1) T.told ∙ (handed_fit (text_of s T.finding log) out (omega arith)).1
      ∙ ap (λ (x : Finding). text_of s x log) (finds_one T.finds (found h m I refl))

  -- .. off which one reads who lives, at which place, in which standing and with whom; ..
  pub report_tells : {t : Told × List ℕ} → longest_of Report ≤ length out → Tells Report image log out t
      → crew_in (take t.0.length t.1) ≡ crew (state_after m log)
  report_tells k T = ap crew_in (written Report k T) ∙ told_back m log (stays m log I.1.consistent B)

  -- .. or every load that waits.
  pub loads_tell : {t : Told × List ℕ} → longest_of Pay ≤ length out → Tells Pay image log out t
      → loads_in (take t.0.length t.1) ≡ owed (state_after m log)
  loads_tell k T = ap loads_in (written Pay k T) ∙ owed_back m log (stays m log I.1.consistent B)
