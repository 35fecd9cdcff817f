-- Locating: what was found is what is promised, the body of the thread stands there, and there is one such answer. Assumes nothing.
use Rattle.std.specs.Prelude.{◌≡◌, refl, ◌≢◌, List, ◌∷◌, ◌++◌, true, ℕ, suc, ◌+◌, ◌*◌, ◌≤◌, ◌<◌, Option, None, Some, MatchOption, length, take, drop, get_or}
use Rattle.std.proofs.Common.{sym, ap, ap₂, subst, ◌∙◌, arith, take_at}
use Rattle.lists.specs.Lists.{among, Distinct}
use Rattle.lists.specs.Laws.{is_head, is_right, distinct_fore, fore_one}
use Rattle.rules.specs.Model.{Empty, Model, thread, lives_at, live}
use Rattle.order.specs.Sound.{sound, small}
use Rattle.order.specs.Places.{lives_at_lem}
use Rattle.nucleus.specs.View.{view}
use Rattle.saving.specs.Format.{head_length, entry_length, inbox_length_at, body_length, live_places, body_of, bodies}
use Rattle.saving.proofs.Longest.{live_distinct, body_length_lem}
use Rattle.saving.specs.declared.format.Row.{Row}
use Rattle.loading.specs.Positions.{offset, live_in}
use Rattle.loading.specs.Finds.{live_is, row_is, body, body_in_lem, inbox_length}
use Rattle.loading.specs.Entry.{live_low, split, p_is, n_is, o_is, body_at}
use Rattle.loading.specs.Loads.{row_at, ImageAs, Loads}
use Rattle.loading.proofs.Injective.{entry_of, image_one}
use Rattle.loading.proofs.Accepts.{accepted_of, refuses_of, refuses_not, refuses_one}
use Rattle.image.specs.Locates.{Spotted, Absent, Locates, spotted, missing, unread, NoEntry, FirstEntry, EntryFor}
use Rattle.loading.specs.declared.Loaded.{Loaded}

-- ---- the three ends

body_size : {row : Row} {m : Model} {s : List ℕ} {i : ℕ} → ImageAs row m s → i < live m → body_length row + get_or s (body_at row s i + inbox_length_at) 0 ≡ length (body_of row m (get_or (live_places m) i 0))
body_size {row} {m} {s} {i} I h =
    let b = body_length_lem row m (get_or (live_places m) i 0) in
    let z = ap (λ (x : ℕ). get_or s (x + inbox_length_at) 0) (o_is I h) ∙ inbox_length I (take i (live_places m)) (get_or (live_places m) i 0) (drop (suc i) (live_places m)) (split I h) in
    omega arith

-- the search among the entries, where the head is h bytes long, tells the first with the number
pub first_found : (row : Row) (s : List ℕ) (n : ℕ) {h live : ℕ} (r : Option ℕ) → h ≡ head_length row → live ≡ get_or s 3 0
    → MatchOption r ((k : ℕ) → 0 ≤ k → k < live → get_or s (h + entry_length * k + 1) 0 ≢ n) (λ i. (0 ≤ i) × (i < live) × (get_or s (h + entry_length * i + 1) 0 ≡ n) × ((k : ℕ) → 0 ≤ k → k < i → get_or s (h + entry_length * k + 1) 0 ≢ n))
    → MatchOption r (NoEntry row s n) (λ i. FirstEntry row s n i)
first_found row s n None e f g = let w = rw (e, f) at g in λ k l. w k (omega arith) l
first_found row s n (Some i) e f g = let w = rw (e, f) at g in record { low = w.1; before = λ k l. w.3 k (omega arith) l; here = w.2 }

-- what was loaded is an image in the edition that the bytes name
module _ {s : List ℕ} {r : Loaded} (L : Loads s r) (z : r.code ≡ 0) {row : Row} (er : row ≡ row_at s) where
  loaded_image : ImageAs row (view r.state) s
  loaded_image = let w = (accepted_of L z).image in subst (λ (x : Row). ImageAs x (view r.state) s) (row_is w.1 ∙ sym er) w.1

module _ {s : List ℕ} {r : Loaded} (L : Loads s r) where
  module _ (z : r.code ≡ 0) {row : Row} (er : row ≡ row_at s) where
    abbrev m : Model
    m = view r.state

    I : ImageAs row m s
    I = loaded_image L z er

    pub missing_of : {n : ℕ} → NoEntry row s n → Locates s n 4 0 0
    missing_of {n} k =
        let a : Absent s n = record {
          m = m;
          image = (row, I);
          nobody = λ p l e.
              let v = entry_of I p (small m (sound m I.consistent) p (lives_at_lem m p l)) l in
              let g = live_is I in
              k v.0 (omega (arith, v.1)) (n_is I v.1 ∙ ap (λ (q : ℕ). (thread m q).number) (sym (p_is I v.1) ∙ v.2) ∙ e);
        } in
        missing a refl refl refl

    pub spotted_of : {n i : ℕ} → FirstEntry row s n i → {c a l : ℕ} → c ≡ 0 → a ≡ body_at row s i → l ≡ body_length row + get_or s (a + inbox_length_at) 0 → Locates s n c a l
    spotted_of {n} {i} k {c} {a} {l} ec ea el =
        let g : i < live m = let v = live_is I in let h = k.low in omega arith in
        let f : Spotted s n a l = record {
          row = row;
          m = m;
          image = I;
          place = get_or (live_places m) i 0;
          before = take i (live_places m);
          behind = drop (suc i) (live_places m);
          split = split I g;
          number = sym (n_is I g) ∙ k.here;
          starts = ea ∙ o_is I g;
          long = el ∙ ap (λ (x : ℕ). body_length row + get_or s (x + inbox_length_at) 0) ea ∙ body_size I g;
        } in
        spotted f ec

-- the three ends again, where one number tells the entry, or that none has the number: the live count
module _ {s : List ℕ} {n : ℕ} {r : Loaded} (L : Loads s r) where
  pub locates_unread : r.code ≢ 0 → Locates s n r.code 0 0
  locates_unread k = unread (refuses_of L k) refl refl

  module _ (z : r.code ≡ 0) {row : Row} (er : row ≡ row_at s) {i : ℕ} (k : EntryFor row s n i) where
    pub locates_missing : get_or s 3 0 ≤ i → Locates s n 4 0 0
    locates_missing h = missing_of L z er (λ j l. k.before j (omega arith))

    pub locates_spotted : i < get_or s 3 0 → {c a l : ℕ} → c ≡ 0 → a ≡ body_at row s i → l ≡ body_length row + get_or s (a + inbox_length_at) 0 → Locates s n c a l
    locates_spotted h ec ea el = spotted_of L z er (record { low = h; before = k.before; here = k.here h }) ec ea el

-- ---- the body stands there

module _ {s : List ℕ} {n o l : ℕ} (F : Spotted s n o l) where
  spotted_among : among F.place (live_places F.m) ≡ true
  spotted_among = ap (among F.place) F.split ∙ is_right F.place F.before (F.place ∷ F.behind) (is_head F.place F.place F.behind refl)

  pub spotted_lives : lives_at F.m F.place ≡ true
  spotted_lives = sym (live_in F.m F.place (live_low F.m F.place spotted_among)) ∙ spotted_among

  pub locate_body : take l (drop o s) ≡ body_of F.row F.m F.place
  locate_body =
      ap (λ (x : ℕ). take l (drop x s)) F.starts
      ∙ ap (take l) (body F.image F.before F.place F.behind F.split)
      ∙ take_at (body_of F.row F.m F.place) (bodies F.row F.m F.behind) l (sym F.long)

  spotted_within : o + l ≤ length s
  spotted_within =
      let v = body_in_lem F.image F.before F.place F.behind F.split in
      let a = F.starts in
      let b = F.long in
      omega arith

-- whatever is answered lies in the image
pub locate_within : {s : List ℕ} {n c o l : ℕ} → Locates s n c o l → o + l ≤ length s
locate_within (spotted F z) = spotted_within F
locate_within (missing A z f g) = omega arith
locate_within (unread R f g) = omega arith

-- ---- one answer

pub record SamePart (c o l d p k : ℕ) : Type 0 where
  pub code_same : c ≡ d
  pub offset_same : o ≡ p
  pub length_same : l ≡ k

module _ {s : List ℕ} {n o l p k : ℕ} (F : Spotted s n o l) (G : Spotted s n p k) where
  model_same : F.m ≡ G.m
  model_same = image_one (F.row, F.image) (G.row, G.image)

  row_same : F.row ≡ G.row
  row_same = row_is F.image ∙ sym (row_is G.image)

  place_same : F.place ≡ G.place
  place_same =
      let e = model_same in
      let a : (thread G.m F.place).standing ≢ Empty = rw e at (lives_at_lem F.m F.place (spotted_lives F)) in
      let v : (thread G.m F.place).number ≡ n = rw e at F.number in
      G.image.consistent.old.differ F.place G.place a (lives_at_lem G.m G.place (spotted_lives G)) (v ∙ sym G.number)

  before_same : F.before ≡ G.before
  before_same =
      let e : live_places G.m ≡ F.before ++ (G.place ∷ F.behind) = ap live_places (sym model_same) ∙ F.split ∙ ap (λ (q : ℕ). F.before ++ (q ∷ F.behind)) place_same in
      let d : Distinct (F.before ++ (G.place ∷ F.behind)) = rw e at (live_distinct G.m) in
      let f : Distinct (G.before ++ (G.place ∷ G.behind)) = rw G.split at (live_distinct G.m) in
      fore_one G.place F.before G.before F.behind G.behind
      (distinct_fore G.place F.before F.behind d)
      (distinct_fore G.place G.before G.behind f)
      (sym e ∙ G.split)

  spotted_offset : o ≡ p
  spotted_offset = F.starts ∙ ap (λ (x : Row). offset x F.m F.before) row_same ∙ ap₂ (offset G.row) model_same before_same ∙ sym G.starts

  spotted_length : l ≡ k
  spotted_length = F.long ∙ ap (λ (x : Row). length (body_of x F.m F.place)) row_same ∙ ap length (ap₂ (body_of G.row) model_same place_same) ∙ sym G.long

spotted_not : {X : Type 0} {s : List ℕ} {n o l : ℕ} → Spotted s n o l → Absent s n → X
spotted_not F A =
    let e : F.m ≡ A.m = image_one (F.row, F.image) A.image in
    absurd (A.nobody F.place (rw e at (spotted_lives F)) (rw e at F.number))

-- two answers that keep the promise are one
pub locate_one : {s : List ℕ} {n c o l d p k : ℕ} → Locates s n c o l → Locates s n d p k → SamePart c o l d p k
locate_one (spotted F z) (spotted G y) = record { code_same = z ∙ sym y; offset_same = spotted_offset F G; length_same = spotted_length F G }
locate_one (spotted F z) (missing B y f g) = spotted_not F B
locate_one (spotted F z) (unread S f g) = absurd (refuses_not S (F.m, (F.row, F.image)))
locate_one (missing A z a b) (spotted G y) = spotted_not G A
locate_one (missing A z a b) (missing B y f g) = record { code_same = z ∙ sym y; offset_same = a ∙ sym f; length_same = b ∙ sym g }
locate_one (missing A z a b) (unread S f g) = absurd (refuses_not S (A.m, A.image))
locate_one (unread R a b) (spotted G y) = absurd (refuses_not R (G.m, (G.row, G.image)))
locate_one (unread R a b) (missing B y f g) = absurd (refuses_not R (B.m, B.image))
locate_one (unread R a b) (unread S f g) = record { code_same = refuses_one R S; offset_same = a ∙ sym f; length_same = b ∙ sym g }
