-- One who listens for the dead, by the bytes of the arrays, and the loop over all places.
use Rattle.std.specs.Prelude.{◌≡◌, refl, List, [], is_some, Bool, true, false, cond, not, ◌&&◌, ℕ, ◌+◌, ◌<◌, eqb, get_or}
use Rattle.std.proofs.Common.{sym, ap, ◌∙◌, arith, ne_eqb}
use Rattle.lists.specs.Lists.{none}
use Rattle.lines.specs.Lines.{line_of, Loose}
use Rattle.rules.specs.Values.{nobody, place_known}
use Rattle.rules.specs.Model.{places, line_count, Receiving, Thread, Model, thread}
use Rattle.rules.specs.Rules.{woken, Group, deserted}
use Rattle.order.specs.HandBack.{let_step}
use Rattle.order.specs.Moves.{Kept}
use Rattle.order.specs.KinKept.{same_place}
use Rattle.order.specs.Update.{deserted_fair}
use Rattle.table.specs.Cells.{cell, thread_of, model_of}
use Rattle.verbs.specs.Steps.{Steps}
use Rattle.verbs.specs.Find.{found, found_is}
use Rattle.life.specs.LetGo.{SoundOn, Letting, let_again, let_not, let_loose, let_yes}

-- does the thread at p receive from a number that nobody has
abbrev pub deserted_at : List ℕ → ℕ → Bool
deserted_at b p = eqb (get_or b (cell 1 p) 0) Receiving && (not (eqb (get_or b (cell 2 p) 0) nobody) && eqb (found b (get_or b (cell 2 p) 0)) none)

module _ (b : List ℕ) (p : ℕ) {st : ℕ} (e : st ≡ get_or b (cell 1 p) 0) where
  pub not_receiving : (st ≡ Receiving → ⊥) → false ≡ deserted_at b p
  not_receiving z = rw (← e, ne_eqb st Receiving z)

  module _ (z : st ≡ Receiving) {n : ℕ} (f : n ≡ get_or b (cell 2 p) 0) where
    pub from_any : n ≡ nobody → false ≡ deserted_at b p
    from_any y = rw (← e, ← f, z, y)

    pub from_named : (n ≡ nobody → ⊥) → {r : ℕ} → r ≡ found b n → eqb r none ≡ deserted_at b p
    from_named y g = rw (← e, ← f, z, ne_eqb n nobody y, g)

-- who is at no place is nowhere to be found
pub lost : (x : ℕ) {r : Bool} → is_some (place_known x) ≡ not r → r ≡ eqb x none
lost x {r = true} e = grind arith
lost x {r = false} e = grind arith

-- whoever listens for the dead now is told
abbrev pub wakes_at : ℕ → Model → Model
wakes_at p m = let_step (deserted m) p m

-- ---- one place

module _ {b w l : List ℕ} (k : SoundOn b w l) {p : ℕ} (h : p < places) {t : Bool} (e : t ≡ deserted_at b p) where
  -- the group, of the arrays as they are
  abbrev group : Group
  group = deserted (model_of 0 0 b w [])

  picks : group.picks (thread_of b w p) ≡ t
  picks =
      let n = get_or b (cell 2 p) 0 in
      ap (λ (q : ℕ). eqb (get_or b (cell 1 p) 0) Receiving && (not (eqb n nobody) && not (not (eqb q none)))) (found_is 0 0 n b w []) ∙ twice (eqb (found b n) none) ∙ sym e
    where
      twice : (x : Bool) → eqb (get_or b (cell 1 p) 0) Receiving && (not (eqb (get_or b (cell 2 p) 0) nobody) && not (not x))
          ≡ eqb (get_or b (cell 1 p) 0) Receiving && (not (eqb (get_or b (cell 2 p) 0) nobody) && x)
      twice true = refl
      twice false = refl

  pub wakes_not : t ≡ false → Steps b w l b w l (wakes_at p)
  wakes_not z = let s = let_not k group h (picks ∙ z) in record { whole = s.whole; seen = s.seen }

  module _ (z : t ≡ true) where
    pub wakes_loose : Loose line_count (line_of places l) p
    wakes_loose = let_loose k group h (deserted_fair (model_of 0 0 b w [])) (picks ∙ z)

    pub wakes_yes : {n : ℕ} {b' w' l' : List ℕ} → n ≡ get_or b (cell 2 p) 0 → Steps b w l b' w' l' (woken p 16 n 0) → Steps b w l b' w' l' (wakes_at p)
    wakes_yes f s =
        let u = let_yes k group h (deserted_fair (model_of 0 0 b w [])) (picks ∙ z) (λ m y. ap (λ (v : ℕ). woken p 16 v 0 m) (f ∙ sym (ap (λ (t : Thread). t.partner) y))) s in
        record { whole = u.whole; seen = u.seen }

-- ---- all places: who is dead now was so at the beginning

module _ {b₀ w₀ l₀ b w l : List ℕ} {p : ℕ} (S : SoundOn b₀ w₀ l₀) (t : Letting (deserted (model_of 0 0 b₀ w₀ [])) b₀ w₀ l₀ b w l p) where
  K : Kept (model_of S.last S.running b₀ w₀ l₀) (model_of S.last S.running b w l)
  K = t.kept S.last S.running S.sound

  -- so the group of the beginning picks the same
  same_step : (y x : ℕ) → wakes_at p (model_of y x b w l) ≡ let_step (deserted (model_of 0 0 b₀ w₀ [])) p (model_of y x b w l)
  same_step y x =
      let m = model_of y x b w l in
      let u = thread m p in
      ap (λ (q : ℕ). cond (eqb u.standing Receiving && (not (eqb u.partner nobody) && not (not (eqb q none)))) (woken p 16 u.partner 0 m) m) (same_place K u.partner)

  pub wakes_again : p < places → {b' w' l' : List ℕ} → Steps b w l b' w' l' (wakes_at p) → Letting (deserted (model_of 0 0 b₀ w₀ [])) b₀ w₀ l₀ b' w' l' (p + 1)
  wakes_again h s = let_again t (deserted_fair (model_of 0 0 b₀ w₀ [])) h (record { whole = s.whole; seen = λ y x. s.seen y x ∙ same_step y x })
