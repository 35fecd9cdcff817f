-- Event 1, create: the lowest empty place takes a thread with a number that nobody has and no answer names.
use Rattle.std.specs.Prelude.{ℕ, suc, ◌≤◌, ◌<◌, ◌≡◌, refl, ◌≢◌, false}
use Rattle.std.proofs.Common.{sym, ap, ◌∙◌, arith, eqb-true}
use Rattle.std.proofs.lemmas.Bool.{not-false}
use Rattle.lists.specs.Lists.{none}
use Rattle.lists.specs.Laws.{by_test, never}
use Rattle.rules.specs.Model.{places, last_number, Empty, Thread, Model, ready, thread}
use Rattle.rules.specs.Rules.{place_of, in_use, barred, next_number, newcomer, creator, empty_place, create_at, create}
use Rattle.order.specs.Sound.{Sound, numbered}
use Rattle.order.specs.Belongs.{in_none, in_ready}
use Rattle.order.specs.Places.{unused, empty, empty_place_lem}
use Rattle.order.specs.Lines.{joins}
use Rattle.order.specs.Moves.{aside}
use Rattle.order.specs.Fill.{Swap, changed}
use Rattle.order.specs.Numbers.{free_low}
use Rattle.order.proofs.Barred.{some_clear}

-- the empty place p takes a thread with an unused number
pub filled : (m : Model) → Sound m → (p n : ℕ) → p < places → (thread m p).standing ≡ Empty → n ≤ last_number → place_of m n ≡ none → Swap m p (newcomer n (creator m)) (create_at p n m)
filled m S p n h zero-p low free = changed m p (newcomer n (creator m)) n m.running _ S (record {
  place = h;
  last = low;
  fit = record {
    clean = λ e. absurd (omega arith);
    table = λ _. refl;
    answer = refl;
    number = λ _. low;
    apart = λ _ e. omega arith;
    words = (omega arith, omega arith);
  };
  turn = aside m S p (newcomer n (creator m)) (omega arith) h (omega arith);
  shift = joins m S p (newcomer n (creator m)) ready (omega arith) (in_none m (thread m p) (omega arith)) (in_ready m (newcomer n (creator m)) refl);
  standing = omega arith;
  own = λ s k _ e. unused m S n free s (numbered (S.fits s) (omega arith)) (sym e);
  others = λ s k z. unused m S n free s z;
  alien = λ s k i j.
      let v = S.served s i j in
      let w : (thread m v.0).number ≤ last_number = (S.fits v.0).number v.1 in
      let e = v.2 in
      ((λ z. numbered (S.fits p) (omega arith) zero-p), λ z. unused m S n free v.0 v.1 (e ∙ z));
  unnamed = λ s k five named e. named (e ∙ ap (λ (t : Thread). t.number) ((S.fits p).clean zero-p));
})

-- the number that create gives is a number, and is not barred ..
pub given_clear : (m : Model) → Sound m → (next_number m ≤ last_number) × (barred m (next_number m) ≡ false)
given_clear m S = free_low (barred m) (suc last_number) m.last S.last (some_clear m S)

-- .. so it is not in use
pub given_free : (m : Model) → Sound m → (next_number m ≤ last_number) × (place_of m (next_number m) ≡ none)
given_free m S =
    let f = given_clear m S in
    (f.0, by_test (in_use m (next_number m)) (λ t. never (rw t) f.1) (λ t. eqb-true _ _ (not-false _ t)))

pub creates : (m : Model) → Sound m → empty_place m ≢ none → Swap m (empty_place m) (newcomer (next_number m) (creator m)) (create m)
creates m S h = let f = given_free m S in filled m S (empty_place m) (next_number m) (empty_place_lem m h) (empty m h) f.0 f.1
