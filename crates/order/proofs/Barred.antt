-- How many numbers are barred: at most two for each live thread, its own and the who in its answer. So there is always one to give, as long as twice the
-- number of places is less than 254.
use Rattle.std.specs.Prelude.{ℕ, suc, ◌+◌, ◌*◌, ◌-◌, ◌≤◌, ◌<◌, ◌≡◌, ◌≢◌, List, true, cond, length, get_or, ltb}
use Rattle.std.proofs.Math.Path.{sym, ap}
use Rattle.std.proofs.Common.{◌∙◌, ⊎_elim, arith, lt-ltb, le-ltb}
use Rattle.lists.specs.Lists.{among, Distinct, only}
use Rattle.lists.specs.Laws.{among_at}
use Rattle.lists.specs.Counts.{some_among}
use Rattle.lists.specs.Only.{only_in, only_few, only_tally}
use Rattle.lists.specs.Tables.{tally_ext}
use Rattle.lists.specs.Without.{pigeons}
use Rattle.rules.specs.Values.{nobody}
use Rattle.rules.specs.Model.{places, last_number, Empty, Model, thread, all_places, lives_at, live}
use Rattle.rules.specs.Rules.{barred, next_number}
use Rattle.order.specs.Sound.{Sound, small}
use Rattle.order.specs.Places.{every_place, at_lives, barred_by}
use Rattle.order.specs.Numbers.{some_free}

-- there are 254 numbers: more than two for each place
pub two_each : 2 * places < suc last_number
two_each = omega arith

module _ (m : Model) where
  -- the places that live, by rising place, as many as the live count
  abbrev live_places : List ℕ
  live_places = only (lives_at m) all_places

  live_length : live m ≡ length live_places
  unfolding all_places
  live_length = sym (only_tally (lives_at m) 0 places ∙ tally_ext places (λ i. lives_at m (0 + i)) (lives_at m) (λ i h. ap (lives_at m) (omega arith)))

  live_few : length live_places ≤ places
  unfolding all_places
  live_few = only_few (lives_at m) 0 places

  live_low : live m ≤ places
  live_low = let a = live_few in let b = live_length in omega arith

  -- two numbers for each: the thread's, and behind all these the who in its answer
  abbrev mark : ℕ → ℕ
  mark i = cond (ltb i (live m)) (thread m (get_or live_places i 0)).number (thread m (get_or live_places (i - live m) 0)).who

  module _ (S : Sound m) where
    seat_of : (p : ℕ) → (thread m p).standing ≢ Empty → (i : ℕ) × (i < live m) × (get_or live_places i 0 ≡ p)
    seat_of p h =
        let w = among_at p live_places (only_in (lives_at m) p all_places (at_lives m p h) (some_among p all_places (every_place p (small m S p h)))) in
        let c = live_length in
        (w.0, omega (arith, w.1), w.2)

    marked : (n : ℕ) → barred m n ≡ true → (i : ℕ) × (i < 2 * live m) × (mark i ≡ n)
    marked n e =
        let v = barred_by m n e in
        ⊎_elim
        (λ h. let w = seat_of v.0 h.0 in (w.0, omega (arith, w.1), rw (lt-ltb w.0 (live m) w.1, w.2) h.1))
        (λ h.
        let w = seat_of v.0 h.0 in
        let k : live m + w.0 - live m ≡ w.0 = omega arith in
        (live m + w.0, omega (arith, w.1), rw (le-ltb (live m + w.0) (live m) (omega arith), k, w.2) h.1))
        v.1

    -- at most two for each live thread
    pub barred_few : (xs : List ℕ) → ((n : ℕ) → among n xs ≡ true → barred m n ≡ true) → Distinct xs → length xs ≤ 2 * live m
    barred_few xs h d = pigeons mark (2 * live m) xs (λ n g. marked n (h n g)) d

    -- so one of the 254 is not
    pub some_clear : next_number m ≢ nobody
    some_clear =
        let a = live_low in
        let b = two_each in
        some_free (barred m) mark (2 * live m) marked (suc last_number) m.last S.last (omega arith) (omega arith)
