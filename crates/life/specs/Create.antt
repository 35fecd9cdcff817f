-- Event 1, create: the lowest empty place takes a thread with the next number that is not barred, and whoever runs as its parent.
use Rattle.std.specs.Prelude.{◌≡◌, List, Bool, true, false, cond, ℕ, ◌<◌, eqb, ltb, get_or}
use Rattle.std.proofs.Math.Path.{sym}
use Rattle.std.proofs.Common.{ap, ◌∙◌, arith}
use borrow.Author.Tests.{eqb-false, eq-eqb, ne_eqb, ltb-true, ltb-false}
use Rattle.lists.specs.Lists.{none, tally}
use Rattle.lists.specs.Laws.{by_test}
use Rattle.lines.specs.Lines.{line_of, Loose}
use Rattle.filled.specs.Filled.{word_of, including, lowest_out}
use Rattle.filled.specs.Lowest.{lowest_first, lowest_none}
use Rattle.rules.specs.Values.{nobody}
use Rattle.rules.specs.Model.{places, line_count, Empty, thread, all_places, lives_at}
use Rattle.rules.specs.Rules.{creator, empty_place, next_number, full}
use Rattle.rules.specs.declared.Number.{Number}
use Rattle.rules.specs.declared.Event.TheVariants.{Create}
use Rattle.order.specs.Places.{not_full, empty}
use Rattle.order.specs.Belongs.{in_none}
use Rattle.table.specs.Cells.{cell, shown, Stands}
use Rattle.table.specs.declared.Desk.{Desk}
use Rattle.events.specs.declared.Outcome.{Outcome}
use Rattle.verbs.specs.Steps.{Steps}
use Rattle.verbs.specs.Seats.{seated}
use Rattle.events.specs.Events.{Did, answered, filled_lives, refused, does, no_word}
use Rattle.verbs.specs.Caller.{sounds, loose, mine_is}
use Rattle.life.specs.Number.{free_after, number_is}

-- the number at a place, and nobody's at none
abbrev pub number_at : List ℕ → ℕ → ℕ
number_at b p = cond (eqb p none) nobody (get_or b (cell 0 p) 0)

-- what the set of filled places tells: how many live, and which place is the lowest that is empty
abbrev pub Tallies : ℕ → ℕ → Type 0
Tallies x r = (f : ℕ → Bool) → x ≡ word_of places f → r ≡ tally places f

abbrev pub Lowest : ℕ → ℕ → Type 0
Lowest x r = (f : ℕ → Bool) → x ≡ word_of places f → r ≡ lowest_out places f

abbrev pub With : ℕ → ℕ → ℕ → Type 0
With x p r = (f : ℕ → Bool) → x ≡ word_of places f → r ≡ word_of places (including p f)

module _ {d : Desk} {b w l : List ℕ} (k : Stands d b w l) {c : ℕ} (a : Tallies d.filled c) where
  live_is : c ≡ tally places (lives_at (shown d b w l))
  live_is = a (lives_at (shown d b w l)) (filled_lives k)

  pub create_6 : c ≡ places → {o : Outcome} → o ≡ answered 6 d → Did d b w l Create o b w l
  create_6 z =
      let f : full (shown d b w l) ≡ true = eq-eqb _ places (sym live_is ∙ z) in
      refused k Create no_word 6 (omega arith) (rw f) (rw f)

  module _ (z : c ≡ places → ⊥) {p : ℕ} (e : Lowest d.filled p) where
    room : full (shown d b w l) ≡ false
    room = ne_eqb _ places (λ y. z (live_is ∙ y))

    lowest_is : p ≡ lowest_out places (lives_at (shown d b w l))
    lowest_is = e (lives_at (shown d b w l)) (filled_lives k)

    pub seat_place : p < places
    unfolding all_places
    seat_place =
        let f = lives_at (shown d b w l) in
        by_test (ltb (lowest_out places f) places)
        (λ t. let h = ltb-true (lowest_out places f) places t in let i = lowest_is in omega arith)
        (λ t. absurd (not_full (shown d b w l) room (lowest_none places f (ltb-false (lowest_out places f) places t))))

    seat_is : empty_place (shown d b w l) ≡ p
    unfolding all_places
    seat_is =
        let f = lives_at (shown d b w l) in
        lowest_first places f (let h = seat_place in let i = lowest_is in omega arith) ∙ sym lowest_is

    pub seat_loose : Loose line_count (line_of places l) p
    seat_loose =
        let m = shown d b w l in
        let h : (thread m p).standing ≡ Empty = rw (← seat_is) (empty m (not_full m room)) in
        loose d.last.0 d.running.0 b w l (sounds k) p (in_none m (thread m p) (omega arith))

    -- the newcomer's parent is whoever runs
    parent_is : number_at b d.running.0 ≡ creator (shown d b w l)
    parent_is = by_test (eqb d.running.0 none) (λ t. rw t) (λ t. rw t (sym (mine_is k (eqb-false _ _ t))))

    pub create_0 : {n : Number} → n.0 ≡ free_after b d.last.0 → {pa : ℕ} → pa ≡ number_at b d.running.0
        → {b' w' l' : List ℕ} → Steps b w l b' w' l' (seated p n.0 pa) → {x : ℕ} → With d.filled p x
        → Did d b w l Create (record { code = 0; desk = record { filled = x; last = n; running = d.running }; number = n }) b' w' l'
    create_0 {n} g {pa} f s {x} u =
        let m = shown d b w l in
        let num : next_number m ≡ n.0 = number_is d.last.0 d.running.0 b w l ∙ sym g in
        does k Create no_word (rw room) n.0 (rw room num) s.whole
        (s.seen n.0 d.running.0 ∙ rw (← seat_is, ← num, f ∙ parent_is))
        (u (lives_at m) (filled_lives k) ∙ ap (λ (q : ℕ). word_of places (including q (lives_at m))) (sym seat_is))
