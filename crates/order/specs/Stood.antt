-- Who stands in a line, in the words that the lines have for it: a place stands in one line at most, and once.
use Rattle.std.specs.Prelude.{ℕ, ◌≤◌, ◌<◌, ◌≡◌, ◌≢◌, true, false, eqb}
use Rattle.std.proofs.Common.{sym, ap, ◌∙◌, arith, eqb-true}
use Rattle.lists.specs.Lists.{bit, count, among, Distinct}
use Rattle.lists.specs.Laws.{by_test, never, and_left, and_right}
use Rattle.lists.specs.Counts.{none_among, some_among, among_some, count_distinct}
use Rattle.lists.specs.Tables.{bit_low}
use Rattle.rules.specs.Model.{places, Empty, AtDevice, Model, ready, clock, device, thread, line}
use Rattle.rules.specs.Consistent.{belongs}
use Rattle.order.specs.ByLine.{by_line, at_device}
use Rattle.order.specs.Sound.{Sound, small, member, sending, sent}
use Rattle.order.specs.Belongs.{in_none, in_ready, in_clock, in_device, in_inbox}

module _ (m : Model) (S : Sound m) where
  -- who belongs in a line stands in it, and who does not does not
  pub stands_in : (p q : ℕ) → belongs m (thread m p) q ≡ true → among p (line m q) ≡ true
  stands_in p q e = some_among p (line m q) (let c = S.stood p q ∙ ap bit e in omega arith)

  pub stands_out : (p q : ℕ) → belongs m (thread m p) q ≡ false → among p (line m q) ≡ false
  stands_out p q e = none_among p (line m q) (S.stood p q ∙ ap bit e)

  -- whoever stands in a line is a live place
  pub stands_live : (p q : ℕ) → among p (line m q) ≡ true → (thread m p).standing ≢ Empty
  stands_live p q h z = never (member m S p q (among_some p (line m q) h)) (in_none m (thread m p) (omega arith) q)

  pub stands_at_lem : (p q : ℕ) → among p (line m q) ≡ true → p < places
  stands_at_lem p q h = small m S p (stands_live p q h)

  -- in one line
  one_line : (p q r : ℕ) → 1 ≤ count p (line m q) → belongs m (thread m p) r ≡ true → r ≡ q
  one_line p q r =
      by_line (λ q. 1 ≤ count p (line m q) → belongs m (thread m p) r ≡ true → r ≡ q)
      (λ h e. eqb-true _ _ (sym (in_ready m (thread m p) (eqb-true _ _ (member m S p ready h)) r) ∙ e))
      (λ h e. eqb-true _ _ (sym (in_clock m (thread m p) (eqb-true _ _ (member m S p clock h)) r) ∙ e))
      (λ i low h e.
      let g = sym (at_device m (thread m p) i low) ∙ member m S p (device i) h in
      let st = eqb-true _ _ (and_left (eqb (thread m p).standing AtDevice) (eqb (device i) (device (thread m p).partner)) g) in
      let f : device i ≡ device (thread m p).partner = eqb-true _ _ (and_right (eqb (thread m p).standing AtDevice) _ g) in
      eqb-true _ _ (sym (in_device m (thread m p) st i (omega arith) low r) ∙ e))
      (λ c h e.
      let st = sending m S c p h in
      let l = S.served p (omega arith) (omega arith) in
      let z : l.0 ≡ c = S.differ l.0 c l.1 (l.2 ∙ sent m S c p h) in
      let live : (thread m c).standing ≢ Empty = rw z at l.1 in
      eqb-true _ _ (sym (in_inbox m (thread m p) S c live st (sent m S c p h) r) ∙ e))
      q

  pub stands_once : (p q r : ℕ) → among p (line m q) ≡ true → r ≢ q → among p (line m r) ≡ false
  stands_once p q r h n =
      by_test (belongs m (thread m p) r)
      (λ e. absurd (n (one_line p q r (among_some p (line m q) h) e)))
      (λ e. stands_out p r e)

  -- once
  pub line_distinct : (q : ℕ) → Distinct (line m q)
  line_distinct q = count_distinct (line m q) (λ p. let e = S.stood p q in let b = bit_low (belongs m (thread m p) q) in omega arith)

  -- no line holds who is no place
  pub no_place : (q i : ℕ) → places ≤ i → among i (line m q) ≡ false
  no_place q i h = by_test (among i (line m q)) (λ e. let s = stands_at_lem i q e in absurd (omega arith)) (λ e. e)
