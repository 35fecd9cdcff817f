-- What the tests say of one thread, where the lines end, and that the index finds the living: what both ways of the judgement start from. Assumes nothing.
use Rattle.std.specs.Prelude.{ℕ, ◌≤◌, ◌≡◌, ◌≢◌, List, [], true, not, ◌&&◌, ◌||◌, length, get_or, eqb}
use Rattle.std.proofs.Math.Bool.{or-true}
use Rattle.std.proofs.Math.Decide.{ℕ_discrete}
use Rattle.std.proofs.Common.{arith, eqb-true, eq-eqb, ne_eqb, leb-true, le-leb}
use Rattle.std.proofs.Math.ListN.{get_or-eq_default}
use Rattle.std.proofs.lemmas.Bool.{eqb-false, not-true}
use Rattle.lists.specs.Lists.{none}
use Rattle.lists.specs.Laws.{and_left, and_right, and_both}
use Rattle.rules.specs.Values.{nobody}
use Rattle.rules.specs.Model.{places, last_number, Empty, Ready, Sending, Awaiting, Waiting, AtDevice, Thread, vacant, Model, line_count, thread, line}
use Rattle.rules.specs.Consistent.{is_number, as_table, is_answer}
use Rattle.order.specs.Sound.{Short, Fit, inside}
use Rattle.order.specs.Belongs.{Lineless}
use Rattle.audit.specs.Tests.{is_clean, fits, home, Index}

-- ---- a thread alone

clean_of : (t : Thread) → t.standing ≡ Empty → is_clean t ≡ true → t ≡ vacant
clean_of t z e =
    let e₁ = and_right (eqb t.number nobody) _ e in
    let e₂ = and_right (eqb t.partner nobody) _ e₁ in
    let e₃ = and_right (eqb t.word 0) _ e₂ in
    let e₄ = and_right (eqb t.code 0) _ e₃ in
    let n = eqb-true t.number nobody (and_left _ _ e) in
    let p = eqb-true t.partner nobody (and_left _ _ e₁) in
    let w = eqb-true t.word 0 (and_left _ _ e₂) in
    let c = eqb-true t.code 0 (and_left _ _ e₃) in
    let k = eqb-true t.who nobody (and_left _ _ e₄) in
    let e₅ = and_right (eqb t.who nobody) _ e₄ in
    let a = eqb-true t.answer 0 (and_left _ _ e₅) in
    let f = eqb-true t.parent nobody (and_right (eqb t.answer 0) _ e₅) in
    λ i. record { number = n i; standing = z i; partner = p i; word = w i; code = c i; who = k i; answer = a i; parent = f i }

module _ (t : Thread) (e : fits t ≡ true) where
  test : t.standing ≢ Empty → is_number t.number && (as_table t.standing t.partner t.word && ((eqb t.standing AtDevice || not (eqb t.partner t.number)) && is_answer t.code t.who t.answer)) ≡ true
  test k = rw (ne_eqb t.standing Empty k) at e

  test₁ : t.standing ≢ Empty → as_table t.standing t.partner t.word && ((eqb t.standing AtDevice || not (eqb t.partner t.number)) && is_answer t.code t.who t.answer) ≡ true
  test₁ k = and_right (is_number t.number) _ (test k)

  test₂ : t.standing ≢ Empty → (eqb t.standing AtDevice || not (eqb t.partner t.number)) && is_answer t.code t.who t.answer ≡ true
  test₂ k = and_right (as_table t.standing t.partner t.word) _ (test₁ k)

  cleaned : t.standing ≡ Empty → t ≡ vacant
  cleaned z = clean_of t z (rw (eq-eqb t.standing Empty z) at e)

  -- a thread that passes the test is fit, if its words are words
  pub fit_of : Short t.word × Short t.answer → Fit t
  fit_of w = record {
    clean = cleaned;
    table = λ k. and_left (as_table t.standing t.partner t.word) _ (test₁ k);
    answer = elim (ℕ_discrete t.standing Empty) [ yes z ↦ rw (cleaned z) | no k ↦ and_right (eqb t.standing AtDevice || not (eqb t.partner t.number)) _ (test₂ k) ];
    number = λ k. leb-true _ _ (and_left (is_number t.number) _ (test k));
    apart = λ k n. eqb-false _ _ (not-true _ (rw (ne_eqb t.standing AtDevice n) at (and_left (eqb t.standing AtDevice || not (eqb t.partner t.number)) _ (test₂ k))));
    words = w;
  }

-- and one that is fit passes it
parted_of : (t : Thread) → Fit t → t.standing ≢ Empty → eqb t.standing AtDevice || not (eqb t.partner t.number) ≡ true
parted_of t F k = elim (ℕ_discrete t.standing AtDevice) [
  | yes e ↦ rw (eq-eqb t.standing AtDevice e)
  | no n ↦ rw (ne_eqb t.partner t.number (F.apart k n)) (or-true (eqb t.standing AtDevice))
]

pub fit_fits : (t : Thread) → Fit t → fits t ≡ true
fit_fits t F = elim (ℕ_discrete t.standing Empty) [
  | yes z ↦ rw (F.clean z)
  | no k ↦
      rw (ne_eqb t.standing Empty k)
      (and_both _ _ (le-leb _ _ (F.number k)) (and_both _ _ (F.table k) (and_both (eqb t.standing AtDevice || not (eqb t.partner t.number)) _ (parted_of t F k) F.answer)))
]

-- who sends or awaits names a number
pub named : (t : Thread) → as_table t.standing t.partner t.word ≡ true → Sending ≤ t.standing → t.standing ≤ Awaiting → t.partner ≤ last_number
named t e i j = elim (ℕ_discrete t.standing Sending) [
  | yes z ↦ leb-true _ _ (rw z at e)
  | no k ↦ let z : t.standing ≡ Awaiting = omega arith in leb-true _ _ (rw z at e)
]

-- ---- where a standing puts a thread

pub home_none : (who : List ℕ) (t : Thread) → Lineless t.standing → t.standing ≢ Awaiting → home who t ≡ none
home_none who t k c =
    rw (ne_eqb t.standing Ready k.0, ne_eqb t.standing Waiting k.2, ne_eqb t.standing AtDevice k.3, ne_eqb t.standing Sending k.1, ne_eqb t.standing Awaiting c)

-- ---- past the last line there is nothing

pub no_line : (m : Model) → length m.lines ≡ line_count → (q : ℕ) → line_count ≤ q → line m q ≡ []
no_line m lined q h = get_or-eq_default m.lines [] {n = q} (omega arith)

-- ---- a live number is found

pub found : (m : Model) → length m.threads ≡ places → {who : List ℕ} → Index m who → (r n : ℕ) → (thread m r).standing ≢ Empty → (thread m r).number ≡ n → get_or who n 0 ≡ r
found m sized X r n k e = rw (← e) (X.to r (inside m sized r k) k)
