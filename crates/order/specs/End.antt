-- Event 5, end, in an order that keeps every state on the way Sound: the thread leaves its line last, when its place is cleaned.
-- (Order.antt: the document's order, in which it leaves first, gives the same.)
use Rattle.std.specs.Prelude.{ℕ, ◌≤◌, ◌<◌, ◌≡◌, refl, ◌≢◌, List, false, eqb}
use Rattle.std.proofs.Common.{sym, ap, ◌∙◌, arith, eq-eqb, ne_eqb}
use Rattle.std.proofs.Math.Decide.{ℕ_discrete}
use Rattle.lists.specs.Lists.{none, bit, count}
use Rattle.rules.specs.Model.{places, last_number, line_count, Empty, Running, Ready, Sending, Awaiting, Receiving, Waiting, AtDevice, Thread, vacant, Model, ready, clock, device, inbox, thread, line, all_places}
use Rattle.rules.specs.Rules.{place_of, put, leave, out_of_line, handed_back, let_go, awaiting, listening}
use Rattle.rules.specs.Consistent.{belongs}
use Rattle.order.specs.ByLine.{at_inbox}
use Rattle.order.specs.Sound.{Fit, Sound, small, at_index}
use Rattle.order.specs.Belongs.{in_none, in_ready, in_clock, in_device, in_inbox}
use Rattle.order.specs.Places.{live_placed, every_place}
use Rattle.order.specs.Lines.{Shift, stays, leaves, drops_without}
use Rattle.order.specs.Moves.{anew, Step, RunsThen, stopping, aside}
use Rattle.order.specs.Fill.{Swap, changed, after_step}
use Rattle.order.specs.HandBack.{Handed, hands, Let, lets, awaiting_fair, listening_fair, handed_all}

-- ---- the place r is cleaned: nobody has it for a partner any more

pub fit_vacant : Fit vacant
fit_vacant = record {
  clean = λ _. refl;
  table = λ k. absurd (k refl);
  answer = refl;
  number = λ k. absurd (k refl);
  apart = λ k _. absurd (k refl);
  words = (omega arith, omega arith);
}

module _ (m : Model) (S : Sound m) (r : ℕ) (live : (thread m r).standing ≢ Empty)
    (free : (s : ℕ) → Sending ≤ (thread m s).standing → (thread m s).standing ≤ Receiving → (thread m s).partner ≢ (thread m r).number) where
  vacant_nowhere : (q : ℕ) → belongs m vacant q ≡ false
  vacant_nowhere = in_none m vacant (omega arith)

  cleans : (x : ℕ) (ls : List (List ℕ)) → RunsThen m r vacant x → Shift m r vacant ls → Swap m r vacant (anew m m.last r vacant x ls)
  cleans x ls T L = changed m r vacant m.last x ls S (record {
    place = small m S r live;
    last = S.last;
    fit = fit_vacant;
    turn = T;
    shift = L;
    standing = omega arith;
    own = λ s k z. absurd (z refl);
    others = λ s k z. let i : (thread m s).number ≤ last_number = (S.fits s).number z in omega arith;
    alien = λ s k i j.
        let v = S.served s i j in
        let w : (thread m v.0).number ≤ last_number = (S.fits v.0).number v.1 in
        let e = v.2 in
        (free s i (omega arith), omega arith);
    unnamed = λ s k five _. free s (omega arith) (omega arith);
  })

  leaving : (q : ℕ) → q < line_count → (thread m r).standing ≢ Running → ((k : ℕ) → belongs m (thread m r) k ≡ eqb k q) → Swap m r vacant (put r vacant (leave q r m))
  leaving q h n b = cleans m.running _ (aside m S r vacant n (small m S r live) (omega arith))
      (leaves m S r vacant q h _ (drops_without m r q (rw (S.stood r q, b q, eq-eqb q q refl) (omega arith))) b vacant_nowhere)

  pub cleaned : Swap m r vacant (put r vacant (out_of_line r m))
  cleaned = elim (ℕ_discrete (thread m r).standing Running) [
    | yes e ↦ rw (eq-eqb _ Running e) (cleans none _ (stopping m S r vacant e (omega arith))
        (stays m S r vacant (λ q. vacant_nowhere q ∙ sym (in_none m (thread m r) (omega arith) q))))
    | no n1 ↦ rw (ne_eqb _ Running n1) (elim (ℕ_discrete (thread m r).standing Ready) [
      | yes e ↦ rw (eq-eqb _ Ready e) (leaving ready (omega arith) n1 (in_ready m (thread m r) e))
      | no n2 ↦ rw (ne_eqb _ Ready n2) (elim (ℕ_discrete (thread m r).standing Sending) [
        | yes e ↦ rw (eq-eqb _ Sending e) (
            let v = live_placed m S (thread m r).partner (S.served r (omega arith) (omega arith)) in
            let i : place_of m (thread m r).partner < places = small m S _ v.0 in
            leaving (inbox (place_of m (thread m r).partner)) (omega arith) n1 (in_inbox m (thread m r) S _ v.0 e (sym v.1)))
        | no n3 ↦ rw (ne_eqb _ Sending n3) (elim (ℕ_discrete (thread m r).standing Waiting) [
          | yes e ↦ rw (eq-eqb _ Waiting e) (leaving clock (omega arith) n1 (in_clock m (thread m r) e))
          | no n6 ↦ rw (ne_eqb _ Waiting n6) (elim (ℕ_discrete (thread m r).standing AtDevice) [
            | yes e ↦ let i = at_index m S r e in
                rw (eq-eqb _ AtDevice e) (leaving (device (thread m r).partner) (omega arith) n1 (in_device m (thread m r) e (thread m r).partner refl i))
            | no n7 ↦ rw (ne_eqb _ AtDevice n7) (cleans m.running _ (aside m S r vacant n1 (small m S r live) (omega arith))
                (stays m S r vacant (λ q. vacant_nowhere q ∙ sym (in_none m (thread m r) (n2, n3, n6, n7) q))))
          ])
        ])
      ])
    ])
  ]

-- ---- all of it

abbrev pub end_last : ℕ → ℕ → Model → Model
end_last p n m = put p vacant (out_of_line p (let_go (listening n) all_places (let_go (awaiting n) all_places (handed_back n p (line m (inbox p)) m))))

-- over any three states on the way, and any list of all places
module _ (m m₁ m₂ m₃ : Model) (n p : ℕ) (l : List ℕ) (number : (thread m p).number ≡ n) (all : (s : ℕ) → s < places → 1 ≤ count s l)
    (H : Handed m p m₁) (A : Let m₁ (awaiting n) l m₂) (L : Let m₂ (listening n) l m₃) where
  -- one that is not ready at last was so from the beginning
  before : (s : ℕ) → (thread m₃ s).standing ≢ Ready → (thread m₃ s ≡ thread m₂ s) × (thread m₂ s ≡ thread m₁ s)
  before s k = let e = L.kept s k in (e, A.kept s (rw e at k))

  -- nobody waits for n
  unwaited : (s : ℕ) → Sending ≤ (thread m₃ s).standing → (thread m₃ s).standing ≤ Receiving → (thread m₃ s).partner ≢ n
  unwaited s i j e =
      let S₁ = H.step.kept.sound in
      let b : 1 ≤ count s l = all s (small m₃ L.step.kept.sound s (λ z. omega arith)) in
      let v = before s (λ z. omega arith) in
      elim (ℕ_discrete (thread m₃ s).standing Receiving) [
        | yes five ↦ let a : count s l ≡ 0 = L.done s (rw (five, e, eq-eqb n n refl)) in omega arith
        | no n5 ↦ elim (ℕ_discrete (thread m₃ s).standing Awaiting) [
          | yes four ↦
              let f : (thread m₂ s).standing ≡ Awaiting = rw v.0 at four in
              let g : (thread m₂ s).partner ≡ n = rw v.0 at e in
              let a : count s l ≡ 0 = A.done s (rw (f, g, eq-eqb n n refl)) in
              omega arith
          | no n4 ↦
              let z : thread m₃ s ≡ thread m₁ s = v.0 ∙ v.1 in
              let three : (thread m₃ s).standing ≡ Sending = omega arith in
              let a : (thread m₁ s).standing ≡ Sending = rw z at three in
              let f : (thread m₁ s).partner ≡ (thread m₁ p).number = (rw z at e) ∙ sym (ap (λ (t : Thread). t.number) H.kept ∙ number) in
              let c : count s (line m₁ (inbox p)) ≡ 1 = S₁.stood s (inbox p) ∙ ap bit (at_inbox m₁ (thread m₁ s) p) ∙ rw (a, f, eq-eqb (thread m₁ p).number (thread m₁ p).number refl) in
              let d : ◌≡◌ {A = ℕ} 0 1 = rw H.empty at c in
              omega arith
        ]
      ]

  finish : (thread m p).standing ≢ Empty → Step m m₃ × (thread m₃ p ≡ thread m p) → Swap m p vacant (put p vacant (out_of_line p m₃))
  finish live F =
      after_step m m₃ p vacant _ F.0 (cleaned m₃ L.step.kept.sound p (rw F.1 live)
      (λ s i j e. unwaited s i j (e ∙ ap (λ (t : Thread). t.number) F.1 ∙ number)))

pub ends_last : (m : Model) → Sound m → (p n : ℕ) → (thread m p).standing ≢ Empty → (thread m p).number ≡ n → Swap m p vacant (end_last p n m)
ends_last m S p n live number =
    let low : n ≤ last_number = rw number at ((S.fits p).number live) in
    let H = hands (line m (inbox p)) m S n p low live refl in
    let A = lets all_places _ H.step.kept.sound (awaiting n) (awaiting_fair n low) in
    let L = lets all_places _ A.step.kept.sound (listening n) (listening_fair n low) in
    finish m _ _ _ n p all_places number every_place H A L live (handed_all m S n p live number all_places)
