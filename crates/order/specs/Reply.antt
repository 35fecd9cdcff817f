-- Event 4, reply: the replier goes to the back of ready, and the one that is answered runs at once.
use Rattle.std.specs.Prelude.{ℕ, ◌≡◌, refl, ◌≢◌}
use Rattle.std.proofs.Common.{sym, ◌∙◌, arith}
use Rattle.lists.specs.Lists.{none}
use Rattle.rules.specs.Values.{nobody}
use Rattle.rules.specs.Model.{Empty, Running, Ready, Awaiting, Model, thread}
use Rattle.rules.specs.Rules.{place_of, mine, runs, readied, stands, reply_to, reply}
use Rattle.order.specs.Sound.{Short, Sound}
use Rattle.order.specs.Belongs.{in_none}
use Rattle.order.specs.Lines.{stays}
use Rattle.order.specs.Moves.{beside, Step, stepped, then, starting}
use Rattle.order.specs.Standings.{become, plain, told_by}
use Rattle.order.specs.Caller.{one, alive, yields}

pub replies_to : (m : Model) → Sound m → m.running ≢ none → (p w : ℕ) → Short w → (thread m p).standing ≡ Awaiting → Step m (reply_to p (mine m) w m)
replies_to m S busy p w short four =
    let o = one m S busy in
    let c = m.running in
    let m₁ = runs none (readied c m) in
    let ne : p ≢ c = λ z. let y : ◌≡◌ {A = ℕ} 1 4 = cc in omega arith in
    let four' : (thread m₁ p).standing ≡ Awaiting = rw (beside m c p (stands Ready nobody 0 (thread m c)) ne) four in
    let F : Step m m₁ = yields m S busy in
    let S₁ : Sound m₁ = F.kept.sound in
    let lived : (thread m₁ p).standing ≢ Empty = omega arith in
    let u = become m₁ p Running nobody 0 0 (mine m) w in
    then m m₁ (reply_to p (mine m) w m) F (stepped m₁ p u p _ S₁
    (plain m₁ S₁ p lived Running 0 (mine m) w p _ (omega arith) refl (told_by 0 (mine m) w ((S.fits c).number (alive m S busy)) refl short)
    (starting m₁ S₁ p u refl lived refl)
    (stays m₁ S₁ p u (λ q. in_none m₁ u (omega arith) q ∙ sym (in_none m₁ (thread m₁ p) (omega arith) q))))
    (omega arith))

pub replies : (m : Model) → Sound m → m.running ≢ none → (t w : ℕ) → Short w → (thread m (place_of m t)).standing ≡ Awaiting → Step m (reply t w m)
replies m S busy t w = replies_to m S busy (place_of m t) w
