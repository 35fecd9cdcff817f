-- EVERY TURN COMES, in the code (demand 2): `turn_comes` of the rules, said of a chain of replies of `State::step`.
use Rattle.std.specs.Prelude.{◌≡◌, List, ◌∷◌, true, ℕ, zero, suc, ◌≤◌, ◌<◌, ltb, length, take, drop}
use Rattle.std.proofs.Common.{sym, ap, subst, ◌∙◌, inl, inr, arith, ltb-true, ltb-false, take_all}
use Rattle.lists.specs.Laws.{by_test}
use Rattle.rules.specs.Model.{Model}
use Rattle.rules.specs.Rules.{not_live, after}
use Rattle.rules.specs.declared.Event.{Event}
use Rattle.order.specs.TurnComes.{Queued, slices, Ends, Come}
use Rattle.order.proofs.TurnComes.{turn_comes}
use Rattle.nucleus.specs.View.{view, Consists, held, refused}
use Rattle.nucleus.specs.declared.State.{State}
use Rattle.nucleus.specs.declared.Reply.{Reply}
use Rattle.recovery.specs.Chain.{Chain, stays, steps, chain_fits}
use Rattle.recovery.specs.Turns.{Turn}
use Rattle.recovery.specs.Turns.Turn.{runs, ended, later}

-- what the rules say of an event is what its reply says
turn_at : {s t : State} {es : List Event} {rs : List Reply} (n i : ℕ) → Consists s → Chain s es rs t → i < length es
    → Come n (Ends n (drop i es) (after (take i es) (view s))) (after (take (suc i) es) (view s)) → Turn n (view s) i es rs
turn_at n i k stays h c = absurd (omega arith)
turn_at n i k (steps f (refused x a) rest) h c = absurd (x k)
turn_at n zero k (steps f (held l a) rest) h (inl c) = runs (a.choice ∙ c)
turn_at {s} n zero k (steps {es = es} {r = r} {rs = rs} f (held l a) rest) h (inr c) =
    let gone : not_live (view r.state) n ≡ true = ap (λ (m : Model). not_live m n) a.state.seen ∙ c.1 in
    subst (λ (e : Event). Turn n (view s) 0 (e ∷ es) (r ∷ rs)) (sym c.0.0.1) (ended c.0.0.2 (a.code ∙ c.0.1) gone)
turn_at n (suc i) k (steps {es = es} f (held l a) rest) h c =
    later (turn_at n i a.state.consists rest (omega arith) (subst (λ (m : Model). Come n (Ends n (drop i es) (after (take i es) m)) (after (take (suc i) es) m)) (sym a.state.seen) c))

-- A thread n stands ready at p in a consistent state, with at most k ahead of it. Its turn is the reply to an event before which at most k slice ends acted: it
-- has run, or been ended, by the (k + 1)th that acts.
pub turn_replied : {s t : State} {es : List Event} {rs : List Reply} → Consists s → Chain s es rs t → (p n k : ℕ) → Queued (view s) p n k → k < slices es (view s)
    → (i : ℕ) × (slices (take i es) (view s) ≤ k) × Turn n (view s) i es rs
turn_replied {s} {es = es} K C p n k Q h =
    let w = turn_comes es (view s) K.consistent (chain_fits C) p n k Q h in
    let i : ℕ = w.0 in
    let a = w.1 in
    by_test (ltb i (length es))
    (λ t. (i, a, turn_at n i K C (ltb-true i (length es) t) w.2))
    (λ t.
    let all : take i es ≡ es = take_all i es (ltb-false i (length es) t) in
    let b : slices es (view s) ≤ k = rw all at a in
    absurd (omega arith))
