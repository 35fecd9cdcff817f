-- The counted cases (document 01), as the contract of `State::step` gives them: whatever replies meet it, event by event, they end as the table says.
use Rattle.std.specs.Prelude.{◌≡◌, refl, List, [], ◌∷◌, ℕ, ◌≤◌}
use Rattle.std.proofs.Common.{ap, subst, ◌∙◌, arith}
use Rattle.lists.specs.Lists.{bit}
use Rattle.lists.specs.Every.{Every, each, every}
use Rattle.rules.specs.Model.{Model, last_number, thread}
use Rattle.rules.specs.Rules.{Outcome, outcome, fresh, gave, after}
use Rattle.rules.specs.Consistent.{belongs, OldConsistent, Consistent}
use Rattle.rules.specs.Counted.{Seen, played, begun, found, one, dropped, left_holding, ready_holding, first_ended, cases, counted}
use Rattle.rules.specs.declared.Event.{Event}
use Rattle.order.specs.Keeps.{AllFit}
use Rattle.order.proofs.Keeps.{fresh_consistent}
use Rattle.order.proofs.Always.{always}
use Rattle.nucleus.specs.View.{view, held, refused}
use Rattle.nucleus.specs.Answers.{Meets, Answers}
use Rattle.nucleus.specs.declared.Reply.{Reply}

-- from the reply r on, the events es lead to the reply z: each reply meets the contract of `step`
pub data Plays : Reply → List Event → Reply → Type 0 where
  done : {r : Reply} → Plays r [] r
  more : {r t z : Reply} {e : Event} {es : List Event} → Answers r.state e t → Plays t es z → Plays r (e ∷ es) z

-- one reply, to the letter
follows : {o : Outcome} {r t : Reply} (e : Event) → Meets o r → Answers r.state e t → Meets (outcome e o.state) t
follows {o} {r} {t} e m (held k a) = subst (λ (x : Model). Meets (outcome e x) t) m.state.seen a
follows e m (refused n a) = absurd (n m.state.consists)

-- what is seen of a reply, with the thread at p
abbrev pub shown_by : Reply → ℕ → Seen
shown_by z p = record { code = z.code; number = z.number.0; choice = z.choice; thread = thread (view z.state) p }

seen_of : {o : Outcome} {z : Reply} (p : ℕ) → Meets o z → shown_by z p ≡ played o [] p
seen_of {o} {z} p m =
    let c = m.code in
    let n = m.number in
    let x = m.choice in
    let t = ap (λ (m : Model). thread m p) m.state.seen in
    λ i. record { code = c i; number = n i; choice = x i; thread = t i }

pub plays_out : {r z : Reply} {es : List Event} (o : Outcome) (p : ℕ) → Meets o r → Plays r es z → shown_by z p ≡ played o es p
plays_out o p m done = seen_of p m
plays_out {r} o p m (more {t = t} {e = e} a k) = plays_out (outcome e o.state) p (follows e m a) k

-- THE TABLE, of what the code answers: begun with a consistent state that stands for the case's start, the replies end with what the document says
pub counted_code : Every (λ c. (r z : Reply) → Meets (begun c.start) r → Plays r c.events z → shown_by z c.place ≡ c.seen) cases
counted_code =
    every (λ c. found c ≡ c.seen) (λ c. (r z : Reply) → Meets (begun c.start) r → Plays r c.events z → shown_by z c.place ≡ c.seen)
    (λ c e r z m k. plays_out (begun c.start) c.place m k ∙ e) cases (each found (λ c. c.seen) cases counted)

-- and every case starts from a consistent model, so that there is a state to begin with (`State::fresh`, or one that load gives: `loads_back` of the image)

gave_old : (m : Model) (n : ℕ) → n ≤ last_number → OldConsistent m → OldConsistent (gave n m)
gave_old m n h C = record {
  threads = C.threads;
  lines = C.lines;
  words = C.words;
  differ = C.differ;
  numbers = C.numbers;
  last = h;
  one = C.one;
  busy = C.busy;
  settled = C.settled;
  stood = λ p q. C.stood p q ∙ ap bit (same p q);
  table = C.table;
  served = C.served;
  apart = C.apart;
  any = C.any;
  from = C.from;
  answers = C.answers;
  parented = C.parented;
  rooted = C.rooted;
  clean = C.clean;
}
  where
    same : (p q : ℕ) → belongs m (thread m p) q ≡ belongs (gave n m) (thread m p) q
    same p q = refl

gave_consistent : (m : Model) (n : ℕ) → n ≤ last_number → Consistent m → Consistent (gave n m)
gave_consistent m n h C = record { old = gave_old m n h C.old; listens = C.listens }

-- the last number given is 253
wrapped : (es : List Event) → AllFit es → Consistent (gave last_number (after es fresh))
wrapped es f = gave_consistent (after es fresh) last_number (omega arith) (always es fresh fresh_consistent f)

pub starts : Every (λ c. Consistent c.start) cases
unfolding cases
starts = (new, (new, (new, (new, (new, (new, (new, (new, (new, (new, (new, (new, (alone, (new, (new, (new, (new, (new, (new, (new, (new, (new, (new, (new, (new, (new, (new, (new, (new, (new, (new, (new, (new, (new, (new, (after_end, (left_holding_lem, (after_end, (ready_holding_lem, (one_left, (new, (new, (new, (new, (new, (new, (new, (new, (new, tt)))))))))))))))))))))))))))))))))))))))))))))))))
  where
    new : Consistent fresh
    new = fresh_consistent

    alone : Consistent (gave last_number (after one fresh))
    alone = wrapped one (omega arith, tt)

    after_end : Consistent (gave last_number (after dropped fresh))
    after_end = wrapped dropped (omega arith, (omega arith, (omega arith, (omega arith, tt))))

    left_holding_lem : Consistent (gave last_number (after left_holding fresh))
    left_holding_lem = wrapped left_holding (omega arith, (omega arith, (omega arith, (omega arith, (omega arith, tt)))))

    ready_holding_lem : Consistent (gave last_number (after ready_holding fresh))
    ready_holding_lem = wrapped ready_holding (omega arith, (omega arith, (omega arith, (omega arith, (omega arith, (omega arith, tt))))))

    one_left : Consistent (gave last_number (after first_ended fresh))
    one_left = wrapped first_ended (omega arith, (omega arith, (omega arith, (omega arith, tt))))
