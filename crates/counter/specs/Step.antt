-- What a step of the counter is, by the rules' one definition of the successor, and that it has one outcome. Assumes nothing.
use Rattle.std.specs.Prelude.{◌≡◌, refl, [], ◌∷◌, map}
use Rattle.std.proofs.Common.{sym, ◌∙◌}
use Rattle.rules.specs.Rules.{successor}
use Rattle.rules.specs.declared.Number.{Number}
use Rattle.counter.specs.declared.Counter.{Counter}

-- The counter steps to its successor, and from 253 or above to 0.
abbrev pub advanced : Counter → Counter
advanced c = record { last = record { 0 = successor c.last.0 } }

-- what `next` ensures of the counter, at entry and at exit, and of the number given
abbrev pub Advances : Counter → Counter → Number → Type 0
Advances c d n = (d ≡ advanced c) × (n ≡ (advanced c).last)

-- one outcome: the counter lent and the number given are settled
pub next_one : (c : Counter) {d d' : Counter} {n n' : Number} → Advances c d n → Advances c d' n' → (d ≡ d') × (n ≡ n')
next_one c a b = (a.0 ∙ sym b.0, a.1 ∙ sym b.1)

-- the ends of the way round, by computation
around : map successor (0 ∷ 252 ∷ 253 ∷ 254 ∷ 255 ∷ []) ≡ 1 ∷ 253 ∷ 0 ∷ 0 ∷ 0 ∷ []
around = refl
