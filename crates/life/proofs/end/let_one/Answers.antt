-- `let_one` meets its contract: who does not await the reply stays as it is, who does has its own word back.
use mathlib.Core.Path.{refl, sym, ◌∙◌}
use Rattle.rules.specs.Rules.{awaiting}
use Rattle.order.specs.HandBack.{awaiting_fair}
use Rattle.life.specs.LetGo.{let_not, let_loose, let_yes}
use Rattle.life.proofs.end.let_one.Goals as goal

pub returns-then-not-awaits : goal.returns-then-not-awaits
returns-then-not-awaits c =
    let_not c.requires.0 (awaiting c.args.n.0) c.requires.2 (sym c.awaits.ensures ∙ c.if-not-awaits.true)

pub give_back-requires : goal.give_back-requires
give_back-requires c =
    let n = c.args.n.0 in (
      c.requires.0.whole,
      c.requires.2,
      let_loose c.requires.0 (awaiting n) c.requires.2 (awaiting_fair n c.requires.1) (sym c.awaits.ensures ∙ c.if-not-awaits.false),
    )

pub returns : goal.returns
returns c =
    let n = c.args.n.0 in
    let_yes c.requires.0 (awaiting n) c.requires.2 (awaiting_fair n c.requires.1) (sym c.awaits.ensures ∙ c.if-not-awaits.false) (λ m e. refl) c.give_back.ensures
