-- `wake_listener` meets its contract: who does not receive, or receives from another, stays as it is, and who receives from n is told.
use mathlib.Core.Path.{refl, sym, ◌∙◌}
use Rattle.std.proofs.lemmas.Bool.{eqb-true, eqb-false, not-true, not-false}
use Rattle.rules.specs.Rules.{listening}
use Rattle.order.specs.HandBack.{listening_fair}
use Rattle.life.specs.LetGo.{listens_standing, listens_partner, listens_both, let_not, let_loose, let_yes}
use Rattle.life.proofs.end.wake_listener.Goals as goal

pub returns-then-standing_of-ne-RECEIVING : goal.returns-then-standing_of-ne-RECEIVING
returns-then-standing_of-ne-RECEIVING c =
    let n = c.args.n.0 in
    let p = c.args.p.0 in
    let_not c.requires.0 (listening n) c.requires.2 (listens_standing c.args.a.now.table.blocks p n c.standing_of.ensures c.if-standing_of-ne-RECEIVING.true)

pub returns-then-ne : goal.returns-then-ne
returns-then-ne c =
    let n = c.args.n.0 in
    let p = c.args.p.0 in
    let_not c.requires.0 (listening n) c.requires.2
    (listens_partner c.args.a.now.table.blocks p n c.standing_of.ensures c.if-standing_of-ne-RECEIVING.false c.partner_of.ensures
    (eqb-false _ _ (not-true _ (sym c.ne.ensures ∙ c.if-ne.true))))

pub wake-requires : goal.wake-requires
wake-requires c =
    let n = c.args.n.0 in
    let p = c.args.p.0 in (
      c.requires.0.whole,
      c.requires.2,
      let_loose c.requires.0 (listening n) c.requires.2 (listening_fair n c.requires.1)
          (listens_both c.args.a.now.table.blocks p n c.standing_of.ensures c.if-standing_of-ne-RECEIVING.false c.partner_of.ensures
          (eqb-true _ _ (not-false _ (sym c.ne.ensures ∙ c.if-ne.false)))),
    )

pub returns : goal.returns
returns c =
    let n = c.args.n.0 in
    let p = c.args.p.0 in
    let_yes c.requires.0 (listening n) c.requires.2 (listening_fair n c.requires.1)
    (listens_both c.args.a.now.table.blocks p n c.standing_of.ensures c.if-standing_of-ne-RECEIVING.false c.partner_of.ensures
    (eqb-true _ _ (not-false _ (sym c.ne.ensures ∙ c.if-ne.false))))
    (λ m e. refl) c.wake.ensures
