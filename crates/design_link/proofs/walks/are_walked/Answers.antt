use Rattle.std.proofs.Common.{◌∙◌, sym, arith}
use Rattle.design_link.proofs.WalkLaws.{walk_more}
use Rattle.design_link.proofs.walks.are_walked.Goals as goal

pub loop-at-preserved : goal.loop-at-preserved
loop-at-preserved c =
    walk_more c.args.root.now c.args.ress.now c.loop-at.at c.index-ress-at.result c.loop-at-test.true c.index-ress-at.is c.loop-at.invariant
    (sym c.leads_on.ensures ∙ c.if-not-leads_on.false)

pub returns : goal.returns
returns c = λ told k low. c.loop-at.invariant k (omega (arith, low, c.loop-at-test.false))
