use Rattle.std.proofs.Common.{subst}
use Rattle.timing_rules.specs.Reports.{AreTotals}
use Rattle.affected_cone.specs.Analysed.{Analysed}
use Rattle.affected_cone.proofs.TotalLaws.{totals_told}
use Rattle.affected_cone.proofs.analyses.Analysis.totals.Goals as goal

pub returns : goal.returns
returns c =
    subst (λ (a : Analysed). AreTotals a.stored.design c.args.number c.totals_of.result) c.self.view_is
    (totals_told c.self.inside.graph.stored c.self.invariant.1.numbered c.self.invariant.1.linked c.self.inside.ends c.as_slice.result.now c.as_slice.ensures
    c.self.invariant.0.ends c.args.number c.totals_of.result c.totals_of.ensures.number c.totals_of.ensures.setup_worst c.totals_of.ensures.setup_total
    c.totals_of.ensures.hold_worst c.totals_of.ensures.hold_total)
