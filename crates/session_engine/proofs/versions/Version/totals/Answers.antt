use Rattle.std.proofs.Common.{ℕ, ap, subst, ◌∙◌}
use Rattle.timing_rules.specs.Reports.{AreTotals}
use Rattle.netlist_store.specs.Numbering.{Stored}
use Rattle.affected_cone.specs.Analysed.{Analysed}
use Rattle.session_engine.proofs.versions.Version.totals.Goals as goal

pub returns : goal.returns
returns c =
    subst (λ (n : ℕ). AreTotals c.args.self.now.stored.design n c.totals.result) c.number.ensures
    (subst (λ (s : Stored). AreTotals s.design c.number.result c.totals.result)
    (ap (λ (a : Analysed). a.stored) c.analysis-analysis.ensures ∙ c.laws.ensures.analysed) c.totals.ensures)
