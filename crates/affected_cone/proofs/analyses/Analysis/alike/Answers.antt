use Rattle.std.proofs.Common.{sym, ap, ◌∙◌}
use Rattle.affected_cone.specs.Analysed.{Analysed}
use Rattle.affected_cone.proofs.AlikeLaws.{analyses_alike}
use Rattle.affected_cone.proofs.analyses.Analysis.alike.Goals as goal

pub returns : goal.returns
returns c =
    sym c.self.view_is
    ∙ analyses_alike _ _ c.self.invariant.1.numbered c.self.invariant.1.linked c.self.invariant.0 c.other.invariant.0
    (ap (λ (a : Analysed). a.stored) c.self.view_is ∙ c.requires ∙ sym (ap (λ (a : Analysed). a.stored) c.other.view_is))
    ∙ c.other.view_is
