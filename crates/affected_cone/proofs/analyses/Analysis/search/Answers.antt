use Rattle.std.proofs.Common.{refl, sym, ap, ◌∙◌}
use Rattle.affected_cone.specs.Analysed.{Analysed}
use Rattle.affected_cone.proofs.FoundLaws.{search_told}
use Rattle.affected_cone.proofs.analyses.Analysis.search.Goals as goal

pub returns-clause-search : goal.returns-clause-search
returns-clause-search c =
    search_told _ c.self.inside.arrivals c.self.inside.required.rows c.self.inside.ends c.self.inside.graph c.self.inside.tree
    (c.requires ∙ sym (ap (λ (a : Analysed). a.stored) c.self.view_is)) refl refl c.get.ensures c.self.invariant.0 c.self.invariant.1
