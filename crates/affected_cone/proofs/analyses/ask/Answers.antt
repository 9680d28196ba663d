use Rattle.std.proofs.Common.{refl, sym, ap, ◌∙◌}
use Rattle.affected_cone.specs.Analysed.{Analysed}
use Rattle.affected_cone.proofs.FoundLaws.{known_told}
use Rattle.affected_cone.proofs.analyses.ask.Goals as goal

pub answer-requires-clause-known : goal.answer-requires-clause-known
answer-requires-clause-known c =
    known_told _ c.analysis.inside.arrivals c.analysis.inside.required.rows c.analysis.inside.ends c.analysis.inside.graph c.analysis.inside.tree
    (c.requires.store ∙ sym (ap (λ (a : Analysed). a.stored) c.analysis.view_is)) refl refl refl c.get.ensures c.as_slice.ensures c.analysis.invariant.0 c.analysis.invariant.1
