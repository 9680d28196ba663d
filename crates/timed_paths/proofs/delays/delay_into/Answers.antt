use Rattle.std.proofs.Common.{sym, subst, ◌∙◌}
use Rattle.netlist_store.specs.Numbering.{Stored, IsNumbered}
use Rattle.timed_paths.proofs.NumberLaws.{both_numbers}
use Rattle.timed_paths.proofs.delays.delay_into.Goals as goal

pub returns : goal.returns
returns c = λ from to e h.
    c.delay_along.ensures
    ∙ both_numbers c.args.graph.now.stored (subst (λ (z : Stored). IsNumbered z) c.store.ensures c.laws.ensures.numbered) c.args.split c.in-Some.from c.in-Some-number.to from to
    (sym c.in-Some.is ∙ e) (sym c.in-Some-number.is ∙ h)
