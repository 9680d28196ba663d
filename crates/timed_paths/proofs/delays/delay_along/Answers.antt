use Rattle.std.proofs.Common.{◌≡◌, ℕ, nat_eq, List, sym, ap, subst, ◌∙◌}
use Rattle.std.specs.List.{list_any}
use Rattle.netlist_store.specs.Linked.{IsLinked}
use Rattle.netlist_store.specs.Numbering.{Stored, IsNumbered}
use Rattle.pin_graph.specs.declared.arcs.GraphArc.{GraphArc}
use Rattle.timed_paths.proofs.NumberLaws.{along_there, along_none}
use Rattle.timed_paths.proofs.delays.delay_along.Goals as goal

pub returns-then-leads_from : goal.returns-then-leads_from
returns-then-leads_from c =
    c.along.ensures
    ∙ along_there c.args.graph.now (subst (λ (z : Stored). IsNumbered z) c.store.ensures c.laws-2.ensures.numbered)
    (subst (λ (z : Stored). IsLinked z.design) c.store.ensures c.laws-2.ensures.linked) c.laws.ensures c.args.delays.now c.requires.delays c.args.split c.args.from c.args.to c.requires.to
    (sym (ap (λ (xs : List GraphArc). list_any (λ (arc : GraphArc). nat_eq arc.from c.args.from) xs) c.arcs_in.ensures) ∙ sym c.leads_from.ensures ∙ c.if-leads_from.true)

pub returns-else-leads_from : goal.returns-else-leads_from
returns-else-leads_from c =
    along_none c.args.graph.now (subst (λ (z : Stored). IsNumbered z) c.store.ensures c.laws-2.ensures.numbered)
    (subst (λ (z : Stored). IsLinked z.design) c.store.ensures c.laws-2.ensures.linked) c.laws.ensures c.args.delays.now c.requires.delays c.args.split c.args.from c.args.to c.requires.to
    (sym (ap (λ (xs : List GraphArc). list_any (λ (arc : GraphArc). nat_eq arc.from c.args.from) xs) c.arcs_in.ensures) ∙ sym c.leads_from.ensures ∙ c.if-leads_from.false)
