use Rattle.std.proofs.Common.{ℕ, List, subst}
use Rattle.std.specs.Prelude.{IfOk}
use Rattle.netlist_store.specs.Numbering.{Stored, IsNumbered}
use Rattle.arrival_engine.specs.Updated.{AreOther}
use Rattle.affected_cone.proofs.ChangedLaws.{changed_told}
use Rattle.affected_cone.proofs.updating.changed.Goals as goal

pub returns : goal.returns
returns c =
    let num = subst (λ (s : Stored). IsNumbered s) c.store.ensures c.laws-3.ensures.numbered in
    let num2 = subst (λ (s : Stored). IsNumbered s) c.store-2.ensures c.laws-4.ensures.numbered in
    changed_told c.args.base.now.graph.now c.args.graph.now _ c.requires.made num num2 c.laws.ensures c.laws-2.ensures c.args.base.now.arrivals.now c.requires.base.arrivals
    c.args.reach.now.seeds c.args.reach.now.nodes.keys c.requires.reach.seeds c.requires.reach.behind c.moved.result
    (subst (λ (xs : List ℕ). IfOk c.moved.result (AreOther c.args.base.now.graph.now.stored c.args.graph.now.stored xs)) c.as_slice.ensures.keys c.moved.ensures)
