use Rattle.std.proofs.Common.{subst}
use Rattle.netlist_store.specs.Numbering.{Stored, IsNumbered}
use Rattle.arrival_engine.proofs.UpdateEnds.{edit_of}
use Rattle.arrival_engine.proofs.MovedLaws.{others_are, ok_more}
use Rattle.arrival_engine.proofs.tables.Arrivals.moved.Goals as goal

pub returns : goal.returns
returns c =
    let num = subst (λ (s : Stored). IsNumbered s) c.store.ensures c.laws-3.ensures.numbered in
    let num2 = subst (λ (s : Stored). IsNumbered s) c.store-2.ensures c.laws-4.ensures.numbered in
    let edit = edit_of c.args.before.now c.args.graph.now _ c.requires.made num num2 c.laws.ensures c.laws-2.ensures c.args.base.now c.requires.was in
    ok_more c.others.result (others_are c.args.before.now c.args.graph.now _ edit c.args.base.now.rows c.requires.was.rows c.args.nodes.now) c.others.ensures
