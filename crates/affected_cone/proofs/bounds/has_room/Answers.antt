use Rattle.std.proofs.Common.{◌≡◌, ◌<◌, List, length, refl, sym, subst, ◌∙◌, arith}
use Rattle.std.specs.Prelude.{All}
use Rattle.timing_defs.specs.declared.constraints.Constraints.{Constraints}
use Rattle.timing_defs.specs.declared.edge_times.EdgeTime.{EdgeTime}
use Rattle.timing_defs.specs.RowTimes.{times_in}
use Rattle.timing_defs.specs.Kinds.{data_split}
use Rattle.timing_defs.proofs.Members.{some_is}
use Rattle.netlist_store.specs.Linked.{IsLinked}
use Rattle.netlist_store.specs.Numbering.{Stored, IsNumbered}
use Rattle.pin_graph.specs.Nodes.{node_bound}
use Rattle.pin_graph.specs.RowTables.{row_numbered}
use Rattle.path_search.specs.EndLows.{IsEndLow}
use Rattle.path_search.proofs.EndLowLaws.{rows_low}
use Rattle.affected_cone.proofs.bounds.has_room.Goals as goal

pub end_low-requires-clause-clocks : goal.end_low-requires-clause-clocks
end_low-requires-clause-clocks c =
    let below : c.args.node < node_bound c.args.base.now.graph.now.stored = omega (arith, c.count.ensures, c.if-node-count.false) in
    let row : c.row-row.result.now ≡ row_numbered c.args.base.now.graph.now.stored c.args.node = some_is (sym c.row-row.ensures ∙ c.requires.base.arrivals.rows.row c.args.node below) in
    let times : c.times.result.now ≡ times_in (data_split c.args.kind) (row_numbered c.args.base.now.graph.now.stored c.args.node) =
    c.times.ensures ∙ (λ k. times_in (c.data_split.ensures k) (row k)) in
    let num = subst (λ (s : Stored). IsNumbered s) c.store.ensures c.laws-2.ensures.numbered in
    let linked = subst (λ (s : Stored). IsLinked s.design) c.store.ensures c.laws-2.ensures.linked in
    subst (λ (xs : List EdgeTime). All (λ (t : EdgeTime). t.clock < length c.args.search.now.store.now.design.constraints.clocks) xs) (sym times)
    (subst (λ (q : Constraints). All (λ (t : EdgeTime). t.clock < length q.clocks) (times_in (data_split c.args.kind) (row_numbered c.args.base.now.graph.now.stored c.args.node))) c.requires.same
    (rows_low c.args.base.now.graph.now c.args.base.now.graph.now.stored refl num linked c.laws.ensures (data_split c.args.kind) c.args.node))

pub returns : goal.returns
returns c = λ yes v at.
    let below : c.args.node < node_bound c.args.base.now.graph.now.stored = omega (arith, c.count.ensures, c.if-node-count.false) in
    let row : c.row-row.result.now ≡ row_numbered c.args.base.now.graph.now.stored c.args.node = some_is (sym c.row-row.ensures ∙ c.requires.base.arrivals.rows.row c.args.node below) in
    let times : c.times.result.now ≡ times_in (data_split c.args.kind) (row_numbered c.args.base.now.graph.now.stored c.args.node) =
    c.times.ensures ∙ (λ k. times_in (c.data_split.ensures k) (row k)) in
    record {
      low = c.in_ok-low.low;
      before = subst (λ (xs : List EdgeTime). IsEndLow c.args.search.now.store.now c.args.kind c.args.node xs c.in_ok-low.low) times c.in_ok-low.ensures.before;
      after = c.in_ok-low.ensures.after;
      more = c.is_more.ensures yes v at;
    }
