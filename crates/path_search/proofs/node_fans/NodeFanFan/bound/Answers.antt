use Rattle.std.proofs.Common.{◌≡◌, ◌<◌, List, None, sym, ap, subst, ◌∙◌}
use Rattle.std.specs.Prelude.{All}
use Rattle.sta_units.specs.Numbers.{Within}
use Rattle.timing_defs.specs.declared.edge_times.EdgeTime.{EdgeTime}
use Rattle.timing_defs.specs.declared.kinds.Split.{Split}
use Rattle.timing_defs.specs.RowTimes.{times_in}
use Rattle.netlist_store.specs.Numbering.{Stored}
use Rattle.pin_graph.specs.Nodes.{node_bound}
use Rattle.pin_graph.specs.RowTables.{row_numbered}
use Rattle.timing_defs.proofs.Members.{some_is}
use Rattle.bounded_slack.specs.Rows.{IsLowOffer, least_room, signed_on}
use Rattle.path_search.specs.Lows.{lows_told}
use Rattle.path_search.specs.NodeNets.{signed_arrival, FanValue}
use Rattle.path_search.proofs.NodeForms.{bound_as, lows_range, times_range}
use Rattle.path_search.proofs.node_fans.NodeFanFan.bound.Goals as goal

pub least_room-requires-clause-lows : goal.least_room-requires-clause-lows
least_room-requires-clause-lows g c =
    subst (λ (xs : List EdgeTime). All IsLowOffer xs) (sym c.as_slice.ensures)
    (lows_range _ _ _ _ _ _ _ _ _ c.self.invariant c.laws.ensures.numbered c.laws.ensures.linked c.laws-2.ensures)

pub least_room-requires-clause-times : goal.least_room-requires-clause-times
least_room-requires-clause-times g c =
    let low = subst (λ (v : FanValue). c.args.node < node_bound v.0.stored) (sym c.self.view_is) c.requires in
    let below = subst (λ (s : Stored). c.args.node < node_bound s) c.self.invariant.sources.graph low in
    let row : c.row-row.result.now ≡ row_numbered c.self.inside.sources.now.store.now c.args.node =
    some_is (sym c.row-row.ensures ∙ c.self.invariant.sources.told.row c.args.node below) in
    subst (λ (xs : List EdgeTime). All (λ (x : EdgeTime). Within x.time.0) xs)
    (sym (c.times.ensures ∙ ap (λ (s : Split). times_in s c.row-row.result.now) c.data_split.ensures))
    (times_range _ _ _ _ _ _ _ _ _ c.self.invariant c.laws.ensures.numbered c.laws.ensures.linked c.laws-2.ensures c.args.node c.row-row.result.now row)

pub returns : goal.returns
returns g c =
    let low = subst (λ (v : FanValue). c.args.node < node_bound v.0.stored) (sym c.self.view_is) c.requires in
    let below = subst (λ (s : Stored). c.args.node < node_bound s) c.self.invariant.sources.graph low in
    let row : c.row-row.result.now ≡ row_numbered c.self.inside.sources.now.store.now c.args.node =
    some_is (sym c.row-row.ensures ∙ c.self.invariant.sources.told.row c.args.node below) in
    let times = c.times.ensures ∙ ap (λ (s : Split). times_in s c.row-row.result.now) c.data_split.ensures in
    let lows = c.as_slice.ensures in
    c.least_room.ensures
    ∙ (λ i. least_room (signed_on c.self.inside.sources.now.kind (times i)) None (lows i))
    ∙ bound_as _ _ _ _ _ _ _ _ _ c.self.invariant c.laws.ensures.numbered c.laws.ensures.linked c.laws-2.ensures c.args.node c.row-row.result.now row
    ∙ ap (λ (v : FanValue). least_room (signed_arrival v.0 v.1 c.args.node) None (lows_told v.0.stored.design v.1 v.2 v.3)) c.self.view_is
