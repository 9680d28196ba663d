use Rattle.std.proofs.Common.{◌≡◌, ◌++◌, drop}
use Rattle.std.specs.Prelude.{option_map}
use Rattle.std.specs.List.{filter_map}
use Rattle.timing_rules.specs.Rows.{clock_edges, edge_time}
use Rattle.path_search.specs.Lows.{low_over, lows_told}
use Rattle.path_search.proofs.lows.lows_of.Given as goal

abbrev pub invariant-loop-clock : goal.invariant-loop-clock
invariant-loop-clock l =
    l.lows ++ filter_map (λ edge. option_map (edge_time edge) (low_over l.store.design l.kind l.tree l.tests edge)) (clock_edges l.clock (drop l.clock l.store.design.constraints.clocks))
    ≡ lows_told l.store.design l.kind l.tree l.tests
