use Rattle.std.proofs.Common.{◌≡◌, drop}
use Rattle.timing_defs.specs.declared.kinds.Split.TheVariants.{Early}
use Rattle.timing_rules.specs.Rows.{outermost}
use Rattle.path_search.specs.EndLows.{edge_at, low_on}
use Rattle.path_search.specs.Lows.{low_over}
use Rattle.path_search.proofs.lows.low_on.Given as goal

abbrev pub invariant-loop-time : goal.invariant-loop-time
invariant-loop-time l =
    outermost Early (λ t. low_over l.store.design l.kind l.tree l.tests (edge_at t)) l.least (drop l.time-index l.times)
    ≡ low_on l.store.design l.kind l.tree l.tests l.times
