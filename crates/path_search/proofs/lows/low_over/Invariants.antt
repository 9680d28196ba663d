use Rattle.std.proofs.Common.{◌≡◌, Some, drop}
use Rattle.timing_defs.specs.declared.kinds.Split.TheVariants.{Early}
use Rattle.timing_defs.specs.RowTimes.{edge_of}
use Rattle.timing_rules.specs.Rows.{outermost}
use Rattle.path_search.specs.Lows.{low_told, low_over}
use Rattle.path_search.proofs.lows.low_over.Given as goal

abbrev pub invariant-loop-test : goal.invariant-loop-test
invariant-loop-test l =
    outermost Early (λ t. Some (low_told l.store.design l.kind l.tree (edge_of l.edge) t)) l.least (drop l.test-index l.tests)
    ≡ low_over l.store.design l.kind l.tree l.tests (edge_of l.edge)
