-- The tests of an endpoint's two nodes, beside the numbers of these.

use Rattle.timing_defs.specs.declared.kinds.Kind.{Kind}
use Rattle.pin_graph.specs.Graphs.{Graphed}
use Rattle.path_search.specs.declared.tested.Tested.{Tested}
use Rattle.path_search.specs.Slacks.{AreEndTestsOf}

pub record AreTested (g : Graphed) (kind : Kind) (t : Tested) : Type 0 where
  pub rises : AreEndTestsOf g kind t.rise t.rises
  pub falls : AreEndTestsOf g kind t.fall t.falls
