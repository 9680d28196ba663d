use Rattle.rc_tree.specs.Listing.{AreAllBelow}
use Rattle.rc_tree.proofs.links.all_below.Given as goal

abbrev pub invariant-loop-index : goal.invariant-loop-index
invariant-loop-index l = AreAllBelow l.index l.all
