use Rattle.rc_tree.specs.Listing.{AreListed}
use Rattle.rc_tree.proofs.links.own_links.Given as goal

abbrev pub invariant-loop-index : goal.invariant-loop-index
invariant-loop-index l = AreListed l.segments l.count l.index l.links.items
