use Rattle.std.proofs.Common.{◌≡◌, ◌<◌, ◌+◌, sym, subst, length}
use Rattle.timing_defs.specs.declared.parasitics.RcNode.TheVariants.{Inner as rc_inner}
use Rattle.rc_tree.specs.Numbering.{numbered, node_at}
use Rattle.rc_tree.proofs.Listing.{inner_some, inner_none}
use Rattle.rc_tree.proofs.nodes.Nodes.inner_number.Goals as goal

pub returns-in-Some : goal.returns-in-Some
returns-in-Some c = subst (λ n. (n + c.in-Some.place < length (numbered c.args.self.now)) × (node_at (numbered c.args.self.now) (n + c.in-Some.place) ≡ rc_inner c.args.inner)) (sym c.len.ensures.len)
    (inner_some c.args.self.now.pins c.args.self.now.inners c.args.inner c.in-Some.place c.in-Some.ensures.index)

pub returns-in-None : goal.returns-in-None
returns-in-None c = inner_none c.args.self.now.pins c.args.self.now.inners c.args.inner c.in-None.ensures.found
