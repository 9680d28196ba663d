use Rattle.std.proofs.Common.{◌∷◌, []}
use Rattle.rc_tree.specs.Numbering.{numbered}
use Rattle.rc_tree.proofs.Listing.{joined_both}
use Rattle.rc_tree.proofs.nodes.add_ends.Goals as goal

pub returns : goal.returns
returns c =
    joined_both (numbered c.args.nodes.now) (c.args.resistor.now.a ∷ []) (numbered c.insert.new.self) (c.args.resistor.now.b ∷ []) (numbered c.insert-2.new.self) c.in_ok-insert.ensures c.in_ok-insert-2.ensures
