use Rattle.rc_tree.specs.Numbering.{numbered}
use Rattle.rc_tree.proofs.Listing.{joined_map}
use Rattle.rc_tree.proofs.nodes.add_caps.Goals as goal

pub loop-cap-preserved : goal.loop-cap-preserved
loop-cap-preserved c =
    joined_map (λ c. c.node) (numbered c.args.nodes.now) (numbered c.loop-cap.nodes) (numbered c.insert.new.self) c.args.caps.now c.loop-cap.cap-index c.cap-item.result
    c.loop-cap-test.true c.cap-item.is c.loop-cap.invariant c.in_ok-insert.ensures
