use Rattle.std.proofs.Common.{◌≡◌, ◌+◌, length, arith}
use Rattle.design_link.proofs.NodeLaws.{set_count}
use Rattle.design_link.proofs.node_sets.NodeSet.len.Goals as goal

pub returns : goal.returns
returns c =
    let sum : c.len.result + c.len-2.result ≡ length c.args.self.now.pins.keys + length c.args.self.now.inners.keys = omega (arith, c.len.ensures.len, c.len-2.ensures.len) in
    set_count c.args.self.now.pins.keys c.args.self.now.inners.keys (c.len.result + c.len-2.result) c.len.ensures.unique c.len-2.ensures.unique sum
