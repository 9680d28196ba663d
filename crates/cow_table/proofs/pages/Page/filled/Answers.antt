use Rattle.std.proofs.Common.{◌≡◌, arith, ◌∙◌}
use Rattle.std.specs.Arc.{arc_value}
use Rattle.cow_table.proofs.Full.{full_cut, full_items}
use Rattle.cow_table.proofs.pages.Page.filled.Goals as goal

pub invariant_of-result : goal.invariant_of-result
invariant_of-result g c = full_cut 64 (omega arith) arc_value c.args.item.now c.loop-at.chunks.items c.loop-at.invariant.1

pub returns : goal.returns
returns g c =
    let all : c.loop-at.at ≡ 64 = omega arith in
    full_items 64 (omega arith) arc_value c.args.item.now c.loop-at.chunks.items 64 c.loop-at.invariant.1 (c.loop-at.invariant.0 ∙ all)
