use Rattle.std.proofs.Common.{rules, ◌≡◌, length, arith, subst}
use Rattle.timing_defs.proofs.SameBytes.{AreSameFrom, same_all}
use Rattle.timing_defs.proofs.names.are_same.Goals as goal

pub returns : goal.returns
returns c =
    let size : length c.args.a.now ≡ length c.args.b.now = search rules in
    let none : c.loop-left.left ≡ 0 = omega (arith, c.loop-left-test.false) in
    same_all c.args.a.now c.args.b.now size (subst (λ n. AreSameFrom n c.args.a.now c.args.b.now) none c.loop-left.invariant.1)
