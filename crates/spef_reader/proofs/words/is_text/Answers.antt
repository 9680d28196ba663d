use Rattle.std.proofs.Common.{rules, ◌≡◌, length, arith, subst}
use Rattle.timing_defs.proofs.SameBytes.{AreSameFrom, same_all}
use Rattle.spef_reader.proofs.words.is_text.Goals as goal

pub returns : goal.returns
returns c =
    let size : length c.args.word.now ≡ length c.args.text.now = search rules in
    let none : c.loop-left.left ≡ 0 = omega (arith, c.loop-left-test.false) in
    same_all c.args.word.now c.args.text.now size (subst (λ n. AreSameFrom n c.args.word.now c.args.text.now) none c.loop-left.invariant.1)
