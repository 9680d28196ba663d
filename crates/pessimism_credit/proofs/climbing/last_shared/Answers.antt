use Rattle.std.proofs.Common.{◌≡◌, ◌<◌, Some, sym, ◌∙◌, arith}
use Rattle.pessimism_credit.specs.Credit.{parent_of}
use Rattle.pessimism_credit.proofs.Climbs.{lower, climb_left, climb_right}
use Rattle.pessimism_credit.proofs.climbing.last_shared.Goals as goal

pub loop-left-smaller-in-Some : goal.loop-left-smaller-in-Some
loop-left-smaller-in-Some c =
    let parent : parent_of c.args.rows.now c.loop-left.left ≡ Some c.in-Some.parent = sym c.parent_at.ensures ∙ c.in-Some.is in
    let low : c.in-Some.parent < c.loop-left.left = lower c.args.rows.now c.loop-left.left c.in-Some.parent c.requires parent in
    omega (arith, low)

pub loop-left-preserved-in-Some : goal.loop-left-preserved-in-Some
loop-left-preserved-in-Some c =
    climb_left c.args.rows.now c.loop-left.left c.loop-left.right c.in-Some.parent c.requires c.if-right-left.true (sym c.parent_at.ensures ∙ c.in-Some.is)
    ∙ c.loop-left.invariant

pub loop-left-smaller : goal.loop-left-smaller
loop-left-smaller c =
    let parent : parent_of c.args.rows.now c.loop-left.right ≡ Some c.in-Some-parent_at.parent =
    sym c.parent_at-else-right-left.ensures ∙ c.in-Some-parent_at.is in
    let low : c.in-Some-parent_at.parent < c.loop-left.right =
    lower c.args.rows.now c.loop-left.right c.in-Some-parent_at.parent c.requires parent in
    omega (arith, low)

pub loop-left-preserved : goal.loop-left-preserved
loop-left-preserved c =
    climb_right c.args.rows.now c.loop-left.left c.loop-left.right c.in-Some-parent_at.parent c.requires (omega (arith, c.loop-left-test.true, c.if-right-left.false))
    (sym c.parent_at-else-right-left.ensures ∙ c.in-Some-parent_at.is)
    ∙ c.loop-left.invariant
