use Rattle.std.proofs.Common.{◌<◌, length, Some, sym, ap, ◌∙◌, arith}
use Rattle.std.specs.Prelude.{slice_get}
use Rattle.std.proofs.lemmas.Option.{same_Some, slice_get-get_or}
use Rattle.ranked_walks.proofs.Fronts.{turned}
use Rattle.ranked_walks.proofs.turns.turn.Goals as goal

pub split-requires-clause-taken : goal.split-requires-clause-taken
split-requires-clause-taken g c =
    let front = c.in_ok-at.ensures.low in
    let len = ap length c.as_slice-2.ensures.value in
    let low : c.in_ok-at.at < length c.args.branches.now.items = omega (arith, front, len) in
    turned (g.O.WalkOrder.rank c.args.order.now) (g.O.WalkOrder.before c.args.order.now) c.args.cone.now c.args.tables.now
    c.args.given.now c.as_slice.result.now c.as_slice-3.result.now c.as_slice-5.result.now
    c.args.branches.now.items c.as_slice-2.result.now c.as_slice-4.result.now c.swap_remove-branch.new.self.items c.in_ok-at.at c.nth.result.now c.swap_remove-branch.result c.in_ok-walk.walk
    c.requires.cone c.requires.tables c.requires.searched c.as_slice.ensures c.as_slice-3.ensures c.as_slice-5.ensures c.as_slice-2.ensures.value c.as_slice-4.ensures.value
    c.in_ok-at.ensures c.nth.ensures c.in_ok-walk.ensures
    (same_Some c.nth.result.now c.swap_remove-branch.result
    (sym c.nth.ensures ∙ ap (λ xs. slice_get xs c.in_ok-at.at) c.as_slice-4.ensures.value
    ∙ slice_get-get_or c.args.branches.now.items c.in_ok-at.at c.swap_remove-branch.result low ∙ ap Some (sym c.swap_remove-branch.ensures.value))) low c.swap_remove-branch.ensures.items
