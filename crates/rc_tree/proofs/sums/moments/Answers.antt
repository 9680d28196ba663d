use Rattle.std.proofs.Common.{rules, ◌≡◌, ◌+◌, ◌*◌, ◌<◌, ◌≤◌, ◌^◌, length, sym, subst, arith}
use Rattle.std.specs.Option.{option_map_or}
use Rattle.rc_tree.specs.Moments.{weight_at}
use Rattle.rc_tree.proofs.Passes.{small_next, made_next, weight_read}
use Rattle.rc_tree.proofs.sums.moments.Goals as goal

pub moment-next-requires-clause-small : goal.moment-next-requires-clause-small
moment-next-requires-clause-small c =
    let low : c.loop-place.place < length c.args.rows.now = search rules in
    let size : length c.subtotals-totals.result.items ≡ length c.args.rows.now = c.subtotals-totals.ensures.len in
    subst (λ ms. option_map_or (λ p. weight_at ms p + c.row_of.result.res * c.index.result.now) c.row_of.result.parent 0 ≤ 2 ^ 125) (sym c.as_slice.ensures)
    (small_next c.args.rows.now c.args.weights.items c.subtotals-totals.result.items c.loop-place.moments c.loop-place.place c.index.result.now c.row_of.result c.requires.rising
    c.subtotals-totals.ensures.totals c.requires.small low c.loop-place.invariant c.row_of.ensures
    (weight_read c.subtotals-totals.result.items c.loop-place.place c.index.result.now (omega (arith, low, size)) c.index.ensures))

pub loop-place-preserved : goal.loop-place-preserved
loop-place-preserved c =
    let low : c.loop-place.place < length c.args.rows.now = search rules in
    let size : length c.subtotals-totals.result.items ≡ length c.args.rows.now = c.subtotals-totals.ensures.len in
    made_next c.args.rows.now c.args.weights.items c.subtotals-totals.result.items c.loop-place.moments c.push.new.self c.loop-place.place c.index.result.now c.moment-next.result c.row_of.result c.requires.rising
    c.subtotals-totals.ensures.totals low c.loop-place.invariant c.row_of.ensures
    (weight_read c.subtotals-totals.result.items c.loop-place.place c.index.result.now (omega (arith, low, size)) c.index.ensures)
    (subst (λ ms. c.moment-next.result ≡ option_map_or (λ p. weight_at ms p + c.row_of.result.res * c.index.result.now) c.row_of.result.parent 0) c.as_slice.ensures c.moment-next.ensures)
    c.in_ok-push.ensures.ok
