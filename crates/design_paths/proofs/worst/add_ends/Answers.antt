use Rattle.design_paths.proofs.Stopping.{row_end, row_added, stopped_at, ended_at}
use Rattle.design_paths.proofs.worst.add_ends.Goals as goal

pub returns-then-are_full : goal.returns-then-are_full
returns-then-are_full c =
    λ e. stopped_at c.args.search.now.store.now.design c.args.asked.now.kind c.args.asked.now.count c.args.asked.now.each c.args.most c.args.rows.now c.requires.rows
    c.loop-row.row-index c.row-item.result c.loop-row-test.true c.row-item.is
    c.as_slice.result.now c.loop-row.kept.items c.as_slice.ensures.value c.loop-row.invariant
    (c.are_full.ensures.full c.if-are_full.true) (c.are_full.ensures.less c.if-are_full.true)

pub add_end-requires-clause-pin : goal.add_end-requires-clause-pin
add_end-requires-clause-pin c =
    row_end c.args.search.now.store.now.design c.args.asked.now.kind c.args.asked.now.count c.args.asked.now.each c.args.most c.args.rows.now c.requires.rows
    c.loop-row.row-index c.row-item.result c.loop-row-test.true c.row-item.is

pub loop-row-preserved : goal.loop-row-preserved
loop-row-preserved c =
    row_added c.args.search.now.store.now.design c.args.asked.now.kind c.args.asked.now.count c.args.asked.now.each c.args.most c.args.rows.now c.requires.rows
    c.loop-row.row-index c.row-item.result c.loop-row-test.true c.row-item.is
    c.loop-row.kept.items c.add_end.new.kept.items c.loop-row.invariant c.in_ok-add_end.ensures

pub returns : goal.returns
returns c =
    λ e. ended_at c.args.search.now.store.now.design c.args.asked.now.kind c.args.asked.now.count c.args.asked.now.each c.args.most c.args.rows.now c.requires.rows
    c.loop-row.row-index c.loop-row.kept.items c.loop-row-test.false c.loop-row.invariant e
