use Rattle.design_paths.proofs.RowReports.{rows_for, paths_for}
use Rattle.design_paths.proofs.worst.found_among.Goals as goal

pub add_ends-requires-clause-rows : goal.add_ends-requires-clause-rows
add_ends-requires-clause-rows c =
    rows_for c.search-search.result.store.now.design c.args.store.now.design c.args.asked.now.kind c.args.most c.in_ok-rows.rows c.as_slice.result.now
    (λ i. (c.search-search.ensures.store i).design) c.as_slice.ensures c.in_ok-rows.ensures

pub returns-then-branch : goal.returns-then-branch
returns-then-branch c =
    paths_for c.search-search.result.store.now.design c.args.store.now.design c.args.asked.now.kind c.args.asked.now.count c.args.asked.now.each
    c.add_ends.new.kept.items c.from_vec.result (λ i. (c.search-search.ensures.store i).design) c.from_vec.ensures
    (c.in_ok-add_ends.ensures c.if-branch.true)
