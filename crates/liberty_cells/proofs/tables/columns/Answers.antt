use Rattle.std.proofs.Common.{sym, ◌∙◌}
use Rattle.liberty_cells.proofs.TablesLemmas.{add_next, add_none}
use Rattle.liberty_cells.proofs.tables.columns.Goals as goal

pub loop-at-preserved : goal.loop-at-preserved
loop-at-preserved c =
    rw c.in_ok-add_column.ensures
    (add_next c.loop-at.values c.loop-at.at c.args.count c.args.rows.now c.loop-at-test.true ∙ c.loop-at.invariant)

pub returns : goal.returns
returns c =
    sym (add_none c.loop-at.values c.loop-at.at c.args.count c.args.rows.now c.loop-at-test.false) ∙ c.loop-at.invariant
