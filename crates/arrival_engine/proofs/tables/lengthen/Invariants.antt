use Rattle.std.proofs.Common.{◌≡◌, ◌-◌, ◌≤◌, ◌++◌, replicate, length}
use Rattle.timing_rules.specs.Rows.{empty_row}
use Rattle.arrival_engine.proofs.tables.lengthen.Given as goal

abbrev pub invariant-loop-at : goal.invariant-loop-at
invariant-loop-at l = (l.rows ≡ l.fn.rows ++ replicate (l.at - length l.fn.rows) empty_row) × (length l.fn.rows ≤ l.at)
