use Rattle.std.proofs.Common.{◌≡◌, take}
use Rattle.required_engine.proofs.tables.first_rows.Given as goal

abbrev pub invariant-loop-at : goal.invariant-loop-at
invariant-loop-at l = l.first ≡ take l.at l.rows
