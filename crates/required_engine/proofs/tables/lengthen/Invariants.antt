use Rattle.std.proofs.Common.{◌≡◌, ◌-◌, ◌≤◌, ◌++◌, replicate, length}
use Rattle.timing_rules.specs.Required.{empty_back}
use Rattle.required_engine.proofs.tables.lengthen.Given as goal

abbrev pub invariant-loop-at : goal.invariant-loop-at
invariant-loop-at l = (l.rows ≡ l.fn.rows ++ replicate (l.at - length l.fn.rows) empty_back) × (length l.fn.rows ≤ l.at)
