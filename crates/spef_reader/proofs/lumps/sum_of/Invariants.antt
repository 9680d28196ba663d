use Rattle.std.proofs.Common.{◌≡◌, ◌≤◌, ◌*◌, Some, drop}
use Rattle.std.specs.Prelude.{IfSome}
use Rattle.spef_reader.specs.Faults.{sum_from}
use Rattle.spef_reader.proofs.lumps.sum_of.Given as goal

abbrev pub invariant-loop-event : goal.invariant-loop-event
invariant-loop-event l =
    (sum_from l.sum (drop l.event-index l.rows) ≡ sum_from (Some 0) l.rows) × IfSome l.sum (λ n. n ≤ 1000000000000 * l.event-index)
