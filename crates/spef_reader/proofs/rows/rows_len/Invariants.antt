use Rattle.std.proofs.Common.{◌≡◌, ◌+◌, drop}
use Rattle.std.specs.List.{prefix_len}
use Rattle.spef_reader.specs.Faults.{is_of_net}
use Rattle.spef_reader.proofs.rows.rows_len.Given as goal

abbrev pub invariant-loop-i : goal.invariant-loop-i
invariant-loop-i l = l.i + prefix_len is_of_net (drop l.i l.events) ≡ prefix_len is_of_net l.events
