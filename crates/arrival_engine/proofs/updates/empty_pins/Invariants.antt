use Rattle.std.proofs.Common.{ℕ, ◌≡◌, ◌<◌, get_or, length, take}
use Rattle.std.specs.Prelude.{nat_eq, if◌then◌else◌}
use Rattle.std.specs.List.{list_any}
use Rattle.timing_rules.specs.Rows.{empty_row}
use Rattle.pin_graph.specs.Nodes.{pin_under}
use Rattle.arrival_engine.proofs.updates.empty_pins.Given as goal

abbrev pub invariant-loop-pin : goal.invariant-loop-pin
invariant-loop-pin l = record {
  long : length l.rows ≡ length l.fn.rows;
  rows : (n : ℕ) → n < length l.fn.rows → get_or l.rows n empty_row ≡ (if list_any (nat_eq (pin_under n)) (take l.pin-index l.pins) then empty_row else get_or l.fn.rows n empty_row);
}
