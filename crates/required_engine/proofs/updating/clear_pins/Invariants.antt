use Rattle.std.proofs.Common.{ℕ, ◌≡◌, length, take}
use Rattle.std.specs.Prelude.{if◌then◌else◌}
use Rattle.timing_rules.specs.Required.{empty_back}
use Rattle.pin_graph.specs.Nodes.{pin_under}
use Rattle.required_engine.specs.Updated.{is_in, back_at}
use Rattle.required_engine.proofs.updating.clear_pins.Given as goal

abbrev pub invariant-loop-pin : goal.invariant-loop-pin
invariant-loop-pin l = record {
  count : length l.rows ≡ length l.fn.rows;
  rows : (n : ℕ) → back_at l.rows n ≡ (if is_in (take l.pin-index l.pins) (pin_under n) then empty_back else back_at l.fn.rows n);
}
