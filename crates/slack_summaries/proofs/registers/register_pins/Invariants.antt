use Rattle.std.proofs.Common.{◌≡◌, filter}
use Rattle.std.specs.List.{range_with_len}
use Rattle.slack_summaries.specs.Registers.{clocks_pin}
use Rattle.slack_summaries.proofs.registers.register_pins.Given as goal

abbrev pub invariant-loop-pin : goal.invariant-loop-pin
invariant-loop-pin l = l.pins ≡ filter (clocks_pin l.store) (range_with_len 0 l.pin)
