use Rattle.std.proofs.Common.{◌≡◌, ◌++◌, drop}
use Rattle.std.specs.List.{flat_map}
use Rattle.timing_defs.specs.Output.{pin_report_text}
use Rattle.report_text.proofs.nets.push_pins.Given as goal

abbrev pub invariant-loop-pin : goal.invariant-loop-pin
invariant-loop-pin l =
    l.out.items ++ flat_map pin_report_text (drop l.pin-index l.pins) ≡ l.initial.out.items ++ flat_map pin_report_text l.pins
