use Rattle.std.proofs.Common.{◌≡◌, ◌++◌, drop}
use Rattle.std.specs.List.{flat_map}
use Rattle.timing_defs.specs.Output.{res_text}
use Rattle.report_text.proofs.nets.push_resistors.Given as goal

abbrev pub invariant-loop-resistor : goal.invariant-loop-resistor
invariant-loop-resistor l =
    l.out.items ++ flat_map res_text (drop l.resistor-index l.resistors) ≡ l.initial.out.items ++ flat_map res_text l.resistors
