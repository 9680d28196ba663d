use Rattle.std.proofs.Common.{◌≡◌, ◌++◌, drop}
use Rattle.std.specs.List.{flat_map}
use Rattle.timing_defs.specs.Output.{input_text}
use Rattle.report_text.proofs.nets.push_inputs.Given as goal

abbrev pub invariant-loop-input : goal.invariant-loop-input
invariant-loop-input l =
    l.out.items ++ flat_map input_text (drop l.input-index l.inputs) ≡ l.initial.out.items ++ flat_map input_text l.inputs
