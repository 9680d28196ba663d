use Rattle.std.proofs.Common.{◌≡◌, ◌++◌, drop}
use Rattle.std.specs.List.{flat_map}
use Rattle.timing_defs.specs.Output.{choice_text}
use Rattle.report_text.proofs.nets.push_choices.Given as goal

abbrev pub invariant-loop-choice : goal.invariant-loop-choice
invariant-loop-choice l =
    l.out.items ++ flat_map choice_text (drop l.choice-index l.choices) ≡ l.initial.out.items ++ flat_map choice_text l.choices
