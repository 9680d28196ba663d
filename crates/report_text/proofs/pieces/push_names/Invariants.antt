use Rattle.std.proofs.Common.{◌≡◌, ◌++◌, drop}
use Rattle.std.specs.List.{flat_map}
use Rattle.timing_defs.specs.Output.{word}
use Rattle.report_text.proofs.pieces.push_names.Given as goal

abbrev pub invariant-loop-name : goal.invariant-loop-name
invariant-loop-name l =
    l.out.items ++ flat_map word (drop l.name-index l.names) ≡ l.initial.out.items ++ flat_map word l.names
