use Rattle.std.proofs.Common.{◌≡◌, ◌++◌, drop}
use Rattle.std.specs.List.{flat_map}
use Rattle.std.specs.String.{string_bytes}
use Rattle.timing_defs.specs.Output.{word}
use Rattle.eco_journal.proofs.texts.push_names.Given as goal

abbrev pub invariant-loop-name : goal.invariant-loop-name
invariant-loop-name l =
    string_bytes l.out ++ flat_map word (drop l.name-index l.names) ≡ string_bytes l.initial.out ++ flat_map word l.names
