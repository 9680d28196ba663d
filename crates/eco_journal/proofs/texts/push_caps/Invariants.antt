use Rattle.std.proofs.Common.{◌≡◌, ◌++◌, drop}
use Rattle.std.specs.List.{flat_map}
use Rattle.std.specs.String.{string_bytes}
use Rattle.timing_defs.specs.Output.{cap_text}
use Rattle.eco_journal.proofs.texts.push_caps.Given as goal

abbrev pub invariant-loop-cap : goal.invariant-loop-cap
invariant-loop-cap l =
    string_bytes l.out ++ flat_map cap_text (drop l.cap-index l.caps) ≡ string_bytes l.initial.out ++ flat_map cap_text l.caps
