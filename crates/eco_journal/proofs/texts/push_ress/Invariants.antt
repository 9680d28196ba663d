use Rattle.std.proofs.Common.{◌≡◌, ◌++◌, drop}
use Rattle.std.specs.List.{flat_map}
use Rattle.std.specs.String.{string_bytes}
use Rattle.timing_defs.specs.Output.{res_text}
use Rattle.eco_journal.proofs.texts.push_ress.Given as goal

abbrev pub invariant-loop-res : goal.invariant-loop-res
invariant-loop-res l =
    string_bytes l.out ++ flat_map res_text (drop l.res-index l.ress) ≡ string_bytes l.initial.out ++ flat_map res_text l.ress
