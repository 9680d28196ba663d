use Rattle.std.proofs.Common.{◌≡◌, ◌++◌, drop}
use Rattle.std.specs.List.{flat_map}
use Rattle.timing_defs.specs.Output.{cap_text}
use Rattle.report_text.proofs.nets.push_caps.Given as goal

abbrev pub invariant-loop-cap : goal.invariant-loop-cap
invariant-loop-cap l =
    l.out.items ++ flat_map cap_text (drop l.cap-index l.caps) ≡ l.initial.out.items ++ flat_map cap_text l.caps
