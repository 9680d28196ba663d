use Rattle.std.proofs.Common.{◌≡◌, ◌++◌, drop}
use Rattle.std.specs.List.{flat_map}
use Rattle.timing_defs.specs.Output.{stage_text}
use Rattle.report_text.proofs.timed.push_stages.Given as goal

abbrev pub invariant-loop-stage : goal.invariant-loop-stage
invariant-loop-stage l =
    l.out.items ++ flat_map stage_text (drop l.stage-index l.stages) ≡ l.initial.out.items ++ flat_map stage_text l.stages
