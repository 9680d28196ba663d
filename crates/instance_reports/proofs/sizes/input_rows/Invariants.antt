use Rattle.std.proofs.Common.{◌≡◌, ◌++◌, map, filter, drop}
use Rattle.timing_defs.specs.declared.kinds.Dir.TheVariants.{Input}
use Rattle.timing_defs.specs.Netlist.{same_dir}
use Rattle.timing_rules.specs.Connections.{input_cap}
use Rattle.instance_reports.proofs.sizes.input_rows.Given as goal

abbrev pub invariant-loop-pin : goal.invariant-loop-pin
invariant-loop-pin l =
    l.rows ++ map input_cap (filter (λ p. same_dir p.dir Input) (drop l.pin-index l.pins)) ≡ map input_cap (filter (λ p. same_dir p.dir Input) l.pins)
