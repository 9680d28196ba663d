-- The sizes of instances by their names.

use Rattle.std.specs.Prelude.{ℕ, List, []}
use Rattle.std.specs.List.{flat_map, filter_map}
use Rattle.std.specs.Option.{option_map_or}
use Rattle.timing_defs.specs.declared.design.Design.{Design}
use Rattle.timing_defs.specs.declared.reports.Candidate.{Candidate}
use Rattle.timing_defs.specs.Edits.{inst_named}
use Rattle.timing_rules.specs.SizeAdvice.{sizes_of}

-- the sizes of the instance of a name; none where no instance has it
abbrev pub sizes_under : Design → List ℕ → List Candidate
sizes_under d name = option_map_or (sizes_of d) (inst_named d.insts name) []

abbrev pub sizes_of_all : Design → List (List ℕ) → List Candidate
sizes_of_all d names = flat_map (sizes_of d) (filter_map (inst_named d.insts) names)
