-- The starts and steps of paths that an edit leaves: to nodes that are no seeds, with the delays that they had.

use Rattle.std.specs.Prelude.{ℤ, ℕ, Bool, true, false, not, ◌&&◌, List, Option, Some, None}
use Rattle.std.specs.Option.{option_map_or}
use Rattle.std.specs.Ordering.{int_eq}
use Rattle.timing_defs.specs.declared.kinds.Split.{Split}
use Rattle.timing_defs.specs.declared.design.Design.{Design}
use Rattle.timing_rules.specs.Paths.{Named, delay_between}
use Rattle.netlist_store.specs.Numbering.{Stored}
use Rattle.pin_graph.specs.Nodes.{number_at}
use Rattle.edit_reach.specs.Reach.{is_in}
use Rattle.bounded_changes.specs.Agreed.{Steps}

-- a name is of a node of the edited store that is not among the seeds
abbrev pub is_unseeded : Stored → List ℕ → Named → Bool
is_unseeded s seeds n = option_map_or (λ k. not (is_in seeds k)) (number_at s n.0 n.1) false

-- two times are the same, or neither is there
abbrev pub same_time : Option ℤ → Option ℤ → Bool
same_time None None = true
same_time None (Some y) = false
same_time (Some x) None = false
same_time (Some x) (Some y) = int_eq x y

abbrev pub steps_left : Design → Stored → Split → List ℕ → Steps
steps_left d s split seeds None n = is_unseeded s seeds n
steps_left d s split seeds (Some m) n = is_unseeded s seeds n && same_time (delay_between s.design split m n) (delay_between d split m n)
