-- Names of constraints that stand for nothing in the design (SDC).

use Rattle.std.specs.Prelude.{ℕ, Bool, true, ◌&&◌, List, ◌++◌, map, filter, is_none}
use Rattle.std.specs.List.{filter_map, flat_map}
use Rattle.timing_defs.specs.declared.kinds.Dir.{Dir}
use Rattle.timing_defs.specs.declared.kinds.Dir.TheVariants.{Input, Output}
use Rattle.timing_defs.specs.declared.constraints.Object.{Object}
use Rattle.timing_defs.specs.declared.constraints.Object.TheVariants.{Clock as clock_object, Port as port_object, Pin as pin_object, Cell as cell_object, Any}
use Rattle.timing_defs.specs.declared.design.Design.{Design}
use Rattle.timing_defs.specs.Edits.{has_colon}
use Rattle.timing_rules.specs.Checks.{port_named, is_port, is_inst, is_pin, is_any, not_ports, dangling_exception}

-- whether what an object stands for is there; a clock always is
abbrev pub is_there : Design → Dir → Object → Bool
is_there d dir (clock_object name) = true
is_there d dir (port_object name) = is_port d dir name
is_there d dir (pin_object name) = has_colon name && is_pin d name
is_there d dir (cell_object name) = is_inst d name
is_there d dir (Any name) = is_any d dir name

abbrev pub word_of : Object → List ℕ
word_of (clock_object name) = name
word_of (port_object name) = name
word_of (pin_object name) = name
word_of (cell_object name) = name
word_of (Any name) = name

-- ports that are not there or have the wrong direction
abbrev pub dangling_ports : Design → List (List ℕ)
dangling_ports d =
    not_ports d Input (filter_map (λ clock. clock.port) d.constraints.clocks)
    ++ not_ports d Input (map (λ i. i.port) d.constraints.inputs)
    ++ not_ports d Input (map (λ s. s.port) d.constraints.slews)
    ++ not_ports d Output (map (λ o. o.port) d.constraints.outputs)
    ++ filter (λ name. is_none (port_named d name)) (map (λ l. l.port) d.constraints.loads)

-- all names of constraints that stand for nothing
abbrev pub dangling_names : Design → List (List ℕ)
dangling_names d = dangling_ports d ++ flat_map (dangling_exception d) d.constraints.exceptions
