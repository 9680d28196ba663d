-- Why a design has no timing graph: a loop, or a clock network that is no tree (TAU 2015).

use Rattle.std.specs.Prelude.{◌≡◌, true, Some}
use Rattle.timing_defs.specs.declared.design.Design.{Design}
use Rattle.timing_defs.specs.declared.faults.Fault.{Fault}
use Rattle.timing_defs.specs.declared.faults.Fault.TheVariants.{Loop, ClockNotTree, Memory}
use Rattle.timing_rules.specs.Checks.{HasNoLoop, is_loop, clock_not_tree}

-- a graph is refused for a loop, else for the least pin at which the clock network is no tree, or for want of memory
abbrev pub IsGraphRefused : Design → Fault → Type 0
IsGraphRefused d (Loop names) = is_loop d names ≡ true
IsGraphRefused d (ClockNotTree name) = HasNoLoop d × (clock_not_tree d ≡ Some name)
IsGraphRefused d Memory = Unit {0}
IsGraphRefused d fault = ⊥
