-- Resistors in the order of a walk from a root: each leads from a node that was met to one that was not.

use Rattle.std.specs.Prelude.{ℕ, ◌≡◌, ◌<◌, Bool, true, not, ◌||◌, if◌then◌else◌, List, take, length, get_or, pos}
use Rattle.std.specs.List.{list_any}
use Rattle.timing_defs.specs.declared.parasitics.RcNode.{RcNode}
use Rattle.timing_defs.specs.declared.parasitics.RcNode.TheVariants.{Pin as rc_pin, Inner as rc_inner}
use Rattle.timing_defs.specs.declared.parasitics.RcRes.{RcRes}
use Rattle.timing_defs.specs.Wires.{same_rc, touches}

-- a node is the root, or at an end of one of some resistors
abbrev pub is_met : List ℕ → List RcRes → RcNode → Bool
is_met root ress node = same_rc node (rc_pin root) || list_any (λ r. touches r node) ress

-- one end of a resistor was met, and the other was not
abbrev pub leads_on : List ℕ → List RcRes → RcRes → Bool
leads_on root before r = (if is_met root before r.a then not (is_met root before r.b) else is_met root before r.b)

-- stands for a resistor that is not there
abbrev pub no_resistor : RcRes
no_resistor = record { a = rc_inner 0; b = rc_inner 0; res = record { 0 = pos 0 } }

abbrev pub resistor_at : List RcRes → ℕ → RcRes
resistor_at ress k = get_or ress k no_resistor

-- the first of some resistors lead on, one after the other
abbrev pub IsWalkTo : List ℕ → List RcRes → ℕ → Type 0
IsWalkTo root ress count = (k : ℕ) → k < count → leads_on root (take k ress) (resistor_at ress k) ≡ true
