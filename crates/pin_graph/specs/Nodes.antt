-- Nodes by numbers (own): the rise node of the pin with the number `n` has the number `2 n`, its fall
-- node `2 n + 1`. A number whose pin is a gap is no node.

use Rattle.std.specs.Prelude.{ℕ, List, ◌+◌, ◌*◌, ◌/◌, ◌%◌, nat_eq, if◌then◌else◌, length, Option, option_map}
use Rattle.timing_defs.specs.declared.kinds.Tran.{Tran}
use Rattle.timing_defs.specs.declared.kinds.Tran.TheVariants.{Rise, Fall}
use Rattle.timing_defs.specs.Netlist.{Node}
use Rattle.netlist_store.specs.Numbering.{Stored, number_of, pin_numbered}

abbrev pub tran_place : Tran → ℕ
tran_place Rise = 0
tran_place Fall = 1

abbrev pub node_number : ℕ → Tran → ℕ
node_number pin tran = 2 * pin + tran_place tran

abbrev pub pin_under : ℕ → ℕ
pin_under node = node / 2

abbrev pub tran_under : ℕ → Tran
tran_under node = (if nat_eq (node % 2) 0 then Rise else Fall)

-- the node of a number; none of a gap
abbrev pub node_at : Stored → ℕ → Option Node
node_at s node = option_map (λ pin. record { pin = pin; tran = tran_under node }) (pin_numbered s (pin_under node))

-- the number of a pin's node
abbrev pub number_at : Stored → List ℕ → Tran → Option ℕ
number_at s name tran = option_map (λ pin. node_number pin tran) (number_of s.pins name)

-- a number above those of all nodes
abbrev pub node_bound : Stored → ℕ
node_bound s = 2 * length s.pins
