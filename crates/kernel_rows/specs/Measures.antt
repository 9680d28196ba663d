-- The tests of what a tree can be asked for: listed pins, and numbers within the limit.

use Rattle.std.specs.Prelude.{ℕ, Bool, ◌&&◌, List}
use Rattle.std.specs.List.{list_all}
use Rattle.timing_defs.specs.declared.parasitics.RcNode.TheVariants.{Pin as rc_pin}
use Rattle.timing_defs.specs.declared.parasitics.RcRes.{RcRes}
use Rattle.timing_defs.specs.declared.parasitics.RcCap.{RcCap}
use Rattle.timing_defs.specs.declared.parasitics.NetRc.{NetRc}
use Rattle.timing_defs.specs.declared.rows.PinCap.{PinCap}
use Rattle.rc_tree.specs.Trees.{is_amount, is_listed_pin}

abbrev pub are_ends_listed : List PinCap → List RcRes → Bool
are_ends_listed pins ress = list_all (λ r. is_listed_pin pins r.a && is_listed_pin pins r.b) ress

abbrev pub are_nodes_listed : List PinCap → List RcCap → Bool
are_nodes_listed pins caps = list_all (λ c. is_listed_pin pins c.node) caps

abbrev pub are_resistances : List RcRes → Bool
are_resistances ress = list_all (λ r. is_amount r.res.0) ress

abbrev pub are_capacitances : List RcCap → Bool
are_capacitances caps = list_all (λ c. is_amount c.cap.0) caps

abbrev pub are_pins_light : List PinCap → Bool
are_pins_light pins = list_all (λ p. is_amount p.cap.0) pins

-- each pin that the net names, and the root, is listed
abbrev pub is_named : NetRc → List ℕ → List PinCap → Bool
is_named net root pins = (are_ends_listed pins net.ress && are_nodes_listed pins net.caps) && is_listed_pin pins (rc_pin root)

-- each number is from 0 to the limit
abbrev pub is_limited : NetRc → List PinCap → Bool
is_limited net pins =
    (are_resistances net.ress && are_capacitances net.caps) && (are_pins_light pins && is_amount net.lump.0)
