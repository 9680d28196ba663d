-- The faults of a text of parasitics, each with its place. Of two nets of one name the second is at
-- fault. A check that needs something faulty is not made.
use Rattle.std.specs.Prelude.{ℕ, ◌+◌, List, [], ◌∷◌, ◌++◌, Bool, true, false, ◌||◌, nat_lt, take, drop, if◌then◌else◌, Option, Some, None}
use Rattle.std.specs.List.{list_all, list_any, prefix_len}
use Rattle.sta_units.specs.Numbers.{limit}
use Rattle.timing_defs.specs.declared.codes.Code.{Code}
use Rattle.timing_defs.specs.declared.codes.Code.TheVariants.{SpefUnknownName, SpefBadNumber, SpefDoubleNet}
use Rattle.timing_defs.specs.declared.parasitics.RcNode.{RcNode}
use Rattle.timing_defs.specs.declared.parasitics.RcNode.TheVariants.{Pin, Inner}
use Rattle.sta_text.specs.declared.faults.Wrong.{Wrong}
use Rattle.sta_text.specs.Names.{stands}
use Rattle.spef_reader.specs.declared.events.Event.{Event}
use Rattle.spef_reader.specs.declared.events.Event.TheVariants.{Net, Total, Connection, Ground, Coupling, Resistor, End, Fault}

abbrev pub wrong : Code → ℕ → Wrong
wrong code at = record { code = code; at = at }

-- the faults that stand in one token, and the one that ended the reading
unfoldable pub token_faults : List Event → List Wrong
token_faults [] = []
token_faults (Fault w ∷ es) = w ∷ token_faults es
token_faults (e ∷ es) = token_faults es

-- a set of names with one more
abbrev pub with_one : List (List ℕ) → List ℕ → List (List ℕ)
with_one names name = (if stands names name then names else names ++ name ∷ [])

-- a net twice, where these nets stand before
unfoldable pub double_nets : List (List ℕ) → List Event → List Wrong
double_nets names [] = []
double_nets names (Net at (Some name) place ∷ es) =
    (if stands names name then wrong SpefDoubleNet place ∷ double_nets names es else double_nets (with_one names name) es)
double_nets names (e ∷ es) = double_nets names es

-- what stands behind the name of a net, up to its end
unfoldable pub is_of_net : Event → Bool
is_of_net (Net at name place) = false
is_of_net End = false
is_of_net e = true

abbrev pub rows_of : List Event → List Event
rows_of es = take (prefix_len is_of_net es) es

abbrev pub begins_end : List Event → Bool
begins_end (End ∷ es) = true
begins_end es = false

-- the section of a net is whole
abbrev pub is_whole_net : List Event → Bool
is_whole_net es = begins_end (drop (prefix_len is_of_net es) es)

abbrev pub is_capacitance : Event → Bool
is_capacitance (Ground a size) = true
is_capacitance (Coupling at a b size) = true
is_capacitance e = false

abbrev pub is_coupling : Event → Bool
is_coupling (Coupling at a b size) = true
is_coupling e = false

abbrev pub is_resistance : Event → Bool
is_resistance (Resistor a b size) = true
is_resistance e = false

abbrev pub plus : ℕ → Option ℕ → Option ℕ
plus sum None = None
plus sum (Some size) = Some (sum + size)

abbrev pub sum_on : Option ℕ → Option ℕ → Option ℕ
sum_on None size = None
sum_on (Some sum) size = plus sum size

-- the sum of all capacitances, where each is known; so much stands before
unfoldable pub sum_from : Option ℕ → List Event → Option ℕ
sum_from sum [] = sum
sum_from sum (Ground a size ∷ es) = sum_from (sum_on sum size) es
sum_from sum (Coupling at a b size ∷ es) = sum_from (sum_on sum size) es
sum_from sum (e ∷ es) = sum_from sum es

-- the total that is written behind the net's name
unfoldable pub total_of : List Event → Option ℕ
total_of [] = None
total_of (Total size ∷ es) = size
total_of (e ∷ es) = total_of es

-- the capacitance that belongs to no node: without resistances the sum of the net's capacitances, or
-- its total where it has none
abbrev pub lump_of : List Event → Option ℕ
lump_of rows =
    (if list_any is_resistance rows then Some 0 else
    (if list_any is_capacitance rows then sum_from (Some 0) rows else total_of rows))

abbrev pub is_above : Option ℕ → Bool
is_above None = false
is_above (Some sum) = nat_lt limit sum

abbrev pub only_if : Bool → Wrong → List Wrong
only_if true w = w ∷ []
only_if false w = []

-- the pins among the nodes
abbrev pub with_node : List (List ℕ) → Option RcNode → List (List ℕ)
with_node pins (Some (Pin name)) = with_one pins name
with_node pins (Some (Inner k)) = pins
with_node pins None = pins

-- the pins that stand in connections or at resistances of a net, with these
unfoldable pub pins_on : List (List ℕ) → List Event → List (List ℕ)
pins_on pins [] = pins
pins_on pins (Connection a ∷ es) = pins_on (with_node pins a) es
pins_on pins (Resistor a b size ∷ es) = pins_on (with_node (with_node pins a) b) es
pins_on pins (e ∷ es) = pins_on pins es

-- a node of the net: a pin that stands in its connections or at its resistances, or an inner node
abbrev pub is_own : List (List ℕ) → RcNode → Bool
is_own pins (Pin name) = stands pins name
is_own pins (Inner k) = true

-- each node in connections and at resistances is known
abbrev pub is_clear : Event → Bool
is_clear (Connection None) = false
is_clear (Resistor None b size) = false
is_clear (Resistor (Some a) None size) = false
is_clear e = true

-- a capacitance between two nodes of which none is of the net
unfoldable pub strange_couplings : List (List ℕ) → List Event → List Wrong
strange_couplings pins [] = []
strange_couplings pins (Coupling at (Some a) (Some b) size ∷ es) =
    (if is_own pins a || is_own pins b then strange_couplings pins es
    else wrong SpefUnknownName at ∷ strange_couplings pins es)
strange_couplings pins (e ∷ es) = strange_couplings pins es

abbrev pub coupling_faults : List Event → List Wrong
coupling_faults rows = (if list_all is_clear rows then strange_couplings (pins_on [] rows) rows else [])

-- the faults of a whole net: a sum above the limit, named where the net's section begins, and
-- strange couplings
abbrev pub net_faults : ℕ → List Event → List Wrong
net_faults at rows = only_if (is_above (lump_of rows)) (wrong SpefBadNumber at) ++ coupling_faults rows

unfoldable pub nets_faults : List Event → List Wrong
nets_faults [] = []
nets_faults (Net at name place ∷ es) = (if is_whole_net es then net_faults at (rows_of es) else []) ++ nets_faults es
nets_faults (e ∷ es) = nets_faults es

-- all faults of a text
abbrev pub faults_of : List Event → List Wrong
faults_of es = token_faults es ++ double_nets [] es ++ nets_faults es
