-- What the names, nodes and units of a text stand for where they are written (IEEE 1481, "Name map
-- definition", "Internal definition").
use Rattle.std.specs.Prelude.{ℕ, List, ◌∷◌, ◌++◌, Bool, false, ◌&&◌, if◌then◌else◌, Option, Some, None, option_map, option_and_then, is_some}
use Rattle.std.specs.Str.{bytes_eq}
use Rattle.sta_units.specs.Decimal.{number_on}
use Rattle.timing_defs.specs.Names.{is_name}
use Rattle.timing_defs.specs.declared.parasitics.RcNode.{RcNode}
use Rattle.timing_defs.specs.declared.parasitics.RcNode.TheVariants.{Pin, Inner}
use Rattle.sta_text.specs.Bytes.{begins}
use Rattle.spef_reader.specs.declared.context.Context.{Context}
use Rattle.spef_reader.specs.Names.{told}
use Rattle.spef_reader.specs.Words.{Parts, alone, joined, parts_of, spelled, index_of, is_inner}

-- the word of a name, by way of the name map where it is an index
abbrev pub name_word : Context → List ℕ → Option (List ℕ)
name_word c word = (if begins 42 word then told c.names (index_of word) else Some word)

abbrev pub named : List ℕ → Option (List ℕ)
named name = (if is_name name then Some name else None)

abbrev pub spelled_name : Context → List ℕ → Option (List ℕ)
spelled_name c word = named (spelled c.header.bus false word)

-- the name that a word gives; none where its index is not in the name map
abbrev pub name_of : Context → List ℕ → Option (List ℕ)
name_of c word = option_and_then (spelled_name c) (name_word c word)

abbrev pub is_net : Option (List ℕ) → List ℕ → Bool
is_net None name = false
is_net (Some net) name = bytes_eq net name

-- an inner node of this net, or a pin of an instance; the net's name comes first
abbrev pub joined_node : Option (List ℕ) → List ℕ → Option (List ℕ) → Option (List ℕ) → Option RcNode
joined_node net right None pin = None
joined_node net right (Some left) None = None
joined_node net right (Some left) (Some pin) =
    Some (if is_net net left && is_inner right then Inner (number_on 0 right) else Pin (left ++ 58 ∷ pin))

abbrev pub node_from : Context → Option (List ℕ) → Parts → Option RcNode
node_from c net (alone word) = option_map Pin (name_of c word)
node_from c net (joined left right) = joined_node net right (name_of c left) (name_of c right)

abbrev pub node_between : Context → Option (List ℕ) → List ℕ → Option ℕ → Option RcNode
node_between c net word None = None
node_between c net word (Some delimiter) = node_from c net (parts_of delimiter word)

-- the node that a word gives in a net of this name; none where an index is not in the name map, or
-- the header has no delimiter
abbrev pub node_of : Context → Option (List ℕ) → List ℕ → Option RcNode
node_of c net word = node_between c net word c.header.delimiter

-- a node's word has an index that is not in the name map
abbrev pub is_unknown : Context → Option RcNode → Bool
is_unknown c (Some node) = false
is_unknown c None = is_some c.header.delimiter
