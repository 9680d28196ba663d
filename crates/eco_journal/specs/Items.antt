-- The items of an edit `set_parasitics`: `c NODE AF`, a capacitance to ground in aF, and
-- `r NODE NODE MO`, a resistance in mΩ. A node is a pin word, or `#` and the number of an inner
-- node below 2^32 (own; lumped and tree-like nets as in IEEE 1481).
use Rattle.std.specs.Prelude.{ℕ, List, [], ◌∷◌, ◌++◌, Bool, true, false, ◌==◌, ◌&&◌, if◌then◌else◌, codes, Option, Some, None, is_some, Result, Ok, Err, pos}
use Rattle.std.specs.Str.{bytes_eq}
use Rattle.timing_defs.specs.Names.{is_name}
use Rattle.timing_defs.specs.declared.parasitics.RcNode.{RcNode}
use Rattle.timing_defs.specs.declared.parasitics.RcNode.TheVariants.{Pin, Inner}
use Rattle.timing_defs.specs.declared.parasitics.RcCap.{RcCap}
use Rattle.timing_defs.specs.declared.parasitics.RcRes.{RcRes}
use Rattle.timing_defs.specs.declared.parasitics.NetRc.{NetRc}
use Rattle.eco_journal.specs.declared.stops.Stop.{Stop}
use Rattle.eco_journal.specs.declared.stops.Stop.TheVariants.{Unfit, Flawed}
use Rattle.eco_journal.specs.declared.items.Item.{Item}
use Rattle.eco_journal.specs.declared.items.Item.TheVariants.{Cap, Res}
use Rattle.eco_journal.specs.Lines.{Part, part_of}
use Rattle.eco_journal.specs.Words.{is_word, number_of, within}
use Rattle.eco_journal.specs.Stops.{or_flawed}

-- the greatest capacitance in aF, and the greatest resistance in mΩ
abbrev pub most : ℕ
most = 1000000000000

-- the number behind `#`, where a word begins so
abbrev pub inner : List ℕ → Option (List ℕ)
inner [] = None
inner (b ∷ bs) = (if b == 35 then Some bs else None)

abbrev pub is_numbered : Option (List ℕ) → Bool
is_numbered None = true
is_numbered (Some digits) = is_some (number_of digits)

-- a pin word, or `#` and a number
abbrev pub is_node : Part → Bool
is_node word = is_word word && is_numbered (inner word.text)

abbrev pub inner_node : ℕ → Option ℕ → Result RcNode Stop
inner_node at None = Err (Flawed at)
inner_node at (Some k) = Ok (Inner k)

abbrev pub pin_node : List ℕ → Result RcNode Stop
pin_node text = (if is_name text then Ok (Pin text) else Err Unfit)

abbrev pub node_from : Part → Option (List ℕ) → Result RcNode Stop
node_from word None = pin_node word.text
node_from word (Some digits) = inner_node word.at (within 0 4294967295 (number_of digits))

-- the node that a word names
abbrev pub node_of : Part → Result RcNode Stop
node_of word = node_from word (inner word.text)

-- a whole number of aF or mΩ
abbrev pub size_of : Part → Result ℕ Stop
size_of word = or_flawed word.at (within 0 most (number_of word.text))

-- an item by its words
pub data ItemWords : Type 0 where
  cap : Part → Part → ItemWords
  res : Part → Part → Part → ItemWords

abbrev pub item_of : Item → ItemWords
item_of (Cap node size) = cap (part_of node) (part_of size)
item_of (Res a b size) = res (part_of a) (part_of b) (part_of size)

-- what may stand next; a capacitance may stand where `caps` is true
pub data Place : Type 0 where
  item : (caps : Bool) → Place
  cap_node : Place
  cap_size : Part → Place
  res_from : Place
  res_to : Part → Place
  res_size : Part → Part → Place

-- the items that words write, behind others; where they may not be mixed, the capacitances come first
unfoldable pub cut_items : Bool → Place → List ItemWords → List Part → Option (List ItemWords)
cut_items mixed (item caps) items [] = Some items
cut_items mixed (item caps) items (w ∷ ws) =
    (if bytes_eq w.text (codes "c") && caps then cut_items mixed cap_node items ws else
    (if bytes_eq w.text (codes "r") then cut_items mixed res_from items ws else None))
cut_items mixed cap_node items [] = None
cut_items mixed cap_node items (w ∷ ws) = (if is_node w then cut_items mixed (cap_size w) items ws else None)
cut_items mixed (cap_size node) items [] = None
cut_items mixed (cap_size node) items (w ∷ ws) =
    (if is_word w then cut_items mixed (item true) (items ++ cap node w ∷ []) ws else None)
cut_items mixed res_from items [] = None
cut_items mixed res_from items (w ∷ ws) = (if is_node w then cut_items mixed (res_to w) items ws else None)
cut_items mixed (res_to a) items [] = None
cut_items mixed (res_to a) items (w ∷ ws) = (if is_node w then cut_items mixed (res_size a w) items ws else None)
cut_items mixed (res_size a b) items [] = None
cut_items mixed (res_size a b) items (w ∷ ws) =
    (if is_word w then cut_items mixed (item mixed) (items ++ res a b w ∷ []) ws else None)

abbrev pub cap_at : RcNode → Result ℕ Stop → Result RcCap Stop
cap_at node (Ok size) = Ok (record { node = node; cap = record { 0 = pos size } })
cap_at node (Err stop) = Err stop

abbrev pub cap_on : Part → Result RcNode Stop → Result RcCap Stop
cap_on size (Ok node) = cap_at node (size_of size)
cap_on size (Err stop) = Err stop

-- a capacitance, or the first of its words that is flawed
abbrev pub cap_of : Part → Part → Result RcCap Stop
cap_of node size = cap_on size (node_of node)

abbrev pub res_at : RcNode → RcNode → Result ℕ Stop → Result RcRes Stop
res_at a b (Ok size) = Ok (record { a = a; b = b; res = record { 0 = pos size } })
res_at a b (Err stop) = Err stop

abbrev pub res_to_node : Part → RcNode → Result RcNode Stop → Result RcRes Stop
res_to_node size a (Ok b) = res_at a b (size_of size)
res_to_node size a (Err stop) = Err stop

abbrev pub res_from_node : Part → Part → Result RcNode Stop → Result RcRes Stop
res_from_node b size (Ok a) = res_to_node size a (node_of b)
res_from_node b size (Err stop) = Err stop

-- a resistance, or the first of its words that is flawed
abbrev pub res_of : Part → Part → Part → Result RcRes Stop
res_of a b size = res_from_node b size (node_of a)

abbrev pub with_cap : NetRc → Result RcCap Stop → Result NetRc Stop
with_cap rc (Ok c) = Ok (record rc { caps = rc.caps ++ c ∷ [] })
with_cap rc (Err stop) = Err stop

abbrev pub with_res : NetRc → Result RcRes Stop → Result NetRc Stop
with_res rc (Ok r) = Ok (record rc { ress = rc.ress ++ r ∷ [] })
with_res rc (Err stop) = Err stop

abbrev pub with_item : NetRc → ItemWords → Result NetRc Stop
with_item rc (cap node size) = with_cap rc (cap_of node size)
with_item rc (res a b size) = with_res rc (res_of a b size)

-- the parasitics with the items, each kind in order, or the first flawed word
unfoldable pub with_items : Result NetRc Stop → List ItemWords → Result NetRc Stop
with_items told [] = told
with_items (Err stop) (i ∷ is) = with_items (Err stop) is
with_items (Ok rc) (i ∷ is) = with_items (with_item rc i) is

abbrev pub bare : List ℕ → NetRc
bare net = record { net = net; caps = []; ress = []; lump = record { 0 = pos 0 } }

abbrev pub built : List ℕ → Option (List ItemWords) → Result NetRc Stop
built net None = Err Unfit
built net (Some items) = with_items (Ok (bare net)) items

-- the parasitics that the words behind a net's name write
abbrev pub rc_of : Bool → List ℕ → List Part → Result NetRc Stop
rc_of mixed net words = built net (cut_items mixed (item true) [] words)

-- a word stands first, and passes
abbrev pub first_fits : (Part → Bool) → List Part → Bool
first_fits test [] = false
first_fits test (w ∷ ws) = test w
