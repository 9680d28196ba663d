-- Where a clock network is no tree: a pin that two of its arcs enter from different pins, or with
-- different senses.

use Rattle.std.specs.Prelude.{ℕ, ◌≡◌, nat_eq, Bool, false, true, not, ◌&&◌, if◌then◌else◌, List, [], ◌∷◌, ◌++◌, set, Contains, slice_index_or, Option, Some, None}
use Rattle.std.specs.Option.{unwrap_or}
use Rattle.timing_defs.specs.Netlist.{same_tran}
use Rattle.pin_graph.specs.declared.pin_arcs.PinArc.{PinArc}
use Rattle.pin_graph.specs.declared.trees.Entry.{Entry}
use Rattle.pin_graph.specs.Networks.{is_comb_arc}

-- a combinational arc between pins of the network
abbrev pub enters : List Bool → PinArc → Bool
enters network arc = is_comb_arc arc && slice_index_or network arc.from false && slice_index_or network arc.to false

abbrev pub entry_of : PinArc → Entry
entry_of arc = record { from = arc.from; keeps = same_tran arc.from_tran arc.to_tran }

abbrev pub same_flag : Bool → Bool → Bool
same_flag a b = (if a then b else not b)

abbrev pub same_entry : Entry → Entry → Bool
same_entry a b = nat_eq a.from b.from && same_flag a.keeps b.keeps

-- two arcs of the network enter a pin in different ways
pub record AreApart (network : List Bool) (arcs : List PinArc) (pin : ℕ) : Type 0 where
  pub one : PinArc
  pub one_in : Contains arcs one
  pub one_to : one.to ≡ pin
  pub one_enters : enters network one ≡ true
  pub two : PinArc
  pub two_in : Contains arcs two
  pub two_to : two.to ≡ pin
  pub two_enters : enters network two ≡ true
  pub differ : same_entry (entry_of one) (entry_of two) ≡ false

-- what is noted of one arc more: how the first arc entered its pin, and the pin where this one differs
abbrev pub first_entry : List (Option Entry) → PinArc → Entry
first_entry entries arc = unwrap_or (slice_index_or entries arc.to None) (entry_of arc)

abbrev pub noted_entries : List Bool → PinArc → List (Option Entry) → List (Option Entry)
noted_entries network arc entries = (if enters network arc then set entries arc.to (Some (first_entry entries arc)) else entries)

abbrev pub noted_apart : List Bool → PinArc → List (Option Entry) → List ℕ → List ℕ
noted_apart network arc entries apart =
    (if enters network arc && not (same_entry (first_entry entries arc) (entry_of arc)) then apart ++ arc.to ∷ [] else apart)

-- the pins that arcs of the network enter in different ways
pub record AreAllApart (network : List Bool) (arcs : List PinArc) (apart : List ℕ) : Type 0 where
  pub sound : (pin : ℕ) → Contains apart pin → AreApart network arcs pin
  pub all : (pin : ℕ) → AreApart network arcs pin → Contains apart pin
