-- The cell of the instance that has a pin, and its arcs between two nodes.

use Rattle.std.proofs.Common.{◌≡◌, ℕ, ◌≤◌, ℤ, unsigned_abs, Bool, true, false, not, ◌&&◌, List, [], ◌∷◌, filter, Option, None, Some, refl, sym, ap, ◌∙◌}
use Rattle.std.specs.Prelude.{is_some, find, nat_eq, option_map, option_and_then}
use Rattle.std.specs.List.{list_all}
use Rattle.std.proofs.lemmas.Bool.{false≢true, and_parts, and_from}
use Rattle.sta_units.specs.Numbers.{limit, is_within}
use Rattle.timing_defs.specs.declared.kinds.Split.{Split}
use Rattle.timing_defs.specs.declared.kinds.Split.TheVariants.{Early, Late}
use Rattle.timing_defs.specs.declared.kinds.Tran.{Tran}
use Rattle.timing_defs.specs.declared.library.Cell.{Cell}
use Rattle.timing_defs.specs.declared.library.CellArc.{CellArc}
use Rattle.timing_defs.specs.declared.kinds.Dir.TheVariants.{Output}
use Rattle.timing_defs.specs.declared.rows.NodeRow.{NodeRow}
use Rattle.timing_defs.specs.declared.edge_times.EdgeTime.{EdgeTime}
use Rattle.timing_defs.specs.Lookup.{is_well_formed}
use Rattle.timing_defs.specs.Netlist.{Pin, Node, pin_named, same_tran, cell_of, library_of}
use Rattle.timing_rules.specs.Clocking.{is_network}
use Rattle.timing_rules.specs.Rows.{library_arcs}
use Rattle.timing_defs.specs.RowTimes.{slew_in, times_in, time_on}
use Rattle.timing_rules.specs.Range.{within_some}
use Rattle.netlist_store.specs.Linked.{IsLinked}
use Rattle.timing_defs.specs.Documents.{is_cell_arc, is_pin_of, has_pin, is_library}
use Rattle.netlist_store.specs.Numbering.{Stored, name_at, is_number, inst_numbered, pin_numbered, owner_number, IsNumbered}
use Rattle.node_rows.specs.declared.arcs.ArcEnds.{ArcEnds}
use Rattle.node_rows.specs.declared.settings.NodeAt.{NodeAt}
use Rattle.node_rows.specs.declared.settings.Before.{Before}
use Rattle.node_rows.specs.Between.{is_between, has_tables}
use Rattle.node_rows.specs.Evaluation.{node_of, IsJoined, is_row_within}
use Rattle.timing_defs.proofs.Members.{some_is, found_in, all_in}
use Rattle.store_pins.proofs.PinNames.{arcs_good}
use Rattle.store_pins.proofs.PinLaws.{IsOwner, owner_told}
use Rattle.node_rows.proofs.AlongLaws.{bound_of, pin_of_node, tran_of_node, arcs_are}

-- a node's number stands for a pin
pub numbered_at : (s : Stored) (at : NodeAt) (node : Node) → node_of s at ≡ Some node → is_number s.pins at.pin ≡ true
numbered_at s at node e = by (name_at s.pins at.pin) refl
  where
    by : (o : Option (List ℕ)) → name_at s.pins at.pin ≡ o → is_some o ≡ true
    by None h =
        let f : pin_numbered s at.pin ≡ None = ap (option_and_then (pin_named s.design)) h in
        let g : None ≡ Some node.pin = sym f ∙ pin_of_node s at node e in
        absurd (cc)
    by (Some name) h = refl

pub to_number : (s : Stored) (at from : NodeAt) → IsJoined s at from → is_number s.pins at.pin ≡ true
to_number s at from j = numbered_at s at j.to j.there.told

pub from_number : (s : Stored) (at from : NodeAt) → IsJoined s at from → is_number s.pins from.pin ≡ true
from_number s at from j = numbered_at s from j.into.from j.into.there.told

-- the slew of a row within its limits
and_four : (a b c d : Bool) → (a && b && c && d) ≡ true → (a ≡ true) × (b ≡ true) × (c ≡ true) × (d ≡ true)
and_four true true true true h = (refl, refl, refl, refl)
and_four false b c d h = absurd (false≢true h)
and_four true false c d h = absurd (false≢true h)
and_four true true false d h = absurd (false≢true h)
and_four true true true false h = absurd (false≢true h)

row_parts : (row : NodeRow) → is_row_within row ≡ true → (within_some (slew_in Early row) ≡ true) × (within_some (slew_in Late row) ≡ true)
    × (list_all (λ (t : EdgeTime). is_within t.time.0) row.early ≡ true) × (list_all (λ (t : EdgeTime). is_within t.time.0) row.late ≡ true)
row_parts row h =
    and_four (within_some (slew_in Early row)) (within_some (slew_in Late row))
    (list_all (λ (t : EdgeTime). is_within t.time.0) row.early) (list_all (λ (t : EdgeTime). is_within t.time.0) row.late) h

pub slew_low : (split : Split) (row : NodeRow) (x : ℤ) → is_row_within row ≡ true → slew_in split row ≡ Some x → unsigned_abs x ≤ limit
slew_low split row x h e = bound_of x (sym (ap within_some e) ∙ by split)
  where
    by : (k : Split) → within_some (slew_in k row) ≡ true
    by Early = (row_parts row h).0
    by Late = (row_parts row h).1

pub times_low : (split : Split) (row : NodeRow) → is_row_within row ≡ true → list_all (λ (t : EdgeTime). is_within t.time.0) (times_in split row) ≡ true
times_low Early row h = (row_parts row h).2
times_low Late row h = (row_parts row h).3

pub time_low : (split : Split) (row : NodeRow) → is_row_within row ≡ true → (times : List EdgeTime) → times ≡ times_in split row
    → (edge : ℕ × Tran) (o : Option ℤ) → o ≡ time_on times edge → within_some o ≡ true
time_low split row h times same edge o e =
    ap within_some (e ∙ ap (λ ts. time_on ts edge) same) ∙ by (find (λ t. nat_eq t.clock edge.0 && same_tran t.tran edge.1) (times_in split row)) refl
  where
    by : (w : Option EdgeTime) → find (λ t. nat_eq t.clock edge.0 && same_tran t.tran edge.1) (times_in split row) ≡ w
        → within_some (option_map (λ (t : EdgeTime). t.time.0) w) ≡ true
    by None f = refl
    by (Some t) f =
        all_in (λ (x : EdgeTime). is_within x.time.0) (times_in split row) t (times_low split row h)
        (found_in (λ (x : EdgeTime). nat_eq x.clock edge.0 && same_tran x.tran edge.1) (times_in split row) t f)

-- the tables of a cell's arcs are well formed
has_both : (cell : Cell) (arcs : List CellArc) → list_all (is_cell_arc cell) arcs ≡ true → list_all has_tables arcs ≡ true
has_both cell [] h = refl
has_both cell (arc ∷ arcs) h =
    let parts = and_parts (is_cell_arc cell arc) (list_all (is_cell_arc cell) arcs) h in
    let one = and_parts (is_pin_of cell arc.from && has_pin cell Output arc.to && is_well_formed arc.delay) (is_well_formed arc.slew) parts.0 in
    let two = and_parts (is_pin_of cell arc.from && has_pin cell Output arc.to) (is_well_formed arc.delay) one.0 in
    and_from (has_tables arc) (list_all has_tables arcs) (and_from (is_well_formed arc.delay) (is_well_formed arc.slew) two.1 one.1) (has_both cell arcs parts.1)

module _ (s : Stored) (num : IsNumbered s) (linked : IsLinked s.design) (split : Split) (at : NodeAt) (b : Before) (j : IsJoined s at b.node)
    (inst : ℕ) (own : owner_number s at.pin ≡ Some inst) where
  owner : IsOwner s j.to.pin inst
  owner = owner_told s num linked at.pin inst j.to.pin (pin_of_node s at j.to j.there.told) own

  pub inst_there : is_number s.insts inst ≡ true
  inst_there = ap is_some owner.there.name

  library_good : is_library (library_of s.design split) ≡ true
  library_good = by split
    where
      by : (x : Split) → is_library (library_of s.design x) ≡ true
      by Early = linked.early
      by Late = linked.late

  module _ (cell : Cell) (is : option_and_then (cell_of s.design split) (inst_numbered s inst) ≡ Some cell) where
    cell_is : cell_of s.design split owner.inst ≡ Some cell
    cell_is = sym (ap (option_and_then (cell_of s.design split)) owner.there.inst) ∙ is

    pub tables_there : list_all has_tables cell.arcs ≡ true
    tables_there = has_both cell cell.arcs (arcs_good (library_of s.design split) library_good cell owner.inst.cell cell_is)

    pub arcs_there : (ends : ArcEnds) → ends.registers ≡ (b.node.network && not at.network)
        → option_map (λ (p : Pin). p.own) (pin_numbered s b.node.pin) ≡ Some ends.from.now → ends.from_tran ≡ b.node.tran
        → option_map (λ (p : Pin). p.own) (pin_numbered s at.pin) ≡ Some ends.to.now → ends.to_tran ≡ at.tran
        → library_arcs s.design split j.into.from j.to ≡ filter (is_between ends) cell.arcs
    arcs_there ends r f ft t tt =
        arcs_are s split at b j owner.inst cell ends owner.owns cell_is
        (r ∙ ap (λ x. x && not at.network) j.into.there.network ∙ ap (λ x. is_network s.design j.into.from.pin && not x) j.there.network)
        (some_is (sym f ∙ ap (option_map (λ (p : Pin). p.own)) (pin_of_node s b.node j.into.from j.into.there.told)))
        (ft ∙ tran_of_node s b.node j.into.from j.into.there.told)
        (some_is (sym t ∙ ap (option_map (λ (p : Pin). p.own)) (pin_of_node s at j.to j.there.told)))
        (tt ∙ tran_of_node s at j.to j.there.told)
