-- What an arc brings to a node, as the code looks it up.

use Rattle.std.proofs.Common.{◌≡◌, ℕ, ◌≤◌, ◌^◌, ℤ, pos, unsigned_abs, ◌*ℤ◌, true, false, not, ◌&&◌, List, filter, Option, None, Some, refl, sym, ap, subst, ◌∙◌}
use Rattle.std.specs.Prelude.{is_some, option_map, option_and_then}
use Rattle.std.specs.List.{list_all}
use Rattle.std.proofs.lemmas.Bool.{and_from}
use Rattle.sta_units.specs.Numbers.{limit, is_within, rounded}
use Rattle.timing_defs.specs.declared.kinds.Split.{Split}
use Rattle.timing_defs.specs.declared.library.Cell.{Cell}
use Rattle.timing_defs.specs.declared.library.CellArc.{CellArc}
use Rattle.timing_defs.specs.Netlist.{Pin, is_driver, cell_of}
use Rattle.timing_rules.specs.Rows.{library_arcs, load_at, factor_of}
use Rattle.timing_defs.specs.RowTimes.{slew_in}
use Rattle.timing_rules.specs.Range.{within_some}
use Rattle.netlist_store.specs.Linked.{IsLinked}
use Rattle.netlist_store.specs.Numbering.{Stored, inst_numbered, pin_numbered, owner_number, IsNumbered}
use Rattle.node_rows.specs.declared.arcs.ArcEnds.{ArcEnds}
use Rattle.node_rows.specs.declared.arcs.ArcValues.{ArcValues}
use Rattle.node_rows.specs.declared.settings.NodeAt.{NodeAt}
use Rattle.node_rows.specs.declared.settings.Before.{Before}
use Rattle.node_rows.specs.declared.pin_wires.PinWire.{PinWire}
use Rattle.node_rows.specs.declared.pin_wires.Wires.{Wires}
use Rattle.node_rows.specs.Between.{is_between, is_looked, outer_values, no_values, are_within}
use Rattle.node_rows.specs.WireTables.{IsWire, AreWires, wire_at, told_delay, told_slew}
use Rattle.node_rows.specs.Evaluation.{IsJoined, IsAlong, told_values, told_wide, scaled_values}
use Rattle.node_rows.proofs.AlongLaws.{no_slew, no_inst, port_of, looked_large, cell_told, cell_fine, scaled_large, bound_of, pin_of_node, wired, wire_large, wire_none, wire_told, end_large}
use Rattle.timing_defs.proofs.Members.{some_is}
use Rattle.node_rows.proofs.InstForms.{arcs_there}

-- the arcs of a cell, by what is looked up of them
module _ (s : Stored) (num : IsNumbered s) (linked : IsLinked s.design) (split : Split) (at : NodeAt) (b : Before) (j : IsJoined s at b.node)
    (inst : ℕ) (own : owner_number s at.pin ≡ Some inst) (cell : Cell) (is : option_and_then (cell_of s.design split) (inst_numbered s inst) ≡ Some cell)
    (ends : ArcEnds) (registers : ends.registers ≡ (b.node.network && not at.network))
    (from : option_map (λ (p : Pin). p.own) (pin_numbered s b.node.pin) ≡ Some ends.from.now) (from_tran : ends.from_tran ≡ b.node.tran)
    (to : option_map (λ (p : Pin). p.own) (pin_numbered s at.pin) ≡ Some ends.to.now) (to_tran : ends.to_tran ≡ at.tran)
    (arcs : List CellArc) (same : arcs ≡ cell.arcs) (drives : option_map is_driver (pin_numbered s at.pin) ≡ Some true)
    (x load : ℤ) (has : slew_in split b.row.now ≡ Some x) (loaded : option_map (load_at s.design split) (pin_numbered s at.pin) ≡ Some load) where
  found : library_arcs s.design split j.into.from j.to ≡ filter (is_between ends) arcs
  found =
      arcs_there s num linked split at b j inst own cell is ends registers from from_tran to to_tran
      ∙ ap (filter (is_between ends)) (sym same)

  pub looked_wrong : list_all (is_looked x load) (filter (is_between ends) arcs) ≡ false → told_wide s split at b ≡ true
  looked_wrong = looked_large s split at b j x load (filter (is_between ends) arcs) has drives loaded found

  module _ (values : ArcValues) (factor : ℕ) (looked : values ≡ outer_values split x load no_values (filter (is_between ends) arcs))
      (fine : list_all (is_looked x load) (filter (is_between ends) arcs) ≡ true) (within : are_within values ≡ true)
      (by_factor : factor ≡ factor_of s.design.constraints.derates split true) where
    pub scaled_along : (told : ArcValues) → told ≡ scaled_values values factor → are_within told ≡ true → IsAlong s split at b told
    scaled_along told e h =
        record {
          told = cell_told s split at b j x load (filter (is_between ends) arcs) has drives loaded found values factor looked fine within by_factor told e;
          within = h;
          fine = cell_fine s split at b j x load (filter (is_between ends) arcs) has drives loaded found values factor looked fine within by_factor told e h;
        }

    pub scaled_wrong : within_some (scaled_values values factor).delay ≡ false → told_wide s split at b ≡ true
    scaled_wrong = scaled_large s split at b j x load (filter (is_between ends) arcs) has drives loaded found values factor looked fine within by_factor

-- the wire to a sink, by the tables of wires
module _ (s : Stored) (w : Wires) (are : AreWires s w) (split : Split) (at : NodeAt) (b : Before) (j : IsJoined s at b.node)
    (drives : option_map is_driver (pin_numbered s at.pin) ≡ Some false) (wire : Option PinWire) (there : wire ≡ wire_at w.pins at.pin) where
  sinks : is_driver j.to.pin ≡ false
  sinks = some_is (sym (ap (option_map is_driver) (pin_of_node s at j.to j.there.told)) ∙ drives)

  led : IsWire s.design j.into.from.pin j.to.pin wire
  led =
      subst (λ (o : Option PinWire). IsWire s.design j.into.from.pin j.to.pin o) (sym there)
      (are.wires at.pin j.to.pin j.into.from.pin (pin_of_node s at j.to j.there.told) sinks (wired s split at b j drives))

  pub wire_low : (delay : ℤ) → delay ≡ told_delay split wire → unsigned_abs delay ≤ limit
  wire_low delay timed = bound_of delay (ap is_within timed ∙ led.within split)

  pub delay_wrong : (factor : ℕ) → factor ≡ factor_of s.design.constraints.derates split false → (delay : ℤ) → delay ≡ told_delay split wire
      → is_within (rounded (delay *ℤ pos factor) (pos (10 ^ 6))) ≡ false → told_wide s split at b ≡ true
  delay_wrong factor by_factor delay timed wrong = wire_large s split at b j drives wire led factor by_factor delay timed wrong

  module _ (delay : ℤ) (scaled : delay ≡ rounded (told_delay split wire *ℤ pos (factor_of s.design.constraints.derates split false)) (pos (10 ^ 6))) (fine : is_within delay ≡ true) where
    pub none_along : (told : ArcValues) → told ≡ no_values → slew_in split b.row.now ≡ None → IsAlong s split at b told
    none_along told e none =
        let r = wire_none s split at b j drives wire led (factor_of s.design.constraints.derates split false) refl (told_delay split wire) refl delay scaled fine none in
        record { told = e ∙ r.0; within = ap are_within e; fine = r.1 }

    pub end_along : (x end : ℤ) → slew_in split b.row.now ≡ Some x → end ≡ told_slew split wire x → is_within end ≡ true
        → IsAlong s split at b (record { slew = Some end; delay = Some delay })
    end_along x end has e h =
        let r = wire_told s split at b j drives wire led (factor_of s.design.constraints.derates split false) refl (told_delay split wire) refl delay scaled fine x has end e h in
        record { told = r.0; within = and_from (is_within end) (is_within delay) h fine; fine = r.1 }

    pub end_wrong : (x : ℤ) → slew_in split b.row.now ≡ Some x → is_within (told_slew split wire x) ≡ false → told_wide s split at b ≡ true
    end_wrong x has wrong =
        end_large s split at b j drives wire led (factor_of s.design.constraints.derates split false) refl (told_delay split wire) refl delay scaled fine x has wrong

-- nothing leads to an input port
pub port_along : (s : Stored) (split : Split) (at : NodeAt) (b : Before) → IsJoined s at b.node → option_map is_driver (pin_numbered s at.pin) ≡ Some true
    → is_some (option_and_then (λ (p : Pin). p.owner) (pin_numbered s at.pin)) ≡ false → (no_values ≡ told_values s split at b) × (told_wide s split at b ≡ false)
port_along s split at b j drives none = by (slew_in split b.row.now) refl
  where
    by : (o : Option ℤ) → slew_in split b.row.now ≡ o → (no_values ≡ told_values s split at b) × (told_wide s split at b ≡ false)
    by None e = no_slew s split at b j drives e
    by (Some x) e = no_inst s split at b j x e drives (port_of s split at b j none)
