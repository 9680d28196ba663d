-- The slew and the start of an input port, by its name.

use Rattle.std.proofs.Common.{◌≡◌, ℕ, ℤ, pos, Bool, true, false, not, ◌&&◌, List, Option, None, Some, refl, sym, ap, ◌∙◌, if◌then◌else◌}
use Rattle.std.specs.Prelude.{find, int_le, option_map, option_and_then}
use Rattle.std.specs.List.{list_any}
use Rattle.std.specs.Option.{option_map_or}
use Rattle.std.proofs.lemmas.Bool.{false≢true, and_parts}
use Rattle.sta_units.specs.Numbers.{is_within}
use Rattle.timing_defs.specs.declared.kinds.Split.{Split}
use Rattle.timing_defs.specs.declared.kinds.Tran.{Tran}
use Rattle.timing_defs.specs.declared.kinds.Tran.TheVariants.{Rise, Fall}
use Rattle.timing_defs.specs.declared.kinds.Dir.TheVariants.{Input}
use Rattle.timing_defs.specs.declared.constraints.Constraints.{Constraints}
use Rattle.timing_defs.specs.declared.constraints.PortSlew.{PortSlew}
use Rattle.timing_defs.specs.declared.netlist.Inst.{Inst}
use Rattle.timing_defs.specs.Netlist.{Pin, Node, full_name, drives_as, is_driver, same_dir, same_tran}
use Rattle.timing_rules.specs.Clocking.{port_has_clock, is_clock_port}
use Rattle.timing_rules.specs.Rows.{is_input_port, port_slew, outermost, is_clock_at, input_delay, start_at}
use Rattle.timing_rules.specs.Range.{within_some}
use Rattle.netlist_store.specs.Linked.{IsLinked}
use Rattle.timing_defs.specs.Documents.{is_amount, are_constraints}
use Rattle.netlist_store.specs.Numbering.{Stored, name_at, is_number, pin_numbered, IsNumbered}
use Rattle.node_rows.specs.declared.arcs.ArcValues.{ArcValues}
use Rattle.node_rows.specs.declared.settings.NodeAt.{NodeAt}
use Rattle.node_rows.specs.declared.settings.Before.{Before}
use Rattle.node_rows.specs.PortTables.{is_slew_at, slew_of_port, delay_of_port}
use Rattle.node_rows.specs.Evaluation.{node_of, told_slew_over, has_clock, merged_over, arrival_over}
use Rattle.timing_defs.proofs.Members.{some_is, found_in, all_in}
use Rattle.store_pins.proofs.PinLaws.{HasNumber, pin_at_number}
use Rattle.node_rows.proofs.ConstraintLaws.{fit_of}

-- a slew that is written for a port lies within the limit
slew_fine : (c : Constraints) → are_constraints c ≡ true → (split : Split) (tran : Tran) (port : List ℕ) → is_within (slew_of_port c split tran port) ≡ true
slew_fine c fit split tran port = by (find (is_slew_at split tran port) c.slews) refl
  where
    by : (o : Option PortSlew) → find (is_slew_at split tran port) c.slews ≡ o → is_within (option_map_or (λ (s : PortSlew). s.slew.0) o (pos 0)) ≡ true
    by None e = refl
    by (Some p) e =
        (and_parts (int_le (pos 0) p.slew.0) (is_within p.slew.0)
        (all_in (λ (s : PortSlew). is_amount s.slew.0) c.slews p (fit_of c fit).slews (found_in (is_slew_at split tran port) c.slews p e))).1

port_owner : (o : Option Inst) → option_map_or (λ (i : Inst). false) o true ≡ true → o ≡ None
port_owner None h = refl
port_owner (Some i) h = absurd (false≢true h)

module _ (s : Stored) (num : IsNumbered s) (linked : IsLinked s.design) (at : NodeAt) (is : is_number s.pins at.pin ≡ true)
    (port : option_map is_input_port (pin_numbered s at.pin) ≡ Some true) (name : List ℕ) (named : name_at s.pins at.pin ≡ Some name) where
  pub its_pin : (p : Pin) × HasNumber s p at.pin
  its_pin = pin_at_number s num linked at.pin is

  pub its_node : node_of s at ≡ Some (record { pin = its_pin.0; tran = at.tran })
  its_node = ap (option_map (λ (p : Pin). record { pin = p; tran = at.tran })) its_pin.1.pin

  pub is_port : is_input_port its_pin.0 ≡ true
  is_port = some_is (sym (ap (option_map is_input_port) its_pin.1.pin) ∙ port)

  pub no_inst : its_pin.0.owner ≡ None
  no_inst = port_owner its_pin.0.owner (and_parts (option_map_or (λ (i : Inst). false) its_pin.0.owner true) (is_driver its_pin.0) is_port).0

  pub its_name : name ≡ its_pin.0.own
  its_name = some_is (sym named ∙ its_pin.1.name) ∙ ap (λ o. full_name o its_pin.0.own) no_inst

  pub slew_told : (split : Split) (values : List ArcValues) (x : ℤ) → x ≡ slew_of_port s.design.constraints split at.tran name → Some x ≡ told_slew_over s split at values
  slew_told split values x e =
      ap Some (e ∙ ap (slew_of_port s.design.constraints split at.tran) its_name)
      ∙ sym (ap (λ o. option_map_or
      (λ (n : Node). if is_input_port n.pin then Some (port_slew s.design.constraints.slews split n.pin n.tran) else outermost split (λ (v : ArcValues). v.slew) None values) o None) its_node
      ∙ ap (λ b. if b then Some (port_slew s.design.constraints.slews split its_pin.0 at.tran) else outermost split (λ (v : ArcValues). v.slew) None values) is_port)

  pub slew_within : (split : Split) (x : ℤ) → x ≡ slew_of_port s.design.constraints split at.tran name → within_some (Some x) ≡ true
  slew_within split x e = ap is_within e ∙ slew_fine s.design.constraints linked.constraints split at.tran name

  -- an input port is a clock's where a clock has a port of its name
  clock_port_is : is_clock_port s.design its_pin.0 ≡ list_any (has_clock name) s.design.constraints.clocks
  clock_port_is =
      let inward : same_dir its_pin.0.dir Input ≡ true =
      sym (ap (λ o. drives_as o its_pin.0.dir) no_inst) ∙ (and_parts (option_map_or (λ (i : Inst). false) its_pin.0.owner true) (is_driver its_pin.0) is_port).1 in
      ap (λ o. port_has_clock s.design.constraints.clocks o its_pin.0) no_inst
      ∙ ap (λ b. b && list_any (has_clock its_pin.0.own) s.design.constraints.clocks) inward
      ∙ ap (λ w. list_any (has_clock w) s.design.constraints.clocks) (sym its_name)

  abbrev edge_start : Split → List ℕ → Bool → ℕ × Tran → Option ℤ
  edge_start split w clocked edge =
      (if clocked then (if is_clock_at s.design.constraints.clocks edge.0 w && same_tran edge.1 at.tran then Some (pos 0) else None)
      else (if same_tran edge.1 Rise then delay_of_port s.design.constraints split at.tran w edge.0 else None))

  start_is : (split : Split) (edge : ℕ × Tran)
      → option_map (λ node. start_at s.design split node edge) (node_of s at) ≡ Some (edge_start split name (list_any (has_clock name) s.design.constraints.clocks) edge)
  start_is split edge =
      ap (option_map (λ node. start_at s.design split node edge)) its_node
      ∙ ap (λ b. Some (if not b then None else edge_start split its_pin.0.own (is_clock_port s.design its_pin.0) edge)) is_port
      ∙ ap (λ b. Some (edge_start split its_pin.0.own b edge)) clock_port_is
      ∙ ap (λ w. Some (edge_start split w (list_any (has_clock name) s.design.constraints.clocks) edge)) (sym its_name)

  pub clock_starts : (split : Split) (clock : ℕ) (tran : Tran) → list_any (has_clock name) s.design.constraints.clocks ≡ true
      → (own : Bool) → own ≡ (is_clock_at s.design.constraints.clocks clock name && same_tran tran at.tran) → (r : Option ℤ) → r ≡ (if own then Some (pos 0) else None)
      → option_map (λ node. start_at s.design split node (clock, tran)) (node_of s at) ≡ Some r
  clock_starts split clock tran clocked own e r f =
      start_is split (clock, tran) ∙ ap (λ b. Some (edge_start split name b (clock, tran))) clocked
      ∙ ap Some (ap (λ b. if b then Some (pos 0) else None) (sym e) ∙ sym f)

  pub delay_starts : (split : Split) (clock : ℕ) (tran : Tran) → list_any (has_clock name) s.design.constraints.clocks ≡ false → tran ≡ Rise
      → (r : Option ℤ) → r ≡ delay_of_port s.design.constraints split at.tran name clock
      → option_map (λ node. start_at s.design split node (clock, tran)) (node_of s at) ≡ Some r
  delay_starts split clock tran plain rise r e =
      start_is split (clock, tran) ∙ ap (λ b. Some (edge_start split name b (clock, tran))) plain
      ∙ ap (λ t. Some (if same_tran t Rise then delay_of_port s.design.constraints split at.tran name clock else None)) rise
      ∙ ap Some (sym e)

  pub none_starts : (split : Split) (clock : ℕ) (tran : Tran) → list_any (has_clock name) s.design.constraints.clocks ≡ false → tran ≡ Fall
      → option_map (λ node. start_at s.design split node (clock, tran)) (node_of s at) ≡ Some None
  none_starts split clock tran plain fall =
      start_is split (clock, tran) ∙ ap (λ b. Some (edge_start split name b (clock, tran))) plain
      ∙ ap (λ t. Some (if same_tran t Rise then delay_of_port s.design.constraints split at.tran name clock else None)) fall

-- a node that is no input port's does not start
module _ (s : Stored) (at : NodeAt) (split : Split) (edge : ℕ × Tran) where
  pub no_start : option_map is_input_port (pin_numbered s at.pin) ≡ Some false → option_map (λ node. start_at s.design split node edge) (node_of s at) ≡ Some None
  no_start e = by (pin_numbered s at.pin) e
    where
      by : (o : Option Pin) → option_map is_input_port o ≡ Some false
          → option_map (λ node. start_at s.design split node edge) (option_map (λ (p : Pin). record { pin = p; tran = at.tran }) o) ≡ Some None
      by None e = absurd (cc)
      by (Some p) e =
          ap (λ b. Some (if not b then None else
          (if is_clock_port s.design p
          then (if is_clock_at s.design.constraints.clocks edge.0 p.own && same_tran edge.1 at.tran then Some (pos 0) else None)
          else (if same_tran edge.1 Rise then input_delay s.design.constraints.inputs split (record { pin = p; tran = at.tran }) edge.0 else None))))
          (some_is e)

  joined : (o : Option Node) (r : Option ℤ) → option_map (λ node. start_at s.design split node edge) o ≡ Some r → option_and_then (λ node. start_at s.design split node edge) o ≡ r
  joined None r e = absurd (cc)
  joined (Some n) r e = some_is e

  module _ (before : List Before) (values : List ArcValues) where
    pub arrival_started : (o : Option ℤ) (time : ℤ) → option_map (λ node. start_at s.design split node edge) (node_of s at) ≡ Some o → o ≡ Some time
        → Some time ≡ arrival_over s split at before values edge
    arrival_started o time e is = sym (ap (λ w. option_map_or Some w (merged_over split edge None before values)) (joined (node_of s at) o e ∙ is))

    pub arrival_merged : (o r : Option ℤ) → option_map (λ node. start_at s.design split node edge) (node_of s at) ≡ Some o → o ≡ None
        → r ≡ merged_over split edge None before values → r ≡ arrival_over s split at before values edge
    arrival_merged o r e is merged = merged ∙ sym (ap (λ w. option_map_or Some w (merged_over split edge None before values)) (joined (node_of s at) o e ∙ is))
