-- The tests of a node, as the code finds them.

use Rattle.std.proofs.Common.{◌≡◌, ℕ, ◌<◌, Bool, true, false, List, [], ◌∷◌, map, filter, length, Option, None, Some, refl, sym, ap, subst, ◌∙◌}
use Rattle.std.specs.Prelude.{is_some, option_map, option_and_then, slice_get, if◌then◌else◌, ◌&&◌, nat_le, nat_lt}
use Rattle.std.specs.List.{list_all, filter_map}
use Rattle.std.specs.Option.{option_map_or}
use Rattle.std.proofs.lemmas.Bool.{false≢true, and_parts, and_from}
use Rattle.sta_units.specs.Numbers.{is_within}
use Rattle.timing_defs.specs.declared.kinds.Kind.{Kind}
use Rattle.timing_defs.specs.declared.kinds.Tran.{Tran}
use Rattle.timing_defs.specs.declared.constraints.Constraints.{Constraints}
use Rattle.timing_defs.specs.declared.constraints.PortDelay.{PortDelay}
use Rattle.timing_defs.specs.declared.netlist.Inst.{Inst}
use Rattle.timing_defs.specs.declared.rows.NodeRow.{NodeRow}
use Rattle.timing_defs.specs.Netlist.{Pin, Node, is_driver, full_name, are_distinct}
use Rattle.timing_rules.specs.Rows.{row, empty_row}
use Rattle.timing_defs.specs.Kinds.{data_split}
use Rattle.timing_defs.specs.Documents.{is_amount, is_clock, differ, is_port_delay, same_delay, same_slew, same_load, is_effect, are_derates, are_constraints}
use Rattle.netlist_store.specs.Numbering.{Stored, name_at, is_number, inst_numbered, pin_numbered, owner_number, IsNumbered}
use Rattle.netlist_store.specs.Linked.{IsLinked}
use Rattle.pin_graph.specs.Nodes.{node_at, node_bound, pin_under, tran_under}
use Rattle.pin_graph.specs.RowTables.{AreRows}
use Rattle.timing_defs.proofs.Members.{some_is}
use Rattle.store_pins.proofs.PinLaws.{HasNumber, pin_at_number, IsOwner, owner_told}
use Rattle.node_tests.specs.declared.node_test.NodeTest.{NodeTest}
use Rattle.node_tests.specs.Outputs.{is_delay_of, delay_test}
use Rattle.node_tests.specs.NodeTests.{AreTests, tests_numbered, is_wide_numbered}
use Rattle.node_tests.proofs.AskedForms.{row_as}
use Rattle.node_tests.proofs.TopLaws.{driver_tests, port_tests_are, port_fine}

-- the delays of output ports are within the limit
abbrev up_to_inputs : Constraints → Bool
up_to_inputs c =
    nat_le (length c.clocks) 8 && are_distinct (map (λ clock. clock.name) c.clocks)
    && are_distinct (filter_map (λ clock. clock.port) c.clocks) && list_all is_clock c.clocks
    && list_all (is_port_delay (length c.clocks)) c.inputs && differ same_delay c.inputs

abbrev up_to_outputs : Constraints → Bool
up_to_outputs c = up_to_inputs c && list_all (is_port_delay (length c.clocks)) c.outputs && differ same_delay c.outputs

abbrev up_to_slews : Constraints → Bool
up_to_slews c = up_to_outputs c && list_all (λ s. is_amount s.slew.0) c.slews && differ same_slew c.slews

abbrev up_to_loads : Constraints → Bool
up_to_loads c = up_to_slews c && list_all (λ l. is_amount l.load.0) c.loads && differ same_load c.loads

first_two : (a b c : Bool) → (a && b && c) ≡ true → (a ≡ true) × (b ≡ true)
first_two true true c h = (refl, refl)
first_two false b c h = absurd (false≢true h)
first_two true false c h = absurd (false≢true h)

pub delays_within : (c : Constraints) → are_constraints c ≡ true → (delays : List PortDelay) → delays ≡ c.outputs → list_all (λ delay. is_within delay.delay.0) delays ≡ true
delays_within c h delays same =
    let l = first_two (up_to_loads c) (list_all (λ x. is_effect x.effect) c.exceptions) (are_derates c.derates) h in
    let s = first_two (up_to_slews c) (list_all (λ x. is_amount x.load.0) c.loads) (differ same_load c.loads) l.0 in
    let o = first_two (up_to_outputs c) (list_all (λ x. is_amount x.slew.0) c.slews) (differ same_slew c.slews) s.0 in
    let i = first_two (up_to_inputs c) (list_all (is_port_delay (length c.clocks)) c.outputs) (differ same_delay c.outputs) o.0 in
    ap (list_all (λ (delay : PortDelay). is_within delay.delay.0)) same ∙ each c.outputs i.1
  where
    each : (ds : List PortDelay) → list_all (is_port_delay (length c.clocks)) ds ≡ true → list_all (λ delay. is_within delay.delay.0) ds ≡ true
    each [] e = refl
    each (x ∷ xs) e =
        let parts = and_parts (is_port_delay (length c.clocks) x) (list_all (is_port_delay (length c.clocks)) xs) e in
        let one = and_parts (nat_lt x.clock (length c.clocks)) (is_within x.delay.0) parts.0 in
        and_from (is_within x.delay.0) (list_all (λ (delay : PortDelay). is_within delay.delay.0) xs) one.1 (each xs parts.1)

module _ (s : Stored) (stored : Stored) (same : stored ≡ s) (num : IsNumbered s) (linked : IsLinked s.design) (node pin : ℕ)
    (is_pin : Some pin ≡ (if is_number stored.pins (pin_under node) then Some (pin_under node) else None)) where
  pub pin_parts : (is_number s.pins (pin_under node) ≡ true) × (pin ≡ pin_under node)
  pin_parts = by (is_number s.pins (pin_under node)) refl (is_pin ∙ ap (λ (z : Stored). if is_number z.pins (pin_under node) then Some (pin_under node) else None) same)
    where
      by : (b : Bool) → is_number s.pins (pin_under node) ≡ b → Some pin ≡ (if b then Some (pin_under node) else None) → (is_number s.pins (pin_under node) ≡ true) × (pin ≡ pin_under node)
      by true e f = (e, some_is f)
      by false e f = absurd (cc)

  pub its : (p : Pin) × HasNumber s p (pin_under node)
  its = pin_at_number s num linked (pin_under node) pin_parts.0

  abbrev pub target : Node
  target = record { pin = its.0; tran = tran_under node }

  pub target_at : node_at s node ≡ Some target
  target_at = ap (option_map (λ p. record { pin = p; tran = tran_under node })) its.1.pin

  pin_told : pin_numbered s pin ≡ Some its.0
  pin_told = ap (pin_numbered s) pin_parts.1 ∙ its.1.pin

  driver_told : (b : Bool) → option_map is_driver (pin_numbered s pin) ≡ Some b → is_driver its.0 ≡ b
  driver_told b e = some_is (sym (ap (option_map is_driver) pin_told) ∙ e)

  pub driver_form : (kind : Kind) (tests : List NodeTest) → tests ≡ [] → option_map is_driver (pin_numbered s pin) ≡ Some true
      → AreTests s tests (tests_numbered s kind node) × (is_wide_numbered s kind node ≡ false)
  driver_form kind tests none e =
      let r = driver_tests s num linked node kind target target_at (driver_told true e) in
      (subst (λ (ts : List NodeTest). AreTests s ts (tests_numbered s kind node)) (sym none) r.0, r.1)

  module _ (sink : option_map is_driver (pin_numbered s pin) ≡ Some false) where
    pub sink_is : is_driver its.0 ≡ false
    sink_is = driver_told false sink

    module _ (free : false ≡ is_some (option_and_then (λ (p : Pin). p.owner) (pin_numbered s pin))) where
      no_owner : its.0.owner ≡ None
      no_owner = by its.0.owner refl
        where
          by : (o : Option Inst) → its.0.owner ≡ o → its.0.owner ≡ None
          by None own = own
          by (Some i) own = absurd (false≢true (free ∙ ap (λ o. is_some (option_and_then (λ (p : Pin). p.owner) o)) pin_told ∙ ap is_some own))

      pub port_form : (kind : Kind) (port : List ℕ) (tran : Tran) (delays : List PortDelay) (tests : List NodeTest) → name_at s.pins pin ≡ Some port → tran ≡ tran_under node
          → delays ≡ s.design.constraints.outputs → tests ≡ map (delay_test kind) (filter (is_delay_of port (data_split kind) tran) delays)
          → AreTests s tests (tests_numbered s kind node)
      port_form kind port tran delays tests named t d e =
          let name : port ≡ its.0.own =
          some_is (sym named ∙ ap (name_at s.pins) pin_parts.1 ∙ its.1.name) ∙ ap (λ o. full_name o its.0.own) no_owner in
          port_tests_are s num linked node kind target target_at sink_is no_owner port tran delays tests name t d e

      pub port_calm : (kind : Kind) → is_wide_numbered s kind node ≡ false
      port_calm kind = port_fine s num linked node kind target target_at sink_is no_owner

  -- a register's data node
  module _ (inst : ℕ) (owned : Some inst ≡ owner_number s pin) where
    owner : IsOwner s its.0 inst
    owner = owner_told s num linked pin inst its.0 pin_told (sym owned)

    pub register_at : (register : Inst) × ((inst_numbered s inst ≡ Some register) × (its.0.owner ≡ Some register))
    register_at = (owner.inst, (owner.there.inst, owner.owns))

    pub own_at : (own : List ℕ) → option_map (λ (p : Pin). p.own) (pin_numbered s pin) ≡ Some own → own ≡ its.0.own
    own_at own e = some_is (sym e ∙ ap (option_map (λ (p : Pin). p.own)) pin_told)

    pub row_at : (rows : List NodeRow) (r : NodeRow) → AreRows s rows → node < node_bound s → slice_get rows node ≡ Some r → r ≡ row s.design target
    row_at rows r are low e = row_as s rows node r are low e ∙ ap (λ o. option_map_or (row s.design) o empty_row) target_at
