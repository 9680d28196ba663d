-- What constraints that a store takes keep of clocks, output delays and multicycles.

use Rattle.std.proofs.Common.{◌≡◌, Bool, true, false, ◌&&◌, map, length, refl}
use Rattle.std.specs.Prelude.{nat_le}
use Rattle.std.specs.List.{list_all, filter_map}
use Rattle.std.proofs.lemmas.Bool.{false≢true, and_parts}
use Rattle.timing_defs.specs.declared.constraints.Constraints.{Constraints}
use Rattle.timing_defs.specs.Netlist.{are_distinct}
use Rattle.timing_defs.specs.Documents.{is_amount, is_clock, differ, is_port_delay, same_delay, same_slew, same_load, is_effect, are_derates, are_constraints}

last_two : (a b c : Bool) → (a && b && c) ≡ true → (a ≡ true) × (b ≡ true) × (c ≡ true)
last_two true true true h = (refl, refl, refl)
last_two false b c h = absurd (false≢true h)
last_two true false c h = absurd (false≢true h)
last_two true true false h = absurd (false≢true h)

abbrev up_to_ports : Constraints → Bool
up_to_ports c =
    nat_le (length c.clocks) 8 && are_distinct (map (λ clock. clock.name) c.clocks) && are_distinct (filter_map (λ clock. clock.port) c.clocks)

abbrev up_to_clocks : Constraints → Bool
up_to_clocks c = up_to_ports c && list_all is_clock c.clocks

abbrev up_to_inputs : Constraints → Bool
up_to_inputs c = up_to_clocks c && list_all (is_port_delay (length c.clocks)) c.inputs && differ same_delay c.inputs

abbrev up_to_outputs : Constraints → Bool
up_to_outputs c = up_to_inputs c && list_all (is_port_delay (length c.clocks)) c.outputs && differ same_delay c.outputs

abbrev up_to_slews : Constraints → Bool
up_to_slews c = up_to_outputs c && list_all (λ s. is_amount s.slew.0) c.slews && differ same_slew c.slews

abbrev up_to_loads : Constraints → Bool
up_to_loads c = up_to_slews c && list_all (λ l. is_amount l.load.0) c.loads && differ same_load c.loads

pub record AreTaken (c : Constraints) : Type 0 where
  pub clocks : list_all is_clock c.clocks ≡ true
  pub outputs : list_all (is_port_delay (length c.clocks)) c.outputs ≡ true
  pub effects : list_all (λ x. is_effect x.effect) c.exceptions ≡ true

pub taken : (c : Constraints) → are_constraints c ≡ true → AreTaken c
taken c h =
    let e = last_two (up_to_loads c) (list_all (λ x. is_effect x.effect) c.exceptions) (are_derates c.derates) h in
    let l = last_two (up_to_slews c) (list_all (λ x. is_amount x.load.0) c.loads) (differ same_load c.loads) e.0 in
    let s = last_two (up_to_outputs c) (list_all (λ x. is_amount x.slew.0) c.slews) (differ same_slew c.slews) l.0 in
    let o = last_two (up_to_inputs c) (list_all (is_port_delay (length c.clocks)) c.outputs) (differ same_delay c.outputs) s.0 in
    let i = last_two (up_to_clocks c) (list_all (is_port_delay (length c.clocks)) c.inputs) (differ same_delay c.inputs) o.0 in
    record { clocks = (and_parts (up_to_ports c) (list_all is_clock c.clocks) i.0).1; outputs = o.1; effects = e.1 }
