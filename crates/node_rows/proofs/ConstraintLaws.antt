-- What the constraints of a linked design keep.

use Rattle.std.proofs.Common.{◌≡◌, ◌≤◌, Bool, true, false, not, ◌&&◌, List, [], ◌∷◌, map, length, refl}
use Rattle.std.specs.Prelude.{nat_le}
use Rattle.std.specs.List.{list_all, list_any, filter_map}
use Rattle.std.proofs.lemmas.Bool.{false≢true, and_parts, and_from, leb-true}
use Rattle.timing_defs.specs.declared.constraints.Constraints.{Constraints}
use Rattle.timing_defs.specs.declared.constraints.PortDelay.{PortDelay}
use Rattle.timing_defs.specs.Netlist.{are_distinct}
use Rattle.timing_defs.specs.Documents.{is_amount, is_clock, differ, is_port_delay, same_delay, same_slew, same_load, is_effect, are_derates, are_constraints}
use Rattle.node_rows.specs.PortTables.{same_start, are_apart}

last_two : (a b c : Bool) → (a && b && c) ≡ true → (a ≡ true) × (b ≡ true) × (c ≡ true)
last_two true true true h = (refl, refl, refl)
last_two false b c h = absurd (false≢true h)
last_two true false c h = absurd (false≢true h)
last_two true true false h = absurd (false≢true h)

abbrev up_to_clocks : Constraints → Bool
up_to_clocks c =
    nat_le (length c.clocks) 8 && are_distinct (map (λ clock. clock.name) c.clocks)
    && are_distinct (filter_map (λ clock. clock.port) c.clocks) && list_all is_clock c.clocks

abbrev up_to_inputs : Constraints → Bool
up_to_inputs c = up_to_clocks c && list_all (is_port_delay (length c.clocks)) c.inputs && differ same_delay c.inputs

abbrev up_to_outputs : Constraints → Bool
up_to_outputs c = up_to_inputs c && list_all (is_port_delay (length c.clocks)) c.outputs && differ same_delay c.outputs

abbrev up_to_slews : Constraints → Bool
up_to_slews c = up_to_outputs c && list_all (λ s. is_amount s.slew.0) c.slews && differ same_slew c.slews

abbrev up_to_loads : Constraints → Bool
up_to_loads c = up_to_slews c && list_all (λ l. is_amount l.load.0) c.loads && differ same_load c.loads

pub record AreFit (c : Constraints) : Type 0 where
  pub clocks : up_to_clocks c ≡ true
  pub inputs : list_all (is_port_delay (length c.clocks)) c.inputs ≡ true
  pub inputs_apart : differ same_delay c.inputs ≡ true
  pub slews : list_all (λ s. is_amount s.slew.0) c.slews ≡ true
  pub loads : list_all (λ l. is_amount l.load.0) c.loads ≡ true
  pub derates : are_derates c.derates ≡ true

pub fit_of : (c : Constraints) → are_constraints c ≡ true → AreFit c
fit_of c h =
    let e = last_two (up_to_loads c) (list_all (λ x. is_effect x.effect) c.exceptions) (are_derates c.derates) h in
    let l = last_two (up_to_slews c) (list_all (λ x. is_amount x.load.0) c.loads) (differ same_load c.loads) e.0 in
    let s = last_two (up_to_outputs c) (list_all (λ x. is_amount x.slew.0) c.slews) (differ same_slew c.slews) l.0 in
    let o = last_two (up_to_inputs c) (list_all (is_port_delay (length c.clocks)) c.outputs) (differ same_delay c.outputs) s.0 in
    let i = last_two (up_to_clocks c) (list_all (is_port_delay (length c.clocks)) c.inputs) (differ same_delay c.inputs) o.0 in
    record { clocks = i.0; inputs = i.1; inputs_apart = i.2; slews = s.1; loads = l.1; derates = e.2 }

pub few_clocks : (c : Constraints) → are_constraints c ≡ true → length c.clocks ≤ 8
few_clocks c h =
    let a = and_parts (nat_le (length c.clocks) 8 && are_distinct (map (λ clock. clock.name) c.clocks) && are_distinct (filter_map (λ clock. clock.port) c.clocks))
    (list_all is_clock c.clocks) (fit_of c h).clocks in
    let b = and_parts (nat_le (length c.clocks) 8 && are_distinct (map (λ clock. clock.name) c.clocks)) (are_distinct (filter_map (λ clock. clock.port) c.clocks)) a.0 in
    leb-true (length c.clocks) 8 (and_parts (nat_le (length c.clocks) 8) (are_distinct (map (λ clock. clock.name) c.clocks)) b.0).0

pub fit_derates : (c : Constraints) → are_constraints c ≡ true → are_derates c.derates ≡ true
fit_derates c h = (fit_of c h).derates

-- delays of ports differ in port, split or transition
apart_of : (xs : List PortDelay) → differ same_delay xs ≡ true → are_apart xs ≡ true
apart_of [] h = refl
apart_of (x ∷ xs) h =
    let parts = and_parts (not (list_any (same_delay x) xs)) (differ same_delay xs) h in
    and_from (not (list_any (same_start x) xs)) (are_apart xs) parts.0 (apart_of xs parts.1)

pub inputs_apart : (c : Constraints) → are_constraints c ≡ true → are_apart c.inputs ≡ true
inputs_apart c h = apart_of c.inputs (fit_of c h).inputs_apart
