-- What an arc brings from one node to another, by their numbers.

use Rattle.std.proofs.Common.{◌≡◌, ℕ, ◌≤◌, ◌^◌, ℤ, pos, ◌*ℤ◌, unsigned_abs, Bool, true, false, not, ◌&&◌, ◌||◌, if◌then◌else◌, List, [], ◌∷◌, filter, Option, None, Some, refl, sym, ap, subst, ◌∙◌}
use Rattle.std.specs.Prelude.{is_some, option_map, option_and_then, Contains}
use Rattle.std.specs.List.{list_all}
use Rattle.std.specs.Option.{option_map_or}
use Rattle.std.proofs.lemmas.Bool.{false≢true, and_parts, leb-true}
use Rattle.sta_units.specs.Numbers.{limit, rounded, is_within}
use Rattle.timing_defs.specs.declared.kinds.Split.{Split}
use Rattle.timing_defs.specs.declared.library.Cell.{Cell}
use Rattle.timing_defs.specs.declared.library.CellArc.{CellArc}
use Rattle.timing_defs.specs.declared.netlist.Inst.{Inst}
use Rattle.timing_defs.specs.declared.design.Design.{Design}
use Rattle.timing_defs.specs.Lookup.{look}
use Rattle.timing_defs.specs.Netlist.{Pin, Node, is_driver, net_of, cell_of}
use Rattle.timing_defs.specs.Wires.{wire_delay, wire_slew}
use Rattle.timing_rules.specs.Clocking.{is_network, driver_on, cell_arcs}
use Rattle.timing_rules.specs.Rows.{arcs_in, all_arcs_in, net_arcs_in, cell_arcs_in, outermost, joins, library_arcs, load_at, net_name, slew_along, delay_along, factor_of}
use Rattle.timing_defs.specs.RowTimes.{slew_in}
use Rattle.timing_rules.specs.Range.{within_some}
use Rattle.netlist_store.specs.Numbering.{Stored, pin_numbered}
use Rattle.node_rows.specs.declared.arcs.ArcEnds.{ArcEnds}
use Rattle.node_rows.specs.declared.arcs.ArcValues.{ArcValues}
use Rattle.node_rows.specs.declared.settings.NodeAt.{NodeAt}
use Rattle.node_rows.specs.declared.settings.Before.{Before}
use Rattle.node_rows.specs.declared.pin_wires.PinWire.{PinWire}
use Rattle.node_rows.specs.Between.{leads, is_between, is_looked, outer_values, no_values, are_within}
use Rattle.node_rows.specs.WireTables.{IsWire, told_delay, told_slew}
use Rattle.node_rows.specs.Evaluation.{values_along, is_wide_along, node_of, IsJoined, told_values, told_wide, scaled_values}
use Rattle.timing_defs.proofs.Members.{some_is, in_map_back, kept_in}

-- tests
all_parts : {X : Type 0} (p q : X → Bool) (xs : List X) → list_all (λ x. p x && q x) xs ≡ (list_all p xs && list_all q xs)
all_parts p q [] = refl
all_parts p q (x ∷ xs) = ap (λ b. (p x && q x) && b) (all_parts p q xs) ∙ swapped (p x) (q x) (list_all p xs) (list_all q xs)
  where
    swapped : (a b c e : Bool) → ((a && b) && (c && e)) ≡ ((a && c) && (b && e))
    swapped true true c e = refl
    swapped true false true e = refl
    swapped true false false e = refl
    swapped false b c e = refl

first_large : (a b y z : Bool) → (a && b) ≡ false → (((not a || not b) || y) || z) ≡ true
first_large true true y z h = absurd (false≢true (sym h))
first_large true false y z h = refl
first_large false b y z h = refl

last_large : (a b y z : Bool) → a ≡ true → b ≡ true → z ≡ true → (((not a || not b) || not y) || not z) ≡ not y
last_large true true true true h k m = refl
last_large true true false true h k m = refl
last_large a b y false h k m = absurd (false≢true m)
last_large a false y true h k m = absurd (false≢true k)
last_large false true y true h k m = absurd (false≢true h)

-- within the limit, as a test and as an order
pub bound_of : (x : ℤ) → is_within x ≡ true → unsigned_abs x ≤ limit
bound_of x h = leb-true (unsigned_abs x) limit h

-- a pin of a number, and its node
pub pin_of_node : (s : Stored) (at : NodeAt) (node : Node) → node_of s at ≡ Some node → pin_numbered s at.pin ≡ Some node.pin
pin_of_node s at node e = by (pin_numbered s at.pin) refl
  where
    by : (o : Option Pin) → pin_numbered s at.pin ≡ o → o ≡ Some node.pin
    by None h = let f : None ≡ Some node = sym (ap (option_map (λ pin. record { pin = pin; tran = at.tran })) h) ∙ e in absurd (cc)
    by (Some p) h =
        let f : Some (record { pin = p; tran = at.tran }) ≡ Some node = sym (ap (option_map (λ pin. record { pin = pin; tran = at.tran })) h) ∙ e in
        ap Some (ap (λ (n : Node). n.pin) (some_is f))

pub tran_of_node : (s : Stored) (at : NodeAt) (node : Node) → node_of s at ≡ Some node → at.tran ≡ node.tran
tran_of_node s at node e =
    let h = pin_of_node s at node e in
    let f : Some (record { pin = node.pin; tran = at.tran }) ≡ Some node = sym (ap (option_map (λ pin. record { pin = pin; tran = at.tran })) h) ∙ e in
    ap (λ (n : Node). n.tran) (some_is f)

module _ (s : Stored) (split : Split) (at : NodeAt) (b : Before) (j : IsJoined s at b.node) where
  abbrev to : Node
  to = j.to

  abbrev from : Node
  from = j.into.from

  abbrev d : Design
  d = s.design

  values_are : told_values s split at b ≡ values_along d split to from b.row.now
  values_are =
      ap (λ o. option_map_or (λ t. option_map_or (λ f. values_along d split t f b.row.now) (node_of s b.node) no_values) o no_values) j.there.told
      ∙ ap (λ o. option_map_or (λ f. values_along d split to f b.row.now) o no_values) j.into.there.told

  wide_is : told_wide s split at b ≡ is_wide_along d split to from b.row.now
  wide_is =
      ap (λ o. option_map_or (λ t. option_map_or (λ f. is_wide_along d split t f b.row.now) (node_of s b.node) false) o false) j.there.told
      ∙ ap (λ o. option_map_or (λ f. is_wide_along d split to f b.row.now) o false) j.into.there.told

  drives_is : (t : Bool) → option_map is_driver (pin_numbered s at.pin) ≡ Some t → is_driver to.pin ≡ t
  drives_is t e = some_is (sym (ap (option_map is_driver) (pin_of_node s at to j.there.told)) ∙ e)

  -- nothing comes from a node without a slew
  none_along : slew_in split b.row.now ≡ None → no_values ≡ told_values s split at b
  none_along e =
      sym (values_are
      ∙ ap (λ o. record { slew = option_and_then (slew_along d split from to) o; delay = option_and_then (delay_along d split from to) o }) e)

  -- no cell arc leads to a port
  no_arcs : to.pin.owner ≡ None → library_arcs d split from to ≡ []
  no_arcs own = ap (λ o. option_map_or (λ inst. filter (joins d from to) (cell_arcs (cell_of d split inst))) o []) own

  -- the arcs of the cell that lead from one node to the other
  pub arcs_are : (i : Inst) (cell : Cell) (ends : ArcEnds) → to.pin.owner ≡ Some i → cell_of d split i ≡ Some cell
      → ends.registers ≡ (is_network d from.pin && not (is_network d to.pin)) → ends.from.now ≡ from.pin.own → ends.from_tran ≡ from.tran
      → ends.to.now ≡ to.pin.own → ends.to_tran ≡ to.tran
      → library_arcs d split from to ≡ filter (is_between ends) cell.arcs
  arcs_are i cell ends own is r f ft t tt =
      ap (λ o. option_map_or (λ inst. filter (joins d from to) (cell_arcs (cell_of d split inst))) o []) own
      ∙ ap (λ o. filter (joins d from to) (cell_arcs o)) is
      ∙ sym (ap (λ x. filter (leads x ends.from.now ends.from_tran ends.to.now ends.to_tran) cell.arcs) r
      ∙ ap (λ x. filter (leads (is_network d from.pin && not (is_network d to.pin)) x ends.from_tran ends.to.now ends.to_tran) cell.arcs) f
      ∙ ap (λ x. filter (leads (is_network d from.pin && not (is_network d to.pin)) from.pin.own x ends.to.now ends.to_tran) cell.arcs) ft
      ∙ ap (λ x. filter (leads (is_network d from.pin && not (is_network d to.pin)) from.pin.own from.tran x ends.to_tran) cell.arcs) t
      ∙ ap (λ x. filter (leads (is_network d from.pin && not (is_network d to.pin)) from.pin.own from.tran to.pin.own x) cell.arcs) tt)

  -- what an arc brings and whether it is too large, over the slew at its beginning, the load, the arcs of the cell and the wire
  abbrev brought : Option ℤ → Bool → ℤ → List CellArc → (ℤ → ℤ) → ℤ → ArcValues
  brought o t load arcs end wire =
      record {
        slew = option_and_then (λ x. if t then outermost split (λ (arc : CellArc). Some (look arc.slew x load)) None arcs else Some (end x)) o;
        delay = option_and_then
            (λ x. option_map (λ delay. rounded (delay *ℤ pos (factor_of d.constraints.derates split t)) (pos (10 ^ 6)))
            (if t then outermost split (λ (arc : CellArc). Some (look arc.delay x load)) None arcs else Some wire)) o;
      }

  abbrev too_large : Option ℤ → Bool → ℤ → List CellArc → (ℤ → ℤ) → ℤ → Bool
  too_large o t load arcs end wire =
      (t && option_map_or
      (λ x. not (list_all (λ (arc : CellArc). is_within (look arc.slew x load)) arcs) || not (list_all (λ (arc : CellArc). is_within (look arc.delay x load)) arcs))
      o false)
      || not (within_some (if t
      then option_map (λ delay. rounded (delay *ℤ pos (factor_of d.constraints.derates split t)) (pos (10 ^ 6)))
      (option_and_then (λ x. if t then outermost split (λ (arc : CellArc). Some (look arc.delay x load)) None arcs else Some wire) o)
      else Some (rounded (wire *ℤ pos (factor_of d.constraints.derates split t)) (pos (10 ^ 6)))))
      || not (within_some (option_and_then (λ x. if t then outermost split (λ (arc : CellArc). Some (look arc.slew x load)) None arcs else Some (end x)) o))

  abbrev end_of_wire : ℤ → ℤ
  end_of_wire x = wire_slew d split (net_name to.pin) from.pin to.pin x

  abbrev delay_of_wire : ℤ
  delay_of_wire = wire_delay d split (net_name to.pin) from.pin to.pin

  brought_is : values_along d split to from b.row.now ≡ brought (slew_in split b.row.now) (is_driver to.pin) (load_at d split to.pin) (library_arcs d split from to) end_of_wire delay_of_wire
  brought_is = refl

  large_is : is_wide_along d split to from b.row.now ≡ too_large (slew_in split b.row.now) (is_driver to.pin) (load_at d split to.pin) (library_arcs d split from to) end_of_wire delay_of_wire
  large_is = refl

  pub no_slew : option_map is_driver (pin_numbered s at.pin) ≡ Some true → slew_in split b.row.now ≡ None
      → (no_values ≡ told_values s split at b) × (told_wide s split at b ≡ false)
  no_slew drives e = (
    none_along e,
    wide_is ∙ large_is
        ∙ ap (λ o. too_large o (is_driver to.pin) (load_at d split to.pin) (library_arcs d split from to) end_of_wire delay_of_wire) e
        ∙ ap (λ t. too_large None t (load_at d split to.pin) (library_arcs d split from to) end_of_wire delay_of_wire) (drives_is true drives),
  )

  -- the arcs of a cell
  module _ (x load : ℤ) (arcs : List CellArc) (has : slew_in split b.row.now ≡ Some x) (drives : option_map is_driver (pin_numbered s at.pin) ≡ Some true)
      (loaded : option_map (load_at d split) (pin_numbered s at.pin) ≡ Some load) (are : library_arcs d split from to ≡ arcs) where
    load_is : load_at d split to.pin ≡ load
    load_is = some_is (sym (ap (option_map (load_at d split)) (pin_of_node s at to j.there.told)) ∙ loaded)

    cell_brings : told_values s split at b ≡ brought (Some x) true load arcs end_of_wire delay_of_wire
    cell_brings =
        values_are ∙ brought_is
        ∙ ap (λ o. brought o (is_driver to.pin) (load_at d split to.pin) (library_arcs d split from to) end_of_wire delay_of_wire) has
        ∙ ap (λ t. brought (Some x) t (load_at d split to.pin) (library_arcs d split from to) end_of_wire delay_of_wire) (drives_is true drives)
        ∙ ap (λ l. brought (Some x) true l (library_arcs d split from to) end_of_wire delay_of_wire) load_is
        ∙ ap (λ xs. brought (Some x) true load xs end_of_wire delay_of_wire) are

    cell_large : told_wide s split at b ≡ too_large (Some x) true load arcs end_of_wire delay_of_wire
    cell_large =
        wide_is ∙ large_is
        ∙ ap (λ o. too_large o (is_driver to.pin) (load_at d split to.pin) (library_arcs d split from to) end_of_wire delay_of_wire) has
        ∙ ap (λ t. too_large (Some x) t (load_at d split to.pin) (library_arcs d split from to) end_of_wire delay_of_wire) (drives_is true drives)
        ∙ ap (λ l. too_large (Some x) true l (library_arcs d split from to) end_of_wire delay_of_wire) load_is
        ∙ ap (λ xs. too_large (Some x) true load xs end_of_wire delay_of_wire) are

    -- some value that is looked up leaves its limit
    pub looked_large : list_all (is_looked x load) arcs ≡ false → told_wide s split at b ≡ true
    looked_large wrong =
        cell_large
        ∙ first_large (list_all (λ (arc : CellArc). is_within (look arc.slew x load)) arcs) (list_all (λ (arc : CellArc). is_within (look arc.delay x load)) arcs) _ _
        (sym (all_parts (λ (arc : CellArc). is_within (look arc.slew x load)) (λ (arc : CellArc). is_within (look arc.delay x load)) arcs) ∙ wrong)

    module _ (values : ArcValues) (factor : ℕ) (looked : values ≡ outer_values split x load no_values arcs) (fine : list_all (is_looked x load) arcs ≡ true)
        (within : are_within values ≡ true) (by_factor : factor ≡ factor_of d.constraints.derates split true) where
      scaled_is : scaled_values values factor ≡ told_values s split at b
      scaled_is =
          ap (λ v. scaled_values v factor) looked ∙ ap (scaled_values (outer_values split x load no_values arcs)) by_factor ∙ sym cell_brings

      both_fine : (list_all (λ (arc : CellArc). is_within (look arc.slew x load)) arcs ≡ true) × (list_all (λ (arc : CellArc). is_within (look arc.delay x load)) arcs ≡ true)
      both_fine =
          and_parts (list_all (λ (arc : CellArc). is_within (look arc.slew x load)) arcs) (list_all (λ (arc : CellArc). is_within (look arc.delay x load)) arcs)
          (sym (all_parts (λ (arc : CellArc). is_within (look arc.slew x load)) (λ (arc : CellArc). is_within (look arc.delay x load)) arcs) ∙ fine)

      slew_fine : within_some (outermost split (λ (arc : CellArc). Some (look arc.slew x load)) None arcs) ≡ true
      slew_fine = sym (ap (λ (v : ArcValues). within_some v.slew) looked) ∙ (and_parts (within_some values.slew) (within_some values.delay) within).0

      pub cell_told : (told : ArcValues) → told ≡ scaled_values values factor → told ≡ told_values s split at b
      cell_told told e = e ∙ scaled_is

      large_by : told_wide s split at b ≡ not (within_some (scaled_values values factor).delay)
      large_by =
          cell_large
          ∙ last_large
          (list_all (λ (arc : CellArc). is_within (look arc.slew x load)) arcs) (list_all (λ (arc : CellArc). is_within (look arc.delay x load)) arcs)
          (within_some (brought (Some x) true load arcs end_of_wire delay_of_wire).delay) (within_some (outermost split (λ (arc : CellArc). Some (look arc.slew x load)) None arcs))
          both_fine.0 both_fine.1 slew_fine
          ∙ ap (λ (v : ArcValues). not (within_some v.delay)) (sym cell_brings ∙ sym scaled_is)

      pub cell_fine : (told : ArcValues) → told ≡ scaled_values values factor → are_within told ≡ true → told_wide s split at b ≡ false
      cell_fine told e h =
          large_by
          ∙ ap not (sym (ap (λ (v : ArcValues). within_some v.delay) e) ∙ (and_parts (within_some told.slew) (within_some told.delay) h).1)

      pub scaled_large : within_some (scaled_values values factor).delay ≡ false → told_wide s split at b ≡ true
      scaled_large wrong = large_by ∙ ap not wrong

  -- no arc leads to a port
  pub no_inst : (x : ℤ) → slew_in split b.row.now ≡ Some x → option_map is_driver (pin_numbered s at.pin) ≡ Some true → to.pin.owner ≡ None
      → (no_values ≡ told_values s split at b) × (told_wide s split at b ≡ false)
  no_inst x has drives own =
      let loaded : option_map (load_at d split) (pin_numbered s at.pin) ≡ Some (load_at d split to.pin) = ap (option_map (load_at d split)) (pin_of_node s at to j.there.told) in (
        sym (cell_brings x (load_at d split to.pin) [] has drives loaded (no_arcs own)),
        cell_large x (load_at d split to.pin) [] has drives loaded (no_arcs own),
      )

  -- a pin without an owner's number is a port
  pub port_of : is_some (option_and_then (λ (p : Pin). p.owner) (pin_numbered s at.pin)) ≡ false → to.pin.owner ≡ None
  port_of none = by to.pin.owner (sym (ap (λ o. is_some (option_and_then (λ (p : Pin). p.owner) o)) (pin_of_node s at to j.there.told)) ∙ none)
    where
      by : (o : Option Inst) → is_some o ≡ false → o ≡ None
      by None f = refl
      by (Some i) f = absurd (false≢true (sym f))

  -- the wire to a sink
  module _ (drives : option_map is_driver (pin_numbered s at.pin) ≡ Some false) (wire : Option PinWire)
      (is : IsWire d from.pin to.pin wire) where
    ends_same : (o : Option ℤ) → option_and_then (λ x. Some (end_of_wire x)) o ≡ option_and_then (λ x. Some (told_slew split wire x)) o
    ends_same None = refl
    ends_same (Some x) = ap Some (is.slew split x)

    abbrev wire_scaled : ℤ
    wire_scaled = rounded (told_delay split wire *ℤ pos (factor_of d.constraints.derates split false)) (pos (10 ^ 6))

    net_brings : told_values s split at b ≡ record { slew = option_and_then (λ x. Some (told_slew split wire x)) (slew_in split b.row.now); delay = option_and_then (λ x. Some wire_scaled) (slew_in split b.row.now) }
    net_brings =
        values_are ∙ brought_is
        ∙ ap (λ t. brought (slew_in split b.row.now) t (load_at d split to.pin) (library_arcs d split from to) end_of_wire delay_of_wire) (drives_is false drives)
        ∙ ap (λ y. brought (slew_in split b.row.now) false (load_at d split to.pin) (library_arcs d split from to) end_of_wire y) (is.delay split)
        ∙ ap (λ o. record { slew = o; delay = option_and_then (λ x. Some wire_scaled) (slew_in split b.row.now) }) (ends_same (slew_in split b.row.now))

    net_large : told_wide s split at b ≡ (not (is_within wire_scaled) || not (within_some (option_and_then (λ x. Some (told_slew split wire x)) (slew_in split b.row.now))))
    net_large =
        wide_is ∙ large_is
        ∙ ap (λ t. too_large (slew_in split b.row.now) t (load_at d split to.pin) (library_arcs d split from to) end_of_wire delay_of_wire) (drives_is false drives)
        ∙ ap (λ y. too_large (slew_in split b.row.now) false (load_at d split to.pin) (library_arcs d split from to) end_of_wire y) (is.delay split)
        ∙ ap (λ o. not (is_within wire_scaled) || not (within_some o)) (ends_same (slew_in split b.row.now))

    module _ (factor : ℕ) (by_factor : factor ≡ factor_of d.constraints.derates split false) (delay : ℤ) (timed : delay ≡ told_delay split wire) where
      scaled_as : rounded (delay *ℤ pos factor) (pos (10 ^ 6)) ≡ wire_scaled
      scaled_as =
          ap (λ y. rounded (y *ℤ pos factor) (pos (10 ^ 6))) timed
          ∙ ap (λ f. rounded (told_delay split wire *ℤ pos f) (pos (10 ^ 6))) by_factor

      pub wire_large : is_within (rounded (delay *ℤ pos factor) (pos (10 ^ 6))) ≡ false → told_wide s split at b ≡ true
      wire_large wrong =
          net_large
          ∙ ap (λ t. not t || not (within_some (option_and_then (λ x. Some (told_slew split wire x)) (slew_in split b.row.now)))) (sym (ap is_within scaled_as) ∙ wrong)

      module _ (scaled : ℤ) (is_scaled : scaled ≡ rounded (delay *ℤ pos factor) (pos (10 ^ 6))) (fine : is_within scaled ≡ true) where
        here : is_within wire_scaled ≡ true
        here = sym (ap is_within (is_scaled ∙ scaled_as)) ∙ fine

        pub wire_none : slew_in split b.row.now ≡ None → (no_values ≡ told_values s split at b) × (told_wide s split at b ≡ false)
        wire_none e = (
          none_along e,
          net_large
              ∙ ap (λ t. not t || not (within_some (option_and_then (λ x. Some (told_slew split wire x)) (slew_in split b.row.now)))) here
              ∙ ap (λ o. not (within_some (option_and_then (λ x. Some (told_slew split wire x)) o))) e,
        )

        module _ (x : ℤ) (has : slew_in split b.row.now ≡ Some x) where
          wide_by : told_wide s split at b ≡ not (is_within (told_slew split wire x))
          wide_by =
              net_large
              ∙ ap (λ t. not t || not (within_some (option_and_then (λ y. Some (told_slew split wire y)) (slew_in split b.row.now)))) here
              ∙ ap (λ o. not (within_some (option_and_then (λ y. Some (told_slew split wire y)) o))) has

          pub end_large : is_within (told_slew split wire x) ≡ false → told_wide s split at b ≡ true
          end_large wrong = wide_by ∙ ap not wrong

          pub wire_told : (end : ℤ) → end ≡ told_slew split wire x → is_within end ≡ true
              → (record { slew = Some end; delay = Some scaled } ≡ told_values s split at b) × (told_wide s split at b ≡ false)
          wire_told end e h = (
            ap (λ y. record { slew = Some y; delay = Some scaled }) e
                ∙ ap (λ y. record { slew = Some (told_slew split wire x); delay = Some y }) (is_scaled ∙ scaled_as)
                ∙ sym (net_brings ∙ ap (λ o. record { slew = option_and_then (λ y. Some (told_slew split wire y)) o; delay = option_and_then (λ y. Some wire_scaled) o }) has),
            wide_by ∙ ap not (sym (ap is_within e) ∙ h),
          )

  -- a sink is entered from the driver of its net
  pub wired : option_map is_driver (pin_numbered s at.pin) ≡ Some false → Contains (driver_on d (net_of to.pin)) from.pin
  unfolding arcs_in
  wired drives =
      let all : Contains (all_arcs_in d to) from = kept_in (λ f. not (is_network d to.pin) || is_network d f.pin) (all_arcs_in d to) from j.into.joined in
      let sink : Contains (net_arcs_in d to) from = subst (λ (t : Bool). Contains (if t then option_map_or (cell_arcs_in d to) to.pin.owner [] else net_arcs_in d to) from) (drives_is false drives) all in
      let m = in_map_back (λ pin. record { pin = pin; tran = to.tran }) (driver_on d (net_of to.pin)) from sink in
      subst (λ (p : Pin). Contains (driver_on d (net_of to.pin)) p) (ap (λ (n : Node). n.pin) m.same) m.within
