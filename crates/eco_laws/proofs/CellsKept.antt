-- Pins and instances of one name and cell in two designs with the same libraries and constraints: what their cells tell of them.

use Rattle.std.proofs.Common.{◌≡◌, ℕ, true, false, List, [], ◌∷◌, map, Option, None, Some, refl, sym, ap, ◌∙◌, not}
use Rattle.std.specs.Prelude.{◌&&◌, ◌||◌, find, option_map}
use Rattle.std.specs.List.{list_any}
use Rattle.std.specs.Option.{option_map_or}
use Rattle.std.specs.Str.{bytes_eq}
use Rattle.timing_defs.specs.declared.kinds.Split.{Split}
use Rattle.timing_defs.specs.declared.kinds.Split.TheVariants.{Late}
use Rattle.timing_defs.specs.declared.kinds.Dir.TheVariants.{Input}
use Rattle.timing_defs.specs.declared.library.CellPin.{CellPin}
use Rattle.timing_defs.specs.declared.constraints.Clock.{Clock}
use Rattle.timing_defs.specs.declared.netlist.Inst.{Inst}
use Rattle.timing_defs.specs.declared.design.Design.{Design}
use Rattle.timing_defs.specs.Netlist.{Pin, cell_of, cell_named, cell_pin, cell_pins, inst_pins, pin_at, same_dir}
use Rattle.timing_defs.specs.Wires.{pin_cap}
use Rattle.timing_defs.specs.Kinds.{is_comb}
use Rattle.timing_rules.specs.Clocking.{cell_arcs, cell_tests, port_has_clock, is_clock_port, clocks_cell, is_clock_pin}
use Rattle.timing_rules.specs.Rows.{is_input_port}
use Rattle.timing_rules.specs.Tests.{tests_pin, is_endpoint}
use Rattle.netlist_store.proofs.SeenPins.{Seen, seen, seen_owner}
use Rattle.netlist_store.proofs.Untouched.{IsFramed}
use Rattle.eco_laws.specs.Seen.{cap_seen}
use Rattle.eco_laws.proofs.SeenLaws.{cap_is, same_drives, same_own, same_dirs}
use Rattle.eco_laws.proofs.NetsLeft.{library_left}

-- what is said of the owners of pins that are seen alike
module _ {X : Type 0} (f2 f : Inst → X) (x : X) (each : (i i2 : Inst) → i2.name ≡ i.name → i2.cell ≡ i.cell → f2 i2 ≡ f i) where
  pub over_owner : (o o2 : Option Inst) → seen_owner o2 ≡ seen_owner o → option_map_or f2 o2 x ≡ option_map_or f o x
  over_owner None None same = refl
  over_owner None (Some i2) same = absurd (cc)
  over_owner (Some i) None same = absurd (cc)
  over_owner (Some i) (Some i2) same =
      let both : (i2.name, i2.cell) ≡ (i.name, i.cell) = cc in
      each i i2 (ap (λ (p : List ℕ × List ℕ). p.0) both) (ap (λ (p : List ℕ × List ℕ). p.1) both)

pub same_owner : (p p2 : Pin) → seen p2 ≡ seen p → seen_owner p2.owner ≡ seen_owner p.owner
same_owner p p2 same = ap (λ (s : Seen). s.owner) same

pub same_input_port : (p p2 : Pin) → seen p2 ≡ seen p → is_input_port p2 ≡ is_input_port p
same_input_port p p2 same = λ k.
    over_owner (λ inst. false) (λ inst. false) true (λ i i2 e f. refl) p.owner p2.owner (same_owner p p2 same) k && same_drives p p2 same k

module _ (d d2 : Design) (framed : IsFramed d d2) where
  -- the cell of an instance
  module _ (i i2 : Inst) (cell : i2.cell ≡ i.cell) where
    pub cell_left : (split : Split) → cell_of d2 split i2 ≡ cell_of d split i
    cell_left split = λ k. cell_named (library_left d d2 framed split k).cells (cell k)

    pub cell_pins_left : (split : Split) → cell_pins (cell_of d2 split i2) ≡ cell_pins (cell_of d split i)
    cell_pins_left split = ap cell_pins (cell_left split)

    pub cell_arcs_left : (split : Split) → cell_arcs (cell_of d2 split i2) ≡ cell_arcs (cell_of d split i)
    cell_arcs_left split = ap cell_arcs (cell_left split)

    pub cell_tests_left : (split : Split) → cell_tests (cell_of d2 split i2) ≡ cell_tests (cell_of d split i)
    cell_tests_left split = ap cell_tests (cell_left split)

    -- its pins
    module _ (name : i2.name ≡ i.name) where
      pub cell_pin_seen : (p : CellPin) → seen (cell_pin i2 p) ≡ seen (cell_pin i p)
      cell_pin_seen p = λ k. record { owner = Some (name k, cell k); own = p.name; dir = p.dir }

      pub inst_pins_left : map seen (inst_pins d2 i2) ≡ map seen (inst_pins d i)
      inst_pins_left = ap (λ ps. map seen (map (cell_pin i2) ps)) (cell_pins_left Late) ∙ by (cell_pins (cell_of d Late i))
        where
          by : (ps : List CellPin) → map seen (map (cell_pin i2) ps) ≡ map seen (map (cell_pin i) ps)
          by [] = refl
          by (p ∷ ps) = λ k. cell_pin_seen p k ∷ by ps k

      pub pin_at_left : (own : List ℕ) → option_map seen (pin_at d2 i2 own) ≡ option_map seen (pin_at d i own)
      pin_at_left own =
          ap (λ ps. option_map seen (option_map (cell_pin i2) (find (λ pin. bytes_eq pin.name own) ps))) (cell_pins_left Late)
          ∙ by (find (λ pin. bytes_eq pin.name own) (cell_pins (cell_of d Late i)))
        where
          by : (o : Option CellPin) → option_map seen (option_map (cell_pin i2) o) ≡ option_map seen (option_map (cell_pin i) o)
          by None = refl
          by (Some p) = ap Some (cell_pin_seen p)

  -- pins that are seen alike
  module _ (p p2 : Pin) (same : seen p2 ≡ seen p) where
    pub same_cap : (split : Split) → pin_cap d2 split p2 ≡ pin_cap d split p
    same_cap split =
        cap_is d2 split p2 ∙ (λ k. cap_seen (library_left d d2 framed split k) (framed.constraints k).loads split (same k)) ∙ sym (cap_is d split p)

    pub same_clock_pin : is_clock_pin d2 p2 ≡ is_clock_pin d p
    same_clock_pin =
        over_owner (clocks_cell d2 p2.own) (clocks_cell d p.own) false
        (λ i i2 name cell k. list_any (λ arc. not (is_comb arc) && bytes_eq arc.from (same_own p p2 same k)) (cell_arcs_left i i2 cell Late k)
        || list_any (λ test. bytes_eq test.clock (same_own p p2 same k)) (cell_tests_left i i2 cell Late k))
        p.owner p2.owner (same_owner p p2 same)

    pub same_clock_port : is_clock_port d2 p2 ≡ is_clock_port d p
    same_clock_port = ap (λ clocks. port_has_clock clocks p2.owner p2) (ap (λ c. c.clocks) framed.constraints) ∙ by p.owner p2.owner (same_owner p p2 same)
      where
        by : (o o2 : Option Inst) → seen_owner o2 ≡ seen_owner o → port_has_clock d.constraints.clocks o2 p2 ≡ port_has_clock d.constraints.clocks o p
        by None None e = λ k.
            same_dir (same_dirs p p2 same k) Input
            && list_any (λ (clock : Clock). option_map_or (bytes_eq (same_own p p2 same k)) clock.port false) d.constraints.clocks
        by None (Some i2) e = absurd (cc)
        by (Some i) None e = absurd (cc)
        by (Some i) (Some i2) e = refl

    pub same_endpoint : is_endpoint d2 p2 ≡ is_endpoint d p
    same_endpoint = λ k. not (same_drives p p2 same k) && tested k
      where
        tested : option_map_or (tests_pin d2 p2.own) p2.owner true ≡ option_map_or (tests_pin d p.own) p.owner true
        tested =
            over_owner (tests_pin d2 p2.own) (tests_pin d p.own) true
            (λ i i2 name cell k. list_any (λ test. bytes_eq test.pin (same_own p p2 same k)) (cell_tests_left i i2 cell Late k))
            p.owner p2.owner (same_owner p p2 same)
