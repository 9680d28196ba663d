-- What alike nodes of two designs have in common.

use Rattle.std.proofs.Common.{◌≡◌, ℕ, true, false, List, ◌∷◌, ◌++◌, Option, None, Some, refl, sym, ap, ◌∙◌}
use Rattle.std.specs.Prelude.{◌&&◌, not, find, nat_eq, pos, option_map, if◌then◌else◌}
use Rattle.std.specs.List.{list_any}
use Rattle.std.specs.Option.{option_map_or}
use Rattle.std.specs.Str.{bytes_eq}
use Rattle.timing_defs.specs.declared.kinds.Split.{Split}
use Rattle.timing_defs.specs.declared.kinds.Split.TheVariants.{Early, Late}
use Rattle.timing_defs.specs.declared.kinds.Tran.{Tran}
use Rattle.timing_defs.specs.declared.kinds.Tran.TheVariants.{Rise}
use Rattle.timing_defs.specs.declared.kinds.Dir.{Dir}
use Rattle.timing_defs.specs.declared.kinds.Dir.TheVariants.{Input}
use Rattle.timing_defs.specs.declared.constraints.Clock.{Clock}
use Rattle.timing_defs.specs.declared.constraints.Constraints.{Constraints}
use Rattle.timing_defs.specs.declared.constraints.PortDelay.{PortDelay}
use Rattle.timing_defs.specs.declared.constraints.PortSlew.{PortSlew}
use Rattle.timing_defs.specs.declared.netlist.Inst.{Inst}
use Rattle.timing_defs.specs.declared.design.Design.{Design}
use Rattle.timing_defs.specs.Netlist.{Pin, Node, name_of, full_name, same_dir, same_split, same_tran, drives_as, is_driver, library_of, cell_of, cell_named}
use Rattle.timing_rules.specs.Clocking.{port_has_clock, is_clock_port}
use Rattle.timing_rules.specs.Rows.{is_input_port, port_slew, start_at, is_clock_at, launch_edges, clock_edges}
use Rattle.timing_defs.proofs.Members.{some_is}
use Rattle.netlist_store.proofs.SeenPins.{Seen, seen_owner}
use Rattle.netlist_store.proofs.Untouched.{IsFramed}
use Rattle.calm_laws.proofs.Calm.{AreAlike}

some_none : {X : Type 0} {x : X} → Some x ≡ None → ⊥
some_none e = cc

-- owners of one name and cell
module _ (o o2 : Option Inst) (same : seen_owner o2 ≡ seen_owner o) where
  pub none_too : o ≡ None → o2 ≡ None
  none_too e = by o2 refl
    where
      by : (k : Option Inst) → o2 ≡ k → o2 ≡ None
      by None f = f
      by (Some i) f = absurd (some_none (sym (ap seen_owner f) ∙ same ∙ ap seen_owner e))

  pub record HasTwin (inst : Inst) : Type 0 where
    pub twin : Inst
    pub owner : o2 ≡ Some twin
    pub name : twin.name ≡ inst.name
    pub cell : twin.cell ≡ inst.cell

  pub twin_of : (inst : Inst) → o ≡ Some inst → HasTwin inst
  twin_of inst e = by o2 refl
    where
      by : (k : Option Inst) → o2 ≡ k → HasTwin inst
      by None f = absurd (some_none (sym (sym (ap seen_owner f) ∙ same ∙ ap seen_owner e)))
      by (Some i) f =
          let g : Some (i.name, i.cell) ≡ Some (inst.name, inst.cell) = sym (ap seen_owner f) ∙ same ∙ ap seen_owner e in
          let h = some_is g in
          record { twin = i; owner = f; name = ap (λ (p : List ℕ × List ℕ). p.0) h; cell = ap (λ (p : List ℕ × List ℕ). p.1) h }

drives_by : (o o2 : Option Inst) → seen_owner o2 ≡ seen_owner o → (dir : Dir) → drives_as o dir ≡ drives_as o2 dir
drives_by None None same dir = refl
drives_by None (Some j) same dir = absurd (cc)
drives_by (Some i) None same dir = absurd (cc)
drives_by (Some i) (Some j) same dir = refl

port_by : (o o2 : Option Inst) → seen_owner o2 ≡ seen_owner o → option_map_or (λ (inst : Inst). false) o true ≡ option_map_or (λ (inst : Inst). false) o2 true
port_by None None same = refl
port_by None (Some j) same = absurd (cc)
port_by (Some i) None same = absurd (cc)
port_by (Some i) (Some j) same = refl

name_by : (o o2 : Option Inst) → seen_owner o2 ≡ seen_owner o → (own : List ℕ) → full_name o own ≡ full_name o2 own
name_by None None same own = refl
name_by None (Some j) same own = absurd (cc)
name_by (Some i) None same own = absurd (cc)
name_by (Some i) (Some j) same own = ap (λ (p : List ℕ × List ℕ). p.0 ++ 58 ∷ own) (sym (some_is same))

clock_by : (clocks : List Clock) (o o2 : Option Inst) → seen_owner o2 ≡ seen_owner o → (p p2 : Pin) → p.own ≡ p2.own → p.dir ≡ p2.dir
    → port_has_clock clocks o p ≡ port_has_clock clocks o2 p2
clock_by clocks None None same p p2 own dir = λ k.
    same_dir (dir k) Input && list_any (λ (clock : Clock). option_map_or (bytes_eq (own k)) clock.port false) clocks
clock_by clocks None (Some j) same p p2 own dir = absurd (cc)
clock_by clocks (Some i) None same p p2 own dir = absurd (cc)
clock_by clocks (Some i) (Some j) same p p2 own dir = refl

-- alike nodes
module _ (n n2 : Node) (alike : AreAlike n n2) where
  pub own_same : n.pin.own ≡ n2.pin.own
  own_same = ap (λ (s : Seen). s.own) (sym alike.pin)

  pub dir_same : n.pin.dir ≡ n2.pin.dir
  dir_same = ap (λ (s : Seen). s.dir) (sym alike.pin)

  pub owner_same : seen_owner n2.pin.owner ≡ seen_owner n.pin.owner
  owner_same = ap (λ (s : Seen). s.owner) alike.pin

  pub drives_same : is_driver n.pin ≡ is_driver n2.pin
  drives_same = drives_by n.pin.owner n2.pin.owner owner_same n.pin.dir ∙ ap (drives_as n2.pin.owner) dir_same

  pub input_same : is_input_port n.pin ≡ is_input_port n2.pin
  input_same = λ k. port_by n.pin.owner n2.pin.owner owner_same k && drives_same k

  pub name_same : name_of n.pin ≡ name_of n2.pin
  name_same = name_by n.pin.owner n2.pin.owner owner_same n.pin.own ∙ ap (full_name n2.pin.owner) own_same

-- designs with the same libraries and constraints
module _ (d d2 : Design) (framed : IsFramed d d2) where
  pub library_same : (split : Split) → library_of d split ≡ library_of d2 split
  library_same Early = sym framed.early
  library_same Late = sym framed.late

  pub cell_same : (split : Split) (i j : Inst) → j.cell ≡ i.cell → cell_of d split i ≡ cell_of d2 split j
  cell_same split i j e = λ k. cell_named (library_same split k).cells (sym e k)

  pub edges_same : launch_edges d ≡ launch_edges d2
  edges_same = ap (λ (c : Constraints). clock_edges 0 c.clocks) (sym framed.constraints)

  module _ (n n2 : Node) (alike : AreAlike n n2) where
    pub port_slew_same : (split : Split) → port_slew d.constraints.slews split n.pin n.tran ≡ port_slew d2.constraints.slews split n2.pin n2.tran
    port_slew_same split = λ k.
        option_map_or (λ (s : PortSlew). s.slew.0)
        (find (λ (s : PortSlew). bytes_eq s.port (own_same n n2 alike k) && same_split s.split split && same_tran s.tran (sym alike.tran k)) (sym framed.constraints k).slews) (pos 0)

    pub clock_port_same : is_clock_port d n.pin ≡ is_clock_port d2 n2.pin
    clock_port_same =
        ap (λ (c : Constraints). port_has_clock c.clocks n.pin.owner n.pin) (sym framed.constraints)
        ∙ clock_by d2.constraints.clocks n.pin.owner n2.pin.owner (owner_same n n2 alike) n.pin n2.pin (own_same n n2 alike) (dir_same n n2 alike)

    pub start_same : (split : Split) (edge : ℕ × Tran) → start_at d split n edge ≡ start_at d2 split n2 edge
    start_same split edge = λ k.
        (if not (input_same n n2 alike k) then None else
        (if clock_port_same k
        then (if is_clock_at (sym framed.constraints k).clocks edge.0 (own_same n n2 alike k) && same_tran edge.1 (sym alike.tran k) then Some (pos 0) else None)
        else (if same_tran edge.1 Rise
        then option_map (λ (i : PortDelay). i.delay.0)
        (find (λ (i : PortDelay). bytes_eq i.port (own_same n n2 alike k) && same_split i.split split && same_tran i.tran (sym alike.tran k) && nat_eq i.clock edge.0)
        (sym framed.constraints k).inputs)
        else None)))
