-- The nodes of an instance by the pins of its cell.

use Rattle.std.proofs.Common.{◌≡◌, Bool, true, false, List, [], ◌∷◌, map, filter, length, None, Some, refl, sym, ap, subst, ◌∙◌, inl, inr}
use Rattle.std.specs.Prelude.{Contains, find, nat_lt, not, ◌&&◌, ◌||◌, if◌then◌else◌}
use Rattle.std.specs.List.{flat_map}
use Rattle.std.specs.Option.{option_map_or}
use Rattle.std.specs.Str.{bytes_eq}
use Rattle.std.proofs.lemmas.Bool.{false≢true}
use Rattle.std.proofs.lemmas.List.Concat.{flat_map-cons}
use Rattle.timing_defs.specs.declared.kinds.Split.TheVariants.{Late}
use Rattle.timing_defs.specs.declared.kinds.Tran.{Tran}
use Rattle.timing_defs.specs.declared.kinds.Tran.TheVariants.{Rise, Fall}
use Rattle.timing_defs.specs.declared.library.CellPin.{CellPin}
use Rattle.timing_defs.specs.declared.netlist.Inst.{Inst}
use Rattle.timing_defs.specs.declared.design.Design.{Design}
use Rattle.timing_defs.specs.Netlist.{Pin, Node, same_tran, cell_of, cell_pin, cell_pins, inst_pins, both_nodes, net_of, is_driver, are_distinct}
use Rattle.timing_rules.specs.Clocking.{is_network, driver_on}
use Rattle.timing_rules.specs.Rows.{arcs_in, cell_arcs_in, net_arcs_in, library_arcs}
use Rattle.timing_defs.proofs.Members.{some_is, first_in, later_in, in_cases, none_in, found_by}
use Rattle.calm_laws.proofs.PairLaws.{filter_twice}

-- a pin of a cell with a transition
abbrev pub keys : List CellPin → List (CellPin × Tran)
keys [] = []
keys (p ∷ ps) = (p, Rise) ∷ (p, Fall) ∷ keys ps

abbrev pub key_node : Inst → CellPin × Tran → Node
key_node inst key = record { pin = cell_pin inst key.0; tran = key.1 }

abbrev pub inst_keys : Design → Inst → List (CellPin × Tran)
inst_keys d inst = keys (cell_pins (cell_of d Late inst))

pub nodes_keyed : (inst : Inst) (ps : List CellPin) → flat_map both_nodes (map (cell_pin inst) ps) ≡ map (key_node inst) (keys ps)
nodes_keyed inst [] = refl
nodes_keyed inst (p ∷ ps) =
    flat_map-cons both_nodes (cell_pin inst p) (map (cell_pin inst) ps)
    ∙ ap (λ ns. key_node inst (p, Rise) ∷ key_node inst (p, Fall) ∷ ns) (nodes_keyed inst ps)

pub key_pin : (ps : List CellPin) (key : CellPin × Tran) → Contains (keys ps) key → Contains ps key.0
key_pin [] key c = absurd (none_in key c)
key_pin (p ∷ ps) key c = elim (in_cases (p, Rise) ((p, Fall) ∷ keys ps) key c) [
  | inl e ↦ subst (λ (k : CellPin × Tran). Contains (p ∷ ps) k.0) e (first_in p ps)
  | inr r ↦ elim (in_cases (p, Fall) (keys ps) key r) [
    | inl e ↦ subst (λ (k : CellPin × Tran). Contains (p ∷ ps) k.0) e (first_in p ps)
    | inr s ↦ later_in p ps key.0 (key_pin ps key s)
  ]
]

pub tran_is : (a b : Tran) → same_tran a b ≡ true → a ≡ b
tran_is Rise Rise e = refl
tran_is Rise Fall e = absurd (false≢true e)
tran_is Fall Rise e = absurd (false≢true e)
tran_is Fall Fall e = refl

-- pins of distinct names are told by them
pub one_key : (ps : List CellPin) → are_distinct (map (λ (p : CellPin). p.name) ps) ≡ true → (a b : CellPin × Tran) → Contains (keys ps) a → Contains (keys ps) b
    → a.0.name ≡ b.0.name → a.1 ≡ b.1 → a ≡ b
one_key ps apart a b ca cb name tran =
    let fa : find (λ (p : CellPin). bytes_eq p.name a.0.name) ps ≡ Some a.0 = found_by (λ (p : CellPin). p.name) ps a.0 apart (key_pin ps a ca) in
    let fb : find (λ (p : CellPin). bytes_eq p.name b.0.name) ps ≡ Some b.0 = found_by (λ (p : CellPin). p.name) ps b.0 apart (key_pin ps b cb) in
    let same : a.0 ≡ b.0 = some_is (sym fa ∙ ap (λ n. find (λ (p : CellPin). bytes_eq p.name n) ps) name ∙ fb) in
    λ k. (same k, tran k)

-- whether an arc leads from one node to another, and into a clock network
abbrev pub leads : Design → Node → Node → Bool
leads d to from = nat_lt 0 (length (library_arcs d Late from to))

abbrev pub enters : Design → Node → Node → Bool
enters d to from = not (is_network d to.pin) || is_network d from.pin

-- the arcs into a node by its sort
module _ (d : Design) (to : Node) where
  pub into_output : (inst : Inst) → is_driver to.pin ≡ true → to.pin.owner ≡ Some inst
      → arcs_in d to ≡ filter (λ from. leads d to from && enters d to from) (map (key_node inst) (inst_keys d inst))
  unfolding arcs_in
  into_output inst drives owner =
      ap (filter (enters d to))
      (ap (λ b. if b then option_map_or (cell_arcs_in d to) to.pin.owner [] else net_arcs_in d to) drives
      ∙ ap (λ o. option_map_or (cell_arcs_in d to) o []) owner)
      ∙ filter_twice (leads d to) (enters d to) (flat_map both_nodes (inst_pins d inst))
      ∙ ap (filter (λ from. leads d to from && enters d to from)) (nodes_keyed inst (cell_pins (cell_of d Late inst)))

  pub into_port : is_driver to.pin ≡ true → to.pin.owner ≡ None → arcs_in d to ≡ []
  unfolding arcs_in
  into_port drives owner =
      ap (filter (enters d to))
      (ap (λ b. if b then option_map_or (cell_arcs_in d to) to.pin.owner [] else net_arcs_in d to) drives
      ∙ ap (λ o. option_map_or (cell_arcs_in d to) o []) owner)

  pub into_sink : is_driver to.pin ≡ false
      → arcs_in d to ≡ filter (enters d to) (map (λ (pin : Pin). record { pin = pin; tran = to.tran }) (driver_on d (net_of to.pin)))
  unfolding arcs_in
  into_sink sinks =
      ap (filter (enters d to)) (ap (λ b. if b then option_map_or (cell_arcs_in d to) to.pin.owner [] else net_arcs_in d to) sinks)
