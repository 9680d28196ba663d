-- Where timing paths start: at input ports, clocks' ports at 0.

use Rattle.std.proofs.Common.{◌≡◌, ℕ, ℤ, pos, Bool, true, false, not, List, [], ◌∷◌, Option, None, Some, refl, sym, ap, subst, ◌∙◌, inl, inr}
use Rattle.std.specs.Prelude.{Contains, filter, ◌&&◌, ◌||◌, if◌then◌else◌, find, option_map, option_and_then}
use Rattle.std.specs.List.{list_any}
use Rattle.std.specs.Option.{option_map_or}
use Rattle.std.specs.Str.{bytes_eq}
use Rattle.std.proofs.lemmas.Bool.{cases_Bool, false≢true, and_parts, and_from}
use Rattle.timing_defs.specs.declared.kinds.Split.{Split}
use Rattle.timing_defs.specs.declared.kinds.Dir.TheVariants.{Input}
use Rattle.timing_defs.specs.declared.kinds.Tran.{Tran}
use Rattle.timing_defs.specs.declared.kinds.Tran.TheVariants.{Rise}
use Rattle.timing_defs.specs.declared.netlist.Inst.{Inst}
use Rattle.timing_defs.specs.declared.design.Design.{Design}
use Rattle.timing_defs.specs.Netlist.{Pin, Node, is_driver, drives_as, same_tran, same_dir}
use Rattle.timing_defs.specs.Wires.{first_some}
use Rattle.timing_rules.specs.Clocking.{is_network, is_clock_port, port_has_clock}
use Rattle.timing_rules.specs.Rows.{arcs_in, net_arcs_in, cell_arcs_in, is_input_port, is_clock_at, input_delay, start_at, launch_edges}
use Rattle.timing_rules.specs.Tests.{edge_of_port}
use Rattle.timing_rules.specs.Paths.{Named, node_named, start_of}
use Rattle.pin_graph.proofs.JoinLaws.{then_back, mapped_back}
use Rattle.path_search.proofs.Prefixes.{first_back}

-- a node that starts on an edge, at a time
pub record IsStarted (d : Design) (split : Split) (n : Named) (edge : ℕ × Tran) (time : ℤ) : Type 0 where
  pub node : Node
  pub its : node_named d n ≡ Some node
  pub launched : Contains (launch_edges d) edge
  pub start : start_at d split node edge ≡ Some time

pub started : (d : Design) (split : Split) (n : Named) (edge : ℕ × Tran) (time : ℤ) → start_of d split n ≡ Some (edge, time) → IsStarted d split n edge time
started d split n edge time e =
    let a = then_back (λ node. first_some (λ g. option_map {U = (ℕ × Tran) × ℤ} (λ at. (g, at)) (start_at d split node g)) (launch_edges d)) (node_named d n) (edge, time) e in
    let b = first_back (λ g. option_map {U = (ℕ × Tran) × ℤ} (λ at. (g, at)) (start_at d split a.0 g)) (launch_edges d) (edge, time) a.2 in
    let c = mapped_back {Y = (ℕ × Tran) × ℤ} (λ at. (b.0, at)) (start_at d split a.0 b.0) (edge, time) b.2 in
    let same : b.0 ≡ edge = ap (λ (p : (ℕ × Tran) × ℤ). p.0) c.2 in
    let at : c.0 ≡ time = ap (λ (p : (ℕ × Tran) × ℤ). p.1) c.2 in
    record {
      node = a.0;
      its = a.1;
      launched = subst (λ (g : ℕ × Tran). Contains (launch_edges d) g) same b.1;
      start = ap (start_at d split a.0) (sym same) ∙ c.1 ∙ ap Some at;
    }

-- what starts is an input port
pub starts_in : (d : Design) (split : Split) (node : Node) (edge : ℕ × Tran) (time : ℤ) → start_at d split node edge ≡ Some time → is_input_port node.pin ≡ true
starts_in d split node edge time e = by (is_input_port node.pin) refl
  where
    by : (b : Bool) → is_input_port node.pin ≡ b → b ≡ true
    by true h = refl
    by false h =
        let f : None ≡ Some time =
        sym (ap (λ (b : Bool). if not b then None else (if is_clock_port d node.pin
        then (if is_clock_at d.constraints.clocks edge.0 node.pin.own && same_tran edge.1 node.tran then Some (pos 0) else None)
        else (if same_tran edge.1 Rise then input_delay d.constraints.inputs split node edge.0 else None))) h) ∙ e in
        absurd (cc)

pub input_owner : (p : Pin) → is_input_port p ≡ true → p.owner ≡ None
input_owner p e = by p.owner refl
  where
    by : (o : Option Inst) → p.owner ≡ o → o ≡ None
    by None own = refl
    by (Some inst) own =
        let f : (false && is_driver p) ≡ true = sym (ap (λ o. option_map_or (λ (i : Inst). false) o true && is_driver p) own) ∙ e in
        absurd (false≢true f)

-- a clock's port is an input port
clock_input : (d : Design) (p : Pin) → is_clock_port d p ≡ true → is_input_port p ≡ true
clock_input d p e = by p.owner refl
  where
    by : (o : Option Inst) → p.owner ≡ o → is_input_port p ≡ true
    by (Some inst) own = absurd (false≢true (sym (ap (λ o. port_has_clock d.constraints.clocks o p) own) ∙ e))
    by None own =
        let f : port_has_clock d.constraints.clocks None p ≡ true = sym (ap (λ o. port_has_clock d.constraints.clocks o p) own) ∙ e in
        let g = and_parts (same_dir p.dir Input) (list_any (λ clock. option_map_or (bytes_eq p.own) clock.port false) d.constraints.clocks) f in
        let drives : is_driver p ≡ true = ap (λ o. drives_as o p.dir) own ∙ g.0 in
        let lone : option_map_or (λ (i : Inst). false) p.owner true ≡ true = ap (λ o. option_map_or (λ (i : Inst). false) o true) own in
        and_from (option_map_or (λ (i : Inst). false) p.owner true) (is_driver p) lone drives

abbrev at_zero : ℕ × Tran → (ℕ × Tran) × ℤ
at_zero edge = (edge, pos 0)

abbrev zero_where : (ℕ × Tran → Bool) → ℕ × Tran → Option ((ℕ × Tran) × ℤ)
zero_where p edge = option_map {U = (ℕ × Tran) × ℤ} (λ time. (edge, time)) (if p edge then Some (pos 0) else None)

first_found : (p : ℕ × Tran → Bool) (xs : List (ℕ × Tran)) → first_some (zero_where p) xs ≡ option_map at_zero (find p xs)
first_found p [] = refl
first_found p (x ∷ xs) = elim (cases_Bool (p x)) [
  | inl e ↦ rw e refl
  | inr e ↦ rw e (first_found p xs)
]

-- a clock's port starts at 0, on the first edge of its clocks with its own transition
pub start_port : (d : Design) (split : Split) (n : Named) (node : Node) → node_named d n ≡ Some node → is_clock_port d node.pin ≡ true
    → start_of d split n ≡ option_map at_zero (edge_of_port d node)
start_port d split n node e port =
    let input = clock_input d node.pin port in
    ap (option_and_then (λ a. first_some (λ edge. option_map {U = (ℕ × Tran) × ℤ} (λ time. (edge, time)) (start_at d split a edge)) (launch_edges d))) e
    ∙ (λ k. first_some (λ edge. option_map {U = (ℕ × Tran) × ℤ} (λ time. (edge, time)) (if not (input k) then None else (if port k
    then (if is_clock_at d.constraints.clocks edge.0 node.pin.own && same_tran edge.1 node.tran then Some (pos 0) else None)
    else (if same_tran edge.1 Rise then input_delay d.constraints.inputs split node edge.0 else None)))) (launch_edges d))
    ∙ first_found (λ edge. is_clock_at d.constraints.clocks edge.0 node.pin.own && same_tran edge.1 node.tran) (launch_edges d)

pub started_port : (d : Design) (split : Split) (n : Named) (node : Node) (edge : ℕ × Tran) → node_named d n ≡ Some node → is_clock_port d node.pin ≡ true
    → edge_of_port d node ≡ Some edge → start_of d split n ≡ Some (edge, pos 0)
started_port d split n node edge e port f = start_port d split n node e port ∙ ap (option_map at_zero) f

pub port_started : (d : Design) (split : Split) (n : Named) (node : Node) (edge : ℕ × Tran) (time : ℤ) → node_named d n ≡ Some node → is_clock_port d node.pin ≡ true
    → start_of d split n ≡ Some (edge, time) → edge_of_port d node ≡ Some edge
port_started d split n node edge time e port f =
    let m = mapped_back at_zero (edge_of_port d node) (edge, time) (sym (start_port d split n node e port) ∙ f) in
    m.1 ∙ ap (λ (p : (ℕ × Tran) × ℤ). Some p.0) m.2

-- nothing leads to an input port
pub port_entered : (d : Design) (n : Node) → is_input_port n.pin ≡ true → arcs_in d n ≡ []
unfolding arcs_in
port_entered d n e =
    let own = input_owner n.pin e in
    let drives = (and_parts (option_map_or (λ (i : Inst). false) n.pin.owner true) (is_driver n.pin) e).1 in
    ap (filter (λ from. not (is_network d n.pin) || is_network d from.pin))
    (ap (λ (b : Bool). if b then option_map_or (cell_arcs_in d n) n.pin.owner [] else net_arcs_in d n) drives ∙ ap (λ o. option_map_or (cell_arcs_in d n) o []) own)
