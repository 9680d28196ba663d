-- The base and the edited design agree on the steps that an edit leaves.

use Rattle.std.proofs.Common.{◌≡◌, ℕ, ℤ, Bool, true, false, not, List, Option, None, Some, refl, sym, ap, ◌∙◌, inl, inr}
use Rattle.std.specs.Prelude.{is_some, option_map, option_and_then}
use Rattle.std.specs.Option.{option_map_or}
use Rattle.std.proofs.lemmas.Bool.{cases_Bool, and_parts, false≢true}
use Rattle.std.proofs.lemmas.Bool.Decides.{Decides-int_eq}
use Rattle.timing_defs.specs.declared.kinds.Split.{Split}
use Rattle.timing_defs.specs.declared.netlist.Inst.{Inst}
use Rattle.timing_defs.specs.declared.design.Design.{Design}
use Rattle.timing_defs.specs.Netlist.{Pin, Node, name_of, pin_named}
use Rattle.timing_rules.specs.Clocking.{is_network}
use Rattle.timing_defs.specs.Touches.{Touch}
use Rattle.timing_rules.specs.Cones.{is_seed}
use Rattle.timing_rules.specs.Rows.{start_at, launch_edges}
use Rattle.timing_defs.specs.Wires.{first_some}
use Rattle.timing_rules.specs.Paths.{Named, named, node_named, delay_between, start_of, is_network_named, owner_named}
use Rattle.timing_defs.proofs.Members.{some_is}
use Rattle.netlist_store.specs.Linked.{IsLinked}
use Rattle.netlist_store.specs.Numbering.{Stored, number_of, IsNumbered}
use Rattle.netlist_store.specs.Applying.{IsEditOf}
use Rattle.netlist_store.proofs.SeenPins.{seen_owner}
use Rattle.eco_laws.proofs.EditOf.{edited_linked, framed_of}
use Rattle.store_pins.proofs.PinLaws.{told_at, pin_at_number}
use Rattle.pin_graph.specs.Nodes.{node_number}
use Rattle.pin_graph.proofs.NodeLaws.{HasNode, node_told}
use Rattle.calm_laws.proofs.NoSeedCalm.{HasCalm, no_seed_calm}
use Rattle.calm_laws.proofs.AlikeLaws.{owner_same, edges_same, start_same}
use Rattle.calm_laws.proofs.QuietNodes.{told_node}
use Rattle.edit_reach.specs.Reach.{is_in, HasSeeds}
use Rattle.bounded_changes.specs.Agreed.{AreAgreed}
use Rattle.carried_times.specs.Unseeded.{is_unseeded, same_time, steps_left}

not_true : (b : Bool) → not b ≡ true → b ≡ false
not_true true e = absurd (false≢true e)
not_true false e = refl

pub same_is : (x y : Option ℤ) → same_time x y ≡ true → x ≡ y
same_is None None e = refl
same_is None (Some y) e = absurd (false≢true e)
same_is (Some x) None e = absurd (false≢true e)
same_is (Some x) (Some y) e = ap Some ((Decides-int_eq x y).0 e)

pub same_self : (x y : Option ℤ) → x ≡ y → same_time x y ≡ true
same_self None None e = refl
same_self None (Some y) e = absurd (cc)
same_self (Some x) None e = absurd (cc)
same_self (Some x) (Some y) e = (Decides-int_eq x y).1 (some_is e)

owner_by : (o o2 : Option Inst) → seen_owner o2 ≡ seen_owner o → option_map (λ (inst : Inst). inst.name) o2 ≡ option_map (λ (inst : Inst). inst.name) o
owner_by None None same = refl
owner_by None (Some j) same = absurd (cc)
owner_by (Some i) None same = absurd (cc)
owner_by (Some i) (Some j) same = ap (option_map (λ (p : List ℕ × List ℕ). p.0)) same

pin_told : (d : Design) (n : Named) (a : Node) → node_named d n ≡ Some a → pin_named d n.0 ≡ Some a.pin
pin_told d n a e = by (pin_named d n.0) e
  where
    by : (o : Option Pin) → option_map (λ (pin : Pin). record { pin = pin; tran = n.1 }) o ≡ Some a → o ≡ Some a.pin
    by None h = absurd (cc)
    by (Some p) h = ap Some (ap (λ (x : Node). x.pin) (some_is h))

module _ (base s : Stored) (touch : Touch) (made : IsEditOf base touch s) (num2 : IsNumbered s) (seeds : List ℕ) (all : HasSeeds base s touch seeds) where
  linked2 : IsLinked s.design
  linked2 = edited_linked base touch s made

  -- a node that is not among the seeds, with its number
  pub record HasUnseeded (n : Named) : Type 0 where
    pub number : ℕ
    pub node : Node
    pub has : HasNode s node number
    pub is_named : named node ≡ n
    pub off : is_in seeds number ≡ false

  pub unseeded_node : (n : Named) → is_unseeded s seeds n ≡ true → HasUnseeded n
  unseeded_node n q = by (number_of s.pins n.0) refl
    where
      by : (o : Option ℕ) → number_of s.pins n.0 ≡ o → HasUnseeded n
      by None e = absurd (false≢true (sym (ap (λ o. option_map_or (λ k. not (is_in seeds k)) (option_map (λ pin. node_number pin n.1) o) false) e) ∙ q))
      by (Some p) e =
          let at = told_at s.pins n.0 p e in
          let h = pin_at_number s num2 linked2 p (ap is_some at) in
          let name : name_of h.0 ≡ n.0 = some_is (sym h.1.name ∙ at) in
          record {
            number = node_number p n.1;
            node = record { pin = h.0; tran = n.1 };
            has = record { pin = p; has = h.1; number = refl };
            is_named = λ k. (name k, n.1);
            off = not_true (is_in seeds (node_number p n.1)) (sym (ap (λ o. option_map_or (λ k. not (is_in seeds k)) (option_map (λ pin. node_number pin n.1) o) false) e) ∙ q);
          }

  module _ (n : Named) (h : HasUnseeded n) where
    no_seed : is_seed base.design s.design touch h.node ≡ false
    no_seed = elim (cases_Bool (is_seed base.design s.design touch h.node)) [
      | inl e ↦ absurd (false≢true (sym h.off ∙ all.each h.number h.node (node_told s h.node h.number h.has) e))
      | inr e ↦ e
    ]

    -- the base has it too, and all that the edit leaves of it
    pub calm : HasCalm base.design s.design h.node
    calm = no_seed_calm base touch s made h.node h.has.has.within no_seed

    pub told : node_named base.design n ≡ Some calm.node
    told = sym (ap (node_named base.design) h.is_named) ∙ calm.told

    pub told2 : node_named s.design n ≡ Some h.node
    told2 = sym (ap (node_named s.design) h.is_named) ∙ told_node s.design linked2 h.node h.has.has.within

    starts_same : (split : Split) → start_of s.design split n ≡ start_of base.design split n
    starts_same split =
        ap (option_and_then (λ (node : Node). first_some (λ edge. option_map (λ time. (edge, time)) (start_at s.design split node edge)) (launch_edges s.design))) told2
        ∙ sym (λ k. first_some (λ edge. option_map (λ time. (edge, time)) (start_same base.design s.design calm.calm.framed calm.node h.node calm.calm.kept.alike split edge k)) (edges_same base.design s.design calm.calm.framed k))
        ∙ sym (ap (option_and_then (λ (node : Node). first_some (λ edge. option_map (λ time. (edge, time)) (start_at base.design split node edge)) (launch_edges base.design))) told)

    network_same : is_network_named s.design n ≡ is_network_named base.design n
    network_same =
        ap (λ o. option_map_or (λ (node : Node). is_network s.design node.pin) o false) told2
        ∙ calm.calm.network
        ∙ sym (ap (λ o. option_map_or (λ (node : Node). is_network base.design node.pin) o false) told)

    owners_same : owner_named s.design n.0 ≡ owner_named base.design n.0
    owners_same =
        ap (option_and_then (λ (pin : Pin). option_map (λ (inst : Inst). inst.name) pin.owner)) (pin_told s.design n h.node told2)
        ∙ owner_by calm.node.pin.owner h.node.pin.owner (owner_same calm.node h.node calm.calm.kept.alike)
        ∙ sym (ap (option_and_then (λ (pin : Pin). option_map (λ (inst : Inst). inst.name) pin.owner)) (pin_told base.design n calm.node told))

  to_unseeded : (split : Split) (before : Option Named) (n : Named) → steps_left base.design s split seeds before n ≡ true → is_unseeded s seeds n ≡ true
  to_unseeded split None n e = e
  to_unseeded split (Some m) n e = (and_parts (is_unseeded s seeds n) (same_time (delay_between s.design split m n) (delay_between base.design split m n)) e).0

  pub agreed_left : (split : Split) → AreAgreed base.design s.design split (steps_left base.design s split seeds)
  agreed_left split = record {
    constraints = (framed_of base touch s made).constraints;
    starts = λ n q. starts_same n (unseeded_node n q) split;
    delays = λ m n q.
        same_is (delay_between s.design split m n) (delay_between base.design split m n)
        (and_parts (is_unseeded s seeds n) (same_time (delay_between s.design split m n) (delay_between base.design split m n)) q).1;
    network = λ before n q. network_same n (unseeded_node n (to_unseeded split before n q));
    owners = λ before n q. owners_same n (unseeded_node n (to_unseeded split before n q));
  }
