-- Nodes and their names, and the arcs between nodes that are named.

use Rattle.std.proofs.Common.{◌≡◌, ℤ, Bool, true, false, Option, None, Some, refl, sym, ap, subst, ◌∙◌}
use Rattle.std.specs.Prelude.{Contains, if◌then◌else◌, option_map, option_and_then}
use Rattle.std.specs.List.{list_any}
use Rattle.std.specs.Option.{option_map_or}
use Rattle.std.specs.Str.{bytes_eq}
use Rattle.std.proofs.lemmas.Bool.{false≢true, and_parts, and_from}
use Rattle.timing_defs.specs.declared.kinds.Split.{Split}
use Rattle.timing_defs.specs.declared.kinds.Tran.{Tran}
use Rattle.timing_defs.specs.declared.kinds.Tran.TheVariants.{Rise, Fall}
use Rattle.timing_defs.specs.declared.design.Design.{Design}
use Rattle.timing_defs.specs.Netlist.{Pin, Node, name_of, pins, pin_named, same_pin, same_tran, same_node}
use Rattle.timing_rules.specs.Clocking.{is_network}
use Rattle.timing_rules.specs.Rows.{arcs_in, delay}
use Rattle.timing_rules.specs.Paths.{Named, named, node_named, is_network_named, same_named, arc_delay, delay_between}
use Rattle.timing_defs.proofs.SameNames.{same_is, same_self}
use Rattle.timing_defs.proofs.Members.{some_is, any_in, any_back, found_in, found_passes}
use Rattle.pin_graph.proofs.JoinLaws.{then_back, mapped_back}
use Rattle.path_search.specs.Runs.{IsTimed}

same_trans : (a b : Tran) → same_tran a b ≡ true → a ≡ b
same_trans Rise Rise e = refl
same_trans Rise Fall e = absurd (false≢true e)
same_trans Fall Rise e = absurd (false≢true e)
same_trans Fall Fall e = refl

tran_self : (a : Tran) → same_tran a a ≡ true
tran_self Rise = refl
tran_self Fall = refl

pub named_is : (a b : Named) → same_named a b ≡ true → a ≡ b
named_is a b e =
    let p = and_parts (bytes_eq a.0 b.0) (same_tran a.1 b.1) e in
    let name = same_is a.0 b.0 p.0 in
    let tran = same_trans a.1 b.1 p.1 in
    λ k. (name k, tran k)

-- what stands where a test is passed
when_some : {X : Type 0} (b : Bool) (o : Option X) (x : X) → (if b then o else None) ≡ Some x → (b ≡ true) × (o ≡ Some x)
when_some true o x e = (refl, e)
when_some false o x e = absurd (cc)

-- an arc between the nodes of two names, with its delay
pub record IsJoined (d : Design) (split : Split) (n m : Named) (time : ℤ) : Type 0 where
  pub from : Node
  pub from_named : node_named d n ≡ Some from
  pub to : Node
  pub to_named : node_named d m ≡ Some to
  pub arc : Contains (arcs_in d to) from
  pub takes : delay d split from to ≡ Some time

module _ (d : Design) (t : IsTimed d) where
  pub named_back : (n : Node) → Contains (pins d) n.pin → node_named d (named n) ≡ Some n
  named_back n c = ap (option_map (λ pin. record { pin = pin; tran = n.tran })) (t.found n.pin c)

  pub name_told : (x : Named) (n : Node) → node_named d x ≡ Some n → Contains (pins d) n.pin × (named n ≡ x)
  name_told x n e =
      let m = mapped_back (λ (pin : Pin). record { pin = pin; tran = x.1 }) (pin_named d x.0) n e in
      let pin : m.0 ≡ n.pin = ap (λ (a : Node). a.pin) m.2 in
      let tran : x.1 ≡ n.tran = ap (λ (a : Node). a.tran) m.2 in
      let name : name_of n.pin ≡ x.0 =
      ap name_of (sym pin) ∙ same_is (name_of m.0) x.0 (found_passes (λ (q : Pin). bytes_eq (name_of q) x.0) (pins d) m.0 m.1) in
      let back : n.tran ≡ x.1 = sym tran in (
        subst (λ (q : Pin). Contains (pins d) q) pin (found_in (λ (q : Pin). bytes_eq (name_of q) x.0) (pins d) m.0 m.1),
        λ k. (name k, back k),
      )

  pub network_named : (x : Named) (n : Node) → node_named d x ≡ Some n → is_network_named d x ≡ is_network d n.pin
  network_named x n e = ap (λ o. option_map_or (λ (a : Node). is_network d a.pin) o false) e

  pub network_of : (n : Node) → Contains (pins d) n.pin → is_network_named d (named n) ≡ is_network d n.pin
  network_of n c = network_named (named n) n (named_back n c)

  one_node : (a b : Node) → Contains (pins d) a.pin → Contains (pins d) b.pin → same_node a b ≡ true → a ≡ b
  one_node a b ca cb e =
      let p = and_parts (same_pin a.pin b.pin) (same_tran a.tran b.tran) e in
      let pin : a.pin ≡ b.pin = some_is (sym (t.found a.pin ca) ∙ ap (pin_named d) (same_is (name_of a.pin) (name_of b.pin) p.0) ∙ t.found b.pin cb) in
      let tran = same_trans a.tran b.tran p.1 in
      λ k. record { pin = pin k; tran = tran k }

  pub joined_back : (split : Split) (n m : Named) (time : ℤ) → delay_between d split n m ≡ Some time → IsJoined d split n m time
  joined_back split n m time e =
      let a = then_back (λ from. option_and_then (arc_delay d split from) (node_named d m)) (node_named d n) time e in
      let b = then_back (arc_delay d split a.0) (node_named d m) time a.2 in
      let w = when_some (list_any (same_node a.0) (arcs_in d b.0)) (delay d split a.0 b.0) time b.2 in
      let r = any_back (same_node a.0) (arcs_in d b.0) w.0 in
      let from = name_told n a.0 a.1 in
      let to = name_told m b.0 b.1 in
      let same : r.item ≡ a.0 = sym (one_node a.0 r.item from.0 (t.before b.0 to.0 r.item r.within) r.passes) in
      record {
        from = a.0;
        from_named = a.1;
        to = b.0;
        to_named = b.1;
        arc = subst (λ (x : Node). Contains (arcs_in d b.0) x) same r.within;
        takes = w.1;
      }

  pub joined_in : (split : Split) (from to : Node) → Contains (pins d) to.pin → Contains (arcs_in d to) from → delay_between d split (named from) (named to) ≡ delay d split from to
  joined_in split from to there c =
      let self : same_node from from ≡ true =
      and_from (same_pin from.pin from.pin) (same_tran from.tran from.tran) (same_self (name_of from.pin)) (tran_self from.tran) in
      ap (option_and_then (λ a. option_and_then (arc_delay d split a) (node_named d (named to)))) (named_back from (t.before to there from c))
      ∙ ap (option_and_then (arc_delay d split from)) (named_back to there)
      ∙ ap (λ (b : Bool). if b then delay d split from to else None) (any_in (same_node from) (arcs_in d to) from c self)
