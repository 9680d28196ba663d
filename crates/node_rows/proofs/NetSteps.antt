-- What is found of a net without resistors, or of a gap.

use Rattle.std.proofs.Common.{◌≡◌, ℕ, Bool, true, false, not, ◌||◌, List, [], ◌∷◌, Option, None, Some, refl, sym, ap, subst, ◌∙◌}
use Rattle.std.specs.Prelude.{is_some, option_map, option_and_then}
use Rattle.std.specs.List.{list_all}
use Rattle.std.specs.Option.{option_map_or}
use Rattle.std.proofs.lemmas.Bool.{false≢true, and_from}
use Rattle.sta_units.specs.Numbers.{is_within}
use Rattle.timing_defs.specs.declared.kinds.Split.{Split}
use Rattle.timing_defs.specs.declared.kinds.Split.TheVariants.{Early, Late}
use Rattle.timing_defs.specs.declared.parasitics.RcNode.{RcNode}
use Rattle.timing_defs.specs.declared.parasitics.RcRes.{RcRes}
use Rattle.timing_defs.specs.declared.parasitics.NetRc.{NetRc}
use Rattle.timing_defs.specs.declared.design.Design.{Design}
use Rattle.timing_defs.specs.Netlist.{Pin, net_of}
use Rattle.timing_defs.specs.Wires.{sum_of, res_of, elmore, charges, root_node, net_load, rc_of, is_lumped}
use Rattle.timing_rules.specs.Range.{rc_nodes, root_of_net, wires_within, is_large_rc, is_net_origin}
use Rattle.netlist_store.specs.Numbering.{Stored, name_at, is_number}
use Rattle.node_rows.specs.declared.pin_wires.NetLoad.{NetLoad}
use Rattle.node_rows.specs.declared.pin_wires.PinWire.{PinWire}
use Rattle.node_rows.specs.WireTables.{IsWire, split_load}
use Rattle.node_rows.specs.NetTrees.{is_wide_net}
use Rattle.node_rows.specs.FoundNets.{AreNetWires, IsNetLoad}
use Rattle.timing_defs.proofs.Members.{some_is}
use Rattle.store_pins.proofs.PinLaws.{there}
use Rattle.store_pins.proofs.DriverLaws.{net_of_number}
use Rattle.node_rows.proofs.WireForms.{no_ress, no_delay, bare_wire, lumped_wire}

module _ (s : Stored) (net : ℕ) (old : List (Option PinWire)) where
  pub gap_wires : is_number s.nets net ≡ false → AreNetWires s net old old
  gap_wires none = record {
    len = refl;
    wired = λ bare pin to from told on sinks led. let k = net_of_number s pin net to told on in absurd (false≢true (sym none ∙ ap is_some k.told));
    kept = λ pin other on apart. refl;
  }

  no_wire : (d : Design) (from to : Pin) (name : List ℕ) → net_of to ≡ Some name → (o : Option NetRc) → rc_of d name ≡ o → option_map_or is_lumped o true ≡ true → IsWire d from to None
  no_wire d from to name on None e h = bare_wire d from to name on e
  no_wire d from to name on (Some rc) e h = lumped_wire d from to name on rc e h

  pub plain_wires : (rc : Option NetRc) → rc ≡ option_and_then (rc_of s.design) (name_at s.nets net) → option_map_or is_lumped rc true ≡ true → AreNetWires s net old old
  plain_wires rc is lumped = record {
    len = refl;
    wired = λ bare pin to from told on sinks led.
        (let k = net_of_number s pin net to told on in
        let its : rc_of s.design k.name ≡ rc = sym (ap (option_and_then (rc_of s.design)) k.told) ∙ sym is in
        subst (λ (o : Option PinWire). IsWire s.design from to o) (sym (bare pin on)) (no_wire s.design from to k.name k.on rc its lumped));
    kept = λ pin other on apart. refl;
  }

pub gap_load : (s : Stored) (net : ℕ) (load : NetLoad) → is_number s.nets net ≡ false → IsNetLoad s net load
gap_load s net load none = record {
  is = λ split name named. absurd (false≢true (sym none ∙ ap is_some named));
  within = λ split name named. absurd (false≢true (sym none ∙ ap is_some named));
}

pub plain_load : (s : Stored) (net : ℕ) (load : NetLoad)
    → option_map (net_load s.design Early) (name_at s.nets net) ≡ Some load.early.0 → option_map (net_load s.design Late) (name_at s.nets net) ≡ Some load.late.0
    → is_within load.early.0 ≡ true → is_within load.late.0 ≡ true → IsNetLoad s net load
plain_load s net load early late fine_e fine_l = record { is = told; within = λ split name named. sym (ap is_within (told split name named)) ∙ fine split }
  where
    told : (split : Split) (name : List ℕ) → name_at s.nets net ≡ Some name → split_load split load ≡ net_load s.design split name
    told Early name named = sym (some_is (sym (ap (option_map (net_load s.design Early)) named) ∙ early))
    told Late name named = sym (some_is (sym (ap (option_map (net_load s.design Late)) named) ∙ late))

    fine : (split : Split) → is_within (split_load split load) ≡ true
    fine Early = fine_e
    fine Late = fine_l

-- a net without resistors is large by its loads alone
all_true : {X : Type 0} (p : X → Bool) → ((x : X) → p x ≡ true) → (xs : List X) → list_all p xs ≡ true
all_true p h [] = refl
all_true p h (x ∷ xs) = and_from (p x) (list_all p xs) (h x) (all_true p h xs)

module _ (d : Design) (rc : NetRc) (lumped : is_lumped rc ≡ true) where
  wires_fine : (split : Split) → wires_within d split rc ≡ true
  wires_fine split =
      all_true (λ (root : Pin). list_all (λ (k : RcNode). is_within (elmore rc.ress (root_node root) (charges d split rc) k)) (rc_nodes d split rc))
      (λ root. all_true (λ (k : RcNode). is_within (elmore rc.ress (root_node root) (charges d split rc) k))
      (λ k. ap is_within (no_delay rc.ress (root_node root) (charges d split rc) k lumped)) (rc_nodes d split rc))
      (root_of_net d rc)

  not_large : is_large_rc d rc ≡ false
  not_large =
      ap (λ (rs : List RcRes). not (is_within (sum_of res_of rs)) || (not (wires_within d Early rc) || not (wires_within d Late rc))) (no_ress rc.ress lumped)
      ∙ ap (λ b. not b || not (wires_within d Late rc)) (wires_fine Early)
      ∙ ap not (wires_fine Late)

plain_large : (d : Design) (o : Option NetRc) → option_map_or is_lumped o true ≡ true → option_map_or (is_large_rc d) o false ≡ false
plain_large d None h = refl
plain_large d (Some rc) h = not_large d rc h

module _ (s : Stored) (net : ℕ) (name : List ℕ) (named : name_at s.nets net ≡ Some name) where
  abbrev fine : Split → Bool
  fine split = is_within (net_load s.design split name)

  wide_is : is_wide_net s net ≡ ((not (fine Early) || not (fine Late)) || option_map_or (is_large_rc s.design) (rc_of s.design name) false)
  wide_is = ap (λ o. option_map_or (is_net_origin s.design) o false) named

  wrong_any : (a b c : Bool) → a ≡ false → ((not a || not b) || c) ≡ true
  wrong_any false b c h = refl
  wrong_any true b c h = absurd (false≢true (sym h))

  wrong_other : (a b c : Bool) → b ≡ false → ((not a || not b) || c) ≡ true
  wrong_other false b c h = refl
  wrong_other true false c h = refl
  wrong_other true true c h = absurd (false≢true (sym h))

  none_wrong : (a b c : Bool) → a ≡ true → b ≡ true → c ≡ false → ((not a || not b) || c) ≡ false
  none_wrong a b c h k m = rw (h, k, m) refl

  told_is : (split : Split) → option_map (λ n. is_within (net_load s.design split n)) (name_at s.nets net) ≡ Some false → fine split ≡ false
  told_is split e = some_is (sym (ap (option_map (λ n. is_within (net_load s.design split n))) named) ∙ e)

  pub wide_early : option_map (λ n. is_within (net_load s.design Early n)) (name_at s.nets net) ≡ Some false → is_wide_net s net ≡ true
  wide_early e = wide_is ∙ wrong_any (fine Early) (fine Late) (option_map_or (is_large_rc s.design) (rc_of s.design name) false) (told_is Early e)

  pub wide_late : option_map (λ n. is_within (net_load s.design Late n)) (name_at s.nets net) ≡ Some false → is_wide_net s net ≡ true
  wide_late e = wide_is ∙ wrong_other (fine Early) (fine Late) (option_map_or (is_large_rc s.design) (rc_of s.design name) false) (told_is Late e)

  pub plain_fine : option_map_or is_lumped (rc_of s.design name) true ≡ true → fine Early ≡ true → fine Late ≡ true → is_wide_net s net ≡ false
  plain_fine lumped h k =
      wide_is ∙ none_wrong (fine Early) (fine Late) (option_map_or (is_large_rc s.design) (rc_of s.design name) false) h k (plain_large s.design (rc_of s.design name) lumped)

-- the same, as the code has it
pub plain_fine_as : (s : Stored) (net : ℕ) → is_number s.nets net ≡ true → (rc : Option NetRc) → rc ≡ option_and_then (rc_of s.design) (name_at s.nets net)
    → option_map_or is_lumped rc true ≡ true → (load : NetLoad)
    → option_map (net_load s.design Early) (name_at s.nets net) ≡ Some load.early.0 → option_map (net_load s.design Late) (name_at s.nets net) ≡ Some load.late.0
    → is_within load.early.0 ≡ true → is_within load.late.0 ≡ true → is_wide_net s net ≡ false
plain_fine_as s net is rc its lumped load early late fine_e fine_l =
    let n = there (name_at s.nets net) is in
    let same : rc_of s.design n.0 ≡ rc = sym (ap (option_and_then (rc_of s.design)) n.1) ∙ sym its in
    plain_fine s net n.0 n.1
    (ap (λ o. option_map_or is_lumped o true) same ∙ lumped)
    (ap is_within (some_is (sym (ap (option_map (net_load s.design Early)) n.1) ∙ early)) ∙ fine_e)
    (ap is_within (some_is (sym (ap (option_map (net_load s.design Late)) n.1) ∙ late)) ∙ fine_l)
