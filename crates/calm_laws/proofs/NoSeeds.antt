-- What it says of a node of the edited design that it is no seed.

use Rattle.std.proofs.Common.{◌≡◌, ℕ, Bool, true, false, List, Option, None, Some, refl, sym, ap, ◌∙◌}
use Rattle.std.specs.Prelude.{not, ◌||◌}
use Rattle.std.specs.Option.{option_map_or}
use Rattle.std.proofs.lemmas.Bool.{true≢false}
use Rattle.timing_defs.specs.declared.netlist.Inst.{Inst}
use Rattle.timing_defs.specs.declared.design.Design.{Design}
use Rattle.timing_defs.specs.Netlist.{Node, net_of, is_listed}
use Rattle.timing_rules.specs.Clocking.{is_network}
use Rattle.timing_rules.specs.Paths.{named, node_named}
use Rattle.timing_defs.specs.Touches.{Touch}
use Rattle.timing_rules.specs.Cones.{same_truth, differs_by, same_arcs, is_touched, is_seed}
use Rattle.calm_laws.proofs.ArcsKept.{truths}

pub either_none : (a b : Bool) → (a || b) ≡ false → (a ≡ false) × (b ≡ false)
either_none false b h = (refl, h)
either_none true b h = absurd (true≢false h)

pub not_false : (b : Bool) → not b ≡ false → b ≡ true
not_false true h = refl
not_false false h = absurd (true≢false h)

-- a node that is no seed: the base has one of its name with the same arcs in, both in a clock network or neither, and
-- neither its net nor its instance was touched
pub record IsNoSeed (d d2 : Design) (touch : Touch) (n2 : Node) : Type 0 where
  pub node : Node
  pub told : node_named d (named n2) ≡ Some node
  pub arcs : same_arcs d d2 node n2 ≡ true
  pub network : is_network d2 n2.pin ≡ is_network d node.pin
  pub net : (net : List ℕ) → net_of n2.pin ≡ Some net → is_listed touch.nets net ≡ false
  pub inst : (inst : Inst) → n2.pin.owner ≡ Some inst → is_listed touch.insts inst.name ≡ false

module _ (d d2 : Design) (touch : Touch) (n2 : Node) (none : is_seed d d2 touch n2 ≡ false) where
  pub no_seed : IsNoSeed d d2 touch n2
  no_seed = by (node_named d (named n2)) refl
    where
      parts : ((is_touched touch n2 || differs_by d (same_arcs d d2) n2) ≡ false) × (differs_by d (λ before now. same_truth (is_network d before.pin) (is_network d2 now.pin)) n2 ≡ false)
      parts = either_none (is_touched touch n2 || differs_by d (same_arcs d d2) n2) (differs_by d (λ before now. same_truth (is_network d before.pin) (is_network d2 now.pin)) n2) none

      firsts : (is_touched touch n2 ≡ false) × (differs_by d (same_arcs d d2) n2 ≡ false)
      firsts = either_none (is_touched touch n2) (differs_by d (same_arcs d d2) n2) parts.0

      untouched : (option_map_or (is_listed touch.nets) (net_of n2.pin) false ≡ false) × (option_map_or (λ (i : Inst). is_listed touch.insts i.name) n2.pin.owner false ≡ false)
      untouched = either_none (option_map_or (is_listed touch.nets) (net_of n2.pin) false) (option_map_or (λ (i : Inst). is_listed touch.insts i.name) n2.pin.owner false) firsts.0

      by : (o : Option Node) → node_named d (named n2) ≡ o → IsNoSeed d d2 touch n2
      by None e = absurd (true≢false (sym (ap (λ o. option_map_or (λ before. not (same_arcs d d2 before n2)) o true) e) ∙ firsts.1))
      by (Some n) e = record {
        node = n;
        told = e;
        arcs = not_false (same_arcs d d2 n n2) (sym (ap (λ o. option_map_or (λ before. not (same_arcs d d2 before n2)) o true) e) ∙ firsts.1);
        network = sym (truths (is_network d n.pin) (is_network d2 n2.pin) (not_false (same_truth (is_network d n.pin) (is_network d2 n2.pin))
            (sym (ap (λ o. option_map_or (λ before. not (same_truth (is_network d before.pin) (is_network d2 n2.pin))) o true) e) ∙ parts.1)));
        net = λ net f. sym (ap (λ o. option_map_or (is_listed touch.nets) o false) f) ∙ untouched.0;
        inst = λ inst f. sym (ap (λ o. option_map_or (λ (i : Inst). is_listed touch.insts i.name) o false) f) ∙ untouched.1;
      }
