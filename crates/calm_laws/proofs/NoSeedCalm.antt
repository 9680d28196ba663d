-- A node of a design that an ECO made, which is no seed, is calm.

use Rattle.std.proofs.Common.{◌≡◌, ℕ, true, false, List, Option, None, Some, refl, sym, ap, subst, ◌∙◌, inl, inr}
use Rattle.std.specs.Prelude.{Contains, option_map}
use Rattle.std.specs.Option.{option_map_or}
use Rattle.std.specs.Str.{bytes_eq}
use Rattle.std.proofs.lemmas.Bool.{true≢false}
use Rattle.timing_defs.specs.declared.kinds.Tran.{Tran}
use Rattle.timing_defs.specs.declared.netlist.Inst.{Inst}
use Rattle.timing_defs.specs.declared.design.Design.{Design}
use Rattle.timing_defs.specs.Netlist.{Pin, Node, name_of, net_of, pins, pin_named, is_listed}
use Rattle.timing_rules.specs.Paths.{named, node_named}
use Rattle.timing_defs.specs.Touches.{Touch}
use Rattle.timing_rules.specs.Cones.{is_seed}
use Rattle.timing_defs.proofs.Members.{some_is, found_in, found_by}
use Rattle.netlist_store.specs.Numbering.{Stored}
use Rattle.netlist_store.specs.Applying.{IsEditOf}
use Rattle.netlist_store.proofs.Untouched.{IsLeft, IsFramed}
use Rattle.store_pins.proofs.PinNames.{pins_apart}
use Rattle.eco_laws.specs.Kept.{IsAlikePin, IsPinKept, names_touched_inst}
use Rattle.eco_laws.proofs.NetsLeft.{driver_left, net_load_left, wire_delay_left, wire_slew_left, net_wires_within_left}
use Rattle.eco_laws.proofs.PinsKept.{owner_told}
use Rattle.eco_laws.proofs.EditOf.{base_linked, edited_linked, framed_of, left_of, pin_kept_of}
use Rattle.calm_laws.proofs.Calm.{IsNetKept, IsCalm}
use Rattle.calm_laws.proofs.KnownCells.{owner_known}
use Rattle.calm_laws.proofs.NoSeeds.{IsNoSeed, no_seed}

-- a net that is left
pub net_kept : (d d2 : Design) (net : List ℕ) → IsLeft net d d2 → IsFramed d d2 → IsNetKept d d2 net
net_kept d d2 net left framed = record {
  driver = driver_left net d d2 left framed;
  load = net_load_left net d d2 left framed;
  delay = λ split from to from2 to2 e f. wire_delay_left net d d2 left framed from from2 to to2 e f split;
  slew = λ split from to from2 to2 e f x. wire_slew_left net d d2 left framed from from2 to to2 e f split x;
  within = net_wires_within_left net d d2 left framed;
}

-- the node of a name
module _ (d : Design) (name : List ℕ) (tran : Tran) (n : Node) (told : node_named d (name, tran) ≡ Some n) where
  pub record IsNamed : Type 0 where
    pub pin : pin_named d name ≡ Some n.pin
    pub turned : n.tran ≡ tran
    pub within : Contains (pins d) n.pin

  pub named_node : IsNamed
  named_node = by (pin_named d name) refl
    where
      by : (o : Option Pin) → pin_named d name ≡ o → IsNamed
      by None e = let f : None ≡ Some n = sym (ap (option_map (λ (pin : Pin). record { pin = pin; tran = tran })) e) ∙ told in absurd (cc)
      by (Some p) e =
          let f : Some (record { pin = p; tran = tran }) ≡ Some n = sym (ap (option_map (λ (pin : Pin). record { pin = pin; tran = tran })) e) ∙ told in
          let g = some_is f in
          record {
            pin = e ∙ ap (λ (m : Node). Some m.pin) g;
            turned = ap (λ (m : Node). m.tran) (sym g);
            within = found_in (λ (q : Pin). bytes_eq (name_of q) name) (pins d) n.pin (e ∙ ap (λ (m : Node). Some m.pin) g);
          }

-- the node that the base has in place of a calm one
pub record HasCalm (d d2 : Design) (n2 : Node) : Type 0 where
  pub node : Node
  pub told : node_named d (named n2) ≡ Some node
  pub within : Contains (pins d) node.pin
  pub calm : IsCalm d d2 node n2
  pub left : (net : List ℕ) → net_of node.pin ≡ Some net → IsLeft net d d2

module _ (base : Stored) (touch : Touch) (edited : Stored) (made : IsEditOf base touch edited)
    (n2 : Node) (there : Contains (pins edited.design) n2.pin) (none : is_seed base.design edited.design touch n2 ≡ false) where
  untouched : IsNoSeed base.design edited.design touch n2
  untouched = no_seed base.design edited.design touch n2 none

  was : IsNamed base.design (name_of n2.pin) n2.tran untouched.node untouched.told
  was = named_node base.design (name_of n2.pin) n2.tran untouched.node untouched.told

  now : pin_named edited.design (name_of n2.pin) ≡ Some n2.pin
  now = found_by name_of (pins edited.design) n2.pin (pins_apart edited.design (edited_linked base touch edited made)) there

  free : names_touched_inst touch (name_of n2.pin) ≡ false
  free = sym (owner_told edited.design (edited_linked base touch edited made) touch.insts (name_of n2.pin) n2.pin now) ∙ by n2.pin.owner refl
    where
      by : (o : Option Inst) → n2.pin.owner ≡ o → option_map_or (λ (i : Inst). is_listed touch.insts i.name) n2.pin.owner false ≡ false
      by None e = ap (λ o. option_map_or (λ (i : Inst). is_listed touch.insts i.name) o false) e
      by (Some i) e = ap (λ o. option_map_or (λ (j : Inst). is_listed touch.insts j.name) o false) e ∙ untouched.inst i e

  alike : IsAlikePin touch.nets untouched.node.pin n2.pin
  alike =
      subst (λ o. IsPinKept touch.nets (Some untouched.node.pin) o) now
      (subst (λ o. IsPinKept touch.nets o (pin_named edited.design (name_of n2.pin))) was.pin (pin_kept_of base touch edited made (name_of n2.pin) free))

  net_same : net_of n2.pin ≡ net_of untouched.node.pin
  net_same = elim alike.joined [
    | inl e ↦ sym e
    | inr e ↦ absurd (by (net_of n2.pin) refl e.1)
  ]
    where
      by : (o : Option (List ℕ)) → net_of n2.pin ≡ o → option_map_or (is_listed touch.nets) (net_of n2.pin) false ≡ true → ⊥
      by None e h = true≢false (sym h ∙ ap (λ o. option_map_or (is_listed touch.nets) o false) e)
      by (Some net) e h = true≢false (sym h ∙ ap (λ o. option_map_or (is_listed touch.nets) o false) e ∙ untouched.net net e)

  pub no_seed_calm : HasCalm base.design edited.design n2
  no_seed_calm = record {
    node = untouched.node;
    told = untouched.told;
    within = was.within;
    left = λ net e. left_of base touch edited made net (untouched.net net (net_same ∙ e));
    calm = record {
      framed = framed_of base touch edited made;
      kept = record { alike = record { pin = alike.alike; tran = sym was.turned }; net = net_same };
      nets = λ net e. net_kept base.design edited.design net (left_of base touch edited made net (untouched.net net (net_same ∙ e))) (framed_of base touch edited made);
      network = untouched.network;
      arcs = untouched.arcs;
      cells = owner_known base.design (base_linked base touch edited made) untouched.node.pin was.within;
    };
  }
