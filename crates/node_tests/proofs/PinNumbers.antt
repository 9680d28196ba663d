-- The nodes of the pins of an instance's cell, by their numbers.

use Rattle.std.proofs.Common.{◌≡◌, ℕ, ◌<◌, ◌^◌, List, ◌∷◌, ◌++◌, Option, None, Some, refl, sym, ap, subst, ◌∙◌, arith}
use Rattle.std.specs.Prelude.{Contains, option_map, option_and_then}
use Rattle.timing_defs.specs.declared.kinds.Split.TheVariants.{Late}
use Rattle.timing_defs.specs.declared.kinds.Tran.{Tran}
use Rattle.timing_defs.specs.declared.library.CellPin.{CellPin}
use Rattle.timing_defs.specs.declared.netlist.Inst.{Inst}
use Rattle.timing_defs.specs.Netlist.{Pin, pins, pin_named, full_name, cell_of, cell_pin, cell_pins}
use Rattle.netlist_store.specs.Numbering.{Stored, inst_numbered, pin_numbered, IsNumbered}
use Rattle.netlist_store.specs.Linked.{IsLinked}
use Rattle.pin_graph.specs.Nodes.{node_at, node_bound, node_number, number_at}
use Rattle.timing_defs.proofs.Members.{some_is}
use Rattle.store_pins.proofs.PinLaws.{HasNumber, IsOwner, pin_found, pin_told, pin_of_number, inst_of_number, owner_told, own_in}
use Rattle.pin_graph.proofs.JoinLaws.{mapped_back}
use Rattle.pin_graph.proofs.NodeLaws.{HasNode, node_told, node_below}
use Rattle.node_tests.specs.Registers.{pin_node, late_pins, IsPinOf}

module _ (g s : Stored) (same : g ≡ s) (num : IsNumbered s) (linked : IsLinked s.design) (inst : ℕ) (pin : CellPin) (tran : Tran) (c : Contains (late_pins s inst) pin)
    (i : Inst) (its : inst_numbered s inst ≡ Some i) (word : List ℕ) (named : word ≡ i.name ++ 58 ∷ pin.name) where
  pub node_is : pin_node s inst pin tran ≡ Some (record { pin = cell_pin i pin; tran = tran })
  node_is = ap (option_map (λ (j : Inst). record { pin = cell_pin j pin; tran = tran })) its

  pub pin_in : Contains (pins s.design) (cell_pin i pin)
  pin_in =
      own_in s.design linked i pin (inst_of_number s num linked inst i its).within
      (subst (λ (o : Option Inst). Contains (cell_pins (option_and_then (cell_of s.design Late) o)) pin) its c)

  has_number : (k : ℕ) → Some k ≡ number_at s word tran → HasNode s (record { pin = cell_pin i pin; tran = tran }) k
  has_number k e =
      let p = pin_told s num linked (cell_pin i pin) pin_in in
      record {
        pin = p.0;
        has = p.1;
        number = some_is (e ∙ ap (λ w. number_at s w tran) named ∙ ap (option_map (λ n. node_number n tran)) p.1.number);
      }

  pub number_found : (k : ℕ) → Some k ≡ number_at g word tran → (node_at s k ≡ pin_node s inst pin tran) × (k < node_bound s)
  number_found k e =
      let h = has_number k (e ∙ ap (λ (z : Stored). number_at z word tran) same) in
      (node_told s (record { pin = cell_pin i pin; tran = tran }) k h ∙ sym node_is, node_below s (record { pin = cell_pin i pin; tran = tran }) k h)

  pub number_there : None ≡ number_at g word tran → ⊥
  number_there e =
      let p = pin_told s num linked (cell_pin i pin) pin_in in
      let f : None ≡ Some (node_number p.0 tran) =
      e ∙ ap (λ (z : Stored). number_at z word tran) same ∙ ap (λ w. number_at s w tran) named ∙ ap (option_map (λ n. node_number n tran)) p.1.number in
      cc

-- a number that is that of the pin
module _ (s : Stored) (num : IsNumbered s) (linked : IsLinked s.design) (inst : ℕ) (pin : CellPin) (tran : Tran) (c : Contains (late_pins s inst) pin)
    (word : List ℕ) (named : word ≡ pin.name) (number : ℕ) (is : IsPinOf s inst word number) where
  own : (p : Pin) × (pin_numbered s number ≡ Some p) × (p.own ≡ word)
  own = mapped_back (λ (p : Pin). p.own) (pin_numbered s number) word is.own

  has : HasNumber s own.0 number
  has = pin_of_number s num linked number own.0 own.1

  owner : IsOwner s own.0 inst
  owner = owner_told s num linked number inst own.0 own.1 is.owner

  abbrev full : List ℕ
  full = owner.inst.name ++ 58 ∷ pin.name

  same_pin : own.0 ≡ cell_pin owner.inst pin
  same_pin =
      some_is
      (sym (pin_found s num linked own.0 has.within)
      ∙ ap (λ o. pin_named s.design (full_name o own.0.own)) owner.owns
      ∙ ap (λ w. pin_named s.design (owner.inst.name ++ 58 ∷ w)) (own.2 ∙ named)
      ∙ pin_found s num linked (cell_pin owner.inst pin) (pin_in s s refl num linked inst pin tran c owner.inst owner.there.inst full refl))

  its_node : HasNode s (record { pin = cell_pin owner.inst pin; tran = tran }) (node_number number tran)
  its_node = record { pin = number; has = subst (λ (q : Pin). HasNumber s q number) same_pin has; number = refl }

  pub near_low : number < 2 ^ 31
  near_low = let low = has.below in let few = num.pins.below in omega arith

  pub near_found : (k : ℕ) → k ≡ node_number number tran → (node_at s k ≡ pin_node s inst pin tran) × (k < node_bound s)
  near_found k e =
      let h = subst (HasNode s (record { pin = cell_pin owner.inst pin; tran = tran })) (sym e) its_node in (
        node_told s (record { pin = cell_pin owner.inst pin; tran = tran }) k h
            ∙ sym (node_is s s refl num linked inst pin tran c owner.inst owner.there.inst full refl),
        node_below s (record { pin = cell_pin owner.inst pin; tran = tran }) k h,
      )
