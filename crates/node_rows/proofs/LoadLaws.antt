-- The loads of pins, from the tables of nets.

use Rattle.std.proofs.Common.{◌≡◌, ℕ, ◌<◌, ◌≤◌, ℤ, pos, unsigned_abs, true, false, List, length, Option, None, Some, refl, sym, ap, ◌∙◌, arith}
use Rattle.std.specs.Prelude.{is_some, option_map, option_and_then}
use Rattle.std.proofs.lemmas.Bool.{false≢true}
use Rattle.sta_units.specs.Numbers.{limit, is_within}
use Rattle.timing_defs.specs.declared.kinds.Split.{Split}
use Rattle.timing_defs.specs.Netlist.{net_of}
use Rattle.timing_defs.specs.Wires.{net_load, load_of}
use Rattle.timing_rules.specs.Rows.{load_at}
use Rattle.netlist_store.specs.Linked.{IsLinked}
use Rattle.netlist_store.specs.Numbering.{Stored, name_at, is_number, pin_numbered, net_number, IsNumbered}
use Rattle.node_rows.specs.declared.pin_wires.Wires.{Wires}
use Rattle.node_rows.specs.WireTables.{load_told, AreWires}
use Rattle.timing_defs.proofs.Members.{some_is}
use Rattle.store_pins.proofs.PinLaws.{there, below_bound, pin_at_number}
use Rattle.store_pins.proofs.DriverLaws.{net_of_number}
use Rattle.node_rows.proofs.AlongLaws.{bound_of}

pub number_low : (names : List (Option (List ℕ))) (n : ℕ) → is_number names n ≡ true → n < length names
number_low names n e = let some = there (name_at names n) e in below_bound names some.0 n some.1

no_net : (o : Option (List ℕ)) → false ≡ is_some o → o ≡ None
no_net None e = refl
no_net (Some n) e = absurd (false≢true e)

module _ (s : Stored) (num : IsNumbered s) (linked : IsLinked s.design) (w : Wires) (are : AreWires s w) where
  pub net_low : (net : ℕ) → is_number s.nets net ≡ true → net < length w.loads
  net_low net e = let low = number_low s.nets net e in omega (arith, low, are.nets)

  pub pin_low : (pin : ℕ) → is_number s.pins pin ≡ true → pin < length w.pins
  pin_low pin e = let low = number_low s.pins pin e in omega (arith, low, are.pins)

  pub loaded : (split : Split) (pin net : ℕ) (load : ℤ) → is_number s.pins pin ≡ true → Some net ≡ net_number s pin → load_told w.loads split net ≡ Some load
      → (option_map (load_at s.design split) (pin_numbered s pin) ≡ Some load) × (unsigned_abs load ≤ limit)
  loaded split pin net load e on told =
      let p = pin_at_number s num linked pin e in
      let k = net_of_number s pin net p.0 p.1.pin (sym on) in
      let same : load ≡ net_load s.design split k.name = some_is (sym told ∙ are.loads split net k.name k.told) in (
        ap (option_map (load_at s.design split)) p.1.pin
            ∙ ap (λ o. Some (load_of s.design split o)) k.on ∙ ap Some (sym same),
        bound_of load (ap is_within same ∙ are.within split net k.name k.told),
      )

  pub unloaded : (split : Split) (pin : ℕ) → is_number s.pins pin ≡ true → false ≡ is_some (option_and_then net_of (pin_numbered s pin))
      → option_map (load_at s.design split) (pin_numbered s pin) ≡ Some (pos 0)
  unloaded split pin e none =
      let p = pin_at_number s num linked pin e in
      let lone : net_of p.0 ≡ None = no_net (net_of p.0) (none ∙ ap (λ o. is_some (option_and_then net_of o)) p.1.pin) in
      ap (option_map (load_at s.design split)) p.1.pin ∙ ap (λ o. Some (load_of s.design split o)) lone
