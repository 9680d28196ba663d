-- Names of pins and of their instances, by the numbers of a store.

use Rattle.std.proofs.Common.{◌≡◌, ℕ, true, List, Some, sym, ap, ◌∙◌}
use Rattle.std.specs.Prelude.{option_map, option_and_then}
use Rattle.timing_defs.specs.declared.netlist.Inst.{Inst}
use Rattle.timing_defs.specs.Netlist.{Pin, pin_named}
use Rattle.timing_rules.specs.Paths.{owner_named}
use Rattle.netlist_store.specs.Numbering.{Stored, name_at, is_number, owner_number, IsNumbered}
use Rattle.netlist_store.specs.Linked.{IsLinked}
use Rattle.timing_defs.proofs.Members.{some_is}
use Rattle.store_pins.proofs.PinLaws.{pin_at_number, owner_told}

pub owner_is : (s : Stored) → IsNumbered s → IsLinked s.design → (pin inst : ℕ) → is_number s.pins pin ≡ true → Some inst ≡ owner_number s pin → (i : Inst)
    → name_at s.insts inst ≡ Some i.name → (copy : List ℕ) → copy ≡ i.name → (name : List ℕ) → name_at s.pins pin ≡ Some name → Some copy ≡ owner_named s.design name
owner_is s num linked pin inst is e i called copy same name named =
    let p = pin_at_number s num linked pin is in
    let o = owner_told s num linked pin inst p.0 p.1.pin (sym e) in
    let its : pin_named s.design name ≡ Some p.0 = sym (ap (option_and_then (pin_named s.design)) named) ∙ p.1.pin in
    let told : i.name ≡ o.inst.name = some_is (sym called ∙ o.there.name) in
    ap Some (same ∙ told)
    ∙ sym (ap (option_and_then (λ (q : Pin). option_map (λ (j : Inst). j.name) q.owner)) its ∙ ap (option_map (λ (j : Inst). j.name)) o.owns)
