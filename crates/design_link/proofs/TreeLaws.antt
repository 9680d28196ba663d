-- Whether parasitics are a tree from the driver of their net, over the driver's number.

use Rattle.std.proofs.Common.{◌≡◌, ℕ, true, false, not, List, None, Some, map, sym, ap, ◌∙◌}
use Rattle.std.specs.Prelude.{is_some, option_and_then, ◌&&◌, ◌||◌}
use Rattle.std.specs.List.{list_all}
use Rattle.std.specs.Option.{option_map_or}
use Rattle.std.specs.Str.{bytes_eq}
use Rattle.std.proofs.lemmas.Bool.{and_parts}
use Rattle.timing_defs.specs.declared.parasitics.NetRc.{NetRc}
use Rattle.timing_defs.specs.Netlist.{Pin, name_of, pins, pin_named, driver, are_distinct}
use Rattle.timing_defs.specs.Wires.{is_lumped}
use Rattle.timing_defs.specs.NetChecks.{has_cycle, reaches_all, is_tree}
use Rattle.netlist_store.specs.Linked.{IsLinked}
use Rattle.timing_defs.specs.Documents.{is_net_rc}
use Rattle.netlist_store.specs.Numbering.{Stored, name_at, pin_numbered, IsNumbered}
use Rattle.design_link.specs.Failing.{IsRcOf}
use Rattle.design_link.specs.Rooted.{is_rooted}
use Rattle.timing_defs.proofs.SameNames.{same_is}
use Rattle.timing_defs.proofs.Members.{found_in, found_passes, all_in}
use Rattle.store_pins.proofs.PinLaws.{there}
use Rattle.design_link.proofs.NetNodeLaws.{rc_net}

module _ (s : Stored) (num : IsNumbered s) (linked : IsLinked s.design) where
  -- the parasitics of a net have amounts within the limits
  pub is_good_rc : (net : ℕ) (rc : NetRc) → IsRcOf s net rc → is_net_rc rc ≡ true
  is_good_rc net rc e =
      let r = rc_net s net rc e in
      all_in is_net_rc s.design.rcs rc (and_parts (are_distinct (map (λ (x : NetRc). x.net) s.design.rcs)) (list_all is_net_rc s.design.rcs) linked.parasitics).1
      (found_in (λ (x : NetRc). bytes_eq x.net rc.net) s.design.rcs rc r.found)

  -- from the driver
  pub tree_is : (net pin : ℕ) (rc : NetRc) (name : List ℕ) → IsRcOf s net rc → pin_numbered s pin ≡ option_and_then (driver s.design) (name_at s.nets net)
      → name_at s.pins pin ≡ Some name → is_rooted rc name ≡ is_tree s.design rc
  tree_is net pin rc name e drives here =
      let r = rc_net s net rc e in
      let some = there (pin_named s.design name) (sym (num.pin_names name) ∙ ap is_some (num.pins.distinct pin name here)) in
      let same : name_of some.0 ≡ name = same_is (name_of some.0) name (found_passes (λ (q : Pin). bytes_eq (name_of q) name) (pins s.design) some.0 some.1) in
      let is : driver s.design rc.net ≡ Some some.0 =
      sym (ap (option_and_then (driver s.design)) r.here) ∙ sym drives ∙ ap (option_and_then (pin_named s.design)) here ∙ some.1 in
      ap (is_rooted rc) (sym same) ∙ sym (ap (λ o. option_map_or (λ root. is_lumped rc || (not (has_cycle rc) && reaches_all rc root)) o false) is)

  pub no_tree_is : (net : ℕ) (rc : NetRc) → IsRcOf s net rc → None ≡ option_and_then (driver s.design) (name_at s.nets net) → false ≡ is_tree s.design rc
  no_tree_is net rc e none =
      let r = rc_net s net rc e in
      let is : driver s.design rc.net ≡ None = sym (ap (option_and_then (driver s.design)) r.here) ∙ sym none in
      sym (ap (λ o. option_map_or (λ root. is_lumped rc || (not (has_cycle rc) && reaches_all rc root)) o false) is)
