-- The trees of a net with resistors, as the code asks for them: by the driver's name and the pins' capacitances.

use Rattle.std.proofs.Common.{◌≡◌, ℕ, true, false, List, [], map, get_or, Some, sym, ap, subst, ◌∙◌}
use Rattle.std.specs.Prelude.{is_some, All}
use Rattle.std.specs.Option.{unwrap_or}
use Rattle.std.proofs.lemmas.List.Elements.{All-from_get_or, Contains-get_or}
use Rattle.timing_defs.specs.declared.kinds.Split.{Split}
use Rattle.timing_defs.specs.declared.parasitics.NetRc.{NetRc}
use Rattle.timing_defs.specs.declared.rows.PinCap.{PinCap}
use Rattle.timing_defs.specs.NetChecks.{has_cycle}
use Rattle.netlist_store.specs.Linked.{IsLinked}
use Rattle.netlist_store.specs.Numbering.{Stored, name_at, is_number, IsNumbered}
use Rattle.rc_tree.specs.Trees.{Told, is_unreached, is_too_large, is_out_of_range, IsMeasured, IsTreeOf}
use Rattle.node_rows.specs.NetPins.{pin_cap_at}
use Rattle.node_rows.specs.NetTrees.{IsTreeNet, pin_word}
use Rattle.node_rows.proofs.TreeNets.{root_pin, told_there, tree, measured, reached, small}

module _ (s : Stored) (num : IsNumbered s) (linked : IsLinked s.design) (rc : NetRc) (root : ℕ) (items : List ℕ) (t : IsTreeNet s rc root items) where
  pub root_number : is_number s.pins root ≡ true
  root_number = ap is_some (root_pin s num linked rc root items t).1.name

  pub all_numbers : All (λ pin. is_number s.pins pin ≡ true) items
  all_numbers =
      All-from_get_or (λ pin. is_number s.pins pin ≡ true) items 0
      (λ i low. ap is_some (told_there s num linked rc root items t (get_or items i 0) (Contains-get_or items i 0 low)).2)

  pub acyclic_is : has_cycle rc ≡ false
  acyclic_is = (tree s num linked rc root items t).acyclic

  module _ (split : Split) (name : List ℕ) (named : name_at s.pins root ≡ Some name) (caps : List PinCap) (e : caps ≡ map (pin_cap_at s split) items) where
    word : name ≡ pin_word s root
    word = sym (ap (λ o. unwrap_or o []) named)

    pub measured_as : IsMeasured rc name caps
    measured_as =
        subst (λ (w : List ℕ). IsMeasured rc w caps) (sym word)
        (subst (λ (cs : List PinCap). IsMeasured rc (pin_word s root) cs) (sym e) (measured s num linked rc root items t split))

    pub reached_as : is_unreached rc name ≡ false
    reached_as = ap (is_unreached rc) word ∙ reached s num linked rc root items t split

    pub small_as : is_too_large rc name caps ≡ false
    small_as = ap (λ w. is_too_large rc w caps) word ∙ ap (is_too_large rc (pin_word s root)) e ∙ small s num linked rc root items t split

    pub out_as : is_out_of_range rc name caps ≡ is_out_of_range rc (pin_word s root) (map (pin_cap_at s split) items)
    out_as = ap (λ w. is_out_of_range rc w caps) word ∙ ap (is_out_of_range rc (pin_word s root)) e

    pub tree_as : (told : Told) → IsTreeOf rc name caps told → IsTreeOf rc (pin_word s root) (map (pin_cap_at s split) items) told
    tree_as told h =
        subst (λ (cs : List PinCap). IsTreeOf rc (pin_word s root) cs told) e (subst (λ (w : List ℕ). IsTreeOf rc w caps told) word h)
