-- After an ECO the nets that it touched are the only ones that may fail.

use Rattle.std.proofs.Common.{◌≡◌, ℕ, Bool, true, false, List, [], ◌∷◌, ◌++◌, filter, Option, None, Some, refl, sym, ap, ◌∙◌, not, append-nil, if◌then◌else◌}
use Rattle.std.specs.Prelude.{is_some, option_map, ◌&&◌}
use Rattle.std.specs.List.{flat_map}
use Rattle.std.specs.Option.{option_map_or}
use Rattle.std.specs.Str.{bytes_eq}
use Rattle.timing_defs.specs.declared.parasitics.NetRc.{NetRc}
use Rattle.timing_defs.specs.declared.design.Design.{Design}
use Rattle.timing_defs.specs.declared.edits.Eco.{Eco}
use Rattle.timing_defs.specs.declared.faults.Fault.{Fault}
use Rattle.timing_defs.specs.declared.faults.Fault.TheVariants.{TooLarge, ManyDrivers, ClockNotTree, ConstraintDangling, RcNotTree, RcPinsDiffer}
use Rattle.timing_defs.specs.declared.faults.Large.{Large}
use Rattle.timing_defs.specs.declared.faults.Large.TheVariants.{Net as large_net}
use Rattle.timing_defs.specs.Netlist.{is_listed}
use Rattle.timing_defs.specs.Wires.{rc_of}
use Rattle.timing_defs.specs.NetChecks.{is_large_net, nets_where, least, large, many_drivers, is_tree, pins_agree, first_of_two, net_fault}
use Rattle.timing_rules.specs.Checks.{dangling, dangling_exception, rc_not_tree, rc_pins_differ, clock_not_tree, data_fault}
use Rattle.netlist_store.specs.Linked.{IsLinked}
use Rattle.netlist_store.specs.Numbering.{Stored, number_of, IsNumbered}
use Rattle.netlist_store.proofs.Untouched.{IsLeft, left_by_eco, IsFramed, framed_by_eco}
use Rattle.netlist_store.proofs.LeftChecks.{crowded_left, large_left, tree_left, agree_left}
use Rattle.design_link.specs.declared.net_tests.NetTest.{NetTest}
use Rattle.design_link.specs.declared.net_tests.NetTest.TheVariants.{TooManyNodes, TooManyDrivers, NoTree, OtherPins}
use Rattle.design_link.specs.Counts.{large_count}
use Rattle.design_link.specs.Failing.{rc_that, is_crowded, fails, fails_at, fails_here, least_failing, least_among}
use Rattle.design_link.specs.Dangling.{dangling_ports, dangling_names}
use Rattle.design_link.specs.After.{IsMadeOf, net_fault_among, dangling_among, data_fault_among, link_data_fault}
use Rattle.timing_defs.proofs.SameNames.{same_is}
use Rattle.store_pins.proofs.PinLaws.{told_at}
use Rattle.timing_defs.proofs.Members.{found_passes}
use Rattle.store_pins.proofs.DriverLaws.{none_least}
use Rattle.design_link.proofs.Orders.{least_same}
use Rattle.design_link.proofs.Lists.{listed_filter}
use Rattle.design_link.proofs.FailLaws.{where_fails, large_parts, net_all}

-- the nets that fail a test, in the order of the design
abbrev failing : NetTest → Design → List (List ℕ)
failing TooManyNodes d = nets_where (is_large_net d) d
failing TooManyDrivers d = filter (is_crowded d) d.nets
failing NoTree d = nets_where (λ rc. not (is_tree d rc)) d
failing OtherPins d = nets_where (λ rc. not (pins_agree d rc)) d

least_is : (test : NetTest) (d : Design) → least_failing test d ≡ least (failing test d)
least_is TooManyNodes d = refl
least_is TooManyDrivers d = refl
least_is NoTree d = refl
least_is OtherPins d = refl

failing_listed : (test : NetTest) (d : Design) → IsLinked d → (q : List ℕ) → is_listed (failing test d) q ≡ fails_here test d q
failing_listed TooManyNodes d linked q = where_fails d linked (is_large_net d) q
failing_listed TooManyDrivers d linked q = listed_filter (is_crowded d) d.nets q
failing_listed NoTree d linked q = where_fails d linked (λ rc. not (is_tree d rc)) q
failing_listed OtherPins d linked q = where_fails d linked (λ rc. not (pins_agree d rc)) q

dangling_is : (d : Design) → dangling d ≡ least (dangling_names d)
dangling_is d = refl

-- one name more is tested
module _ (s : Stored) (num : IsNumbered s) (test : NetTest) (net : List ℕ) (names : List (List ℕ)) where
  abbrev kept_if : Bool → List (List ℕ)
  kept_if fails = (if fails then net ∷ [] else [])

  pub absent_net : number_of s.nets net ≡ None → names ≡ names ++ filter (fails_here test s.design) (net ∷ [])
  absent_net none =
      sym (ap (λ b. names ++ kept_if (b && fails test s.design net)) (sym (num.net_names net) ∙ ap is_some none) ∙ append-nil names)

  module _ (n : ℕ) (here : number_of s.nets net ≡ Some n) (failing : Bool) (told : failing ≡ fails_at test s n) where
    same_test : fails_here test s.design net ≡ failing
    same_test =
        ap (λ b. b && fails test s.design net) (sym (num.net_names net) ∙ ap is_some here)
        ∙ sym (told ∙ ap (λ o. option_map_or (fails test s.design) o false) (told_at s.nets net n here))

    pub failing_net : failing ≡ true → (after : List (List ℕ)) → after ≡ names ++ net ∷ [] → after ≡ names ++ filter (fails_here test s.design) (net ∷ [])
    failing_net it after put = put ∙ sym (ap (λ b. names ++ kept_if b) (same_test ∙ it))

    pub passing_net : failing ≡ false → names ≡ names ++ filter (fails_here test s.design) (net ∷ [])
    passing_net none = sym (ap (λ b. names ++ kept_if b) (same_test ∙ none) ∙ append-nil names)

-- a net that is left fails as before
module _ (net : List ℕ) (base d : Design) (left : IsLeft net base d) (linked : IsLinked base) (linked2 : IsLinked d) where
  rc_left : (test2 test : NetRc → Bool) → ((rc : NetRc) → rc.net ≡ net → test2 rc ≡ test rc) → rc_that test2 d net ≡ rc_that test base net
  rc_left test2 test each = ap (λ o. option_map_or test2 o false) left.rc ∙ by (rc_of base net) refl
    where
      by : (o : Option NetRc) → rc_of base net ≡ o → option_map_or test2 o false ≡ option_map_or test o false
      by None e = refl
      by (Some rc) e = each rc (same_is rc.net net (found_passes (λ (r : NetRc). bytes_eq r.net net) base.rcs rc e))

  fails_left : (test : NetTest) → fails test d net ≡ fails test base net
  fails_left TooManyNodes = rc_left (is_large_net d) (is_large_net base) (large_left net base d left)
  fails_left TooManyDrivers = crowded_left net base d left
  fails_left NoTree = rc_left (λ rc. not (is_tree d rc)) (λ rc. not (is_tree base rc)) (λ rc e. ap not (tree_left net base d left rc e))
  fails_left OtherPins =
      rc_left (λ rc. not (pins_agree d rc)) (λ rc. not (pins_agree base rc)) (λ rc e. ap not (agree_left net base d left rc e linked linked2))

module _ (base : Design) (eco : Eco) (nets : List (List ℕ)) (d : Design) (made : IsMadeOf base eco nets d) (linked2 : IsLinked d) where
  is_left : (q : List ℕ) → is_listed nets q ≡ false → IsLeft q base d
  is_left q h = left_by_eco q base eco made.linked made.is_eco d made.made (ap (λ ns. is_listed ns q) made.touched ∙ h)

  least_after : (test : NetTest) → least_failing test base ≡ None → least_among (Some nets) test d ≡ least_failing test d
  least_after test none =
      least_same (filter (fails_here test d) nets) (failing test d)
      (λ q. listed_filter (fails_here test d) nets q ∙ by q (is_listed nets q) refl ∙ sym (failing_listed test d linked2 q))
      ∙ sym (least_is test d)
    where
      empty : failing test base ≡ []
      empty = none_least (failing test base) (sym (least_is test base) ∙ none)

      by : (q : List ℕ) (b : Bool) → is_listed nets q ≡ b → (b && fails_here test d q) ≡ fails_here test d q
      by q true e = refl
      by q false e =
          let left = is_left q e in
          sym ((λ k. left.listed k && fails_left q base d left made.linked linked2 test k)
          ∙ sym (failing_listed test base made.linked q) ∙ ap (λ xs. is_listed xs q) empty)

  none_of : {X : Type 0} (f : X → Fault) (o : Option X) → option_map f o ≡ None → o ≡ None
  none_of f None e = refl
  none_of f (Some x) e = absurd (cc)

  first_none : (a b : Option Fault) → first_of_two a b ≡ None → (a ≡ None) × (b ≡ None)
  first_none None b e = (refl, e)
  first_none (Some x) b e = absurd (cc)

  -- the checks of nets
  pub net_after : net_fault base ≡ None → net_fault_among (Some nets) d ≡ net_fault d
  net_after fault =
      let one = first_none (option_map TooLarge (large base)) (option_map ManyDrivers (many_drivers base)) fault in
      let many = none_of ManyDrivers (many_drivers base) one.1 in
      let none : large base ≡ None = none_of TooLarge (large base) one.0 in
      let nodes = net_part (large_count base) (least_failing TooManyNodes base) (sym (large_parts base) ∙ none) in
      (λ k. first_of_two (option_map TooLarge (large_count d))
      (first_of_two (option_map TooLarge (option_map large_net (least_after TooManyNodes nodes k))) (option_map ManyDrivers (least_after TooManyDrivers many k))))
      ∙ net_all d
    where
      net_part : (a : Option Large) (b : Option (List ℕ)) → option_map_or Some a (option_map large_net b) ≡ None → b ≡ None
      net_part None None e = refl
      net_part None (Some n) e = absurd (cc)
      net_part (Some l) b e = absurd (cc)

  none_before : (xs ys : List (List ℕ)) → xs ++ ys ≡ [] → xs ≡ []
  none_before [] ys e = refl
  none_before (x ∷ xs) ys e = absurd (cc)

  -- the checks of data
  pub data_after : data_fault base ≡ None → data_fault_among (Some nets) d ≡ link_data_fault d
  data_after fault =
      λ k. first_of_two (option_map ConstraintDangling (dangling_after k))
      (first_of_two (option_map RcNotTree (least_after NoTree trees k)) (option_map RcPinsDiffer (least_after OtherPins pins k)))
    where
      one : (option_map ConstraintDangling (dangling base) ≡ None)
          × (first_of_two (option_map RcNotTree (rc_not_tree base)) (option_map RcPinsDiffer (rc_pins_differ base)) ≡ None)
      one =
          first_none (option_map ConstraintDangling (dangling base)) (first_of_two (option_map RcNotTree (rc_not_tree base)) (option_map RcPinsDiffer (rc_pins_differ base)))
          (first_none (option_map ClockNotTree (clock_not_tree base)) (link_data_fault base) fault).1

      two : (option_map RcNotTree (rc_not_tree base) ≡ None) × (option_map RcPinsDiffer (rc_pins_differ base) ≡ None)
      two = first_none (option_map RcNotTree (rc_not_tree base)) (option_map RcPinsDiffer (rc_pins_differ base)) one.1

      trees : rc_not_tree base ≡ None
      trees = none_of RcNotTree (rc_not_tree base) two.0

      pins : rc_pins_differ base ≡ None
      pins = none_of RcPinsDiffer (rc_pins_differ base) two.1

      framed : IsFramed base d
      framed = framed_by_eco base eco d made.made

      ports : dangling_ports d ≡ []
      ports =
          (λ k. dangling_ports (record base { ports = framed.ports k; constraints = framed.constraints k }))
          ∙ none_before (dangling_ports base) (flat_map (dangling_exception base) base.constraints.exceptions)
          (none_least (dangling_names base) (sym (dangling_is base) ∙ none_of ConstraintDangling (dangling base) one.0))

      dangling_after : dangling_among (Some nets) d ≡ dangling d
      dangling_after = ap (λ xs. least (xs ++ flat_map (dangling_exception d) d.constraints.exceptions)) (sym ports) ∙ sym (dangling_is d)
