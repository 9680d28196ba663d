-- What the checks of a design answer together.

use Rattle.std.proofs.Common.{◌≡◌, ℕ, List, Option, None, Some, Result, Ok, Err, IfErr, OnOk, length, refl, sym, subst, ◌∙◌, inl, inr, true, false}
use Rattle.std.specs.Prelude.{option_map, Bool, nat_lt, if◌then◌else◌}
use Rattle.std.proofs.lemmas.Bool.{true≢false, ltb-false}
use Rattle.netlist_store.specs.Applying.{IsChecked, IsEditOf}
use Rattle.netlist_store.specs.Numbering.{Stored}
use Rattle.netlist_store.specs.Linked.{IsSized}
use Rattle.timing_defs.specs.Netlist.{pins}
use Rattle.timing_defs.specs.declared.design.Design.{Design}
use Rattle.timing_defs.specs.declared.faults.Fault.{Fault}
use Rattle.timing_defs.specs.declared.edits.Eco.{Eco}
use Rattle.timing_defs.specs.declared.faults.Large.{Large}
use Rattle.timing_defs.specs.declared.faults.Large.TheVariants.{Pins, Insts, Nets, Net as large_net}
use Rattle.timing_defs.specs.declared.faults.Fault.TheVariants.{ManyDrivers, ConstraintDangling, RcNotTree, RcPinsDiffer, Loop, OutOfRange, TooLarge, Memory}
use Rattle.timing_defs.specs.Edits.{edited}
use Rattle.timing_defs.specs.Touches.{Touch}
use Rattle.timing_rules.specs.Range.{NoOrigin}
use Rattle.timing_defs.specs.NetChecks.{most, least, nets_where, is_large_net, many_drivers, net_fault, first_of_two}
use Rattle.timing_rules.specs.Checks.{data_fault, clock_not_tree, dangling, rc_not_tree, rc_pins_differ, Standing, IsGraphFault, HasNoLoop, IsSound, Faulty}
use Rattle.pin_graph.specs.RowTables.{IsRangeFault}
use Rattle.design_link.specs.After.{IsMadeOf, link_data_fault}
use Rattle.eco_analysis.specs.Soundness.{IsUnsound, IsFaultless, IsSoundEdit, IsRefusal}

some_is : {X : Type 0} (x y : X) → Some x ≡ Some y → x ≡ y
some_is x y e = cc

module _ (d : Design) (nets : net_fault d ≡ None) where
  pub sound : HasNoLoop d → clock_not_tree d ≡ None → link_data_fault d ≡ None → IsSound d
  sound loop tree rest = (nets, loop, rw tree rest)

  data_faulty : HasNoLoop d → clock_not_tree d ≡ None → (x : Fault) → link_data_fault d ≡ Some x → Faulty d x
  data_faulty loop tree x e = by (dangling d) (rc_not_tree d) (rc_pins_differ d) refl refl refl e
    where
      by : (a b c : Option (List ℕ)) → dangling d ≡ a → rc_not_tree d ≡ b → rc_pins_differ d ≡ c
          → first_of_two (option_map ConstraintDangling a) (first_of_two (option_map RcNotTree b) (option_map RcPinsDiffer c)) ≡ Some x → Faulty d x
      by (Some n) b c p q r f = subst (Faulty d) (some_is (ConstraintDangling n) x f) (rw nets (loop, rw (tree, p) refl))
      by None (Some n) c p q r f = subst (Faulty d) (some_is (RcNotTree n) x f) (rw nets (loop, rw (tree, p, q) refl))
      by None None (Some n) p q r f = subst (Faulty d) (some_is (RcPinsDiffer n) x f) (rw nets (loop, rw (tree, p, q, r) refl))
      by None None None p q r f = absurd (cc)

  pub data_sound : HasNoLoop d → clock_not_tree d ≡ None → (r : Result Unit Fault) → IsChecked r (link_data_fault d) → OnOk r (IsSound d)
  data_sound loop tree (Ok x) checked = sound loop tree checked
  data_sound loop tree (Err x) checked = tt

  pub data_refused : HasNoLoop d → clock_not_tree d ≡ None → (r : Result Unit Fault) → IsChecked r (link_data_fault d) → IfErr r (IsUnsound d)
  data_refused loop tree (Ok x) checked = tt
  data_refused loop tree (Err x) (inl e) = inl e
  data_refused loop tree (Err x) (inr e) = inr (data_faulty loop tree x e)

-- nets after an ECO on a sound design
module _ (nets : List (List ℕ)) (d : Design) (edit : IsSoundEdit nets d) where
  pub nets_sound : (r : Result Unit Fault)
      → ((base : Design) (eco : Eco) → IsMadeOf base eco nets d → net_fault base ≡ None → IsChecked r (net_fault d))
      → OnOk r (net_fault d ≡ None)
  nets_sound (Ok x) checked = checked edit.base edit.eco edit.made edit.sound.0
  nets_sound (Err x) checked = tt

  faulty_nets : (x : Fault) → net_fault d ≡ Some x → Faulty d x
  faulty_nets x e = rw e refl

  pub nets_refused : (r : Result Unit Fault)
      → ((base : Design) (eco : Eco) → IsMadeOf base eco nets d → net_fault base ≡ None → IsChecked r (net_fault d))
      → IfErr r (IsUnsound d)
  nets_refused (Ok x) checked = tt
  nets_refused (Err x) checked = elim (checked edit.base edit.eco edit.made edit.sound.0) [ inl e ↦ inl e | inr e ↦ inr (faulty_nets x e) ]

  -- and the data
  pub data_edited_sound : net_fault d ≡ None → HasNoLoop d → clock_not_tree d ≡ None → (r : Result Unit Fault)
      → ((base : Design) (eco : Eco) → IsMadeOf base eco nets d → data_fault base ≡ None → IsChecked r (link_data_fault d))
      → OnOk r (IsSound d)
  data_edited_sound fine loop tree r checked = data_sound d fine loop tree r (checked edit.base edit.eco edit.made edit.sound.2)

  pub data_edited_refused : net_fault d ≡ None → HasNoLoop d → clock_not_tree d ≡ None → (r : Result Unit Fault)
      → ((base : Design) (eco : Eco) → IsMadeOf base eco nets d → data_fault base ≡ None → IsChecked r (link_data_fault d))
      → IfErr r (IsUnsound d)
  data_edited_refused fine loop tree r checked = data_refused d fine loop tree r (checked edit.base edit.eco edit.made edit.sound.2)

-- nothing stands in a sound design in which no quantity leaves its limit
standing_none : (o : Option Fault) (x : Fault) (Further : Type 0) → o ≡ None → Standing o x Further → Further
standing_none None x Further e h = h
standing_none (Some y) x Further e h = absurd (cc)

module _ (d : Design) (sound : IsSound d) where
  not_graph : NoOrigin d → (x : Fault) → IsGraphFault d x → ⊥
  not_graph fine (Loop names) h = true≢false (sym h ∙ sound.1 names)
  not_graph fine (OutOfRange place) h = true≢false (sym (standing_none (data_fault d) (OutOfRange place) _ sound.2 h.1) ∙ fine place)
  not_graph fine x h = standing_none (data_fault d) x ⊥ sound.2 h.1

  pub sound_faultless : NoOrigin d → IsFaultless d
  sound_faultless fine x h = not_graph fine x (standing_none (net_fault d) x (IsGraphFault d x) sound.0 h)

  pub range_unsound : (x : Fault) → IsRangeFault d x → IsUnsound d x
  range_unsound (OutOfRange place) e = inr (rw sound.0 (sound.1, rw sound.2 e))
  range_unsound Memory e = inl refl
  range_unsound x e = absurd e

  pub range_refused : {A : Type 0} (r : Result A Fault) → IfErr r (IsRangeFault d) → IfErr r (IsUnsound d)
  range_refused (Ok a) h = tt
  range_refused (Err x) h = range_unsound x h

-- what is unsound after the edits of an ECO refuses it
pub unsound_refused : (base : Design) (eco : Eco) (d : Design) → edited base eco ≡ Ok d → (x : Fault) → IsUnsound d x → IsRefusal base eco x
unsound_refused base eco d made x (inl e) = inl e
unsound_refused base eco d made x (inr f) = inr (inr (d, made, f))

-- a design that is not too large has a size that can be edited
counted : (p i n : Bool) (rest : Option Large) (more : Option Fault)
    → first_of_two (option_map TooLarge (if p then Some Pins else (if i then Some Insts else (if n then Some Nets else rest)))) more ≡ None
    → (i ≡ false) × (n ≡ false)
counted true i n rest more e = absurd (cc)
counted false true n rest more e = absurd (cc)
counted false false true rest more e = absurd (cc)
counted false false false rest more e = (refl, refl)

pub sound_sized : (d : Design) → IsSound d → IsSized d
sound_sized d sound =
    let few =
    counted (nat_lt most (length (pins d))) (nat_lt most (length d.insts)) (nat_lt most (length d.nets))
    (option_map large_net (least (nets_where (is_large_net d) d))) (option_map ManyDrivers (many_drivers d)) sound.0 in
    record { insts = ltb-false most (length d.insts) few.0; nets = ltb-false most (length d.nets) few.1 }

-- an edit of an analysis's store is one of its graph's
pub edit_of_graph : (base graph after : Stored) (touch : Touch) → graph ≡ base → IsEditOf base touch after → IsEditOf graph touch after
edit_of_graph base graph after touch same made = subst (λ (s : Stored). IsEditOf s touch after) (sym same) made
