-- The tests of an endpoint without seeds are kept where no other pin of its instance has a node behind a seed.

use Rattle.std.proofs.Common.{◌≡◌, ℕ, ◌++◌, ◌∷◌, Bool, true, false, List, [], Option, Some, refl, sym, ap, subst, ◌∙◌, inl, inr}
use Rattle.std.specs.Prelude.{Contains, slice_index_or, option_and_then}
use Rattle.std.specs.List.{flat_map}
use Rattle.std.specs.Option.{option_map_or}
use Rattle.std.proofs.lemmas.Bool.{cases_Bool, false≢true}
use Rattle.timing_defs.specs.declared.kinds.Split.TheVariants.{Late}
use Rattle.timing_defs.specs.declared.kinds.Tran.{Tran}
use Rattle.timing_defs.specs.declared.kinds.Tran.TheVariants.{Rise, Fall}
use Rattle.timing_defs.specs.declared.kinds.Kind.{Kind}
use Rattle.timing_defs.specs.declared.library.Cell.{Cell}
use Rattle.timing_defs.specs.declared.netlist.Inst.{Inst}
use Rattle.timing_defs.specs.declared.design.Design.{Design}
use Rattle.timing_defs.specs.Netlist.{Pin, Node, name_of, cell_of, cell_pin, cell_pins, inst_pins, both_nodes, pins}
use Rattle.timing_rules.specs.Clocking.{is_network}
use Rattle.timing_defs.specs.Touches.{Touch}
use Rattle.timing_rules.specs.Cones.{is_seed}
use Rattle.timing_rules.specs.Paths.{Named, named, is_network_named}
use Rattle.timing_rules.specs.Rows.{empty_row, row}
use Rattle.timing_defs.specs.RowTimes.{slew_in}
use Rattle.timing_defs.specs.Kinds.{data_split}
use Rattle.timing_defs.proofs.Members.{some_is, none_in, in_cases, in_map_back, in_flat_map_back}
use Rattle.netlist_store.specs.Numbering.{number_of, pin_numbered, owner_number, IsNumbered}
use Rattle.netlist_store.specs.Applying.{IsEditOf}
use Rattle.eco_laws.proofs.EditOf.{framed_of, numbers_kept}
use Rattle.store_pins.proofs.PinLaws.{HasNumber, IsInst, pin_told, pin_at_number, inst_told, own_in, own_back}
use Rattle.pin_graph.specs.Nodes.{node_number, pin_under}
use Rattle.pin_graph.specs.Graphs.{Graphed, IsGraph}
use Rattle.pin_graph.proofs.GraphRows.{level}
use Rattle.pin_graph.proofs.NodeLaws.{under_number, node_told}
use Rattle.calm_laws.proofs.AlikeLaws.{HasTwin, twin_of, owner_same, cell_same}
use Rattle.calm_laws.proofs.NoSeedCalm.{HasCalm, no_seed_calm}
use Rattle.calm_laws.proofs.QuietNodes.{told_node, named_in}
use Rattle.calm_laws.proofs.TestsKept.{IsLeftClock}
use Rattle.edit_reach.specs.Reach.{is_in, HasSeeds, AreBehind}
use Rattle.edit_reach.proofs.QuietReach.{all_low, linked, linked2, quiet, quiet_of, quiet_nodes}
use Rattle.bounded_changes.specs.Agreed.{IsKeptEnd}
use Rattle.carried_times.specs.KeptPins.{IsKeptPin}
use Rattle.carried_times.proofs.KeptTests.{tests_kept}

of_both : (pin : Pin) (n : Node) → Contains (both_nodes pin) n → n.pin ≡ pin
of_both pin n c = elim (in_cases (record { pin = pin; tran = Rise }) (record { pin = pin; tran = Fall } ∷ []) n c) [
  | inl e ↦ ap (λ (m : Node). m.pin) (sym e)
  | inr d ↦ elim (in_cases (record { pin = pin; tran = Fall }) [] n d) [ inl e ↦ ap (λ (m : Node). m.pin) (sym e) | inr none ↦ absurd (none_in n none) ]
]

module _ (g g2 : Graphed) (touch : Touch) (made : IsEditOf g.stored touch g2.stored) (num : IsNumbered g.stored) (num2 : IsNumbered g2.stored) (is : IsGraph g) (is2 : IsGraph g2)
    (seeds found : List ℕ) (all : HasSeeds g.stored g2.stored touch seeds) (behind : AreBehind g2 seeds found) where
  abbrev d : Design
  d = g.stored.design

  abbrev d2 : Design
  d2 = g2.stored.design

  abbrev calms : Named → Bool
  calms = quiet g g2 touch made num num2 is is2 seeds found all behind

  module _ (kind : Kind) (p : ℕ) (kept : IsKeptPin g.stored g2 seeds found (data_split kind) p) where
    pub one : (pin : Pin) × HasNumber g2.stored pin p
    one = pin_at_number g2.stored num2 (linked2 g g2 touch made num num2 is is2 seeds found all behind) p kept.there

    module _ (tran : Tran) where
      abbrev now : Node
      now = record { pin = one.0; tran = tran }

      no_seed : is_seed d d2 touch now ≡ false
      no_seed = elim (cases_Bool (is_seed d d2 touch now)) [
        | inl e ↦
            absurd (false≢true (sym (kept.unseeded tran) ∙ all.each (node_number p tran) now (node_told g2.stored now (node_number p tran) (record { pin = p; has = one.1; number = refl })) e))
        | inr e ↦ e
      ]

      calm : HasCalm d d2 now
      calm = no_seed_calm g.stored touch g2.stored made now one.1.within no_seed

      abbrev was : Node
      was = calm.node

      was_number : (n : ℕ) × HasNumber g.stored was.pin n
      was_number = pin_told g.stored num (linked g g2 touch made num num2 is is2 seeds found all behind) was.pin calm.within

      called : (name_of was.pin ≡ name_of one.0) × (was.tran ≡ tran)
      called = (named_in d (name_of one.0, tran) was calm.told).1

      same_number : was_number.0 ≡ p
      same_number =
          (numbers_kept g.stored touch g2.stored made).pins.numbers (name_of one.0) was_number.0 p
          (sym (ap (number_of g.stored.pins) called.0) ∙ was_number.1.number) one.1.number

      slew_is : slew_in (data_split kind) (row d2 now) ≡ slew_in (data_split kind) (row d was)
      slew_is =
          sym (ap (λ o. slew_in (data_split kind) (option_map_or (row d2) o empty_row)) (node_told g2.stored now (node_number p tran) (record { pin = p; has = one.1; number = refl })))
          ∙ kept.slews tran
          ∙ ap (λ o. slew_in (data_split kind) (option_map_or (row d) o empty_row))
          (node_told g.stored was (node_number p tran) (record { pin = was_number.0; has = was_number.1; number = (λ k. node_number (sym same_number k) (sym called.1 k)) }))

      own_network : is_network d2 one.0 ≡ false
      own_network =
          sym (ap (λ o. option_map_or (is_network d2) o false) one.1.pin)
          ∙ sym (is2.network.each p one.1.below)
          ∙ ap (λ i. slice_index_or g2.network i false) (sym (under_number p tran))
          ∙ kept.off tran

      off_after : is_network_named d2 (name_of one.0, tran) ≡ false
      off_after =
          ap (λ o. option_map_or (λ (n : Node). is_network d2 n.pin) o false) (told_node d2 (linked2 g g2 touch made num num2 is is2 seeds found all behind) now one.1.within)
          ∙ own_network

      off_before : is_network_named d (name_of one.0, tran) ≡ false
      off_before = ap (λ o. option_map_or (λ (n : Node). is_network d n.pin) o false) calm.told ∙ sym calm.calm.network ∙ own_network

    back_named : (clock : Node) → name_of one.0 ≡ name_of clock.pin → (is_network_named d (named clock) ≡ false) × (is_network_named d2 (named clock) ≡ false)
    back_named clock name = (
      subst (λ (n : List ℕ). is_network_named d (n, clock.tran) ≡ false) name (off_before clock.tran),
      subst (λ (n : List ℕ). is_network_named d2 (n, clock.tran) ≡ false) name (off_after clock.tran),
    )

    module _ (tran : Tran) where
      module _ (i : Inst) (owner : (was tran).pin.owner ≡ Some i) (clock : Node) (c : Contains (flat_map both_nodes (inst_pins d i)) clock) where
        twin : HasTwin (was tran).pin.owner (now tran).pin.owner (owner_same (was tran) (now tran) (calm tran).calm.kept.alike) i
        twin = twin_of (was tran).pin.owner (now tran).pin.owner (owner_same (was tran) (now tran) (calm tran).calm.kept.alike) i owner

        abbrev j : Inst
        j = twin.twin

        its : (n : ℕ) × IsInst g2.stored j n
        its =
            inst_told g2.stored num2 (linked2 g g2 touch made num num2 is is2 seeds found all behind) j
            (own_back d2 (linked2 g g2 touch made num num2 is is2 seeds found all behind) one.0 j one.1.within twin.owner).inst

        left_clock : IsLeftClock d d2 calms (named clock)
        left_clock =
            let a = in_flat_map_back both_nodes (inst_pins d i) clock c in
            let m = in_map_back (cell_pin i) (cell_pins (cell_of d Late i)) a.item a.within in
            let cells : Contains (cell_pins (cell_of d2 Late j)) m.item =
            subst (λ (o : Option Cell). Contains (cell_pins o) m.item) (cell_same d d2 (framed_of g.stored touch g2.stored made) Late i j twin.cell) m.within in
            let q = pin_told g2.stored num2 (linked2 g g2 touch made num num2 is is2 seeds found all behind) (cell_pin j m.item)
            (own_in d2 (linked2 g g2 touch made num num2 is is2 seeds found all behind) j m.item its.1.within cells) in
            let pin : cell_pin i m.item ≡ clock.pin = m.same ∙ sym (of_both a.item clock a.inside) in
            let name : name_of (cell_pin j m.item) ≡ name_of clock.pin = (λ k. twin.name k ++ 58 ∷ m.item.name) ∙ ap name_of pin in
            let same : named (record { pin = cell_pin j m.item; tran = clock.tran }) ≡ named clock = (λ k. (name k, clock.tran)) in
            let ours : owner_number g2.stored p ≡ Some its.0 =
            ap (λ o. option_and_then (λ (inst : Inst). number_of g2.stored.insts inst.name) (option_and_then (λ (x : Pin). x.owner) o)) one.1.pin
            ∙ ap (option_and_then (λ (inst : Inst). number_of g2.stored.insts inst.name)) twin.owner ∙ its.1.number in
            let theirs : owner_number g2.stored (pin_under (node_number q.0 clock.tran)) ≡ Some its.0 =
            ap (owner_number g2.stored) (under_number q.0 clock.tran)
            ∙ ap (λ o. option_and_then (λ (inst : Inst). number_of g2.stored.insts inst.name) (option_and_then (λ (x : Pin). x.owner) o)) q.1.pin ∙ its.1.number in
            elim (cases_Bool (is_in found (node_number q.0 clock.tran))) [
              | inr f ↦
                  inl (sym (ap calms same)
                  ∙ quiet_of g g2 touch made num num2 is is2 seeds found all behind (record { pin = cell_pin j m.item; tran = clock.tran }) (node_number q.0 clock.tran)
                  (record { pin = q.0; has = q.1; number = refl }) f)
              | inl f ↦
                  let own : q.0 ≡ p = sym (under_number q.0 clock.tran) ∙ kept.alone (node_number q.0 clock.tran) its.0 f ours theirs in
                  let pin2 : cell_pin j m.item ≡ one.0 = some_is (sym q.1.pin ∙ ap (pin_numbered g2.stored) own ∙ one.1.pin) in
                  let name2 : name_of one.0 ≡ name_of clock.pin = ap name_of (sym pin2) ∙ name in
                  inr (back_named clock name2)
            ]

    pub kept_end : IsKeptEnd d d2 kind (name_of one.0)
    kept_end tran =
        tests_kept d d2 (level g num (linked g g2 touch made num num2 is is2 seeds found all behind) is)
        (level g2 num2 (linked2 g g2 touch made num num2 is is2 seeds found all behind) is2) calms
        (quiet_nodes g g2 touch made num num2 is is2 seeds found all behind)
        (all_low g num (linked g g2 touch made num num2 is is2 seeds found all behind) is)
        (all_low g2 num2 (linked2 g g2 touch made num num2 is is2 seeds found all behind) is2)
        (name_of one.0, tran) (was tran) (now tran) (calm tran).told
        (told_node d2 (linked2 g g2 touch made num num2 is is2 seeds found all behind) (now tran) one.1.within)
        (calm tran).calm.kept.alike (calm tran).within one.1.within kind (slew_is tran)
        (record { clocks = λ inst owner clock c tests. left_clock tran inst owner clock c })
