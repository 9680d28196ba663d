-- A pin that has no seed is the base's pin, and an endpoint where it was one. Where no seed leads to it nor to a pin
-- beside it, its slacks are the base's.

use Rattle.std.proofs.Common.{◌≡◌, ℕ, ◌++◌, ◌∷◌, ℤ, Bool, true, false, List, [], Option, Some, refl, sym, ap, subst, ◌∙◌, inl, inr}
use Rattle.std.specs.Prelude.{Contains, option_and_then}
use Rattle.std.specs.List.{flat_map}
use Rattle.std.specs.Option.{option_map_or}
use Rattle.std.proofs.lemmas.Bool.{cases_Bool, false≢true}
use Rattle.timing_defs.specs.declared.kinds.Split.TheVariants.{Late}
use Rattle.timing_defs.specs.declared.kinds.Tran.{Tran}
use Rattle.timing_defs.specs.declared.kinds.Tran.TheVariants.{Rise, Fall}
use Rattle.timing_defs.specs.declared.kinds.Kind.{Kind}
use Rattle.timing_defs.specs.declared.library.Cell.{Cell}
use Rattle.timing_defs.specs.declared.netlist.Inst.{Inst}
use Rattle.timing_defs.specs.declared.design.Design.{Design}
use Rattle.timing_defs.specs.Netlist.{Pin, Node, name_of, cell_of, cell_pin, cell_pins, inst_pins, both_nodes, pins}
use Rattle.timing_defs.specs.Touches.{Touch}
use Rattle.timing_rules.specs.Cones.{is_seed}
use Rattle.timing_rules.specs.Paths.{Named, named, IsSlack}
use Rattle.timing_rules.specs.Tests.{is_endpoint}
use Rattle.netlist_store.specs.Numbering.{number_of, name_at, is_number, pin_numbered, owner_number, IsNumbered}
use Rattle.netlist_store.specs.Applying.{IsEditOf}
use Rattle.eco_laws.proofs.EditOf.{framed_of, numbers_kept}
use Rattle.eco_laws.proofs.CellsKept.{same_endpoint}
use Rattle.pin_graph.specs.Nodes.{node_number, pin_under}
use Rattle.pin_graph.specs.Graphs.{Graphed, IsGraph}
use Rattle.timing_defs.proofs.Members.{some_is, none_in, in_cases, in_map_back, in_flat_map_back}
use Rattle.store_pins.proofs.PinLaws.{HasNumber, IsInst, pin_told, pin_at_number, inst_told, own_in, own_back}
use Rattle.pin_graph.proofs.NodeLaws.{under_number, node_told}
use Rattle.pin_graph.proofs.GraphRows.{level}
use Rattle.calm_laws.specs.Quiet.{IsQuietEnd}
use Rattle.calm_laws.proofs.NoSeedCalm.{no_seed_calm}
use Rattle.calm_laws.proofs.AlikeLaws.{HasTwin, twin_of, owner_same, cell_same}
use Rattle.calm_laws.proofs.QuietNodes.{IsQuietNode, named_in, quiet_all}
use Rattle.calm_laws.proofs.TestsKept.{quiet_end}
use Rattle.calm_laws.proofs.KeptSlacks.{slack_kept}
use Rattle.edit_reach.specs.Reach.{is_in, HasSeeds, AreBehind, IsBeside, HasDirty}
use Rattle.edit_reach.proofs.QuietReach.{all_low, linked, linked2, quiet, quiet_of, quiet_nodes}

of_both : (pin : Pin) (n : Node) → Contains (both_nodes pin) n → n.pin ≡ pin
of_both pin n c = elim (in_cases (record { pin = pin; tran = Rise }) (record { pin = pin; tran = Fall } ∷ []) n c) [
  | inl e ↦ ap (λ (m : Node). m.pin) (sym e)
  | inr d ↦ elim (in_cases (record { pin = pin; tran = Fall }) [] n d) [ inl e ↦ ap (λ (m : Node). m.pin) (sym e) | inr none ↦ absurd (none_in n none) ]
]

module _ (g g2 : Graphed) (touch : Touch) (made : IsEditOf g.stored touch g2.stored) (num : IsNumbered g.stored) (num2 : IsNumbered g2.stored) (is : IsGraph g) (is2 : IsGraph g2)
    (seeds found : List ℕ) (all : HasSeeds g.stored g2.stored touch seeds) (behind : AreBehind g2 seeds found)
    (dirty : List ℕ) (beside : HasDirty g2.stored seeds found dirty) where
  abbrev d : Design
  d = g.stored.design

  abbrev d2 : Design
  d2 = g2.stored.design

  abbrev calms : Named → Bool
  calms = quiet g g2 touch made num num2 is is2 seeds found all behind

  module _ (p : ℕ) (there : is_number g2.stored.pins p ≡ true) (clean : is_in dirty p ≡ false) where
    one : (pin : Pin) × HasNumber g2.stored pin p
    one = pin_at_number g2.stored num2 (linked2 g g2 touch made num num2 is is2 seeds found all behind) p there

    abbrev node_of : Tran → Node
    node_of tran = record { pin = one.0; tran = tran }

    -- its nodes are no seeds
    no_seed : (tran : Tran) → is_seed d d2 touch (node_of tran) ≡ false
    no_seed tran = elim (cases_Bool (is_seed d d2 touch (node_of tran))) [
      | inl e ↦
          let told = node_told g2.stored (node_of tran) (node_number p tran) (record { pin = p; has = one.1; number = refl }) in
          absurd (false≢true (sym clean ∙ ap (is_in dirty) (sym (under_number p tran)) ∙ beside.first (node_number p tran) (all.each (node_number p tran) (node_of tran) told e)))
      | inr e ↦ e
    ]

    pub same_end : option_map_or (is_endpoint d2) (pin_numbered g2.stored p) false ≡ option_map_or (is_endpoint d) (pin_numbered g.stored p) false
    same_end =
        let calm = no_seed_calm g.stored touch g2.stored made (node_of Rise) one.1.within (no_seed Rise) in
        let called = (named_in d (name_of one.0, Rise) calm.node calm.told).1.0 in
        let t = pin_told g.stored num (linked g g2 touch made num num2 is is2 seeds found all behind) calm.node.pin calm.within in
        let same : t.0 ≡ p =
        (numbers_kept g.stored touch g2.stored made).pins.numbers (name_of one.0) t.0 p (sym (ap (number_of g.stored.pins) called) ∙ t.1.number) one.1.number in
        let before : pin_numbered g.stored p ≡ Some calm.node.pin = sym (ap (pin_numbered g.stored) same) ∙ t.1.pin in
        ap (λ o. option_map_or (is_endpoint d2) o false) one.1.pin
        ∙ same_endpoint d d2 (framed_of g.stored touch g2.stored made) calm.node.pin one.0 calm.calm.kept.alike.pin
        ∙ sym (ap (λ o. option_map_or (is_endpoint d) o false) before)

    module _ (end : option_map_or (is_endpoint d2) (pin_numbered g2.stored p) false ≡ true) where
      -- no node of a pin beside is behind
      off : (k : ℕ) → IsBeside g2.stored (pin_under k) p → is_in found k ≡ false
      off k near = elim (cases_Bool (is_in found k)) [
        | inl e ↦ absurd (false≢true (sym clean ∙ beside.each k p e there end near))
        | inr e ↦ e
      ]

      own_quiet : (tran : Tran) → calms (name_of one.0, tran) ≡ true
      own_quiet tran =
          quiet_of g g2 touch made num num2 is is2 seeds found all behind (record { pin = one.0; tran = tran }) (node_number p tran) (record { pin = p; has = one.1; number = refl })
          (off (node_number p tran) (inl (under_number p tran)))

      module _ (tran : Tran) where
        abbrev n : Named
        n = (name_of one.0, tran)

        abbrev at : IsQuietNode d d2 calms n
        at = (quiet_nodes g g2 touch made num num2 is is2 seeds found all behind).nodes n (own_quiet tran)

        old : Contains (pins d) at.before.pin × ((name_of at.before.pin ≡ name_of one.0) × (at.before.tran ≡ tran))
        old = named_in d n at.before at.told

        new : Contains (pins d2) at.after.pin × ((name_of at.after.pin ≡ name_of one.0) × (at.after.tran ≡ tran))
        new = named_in d2 n at.after at.told2

        pin_is : pin_numbered g2.stored p ≡ Some at.after.pin
        pin_is =
            let t = pin_told g2.stored num2 (linked2 g g2 touch made num num2 is is2 seeds found all behind) at.after.pin new.0 in
            let same : t.0 ≡ p = some_is (sym t.1.number ∙ ap (number_of g2.stored.pins) new.1.0 ∙ num2.pins.distinct p (name_of one.0) one.1.name) in
            sym (ap (pin_numbered g2.stored) same) ∙ t.1.pin

        module _ (i : Inst) (owner : at.before.pin.owner ≡ Some i) (clock : Node) (c : Contains (flat_map both_nodes (inst_pins d i)) clock) where
          twin : HasTwin at.before.pin.owner at.after.pin.owner (owner_same at.before at.after at.calm.kept.alike) i
          twin = twin_of at.before.pin.owner at.after.pin.owner (owner_same at.before at.after at.calm.kept.alike) i owner

          abbrev j : Inst
          j = twin.twin

          its : IsInst g2.stored j (inst_told g2.stored num2 (linked2 g g2 touch made num num2 is is2 seeds found all behind) j
              (own_back d2 (linked2 g g2 touch made num num2 is is2 seeds found all behind) at.after.pin j new.0 twin.owner).inst).0
          its =
              (inst_told g2.stored num2 (linked2 g g2 touch made num num2 is is2 seeds found all behind) j
              (own_back d2 (linked2 g g2 touch made num num2 is is2 seeds found all behind) at.after.pin j new.0 twin.owner).inst).1

          clock_quiet : calms (named clock) ≡ true
          clock_quiet =
              let a = in_flat_map_back both_nodes (inst_pins d i) clock c in
              let m = in_map_back (cell_pin i) (cell_pins (cell_of d Late i)) a.item a.within in
              let cells : Contains (cell_pins (cell_of d2 Late j)) m.item =
              subst (λ (o : Option Cell). Contains (cell_pins o) m.item) (cell_same d d2 (framed_of g.stored touch g2.stored made) Late i j twin.cell) m.within in
              let q = pin_told g2.stored num2 (linked2 g g2 touch made num num2 is is2 seeds found all behind) (cell_pin j m.item)
              (own_in d2 (linked2 g g2 touch made num num2 is is2 seeds found all behind) j m.item its.within cells) in
              let pin : cell_pin i m.item ≡ clock.pin = m.same ∙ sym (of_both a.item clock a.inside) in
              let name : name_of (cell_pin j m.item) ≡ name_of clock.pin = (λ k. twin.name k ++ 58 ∷ m.item.name) ∙ ap name_of pin in
              let same : named (record { pin = cell_pin j m.item; tran = clock.tran }) ≡ named clock = (λ k. (name k, clock.tran)) in
              let ours : owner_number g2.stored p ≡ number_of g2.stored.insts j.name =
              ap (λ o. option_and_then (λ (inst : Inst). number_of g2.stored.insts inst.name) (option_and_then (λ (x : Pin). x.owner) o)) pin_is
              ∙ ap (option_and_then (λ (inst : Inst). number_of g2.stored.insts inst.name)) twin.owner in
              let its_own : owner_number g2.stored q.0 ≡ number_of g2.stored.insts j.name =
              ap (λ o. option_and_then (λ (inst : Inst). number_of g2.stored.insts inst.name) (option_and_then (λ (x : Pin). x.owner) o)) q.1.pin in
              let under = under_number q.0 clock.tran in
              sym (ap calms same)
              ∙ quiet_of g g2 touch made num num2 is is2 seeds found all behind (record { pin = cell_pin j m.item; tran = clock.tran }) (node_number q.0 clock.tran)
              (record { pin = q.0; has = q.1; number = refl })
              (off (node_number q.0 clock.tran) (inr (_, ap (owner_number g2.stored) under ∙ its_own ∙ its.number, ours ∙ its.number)))

      -- the tests of the pin, where it is an endpoint
      quiet_pin : (kind : Kind) → IsQuietEnd d d2 calms kind (name_of one.0)
      quiet_pin kind =
          quiet_end d d2 (level g num (linked g g2 touch made num num2 is is2 seeds found all behind) is) (level g2 num2 (linked2 g g2 touch made num num2 is is2 seeds found all behind) is2) calms
          (quiet_nodes g g2 touch made num num2 is is2 seeds found all behind)
          (all_low g num (linked g g2 touch made num num2 is is2 seeds found all behind) is)
          (all_low g2 num2 (linked2 g g2 touch made num num2 is is2 seeds found all behind) is2)
          kind (name_of one.0) own_quiet (λ tran. record { clocks = λ inst owner clock c tests. inl (clock_quiet tran inst owner clock c) })

      -- what is kept of such a pin
      pub record IsKeptPin : Type 0 where
        pub name : name_at g.stored.pins p ≡ name_at g2.stored.pins p
        pub slack : (word : List ℕ) → name_at g2.stored.pins p ≡ Some word → (kind : Kind) (s : Option ℤ) → IsSlack d kind word s → IsSlack d2 kind word s

      kept_with : (tran : Tran) → IsKeptPin
      kept_with tran =
          let w = at tran in
          let t = pin_told g.stored num (linked g g2 touch made num num2 is is2 seeds found all behind) w.before.pin (old tran).0 in
          let called = (old tran).1.0 in
          let same : t.0 ≡ p =
          (numbers_kept g.stored touch g2.stored made).pins.numbers (name_of one.0) t.0 p
          (sym (ap (number_of g.stored.pins) called) ∙ t.1.number) one.1.number in
          record {
            name = sym (ap (name_at g.stored.pins) same) ∙ t.1.name ∙ ap Some called ∙ sym one.1.name;
            slack = λ word told kind s.
                subst (λ (x : List ℕ). IsSlack d kind x s → IsSlack d2 kind x s) (some_is (sym one.1.name ∙ told))
                (slack_kept d d2 calms
                (quiet_all d d2 (level g num (linked g g2 touch made num num2 is is2 seeds found all behind) is) (level g2 num2 (linked2 g g2 touch made num num2 is is2 seeds found all behind) is2) calms
                (quiet_nodes g g2 touch made num num2 is is2 seeds found all behind))
                kind (name_of one.0) (quiet_pin kind) s);
          }

      pub clean_pin : IsKeptPin
      clean_pin = kept_with Rise
