-- An endpoint keeps its slack where its tests are kept and the times that are carried to its nodes leave more.

use Rattle.std.proofs.Common.{◌≡◌, ◌⊎◌, ℕ, ◌+ℤ◌, ◌-ℤ◌, ℤ, pos, false, List, [], Option, None, Some, refl, sym, ap, subst, ◌∙◌, inl, inr, arith}
use Rattle.std.specs.Prelude.{Contains, find, IfSome, ◌&&◌, ◌<ℤ◌, nat_eq, option_map, option_and_then}
use Rattle.std.specs.Option.{option_map_or}
use Rattle.std.proofs.lemmas.Bool.{cases_Bool, false≢true, and_parts, eqb-true}
use Rattle.std.proofs.lemmas.Int.{ints}
use Rattle.timing_defs.specs.declared.edge_times.EdgeTime.{EdgeTime}
use Rattle.timing_defs.specs.declared.kinds.Split.{Split}
use Rattle.timing_defs.specs.declared.kinds.Tran.{Tran}
use Rattle.timing_defs.specs.declared.kinds.Tran.TheVariants.{Rise}
use Rattle.timing_defs.specs.declared.kinds.Kind.{Kind}
use Rattle.timing_defs.specs.declared.kinds.Kind.TheVariants.{Setup, Hold}
use Rattle.timing_defs.specs.declared.design.Design.{Design}
use Rattle.timing_defs.specs.Netlist.{Pin, Node, name_of, same_tran}
use Rattle.timing_defs.specs.Touches.{Touch}
use Rattle.timing_rules.specs.Cones.{is_seed}
use Rattle.timing_rules.specs.Paths.{node_named, IsSlack}
use Rattle.timing_rules.specs.Rows.{arrival, empty_row, row}
use Rattle.timing_defs.specs.RowTimes.{time_on, times_in}
use Rattle.timing_rules.specs.Tests.{Test, tests_at}
use Rattle.timing_defs.specs.Kinds.{data_split}
use Rattle.timing_defs.proofs.Members.{some_is, found_in, found_passes}
use Rattle.netlist_store.specs.Numbering.{name_at, number_of, IsNumbered}
use Rattle.netlist_store.specs.Applying.{IsEditOf}
use Rattle.eco_laws.proofs.EditOf.{numbers_kept}
use Rattle.store_pins.proofs.PinLaws.{HasNumber, pin_told}
use Rattle.pin_graph.specs.Nodes.{node_number, number_at}
use Rattle.pin_graph.specs.Graphs.{Graphed, IsGraph}
use Rattle.pin_graph.specs.RowTables.{row_numbered}
use Rattle.pin_graph.proofs.JoinLaws.{then_back, mapped_back}
use Rattle.pin_graph.proofs.NodeLaws.{HasNode, node_told}
use Rattle.calm_laws.proofs.CellNodes.{tran_is}
use Rattle.calm_laws.proofs.NoSeedCalm.{no_seed_calm}
use Rattle.calm_laws.proofs.QuietNodes.{told_node, named_in}
use Rattle.edit_reach.specs.Reach.{HasSeeds, AreBehind}
use Rattle.edit_reach.proofs.QuietReach.{linked, linked2}
use Rattle.bounded_changes.specs.Agreed.{tests_of}
use Rattle.bounded_changes.specs.Carried.{room, Arrives, IsShieldedFrom, IsShielded}
use Rattle.bounded_changes.proofs.Shielded.{slack_stays}
use Rattle.carried_times.specs.declared.walking.CarriedTimes.{CarriedTimes}
use Rattle.carried_times.specs.Carry.{time_of}
use Rattle.carried_times.specs.KeptPins.{IsKeptPin}
use Rattle.carried_times.specs.Sides.{time_at, AreCarriedTimes}
use Rattle.carried_times.specs.Times.{gone_time, time_or, time_named}
use Rattle.carried_times.specs.Unseeded.{steps_left}
use Rattle.carried_times.proofs.KeptEnds.{one as pin_of_end, kept_end}
use Rattle.carried_times.proofs.StepPairs.{numbered, one_number}
use Rattle.carried_times.proofs.TimesCarried.{carried_before, carried_after}
use Rattle.carried_times.proofs.Unseeded.{agreed_left}
use Rattle.path_search.specs.EndLows.{edge_at, IsLowIn, IsEndLow}
use Rattle.path_search.proofs.NamedArrivals.{named_arrivals}
use Rattle.path_search.proofs.Setting.{timed}
use Rattle.affected_cone.specs.Bounds.{IsRoom, HasRoom, IsKeptSlack}

-- an arrival on an edge, by the number of its node
record IsOn (times : List EdgeTime) (edge : ℕ × Tran) : Type 0 where
  time : EdgeTime
  within : Contains times time
  on : edge_at time ≡ edge

on_edge : (times : List EdgeTime) (edge : ℕ × Tran) (t : ℤ) → time_on times edge ≡ Some t → IsOn times edge
on_edge times edge t h =
    let m = mapped_back (λ (x : EdgeTime). x.time.0) (find (λ x. nat_eq x.clock edge.0 && same_tran x.tran edge.1) times) t h in
    let p = and_parts (nat_eq m.0.clock edge.0) (same_tran m.0.tran edge.1) (found_passes (λ x. nat_eq x.clock edge.0 && same_tran x.tran edge.1) times m.0 m.1) in
    let clock = eqb-true m.0.clock edge.0 p.0 in
    let tran = tran_is m.0.tran edge.1 p.1 in
    record {
      time = m.0;
      within = found_in (λ x. nat_eq x.clock edge.0 && same_tran x.tran edge.1) times m.0 m.1;
      on = λ k. (clock k, tran k);
    }

-- a low with room, where there is none to tell
spare : (kind : Kind) (s c : ℤ) → (low : ℤ) × (s <ℤ room kind low c)
spare Setup s c = (s +ℤ c +ℤ pos 1, (let r : s <ℤ ((s +ℤ c +ℤ pos 1) -ℤ c) = omega (arith, ints) in r))
spare Hold s c = (s -ℤ c +ℤ pos 1, (let r : s <ℤ ((s -ℤ c +ℤ pos 1) +ℤ c) = omega (arith, ints) in r))

module _ (g g2 : Graphed) (touch : Touch) (made : IsEditOf g.stored touch g2.stored) (num : IsNumbered g.stored) (num2 : IsNumbered g2.stored) (is : IsGraph g) (is2 : IsGraph g2)
    (seeds found : List ℕ) (all : HasSeeds g.stored g2.stored touch seeds) (behind : AreBehind g2 seeds found) (c : CarriedTimes) (carried : AreCarriedTimes g.stored g2.stored seeds found c)
    (kind : Kind) (p : ℕ) (kept : IsKeptPin g.stored g2 seeds found (data_split kind) p) where
  abbrev d : Design
  d = g.stored.design

  abbrev d2 : Design
  d2 = g2.stored.design

  abbrev split : Split
  split = data_split kind

  abbrev time : ℕ → Option ℤ
  time n = time_of split (time_at c.nodes.keys c.times n)

  abbrev one : (pin : Pin) × HasNumber g2.stored pin p
  one = pin_of_end g g2 touch made num num2 is is2 seeds found all behind kind p kept

  abbrev now : Tran → Node
  now tran = record { pin = one.0; tran = tran }

  has : (tran : Tran) → HasNode g2.stored (now tran) (node_number p tran)
  has tran = record { pin = p; has = one.1; number = refl }

  number_is : (tran : Tran) → number_at g2.stored (name_of one.0) tran ≡ Some (node_number p tran)
  number_is tran = ap (option_map (λ pin. node_number pin tran)) one.1.number

  -- an edge on which the node arrives is one of its times by number
  after_on : (tran : Tran) (edge : ℕ × Tran) → Arrives d2 split edge (name_of one.0, tran) → IsOn (times_in split (row_numbered g2.stored (node_number p tran))) edge
  after_on tran edge (t, h) =
      on_edge (times_in split (row_numbered g2.stored (node_number p tran))) edge t
      (ap (λ o. time_on (times_in split (option_map_or (row d2) o empty_row)) edge) (node_told g2.stored (now tran) (node_number p tran) (has tran))
      ∙ ap (option_and_then (λ node. arrival d2 split node edge))
      (sym (told_node d2 (linked2 g g2 touch made num num2 is is2 seeds found all behind) (now tran) one.1.within)) ∙ h)

  before_on : (tran : Tran) (edge : ℕ × Tran) → Arrives d split edge (name_of one.0, tran) → IsOn (times_in split (row_numbered g.stored (node_number p tran))) edge
  before_on tran edge (t, h) =
      let a = then_back (λ node. arrival d split node edge) (node_named d (name_of one.0, tran)) t h in
      let j = numbered g.stored num (linked g g2 touch made num num2 is is2 seeds found all behind) (name_of one.0, tran) a.0 a.1 in
      let same = one_number g.stored g2.stored touch made num num2 seeds all (name_of one.0, tran) j.number (node_number p tran) j.at (number_is tran) in
      on_edge (times_in split (row_numbered g.stored (node_number p tran))) edge t
      (ap (λ k. time_on (times_in split (row_numbered g.stored k)) edge) (sym same)
      ∙ ap (λ o. time_on (times_in split (option_map_or (row d) o empty_row)) edge) (node_told g.stored a.0 j.number j.has) ∙ a.2)

  module _ (slack : ℤ) (rooms : (tran : Tran) → HasRoom g.stored g2.stored kind (node_number p tran) (time (node_number p tran)) slack) where
    shielded : (tran : Tran) → IsShielded d d2 kind (time_named g.stored g2.stored split time) (name_of one.0, tran) slack
    shielded tran v at = by r.low r.before r.after r.more
      where
        comes : time (node_number p tran) ≡ Some v
        comes = sym (ap (time_or time (gone_time d split (name_of one.0, tran))) (number_is tran)) ∙ at

        r : IsRoom g.stored g2.stored kind (node_number p tran) slack v
        r = rooms tran v comes

        asked : (test : Test) → Contains (tests_of d2 kind (name_of one.0, tran)) test → Contains (tests_at d2 kind (now tran)) test
        asked test m =
            subst (λ (o : Option Node). Contains (option_map_or (tests_at d2 kind) o []) test)
            (told_node d2 (linked2 g g2 touch made num num2 is is2 seeds found all behind) (now tran) one.1.within) m

        low_at : (low : Option ℤ) → IsEndLow g2.stored kind (node_number p tran) (times_in split (row_numbered g.stored (node_number p tran))) low
            → IsEndLow g2.stored kind (node_number p tran) (times_in split (row_numbered g2.stored (node_number p tran))) low
            → (edge : ℕ × Tran) → Arrives d split edge (name_of one.0, tran) ⊎ Arrives d2 split edge (name_of one.0, tran)
            → (test : Test) → Contains (tests_of d2 kind (name_of one.0, tran)) test → IsLowIn d2 kind edge test low
        low_at low before after edge (inl old) test m =
            let o = before_on tran edge old in
            subst (λ (e : ℕ × Tran). IsLowIn d2 kind e test low) o.on
            (before (now tran) (node_told g2.stored (now tran) (node_number p tran) (has tran)) o.time o.within test (asked test m))
        low_at low before after edge (inr new) test m =
            let o = after_on tran edge new in
            subst (λ (e : ℕ × Tran). IsLowIn d2 kind e test low) o.on
            (after (now tran) (node_told g2.stored (now tran) (node_number p tran) (has tran)) o.time o.within test (asked test m))

        by : (low : Option ℤ) → IsEndLow g2.stored kind (node_number p tran) (times_in split (row_numbered g.stored (node_number p tran))) low
            → IsEndLow g2.stored kind (node_number p tran) (times_in split (row_numbered g2.stored (node_number p tran))) low
            → IfSome low (λ l. slack <ℤ room kind l v) → IsShieldedFrom d d2 kind (name_of one.0, tran) slack v
        by None before after more = record {
          low = (spare kind slack v).0;
          lowest = λ edge there test m. absurd (low_at None before after edge there test m);
          more = (spare kind slack v).1;
        }
        by (Some l) before after more = record { low = l; lowest = low_at (Some l) before after; more = more }

    no_seed : is_seed d d2 touch (now Rise) ≡ false
    no_seed = elim (cases_Bool (is_seed d d2 touch (now Rise))) [
      | inl e ↦ absurd (false≢true (sym (kept.unseeded Rise) ∙ all.each (node_number p Rise) (now Rise) (node_told g2.stored (now Rise) (node_number p Rise) (has Rise)) e))
      | inr e ↦ e
    ]

    -- its name in the base
    name_before : (word : List ℕ) → name_at g2.stored.pins p ≡ Some word → name_at g.stored.pins p ≡ Some word
    name_before word name =
        let calm = no_seed_calm g.stored touch g2.stored made (now Rise) one.1.within no_seed in
        let called = (named_in d (name_of one.0, Rise) calm.node calm.told).1.0 in
        let t = pin_told g.stored num (linked g g2 touch made num num2 is is2 seeds found all behind) calm.node.pin calm.within in
        let same : t.0 ≡ p =
        (numbers_kept g.stored touch g2.stored made).pins.numbers (name_of one.0) t.0 p (sym (ap (number_of g.stored.pins) called) ∙ t.1.number) one.1.number in
        sym (ap (name_at g.stored.pins) same) ∙ t.1.name ∙ ap Some called ∙ sym one.1.name ∙ name

    pub slack_kept : IsKeptSlack g.stored g2.stored kind p slack
    slack_kept old word name =
        let same : name_of one.0 ≡ word = some_is (sym one.1.name ∙ name) in
        let arrive = named_arrivals g num (linked g g2 touch made num num2 is is2 seeds found all behind) is
        (timed g num (linked g g2 touch made num num2 is is2 seeds found all behind) is) split in
        let arrive2 = named_arrivals g2 num2 (linked2 g g2 touch made num num2 is is2 seeds found all behind) is2
        (timed g2 num2 (linked2 g g2 touch made num num2 is is2 seeds found all behind) is2) split in
        subst (λ (w : List ℕ). IsSlack d2 kind w (Some slack)) same
        (slack_stays d d2 kind (steps_left d g2.stored split seeds) (agreed_left g.stored g2.stored touch made num2 seeds all split)
        (time_named g.stored g2.stored split time) (name_of one.0) slack shielded
        (kept_end g g2 touch made num num2 is is2 seeds found all behind kind p kept)
        arrive arrive2
        (carried_before g g2 touch made num num2 is is2 seeds found all behind split time (carried.times split) arrive)
        (carried_after g g2 touch made num num2 is is2 seeds found all behind split time (carried.times split) arrive2)
        (subst (λ (w : List ℕ). IsSlack d kind w (Some slack)) (sym same) (old word (name_before word name))))
