-- Times by numbers are carried along the paths of both designs.

use Rattle.std.proofs.Common.{◌≡◌, ℕ, ℤ, ◌+ℤ◌, Bool, true, false, not, List, Option, None, Some, refl, sym, ap, subst, ◌∙◌, inl, inr}
use Rattle.std.specs.Prelude.{find, ◌&&◌, nat_eq, option_and_then}
use Rattle.std.specs.Option.{option_map_or}
use Rattle.std.proofs.lemmas.Bool.{cases_Bool, false≢true, and_from, and_parts}
use Rattle.std.proofs.lemmas.List.Elements.{All-contains}
use Rattle.timing_defs.specs.declared.edge_times.EdgeTime.{EdgeTime}
use Rattle.timing_defs.specs.declared.kinds.Split.{Split}
use Rattle.timing_defs.specs.declared.kinds.Tran.{Tran}
use Rattle.timing_defs.specs.declared.design.Design.{Design}
use Rattle.timing_defs.specs.Netlist.{Node, same_tran}
use Rattle.timing_defs.specs.Touches.{Touch}
use Rattle.timing_rules.specs.Rows.{row, arrival}
use Rattle.timing_defs.specs.RowTimes.{times_in, time_on}
use Rattle.timing_rules.specs.Paths.{Named, node_named, delay_between}
use Rattle.timing_defs.proofs.Members.{found_in}
use Rattle.netlist_store.specs.Numbering.{IsNumbered}
use Rattle.netlist_store.specs.Applying.{IsEditOf}
use Rattle.pin_graph.specs.declared.arcs.GraphArc.{GraphArc}
use Rattle.pin_graph.specs.Nodes.{number_at}
use Rattle.pin_graph.specs.Graphs.{Graphed, IsGraph, IsArc, fan_at}
use Rattle.pin_graph.proofs.JoinLaws.{then_back, mapped_back}
use Rattle.pin_graph.proofs.GraphRows.{level}
use Rattle.calm_laws.proofs.QuietNodes.{quiet_all}
use Rattle.edit_reach.specs.Reach.{is_in, HasSeeds, AreBehind}
use Rattle.edit_reach.proofs.QuietReach.{quiet, quiet_nodes, linked, linked2}
use Rattle.bounded_changes.specs.Agreed.{Steps}
use Rattle.bounded_changes.specs.Carried.{IsBeyond, arrival_named, AreArrivals, AreCarried}
use Rattle.bounded_changes.proofs.CarriedPaths.{beyond_value, further}
use Rattle.bounded_changes.proofs.Outermost.{each_beyond}
use Rattle.carried_times.specs.Unseeded.{is_unseeded, same_time, steps_left}
use Rattle.carried_times.specs.Times.{ArrivesAt, IsTimedStep, AreTimes, outermost_time, gone_time, time_or, time_named}
use Rattle.carried_times.proofs.Unseeded.{HasUnseeded, unseeded_node, same_is, same_self}
use Rattle.carried_times.proofs.StepPairs.{numbered, arrives_at, IsStepPair, one_number, pair_before, pair_after}

not_false : (b : Bool) → not b ≡ false → b ≡ true
not_false true e = refl
not_false false e = absurd (false≢true (sym e))

module _ (g g2 : Graphed) (touch : Touch) (made : IsEditOf g.stored touch g2.stored) (num : IsNumbered g.stored) (num2 : IsNumbered g2.stored) (is : IsGraph g) (is2 : IsGraph g2)
    (seeds found : List ℕ) (all : HasSeeds g.stored g2.stored touch seeds) (behind : AreBehind g2 seeds found)
    (split : Split) (time : ℕ → Option ℤ) (times : AreTimes g.stored g2.stored seeds found split time) where
  abbrev d : Design
  d = g.stored.design

  abbrev d2 : Design
  d2 = g2.stored.design

  abbrev left : Steps
  left = steps_left d g2.stored split seeds

  abbrev carried : Named → Option ℤ
  carried = time_named g.stored g2.stored split time

  at_number : (n : Named) (k : ℕ) → number_at g2.stored n.0 n.1 ≡ Some k → carried n ≡ time k
  at_number n k e = ap (time_or time (gone_time d split n)) e

  at_none : (n : Named) → number_at g2.stored n.0 n.1 ≡ None → carried n ≡ gone_time d split n
  at_none n e = ap (time_or time (gone_time d split n)) e

  seed_is : (n : Named) (k : ℕ) → number_at g2.stored n.0 n.1 ≡ Some k → is_unseeded g2.stored seeds n ≡ false → is_in seeds k ≡ true
  seed_is n k e off = not_false (is_in seeds k) (sym (ap (λ o. option_map_or (λ j. not (is_in seeds j)) o false) e) ∙ off)

  -- a node that is gone, or a seed, is as late as it arrives
  gone : (edge : ℕ × Tran) (n : Named) (a : Node) (t : ℤ) → node_named d n ≡ Some a → arrival_named d split edge n ≡ Some t → IsBeyond split (gone_time d split n) t
  gone edge n a t e h =
      let there : time_on (times_in split (row d a)) edge ≡ Some t = sym (ap (option_and_then (λ node. arrival d split node edge)) e) ∙ h in
      let m = mapped_back (λ (t : EdgeTime). t.time.0) (find (λ t. nat_eq t.clock edge.0 && same_tran t.tran edge.1) (times_in split (row d a))) t there in
      subst (λ (o : Option ℤ). IsBeyond split o t) (sym (ap (λ o. option_map_or (λ node. outermost_time split (times_in split (row d node))) o None) e))
      (each_beyond split (λ (t : EdgeTime). Some t.time.0) t (times_in split (row d a)) None m.0
      (found_in (λ t. nat_eq t.clock edge.0 && same_tran t.tran edge.1) (times_in split (row d a)) m.0 m.1) (ap Some m.2))

  whole_before : (edge : ℕ × Tran) (n : Named) (t : ℤ) → is_unseeded g2.stored seeds n ≡ false → arrival_named d split edge n ≡ Some t → IsBeyond split (carried n) t
  whole_before edge n t off h =
      let a = then_back (λ node. arrival d split node edge) (node_named d n) t h in
      by a.0 a.1 (number_at g2.stored n.0 n.1) refl
    where
      by : (a : Node) → node_named d n ≡ Some a → (o : Option ℕ) → number_at g2.stored n.0 n.1 ≡ o → IsBeyond split (carried n) t
      by a e None f = subst (λ (o : Option ℤ). IsBeyond split o t) (sym (at_none n f)) (gone edge n a t e h)
      by a e (Some k) f =
          let j = numbered g.stored num (linked g g2 touch made num num2 is is2 seeds found all behind) n a e in
          let same = one_number g.stored g2.stored touch made num num2 seeds all n j.number k j.at f in
          let arrives = arrives_at g.stored num (linked g g2 touch made num num2 is is2 seeds found all behind) split edge n a j.number e j.has t h in
          subst (λ (o : Option ℤ). IsBeyond split o t) (sym (at_number n k f))
          (times.seeds_before k t (seed_is n k f off) (subst (λ (i : ℕ). ArrivesAt g.stored split i t) same arrives))

  whole_after : (edge : ℕ × Tran) (n : Named) (t : ℤ) → is_unseeded g2.stored seeds n ≡ false → arrival_named d2 split edge n ≡ Some t → IsBeyond split (carried n) t
  whole_after edge n t off h =
      let a = then_back (λ node. arrival d2 split node edge) (node_named d2 n) t h in
      let k = numbered g2.stored num2 (linked2 g g2 touch made num num2 is is2 seeds found all behind) n a.0 a.1 in
      subst (λ (o : Option ℤ). IsBeyond split o t) (sym (at_number n k.number k.at))
      (times.seeds_after k.number t (seed_is n k.number k.at off)
      (arrives_at g2.stored num2 (linked2 g g2 touch made num num2 is is2 seeds found all behind) split edge n a.0 k.number a.1 k.has t h))

  -- an arrival beyond a time, carried
  carry_on : (edge : ℕ × Tran) (e : Design) (n : Named) (t : ℤ) → ((u : ℤ) → arrival_named e split edge n ≡ Some u → IsBeyond split (carried n) u) → IsBeyond split (arrival_named e split edge n) t
      → IsBeyond split (carried n) t
  carry_on edge e n t whole at =
      let v = beyond_value split (arrival_named e split edge n) t at in
      further split (carried n) t v.value (whole v.value v.is) v.beyond

  -- a node whose delays differ is behind a seed
  behind_of : (m n : Named) (k : ℕ) (h : HasUnseeded g.stored g2.stored touch made num2 seeds all n) → number_at g2.stored n.0 n.1 ≡ Some k
      → (delay_between d2 split m n ≡ delay_between d split m n → ⊥) → is_in found k ≡ true
  behind_of m n k h f other = elim (cases_Bool (is_in found k)) [
    | inl e ↦ e
    | inr e ↦
        absurd (other ((quiet_all d d2 (level g num (linked g g2 touch made num num2 is is2 seeds found all behind) is)
        (level g2 num2 (linked2 g g2 touch made num num2 is is2 seeds found all behind) is2)
        (quiet g g2 touch made num num2 is is2 seeds found all behind)
        (quiet_nodes g g2 touch made num num2 is is2 seeds found all behind)).delays split m n
        (ap (λ o. option_map_or (λ j. not (is_in found j)) o false) f ∙ ap not e)))
  ]

  -- what an arc leads to from a node behind a seed
  onward_in : (arc : GraphArc) → IsArc g2.stored arc → is_in found arc.from ≡ true → is_in found arc.to ≡ true
  onward_in arc its e =
      All-contains (λ (a : GraphArc). is_in found a.to ≡ true) (fan_at g2.outs arc.from) arc (behind.onward arc.from e) ((is2.outs arc.from (behind.below arc.from e)).all arc its refl)

  is_no_seed : (n : Named) (k : ℕ) → number_at g2.stored n.0 n.1 ≡ Some k → is_unseeded g2.stored seeds n ≡ true → is_in seeds k ≡ false
  is_no_seed n k e on = not_true (is_in seeds k) (sym (ap (λ o. option_map_or (λ j. not (is_in seeds j)) o false) e) ∙ on)
    where
      not_true : (b : Bool) → not b ≡ true → b ≡ false
      not_true true e = absurd (false≢true e)
      not_true false e = refl

  -- the delays of a step that is not left differ, where it leads to no seed
  differs : (m n : Named) → left (Some m) n ≡ false → is_unseeded g2.stored seeds n ≡ true → delay_between d2 split m n ≡ delay_between d split m n → ⊥
  differs m n off on same =
      false≢true (sym off ∙ and_from (is_unseeded g2.stored seeds n) (same_time (delay_between d2 split m n) (delay_between d split m n)) on
      (same_self (delay_between d2 split m n) (delay_between d split m n) same))

  module _ (m n : Named) (p : IsStepPair g.stored g2.stored split m n) where
    stepped : is_in found p.arc.to ≡ true → is_unseeded g2.stored seeds n ≡ true → IsTimedStep g.stored g2.stored split time p.arc.from p.arc.to
    stepped inside on = times.steps p.arc p.is_arc inside (is_no_seed n p.arc.to p.to_at on)

    to_time : (t : ℤ) → IsBeyond split (time p.arc.to) t → IsBeyond split (carried n) t
    to_time t h = subst (λ (o : Option ℤ). IsBeyond split o t) (sym (at_number n p.arc.to p.to_at)) h

    -- a step that is left, from a node with a time
    left_on : (t x : ℤ) → left (Some m) n ≡ true → carried m ≡ Some t → delay_between d split m n ≡ Some x → delay_between d2 split m n ≡ Some x → IsBeyond split (carried n) (t +ℤ x)
    left_on t x on c e f =
        let unseeded = (and_parts (is_unseeded g2.stored seeds n) (same_time (delay_between d2 split m n) (delay_between d split m n)) on).0 in
        let at : time p.arc.from ≡ Some t = sym (at_number m p.arc.from p.from_at) ∙ c in
        to_time (t +ℤ x) ((stepped (onward_in p.arc p.is_arc (times.found_only p.arc.from t at)) unseeded).onward t x (sym p.told ∙ e) (sym p.told2 ∙ f) at)

    module _ (h : HasUnseeded g.stored g2.stored touch made num2 seeds all n) (off : left (Some m) n ≡ false) (on : is_unseeded g2.stored seeds n ≡ true) where
      inside : is_in found p.arc.to ≡ true
      inside = behind_of m n p.arc.to h p.to_at (differs m n off on)

      turned_before : (edge : ℕ × Tran) (t x : ℤ) → arrival_named d split edge m ≡ Some t → delay_between d split m n ≡ Some x → IsBeyond split (carried n) (t +ℤ x)
      turned_before edge t x at e =
          to_time (t +ℤ x) ((stepped inside on).before t x (sym p.told ∙ e) (λ f. differs m n off on (p.told2 ∙ f ∙ sym e)) (p.arrives edge t at))

      turned_after : (edge : ℕ × Tran) (t x : ℤ) → arrival_named d2 split edge m ≡ Some t → delay_between d2 split m n ≡ Some x → IsBeyond split (carried n) (t +ℤ x)
      turned_after edge t x at e =
          to_time (t +ℤ x) ((stepped inside on).after t x (sym p.told2 ∙ e) (λ f. differs m n off on (e ∙ sym (p.told ∙ f))) (p.arrives2 edge t at))

  same_left : (m n : Named) → left (Some m) n ≡ true → (is_unseeded g2.stored seeds n ≡ true) × (delay_between d2 split m n ≡ delay_between d split m n)
  same_left m n on =
      let parts = and_parts (is_unseeded g2.stored seeds n) (same_time (delay_between d2 split m n) (delay_between d split m n)) on in
      (parts.0, same_is (delay_between d2 split m n) (delay_between d split m n) parts.1)

  unseeded : (n : Named) → is_unseeded g2.stored seeds n ≡ true → HasUnseeded g.stored g2.stored touch made num2 seeds all n
  unseeded n on = unseeded_node g.stored g2.stored touch made num2 seeds all n on

  pub carried_before : AreArrivals d split → AreCarried d split left carried
  carried_before arrive = record {
    starts = λ n edge t off h. carry_on edge d n t (λ u. whole_before edge n u off) (arrive.starts n edge t h);
    steps = λ edge m n t x off at h. elim (cases_Bool (is_unseeded g2.stored seeds n)) [
      | inl on ↦ turned_before m n (pair_before g.stored g2.stored touch made num num2 seeds all split m n (unseeded n on) x h) (unseeded n on) off on edge t x at h
      | inr none ↦ carry_on edge d n (t +ℤ x) (λ u. whole_before edge n u none) (arrive.steps edge m n t x at h)
    ];
    onward = λ m n t x on c h.
        (let s = same_left m n on in
        left_on m n (pair_before g.stored g2.stored touch made num num2 seeds all split m n (unseeded n s.0) x h) t x on c h (s.1 ∙ h));
  }

  pub carried_after : AreArrivals d2 split → AreCarried d2 split left carried
  carried_after arrive = record {
    starts = λ n edge t off h. carry_on edge d2 n t (λ u. whole_after edge n u off) (arrive.starts n edge t h);
    steps = λ edge m n t x off at h. elim (cases_Bool (is_unseeded g2.stored seeds n)) [
      | inl on ↦ turned_after m n (pair_after g.stored g2.stored touch made num num2 seeds all split m n (unseeded n on) x h) (unseeded n on) off on edge t x at h
      | inr none ↦ carry_on edge d2 n (t +ℤ x) (λ u. whole_after edge n u none) (arrive.steps edge m n t x at h)
    ];
    onward = λ m n t x on c h.
        (let s = same_left m n on in
        left_on m n (pair_after g.stored g2.stored touch made num num2 seeds all split m n (unseeded n s.0) x h) t x on c (sym s.1 ∙ h) h);
  }
