-- Times that are found one after another are carried along the paths of both designs.

use Rattle.std.proofs.Common.{◌≡◌, ℕ, ◌<◌, ℤ, Bool, true, false, List, [], cond, length, get_or, Option, None, Some, refl, sym, ap, subst, ◌∙◌, inl, inr, arith}
use Rattle.std.specs.Prelude.{Contains, nat_eq, nat_lt, position, slice_get, Result, IfOk, IfSome, if◌then◌else◌}
use Rattle.std.specs.Option.{option_map_or}
use Rattle.std.specs.List.{position_or_len}
use Rattle.std.proofs.lemmas.Bool.{cases_Bool, ltb-true, ltb-false, lt-ltb, eqb-true, eq-eqb, false≢true}
use Rattle.std.proofs.lemmas.List.Quantifiers.{position-Some}
use Rattle.std.proofs.lemmas.List.Sums.{fails_before_first}
use Rattle.std.proofs.lemmas.List.Elements.{Contains-get_or}
use Rattle.std.proofs.lemmas.Option.{slice_get-get_or}
use Rattle.indexmap.specs.IndexSet.{insert_all}
use Rattle.sta_units.specs.declared.units.Memory.{Memory}
use Rattle.timing_defs.specs.declared.kinds.Split.{Split}
use Rattle.timing_defs.specs.declared.kinds.Split.TheVariants.{Early, Late}
use Rattle.timing_defs.specs.declared.rows.NodeRow.{NodeRow}
use Rattle.timing_defs.specs.Netlist.{Node}
use Rattle.timing_defs.specs.Touches.{Touch}
use Rattle.timing_rules.specs.Rows.{empty_row, row}
use Rattle.timing_defs.specs.RowTimes.{times_in}
use Rattle.timing_defs.proofs.Members.{any_in}
use Rattle.netlist_store.specs.Numbering.{Stored, IsNumbered}
use Rattle.netlist_store.specs.Applying.{IsEditOf}
use Rattle.pin_graph.specs.declared.arcs.GraphArc.{GraphArc}
use Rattle.pin_graph.specs.Nodes.{node_at, node_bound}
use Rattle.pin_graph.specs.Graphs.{Graphed, IsGraph, IsArc}
use Rattle.pin_graph.specs.RowTables.{AreRows, row_numbered}
use Rattle.arc_delays.specs.declared.tables.ArcDelay.{ArcDelay}
use Rattle.arc_delays.specs.Delays.{AreDelays, delay_numbered, delay_told}
use Rattle.bounded_changes.specs.Carried.{IsBeyond}
use Rattle.bounded_changes.proofs.CarriedPaths.{beyond_value, further}
use Rattle.edit_reach.specs.Reach.{is_in, HasSeeds, AreBehind}
use Rattle.edit_reach.proofs.Insertions.{from_low, place_of}
use Rattle.carried_times.specs.declared.carried.Carried.{Carried}
use Rattle.carried_times.specs.Carry.{time_of, no_times, step_of}
use Rattle.carried_times.specs.Ordered.{AreSame}
use Rattle.carried_times.specs.declared.walking.CarriedTimes.{CarriedTimes}
use Rattle.carried_times.specs.Sides.{AreCarriedTimes, Sided, sided, arrival_told, delay_by, found_at, time_at, step_told, whole_told, Covers, IsPassed, IsTold, IsWalked, IsJoined}
use Rattle.carried_times.specs.Times.{AreTimes, outermost_time}
use Rattle.carried_times.proofs.StepLaws.{arrival_beyond, step_timed}
use Rattle.carried_times.proofs.Orderings.{inserted_same}
use Rattle.carried_times.proofs.StepPairs.{base_arc}

-- the first place of a number that is in a list
record HasPlace (xs : List ℕ) (n : ℕ) : Type 0 where
  place : ℕ
  at : position (λ m. nat_eq n m) xs ≡ Some place
  there : slice_get xs place ≡ Some n
  low : place < length xs

abbrev is_n : ℕ → ℕ → Bool
is_n n m = nat_eq n m

place_in : (xs : List ℕ) (n : ℕ) → is_in xs n ≡ true → HasPlace xs n
place_in xs n e = elim (cases_Bool (nat_lt (position_or_len (is_n n) xs) (length xs))) [
  | inl lt ↦
      let at : position (is_n n) xs ≡ Some (position_or_len (is_n n) xs) = ap (λ (b : Bool). cond b (Some (position_or_len (is_n n) xs)) None) lt in
      let r = position-Some (is_n n) xs (position_or_len (is_n n) xs) 0 at in
      record {
        place = position_or_len (is_n n) xs;
        at = at;
        there = slice_get-get_or xs (position_or_len (is_n n) xs) 0 r.0 ∙ ap Some (sym (eqb-true n (get_or xs (position_or_len (is_n n) xs) 0) r.1));
        low = r.0;
      }
  | inr past ↦
      let k = place_of xs n e in
      let low = k.1 in
      let long = ltb-false (position_or_len (is_n n) xs) (length xs) past in
      let fails = fails_before_first (is_n n) xs k.0 0 (omega (arith, low, long)) in
      absurd (false≢true (sym fails ∙ ap (is_n n) k.2 ∙ eq-eqb n n refl))
]

-- a number that is not in a list has none
no_place : (xs : List ℕ) (n : ℕ) → is_in xs n ≡ false → position (is_n n) xs ≡ None
no_place xs n off = by (position (is_n n) xs) refl
  where
    by : (o : Option ℕ) → position (is_n n) xs ≡ o → position (is_n n) xs ≡ None
    by None e = e
    by (Some i) e =
        let r = position-Some (is_n n) xs i 0 e in
        absurd (false≢true (sym off ∙ any_in (is_n n) xs (get_or xs i 0) (Contains-get_or xs i 0 r.0) r.1))

-- what both tables tell of a node
module _ (s : Stored) (rows : List NodeRow) (delays : List (List ArcDelay)) (told : AreRows s rows) where
  abbrev side : Sided
  side = sided rows delays (node_bound s)

  none_past : (n : ℕ) → nat_lt n (node_bound s) ≡ false → row_numbered s n ≡ empty_row
  none_past n past = by (node_at s n) refl
    where
      by : (o : Option Node) → node_at s n ≡ o → row_numbered s n ≡ empty_row
      by None e = ap (λ o. option_map_or (row s.design) o empty_row) e
      by (Some a) e = (let low = from_low s n a e in absurd (never low (nat_lt n (node_bound s)) past refl))
        where
          never : n < node_bound s → (b : Bool) → b ≡ false → nat_lt n (node_bound s) ≡ b → ⊥
          never low true f g = absurd (false≢true (sym f))
          never low false f g = false≢true (sym g ∙ lt-ltb n (node_bound s) low)

  outer_none : (split : Split) → outermost_time split (times_in split empty_row) ≡ None
  outer_none Early = refl
  outer_none Late = refl

  arrival_is : (split : Split) (n : ℕ) → arrival_told side split n ≡ outermost_time split (times_in split (row_numbered s n))
  arrival_is split n = by (nat_lt n (node_bound s)) refl
    where
      by : (b : Bool) → nat_lt n (node_bound s) ≡ b
          → arrival_told side split n ≡ outermost_time split (times_in split (row_numbered s n))
      by true e =
          ap (λ (b : Bool). if b then option_map_or (λ row. outermost_time split (times_in split row)) (slice_get rows n) None else None) e
          ∙ ap (λ o. option_map_or (λ row. outermost_time split (times_in split row)) o None) (told.row n (ltb-true n (node_bound s) e))
      by false e =
          ap (λ (b : Bool). if b then option_map_or (λ row. outermost_time split (times_in split row)) (slice_get rows n) None else None) e
          ∙ sym (ap (λ r. outermost_time split (times_in split r)) (none_past n e) ∙ outer_none split)

  whole_is : (split : Split) (n : ℕ) → time_of split (whole_told side n) ≡ outermost_time split (times_in split (row_numbered s n))
  whole_is Early n = arrival_is Early n
  whole_is Late n = arrival_is Late n

  delay_is : AreDelays s delays → (split : Split) (arc : GraphArc) → IsArc s arc → delay_by side split arc.from arc.to ≡ delay_numbered s split arc.from arc.to
  delay_is table split arc is =
      ap (λ (b : Bool). if b then delay_told delays split arc.from arc.to else None) (lt-ltb arc.to (node_bound s) (from_low s arc.to is.to is.to_number))
      ∙ table.each split arc is

module _ (g g2 : Graphed) (touch : Touch) (made : IsEditOf g.stored touch g2.stored) (num : IsNumbered g.stored) (num2 : IsNumbered g2.stored) (is2 : IsGraph g2)
    (seeds found : List ℕ) (all : HasSeeds g.stored g2.stored touch seeds) (behind : AreBehind g2 seeds found)
    (rows rows2 : List NodeRow) (delays delays2 : List (List ArcDelay)) (told : AreRows g.stored rows) (told2 : AreRows g2.stored rows2)
    (table : AreDelays g.stored delays) (table2 : AreDelays g2.stored delays2) where
  abbrev a : Sided
  a = sided rows delays (node_bound g.stored)

  abbrev b : Sided
  b = sided rows2 delays2 (node_bound g2.stored)

  module _ (first nodes : List ℕ) (times : List Carried) (firsts : AreSame seeds first) (ordered : AreSame found nodes) (walked : IsWalked a b g2 first nodes times) where
    abbrev time : Split → ℕ → Option ℤ
    time split n = time_of split (time_at nodes times n)

    -- the times of a node that is behind a seed
    record HasTimes (n : ℕ) : Type 0 where
      times_of : Carried
      at : time_at nodes times n ≡ times_of
      is : IsTold a b g2 first nodes times n times_of

    found_by : (n : ℕ) (c : Carried) → found_at nodes times n ≡ Some c → time_at nodes times n ≡ c
    found_by n c e = ap (λ o. option_map_or (λ (t : Carried). t) o no_times) e

    times_there : (n : ℕ) → is_in found n ≡ true → HasTimes n
    times_there n e =
        let p = place_in nodes n (ordered n ∙ e) in
        let low = p.low in
        let same = walked.all in
        let c = slice_get-get_or times p.place no_times (omega (arith, low, same)) in
        record {
          times_of = get_or times p.place no_times;
          at = found_by n (get_or times p.place no_times) (ap (λ o. option_map_or (slice_get times) o (Some no_times)) p.at ∙ c);
          is = walked.told p.place n (get_or times p.place no_times) p.there c;
        }

    -- a node that has a time is behind a seed
    time_in : (split : Split) (n : ℕ) (t : ℤ) → time split n ≡ Some t → is_in found n ≡ true
    time_in split n t e = elim (cases_Bool (is_in found n)) [
      | inl f ↦ f
      | inr f ↦ absurd (never split (sym (ap (time_of split) (found_by n no_times (ap (λ o. option_map_or (slice_get times) o (Some no_times)) (no_place nodes n (ordered n ∙ f))))) ∙ e))
    ]
      where
        never : (s : Split) → time_of s no_times ≡ Some t → ⊥
        never Early h = absurd (cc)
        never Late h = absurd (cc)

    seed_time : (split : Split) (n : ℕ) (t : ℤ) (o : Option ℤ) → (h : HasTimes n) → Covers split (time_of split h.times_of) o → IsBeyond split o t → IsBeyond split (time split n) t
    seed_time split n t o h covers at =
        let v = beyond_value split o t at in
        subst (λ (p : Option ℤ). IsBeyond split p t) (sym (ap (time_of split) h.at))
        (further split (time_of split h.times_of) t v.value (covers v.value v.is) v.beyond)

    -- the base's arc of an arc into a node that is no seed
    step_covered : (split : Split) (arc : GraphArc) → IsArc g2.stored arc → is_in found arc.to ≡ true → is_in seeds arc.to ≡ false
        → Covers split (time split arc.to) (step_of split (delay_numbered g.stored split arc.from arc.to) (delay_numbered g2.stored split arc.from arc.to) (time split arc.from)
        (outermost_time split (times_in split (row_numbered g.stored arc.from))) (outermost_time split (times_in split (row_numbered g2.stored arc.from))))
    step_covered split arc is e off =
        let h = times_there arc.to e in
        let p = h.is.arcs (firsts arc.to ∙ off) arc ((is2.ins arc.to (behind.below arc.to e)).all arc is refl) in
        by split h p
      where
        was_is : (s : Split) → delay_by a s arc.from arc.to ≡ delay_numbered g.stored s arc.from arc.to
        was_is s =
            let r = base_arc g.stored g2.stored touch made num num2 seeds all arc is off in
            (λ k. delay_by a s (sym r.from k) (sym r.to k)) ∙ delay_is g.stored rows delays told table s r.arc r.is_arc ∙ (λ k. delay_numbered g.stored s (r.from k) (r.to k))

        now_is : (s : Split) → delay_by b s arc.from arc.to ≡ delay_numbered g2.stored s arc.from arc.to
        now_is s = delay_is g2.stored rows2 delays2 told2 table2 s arc is

        step_is : (s : Split) (c : Carried) → found_at nodes times arc.from ≡ Some c
            → step_told a b s arc.from arc.to (time_of s c)
            ≡ step_of s (delay_numbered g.stored s arc.from arc.to) (delay_numbered g2.stored s arc.from arc.to) (time s arc.from)
            (outermost_time s (times_in s (row_numbered g.stored arc.from))) (outermost_time s (times_in s (row_numbered g2.stored arc.from)))
        step_is s c f = λ k.
            step_of s (was_is s k) (now_is s k) (time_of s (sym (found_by arc.from c f) k))
            (arrival_is g.stored rows delays told s arc.from k) (arrival_is g2.stored rows2 delays2 told2 s arc.from k)

        by : (s : Split) (h : HasTimes arc.to) (p : IsPassed a b nodes times h.times_of arc)
            → Covers s (time s arc.to) (step_of s (delay_numbered g.stored s arc.from arc.to) (delay_numbered g2.stored s arc.from arc.to) (time s arc.from)
            (outermost_time s (times_in s (row_numbered g.stored arc.from))) (outermost_time s (times_in s (row_numbered g2.stored arc.from))))
        by Early h p =
            subst (λ (o : Option ℤ). Covers Early (time Early arc.to) o) (step_is Early p.before p.there)
            (subst (λ (c : Carried). Covers Early c.early (step_told a b Early arc.from arc.to p.before.early)) (sym h.at) (p.beyond Early))
        by Late h p =
            subst (λ (o : Option ℤ). Covers Late (time Late arc.to) o) (step_is Late p.before p.there)
            (subst (λ (c : Carried). Covers Late c.late (step_told a b Late arc.from arc.to p.before.late)) (sym h.at) (p.beyond Late))

    pub walk_timed : (split : Split) → AreTimes g.stored g2.stored seeds found split (time split)
    walk_timed split = record {
      seeds_before = λ n t e at.
          (let h = times_there n (behind.first n e) in
          seed_time split n t (outermost_time split (times_in split (row_numbered g.stored n))) h
          (subst (λ (o : Option ℤ). Covers split (time_of split h.times_of) o) (whole_is g.stored rows delays told split n) (h.is.before (firsts n ∙ e) split))
          (arrival_beyond split (times_in split (row_numbered g.stored n)) t at));
      seeds_after = λ n t e at.
          (let h = times_there n (behind.first n e) in
          seed_time split n t (outermost_time split (times_in split (row_numbered g2.stored n))) h
          (subst (λ (o : Option ℤ). Covers split (time_of split h.times_of) o) (whole_is g2.stored rows2 delays2 told2 split n) (h.is.after (firsts n ∙ e) split))
          (arrival_beyond split (times_in split (row_numbered g2.stored n)) t at));
      steps = λ arc is e off. step_timed g.stored g2.stored split (time split) arc.from arc.to (step_covered split arc is e off);
      found_only = λ n t e. time_in split n t e;
    }

  -- the same of what a walk leaves
  pub walk_carried : (old new : Sided) (n m : ℕ) → old ≡ sided rows delays n → n ≡ node_bound g.stored → new ≡ sided rows2 delays2 m → m ≡ node_bound g2.stored → (c : CarriedTimes)
      → c.seeds.keys ≡ insert_all nat_eq [] seeds → AreSame found c.nodes.keys → IsWalked old new g2 c.seeds.keys c.nodes.keys c.times → AreCarriedTimes g.stored g2.stored seeds found c
  walk_carried old new n m is_old low is_new high c put ordered walked =
      let firsts : AreSame seeds c.seeds.keys = (λ k. ap (λ (xs : List ℕ). is_in xs k) put ∙ inserted_same seeds k) in
      let by_old : IsWalked a new g2 c.seeds.keys c.nodes.keys c.times =
      subst (λ (x : Sided). IsWalked x new g2 c.seeds.keys c.nodes.keys c.times) (is_old ∙ ap (sided rows delays) low) walked in
      let by_both : IsWalked a b g2 c.seeds.keys c.nodes.keys c.times =
      subst (λ (x : Sided). IsWalked a x g2 c.seeds.keys c.nodes.keys c.times) (is_new ∙ ap (sided rows2 delays2) high) by_old in
      record {
        seeds_are = firsts;
        nodes_are = ordered;
        times = walk_timed c.seeds.keys c.nodes.keys c.times firsts ordered by_both;
      }

  -- the same of the walk's times with its seeds and nodes
  pub walk_joined : (old new : Sided) (n m : ℕ) → old ≡ sided rows delays n → n ≡ node_bound g.stored → new ≡ sided rows2 delays2 m → m ≡ node_bound g2.stored → (firsts nodes : List ℕ)
      → firsts ≡ insert_all nat_eq [] seeds → AreSame found nodes → (times : Result (Option (List Carried)) Memory) → IfOk times (λ o. IfSome o (IsWalked old new g2 firsts nodes))
      → (c : CarriedTimes) → IsJoined firsts nodes times c → AreCarriedTimes g.stored g2.stored seeds found c
  walk_joined old new n m is_old low is_new high firsts nodes put ordered times walked c is =
      walk_carried old new n m is_old low is_new high c (is.seeds_are ∙ put) (subst (λ (xs : List ℕ). AreSame found xs) (sym is.nodes_are) ordered)
      (subst (λ (xs : List ℕ). IsWalked old new g2 xs c.nodes.keys c.times) (sym is.seeds_are)
      (subst (λ (xs : List ℕ). IsWalked old new g2 firsts xs c.times) (sym is.nodes_are)
      (subst (λ (r : Result (Option (List Carried)) Memory). IfOk r (λ o. IfSome o (IsWalked old new g2 firsts nodes))) is.times_are walked)))
