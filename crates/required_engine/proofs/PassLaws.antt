-- One level of the pass: where the rows of the higher levels are the definition's, those of its nodes are written; and at the end
-- all rows are.

use Rattle.std.proofs.Common.{◌≡◌, ◌≢◌, ◌⊎◌, ℕ, zero, suc, ◌+◌, ◌-◌, ◌<◌, ◌≤◌, Bool, true, List, [], ◌∷◌, map, length, Option, None, Some, Result, Ok, Err, refl, sym, ap, subst, ◌∙◌, inl, inr, arith}
use Rattle.std.specs.Prelude.{All, Contains, slice_get, slice_set, IfOk, IfErr, IsOk, if◌then◌else◌, nat_le}
use Rattle.std.proofs.Math.Nat.{le-max_left, le-max_right}
use Rattle.std.specs.List.{list_all}
use Rattle.std.specs.Option.{option_map_or}
use Rattle.std.proofs.lemmas.Bool.{cases_eq, cases_lt, and_from, false≢true}
use Rattle.std.proofs.lemmas.List.{length-set}
use Rattle.std.proofs.lemmas.List.Elements.{All-nil, All-cons, All-head, All-tail}
use Rattle.std.proofs.lemmas.Option.{slice_get_within}
use Rattle.timing_defs.specs.declared.kinds.Split.TheVariants.{Early, Late}
use Rattle.timing_defs.specs.declared.faults.Fault.{Fault}
use Rattle.timing_defs.specs.declared.faults.Fault.TheVariants as fault
use Rattle.timing_defs.specs.declared.rows.BackRow.{BackRow}
use Rattle.timing_defs.specs.Netlist.{Pin, Node, pins, both_nodes}
use Rattle.timing_rules.specs.Required.{back_row, empty_back}
use Rattle.netlist_store.specs.Linked.{IsLinked}
use Rattle.netlist_store.specs.Numbering.{Stored, IsNumbered}
use Rattle.cow_table.specs.Writes.{put_at, written, first_refused}
use Rattle.level_workers.specs.Mapped.{IsMap}
use Rattle.levelizer.specs.Levels.{greatest}
use Rattle.pin_graph.specs.declared.arcs.GraphArc.{GraphArc}
use Rattle.pin_graph.specs.Nodes.{node_at, node_bound, node_number}
use Rattle.pin_graph.specs.Graphs.{Graphed, IsGraph, fan_at, level_at}
use Rattle.pin_graph.specs.RowTables.{back_numbered, AreBackRows, AreBacksFine, IsRangeFault}
use Rattle.timing_defs.proofs.Members.{some_is, none_in, first_in, later_in, in_cases, in_map, in_flat_map_back}
use Rattle.store_pins.proofs.PinLaws.{pin_told}
use Rattle.pin_graph.proofs.NodeLaws.{HasNode, node_told, node_below, has_node}
use Rattle.required_engine.specs.Worked.{is_back_within, AreBacksWithin, IsBackRow, IsBackFault, IsDone, AreReady, AreDoneFrom, AreOfLevel, IsAnswer, IsAnswerAt}
use Rattle.required_engine.specs.Leveled.{nodes_of, AreLevels}
use Rattle.required_engine.proofs.TimeLaws.{is_near}
use Rattle.required_engine.proofs.BackLaws.{times_near}

-- a write to a list, and what stands there afterwards
pub set_here : {X : Type 0} (xs : List X) (i : ℕ) (x : X) → i < length xs → slice_get (slice_set xs i x) i ≡ Some x
set_here [] i x low = absurd (omega (arith, low))
set_here (y ∷ ys) zero x low = refl
set_here (y ∷ ys) (suc i) x low = set_here ys i x (omega (arith, low))

pub set_there : {X : Type 0} (xs : List X) (i j : ℕ) (x : X) → j ≢ i → slice_get (slice_set xs i x) j ≡ slice_get xs j
set_there [] i j x other = refl
set_there (y ∷ ys) zero zero x other = absurd (other refl)
set_there (y ∷ ys) zero (suc j) x other = refl
set_there (y ∷ ys) (suc i) zero x other = refl
set_there (y ∷ ys) (suc i) (suc j) x other = set_there ys i j x (λ e. other (ap suc e))

put_first : (rows : List BackRow) (place : ℕ) (told : BackRow) → put_at {E = Fault} 0 rows place (Ok told) ≡ slice_set rows place told
unfolding put_at
put_first rows place told =
    let yes : nat_le 0 place ≡ true = grind arith in
    let same : place - 0 ≡ place = omega arith in
    ap (λ (b : Bool). if b then slice_set rows (place - 0) told else rows) yes ∙ ap (λ (n : ℕ). slice_set rows n told) same

-- a list's map has as many members, and where each is from
module _ {I R : Type 0} (gives : I → R → Type 0) where
  pub as_many : (xs : List I) (rs : List R) → IsMap gives xs rs → length xs ≡ length rs
  as_many [] [] m = refl
  as_many [] (r ∷ rs) m = absurd m
  as_many (x ∷ xs) [] m = absurd m
  as_many (x ∷ xs) (r ∷ rs) m = let rest = as_many xs rs m.1 in omega (arith, rest)

  mapped_from : (xs : List I) (rs : List R) → IsMap gives xs rs → (r : R) → Contains rs r → (x : I) × (Contains xs x × gives x r)
  mapped_from [] [] m r c = absurd (none_in r c)
  mapped_from [] (s ∷ ss) m r c = absurd m
  mapped_from (y ∷ ys) [] m r c = absurd m
  mapped_from (y ∷ ys) (s ∷ ss) m r c = elim (in_cases s ss r c) [
    | inl e ↦ (y, (first_in y ys, subst (λ (z : R). gives y z) e m.0))
    | inr d ↦ let k = mapped_from ys ss m.1 r d in (k.0, (later_in y ys k.0 k.1.0, k.1.1))
  ]

greatest_over : (xs : List ℕ) (x : ℕ) → Contains xs x → x ≤ greatest xs
greatest_over [] x c = absurd (none_in x c)
greatest_over (y ∷ ys) x c = elim (in_cases y ys x c) [
  | inl e ↦ let m = le-max_left y (greatest ys) in omega (arith, e, m)
  | inr d ↦ let rest = greatest_over ys x d in let m = le-max_right y (greatest ys) in omega (arith, rest, m)
]

-- a node that is refused is an origin
pub back_is_range : (s : Stored) (k : ℕ) (f : Fault) → IsBackFault s k f → IsRangeFault s.design f
back_is_range s k (fault.OutOfRange place) r = r.1
back_is_range s k fault.Memory r = r
back_is_range s k (fault.UnknownInstance x) r = absurd r
back_is_range s k (fault.UnknownNet x) r = absurd r
back_is_range s k (fault.UnknownCell x) r = absurd r
back_is_range s k (fault.UnknownPin x) r = absurd r
back_is_range s k (fault.NameTaken x) r = absurd r
back_is_range s k (fault.PinsDiffer x) r = absurd r
back_is_range s k (fault.AlreadyConnected x) r = absurd r
back_is_range s k (fault.NotConnected x) r = absurd r
back_is_range s k (fault.InUse x) r = absurd r
back_is_range s k (fault.ManyDrivers x) r = absurd r
back_is_range s k (fault.Loop x) r = absurd r
back_is_range s k (fault.ClockNotTree x) r = absurd r
back_is_range s k (fault.ConstraintDangling x) r = absurd r
back_is_range s k (fault.RcNotTree x) r = absurd r
back_is_range s k (fault.RcPinsDiffer x) r = absurd r
back_is_range s k (fault.TooLarge x) r = absurd r

module _ (g : Graphed) (num : IsNumbered g.stored) (linked : IsLinked g.stored.design) (is : IsGraph g) where
  -- a node above which all levels are done is ready
  pub ready : (rows : List BackRow) (level k : ℕ) → AreDoneFrom g rows (level + 1) → k < node_bound g.stored → level_at g k ≡ level → AreReady g rows k
  ready rows level k done low here = record {
    after = λ arc c.
        (let s = (is.outs k low).sound arc c in
        let a = s.0 in
        let under = node_below g.stored a.to arc.to (has_node g.stored num linked arc.to a.to a.to_number) in
        let into : Contains (fan_at g.ins arc.to) arc = (is.ins arc.to under).all arc a refl in
        let over = greatest_over (map (λ (b : GraphArc). level_at g b.from + 1) (fan_at g.ins arc.to)) (level_at g arc.from + 1)
        (in_map (λ (b : GraphArc). level_at g b.from + 1) (fan_at g.ins arc.to) arc into) in
        let own = is.levels.level arc.to under in
        let from : level_at g arc.from ≡ level = ap (level_at g) s.1 ∙ here in
        done.done arc.to under (omega (arith, over, own, from)));
  }

pub answer_given : (s : Stored) (k : ℕ) (r : Result BackRow Fault) → IfOk r (IsBackRow s k) → IfErr r (IsBackFault s k) → IsAnswer s k r
answer_given s k (Ok told) p q = p
answer_given s k (Err f) p q = back_is_range s k f q

pub answer_there : (g : Graphed) (s : Stored) → g.stored ≡ s → (k : ℕ) (r : Result BackRow Fault) → IfOk r (IsBackRow s k) → IfErr r (IsBackFault s k) → IsAnswer g.stored k r
answer_there g s same k r p q = subst (λ (x : Stored). IsAnswer x k r) (sym same) (answer_given s k r p q)

pub ready_there : (g : Graphed) (s : Stored) → g.stored ≡ s → IsNumbered s → IsLinked s.design → IsGraph g → (rows : List BackRow) (level k : ℕ)
    → AreDoneFrom g rows (level + 1) → k < node_bound g.stored → level_at g k ≡ level → AreReady g rows k
ready_there g s same num linked is =
    ready g (subst (λ (x : Stored). IsNumbered x) (sym same) num) (subst (λ (x : Stored). IsLinked x.design) (sym same) linked) is

-- where no answer is an error each is a row, and the first error is among the answers
pub none_refused : (answers : List (Result BackRow Fault)) → first_refused answers ≡ None → All IsOk answers
unfolding first_refused
none_refused [] none = All-nil IsOk
none_refused (Ok row ∷ answers) none = All-cons IsOk (Ok row) answers refl (none_refused answers none)
none_refused (Err f ∷ answers) none = absurd (cc)

pub refused_among : (answers : List (Result BackRow Fault)) (f : Fault) → first_refused answers ≡ Some f → Contains answers (Err f)
unfolding first_refused
refused_among [] f first = absurd (cc)
refused_among (Ok row ∷ answers) f first = later_in (Ok row) answers (Err f) (refused_among answers f first)
refused_among (Err g ∷ answers) f first = subst (λ (x : Fault). Contains (Err g ∷ answers) (Err x)) (some_is first) (first_in (Err g) answers)

-- while the rows of a level are written: the places that are left with their answers, and the nodes of the level that are done
pub record IsPutting (g : Graphed) (level : ℕ) (rows : List BackRow) (places : List ℕ) (answers : List (Result BackRow Fault)) : Type 0 where
  pub above : AreDoneFrom g rows (level + 1)
  pub sound : (k : ℕ) → Contains places k → (k < node_bound g.stored) × (level_at g k ≡ level)
  pub given : IsMap (IsAnswerAt g level) places answers
  pub all : (k : ℕ) → k < node_bound g.stored → level_at g k ≡ level → IsDone g.stored rows k ⊎ Contains places k

module _ (g : Graphed) (level : ℕ) where
  module _ (rows : List BackRow) (place : ℕ) (places : List ℕ) (told : BackRow) (answers : List (Result BackRow Fault)) (putting : IsPutting g level rows (place ∷ places) (Ok told ∷ answers)) where
    own : (place < node_bound g.stored) × (level_at g place ≡ level)
    own = putting.sound place (first_in place places)

    in_table : place < length rows
    in_table = let low = own.0 in let c = putting.above.count in omega (arith, low, c)

    back_row_is : IsBackRow g.stored place told
    back_row_is = putting.given.0 own.0 own.1

    here : IsDone g.stored (slice_set rows place told) place
    here = record { row = set_here rows place told in_table ∙ ap Some back_row_is.row; fine = back_row_is.fine }

    kept : (k : ℕ) → IsDone g.stored rows k → IsDone g.stored (slice_set rows place told) k
    kept k done = elim (cases_eq k place) [
      | inl same ↦ subst (λ (n : ℕ). IsDone g.stored (slice_set rows place told) n) (sym same) here
      | inr other ↦ record { row = set_there rows place k told other ∙ done.row; fine = done.fine }
    ]

    putting_more : IsPutting g level (slice_set rows place told) places answers
    putting_more = record {
      above = record {
        count = length-set rows place told ∙ putting.above.count;
        done = λ k low over. kept k (putting.above.done k low over);
      };
      sound = λ k c. putting.sound k (later_in place places k c);
      given = putting.given.1;
      all = λ k low at. elim (putting.all k low at) [
        | inl done ↦ inl (kept k done)
        | inr c ↦ elim (in_cases place places k c) [
          | inl same ↦ inl (subst (λ (n : ℕ). IsDone g.stored (slice_set rows place told) n) same here)
          | inr d ↦ inr d
        ]
      ];
    }

  putting_ends : (rows : List BackRow) → IsPutting g level rows [] [] → AreDoneFrom g rows level
  putting_ends rows putting = record {
    count = putting.above.count;
    done = λ k low over. elim (cases_eq (level_at g k) level) [
      | inl same ↦ elim (putting.all k low same) [
        | inl done ↦ done
        | inr c ↦ absurd (none_in k c)
      ]
      | inr other ↦ putting.above.done k low (higher (level_at g k) other over)
    ];
  }
    where
      higher : (n : ℕ) → n ≢ level → level ≤ n → level + 1 ≤ n
      higher n other over = elim (cases_lt level n) [ inl l ↦ omega (arith, l) | inr m ↦ absurd (other (omega (arith, m, over))) ]

  -- all answers are written, where none is a fault
  putting_all : (rows : List BackRow) (places : List ℕ) (answers : List (Result BackRow Fault)) → All IsOk answers → IsPutting g level rows places answers
      → AreDoneFrom g (written 0 rows places answers) level
  unfolding written
  putting_all rows [] [] none putting = putting_ends rows putting
  putting_all rows [] (r ∷ rs) none putting = absurd putting.given
  putting_all rows (place ∷ places) [] none putting = absurd putting.given
  putting_all rows (place ∷ places) (Err f ∷ rs) none putting = absurd (false≢true (All-head IsOk (Err f) rs none))
  putting_all rows (place ∷ places) (Ok told ∷ rs) none putting =
      subst (λ (xs : List BackRow). AreDoneFrom g (written 0 xs places rs) level) (sym (put_first rows place told))
      (putting_all (slice_set rows place told) places rs (All-tail IsOk (Ok told) rs none) (putting_more rows place places told rs putting))

  pub level_written : (rows new : List BackRow) (places : List ℕ) (answers shown : List (Result BackRow Fault)) → AreOfLevel g level places
      → IsMap (IsAnswerAt g level) places answers → AreDoneFrom g rows (level + 1) → shown ≡ answers → new ≡ written 0 rows places shown → All IsOk answers
      → AreDoneFrom g new level
  level_written rows new places answers shown of are done same is none =
      subst (λ (xs : List BackRow). AreDoneFrom g xs level) (sym (is ∙ ap (written 0 rows places) same))
      (putting_all rows places answers none (record { above = done; sound = of.sound; given = are; all = λ k low here. inr (of.all k low here) }))

  -- a fault among the answers is an origin
  pub fault_is_range : (places : List ℕ) (answers : List (Result BackRow Fault)) → AreOfLevel g level places → IsMap (IsAnswerAt g level) places answers
      → (f : Fault) → Contains answers (Err f) → IsRangeFault g.stored.design f
  fault_is_range places answers of are f c =
      let m = mapped_from (IsAnswerAt g level) places answers are (Err f) c in
      let s = of.sound m.0 m.1.0 in
      m.1.1 s.0 s.1

both_pin : (pin : Pin) (node : Node) → Contains (both_nodes pin) node → node.pin ≡ pin
both_pin pin node (zero, low, at) = ap (λ (n : Node). n.pin) (sym at)
both_pin pin node (suc zero, low, at) = ap (λ (n : Node). n.pin) (sym at)
both_pin pin node (suc (suc i), low, at) = absurd (omega (arith, low))

-- where all levels are done the rows are the definition's, and nothing leaves its limit
module _ (g : Graphed) (num : IsNumbered g.stored) (linked : IsLinked g.stored.design) (rows : List BackRow) (done : AreDoneFrom g rows 0) where
  pub all_rows : AreBackRows g.stored rows
  all_rows = record { count = done.count; row = λ k low. (done.done k low (omega arith)).row }

  pub all_fine : AreBacksFine g.stored.design
  all_fine node c split =
      let a = in_flat_map_back both_nodes (pins g.stored.design) node c in
      let h = node_of_pin node a.item a.within a.inside in
      ((done.done h.0 (node_below g.stored node h.0 h.1) (omega arith)).fine node (node_told g.stored node h.0 h.1)).origins split
    where
      node_of_pin : (node : Node) (pin : Pin) → Contains (pins g.stored.design) pin → Contains (both_nodes pin) node → (k : ℕ) × HasNode g.stored node k
      node_of_pin node pin c inside =
          let same : node.pin ≡ pin = both_pin pin node inside in
          let p = pin_told g.stored num linked node.pin (subst (λ (q : Pin). Contains (pins g.stored.design) q) (sym same) c) in
          (node_number p.0 node.tran, record { pin = p.0; has = p.1; number = refl })

-- and each required time lies within its limit
module _ (g : Graphed) (num : IsNumbered g.stored) (linked : IsLinked g.stored.design) (is : IsGraph g) (rows : List BackRow) (done : AreDoneFrom g rows 0) where
  row_near : (k : ℕ) → k < node_bound g.stored → is_back_within (back_numbered g.stored k) ≡ true
  row_near k low = by (node_at g.stored k) refl
    where
      by : (o : Option Node) → node_at g.stored k ≡ o → is_back_within (option_map_or (back_row g.stored.design) o empty_back) ≡ true
      by None e = refl
      by (Some n) e =
          let fine = ((done.done k low (omega arith)).fine n e).times in
          and_from (list_all is_near (back_row g.stored.design n).early) (list_all is_near (back_row g.stored.design n).late)
          (times_near g num linked is Early n (k, has_node g.stored num linked k n e) (fine Early))
          (times_near g num linked is Late n (k, has_node g.stored num linked k n e) (fine Late))

  pub rows_near : AreBacksWithin rows
  rows_near k row at =
      let low : k < node_bound g.stored = subst (λ n. k < n) done.count (slice_get_within rows k row at) in
      subst (λ r. is_back_within r ≡ true) (some_is (sym (done.done k low (omega arith)).row ∙ at)) (row_near k low)

-- the nodes of a level, of the lists of all levels; and the map of a level
pub of_level : (g : Graphed) (levels : List (List ℕ)) (level : ℕ) (items : List ℕ) → AreLevels g levels → items ≡ nodes_of levels level → AreOfLevel g level items
of_level g levels level items are e = record {
  sound = λ k c. are.sound level k (subst (λ (xs : List ℕ). Contains xs k) e c);
  all = λ k low here.
      (subst (λ (xs : List ℕ). Contains xs k) (ap (nodes_of levels) here ∙ sym e) (are.all k low));
}

pub map_weaker : {I R : Type 0} (p q : I → R → Type 0) → ((x : I) (r : R) → p x r → q x r) → (xs : List I) (rs : List R) → IsMap p xs rs → IsMap q xs rs
map_weaker p q weaker [] [] m = m
map_weaker p q weaker [] (r ∷ rs) m = absurd m
map_weaker p q weaker (x ∷ xs) [] m = absurd m
map_weaker p q weaker (x ∷ xs) (r ∷ rs) m = (weaker x r m.0, map_weaker p q weaker xs rs m.1)

-- nothing is above the highest level
pub none_above : (g : Graphed) (rows : List BackRow) (levels : List (List ℕ)) → length rows ≡ node_bound g.stored → AreLevels g levels → AreDoneFrom g rows (length levels)
none_above g rows levels count are = record {
  count = count;
  done = λ k low over. (let under = are.low k low in absurd (omega (arith, over, under)));
}

pub full_told : (g : Graphed) (s : Stored) → g.stored ≡ s → IsNumbered s → IsLinked s.design → (rows : List BackRow) → AreDoneFrom g rows 0
    → AreBackRows s rows × AreBacksFine s.design
full_told g s same num linked rows done =
    let n : IsNumbered g.stored = subst (λ (x : Stored). IsNumbered x) (sym same) num in
    let l : IsLinked g.stored.design = subst (λ (x : Stored). IsLinked x.design) (sym same) linked in
    subst (λ (x : Stored). AreBackRows x rows × AreBacksFine x.design) same (all_rows g n l rows done, all_fine g n l rows done)

pub near_told : (g : Graphed) (s : Stored) → g.stored ≡ s → IsNumbered s → IsLinked s.design → IsGraph g → (rows : List BackRow) → AreDoneFrom g rows 0 → AreBacksWithin rows
near_told g s same num linked is rows done =
    rows_near g (subst (λ (x : Stored). IsNumbered x) (sym same) num) (subst (λ (x : Stored). IsLinked x.design) (sym same) linked) is rows done

-- and each node is ready
pub full_ready : (g : Graphed) (s : Stored) → g.stored ≡ s → IsNumbered s → IsLinked s.design → IsGraph g → (rows : List BackRow) → AreDoneFrom g rows 0
    → (k : ℕ) → k < node_bound s → AreReady g rows k
full_ready g s same num linked is rows done k low = record {
  after = λ arc c.
      (let n : IsNumbered g.stored = subst (λ (x : Stored). IsNumbered x) (sym same) num in
      let l : IsLinked g.stored.design = subst (λ (x : Stored). IsLinked x.design) (sym same) linked in
      let own : k < node_bound g.stored = subst (λ (x : Stored). k < node_bound x) (sym same) low in
      let a = ((is.outs k own).sound arc c).0 in
      let under = node_below g.stored a.to arc.to (has_node g.stored n l arc.to a.to a.to_number) in
      done.done arc.to under (omega arith));
}
