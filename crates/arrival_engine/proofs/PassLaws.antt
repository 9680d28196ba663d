-- One level of the pass: where the rows below it are the definition's, so are those of its nodes once they are
-- put; and at the end all rows are.

use Rattle.std.proofs.Common.{◌≡◌, ◌≢◌, ◌⊎◌, ℕ, zero, suc, ◌+◌, ◌<◌, ◌≤◌, false, List, [], ◌∷◌, map, length, get_or, drop, Some, Result, Ok, Err, refl, sym, ap, subst, ◌∙◌, inl, inr, arith}
use Rattle.std.specs.Prelude.{Contains, slice_get, slice_set, IfOk, IfErr}
use Rattle.std.specs.Arc.{arc_value}
use Rattle.std.specs.Option.{option_map_or}
use Rattle.std.proofs.Math.Nat.{le-max_left, le-max_right}
use Rattle.std.proofs.lemmas.Bool.{cases_eq, cases_lt}
use Rattle.std.proofs.lemmas.List.{length-set, get_or-set_same, get_or-set_other, drop_more, drop_all}
use Rattle.timing_defs.specs.declared.design.Design.{Design}
use Rattle.timing_defs.specs.declared.faults.Fault.{Fault}
use Rattle.timing_defs.specs.declared.faults.Fault.TheVariants as fault
use Rattle.timing_defs.specs.declared.faults.Place.TheVariants.{Pin as at_pin, Net as at_net}
use Rattle.timing_defs.specs.declared.rows.NodeRow.{NodeRow}
use Rattle.timing_defs.specs.Netlist.{Pin, Node, pins, both_nodes}
use Rattle.timing_rules.specs.Range.{is_net_origin}
use Rattle.netlist_store.specs.Linked.{IsLinked}
use Rattle.netlist_store.specs.Numbering.{Stored, number_of, IsNumbered}
use Rattle.level_workers.specs.Mapped.{IsMap}
use Rattle.levelizer.specs.Levels.{greatest}
use Rattle.node_rows.specs.declared.pin_wires.Wires.{Wires}
use Rattle.node_rows.specs.declared.ports.Ports.{Ports}
use Rattle.node_rows.specs.declared.settings.Setting.{Setting}
use Rattle.node_rows.specs.WireTables.{AreWires}
use Rattle.node_rows.specs.PortTables.{ArePorts}
use Rattle.node_rows.specs.NetTrees.{is_wide_net, IsLarge}
use Rattle.pin_graph.specs.declared.arcs.GraphArc.{GraphArc}
use Rattle.pin_graph.specs.Nodes.{node_bound, node_number}
use Rattle.pin_graph.specs.Graphs.{Graphed, IsGraph, fan_at, level_at}
use Rattle.pin_graph.specs.RowTables.{AreRows, AreRowsFine, IsRangeFault}
use Rattle.timing_defs.proofs.Members.{none_in, in_cases, in_map, in_flat_map_back}
use Rattle.store_pins.proofs.PinLaws.{there, told_at, pin_told}
use Rattle.pin_graph.proofs.NodeLaws.{HasNode, node_told, node_below, has_node}
use Rattle.arc_delays.specs.declared.tables.ArcDelay.{ArcDelay}
use Rattle.arc_delays.specs.Delays.{AreInto, AreAllInto, AreWithin}
use Rattle.arc_delays.proofs.RangeLaws.{within}
use Rattle.arrival_engine.specs.declared.nodes.NodeAnswer.{NodeAnswer}
use Rattle.arrival_engine.specs.declared.passes.Counted.{Counted}
use Rattle.arrival_engine.specs.declared.tables.Arrivals.{Arrivals}
use Rattle.arrival_engine.specs.Analysed.{IsNodeRow, IsNodeFault, IsDone, AreReady, AreDoneBelow, AreDelayedBelow, AreOfLevel, IsNodeAnswer, IsAnswer, IsLevelAnswer, IsPlan, AreTables}
use Rattle.arrival_engine.specs.Leveled.{nodes_of, AreLevels}

-- a write to a list, and what stands there afterwards
pub set_here : {X : Type 0} (xs : List X) (i : ℕ) (x : X) → i < length xs → slice_get (slice_set xs i x) i ≡ Some x
set_here [] i x low = absurd (omega (arith, low))
set_here (y ∷ ys) zero x low = refl
set_here (y ∷ ys) (suc i) x low = set_here ys i x (omega (arith, low))

pub set_there : {X : Type 0} (xs : List X) (i j : ℕ) (x : X) → j ≢ i → slice_get (slice_set xs i x) j ≡ slice_get xs j
set_there [] i j x other = refl
set_there (y ∷ ys) zero zero x other = absurd (other refl)
set_there (y ∷ ys) zero (suc j) x other = refl
set_there (y ∷ ys) (suc i) zero x other = refl
set_there (y ∷ ys) (suc i) (suc j) x other = set_there ys i j x (λ e. other (ap suc e))

greatest_over : (xs : List ℕ) (x : ℕ) → Contains xs x → x ≤ greatest xs
greatest_over [] x c = absurd (none_in x c)
greatest_over (y ∷ ys) x c = elim (in_cases y ys x c) [
  | inl e ↦ let m = le-max_left y (greatest ys) in omega (arith, e, m)
  | inr d ↦ let rest = greatest_over ys x d in let m = le-max_right y (greatest ys) in omega (arith, rest, m)
]

-- a net that is too large is an origin; so is a node
pub large_is_range : (d : Design) (f : Fault) → IsLarge d f → IsRangeFault d f
large_is_range d (fault.OutOfRange (at_net net)) r = r
large_is_range d (fault.OutOfRange (at_pin pin)) r = absurd r
large_is_range d fault.Memory r = r
large_is_range d (fault.UnknownInstance x) r = absurd r
large_is_range d (fault.UnknownNet x) r = absurd r
large_is_range d (fault.UnknownCell x) r = absurd r
large_is_range d (fault.UnknownPin x) r = absurd r
large_is_range d (fault.NameTaken x) r = absurd r
large_is_range d (fault.PinsDiffer x) r = absurd r
large_is_range d (fault.AlreadyConnected x) r = absurd r
large_is_range d (fault.NotConnected x) r = absurd r
large_is_range d (fault.InUse x) r = absurd r
large_is_range d (fault.ManyDrivers x) r = absurd r
large_is_range d (fault.Loop x) r = absurd r
large_is_range d (fault.ClockNotTree x) r = absurd r
large_is_range d (fault.ConstraintDangling x) r = absurd r
large_is_range d (fault.RcNotTree x) r = absurd r
large_is_range d (fault.RcPinsDiffer x) r = absurd r
large_is_range d (fault.TooLarge x) r = absurd r

pub node_is_range : (s : Stored) (k : ℕ) (f : Fault) → IsNodeFault s k f → IsRangeFault s.design f
node_is_range s k (fault.OutOfRange place) r = r.1
node_is_range s k fault.Memory r = r
node_is_range s k (fault.UnknownInstance x) r = absurd r
node_is_range s k (fault.UnknownNet x) r = absurd r
node_is_range s k (fault.UnknownCell x) r = absurd r
node_is_range s k (fault.UnknownPin x) r = absurd r
node_is_range s k (fault.NameTaken x) r = absurd r
node_is_range s k (fault.PinsDiffer x) r = absurd r
node_is_range s k (fault.AlreadyConnected x) r = absurd r
node_is_range s k (fault.NotConnected x) r = absurd r
node_is_range s k (fault.InUse x) r = absurd r
node_is_range s k (fault.ManyDrivers x) r = absurd r
node_is_range s k (fault.Loop x) r = absurd r
node_is_range s k (fault.ClockNotTree x) r = absurd r
node_is_range s k (fault.ConstraintDangling x) r = absurd r
node_is_range s k (fault.RcNotTree x) r = absurd r
node_is_range s k (fault.RcPinsDiffer x) r = absurd r
node_is_range s k (fault.TooLarge x) r = absurd r

module _ (g : Graphed) (num : IsNumbered g.stored) (linked : IsLinked g.stored.design) (is : IsGraph g) where
  -- a node whose level is not above is ready
  pub ready : (rows : List NodeRow) (level k : ℕ) → AreDoneBelow g rows level → k < node_bound g.stored → level_at g k ≡ level → AreReady g rows k
  ready rows level k done low here = record {
    before = λ arc c.
        (let a = ((is.ins k low).sound arc c).0 in
        let under = node_below g.stored a.from arc.from (has_node g.stored num linked arc.from a.from a.from_number) in
        let over = greatest_over (map (λ (b : GraphArc). level_at g b.from + 1) (fan_at g.ins k)) (level_at g arc.from + 1)
        (in_map (λ (b : GraphArc). level_at g b.from + 1) (fan_at g.ins k) arc c) in
        let own = is.levels.level k low in
        done.done arc.from under (omega (arith, over, own, here)));
  }

pub answer_given : (g : Graphed) (k : ℕ) (r : Result NodeAnswer Fault) → IfOk r (λ told. IsNodeRow g.stored k told.row) → IfOk r (λ told. AreInto g k told.delays)
    → IfErr r (IsNodeFault g.stored k) → IsAnswer g k r
answer_given g k (Ok told) p d q = record { row = p; delays = d }
answer_given g k (Err f) p d q = node_is_range g.stored k f q

pub ready_there : (g : Graphed) (s : Stored) → g.stored ≡ s → IsNumbered s → IsLinked s.design → IsGraph g → (rows : List NodeRow) (level k : ℕ)
    → AreDoneBelow g rows level → k < node_bound g.stored → level_at g k ≡ level → AreReady g rows k
ready_there g s same num linked is =
    ready g (subst (λ (x : Stored). IsNumbered x) (sym same) num) (subst (λ (x : Stored). IsLinked x.design) (sym same) linked) is

-- a store's tables and its graph
pub plan_of : (setting : Setting) (g : Graphed) (s : Stored) (a : Arrivals) → setting.store.now ≡ s → setting.wires.now ≡ arc_value a.wires
    → setting.ports.now ≡ arc_value a.ports → AreTables s a → g.stored ≡ s → IsPlan setting g
plan_of setting g s a e f h t same = record {
  tables = record {
    wires = subst (λ (x : Stored). AreWires x setting.wires.now) (sym e) (subst (λ (w : Wires). AreWires s w) (sym f) t.wires);
    ports = subst (λ (x : Stored). ArePorts x.design.constraints setting.ports.now) (sym e) (subst (λ (p : Ports). ArePorts s.design.constraints p) (sym h) t.ports);
  };
  nets = subst (λ (x : Stored). (net : ℕ) → is_wide_net x net ≡ false) (sym e) t.fine;
  same = same ∙ sym e;
}

-- a row is written that is the definition's, of a node that is fine: it is there, and those that were stay
module _ (s : Stored) (rows : List NodeRow) (node : ℕ) (told : NodeRow) (low : node < length rows) (is : IsNodeRow s node told) where
  row_put : IsDone s (slice_set rows node told) node
  row_put = record { row = set_here rows node told low ∙ ap Some is.row; fine = is.fine }

  row_kept : (k : ℕ) → IsDone s rows k → IsDone s (slice_set rows node told) k
  row_kept k done = elim (cases_eq k node) [
    | inl same ↦ subst (λ (n : ℕ). IsDone s (slice_set rows node told) n) (sym same) row_put
    | inr other ↦ record { row = set_there rows node k told other ∙ done.row; fine = done.fine }
  ]

-- the row of a number and the delays of the arcs into it are there
pub record IsWhole (g : Graphed) (rows : List NodeRow) (delays : List (List ArcDelay)) (node : ℕ) : Type 0 where
  pub done : IsDone g.stored rows node
  pub into : AreInto g node (get_or delays node [])

module _ (g : Graphed) (level : ℕ) where
  -- all stands up to a level, but for some of its nodes
  pub record AreDoneBut (left : List ℕ) (rows : List NodeRow) (delays : List (List ArcDelay)) : Type 0 where
    pub row_count : length rows ≡ node_bound g.stored
    pub delay_count : length delays ≡ node_bound g.stored
    pub stands : (k : ℕ) → k < node_bound g.stored → level_at g k < level + 1 → Contains left k ⊎ IsWhole g rows delays k

  -- what is answered for one node more is put
  module _ (n : ℕ) (left : List ℕ) (rows rows' : List NodeRow) (delays delays' : List (List ArcDelay)) (told : NodeAnswer)
      (low : n < node_bound g.stored) (is : IsNodeAnswer g n told) (e : rows' ≡ slice_set rows n told.row) (f : delays' ≡ slice_set delays n told.delays)
      (had : AreDoneBut (n ∷ left) rows delays) where
    low_row : n < length rows
    low_row = let count = had.row_count in omega (arith, low, count)

    low_delay : n < length delays
    low_delay = let count = had.delay_count in omega (arith, low, count)

    whole_here : IsWhole g rows' delays' n
    whole_here = record {
      done = subst (λ (xs : List NodeRow). IsDone g.stored xs n) (sym e) (row_put g.stored rows n told.row low_row is.row);
      into = ap (λ ds. get_or ds n []) f ∙ get_or-set_same delays n told.delays [] low_delay ∙ is.delays;
    }

    whole_kept : (k : ℕ) → IsWhole g rows delays k → IsWhole g rows' delays' k
    whole_kept k whole = elim (cases_eq k n) [
      | inl same ↦ subst (λ (m : ℕ). IsWhole g rows' delays' m) (sym same) whole_here
      | inr other ↦ record {
        done = subst (λ (xs : List NodeRow). IsDone g.stored xs k) (sym e) (row_kept g.stored rows n told.row low_row is.row k whole.done);
        into = ap (λ ds. get_or ds k []) f ∙ get_or-set_other delays n k told.delays [] other ∙ whole.into;
      }
    ]

    after : (k : ℕ) → Contains (n ∷ left) k ⊎ IsWhole g rows delays k → Contains left k ⊎ IsWhole g rows' delays' k
    after k (inl c) = elim (in_cases n left k c) [
      | inl same ↦ inr (subst (λ (m : ℕ). IsWhole g rows' delays' m) same whole_here)
      | inr more ↦ inl more
    ]
    after k (inr whole) = inr (whole_kept k whole)

    pub one_put : AreDoneBut left rows' delays'
    one_put = record {
      row_count = ap length e ∙ length-set rows n told.row ∙ had.row_count;
      delay_count = ap length f ∙ length-set delays n told.delays ∙ had.delay_count;
      stands = λ k under below. after k (had.stands k under below);
    }

  module _ (nodes : List ℕ) (of : AreOfLevel g level nodes) where
    -- as the answers begin to be put
    pub none_put : (rows : List NodeRow) (delays : List (List ArcDelay)) → AreDoneBelow g rows level → AreDelayedBelow g delays level → AreDoneBut nodes rows delays
    none_put rows delays done delayed = record {
      row_count = done.count;
      delay_count = delayed.count;
      stands = λ k low under. elim (cases_eq (level_at g k) level) [
        | inl here ↦ inl (of.all k low here)
        | inr other ↦
            let below = lower (level_at g k) other under in
            inr (record { done = done.done k low below; into = delayed.done k low below })
      ];
    }
      where
        lower : (n : ℕ) → n ≢ level → n < level + 1 → n < level
        lower n other under = elim (cases_lt n level) [ inl l ↦ l | inr m ↦ absurd (other (omega (arith, m, under))) ]

    -- the next node and its answer
    module _ {L : Type 0} (at n : ℕ) (answer : Counted L) (answers rest : List (Counted L)) (e : answers ≡ answer ∷ rest) (low : at < length nodes)
        (here : n ≡ get_or nodes at n) (m : IsMap (IsLevelAnswer g level) (drop at nodes) answers) where
      pub next_node : (n < node_bound g.stored) × (level_at g n ≡ level)
      next_node = of.sound n (at, low, sym here)

      next_left : drop at nodes ≡ n ∷ drop (at + 1) nodes
      next_left = drop_more nodes at n low ∙ ap (λ q. q ∷ drop (at + 1) nodes) (sym here)

      next_both : IsMap (IsLevelAnswer g level) (n ∷ drop (at + 1) nodes) (answer ∷ rest)
      next_both =
          subst (λ (xs : List ℕ). IsMap (IsLevelAnswer g level) xs (answer ∷ rest)) next_left
          (subst (λ (rs : List (Counted L)). IsMap (IsLevelAnswer g level) (drop at nodes) rs) e m)

      next_answer : IsAnswer g n answer.answer
      next_answer = (next_both.0 next_node.0 next_node.1).0

      -- a fault is that of an origin
      pub next_fails : (f : Fault) → answer.answer ≡ Err f → IsRangeFault g.stored.design f
      next_fails f err = subst (λ (r : Result NodeAnswer Fault). IsAnswer g n r) err next_answer

      pub next_put : (told : NodeAnswer) → answer.answer ≡ Ok told → (rows rows' : List NodeRow) (delays delays' : List (List ArcDelay))
          → rows' ≡ slice_set rows n told.row → delays' ≡ slice_set delays n told.delays → AreDoneBut (drop at nodes) rows delays
          → IsMap (IsLevelAnswer g level) (drop (at + 1) nodes) rest × AreDoneBut (drop (at + 1) nodes) rows' delays'
      next_put told ok rows rows' delays delays' put_row put_delays had = (
        next_both.1,
        one_put n (drop (at + 1) nodes) rows rows' delays delays' told next_node.0 (subst (λ (r : Result NodeAnswer Fault). IsAnswer g n r) ok next_answer) put_row put_delays
            (subst (λ (xs : List ℕ). AreDoneBut xs rows delays) next_left had),
      )

    -- where each answer was put
    pub all_put : (at : ℕ) (rows : List NodeRow) (delays : List (List ArcDelay)) → length nodes ≤ at → AreDoneBut (drop at nodes) rows delays
        → AreDoneBelow g rows (level + 1) × AreDelayedBelow g delays (level + 1)
    all_put at rows delays past had = (
      record { count = had.row_count; done = λ k low under. (whole k low under).done },
      record { count = had.delay_count; done = λ k low under. (whole k low under).into },
    )
      where
        whole : (k : ℕ) → k < node_bound g.stored → level_at g k < level + 1 → IsWhole g rows delays k
        whole k low under = elim (had.stands k low under) [
          | inl c ↦ absurd (none_in k (subst (λ (xs : List ℕ). Contains xs k) (drop_all at nodes past) c))
          | inr w ↦ w
        ]

both_pin : (pin : Pin) (node : Node) → Contains (both_nodes pin) node → node.pin ≡ pin
both_pin pin node (zero, low, at) = ap (λ (n : Node). n.pin) (sym at)
both_pin pin node (suc zero, low, at) = ap (λ (n : Node). n.pin) (sym at)
both_pin pin node (suc (suc i), low, at) = absurd (omega (arith, low))

-- where all levels are done the rows are the definition's, and nothing leaves its limit
module _ (g : Graphed) (num : IsNumbered g.stored) (linked : IsLinked g.stored.design) (rows : List NodeRow) (depth : ℕ) (done : AreDoneBelow g rows depth)
    (deep : (k : ℕ) → k < node_bound g.stored → level_at g k < depth) where
  pub all_rows : AreRows g.stored rows
  all_rows = record { count = done.count; row = λ k low. (done.done k low (deep k low)).row }

  pub all_fine : ((net : ℕ) → is_wide_net g.stored net ≡ false) → AreRowsFine g.stored.design
  all_fine nets = record {
    nets = λ name h.
        (let n = there (number_of g.stored.nets name) (num.net_names name ∙ h) in
        sym (ap (λ o. option_map_or (is_net_origin g.stored.design) o false) (told_at g.stored.nets name n.0 n.1)) ∙ nets n.0);
    nodes = λ node c split.
        (let a = in_flat_map_back both_nodes (pins g.stored.design) node c in
        let h = node_of_pin node a.item a.within a.inside in
        ((done.done h.0 (node_below g.stored node h.0 h.1) (deep h.0 (node_below g.stored node h.0 h.1))).fine node (node_told g.stored node h.0 h.1)).origins split);
  }
    where
      node_of_pin : (node : Node) (pin : Pin) → Contains (pins g.stored.design) pin → Contains (both_nodes pin) node → (k : ℕ) × HasNode g.stored node k
      node_of_pin node pin c inside =
          let same : node.pin ≡ pin = both_pin pin node inside in
          let p = pin_told g.stored num linked node.pin (subst (λ (q : Pin). Contains (pins g.stored.design) q) (sym same) c) in
          (node_number p.0 node.tran, record { pin = p.0; has = p.1; number = refl })

-- the nodes of a level, of the lists of all levels; and the map of a level
pub of_level : (g : Graphed) (levels : List (List ℕ)) (level : ℕ) (items : List ℕ) → AreLevels g levels → items ≡ nodes_of levels level → AreOfLevel g level items
of_level g levels level items are e = record {
  sound = λ k c. are.sound level k (subst (λ (xs : List ℕ). Contains xs k) e c);
  all = λ k low here.
      (subst (λ (xs : List ℕ). Contains xs k) (ap (nodes_of levels) here ∙ sym e) (are.all k low));
}

pub map_weaker : {I R : Type 0} (p q : I → R → Type 0) → ((x : I) (r : R) → p x r → q x r) → (xs : List I) (rs : List R) → IsMap p xs rs → IsMap q xs rs
map_weaker p q weaker [] [] m = m
map_weaker p q weaker [] (r ∷ rs) m = absurd m
map_weaker p q weaker (x ∷ xs) [] m = absurd m
map_weaker p q weaker (x ∷ xs) (r ∷ rs) m = (weaker x r m.0, map_weaker p q weaker xs rs m.1)

-- nothing is below the lowest level
pub none_below : (g : Graphed) (rows : List NodeRow) → length rows ≡ node_bound g.stored → AreDoneBelow g rows 0
none_below g rows count = record { count = count; done = λ k low under. absurd (omega (arith, under)) }

-- where all levels are done each node has the delays of its arcs
pub full_delays : (g : Graphed) (delays : List (List ArcDelay)) (levels : List (List ℕ)) → AreLevels g levels → AreDelayedBelow g delays (length levels) → AreAllInto g delays
full_delays g delays levels are delayed = record { count = delayed.count; each = λ k low. delayed.done k low (are.low k low) }

pub full_told : (g : Graphed) (s : Stored) → g.stored ≡ s → IsNumbered s → IsLinked s.design → (rows : List NodeRow) (levels : List (List ℕ))
    → AreLevels g levels → AreDoneBelow g rows (length levels) → ((net : ℕ) → is_wide_net s net ≡ false) → AreRows g.stored rows × AreRowsFine g.stored.design
full_told g s same num linked rows levels are done nets =
    let n : IsNumbered g.stored = subst (λ (x : Stored). IsNumbered x) (sym same) num in
    let l : IsLinked g.stored.design = subst (λ (x : Stored). IsLinked x.design) (sym same) linked in (
      all_rows g n l rows (length levels) done are.low,
      all_fine g n l rows (length levels) done are.low (subst (λ (x : Stored). (net : ℕ) → is_wide_net x net ≡ false) (sym same) nets),
    )

-- and each node is ready
pub full_ready : (g : Graphed) (s : Stored) → g.stored ≡ s → IsNumbered s → IsLinked s.design → IsGraph g → (rows : List NodeRow) (levels : List (List ℕ))
    → AreLevels g levels → AreDoneBelow g rows (length levels) → (k : ℕ) → k < node_bound g.stored → AreReady g rows k
full_ready g s same num linked is rows levels are done k low = record {
  before = λ arc c.
      (let a = ((is.ins k low).sound arc c).0 in
      let n : IsNumbered g.stored = subst (λ (x : Stored). IsNumbered x) (sym same) num in
      let l : IsLinked g.stored.design = subst (λ (x : Stored). IsLinked x.design) (sym same) linked in
      let under = node_below g.stored a.from arc.from (has_node g.stored n l arc.from a.from a.from_number) in
      done.done arc.from under (are.low arc.from under));
}

pub ready_of : (g : Graphed) (s : Stored) → g.stored ≡ s → (rows : List NodeRow) → ((k : ℕ) → k < node_bound g.stored → AreReady g rows k)
    → (k : ℕ) → k < node_bound s → AreReady g rows k
ready_of g s same rows all k low = all k (subst (λ (x : Stored). k < node_bound x) (sym same) low)

-- no quantity of a row or of an arc leaves its limit
pub full_within : (g : Graphed) (s : Stored) → g.stored ≡ s → IsNumbered s → IsLinked s.design → IsGraph g → (wires : Wires) → AreWires s wires
    → AreRowsFine g.stored.design → AreWithin g.stored.design
full_within g s same num linked is wires are fine =
    subst (λ (x : Stored). AreWithin x.design) (sym same)
    (within g s same num linked is wires are (subst (λ (x : Stored). AreRowsFine x.design) same fine))
