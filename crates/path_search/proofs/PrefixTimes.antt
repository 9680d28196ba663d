-- Along an arc that is followed a node arrives no earlier than the node before it and the delay, or no later where early times are
-- compared.

use Rattle.std.proofs.Common.{◌≡◌, ℕ, ℤ, ◌+ℤ◌, ◌-ℤ◌, ◌≤ℤ◌, pos, neg_ℤ, Bool, true, false, List, [], ◌∷◌, Option, None, Some, refl, sym, ap, subst, ◌∙◌, inl, inr, arith}
use Rattle.std.specs.Prelude.{Contains, nat_eq, ◌&&◌, find, if◌then◌else◌, option_map, option_and_then}
use Rattle.std.specs.List.{filter_map, list_any}
use Rattle.std.specs.Option.{option_map_or}
use Rattle.std.proofs.lemmas.Bool.{and_parts, eqb-true, false≢true}
use Rattle.std.proofs.lemmas.Int.{ints, clamps}
use Rattle.timing_defs.specs.declared.edge_times.EdgeTime.{EdgeTime}
use Rattle.timing_defs.specs.declared.kinds.Kind.{Kind}
use Rattle.timing_defs.specs.declared.kinds.Kind.TheVariants.{Setup, Hold}
use Rattle.timing_defs.specs.declared.kinds.Split.{Split}
use Rattle.timing_defs.specs.declared.kinds.Split.TheVariants.{Early, Late}
use Rattle.timing_defs.specs.declared.kinds.Tran.{Tran}
use Rattle.timing_defs.specs.declared.kinds.Tran.TheVariants.{Rise, Fall}
use Rattle.timing_defs.specs.declared.design.Design.{Design}
use Rattle.timing_defs.specs.Netlist.{Node, pins, same_tran}
use Rattle.timing_rules.specs.Rows.{arcs_in, outer, outer_some, outermost, start_at, launch_edges, edge_time, delay_from, delay, arrival, arrival_of, row, empty_row}
use Rattle.timing_defs.specs.RowTimes.{times_in, time_on, plus_some}
use Rattle.timing_defs.specs.Kinds.{data_split}
use Rattle.timing_rules.specs.Paths.{Named, named, node_named, arc_delay}
use Rattle.netlist_store.specs.Linked.{IsLinked}
use Rattle.netlist_store.specs.Numbering.{IsNumbered}
use Rattle.pin_graph.specs.Nodes.{node_at}
use Rattle.pin_graph.specs.Graphs.{Graphed, IsGraph, network_at}
use Rattle.pin_graph.specs.RowTables.{row_numbered}
use Rattle.timing_defs.proofs.Members.{none_in, in_cases, some_is, in_filter_map_back, found_in, found_passes}
use Rattle.pin_graph.proofs.JoinLaws.{then_back, mapped_back, unless_some}
use Rattle.path_cones.specs.Delays.{arc_numbered, followed_delay, signed as turned}
use Rattle.path_search.specs.Launches.{signed}
use Rattle.path_search.specs.Runs.{IsTimed}
use Rattle.path_search.proofs.FanCones.{inside, delay_named}
use Rattle.path_search.proofs.LaunchLaws.{started_none, times_are}
use Rattle.path_search.proofs.NodeNames.{named_back, joined_back}
use Rattle.path_search.proofs.PrefixSums.{arrival_is}

-- a value is as far out as another in a split: no less of late ones, no greater of early ones
abbrev pub IsOuter : Split → ℤ → ℤ → Type 0
IsOuter Early v y = y ≤ℤ v
IsOuter Late v y = v ≤ℤ y

pub record IsReachedBy (split : Split) (v : ℤ) (o : Option ℤ) : Type 0 where
  pub value : ℤ
  pub is : o ≡ Some value
  pub outer : IsOuter split v value

outer_self : (split : Split) (x : ℤ) → IsOuter split x x
outer_self Early x = omega (arith, ints)
outer_self Late x = omega (arith, ints)

outer_trans : (split : Split) (a b c : ℤ) → IsOuter split a b → IsOuter split b c → IsOuter split a c
outer_trans Early a b c p q = omega (arith, ints, p, q)
outer_trans Late a b c p q = omega (arith, ints, p, q)

outer_both : (split : Split) (x y : ℤ) → IsOuter split x (outer split x y) × IsOuter split y (outer split x y)
outer_both Early x y = (omega (arith, ints, clamps), omega (arith, ints, clamps))
outer_both Late x y = (omega (arith, ints, clamps), omega (arith, ints, clamps))

-- one value more keeps what is reached
keep_one : (split : Split) (b : ℤ) (o : Option ℤ) → IsReachedBy split b (outer_some split (Some b) o)
keep_one split b None = record { value = b; is = refl; outer = outer_self split b }
keep_one split b (Some x) = record { value = outer split b x; is = refl; outer = (outer_both split b x).0 }

add_one : (split : Split) (o : Option ℤ) (x : ℤ) → IsReachedBy split x (outer_some split o (Some x))
add_one split None x = record { value = x; is = refl; outer = outer_self split x }
add_one split (Some b) x = record { value = outer split b x; is = refl; outer = (outer_both split b x).1 }

module _ {X : Type 0} (split : Split) (f : X → Option ℤ) (v : ℤ) where
  keeps : (xs : List X) (o : Option ℤ) → IsReachedBy split v o → IsReachedBy split v (outermost split f o xs)
  keeps [] o r = r
  keeps (x ∷ xs) o r =
      let k = keep_one split r.value (f x) in
      keeps xs (outer_some split o (f x)) (record {
        value = k.value;
        is = ap (λ p. outer_some split p (f x)) r.is ∙ k.is;
        outer = outer_trans split v r.value k.value r.outer k.outer;
      })

  -- the outermost is as far out as each
  each : (xs : List X) (o : Option ℤ) (x : X) → Contains xs x → f x ≡ Some v → IsReachedBy split v (outermost split f o xs)
  each [] o x c e = absurd (none_in x c)
  each (y ∷ ys) o x c e = elim (in_cases y ys x c) [
    | inl same ↦
        let k = add_one split o v in
        keeps ys (outer_some split o (f y)) (record { value = k.value; is = ap (outer_some split o) (ap f same ∙ e) ∙ k.is; outer = k.outer })
    | inr later ↦ each ys (outer_some split o (f y)) x later e
  ]

same_trans : (a b : Tran) → same_tran a b ≡ true → a ≡ b
same_trans Rise Rise e = refl
same_trans Rise Fall e = absurd (false≢true e)
same_trans Fall Rise e = absurd (false≢true e)
same_trans Fall Fall e = refl

-- a time is there on launch edges alone
pub edge_known : (a : ℕ × Tran → Option ℤ) (edges : List (ℕ × Tran)) (edge : ℕ × Tran) (x : ℤ)
    → time_on (filter_map (λ e. option_map (edge_time e) (a e)) edges) edge ≡ Some x → Contains edges edge
edge_known a edges edge x e =
    let times : List EdgeTime = filter_map (λ u. option_map (edge_time u) (a u)) edges in
    let m = mapped_back (λ (t : EdgeTime). t.time.0) (find (λ t. nat_eq t.clock edge.0 && same_tran t.tran edge.1) times) x e in
    let c = found_in (λ (t : EdgeTime). nat_eq t.clock edge.0 && same_tran t.tran edge.1) times m.0 m.1 in
    let p = and_parts (nat_eq m.0.clock edge.0) (same_tran m.0.tran edge.1) (found_passes (λ (t : EdgeTime). nat_eq t.clock edge.0 && same_tran t.tran edge.1) times m.0 m.1) in
    let r = in_filter_map_back (λ u. option_map (edge_time u) (a u)) edges m.0 c in
    let k = mapped_back (edge_time r.item) (a r.item) m.0 r.same in
    let clock : r.item.0 ≡ edge.0 = ap (λ (t : EdgeTime). t.clock) k.2 ∙ eqb-true m.0.clock edge.0 p.0 in
    let tran : r.item.1 ≡ edge.1 = ap (λ (t : EdgeTime). t.tran) k.2 ∙ same_trans m.0.tran edge.1 p.1 in
    let same : r.item ≡ edge = λ i. (clock i, tran i) in
    subst (λ (u : ℕ × Tran). Contains edges u) same r.within

-- the arrival of a node to which an arc leads
module _ (d : Design) (t : IsTimed d) (split : Split) (edge : ℕ × Tran) (launched : Contains (launch_edges d) edge) where
  pub arrival_after : (from to : Node) → Contains (pins d) to.pin → Contains (arcs_in d to) from → start_at d split to edge ≡ None
      → (x v : ℤ) → arrival d split from edge ≡ Some x → delay d split from to ≡ Some v → IsReachedBy split (x +ℤ v) (arrival d split to edge)
  arrival_after from to there c none x v e f =
      subst (λ (o : Option ℤ). IsReachedBy split (x +ℤ v) o)
      (sym (arrival_is d t split edge launched to there
      ∙ ap (λ o. option_map_or Some o (outermost split (λ n. plus_some (time_on (times_in split (row d n)) edge) (delay_from d split n to (row d n))) None (arcs_in d to))) none))
      (each split (λ n. plus_some (time_on (times_in split (row d n)) edge) (delay_from d split n to (row d n))) (x +ℤ v) (arcs_in d to) None from c
      (λ k. plus_some (e k) (f k)))

-- what stands where a test is passed
passed : {X : Type 0} (b : Bool) (o : Option X) (x : X) → (if b then o else None) ≡ Some x → (b ≡ true) × (o ≡ Some x)
passed true o x e = (refl, e)
passed false o x e = absurd (cc)

-- there, and at least a number
pub record IsFromOn (o : Option ℤ) (v : ℤ) : Type 0 where
  pub value : ℤ
  pub is : o ≡ Some value
  pub low : v ≤ℤ value

module _ (g : Graphed) (num : IsNumbered g.stored) (linked : IsLinked g.stored.design) (is : IsGraph g) (t : IsTimed g.stored.design) (kind : Kind) where
  -- the signed arrival of a number on a launch edge
  abbrev pub signed_time : ℕ → ℕ × Tran → Option ℤ
  signed_time n edge = option_map (signed kind) (time_on (times_in (data_split kind) (row_numbered g.stored n)) edge)

  time_here : (n : ℕ) (node : Node) → node_at g.stored n ≡ Some node → (edge : ℕ × Tran)
      → time_on (times_in (data_split kind) (row_numbered g.stored n)) edge ≡ arrival g.stored.design (data_split kind) node edge
  time_here n node e edge =
      ap (λ o. time_on (times_in (data_split kind) (option_map_or (row g.stored.design) o empty_row)) edge) e

  turned_low : (k : Kind) (x v y : ℤ) → IsOuter (data_split k) (x +ℤ v) y → (signed k x +ℤ turned k v) ≤ℤ signed k y
  turned_low Setup x v y low = low
  turned_low Hold x v y low = omega (arith, ints, low)

  -- along an arc that is followed
  pub later_along : (m n : ℕ) (v : ℤ) → followed_delay g kind m n ≡ Some v → (edge : ℕ × Tran) (x : ℤ) → signed_time m edge ≡ Some x
      → IsFromOn (signed_time n edge) (x +ℤ v)
  later_along m n v e edge x f =
      let u = unless_some (network_at g n) (option_map (turned kind) (arc_numbered g.stored (data_split kind) m n)) v e in
      let k = mapped_back (turned kind) (arc_numbered g.stored (data_split kind) m n) v u.1 in
      let a = then_back (λ b. option_and_then (arc_delay g.stored.design (data_split kind) b) (node_at g.stored n)) (node_at g.stored m) k.0 k.1 in
      let b = then_back (arc_delay g.stored.design (data_split kind) a.0) (node_at g.stored n) k.0 a.2 in
      let j = joined_back g.stored.design t (data_split kind) (named a.0) (named b.0) k.0
      (delay_named g num linked is t (data_split kind) m n a.0 b.0 a.1 b.1 ∙ b.2) in
      let from : j.from ≡ a.0 = some_is (sym j.from_named ∙ named_back g.stored.design t a.0 (inside g num linked is t m a.0 a.1)) in
      let to : j.to ≡ b.0 = some_is (sym j.to_named ∙ named_back g.stored.design t b.0 (inside g num linked is t n b.0 b.1)) in
      let arc : Contains (arcs_in g.stored.design b.0) a.0 =
      subst (λ (y : Node). Contains (arcs_in g.stored.design y) a.0) to (subst (λ (y : Node). Contains (arcs_in g.stored.design j.to) y) from j.arc) in
      let takes : delay g.stored.design (data_split kind) a.0 b.0 ≡ Some k.0 = (λ i. delay g.stored.design (data_split kind) (sym from i) (sym to i)) ∙ j.takes in
      let s = mapped_back (signed kind) (time_on (times_in (data_split kind) (row_numbered g.stored m)) edge) x f in
      let at : arrival g.stored.design (data_split kind) a.0 edge ≡ Some s.0 = sym (time_here m a.0 a.1 edge) ∙ s.1 in
      let launched : Contains (launch_edges g.stored.design) edge =
      edge_known (arrival_of g.stored.design (data_split kind) (row g.stored.design) a.0) (launch_edges g.stored.design) edge s.0
      (ap (λ ts. time_on ts edge) (sym (times_are g num linked is (data_split kind) m a.0 a.1)) ∙ at) in
      let r = arrival_after g.stored.design t (data_split kind) edge launched a.0 b.0 (inside g num linked is t n b.0 b.1) arc
      (started_none g num linked is (data_split kind) n b.0 b.1 a.0 arc edge) s.0 k.0 at takes in
      let low = turned_low kind s.0 k.0 r.value r.outer in
      record {
        value = signed kind r.value;
        is = ap (option_map (signed kind)) (time_here n b.0 b.1 edge ∙ r.is);
        low = subst (λ (z : ℤ). (z +ℤ v) ≤ℤ signed kind r.value) s.2 (subst (λ (z : ℤ). (signed kind s.0 +ℤ z) ≤ℤ signed kind r.value) k.2 low);
      }
