-- Nodes by their names are nodes by their numbers, and pins on a net by numbers are those by names.

use Rattle.std.proofs.Common.{◌≡◌, ℕ, suc, ◌+◌, ◌<◌, ◌≤◌, ℤ, pos, nat_abs, ◌+ℤ◌, Bool, true, false, not, List, [], ◌∷◌, ◌++◌, filter, length, take, get_or, Option, None, Some, refl, sym, ap, subst, ◌∙◌, inl, inr, arith}
use Rattle.std.specs.Prelude.{Contains, nat_eq, is_some, slice_get, option_map, option_and_then, ◌&&◌, if◌then◌else◌}
use Rattle.std.specs.List.{list_any}
use Rattle.std.specs.Option.{option_map_or}
use Rattle.std.proofs.lemmas.Bool.{cases_Bool, false≢true}
use Rattle.std.proofs.lemmas.Int.{ints}
use Rattle.std.proofs.lemmas.List.{take_more}
use Rattle.timing_defs.specs.declared.kinds.Tran.{Tran}
use Rattle.timing_defs.specs.declared.kinds.Tran.TheVariants.{Rise, Fall}
use Rattle.timing_defs.specs.declared.kinds.Split.{Split}
use Rattle.timing_defs.specs.declared.kinds.Split.TheVariants.{Early, Late}
use Rattle.timing_defs.specs.declared.rows.NodeRow.{NodeRow}
use Rattle.timing_defs.specs.declared.closing.DrivenNet.{DrivenNet}
use Rattle.timing_defs.specs.declared.design.Design.{Design}
use Rattle.timing_defs.specs.Netlist.{Pin, Node, name_of, net_of, pins, sinks, is_driver, is_on, pin_named, same_tran}
use Rattle.timing_defs.specs.RowTimes.{slew_in}
use Rattle.timing_defs.specs.Wires.{sum_of, net_load}
use Rattle.timing_rules.specs.Paths.{Named, node_named, delay_between, arc_delay}
use Rattle.timing_rules.specs.Rows.{row, empty_row, slew}
use Rattle.timing_rules.specs.Stages.{driven_net, driven_by}
use Rattle.netlist_store.specs.Numbering.{Stored, name_at, number_of, is_number, pin_numbered, net_number, IsNumbered}
use Rattle.netlist_store.specs.Linked.{IsLinked}
use Rattle.store_pins.proofs.PinLaws.{told_at, there}
use Rattle.store_pins.proofs.DriverLaws.{net_of_number, pin_there}
use Rattle.node_rows.specs.NetPins.{IsOnNet}
use Rattle.node_rows.specs.declared.pin_wires.Wires.{Wires}
use Rattle.node_rows.specs.WireTables.{AreWires, load_told}
use Rattle.node_rows.proofs.PinSums.{pins_sum}
use Rattle.pin_graph.specs.declared.arcs.GraphArc.{GraphArc}
use Rattle.pin_graph.specs.Nodes.{node_at, node_bound, node_number, number_at, pin_under, tran_under}
use Rattle.pin_graph.specs.Graphs.{Graphed, IsGraph, fan_at}
use Rattle.pin_graph.specs.RowTables.{AreRows, row_numbered}
use Rattle.pin_graph.proofs.JoinLaws.{then_back, mapped_back}
use Rattle.pin_graph.proofs.NodeLaws.{under_number, tran_of_number}
use Rattle.arc_delays.specs.declared.tables.ArcDelay.{ArcDelay}
use Rattle.arc_delays.specs.Delays.{AreDelays, delay_told, delay_numbered}
use Rattle.path_cones.specs.Delays.{arc_numbered}
use Rattle.path_cones.proofs.ConeParts.{arc_is}
use Rattle.timing_defs.proofs.Members.{some_is, any_back}
use Rattle.std.proofs.lemmas.Bool.{eqb-true}
use Rattle.timed_paths.specs.Numbers.{number_named, sink_one, sink_at}

pub same_trans : (a b : Tran) → same_tran a b ≡ true → a ≡ b
same_trans Rise Rise e = refl
same_trans Rise Fall e = absurd (false≢true e)
same_trans Fall Rise e = absurd (false≢true e)
same_trans Fall Fall e = refl

pub tran_self : (a : Tran) → same_tran a a ≡ true
tran_self Rise = refl
tran_self Fall = refl

none_of : {X : Type 0} (o : Option X) → is_some o ≡ false → o ≡ None
none_of None e = refl
none_of (Some x) e = absurd (cc)

none_mapped : {X Y : Type 0} (f : X → Y) (o : Option X) → option_map f o ≡ None → o ≡ None
none_mapped f None e = refl
none_mapped f (Some x) e = absurd (cc)

-- the node of a number that a name has
pub numbered_node : (s : Stored) (n : Named) (k : ℕ) → number_named s n ≡ Some k → node_at s k ≡ node_named s.design n
numbered_node s n k e =
    let m = mapped_back (λ (pin : ℕ). node_number pin n.1) (number_of s.pins n.0) k e in
    ap (node_at s) (sym m.2)
    ∙ (λ i. option_map (λ (pin : Pin). record { pin = pin; tran = tran_of_number m.0 n.1 i }) (pin_numbered s (under_number m.0 n.1 i)))
    ∙ ap (λ o. option_map (λ (pin : Pin). record { pin = pin; tran = n.1 }) (option_and_then (pin_named s.design) o)) (told_at s.pins n.0 m.0 m.1)

-- a name without a number is of no pin and no node
pub unnumbered_pin : (s : Stored) → IsNumbered s → (name : List ℕ) → number_of s.pins name ≡ None → pin_named s.design name ≡ None
unnumbered_pin s num name e = none_of (pin_named s.design name) (sym (num.pin_names name) ∙ ap is_some e)

pub unnumbered_node : (s : Stored) → IsNumbered s → (n : Named) → number_named s n ≡ None → node_named s.design n ≡ None
unnumbered_node s num n e =
    ap (option_map (λ (pin : Pin). record { pin = pin; tran = n.1 }))
    (unnumbered_pin s num n.0 (none_mapped (λ (pin : ℕ). node_number pin n.1) (number_of s.pins n.0) e))

-- a name with a number is of a node
pub node_there : (s : Stored) → IsNumbered s → (n : Named) (k : ℕ) → number_named s n ≡ Some k → (node : Node) × (node_named s.design n ≡ Some node)
node_there s num n k e =
    let m = mapped_back (λ (pin : ℕ). node_number pin n.1) (number_of s.pins n.0) k e in
    let p = there (pin_named s.design n.0) (sym (num.pin_names n.0) ∙ ap is_some m.1) in
    (record { pin = p.0; tran = n.1 }, ap (option_map (λ (pin : Pin). record { pin = pin; tran = n.1 })) p.1)

pub numbered_pin : (s : Stored) (name : List ℕ) (n : ℕ) → number_of s.pins name ≡ Some n → pin_numbered s n ≡ pin_named s.design name
numbered_pin s name n e = ap (option_and_then (pin_named s.design)) (told_at s.pins name n e)

-- the delay of the arc between two nodes, as a table of the graph's arcs has it
module _ (g : Graphed) (num : IsNumbered g.stored) (linked : IsLinked g.stored.design) (is : IsGraph g) (table : List (List ArcDelay)) (delays : AreDelays g.stored table) (split : Split) (x n : ℕ)
    (low : n < node_bound g.stored) where
  abbrev leads : Bool
  leads = list_any (λ (arc : GraphArc). nat_eq arc.from x) (fan_at g.ins n)

  pub along_there : leads ≡ true → delay_told table split x n ≡ arc_numbered g.stored split x n
  along_there e =
      let r = any_back (λ (arc : GraphArc). nat_eq arc.from x) (fan_at g.ins n) e in
      let sound = (is.ins n low).sound r.item r.within in
      (λ i. delay_told table split (sym (eqb-true r.item.from x r.passes) i) (sym sound.1 i))
      ∙ delays.each split r.item sound.0
      ∙ (λ i. delay_numbered g.stored split (eqb-true r.item.from x r.passes i) (sound.1 i))
      ∙ sym (arc_is g num linked is split x n low ∙ ap (λ b. if b then delay_numbered g.stored split x n else None) e)

  pub along_none : leads ≡ false → None ≡ arc_numbered g.stored split x n
  along_none e = sym (arc_is g num linked is split x n low ∙ ap (λ b. if b then delay_numbered g.stored split x n else None) e)

-- delays by names
module _ (s : Stored) (num : IsNumbered s) (split : Split) where
  between : Named → Named → Option ℤ
  between from to = delay_between s.design split from to

  pub no_before : (from : Option Named) (to : Named) → None ≡ option_and_then (number_named s) from → None ≡ option_and_then (λ f. delay_between s.design split f to) from
  no_before None to e = refl
  no_before (Some f) to e =
      sym (ap (λ o. option_and_then (λ a. option_and_then (arc_delay s.design split a) (node_named s.design to)) o) (unnumbered_node s num f (sym e)))

  pub no_number : (from : Option Named) (to : Named) → None ≡ number_named s to → None ≡ option_and_then (λ f. delay_between s.design split f to) from
  no_number None to e = refl
  no_number (Some f) to e =
      by (node_named s.design f)
      ∙ sym (ap (λ o. option_and_then (λ a. option_and_then (arc_delay s.design split a) o) (node_named s.design f)) (unnumbered_node s num to (sym e)))
    where
      by : (o : Option Node) → None ≡ option_and_then (λ a. option_and_then (arc_delay s.design split a) None) o
      by None = refl
      by (Some a) = refl

  pub both_numbers : (x n : ℕ) (from : Option Named) (to : Named) → Some x ≡ option_and_then (number_named s) from → Some n ≡ number_named s to
      → arc_numbered s split x n ≡ option_and_then (λ f. delay_between s.design split f to) from
  both_numbers x n None to e h = absurd (cc)
  both_numbers x n (Some f) to e h =
      (λ i. option_and_then (λ a. option_and_then (arc_delay s.design split a) (numbered_node s to n (sym h) i)) (numbered_node s f x (sym e) i))

  -- the slew of a node
  slew_told : (o : Option Node) → slew_in split (option_map_or (row s.design) o empty_row) ≡ option_and_then (slew s.design split) o
  slew_told None = by split
    where
      by : (t : Split) → slew_in t empty_row ≡ None
      by Early = refl
      by Late = refl
  slew_told (Some node) = refl

  pub slew_there : (rows : List NodeRow) → AreRows s rows → (n : ℕ) → n < node_bound s → (found : NodeRow) → slice_get rows n ≡ Some found → (to : Named) → Some n ≡ number_named s to
      → slew_in split found ≡ option_and_then (slew s.design split) (node_named s.design to)
  slew_there rows told n low found at to e =
      ap (slew_in split) (some_is (sym at ∙ told.row n low)) ∙ slew_told (node_at s n) ∙ ap (option_and_then (slew s.design split)) (numbered_node s to n (sym e))

  pub slew_none : (to : Named) → None ≡ number_named s to → None ≡ option_and_then (slew s.design split) (node_named s.design to)
  slew_none to e = sym (ap (option_and_then (slew s.design split)) (unnumbered_node s num to (sym e)))

-- sinks
sinks_sum : (name : List ℕ) (ps : List Pin) → sum_of sink_one (filter (is_on name) ps) ≡ pos (length (filter (λ pin. not (is_driver pin) && is_on name pin) ps))
sinks_sum name [] = refl
sinks_sum name (p ∷ ps) = elim (cases_Bool (is_on name p)) [
  | inl on ↦ elim (cases_Bool (is_driver p)) [
    | inl drives ↦
        let rest = sinks_sum name ps in
        rw (on, drives) (let e : pos 0 +ℤ sum_of sink_one (filter (is_on name) ps) ≡ sum_of sink_one (filter (is_on name) ps) = omega (arith, ints) in e ∙ rest)
    | inr sink ↦
        let rest = sinks_sum name ps in
        rw (on, sink)
        (ap (λ z. pos 1 +ℤ z) rest
        ∙ (let n = length (filter (λ pin. not (is_driver pin) && is_on name pin) ps) in let e : pos 1 +ℤ pos n ≡ pos (n + 1) = omega (arith, ints) in e)
        ∙ ap pos (let n = length (filter (λ pin. not (is_driver pin) && is_on name pin) ps) in let e : n + 1 ≡ suc n = omega arith in e))
  ]
  | inr off ↦ elim (cases_Bool (is_driver p)) [
    | inl drives ↦ rw (off, drives) (sinks_sum name ps)
    | inr sink ↦ rw (off, sink) (sinks_sum name ps)
  ]
]

module _ (s : Stored) (num : IsNumbered s) (linked : IsLinked s.design) (net : ℕ) where
  pub fanout_is : is_number s.nets net ≡ true → (numbers : List ℕ) → IsOnNet s net numbers → (count : ℕ) → pos count ≡ sum_of (sink_at s) numbers
      → option_map (λ name. length (sinks s.design name)) (name_at s.nets net) ≡ Some count
  fanout_is is numbers on count e =
      let n = there (name_at s.nets net) is in
      let sums : pos count ≡ pos (length (sinks s.design n.0)) = e ∙ pins_sum s num linked net n.0 n.1 numbers on sink_one ∙ sinks_sum n.0 (pins s.design) in
      ap (option_map (λ name. length (sinks s.design name))) n.1 ∙ ap Some (sym (ap nat_abs sums))

  pub driven_is : (w : Wires) → AreWires s w → (split : Split) (load : ℤ) → load_told w.loads split net ≡ Some load → (fanout : ℕ)
      → option_map (λ name. length (sinks s.design name)) (name_at s.nets net) ≡ Some fanout → (name : List ℕ) → name_at s.nets net ≡ Some name → (made : DrivenNet)
      → made.net ≡ name → made.load.0 ≡ load → made.fanout ≡ fanout → option_map (driven_net s.design split) (name_at s.nets net) ≡ Some made
  driven_is w wires split load told fanout many name is made its size count =
      let l : net_load s.design split name ≡ load = some_is (sym (wires.loads split net name is) ∙ told) in
      let f : length (sinks s.design name) ≡ fanout = some_is (sym (ap (option_map (λ n. length (sinks s.design n))) is) ∙ many) in
      ap (option_map (driven_net s.design split)) is
      ∙ ap Some (λ i. record { net = sym its i; load = record { 0 = (l ∙ sym size) i }; fanout = (f ∙ sym count) i })

module _ (s : Stored) (split : Split) (pin : ℕ) where
  pub drives_none : option_map is_driver (pin_numbered s pin) ≡ Some false → option_and_then (driven_by s.design split) (pin_numbered s pin) ≡ None
  drives_none e =
      let p = pin_there (pin_numbered s pin) false e in
      ap (option_and_then (driven_by s.design split)) p.1 ∙ ap (λ b. if b then option_map (driven_net s.design split) (net_of p.0) else None) p.2

  pub on_none : option_map is_driver (pin_numbered s pin) ≡ Some true → is_some (option_and_then net_of (pin_numbered s pin)) ≡ false
      → option_and_then (driven_by s.design split) (pin_numbered s pin) ≡ None
  on_none e none =
      let p = pin_there (pin_numbered s pin) true e in
      let off : net_of p.0 ≡ None = none_of (net_of p.0) (sym (ap (λ o. is_some (option_and_then net_of o)) p.1) ∙ none) in
      ap (option_and_then (driven_by s.design split)) p.1 ∙ ap (λ b. if b then option_map (driven_net s.design split) (net_of p.0) else None) p.2
      ∙ ap (option_map (driven_net s.design split)) off

  pub drives_net : option_map is_driver (pin_numbered s pin) ≡ Some true → (net : ℕ) → Some net ≡ net_number s pin → (made : DrivenNet)
      → option_map (driven_net s.design split) (name_at s.nets net) ≡ Some made → option_and_then (driven_by s.design split) (pin_numbered s pin) ≡ Some made
  drives_net e net on made its =
      let p = pin_there (pin_numbered s pin) true e in
      let n = net_of_number s pin net p.0 p.1 (sym on) in
      ap (option_and_then (driven_by s.design split)) p.1 ∙ ap (λ b. if b then option_map (driven_net s.design split) (net_of p.0) else None) p.2
      ∙ ap (option_map (driven_net s.design split)) (n.on ∙ sym n.told) ∙ its

-- one pin more is counted
sum_snoc : {X : Type 0} (f : X → ℤ) (xs : List X) (x : X) → sum_of f (xs ++ x ∷ []) ≡ sum_of f xs +ℤ f x
sum_snoc f [] x = (let y = f x in let e : y +ℤ pos 0 ≡ pos 0 +ℤ y = omega (arith, ints) in e)
sum_snoc f (y ∷ ys) x =
    ap (λ z. f y +ℤ z) (sum_snoc f ys x)
    ∙ (let a = f y in let b = sum_of f ys in let c = f x in let e : a +ℤ (b +ℤ c) ≡ (a +ℤ b) +ℤ c = omega (arith, ints) in e)

pub count_more : (f : ℕ → ℤ) (xs : List ℕ) (i x total amount : ℕ) → i < length xs → x ≡ get_or xs i x → pos amount ≡ f x → amount ≤ 1
    → (pos total ≡ sum_of f (take i xs)) × (total ≤ i) → (pos (total + amount) ≡ sum_of f (take (i + 1) xs)) × (total + amount ≤ i + 1)
count_more f xs i x total amount l e n small t =
    let low = t.1 in (
      ap (λ z. z +ℤ pos amount) t.0 ∙ ap (λ z. sum_of f (take i xs) +ℤ z) n
          ∙ sym (sum_snoc f (take i xs) x) ∙ ap (sum_of f) (sym (take_more xs i x l ∙ ap (λ y. take i xs ++ y ∷ []) (sym e))),
      omega (arith, low, small),
    )
