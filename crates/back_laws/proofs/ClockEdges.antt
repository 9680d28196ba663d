-- The launch edge of the walk to a network node, where the clock network is a tree: the first of those that arrive there.

use Rattle.std.proofs.Common.{◌≡◌, ℕ, zero, suc, ◌<◌, ℤ, pos, Bool, true, false, not, List, [], ◌∷◌, length, Option, None, Some, refl, sym, ap, subst, ◌∙◌, inl, inr, arith}
use Rattle.std.specs.Prelude.{Contains, find, is_some, option_and_then, ◌&&◌, ◌||◌, if◌then◌else◌}
use Rattle.std.specs.List.{list_any}
use Rattle.std.specs.Option.{option_map_or}
use Rattle.std.specs.Str.{bytes_eq}
use Rattle.std.proofs.lemmas.Bool.{cases_Bool, false≢true, and_parts}
use Rattle.timing_defs.specs.declared.kinds.Split.{Split}
use Rattle.timing_defs.specs.declared.kinds.Split.TheVariants.{Early, Late}
use Rattle.timing_defs.specs.declared.kinds.Tran.{Tran}
use Rattle.timing_defs.specs.declared.kinds.Tran.TheVariants.{Rise}
use Rattle.timing_defs.specs.declared.kinds.Dir.TheVariants.{Input}
use Rattle.timing_defs.specs.declared.netlist.Inst.{Inst}
use Rattle.timing_defs.specs.declared.rows.NodeRow.{NodeRow}
use Rattle.timing_defs.specs.declared.design.Design.{Design}
use Rattle.timing_defs.specs.Netlist.{Node, same_dir, same_tran, drives_as, is_driver, net_of, pins, nodes}
use Rattle.timing_rules.specs.Clocking.{is_network, is_clock_port, port_has_clock, pins_before, comb_before, driver_on, from_clock, to_register}
use Rattle.timing_rules.specs.Rows.{arcs_in, outermost, is_input_port, start_at, is_clock_at, input_delay, launch_edges, delay_from, delay, arrival, arrival_of, arrivals_of, row, step}
use Rattle.timing_defs.specs.RowTimes.{time_on, times_in, plus_some}
use Rattle.timing_rules.specs.Checks.{clock_not_tree}
use Rattle.timing_rules.specs.Tests.{network_walk, first_edge}
use Rattle.timing_rules.proofs.RowLaws.{ArePlacedNodes, row_is}
use Rattle.timing_defs.proofs.Members.{first_in, later_in, none_in, in_cases, found_some}
use Rattle.node_rows.proofs.FineLaws.{time_told}
use Rattle.node_rows.proofs.MergeLaws.{outermost_same}
use Rattle.node_tests.specs.Walks.{IsBehind}
use Rattle.node_tests.proofs.OneBefore.{port_first, one_before, before_network}
use Rattle.node_tests.proofs.WalkSteps.{walk_starts, behind_one}

pub find_agree : {X : Type 0} (p q : X → Bool) (xs : List X) → ((x : X) → Contains xs x → p x ≡ q x) → find p xs ≡ find q xs
find_agree p q [] same = refl
find_agree p q (x ∷ xs) same = λ k. if same x (first_in x xs) k then Some x else find_agree p q xs (λ y c. same y (later_in x xs y c)) k

-- where one summand is there
some_left : (a b : Option ℤ) → is_some (plus_some a b) ≡ true → is_some a ≡ true
some_left None b e = absurd (false≢true e)
some_left (Some x) b e = refl

some_right : (a b : Option ℤ) → is_some (plus_some a b) ≡ true → is_some b ≡ true
some_right None b e = absurd (false≢true e)
some_right (Some x) None e = absurd (false≢true e)
some_right (Some x) (Some y) e = refl

some_sum : (a b : Option ℤ) → is_some b ≡ true → is_some (plus_some a b) ≡ is_some a
some_sum None b e = refl
some_sum (Some x) None e = absurd (false≢true e)
some_sum (Some x) (Some y) e = refl

-- a port of a clock is an input port
clock_owner : (d : Design) (n : Node) → is_clock_port d n.pin ≡ true → is_input_port n.pin ≡ true
clock_owner d n e = by n.pin.owner refl
  where
    by : (o : Option Inst) → n.pin.owner ≡ o → is_input_port n.pin ≡ true
    by (Some inst) own = absurd (false≢true (sym (ap (λ o. port_has_clock d.constraints.clocks o n.pin) own) ∙ e))
    by None own =
        let f : port_has_clock d.constraints.clocks None n.pin ≡ true = sym (ap (λ o. port_has_clock d.constraints.clocks o n.pin) own) ∙ e in
        let g = and_parts (same_dir n.pin.dir Input) (list_any (λ clock. option_map_or (bytes_eq n.pin.own) clock.port false) d.constraints.clocks) f in
        ap (λ o. option_map_or (λ (inst : Inst). false) o true && drives_as o n.pin.dir) own ∙ g.0

-- a network pin that is no clock's port is no input port
no_input : (d : Design) (n : Node) → is_network d n.pin ≡ true → is_clock_port d n.pin ≡ false → is_input_port n.pin ≡ false
unfolding is_network
no_input d n net port = elim (cases_Bool (is_input_port n.pin)) [
  | inr e ↦ e
  | inl e ↦
      let parts = and_parts (option_map_or (λ (inst : Inst). false) n.pin.owner true) (is_driver n.pin) e in
      let lone : n.pin.owner ≡ None = no_owner n.pin.owner parts.0 in
      let none : pins_before d n.pin ≡ [] =
      ap (λ (b : Bool). if b then option_map_or (comb_before d n.pin) n.pin.owner [] else driver_on d (net_of n.pin)) parts.1 ∙ ap (λ o. option_map_or (comb_before d n.pin) o []) lone in
      let off : from_clock d (length (pins d)) n.pin ≡ false = never (length (pins d)) none in
      absurd (false≢true (sym off ∙ (and_parts (from_clock d (length (pins d)) n.pin) (to_register d (length (pins d)) n.pin) net).0))
]
  where
    no_owner : (o : Option Inst) → option_map_or (λ (inst : Inst). false) o true ≡ true → o ≡ None
    no_owner None h = refl
    no_owner (Some i) h = absurd (false≢true h)

    never : (k : ℕ) → pins_before d n.pin ≡ [] → from_clock d k n.pin ≡ false
    never zero none = port
    never (suc k) none = λ j. port j || list_any (from_clock d k) (none j)

no_start : (d : Design) (split : Split) (n : Node) (edge : ℕ × Tran) → is_input_port n.pin ≡ false → start_at d split n edge ≡ None
no_start d split n edge e = ap (λ (b : Bool). if not b then None else
    (if is_clock_port d n.pin
    then (if is_clock_at d.constraints.clocks edge.0 n.pin.own && same_tran edge.1 n.tran then Some (pos 0) else None)
    else (if same_tran edge.1 Rise then input_delay d.constraints.inputs split n edge.0 else None))) e

-- the edge on which the walk to a node begins
abbrev pub walk_edge : Design → Node → Option (ℕ × Tran)
walk_edge d n = option_and_then (first_edge d) (network_walk d n)

module _ (d : Design) (tree : clock_not_tree d ≡ None) (Stands : Node → Type 0) (place : Node → ℕ) (placed : ArePlacedNodes d Stands place)
    (short : (n : Node) → Stands n → place n < length (nodes d)) (listed : (n : Node) → Stands n → Contains (pins d) n.pin) (split : Split) where
  abbrev pub arrives : Node → ℕ × Tran → Bool
  arrives n edge = is_some (arrival d split n edge)

  arrival_told : (n : Node) → Stands n → (edge : ℕ × Tran) → Contains (launch_edges d) edge → arrival d split n edge ≡ arrival_of d split (row d) n edge
  arrival_told n s edge c =
      ap (λ (r : NodeRow). time_on (times_in split r) edge) (row_is d Stands place placed n s)
      ∙ ap (λ ts. time_on ts edge) (times_of split)
      ∙ time_told (arrival_of d split (row d) n) edge (launch_edges d) c
    where
      times_of : (t : Split) → times_in t (step d (row d) n) ≡ arrivals_of d t (row d) n
      times_of Early = refl
      times_of Late = refl

  -- at a clock's port
  module _ (n : Node) (s : Stands n) (net : is_network d n.pin ≡ true) (port : is_clock_port d n.pin ≡ true) where
    port_arrives : (edge : ℕ × Tran) → Contains (launch_edges d) edge
        → arrives n edge ≡ (is_clock_at d.constraints.clocks edge.0 n.pin.own && same_tran edge.1 n.tran)
    port_arrives edge c =
        ap is_some (arrival_told n s edge c
        ∙ ap (λ xs. option_map_or Some (start_at d split n edge)
        (outermost split (λ from. plus_some (time_on (times_in split (row d from)) edge) (delay_from d split from n (row d from))) None xs)) (port_first d n port)
        ∙ (λ k. option_map_or Some
        (if not (clock_owner d n port k) then None else
        (if port k
        then (if is_clock_at d.constraints.clocks edge.0 n.pin.own && same_tran edge.1 n.tran then Some (pos 0) else None)
        else (if same_tran edge.1 Rise then input_delay d.constraints.inputs split n edge.0 else None))) None))
        ∙ by (is_clock_at d.constraints.clocks edge.0 n.pin.own && same_tran edge.1 n.tran)
      where
        by : (b : Bool) → is_some (option_map_or Some (if b then Some (pos 0) else None) None) ≡ b
        by true = refl
        by false = refl

    port_edge : walk_edge d n ≡ find (arrives n) (launch_edges d)
    port_edge =
        ap (option_and_then (first_edge d)) (walk_starts d Stands place placed short n s net port)
        ∙ find_agree (λ edge. is_clock_at d.constraints.clocks edge.0 n.pin.own && same_tran edge.1 n.tran) (arrives n) (launch_edges d) (λ edge c. sym (port_arrives edge c))

  -- behind another node
  module _ (n from : Node) (s : Stands n) (net : is_network d n.pin ≡ true) (port : is_clock_port d n.pin ≡ false) (c : Contains (arcs_in d n) from) where
    only : (x : Node) → Contains (arcs_in d n) x → x ≡ from
    only x k = one_before d tree n (listed n s) net port x from k c

    over_one : (edge : ℕ × Tran) → Contains (launch_edges d) edge → arrival d split n edge ≡ plus_some (arrival d split from edge) (delay d split from n)
    over_one edge m =
        arrival_told n s edge m
        ∙ ap (λ o. option_map_or Some o (outermost split along None (arcs_in d n))) (no_start d split n edge (no_input d n net port))
        ∙ outermost_same (arcs_in d n) (from ∷ []) (λ x y. x ≡ y) (record {
          there = λ x k. (from, first_in from [], only x k);
          back = λ y k. (y, (subst (λ z. Contains (arcs_in d n) z) (sym (lone y k)) c), refl);
        }) split along along (λ x y k e. ap along e)
      where
        along : Node → Option ℤ
        along f = plus_some (time_on (times_in split (row d f)) edge) (delay_from d split f n (row d f))

        lone : (y : Node) → Contains (from ∷ []) y → y ≡ from
        lone y k = elim (in_cases from [] y k) [ inl e ↦ sym e | inr none ↦ absurd (none_in y none) ]

  behind_edge : (x n : Node) → IsBehind d x n → (walk_edge d x ≡ None → ⊥) → walk_edge d n ≡ walk_edge d x
  behind_edge x n behind some = by (network_walk d x) refl
    where
      by : (o : Option (List Node)) → network_walk d x ≡ o → walk_edge d n ≡ walk_edge d x
      by None e = ap (option_and_then (first_edge d)) (behind.none e ∙ sym e)
      by (Some []) e = absurd (some (ap (option_and_then (first_edge d)) e))
      by (Some (f ∷ rest)) e =
          ap (option_and_then (first_edge d)) (behind.some f rest e).1 ∙ sym (ap (option_and_then (first_edge d)) e)

  module _ (e0 : ℕ × Tran) (m : Contains (launch_edges d) e0) where
    is_first : (k : ℕ) (n : Node) → Stands n → place n < k → is_network d n.pin ≡ true → arrives n e0 ≡ true → walk_edge d n ≡ find (arrives n) (launch_edges d)
    is_first zero n s low net a = absurd (omega (arith, low))
    is_first (suc k) n s low net a = elim (cases_Bool (is_clock_port d n.pin)) [
      | inl port ↦ port_edge n s net port
      | inr port ↦ by port (arcs_in d n) refl (λ x sx up netx ax. is_first k x sx (omega (arith, low, up)) netx ax)
    ]
      where
        by : is_clock_port d n.pin ≡ false → (xs : List Node) → arcs_in d n ≡ xs
            → ((x : Node) → Stands x → place x < place n → is_network d x.pin ≡ true → arrives x e0 ≡ true → walk_edge d x ≡ find (arrives x) (launch_edges d))
            → walk_edge d n ≡ find (arrives n) (launch_edges d)
        by port [] e again =
            let none : arrival d split n e0 ≡ None =
            arrival_told n s e0 m
            ∙ ap (λ o. option_map_or Some o (outermost split (λ from. plus_some (time_on (times_in split (row d from)) e0) (delay_from d split from n (row d from))) None (arcs_in d n)))
            (no_start d split n e0 (no_input d n net port))
            ∙ ap (outermost split (λ from. plus_some (time_on (times_in split (row d from)) e0) (delay_from d split from n (row d from))) None) e in
            absurd (false≢true (sym (ap is_some none) ∙ a))
        by port (x ∷ xs) e again =
            let c : Contains (arcs_in d n) x = subst (λ ys. Contains ys x) (sym e) (first_in x xs) in
            let sum = over_one n x s net port c in
            let both = sym (ap is_some (sum e0 m)) ∙ a in
            let steps = some_right (arrival d split x e0) (delay d split x n) both in
            let there = some_left (arrival d split x e0) (delay d split x n) both in
            let first = again x (placed.closed n s x c) (placed.rising n s x c) (before_network d tree n (listed n s) net port x c) there in
            let some : walk_edge d x ≡ None → ⊥ =
            λ none. found_some (arrives x) (launch_edges d) e0 m there (record { item = e0; within = m; passes = there }) (sym first ∙ none) in
            let behind : IsBehind d x n =
            behind_one d Stands place placed short n s net port x c (λ y k. only n x s net port c y k) (before_network d tree n (listed n s) net port x c) in
            behind_edge x n behind some ∙ first
            ∙ find_agree (arrives x) (arrives n) (launch_edges d) (λ edge k. sym (ap is_some (sum edge k) ∙ some_sum (arrival d split x edge) (delay d split x n) steps))

    -- the first edge that arrives
    pub walk_edge_first : (n : Node) → Stands n → is_network d n.pin ≡ true → arrives n e0 ≡ true → walk_edge d n ≡ find (arrives n) (launch_edges d)
    walk_edge_first n s net a = is_first (suc (place n)) n s (omega arith) net a
