-- The tables that an update begins with, and what its end says of the edited store.

use Rattle.std.proofs.Common.{◌≡◌, ℕ, zero, suc, ◌+◌, ◌-◌, ◌*◌, ◌/◌, ◌<◌, ◌≤◌, Bool, true, false, not, ◌&&◌, ◌||◌, List, [], ◌∷◌, ◌++◌, take, replicate, length, get_or, Option, None, Some, refl, sym, ap, subst, ◌∙◌, inl, inr, arith}
use Rattle.std.specs.Prelude.{Contains, nat_eq, is_some, slice_get, slice_set, option_map, option_and_then, if◌then◌else◌}
use Rattle.std.specs.Arc.{arc_value}
use Rattle.std.specs.List.{list_any}
use Rattle.std.specs.Option.{option_map_or}
use Rattle.std.proofs.lemmas.Bool.{cases_Bool, cases_lt, cases_eq, eq-eqb, eqb-true, true≢false, false≢true}
use Rattle.std.proofs.lemmas.List.{get_or-set_same, get_or-set_other, length-set}
use Rattle.std.proofs.lemmas.List.Folds.{list_any_more}
use Rattle.timing_defs.specs.declared.rows.NodeRow.{NodeRow}
use Rattle.timing_defs.specs.Netlist.{Pin, Node, pins, both_nodes, pin_named}
use Rattle.timing_rules.specs.Rows.{row, empty_row}
use Rattle.timing_defs.specs.Touches.{Touch}
use Rattle.timing_rules.specs.Range.{is_net_origin}
use Rattle.netlist_store.specs.Linked.{IsLinked}
use Rattle.netlist_store.specs.Numbering.{Stored, name_at, number_of, is_number, IsNumbered}
use Rattle.netlist_store.specs.Applying.{IsEditOf}
use Rattle.eco_laws.proofs.EditOf.{base_linked, edited_linked, framed_of}
use Rattle.node_rows.specs.declared.pin_wires.Wires.{Wires}
use Rattle.node_rows.specs.declared.ports.Ports.{Ports}
use Rattle.node_rows.specs.WireTables.{AreWires}
use Rattle.node_rows.specs.PortTables.{ArePorts}
use Rattle.node_rows.specs.NetTrees.{is_wide_net}
use Rattle.pin_graph.specs.Nodes.{node_at, node_bound, node_number, pin_under, tran_under}
use Rattle.pin_graph.specs.Graphs.{Graphed, IsGraph}
use Rattle.pin_graph.specs.RowTables.{row_numbered, AreRows, AreRowsFine}
use Rattle.timing_defs.proofs.Members.{in_flat_map_back}
use Rattle.store_pins.proofs.PinLaws.{there, told_at, pin_told}
use Rattle.pin_graph.proofs.NodeLaws.{HasNode, has_node, node_told, node_below}
use Rattle.arc_delays.specs.declared.tables.ArcDelay.{ArcDelay}
use Rattle.arc_delays.specs.Delays.{AreDelays, AreDelaysAt, sized_delays}
use Rattle.arc_delays.proofs.RangeLaws.{within}
use Rattle.arc_delays.proofs.TableLaws.{delays_by_node, delays_at_node}
use Rattle.arrival_engine.specs.declared.tables.Arrivals.{Arrivals}
use Rattle.arrival_engine.specs.Analysed.{sized_rows}
use Rattle.arrival_engine.specs.Updated.{row_before, AreArrivals, AreBegun, AreRenewed}

-- a list with room for so many items
gaps : {X : Type 0} (e : X) (k n : ℕ) → get_or (replicate k e) n e ≡ e
gaps e zero n = refl
gaps e (suc k) zero = refl
gaps e (suc k) (suc n) = gaps e k n

many_gaps : {X : Type 0} (e : X) (k : ℕ) → length (replicate k e) ≡ k
many_gaps e zero = refl
many_gaps e (suc k) = ap suc (many_gaps e k)

sized_at : {X : Type 0} (e : X) (xs : List X) (count n : ℕ) → n < count → get_or (take count xs ++ replicate (count - length xs) e) n e ≡ get_or xs n e
sized_at e [] zero n low = absurd (omega (arith, low))
sized_at e [] (suc count) n low = gaps e (suc count - 0) n
sized_at e (x ∷ xs) zero n low = absurd (omega (arith, low))
sized_at e (x ∷ xs) (suc count) zero low = refl
sized_at e (x ∷ xs) (suc count) (suc n) low =
    let less : suc count - suc (length xs) ≡ count - length xs = omega arith in
    ap (λ k. get_or (take count xs ++ replicate k e) n e) less ∙ sized_at e xs count n (omega (arith, low))

sized_long : {X : Type 0} (e : X) (xs : List X) (count : ℕ) → length (take count xs ++ replicate (count - length xs) e) ≡ count
sized_long e [] zero = many_gaps e (0 - 0)
sized_long e [] (suc count) = let all : suc count - 0 ≡ suc count = omega arith in many_gaps e (suc count - 0) ∙ all
sized_long e (x ∷ xs) zero = let none : 0 - suc (length xs) ≡ 0 = omega arith in ap (λ k. length (replicate k e)) none
sized_long e (x ∷ xs) (suc count) =
    let less : suc count - suc (length xs) ≡ count - length xs = omega arith in
    ap (λ k. suc (length (take count xs ++ replicate k e))) less ∙ ap suc (sized_long e xs count)

got : (xs : List NodeRow) (k : ℕ) (r : NodeRow) → slice_get xs k ≡ Some r → get_or xs k empty_row ≡ r
got [] k r e = absurd (cc)
got (x ∷ xs) zero r e = let f : x ≡ r = cc in f
got (x ∷ xs) (suc k) r e = got xs k r e

past : {X : Type 0} (e : X) (xs : List X) (k : ℕ) → length xs ≤ k → get_or xs k e ≡ e
past e [] k over = refl
past e (x ∷ xs) zero over = absurd (omega (arith, over))
past e (x ∷ xs) (suc k) over = past e xs k (omega (arith, over))

module _ (s : Stored) (num : IsNumbered s) (linked : IsLinked s.design) where
  -- a number stands for a node where its pin's does
  pub node_there : (k : ℕ) → is_some (node_at s k) ≡ is_number s.pins (pin_under k)
  node_there k = by (name_at s.pins (pin_under k)) refl
    where
      by : (o : Option (List ℕ)) → name_at s.pins (pin_under k) ≡ o → is_some (node_at s k) ≡ is_number s.pins (pin_under k)
      by None e = ap (λ o. is_some {T = Node} (option_map (λ (pin : Pin). record { pin = pin; tran = tran_under k }) (option_and_then (pin_named s.design) o))) e ∙ sym (ap is_some e)
      by (Some name) e = named (pin_named s.design name) refl
        where
          named : (q : Option Pin) → pin_named s.design name ≡ q → is_some (node_at s k) ≡ is_number s.pins (pin_under k)
          named None f = absurd (false≢true (sym (ap is_some f) ∙ sym (num.pin_names name) ∙ ap is_some (num.pins.distinct (pin_under k) name e)))
          named (Some q) f =
              ap (λ o. is_some {T = Node} (option_map (λ (pin : Pin). record { pin = pin; tran = tran_under k }) (option_and_then (pin_named s.design) o))) e
              ∙ ap (λ o. is_some {T = Node} (option_map (λ (pin : Pin). record { pin = pin; tran = tran_under k }) o)) f
              ∙ sym (ap is_some e)

  no_node : (k : ℕ) → is_some (node_at s k) ≡ false → row_numbered s k ≡ empty_row
  no_node k none = by (node_at s k) refl
    where
      by : (o : Option Node) → node_at s k ≡ o → row_numbered s k ≡ empty_row
      by None e = ap (λ o. option_map_or (row s.design) o empty_row) e
      by (Some n) e = absurd (true≢false (sym (ap is_some e) ∙ none))

  -- the rows of a base at all numbers
  pub row_at : (rows : List NodeRow) → AreRows s rows → (k : ℕ) → get_or rows k empty_row ≡ row_numbered s k
  row_at rows are k = elim (cases_lt k (node_bound s)) [
    | inl low ↦ got rows k (row_numbered s k) (are.row k low)
    | inr over ↦ past empty_row rows k (omega (arith, over, are.count)) ∙ by (node_at s k) refl over
  ]
    where
      by : (o : Option Node) → node_at s k ≡ o → node_bound s ≤ k → empty_row ≡ row_numbered s k
      by None e over = sym (ap (λ o. option_map_or (row s.design) o empty_row) e)
      by (Some n) e over = let low = node_below s n k (has_node s num linked k n e) in absurd (omega (arith, low, over))

-- an update begins
module _ (s s2 : Stored) (touch : Touch) (made : IsEditOf s touch s2) (num : IsNumbered s) (num2 : IsNumbered s2) (a : Arrivals) (are : AreArrivals s a) where
  linked : IsLinked s.design
  linked = base_linked s touch s2 made

  linked2 : IsLinked s2.design
  linked2 = edited_linked s touch s2 made

  pub begun : (more rows : List NodeRow) (delays : List (List ArcDelay)) (gone : List ℕ)
      → more ≡ sized_rows a.rows (node_bound s2)
      → length rows ≡ length more
      → ((n : ℕ) → n < length more → get_or rows n empty_row ≡ (if list_any (nat_eq (pin_under n)) gone then empty_row else get_or more n empty_row))
      → ((pin : ℕ) → list_any (nat_eq pin) gone ≡ (is_number s.pins pin && not (is_number s2.pins pin)))
      → delays ≡ sized_delays (arc_value a.delays) (node_bound s2)
      → AreBegun s s2 rows delays
  begun more rows delays gone sized long emptied told wide = record {
    row_count = long ∙ more_long;
    delay_count = ap length wide ∙ sized_long [] (arc_value a.delays) (node_bound s2);
    rows_were = λ n low. emptied n (omega (arith, low, more_long)) ∙ ap (λ b. if b then empty_row else get_or more n empty_row) (told (pin_under n))
        ∙ by n low (is_number s.pins (pin_under n)) refl (is_number s2.pins (pin_under n)) refl;
    delays_were = λ n low. subst (λ (xs : List ArcDelay). AreDelaysAt s n xs)
        (sym (ap (λ t. get_or t n []) wide ∙ sized_at [] (arc_value a.delays) (node_bound s2) n low)) (delays_at_node s (arc_value a.delays) are.delays n);
  }
    where
      more_long : length more ≡ node_bound s2
      more_long = ap length sized ∙ sized_long empty_row a.rows (node_bound s2)

      was : (n : ℕ) → n < node_bound s2 → get_or more n empty_row ≡ row_numbered s n
      was n low = ap (λ t. get_or t n empty_row) sized ∙ sized_at empty_row a.rows (node_bound s2) n low ∙ row_at s num linked a.rows are.rows n

      by : (n : ℕ) → n < node_bound s2 → (b : Bool) → is_number s.pins (pin_under n) ≡ b → (c : Bool) → is_number s2.pins (pin_under n) ≡ c
          → (if is_number s.pins (pin_under n) && not (is_number s2.pins (pin_under n)) then empty_row else get_or more n empty_row) ≡ row_before s s2 n
      by n low b e true f =
          ap (λ c. if is_number s.pins (pin_under n) && not c then empty_row else get_or more n empty_row) f
          ∙ ap (λ b. if b && false then empty_row else get_or more n empty_row) e
          ∙ here b
          ∙ was n low
          ∙ sym (ap (λ c. if c then row_numbered s n else empty_row) (node_there s2 num2 linked2 n ∙ f))
        where
          here : (b : Bool) → (if b && false then empty_row else get_or more n empty_row) ≡ get_or more n empty_row
          here true = refl
          here false = refl
      by n low true e false f =
          ap (λ c. if is_number s.pins (pin_under n) && not c then empty_row else get_or more n empty_row) f
          ∙ ap (λ b. if b && true then empty_row else get_or more n empty_row) e
          ∙ sym (ap (λ c. if c then row_numbered s n else empty_row) (node_there s2 num2 linked2 n ∙ f))
      by n low false e false f =
          ap (λ c. if is_number s.pins (pin_under n) && not c then empty_row else get_or more n empty_row) f
          ∙ ap (λ b. if b && true then empty_row else get_or more n empty_row) e
          ∙ was n low
          ∙ no_node s num linked n (node_there s num linked n ∙ e)
          ∙ sym (ap (λ c. if c then row_numbered s n else empty_row) (node_there s2 num2 linked2 n ∙ f))

-- the ports of the base are those of the edited store
pub ports_kept : (s s2 : Stored) (touch : Touch) → IsEditOf s touch s2 → (ports : Ports) → ArePorts s.design.constraints ports → ArePorts s2.design.constraints ports
ports_kept s s2 touch made ports is = subst (λ c. ArePorts c ports) (sym (framed_of s touch s2 made).constraints) is

-- a pin has two nodes
pub two_nodes : (s2 : Stored) (more rows : List NodeRow) → more ≡ sized_rows rows (node_bound s2) → (pin : ℕ) → 2 * pin < length more → 2 * pin + 1 < length more
two_nodes s2 more rows e pin low =
    let long : length more ≡ node_bound s2 = ap length e ∙ sized_long empty_row rows (node_bound s2) in
    omega (arith, low, long)

both_pin : (pin : Pin) (node : Node) → Contains (both_nodes pin) node → node.pin ≡ pin
both_pin pin node (zero, low, at) = ap (λ (n : Node). n.pin) (sym at)
both_pin pin node (suc zero, low, at) = ap (λ (n : Node). n.pin) (sym at)
both_pin pin node (suc (suc i), low, at) = absurd (omega (arith, low))

-- where an update ends no quantity of the edited store leaves its limit, and its rows and delays are there
module _ (g : Graphed) (s2 : Stored) (same : g.stored ≡ s2) (num2 : IsNumbered s2) (linked2 : IsLinked s2.design) (is : IsGraph g)
    (wires : Wires) (are : AreWires s2 wires) (nets : (net : ℕ) → is_wide_net s2 net ≡ false)
    (rows : List NodeRow) (delays : List (List ArcDelay)) (found : AreRenewed g rows delays) where
  num : IsNumbered g.stored
  num = subst (λ (x : Stored). IsNumbered x) (sym same) num2

  linked_g : IsLinked g.stored.design
  linked_g = subst (λ (x : Stored). IsLinked x.design) (sym same) linked2

  fine_there : AreRowsFine g.stored.design
  fine_there = record {
    nets = λ name h.
        (let n = there (number_of g.stored.nets name) (num.net_names name ∙ h) in
        sym (ap (λ o. option_map_or (is_net_origin g.stored.design) o false) (told_at g.stored.nets name n.0 n.1)) ∙ nets_there n.0);
    nodes = λ node c split.
        (let a = in_flat_map_back both_nodes (pins g.stored.design) node c in
        let h = node_of_pin node a.item a.within a.inside in
        (found.fine h.0 (node_below g.stored node h.0 h.1) node (node_told g.stored node h.0 h.1)).origins split);
  }
    where
      nets_there : (net : ℕ) → is_wide_net g.stored net ≡ false
      nets_there net = ap (λ (x : Stored). is_wide_net x net) same ∙ nets net

      node_of_pin : (node : Node) (pin : Pin) → Contains (pins g.stored.design) pin → Contains (both_nodes pin) node → (k : ℕ) × HasNode g.stored node k
      node_of_pin node pin c inside =
          let same_pin : node.pin ≡ pin = both_pin pin node inside in
          let p = pin_told g.stored num linked_g node.pin (subst (λ (q : Pin). Contains (pins g.stored.design) q) (sym same_pin) c) in
          (node_number p.0 node.tran, record { pin = p.0; has = p.1; number = refl })

  pub fine_whole : AreRowsFine s2.design
  fine_whole = subst (λ (x : Stored). AreRowsFine x.design) same fine_there

  pub rows_whole : AreRows s2 rows
  rows_whole = subst (λ (x : Stored). AreRows x rows) same found.rows_are

  pub delays_whole : AreDelays s2 delays
  delays_whole =
      subst (λ (x : Stored). AreDelays x delays) same
      (delays_by_node g num linked_g is (within g g.stored refl num linked_g is wires (subst (λ (x : Stored). AreWires x wires) (sym same) are) fine_there)
      delays found.delay_count found.delays_are)

-- the rows of a pin are emptied
module _ (rows rows' : List NodeRow) (p n : ℕ) where
  pub pin_emptied : 2 * p + 1 < length rows → rows' ≡ slice_set (slice_set rows (2 * p) empty_row) (2 * p + 1) empty_row
      → get_or rows' n empty_row ≡ (if nat_eq (pin_under n) p then empty_row else get_or rows n empty_row)
  pin_emptied inside put = elim (cases_Bool (nat_eq (pin_under n) p)) [
    | inl e ↦
        let same : n / 2 ≡ p = eqb-true (pin_under n) p e in
        ap (λ t. get_or t n empty_row) put ∙ emptied same ∙ sym (ap (λ b. if b then empty_row else get_or rows n empty_row) e)
    | inr e ↦
        let apart : (n / 2 ≡ p → ⊥) = (λ same. true≢false (sym (eq-eqb (pin_under n) p same) ∙ e)) in
        ap (λ t. get_or t n empty_row) put
        ∙ get_or-set_other (slice_set rows (2 * p) empty_row) (2 * p + 1) n empty_row empty_row (λ at. apart (omega (arith, at)))
        ∙ get_or-set_other rows (2 * p) n empty_row empty_row (λ at. apart (omega (arith, at)))
        ∙ sym (ap (λ b. if b then empty_row else get_or rows n empty_row) e)
  ]
    where
      emptied : n / 2 ≡ p → get_or (slice_set (slice_set rows (2 * p) empty_row) (2 * p + 1) empty_row) n empty_row ≡ empty_row
      emptied same = elim (cases_eq n (2 * p + 1)) [
        | inl last ↦ subst (λ (k : ℕ). get_or (slice_set (slice_set rows (2 * p) empty_row) (2 * p + 1) empty_row) k empty_row ≡ empty_row) (sym last)
            (get_or-set_same (slice_set rows (2 * p) empty_row) (2 * p + 1) empty_row empty_row (let size = length-set rows (2 * p) empty_row in omega (arith, inside, size)))
        | inr before ↦
            let first : n ≡ 2 * p = omega (arith, same, before) in
            get_or-set_other (slice_set rows (2 * p) empty_row) (2 * p + 1) n empty_row empty_row before
            ∙ subst (λ (k : ℕ). get_or (slice_set rows (2 * p) empty_row) k empty_row ≡ empty_row) (sym first)
            (get_or-set_same rows (2 * p) empty_row empty_row (omega (arith, inside)))
      ]

  pub pin_passed : length rows ≤ 2 * p → n < length rows → rows' ≡ rows → get_or rows' n empty_row ≡ (if nat_eq (pin_under n) p then empty_row else get_or rows n empty_row)
  pin_passed outside under same = elim (cases_Bool (nat_eq (pin_under n) p)) [
    | inl e ↦ let half : n / 2 ≡ p = eqb-true (pin_under n) p e in absurd (omega (arith, half, under, outside))
    | inr e ↦ ap (λ t. get_or t n empty_row) same ∙ sym (ap (λ b. if b then empty_row else get_or rows n empty_row) e)
  ]

-- and those of one pin more
pub pins_emptied : (rows rows' old : List NodeRow) (pins : List ℕ) (i p n : ℕ) → i < length pins → p ≡ get_or pins i 0
    → get_or rows' n empty_row ≡ (if nat_eq (pin_under n) p then empty_row else get_or rows n empty_row)
    → get_or rows n empty_row ≡ (if list_any (nat_eq (pin_under n)) (take i pins) then empty_row else get_or old n empty_row)
    → get_or rows' n empty_row ≡ (if list_any (nat_eq (pin_under n)) (take (i + 1) pins) then empty_row else get_or old n empty_row)
pins_emptied rows rows' old pins i p n low here step was =
    step ∙ ap (λ r. if nat_eq (pin_under n) p then empty_row else r) was
    ∙ by (nat_eq (pin_under n) p) (list_any (nat_eq (pin_under n)) (take i pins)) (get_or old n empty_row)
    ∙ sym (ap (λ b. if b then empty_row else get_or old n empty_row)
    (list_any_more (nat_eq (pin_under n)) pins i 0 low ∙ ap (λ q. list_any (nat_eq (pin_under n)) (take i pins) || nat_eq (pin_under n) q) (sym here)))
  where
    by : (a b : Bool) (r : NodeRow) → (if a then empty_row else (if b then empty_row else r)) ≡ (if b || a then empty_row else r)
    by true true r = refl
    by true false r = refl
    by false true r = refl
    by false false r = refl
