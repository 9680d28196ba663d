-- As many nodes pass a test as numbers of nodes do.

use Rattle.std.proofs.Common.{◌≡◌, ◌≢◌, ℕ, zero, suc, ◌+◌, ◌<◌, ◌==◌, Bool, true, false, cond, not, ◌&&◌, List, [], ◌∷◌, map, get_or, zero-add, Option, None, Some, refl, sym, ap, subst, ◌∙◌, inl, inr, arith}
use Rattle.std.specs.Prelude.{Contains}
use Rattle.std.specs.List.{count_by, list_any, flat_map, range_with_len}
use Rattle.std.specs.Option.{option_map_or, unwrap_or}
use Rattle.std.specs.Str.{bytes_eq}
use Rattle.std.proofs.lemmas.Bool.{cases_Bool, not-true, true≢false, false≢true, and_parts, and_from, eq-eqb, eqb-true}
use Rattle.std.proofs.lemmas.List.Concat.{flat_map-cons}
use Rattle.std.proofs.lemmas.List.FromFn.{length-range_with_len, get_or-range_with_len}
use Rattle.timing_defs.specs.declared.kinds.Tran.{Tran}
use Rattle.timing_defs.specs.declared.kinds.Tran.TheVariants.{Rise, Fall}
use Rattle.timing_defs.specs.Netlist.{Pin, Node, name_of, pins, both_nodes, nodes, is_listed, are_distinct}
use Rattle.netlist_store.specs.Linked.{IsLinked}
use Rattle.netlist_store.specs.Numbering.{Stored, number_of, IsNumbered}
use Rattle.level_cone.proofs.Counts.{count_cons, count_split, count_never, count_one, either_once}
use Rattle.pin_graph.specs.Nodes.{node_at, node_number, node_bound, pin_under}
use Rattle.pin_graph.specs.Graphs.{of_node}
use Rattle.timing_defs.proofs.Members.{some_is, first_in, later_in, in_cases, in_flat_map, in_flat_map_back, in_map, any_in, any_back}
use Rattle.timing_defs.proofs.SameNames.{same_self}
use Rattle.store_pins.proofs.PinNames.{pins_apart}
use Rattle.store_pins.proofs.PinLaws.{HasNumber, pin_told}
use Rattle.pin_graph.proofs.NodeLaws.{HasNode, node_told, node_below, has_node, under_number}

-- a list whose items have different numbers
module _ {X : Type 0} (number : X → ℕ) where
  abbrev AreApart : List X → Type 0
  AreApart [] = Unit {0}
  AreApart (x ∷ xs) = ((y : X) → Contains xs y → number y ≢ number x) × AreApart xs

  module _ (p : X → Bool) (bound : ℕ) where
    abbrev among : List X → ℕ → Bool
    among xs k = list_any (λ x. p x && (number x == k)) xs

    one_of : (x : X) → number x < bound → count_by (λ k. p x && (number x == k)) (range_with_len 0 bound) ≡ cond (p x) 1 0
    one_of x low = elim (cases_Bool (p x)) [
      | inl e ↦ rw e (count_one (number x) 0 bound (omega arith) (omega (arith, low)))
      | inr e ↦ rw e (count_never (range_with_len 0 bound))
    ]

    not_again : (x : X) (xs : List X) → ((y : X) → Contains xs y → number y ≢ number x) → (k : ℕ) → (p x && (number x == k)) ≡ true → among xs k ≡ false
    not_again x xs apart k h = elim (cases_Bool (among xs k)) [
      | inl e ↦
          let r = any_back (λ y. p y && (number y == k)) xs e in
          let here = eqb-true (number x) k (and_parts (p x) (number x == k) h).1 in
          let there = eqb-true (number r.item) k (and_parts (p r.item) (number r.item == k) r.passes).1 in
          absurd (apart r.item r.within (there ∙ sym here))
      | inr e ↦ e
    ]

    counted : (xs : List X) → AreApart xs → ((x : X) → Contains xs x → number x < bound) → count_by p xs ≡ count_by (among xs) (range_with_len 0 bound)
    counted [] apart low = sym (count_never (range_with_len 0 bound))
    counted (x ∷ xs) apart low =
        let parts = count_split (among (x ∷ xs)) (λ k. p x && (number x == k)) (among xs)
        (λ k. either_once (p x && (number x == k)) (among xs k) (not_again x xs apart.0 k)) (range_with_len 0 bound) in
        let here = one_of x (low x (first_in x xs)) in
        let more = counted xs apart.1 (λ y c. low y (later_in x xs y c)) in
        omega (arith, count_cons p x xs, parts, here, more)

count_agree : (p q : ℕ → Bool) (ks : List ℕ) → ((k : ℕ) → Contains ks k → p k ≡ q k) → count_by p ks ≡ count_by q ks
count_agree p q [] same = refl
count_agree p q (k ∷ ks) same =
    count_cons p k ks ∙ (λ i. cond (same k (first_in k ks) i) 1 0 + count_agree p q ks (λ y c. same y (later_in k ks y c)) i) ∙ sym (count_cons q k ks)

iff : (a b : Bool) → (a ≡ true → b ≡ true) → (b ≡ true → a ≡ true) → a ≡ b
iff true b there back = sym (there refl)
iff false true there back = back refl
iff false false there back = refl

in_range : (n k : ℕ) → Contains (range_with_len 0 n) k → k < n
in_range n k c =
    let low = c.1 in
    let at : get_or (range_with_len 0 n) c.0 k ≡ c.0 = get_or-range_with_len 0 n c.0 k (omega (arith, low, length-range_with_len 0 n)) ∙ zero-add c.0 in
    let is = c.2 in
    omega (arith, low, at, is, length-range_with_len 0 n)

of_both : (pin : Pin) (n : Node) → Contains (both_nodes pin) n → n.pin ≡ pin
of_both pin n (zero, low, is) = ap (λ (m : Node). m.pin) (sym is)
of_both pin n (suc zero, low, is) = ap (λ (m : Node). m.pin) (sym is)
of_both pin n (suc (suc i), low, is) = absurd (omega (arith, low))

both_in : (pin : Pin) (t : Tran) → Contains (both_nodes pin) (record { pin = pin; tran = t })
both_in pin Rise = (0, omega arith, refl)
both_in pin Fall = (1, omega arith, refl)

module _ (s : Stored) (num : IsNumbered s) (linked : IsLinked s.design) where
  abbrev number : Node → ℕ
  number node = node_number (unwrap_or (number_of s.pins (name_of node.pin)) 0) node.tran

  number_is : (node : Node) (k : ℕ) → HasNode s node k → number node ≡ k
  number_is node k h = ap (λ o. node_number (unwrap_or o 0) node.tran) h.has.number ∙ sym h.number

  name_apart : (p : Pin) (ps : List Pin) → is_listed (map name_of ps) (name_of p) ≡ false → (q : Pin) → Contains ps q → name_of q ≡ name_of p → ⊥
  name_apart p ps off q c e =
      true≢false (sym (any_in (bytes_eq (name_of p)) (map name_of ps) (name_of q) (in_map name_of ps q c) (ap (bytes_eq (name_of p)) e ∙ same_self (name_of p))) ∙ off)

  -- the pin of a number
  same_pin_name : (p q : Pin) (n : ℕ) → HasNumber s p n → HasNumber s q n → name_of q ≡ name_of p
  same_pin_name p q n a b = some_is (sym b.name ∙ a.name)

  node_of : (p : Pin) → Contains (pins s.design) p → (node : Node) → Contains (both_nodes p) node → (k : ℕ) × (HasNode s node k × (node.pin ≡ p))
  node_of p c node inside =
      let same : node.pin ≡ p = of_both p node inside in
      let n = pin_told s num linked node.pin (subst (λ (q : Pin). Contains (pins s.design) q) (sym same) c) in
      (node_number n.0 node.tran, (record { pin = n.0; has = n.1; number = refl }, same))

  apart : (ps : List Pin) → are_distinct (map name_of ps) ≡ true → ((p : Pin) → Contains ps p → Contains (pins s.design) p) → AreApart number (flat_map both_nodes ps)
  apart [] distinct within = tt
  apart (p ∷ ps) distinct within =
      let parts = and_parts (not (is_listed (map name_of ps) (name_of p))) (are_distinct (map name_of ps)) distinct in
      let off = not-true (is_listed (map name_of ps) (name_of p)) parts.0 in
      let rest = apart ps parts.1 (λ q c. within q (later_in p ps q c)) in
      subst (AreApart number) (sym (flat_map-cons both_nodes p ps))
      ((λ y c. rise_apart off y c), ((λ y c. other_apart (record { pin = p; tran = Fall }) off (1, omega arith, refl) y c), rest))
    where
      here : (x : Node) → Contains (both_nodes p) x → (k : ℕ) × (HasNode s x k × (x.pin ≡ p))
      here x c = node_of p (within p (first_in p ps)) x c

      other_apart : (x : Node) → is_listed (map name_of ps) (name_of p) ≡ false → Contains (both_nodes p) x → (y : Node) → Contains (flat_map both_nodes ps) y → number y ≢ number x
      other_apart x off in_p y c same =
          let a = in_flat_map_back both_nodes ps y c in
          let h = here x in_p in
          let k = node_of a.item (within a.item (later_in p ps a.item a.within)) y a.inside in
          let numbers : h.0 ≡ k.0 = sym (number_is x h.0 h.1.0) ∙ sym same ∙ number_is y k.0 k.1.0 in
          let pin_same : h.1.0.pin ≡ k.1.0.pin =
          sym (under_number h.1.0.pin x.tran) ∙ ap pin_under (sym h.1.0.number ∙ numbers ∙ k.1.0.number) ∙ under_number k.1.0.pin y.tran in
          name_apart p ps off a.item a.within
          (ap name_of (sym k.1.1) ∙ same_pin_name x.pin y.pin h.1.0.pin h.1.0.has (subst (HasNumber s y.pin) (sym pin_same) k.1.0.has) ∙ ap name_of h.1.1)

      rise_apart : is_listed (map name_of ps) (name_of p) ≡ false → (y : Node)
          → Contains (record { pin = p; tran = Fall } ∷ flat_map both_nodes ps) y → number y ≢ number (record { pin = p; tran = Rise })
      rise_apart off y c = elim (in_cases (record { pin = p; tran = Fall }) (flat_map both_nodes ps) y c) [
        | inl e ↦ λ same. let numbers : number (record { pin = p; tran = Fall }) ≡ number (record { pin = p; tran = Rise }) = ap number e ∙ same in omega (arith, numbers)
        | inr r ↦ other_apart (record { pin = p; tran = Rise }) off (0, omega arith, refl) y r
      ]

  number_low : (node : Node) → Contains (nodes s.design) node → number node < node_bound s
  number_low node c =
      let a = in_flat_map_back both_nodes (pins s.design) node c in
      let k = node_of a.item a.within node a.inside in
      subst (λ (n : ℕ). n < node_bound s) (sym (number_is node k.0 k.1.0)) (node_below s node k.0 k.1.0)

  -- a test of nodes counts the same over nodes and over their numbers
  pub nodes_counted : (p : Node → Bool) → count_by p (nodes s.design) ≡ count_by (of_node s p) (range_with_len 0 (node_bound s))
  nodes_counted p =
      counted number p (node_bound s) (nodes s.design) (apart (pins s.design) (pins_apart s.design linked) (λ q c. c)) number_low
      ∙ count_agree (among number p (node_bound s) (nodes s.design)) (of_node s p) (range_with_len 0 (node_bound s)) (λ k c. iff _ _ (there k) (back k))
    where
      there : (k : ℕ) → among number p (node_bound s) (nodes s.design) k ≡ true → of_node s p k ≡ true
      there k h =
          let r = any_back (λ x. p x && (number x == k)) (nodes s.design) h in
          let parts = and_parts (p r.item) (number r.item == k) r.passes in
          let a = in_flat_map_back both_nodes (pins s.design) r.item r.within in
          let n = node_of a.item a.within r.item a.inside in
          let at : n.0 ≡ k = sym (number_is r.item n.0 n.1.0) ∙ eqb-true (number r.item) k parts.1 in
          ap (λ o. option_map_or p o false) (ap (node_at s) (sym at) ∙ node_told s r.item n.0 n.1.0) ∙ parts.0

      back : (k : ℕ) → of_node s p k ≡ true → among number p (node_bound s) (nodes s.design) k ≡ true
      back k h = by (node_at s k) refl
        where
          by : (o : Option Node) → node_at s k ≡ o → among number p (node_bound s) (nodes s.design) k ≡ true
          by None e = absurd (false≢true (sym (ap (λ o. option_map_or p o false) e) ∙ h))
          by (Some n) e =
              let has = has_node s num linked k n e in
              let passes : p n ≡ true = sym (ap (λ o. option_map_or p o false) e) ∙ h in
              any_in (λ x. p x && (number x == k)) (nodes s.design) n
              (in_flat_map both_nodes (pins s.design) n.pin n has.has.within (both_in n.pin n.tran))
              (and_from (p n) (number n == k) passes (eq-eqb (number n) k (number_is n k has)))
