-- Places of the clock network's nodes.

use Rattle.std.proofs.Common.{◌≡◌, ℕ, suc, ◌+◌, ◌*◌, ◌<◌, ◌≤◌, Bool, true, false, cond, List, [], ◌∷◌, length, get_or, set, Option, None, Some, refl, sym, ap, subst, ◌∙◌, inl, inr, arith}
use Rattle.std.specs.Prelude.{if◌then◌else◌, is_some, Contains, All, count_by}
use Rattle.std.specs.List.{cons_option, filter_map, flat_map, range_with_len}
use Rattle.std.proofs.lemmas.Bool.{cases_Bool, cases_eq, cases_lt, false≢true}
use Rattle.std.proofs.lemmas.Option.{cond_some}
use Rattle.std.proofs.lemmas.List.{length-set, get_or_default, get_or-set_same, get_or-set_other}
use Rattle.std.proofs.lemmas.List.Elements.{All-contains, All-contains_itself, Contains-get_or}
use Rattle.std.proofs.lemmas.List.FromFn.{length-range_with_len, get_or-range_with_len}
use Rattle.std.proofs.lemmas.List.Sorted.{length_permutation, All-permutation, Contains-permutation}
use Rattle.std.proofs.lemmas.List.Sums.{sum_by-cons, count_by-le-length}
use Rattle.timing_defs.specs.declared.kinds.Tran.TheVariants.{Rise, Fall}
use Rattle.levelizer.specs.declared.links.Link.{Link}
use Rattle.levelizer.specs.Levels.{AreWithin}
use Rattle.levelizer.specs.Reaching.{has_mark}
use Rattle.pin_graph.specs.declared.arcs.GraphArc.{GraphArc}
use Rattle.pin_graph.specs.declared.places.AtLevel.{AtLevel}
use Rattle.pin_graph.specs.Nodes.{node_number, pin_under}
use Rattle.pin_graph.specs.NodeArcs.{marked, node_link, AreNodes}
use Rattle.pin_graph.specs.Placing.{network_link, port_nodes, at_level, leveled, node_in, AreClocked, AreOrdered, AreInPlace, ArePlaced}
use Rattle.pin_graph.proofs.WalkLaws.{both_same}
use Rattle.timing_defs.proofs.Members.{some_is, none_in, in_cases, in_filter_map, in_filter_map_back, in_flat_map_back, number_in}

-- the list of places, as it grows
module _ (n : ℕ) (nodes : List AtLevel) where
  pub in_place_none : (places : List (Option ℕ)) → length places ≡ n → ((k : ℕ) → get_or places k None ≡ None) → AreInPlace n nodes 0 places
  in_place_none places long none = record {
    count = long;
    told = λ node p e. let clash : None ≡ Some p = sym (none node) ∙ e in absurd (cc);
    there = λ k low. absurd (omega arith);
  }

  pub in_place_more : (places : List (Option ℕ)) (i : ℕ) → AreInPlace n nodes i places → node_in nodes i < n
      → AreInPlace n nodes (i + 1) (set places (node_in nodes i) (Some i))
  in_place_more places i had low = record {
    count = length-set places (node_in nodes i) (Some i) ∙ had.count;
    told = λ node p e. elim (cases_eq node (node_in nodes i)) [
      | inl same ↦
          let is : Some i ≡ Some p =
          sym (get_or-set_same places (node_in nodes i) (Some i) None (omega (arith, had.count)))
          ∙ ap (λ m. get_or (set places (node_in nodes i) (Some i)) m None) (sym same) ∙ e in
          let at : i ≡ p = some_is is in
          (omega arith, ap (node_in nodes) (sym at) ∙ sym same)
      | inr other ↦
          let t = had.told node p (sym (get_or-set_other places (node_in nodes i) node (Some i) None other) ∙ e) in
          let below = t.0 in
          (omega arith, t.1)
    ];
    there = λ k below. elim (cases_eq (node_in nodes k) (node_in nodes i)) [
      | inl same ↦
          ap (λ m. is_some (get_or (set places (node_in nodes i) (Some i)) m None)) same
          ∙ ap is_some (get_or-set_same places (node_in nodes i) (Some i) None (omega (arith, had.count)))
      | inr other ↦ elim (cases_eq k i) [
        | inl here ↦ absurd (other (ap (node_in nodes) here))
        | inr before ↦ ap is_some (get_or-set_other places (node_in nodes i) (node_in nodes k) (Some i) None other) ∙ had.there k (omega arith)
      ]
    ];
  }

-- marked nodes with their levels
module _ (n : ℕ) (marks : List Bool) (levels : List ℕ) where
  leveled_back : (at : AtLevel) → Contains (leveled n marks levels) at → (at.node < n) × (has_mark marks at.node ≡ true) × (at.level ≡ get_or levels at.node 0)
  leveled_back at c =
      let m = in_filter_map_back (at_level marks levels) (range_with_len 0 n) at c in
      let h = cond_some (has_mark marks m.item) (record { level = get_or levels m.item 0; node = m.item }) at m.same in
      let node : m.item ≡ at.node = ap (λ (a : AtLevel). a.node) h.1 in
      let r = m.within in
      let low = r.1 in
      let long = length-range_with_len 0 n in
      let item : get_or (range_with_len 0 n) r.0 m.item ≡ r.0 = (let e = get_or-range_with_len 0 n r.0 m.item (omega arith) in omega arith) in
      let is : m.item ≡ r.0 = sym r.2 ∙ item in
      (omega arith, ap (has_mark marks) (sym node) ∙ h.0, ap (λ (a : AtLevel). a.level) (sym h.1) ∙ ap (λ m. get_or levels m 0) node)

  leveled_in : (node : ℕ) → node < n → has_mark marks node ≡ true → Contains (leveled n marks levels) (record { level = get_or levels node 0; node = node })
  leveled_in node low e =
      in_filter_map (at_level marks levels) (range_with_len 0 n) node (record { level = get_or levels node 0; node = node }) (number_in n node low)
      (ap (λ b. if b then Some (record { level = get_or levels node 0; node = node }) else None) e)

  few : (xs : List ℕ) → length (filter_map (at_level marks levels) xs) ≡ count_by (has_mark marks) xs
  few [] = refl
  few (x ∷ xs) =
      elim (cases_Bool (has_mark marks x)) [
        | inl e ↦
            let rest = few xs in
            let one : cond {A = ℕ} (has_mark marks x) 1 0 ≡ 1 = rw e refl in
            let here : length (filter_map (at_level marks levels) (x ∷ xs)) ≡ suc (length (filter_map (at_level marks levels) xs)) =
            ap (λ b. length (cons_option (if b then Some (record { level = get_or levels x 0; node = x }) else None) (filter_map (at_level marks levels) xs))) e in
            omega (arith, here, rest, sum_by-cons (λ y. cond (has_mark marks y) 1 0) x xs)
        | inr e ↦
            let rest = few xs in
            let nil : cond {A = ℕ} (has_mark marks x) 1 0 ≡ 0 = rw e refl in
            let here : length (filter_map (at_level marks levels) (x ∷ xs)) ≡ length (filter_map (at_level marks levels) xs) =
            ap (λ b. length (cons_option (if b then Some (record { level = get_or levels x 0; node = x }) else None) (filter_map (at_level marks levels) xs))) e in
            omega (arith, here, rest, sum_by-cons (λ y. cond (has_mark marks y) 1 0) x xs)
      ]

  module _ (nodes : List AtLevel) (are : AreOrdered n marks levels nodes) where
    pub ordered_length : length nodes ≡ count_by (has_mark marks) (range_with_len 0 n)
    ordered_length = length_permutation (leveled n marks levels) nodes are.same ∙ few (range_with_len 0 n)

    pub ordered_few : length nodes ≤ n
    ordered_few =
        let all = count_by-le-length (has_mark marks) (range_with_len 0 n) in
        let long = length-range_with_len 0 n in
        omega (arith, ordered_length)

    at_place : (k : ℕ) → k < length nodes → Contains (leveled n marks levels) (get_or nodes k (record { level = 0; node = 0 }))
    at_place k low =
        All-contains (Contains (leveled n marks levels)) nodes (get_or nodes k (record { level = 0; node = 0 }))
        (All-permutation (Contains (leveled n marks levels)) (leveled n marks levels) nodes are.same (All-contains_itself (leveled n marks levels)))
        (Contains-get_or nodes k (record { level = 0; node = 0 }) low)

    pub ordered_within : All (λ at. at.node < n) nodes
    ordered_within = λ k d low.
        subst (λ (a : AtLevel). a.node < n) (get_or_default nodes k (record { level = 0; node = 0 }) d low) (leveled_back (get_or nodes k (record { level = 0; node = 0 })) (at_place k low)).0

    module _ (places : List (Option ℕ)) (placed : AreInPlace n nodes (length nodes) places) where
      -- the marked nodes have places
      pub marks_placed : (node : ℕ) → node < n → is_some (get_or places node None) ≡ has_mark marks node
      marks_placed node low =
          both_same (is_some (get_or places node None)) (has_mark marks node)
          (λ e. by_place (get_or places node None) refl e)
          (λ e.
          let c = Contains-permutation (leveled n marks levels) nodes (record { level = get_or levels node 0; node = node }) are.same (leveled_in node low e) in
          let within = c.1 in
          let here : node_in nodes c.0 ≡ node = ap (λ (a : AtLevel). a.node) (get_or_default nodes c.0 (record { level = 0; node = 0 }) (record { level = get_or levels node 0; node = node }) within ∙ c.2) in
          ap (λ m. is_some (get_or places m None)) (sym here) ∙ placed.there c.0 within)
        where
          by_place : (o : Option ℕ) → get_or places node None ≡ o → is_some o ≡ true → has_mark marks node ≡ true
          by_place None e f = absurd (false≢true f)
          by_place (Some p) e f =
              let t = placed.told node p e in
              ap (has_mark marks) (sym t.1) ∙ (leveled_back (get_or nodes p (record { level = 0; node = 0 })) (at_place p t.0)).1

      pub places_apart : (a b p : ℕ) → get_or places a None ≡ Some p → get_or places b None ≡ Some p → a ≡ b
      places_apart a b p e f = sym (placed.told a p e).1 ∙ (placed.told b p f).1

      pub place_low : (node p : ℕ) → get_or places node None ≡ Some p → p < count_by (has_mark marks) (range_with_len 0 n)
      place_low node p e = let low = (placed.told node p e).0 in omega (arith, ordered_length)

      -- a node of a higher level has a higher place
      pub places_rise : (a b p q : ℕ) → get_or levels a 0 < get_or levels b 0 → get_or places a None ≡ Some p → get_or places b None ≡ Some q → p < q
      places_rise a b p q up e f =
          let s = placed.told a p e in
          let t = placed.told b q f in
          let la = (leveled_back (get_or nodes p (record { level = 0; node = 0 })) (at_place p s.0)).2 in
          let lb = (leveled_back (get_or nodes q (record { level = 0; node = 0 })) (at_place q t.0)).2 in
          let at_a : (get_or nodes p (record { level = 0; node = 0 })).level ≡ get_or levels a 0 = la ∙ ap (λ m. get_or levels m 0) s.1 in
          let at_b : (get_or nodes q (record { level = 0; node = 0 })).level ≡ get_or levels b 0 = lb ∙ ap (λ m. get_or levels m 0) t.1 in
          elim (cases_lt p q) [
            | inl low ↦ low
            | inr high ↦
                let order = are.order q p (record { level = 0; node = 0 }) high s.0 in
                absurd (omega arith)
          ]

-- as the calls have it
pub network_within : (n : ℕ) (network : List Bool) (arcs : List GraphArc) (links links2 : List Link) → AreNodes n arcs → links ≡ filter_map (network_link network) arcs → links2 ≡ links
    → AreWithin n links2
network_within n network arcs links links2 nodes e f =
    subst (λ (ls : List Link). AreWithin n ls) (sym (f ∙ e))
    (λ k d low.
    let m = in_filter_map_back (network_link network) arcs (get_or (filter_map (network_link network) arcs) k d) (Contains-get_or (filter_map (network_link network) arcs) k d low) in
    let h = cond_some (marked network (pin_under m.item.to)) (node_link m.item) (get_or (filter_map (network_link network) arcs) k d) m.same in
    subst (λ (l : Link). (l.from < n) × (l.to < n)) h.1 (All-contains (λ (arc : GraphArc). (arc.from < n) × (arc.to < n)) arcs m.item nodes m.within))

pub ports_within_as : (n : ℕ) (network : List Bool) (ports nodes nodes2 : List ℕ) → 2 * length network ≡ n → All (λ port. port < length network) ports
    → nodes ≡ flat_map (port_nodes network) ports → nodes2 ≡ nodes → All (λ node. node < n) nodes2
ports_within_as n network ports nodes nodes2 long within e f =
    subst (λ (ns : List ℕ). All (λ node. node < n) ns) (sym (f ∙ e))
    (λ k d low.
    let r = in_flat_map_back (port_nodes network) ports (get_or (flat_map (port_nodes network) ports) k d) (Contains-get_or (flat_map (port_nodes network) ports) k d low) in
    by r.item (get_or (flat_map (port_nodes network) ports) k d) (All-contains (λ (port : ℕ). port < length network) ports r.item within r.within) (marked network r.item) r.inside)
  where
    by : (q node : ℕ) → q < length network → (b : Bool) → Contains (if b then node_number q Rise ∷ node_number q Fall ∷ [] else []) node → node < n
    by q node low false c = absurd (none_in node c)
    by q node low true c = elim (in_cases (node_number q Rise) (node_number q Fall ∷ []) node c) [
      | inl e ↦ omega arith
      | inr d ↦ elim (in_cases (node_number q Fall) [] node d) [ inl e ↦ omega arith | inr none ↦ absurd (none_in node none) ]
    ]

pub ordered_within_as : (n : ℕ) (marks : List Bool) (levels : List ℕ) (nodes nodes2 : List AtLevel) → AreOrdered n marks levels nodes → nodes2 ≡ nodes
    → All (λ at. at.node < n) nodes2 × (length nodes2 ≤ n)
ordered_within_as n marks levels nodes nodes2 are e = (
  subst (λ (ns : List AtLevel). All (λ at. at.node < n) ns) (sym e) (ordered_within n marks levels nodes are),
  subst (λ (ns : List AtLevel). length ns ≤ n) (sym e) (ordered_few n marks levels nodes are),
)

pub placed_as : (n : ℕ) (network : List Bool) (ports : List ℕ) (arcs : List GraphArc) (levels : List ℕ) (marks marks2 : List Bool) (nodes nodes2 : List AtLevel) (places : List (Option ℕ))
    → AreClocked n network ports arcs marks → marks2 ≡ marks → AreOrdered n marks2 levels nodes → nodes2 ≡ nodes
    → AreInPlace n nodes2 (length nodes2) places → ArePlaced n network ports arcs levels places
placed_as n network ports arcs levels marks marks2 nodes nodes2 places clocked f are g p = record {
  marks = marks;
  clocked = clocked;
  nodes = nodes;
  ordered = subst (λ (ms : List Bool). AreOrdered n ms levels nodes) f are;
  placed = subst (λ (ns : List AtLevel). AreInPlace n ns (length ns) places) g p;
}
