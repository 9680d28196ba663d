-- The arcs into a node are those of the links into its pin.

use Rattle.std.proofs.Common.{◌≡◌, ℕ, zero, suc, ◌+◌, ◌<◌, ◌≤◌, ◌==◌, Bool, true, false, List, [], ◌∷◌, ◌++◌, filter, length, get_or, Option, None, Some, refl, sym, ap, subst, ◌∙◌, inl, inr, arith}
use Rattle.std.specs.Prelude.{◌&&◌, option_and_then, if◌then◌else◌, Contains, All, IfSome}
use Rattle.std.specs.List.{cons_option, filter_map, flat_map, range_with_len}
use Rattle.std.specs.Option.{option_map_or, option_to_list}
use Rattle.std.proofs.lemmas.Bool.{cases_Bool, cases_eq, eq-eqb, ne_eqb}
use Rattle.std.proofs.lemmas.Option.{cond_some}
use Rattle.std.proofs.lemmas.List.{append-nil}
use Rattle.std.proofs.lemmas.List.Concat.{flat_map-append}
use Rattle.std.proofs.lemmas.List.Elements.{filter-append, Contains-append_cases, Contains-get_or}
use Rattle.timing_defs.specs.declared.kinds.Tran.{Tran}
use Rattle.timing_defs.specs.declared.kinds.Tran.TheVariants.{Rise, Fall}
use Rattle.netlist_store.specs.Linked.{IsLinked}
use Rattle.netlist_store.specs.Numbering.{Stored, IsNumbered}
use Rattle.pin_graph.specs.declared.arcs.GraphArc.{GraphArc}
use Rattle.pin_graph.specs.declared.pin_arcs.PinArc.{PinArc}
use Rattle.pin_graph.specs.Joins.{before, pin_arcs}
use Rattle.pin_graph.specs.Nodes.{node_number, pin_under, node_bound}
use Rattle.pin_graph.specs.NodeArcs.{may_enter, stands, node_arc, standing_arc, net_arc, net_pair, net_arcs_into, raw_into}
use Rattle.pin_graph.specs.Pulls.{arcs_into}
use Rattle.pin_graph.specs.Relinking.{driven_arc, standing_into, pulled}
use Rattle.pin_graph.proofs.ArcLaws.{numbers_more}
use Rattle.pin_graph.proofs.GraphOf.{before_low}
use Rattle.pin_graph.proofs.JoinLaws.{placed_back}
use Rattle.timing_defs.proofs.Members.{none_in, in_cases, in_filter_map_back, kept_in}
use Rattle.pin_graph.proofs.NodeLaws.{under_number}

-- lists of which one alone passes a test
module _ {Y : Type 0} (f : ℕ → List Y) (p : Y → Bool) (at : ℕ) (others : (q : ℕ) → (q ≡ at → ⊥) → filter p (f q) ≡ []) where
  one_more : (n : ℕ) → filter p (flat_map f (range_with_len 0 (n + 1))) ≡ filter p (flat_map f (range_with_len 0 n)) ++ filter p (f n)
  one_more n =
      ap (λ xs. filter p (flat_map f xs)) (numbers_more n) ∙ ap (filter p) (flat_map-append f (range_with_len 0 n) (n ∷ []))
      ∙ filter-append p (flat_map f (range_with_len 0 n)) (f n ++ []) ∙ ap (λ xs. filter p (flat_map f (range_with_len 0 n)) ++ filter p xs) (append-nil (f n))

  none_yet : (n : ℕ) → n ≤ at → filter p (flat_map f (range_with_len 0 n)) ≡ []
  none_yet zero low = refl
  none_yet (suc n) low =
      let e : suc n ≡ n + 1 = omega arith in
      ap (λ k. filter p (flat_map f (range_with_len 0 k))) e ∙ one_more n ∙ ap (λ xs. xs ++ filter p (f n)) (none_yet n (omega arith)) ∙ others n (λ same. omega arith)

  pub one_alone : (n : ℕ) → at < n → filter p (flat_map f (range_with_len 0 n)) ≡ filter p (f at)
  one_alone zero low = absurd (omega arith)
  one_alone (suc n) low =
      let e : suc n ≡ n + 1 = omega arith in
      ap (λ k. filter p (flat_map f (range_with_len 0 k))) e ∙ one_more n ∙ elim (cases_eq n at) [
        | inl same ↦ ap (λ xs. xs ++ filter p (f n)) (none_yet n (omega arith)) ∙ ap (λ k. filter p (f k)) same
        | inr other ↦ ap (λ xs. filter p (flat_map f (range_with_len 0 n)) ++ xs) (others n other) ∙ append-nil (filter p (flat_map f (range_with_len 0 n))) ∙ one_alone n (omega arith)
      ]

-- what passes after a step is found of what passes before
module _ {X Y : Type 0} (h g : X → Option Y) (p : Y → Bool) (q : X → Bool)
    (same : (x : X) → filter p (option_to_list (h x)) ≡ (if q x then option_to_list (g x) else [])) where
  cons_is : {Z : Type 0} (o : Option Z) (zs : List Z) → cons_option o zs ≡ option_to_list o ++ zs
  cons_is None zs = refl
  cons_is (Some z) zs = refl

  split : (x : X) (xs : List X) → filter p (filter_map h (x ∷ xs)) ≡ filter p (option_to_list (h x)) ++ filter p (filter_map h xs)
  split x xs = ap (filter p) (cons_is (h x) (filter_map h xs)) ∙ filter-append p (option_to_list (h x)) (filter_map h xs)

  pub passing : (xs : List X) → filter p (filter_map h xs) ≡ filter_map g (filter q xs)
  passing [] = refl
  passing (x ∷ xs) = elim (cases_Bool (q x)) [
    | inl e ↦
        split x xs ∙ (λ k. (same x ∙ ap (λ b. if b then option_to_list (g x) else []) e) k ++ passing xs k)
        ∙ sym (cons_is (g x) (filter_map g (filter q xs))) ∙ sym (rw e refl)
    | inr e ↦
        split x xs ∙ (λ k. (same x ∙ ap (λ b. if b then option_to_list (g x) else []) e) k ++ passing xs k) ∙ sym (rw e refl)
  ]

-- the net arcs into a pin
number_of_under : (q pin : ℕ) (t u : Tran) → node_number q t ≡ node_number pin u → q ≡ pin
number_of_under q pin t u e = sym (under_number q t) ∙ ap pin_under e ∙ under_number pin u

tran_apart : (pin : ℕ) → node_number pin Rise ≡ node_number pin Fall → ⊥
tran_apart pin e = omega arith

module _ (s : Stored) (network : List Bool) (pin : ℕ) (tran : Tran) where
  abbrev here : ℕ
  here = node_number pin tran

  abbrev leads_here : GraphArc → Bool
  leads_here arc = arc.to == here

  pair_is : (from : ℕ) → filter leads_here (net_pair network pin from) ≡ option_to_list (driven_arc network pin tran from)
  pair_is from = by tran (may_enter network from pin)
    where
      by : (t : Tran) (b : Bool)
          → filter (λ (arc : GraphArc). arc.to == node_number pin t)
          (if b then net_arc (node_number from Rise) (node_number pin Rise) ∷ net_arc (node_number from Fall) (node_number pin Fall) ∷ [] else [])
          ≡ option_to_list (if b then Some (net_arc (node_number from t) (node_number pin t)) else None)
      by t false = refl
      by Rise true = rw (eq-eqb (node_number pin Rise) (node_number pin Rise) refl, ne_eqb (node_number pin Fall) (node_number pin Rise) (λ e. tran_apart pin (sym e))) refl
      by Fall true = rw (eq-eqb (node_number pin Fall) (node_number pin Fall) refl, ne_eqb (node_number pin Rise) (node_number pin Fall) (λ e. tran_apart pin e)) refl

  pair_other : (q from : ℕ) → (q ≡ pin → ⊥) → filter leads_here (net_pair network q from) ≡ []
  pair_other q from other = by (may_enter network from q)
    where
      by : (b : Bool) → filter leads_here (if b then net_arc (node_number from Rise) (node_number q Rise) ∷ net_arc (node_number from Fall) (node_number q Fall) ∷ [] else []) ≡ []
      by false = refl
      by true =
          rw (ne_eqb (node_number q Rise) here (λ e. other (number_of_under q pin Rise tran e)), ne_eqb (node_number q Fall) here (λ e. other (number_of_under q pin Fall tran e))) refl

  net_others : (q : ℕ) → (q ≡ pin → ⊥) → filter leads_here (net_arcs_into s network q) ≡ []
  net_others q other = by (before s q)
    where
      by : (o : Option ℕ) → filter leads_here (option_map_or (net_pair network q) o []) ≡ []
      by None = refl
      by (Some from) = pair_other q from other

  net_is : filter leads_here (net_arcs_into s network pin) ≡ option_to_list (option_and_then (driven_arc network pin tran) (before s pin))
  net_is = by (before s pin)
    where
      by : (o : Option ℕ) → filter leads_here (option_map_or (net_pair network pin) o []) ≡ option_to_list (option_and_then (driven_arc network pin tran) o)
      by None = refl
      by (Some from) = pair_is from

  library_is : (arc : PinArc) → filter leads_here (option_to_list (standing_arc network arc)) ≡ (if arc.to == pin then option_to_list (standing_into network here arc) else [])
  library_is arc = by (stands network arc && may_enter network arc.from arc.to)
    where
      by : (b : Bool) → filter leads_here (option_to_list (if b then Some (node_arc arc) else None))
          ≡ (if arc.to == pin then option_to_list (if node_number arc.to arc.to_tran == here then (if b then Some (node_arc arc) else None) else None) else [])
      by b = elim (cases_eq (node_number arc.to arc.to_tran) here) [
        | inl same ↦ rw (eq-eqb arc.to pin (number_of_under arc.to pin arc.to_tran tran same), eq-eqb (node_number arc.to arc.to_tran) here same) (found b same)
        | inr other ↦ rw (ne_eqb (node_number arc.to arc.to_tran) here other) (lost b other (arc.to == pin))
      ]
        where
          found : (b : Bool) → node_number arc.to arc.to_tran ≡ here → filter leads_here (option_to_list (if b then Some (node_arc arc) else None)) ≡ option_to_list (if b then Some (node_arc arc) else None)
          found true same = rw (eq-eqb (node_number arc.to arc.to_tran) here same) refl
          found false same = refl

          lost : (b : Bool) → (node_number arc.to arc.to_tran ≡ here → ⊥) → (c : Bool) → filter leads_here (option_to_list (if b then Some (node_arc arc) else None)) ≡ (if c then [] else [])
          lost true other true = rw (ne_eqb (node_number arc.to arc.to_tran) here other) refl
          lost true other false = rw (ne_eqb (node_number arc.to arc.to_tran) here other) refl
          lost false other true = refl
          lost false other false = refl

  pub raw_pulled : pin < length s.pins → raw_into s network here ≡ pulled network (before s pin) (arcs_into s pin) pin tran
  raw_pulled low =
      filter-append leads_here (flat_map (net_arcs_into s network) (range_with_len 0 (length s.pins))) (filter_map (standing_arc network) (pin_arcs s))
      ∙ (λ k. (one_alone (net_arcs_into s network) leads_here pin net_others (length s.pins) low ∙ net_is) k
      ++ passing (standing_arc network) (standing_into network here) leads_here (λ arc. arc.to == pin) library_is (pin_arcs s) k)

-- they lead from nodes that have numbers
module _ (s : Stored) (num : IsNumbered s) (linked : IsLinked s.design) (network : List Bool) (pin : ℕ) (tran : Tran) (low : pin < length s.pins) where
  number_low : (q : ℕ) (t : Tran) → q < length s.pins → node_number q t < node_bound s
  number_low q Rise below = omega arith
  number_low q Fall below = omega arith

  driven_low : (r : GraphArc) → Contains (option_to_list (option_and_then (driven_arc network pin tran) (before s pin))) r → r.from < node_bound s
  driven_low r c = by (before s pin) refl c
    where
      one : (from : ℕ) → from < length s.pins → (b : Bool) → Contains (option_to_list (if b then Some (net_arc (node_number from tran) (node_number pin tran)) else None)) r → r.from < node_bound s
      one from below false d = absurd (none_in r d)
      one from below true d = elim (in_cases (net_arc (node_number from tran) (node_number pin tran)) [] r d) [
        | inl same ↦ subst (λ (a : GraphArc). a.from < node_bound s) same (number_low from tran below)
        | inr none ↦ absurd (none_in r none)
      ]

      by : (o : Option ℕ) → before s pin ≡ o → Contains (option_to_list (option_and_then (driven_arc network pin tran) o)) r → r.from < node_bound s
      by None e d = absurd (none_in r d)
      by (Some from) e d = one from (before_low s num linked pin from e) (may_enter network from pin) d

  library_low : (r : GraphArc) → Contains (filter_map (standing_into network (node_number pin tran)) (arcs_into s pin)) r → r.from < node_bound s
  library_low r c =
      let m = in_filter_map_back (standing_into network (node_number pin tran)) (arcs_into s pin) r c in
      let a = kept_in (λ (arc : PinArc). arc.to == pin) (pin_arcs s) m.item m.within in
      let p = placed_back s num linked m.item a in
      let h = cond_some_or (node_number m.item.to m.item.to_tran == node_number pin tran) (standing_arc network m.item) r m.same in
      let g = cond_some (stands network m.item && may_enter network m.item.from m.item.to) (node_arc m.item) r h in
      subst (λ (x : GraphArc). x.from < node_bound s) g.1 (number_low m.item.from m.item.from_tran p.from_number.below)
    where
      cond_some_or : (b : Bool) (o : Option GraphArc) (x : GraphArc) → (if b then o else None) ≡ Some x → o ≡ Some x
      cond_some_or true o x e = e
      cond_some_or false o x e = absurd (cc)

  pub raw_from_low : (r : GraphArc) → Contains (raw_into s network (node_number pin tran)) r → r.from < node_bound s
  raw_from_low r c = elim (Contains-append_cases (option_to_list (option_and_then (driven_arc network pin tran) (before s pin)))
      (filter_map (standing_into network (node_number pin tran)) (arcs_into s pin)) r
      (subst (λ (xs : List GraphArc). Contains xs r) (raw_pulled s network pin tran low) c)) [
        | inl d ↦ driven_low r d
        | inr d ↦ library_low r d
      ]

  -- as the calls have it
  pub before_some : (o : Option ℕ) (n : ℕ) → o ≡ before s pin → n ≡ length s.pins → IfSome o (λ from. from < n)
  before_some None n e long = tt
  before_some (Some from) n e long = subst (λ (m : ℕ). from < m) (sym long) (before_low s num linked pin from (sym e))

  pub into_within : (marks : List Bool) (library : List PinArc) → length marks ≡ length s.pins → library ≡ arcs_into s pin
      → All (λ (arc : PinArc). (arc.from < length marks) × (arc.to < length marks)) library
  into_within marks library long is =
      subst (λ (xs : List PinArc). All (λ (arc : PinArc). (arc.from < length marks) × (arc.to < length marks)) xs) (sym is)
      (λ k d below.
      let a = get_or (arcs_into s pin) k d in
      let p = placed_back s num linked a (kept_in (λ (arc : PinArc). arc.to == pin) (pin_arcs s) a (Contains-get_or (arcs_into s pin) k d below)) in
      (subst (λ (n : ℕ). a.from < n) (sym long) p.from_number.below, subst (λ (n : ℕ). a.to < n) (sym long) p.to_number.below))

  pub pulled_as : (o : Option ℕ) (library : List PinArc) (raw raw2 : List GraphArc) → o ≡ before s pin → library ≡ arcs_into s pin → raw ≡ pulled network o library pin tran → raw2 ≡ raw
      → raw2 ≡ raw_into s network (node_number pin tran)
  pulled_as o library raw raw2 e f is same =
      same ∙ is ∙ (λ k. pulled network (e k) (f k) pin tran) ∙ sym (raw_pulled s network pin tran low)
