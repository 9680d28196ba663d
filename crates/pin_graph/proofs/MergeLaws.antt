-- One arc for all from the same node: an arc more is joined to the one that is there, or is added.

use Rattle.std.proofs.Common.{◌≡◌, ◌⊎◌, ℕ, zero, suc, ◌+◌, ◌<◌, ◌≤◌, ◌==◌, Bool, true, false, cond, List, [], ◌∷◌, ◌++◌, filter, length, get_or, set, take, None, Some, Result, Ok, Err, refl, sym, ap, subst, ◌∙◌, inl, inr, arith, lt-ltb}
use Rattle.std.specs.Prelude.{nat_eq, nat_lt, ◌&&◌, ◌||◌, if◌then◌else◌, Contains, All, count_by, OnOk}
use Rattle.std.specs.List.{list_any}
use Rattle.std.proofs.lemmas.Bool.{cases_eq, and_parts, and_from, or_left, or_right, eqb-true, ltb-true, eq-eqb, ne_eqb, false_from_ne_true}
use Rattle.std.proofs.lemmas.Cmp.{nat_eq_equiv}
use Rattle.std.proofs.lemmas.Option.{cond_some}
use Rattle.std.proofs.lemmas.List.{append-nil, length-set, length_push, get_or_default, get_or-set_same, get_or-set_other, get_or_push, get_or_append_left, take_more}
use Rattle.std.proofs.lemmas.List.Elements.{Contains-append_left, Contains-append_cases, Contains-push, Contains-push_cases, Contains-get_or, All-contains, filter-append}
use Rattle.std.proofs.lemmas.List.Folds.{list_any-append}
use Rattle.std.proofs.lemmas.List.Sums.{sum_by-append, sum_by-set, sum_by-cons}
use Rattle.pin_graph.specs.declared.arcs.GraphKind.{GraphKind}
use Rattle.pin_graph.specs.declared.arcs.GraphKind.TheVariants.{Net, Cell, Register}
use Rattle.pin_graph.specs.declared.arcs.GraphArc.{GraphArc}
use Rattle.pin_graph.specs.NodeArcs.{is_cell, has_comb_from, has_edge_from, joined_kind, joined_arc, none_arc, noted_place, IsAlike, AreJoined, AreMerged, AreNodes, AreNoted, IsJoinedTo}
use Rattle.timing_defs.proofs.Members.{none_in, first_in, later_in, passes_in, kept_in, any_in, any_back}

pub any_push : {X : Type 0} (p : X → Bool) (xs : List X) (x : X) → list_any p (xs ++ x ∷ []) ≡ (list_any p xs || p x)
any_push p xs x = list_any-append p xs (x ∷ []) ∙ ap (λ b. list_any p xs || b) (or_false (p x))
  where
    or_false : (b : Bool) → (b || false) ≡ b
    or_false true = refl
    or_false false = refl

count_push : {X : Type 0} (p : X → Bool) (xs : List X) (x : X) → count_by p (xs ++ x ∷ []) ≡ count_by p xs + cond (p x) 1 0
count_push p xs x =
    let e = sum_by-append (λ y. cond (p y) 1 0) xs (x ∷ []) in
    let f = sum_by-cons (λ y. cond (p y) 1 0) x [] in
    omega (arith, e, f)

count_none : {X : Type 0} (p : X → Bool) (xs : List X) → ((x : X) → Contains xs x → p x ≡ true → ⊥) → count_by p xs ≡ 0
count_none p [] h = refl
count_none p (x ∷ xs) h =
    let fails : p x ≡ false = false_from_ne_true (p x) (λ e. h x (0, omega arith, refl) e) in
    let nil : cond {A = ℕ} (p x) 1 0 ≡ 0 = rw fails refl in
    let more = count_none p xs (λ y c. let low = c.1 in h y (suc c.0, omega arith, c.2)) in
    omega (arith, sum_by-cons (λ y. cond (p y) 1 0) x xs)

-- a place that is noted
module _ (arcs : List GraphArc) (places : List ℕ) (from : ℕ) where
  pub noted_some : (k : ℕ) → noted_place arcs places from ≡ Some k → (k < length arcs) × ((get_or arcs k none_arc).from ≡ from)
  noted_some k e =
      let at = get_or places from 0 in
      let h = cond_some (nat_lt at (length arcs) && nat_eq (get_or arcs at none_arc).from from) at k e in
      let parts = and_parts (nat_lt at (length arcs)) (nat_eq (get_or arcs at none_arc).from from) h.0 in
      let low : at < length arcs = below at (length arcs) parts.0 in
      (subst (λ (j : ℕ). j < length arcs) h.1 low, subst (λ (j : ℕ). (get_or arcs j none_arc).from ≡ from) h.1 (eqb-true (get_or arcs at none_arc).from from parts.1))
    where
      below : (a b : ℕ) → nat_lt a b ≡ true → a < b
      below a b e = ltb-true a b e

  pub noted_none : AreNoted arcs places → noted_place arcs places from ≡ None → (arc : GraphArc) → Contains arcs arc → arc.from ≡ from → ⊥
  noted_none noted e arc c is =
      let low = c.1 in
      let here : get_or arcs c.0 none_arc ≡ arc = get_or_default arcs c.0 none_arc arc low ∙ c.2 in
      let at : get_or places from 0 ≡ c.0 = ap (λ n. get_or places n 0) (sym (ap (λ (a : GraphArc). a.from) here ∙ is)) ∙ noted c.0 low in
      let passes : (nat_lt (get_or places from 0) (length arcs) && nat_eq (get_or arcs (get_or places from 0) none_arc).from from) ≡ true =
      and_from (nat_lt (get_or places from 0) (length arcs)) (nat_eq (get_or arcs (get_or places from 0) none_arc).from from)
      (ap (λ n. nat_lt n (length arcs)) at ∙ lt-ltb c.0 (length arcs) low)
      (eq-eqb (get_or arcs (get_or places from 0) none_arc).from from (ap (λ n. (get_or arcs n none_arc).from) at ∙ ap (λ (a : GraphArc). a.from) here ∙ is)) in
      let some : noted_place arcs places from ≡ Some (get_or places from 0) = ap (λ b. if b then Some (get_or places from 0) else None) passes in
      let clash : None ≡ Some (get_or places from 0) = sym e ∙ some in
      absurd (cc)

-- an arc is added
module _ (xs arcs : List GraphArc) (arc : GraphArc) (apart : (one : GraphArc) → Contains arcs one → one.from ≡ arc.from → ⊥) (had : AreJoined xs arcs) where
  none_from : (x : GraphArc) → Contains xs x → x.from ≡ arc.from → ⊥
  none_from x c e =
      let r = any_back (λ (one : GraphArc). nat_eq one.from x.from) arcs (had.all x c) in
      apart r.item r.within (eqb-true r.item.from x.from r.passes ∙ e)

  no_comb : has_comb_from xs arc.from ≡ false
  no_comb = false_from_ne_true (has_comb_from xs arc.from) (λ e.
      let r = any_back (λ (x : GraphArc). nat_eq x.from arc.from && is_cell x.kind) xs e in
      none_from r.item r.within (eqb-true r.item.from arc.from (and_parts (nat_eq r.item.from arc.from) (is_cell r.item.kind) r.passes).0))

  no_edge : has_edge_from xs arc.from ≡ false
  no_edge = false_from_ne_true (has_edge_from xs arc.from) (λ e.
      let r = any_back (λ (x : GraphArc). nat_eq x.from arc.from && x.edge) xs e in
      none_from r.item r.within (eqb-true r.item.from arc.from (and_parts (nat_eq r.item.from arc.from) r.item.edge r.passes).0))

  kept_apart : (one : GraphArc) → Contains arcs one → nat_eq arc.from one.from ≡ false
  kept_apart one c = ne_eqb arc.from one.from (λ e. apart one c (sym e))

  pub added : AreJoined (xs ++ arc ∷ []) (arcs ++ arc ∷ [])
  added = record {
    sound = λ y c. elim (Contains-push_cases arcs arc y c) [
      | inl d ↦ let a = had.sound y d in record { item = a.item; within = Contains-append_left xs (arc ∷ []) a.item a.within; from = a.from; kind = a.kind }
      | inr e ↦ record { item = arc; within = Contains-push xs arc; from = ap (λ (a : GraphArc). a.from) e; kind = ap (λ (a : GraphArc). a.kind) e }
    ];
    cell = λ y c. elim (Contains-push_cases arcs arc y c) [
      | inl d ↦
          had.cell y d ∙ sym (or_none (has_comb_from xs y.from) (is_cell arc.kind))
          ∙ ap (λ b. has_comb_from xs y.from || (b && is_cell arc.kind)) (sym (kept_apart y d))
          ∙ sym (any_push (λ (x : GraphArc). nat_eq x.from y.from && is_cell x.kind) xs arc)
      | inr e ↦
          subst (λ (a : GraphArc). is_cell a.kind ≡ has_comb_from (xs ++ arc ∷ []) a.from) e
          (sym (any_push (λ (x : GraphArc). nat_eq x.from arc.from && is_cell x.kind) xs arc
          ∙ ap (λ b. b || (nat_eq arc.from arc.from && is_cell arc.kind)) no_comb
          ∙ ap (λ b. b && is_cell arc.kind) (nat_eq_equiv.refl arc.from)))
    ];
    edge = λ y c. elim (Contains-push_cases arcs arc y c) [
      | inl d ↦
          had.edge y d ∙ sym (or_none (has_edge_from xs y.from) arc.edge)
          ∙ ap (λ b. has_edge_from xs y.from || (b && arc.edge)) (sym (kept_apart y d))
          ∙ sym (any_push (λ (x : GraphArc). nat_eq x.from y.from && x.edge) xs arc)
      | inr e ↦
          subst (λ (a : GraphArc). a.edge ≡ has_edge_from (xs ++ arc ∷ []) a.from) e
          (sym (any_push (λ (x : GraphArc). nat_eq x.from arc.from && x.edge) xs arc
          ∙ ap (λ b. b || (nat_eq arc.from arc.from && arc.edge)) no_edge
          ∙ ap (λ b. b && arc.edge) (nat_eq_equiv.refl arc.from)))
    ];
    all = λ x c. any_push (λ (one : GraphArc). nat_eq one.from x.from) arcs arc ∙ elim (Contains-push_cases xs arc x c) [
      | inl d ↦ or_left (list_any (λ (one : GraphArc). nat_eq one.from x.from) arcs) (nat_eq arc.from x.from) (had.all x d)
      | inr e ↦ or_right (list_any (λ (one : GraphArc). nat_eq one.from x.from) arcs) (nat_eq arc.from x.from) (eq-eqb arc.from x.from (ap (λ (a : GraphArc). a.from) e))
    ];
    once = λ from. elim (cases_eq arc.from from) [
      | inl same ↦
          let none = count_none (λ (one : GraphArc). nat_eq one.from from) arcs (λ one c e. apart one c (eqb-true one.from from e ∙ sym same)) in
          let one : cond {A = ℕ} (nat_eq arc.from from) 1 0 ≡ 1 = rw (eq-eqb arc.from from same) refl in
          omega (arith, count_push (λ (one : GraphArc). nat_eq one.from from) arcs arc)
      | inr other ↦
          let few = had.once from in
          let nil : cond {A = ℕ} (nat_eq arc.from from) 1 0 ≡ 0 = rw (ne_eqb arc.from from other) refl in
          omega (arith, count_push (λ (one : GraphArc). nat_eq one.from from) arcs arc)
    ];
    to = λ node all y c. elim (Contains-push_cases arcs arc y c) [
      | inl d ↦ had.to node (λ x q. all x (Contains-append_left xs (arc ∷ []) x q)) y d
      | inr e ↦ ap (λ (a : GraphArc). a.to) (sym e) ∙ all arc (Contains-push xs arc)
    ];
  }
    where
      or_none : (b c : Bool) → (b || (false && c)) ≡ b
      or_none true c = refl
      or_none false c = refl

-- an arc is joined to one from the same node
member_set : (arcs : List GraphArc) (k : ℕ) (v y : GraphArc) → k < length arcs → Contains (set arcs k v) y
    → (v ≡ y) ⊎ ((j : ℕ) × (j < length arcs) × (j ≡ k → ⊥) × (get_or arcs j y ≡ y))
member_set arcs k v y low c =
    let long = length-set arcs k v in
    let within = c.1 in
    elim (cases_eq c.0 k) [
      | inl same ↦ inl (sym (get_or-set_same arcs k v y low) ∙ ap (λ n. get_or (set arcs k v) n y) (sym same) ∙ c.2)
      | inr other ↦ inr (c.0, omega arith, other, sym (get_or-set_other arcs k c.0 v y other) ∙ c.2)
    ]

module _ (xs arcs : List GraphArc) (arc one : GraphArc) (k : ℕ) (low : k < length arcs) (here : get_or arcs k none_arc ≡ one)
    (from : one.from ≡ arc.from) (alone : (j : ℕ) → j < length arcs → (j ≡ k → ⊥) → (get_or arcs j none_arc).from ≡ (get_or arcs k none_arc).from → ⊥)
    (had : AreJoined xs arcs) where
  one_in : Contains arcs one
  one_in = (k, low, get_or_default arcs k one none_arc low ∙ here)

  others : (y : GraphArc) (j : ℕ) → j < length arcs → (j ≡ k → ⊥) → get_or arcs j y ≡ y → nat_eq arc.from y.from ≡ false
  others y j within other at =
      let there : get_or arcs j none_arc ≡ y = get_or_default arcs j none_arc y within ∙ at in
      ne_eqb arc.from y.from (λ e.
      let froms : (get_or arcs j none_arc).from ≡ (get_or arcs k none_arc).from =
      ap (λ (a : GraphArc). a.from) there ∙ sym e ∙ sym from ∙ sym (ap (λ (a : GraphArc). a.from) here) in
      alone j within other froms)

  kind_or : (a b : GraphKind) → is_cell (joined_kind a b) ≡ (is_cell a || is_cell b)
  kind_or Net Net = refl
  kind_or Net Cell = refl
  kind_or Net Register = refl
  kind_or Cell Net = refl
  kind_or Cell Cell = refl
  kind_or Cell Register = refl
  kind_or Register Net = refl
  kind_or Register Cell = refl
  kind_or Register Register = refl

  kind_like : (a b : GraphKind) → (joined_kind a b ≡ a) ⊎ (joined_kind a b ≡ b)
  kind_like a Net = inl refl
  kind_like a Cell = inr refl
  kind_like a Register = inl refl

  or_none : (b c : Bool) → (b || (false && c)) ≡ b
  or_none true c = refl
  or_none false c = refl

  alike : IsAlike (xs ++ arc ∷ []) (joined_arc one arc)
  alike = elim (kind_like one.kind arc.kind) [
    | inl e ↦
        let a = had.sound one one_in in
        record { item = a.item; within = Contains-append_left xs (arc ∷ []) a.item a.within; from = a.from; kind = a.kind ∙ sym e }
    | inr e ↦ record { item = arc; within = Contains-push xs arc; from = sym from; kind = sym e }
  ]

  pub joined_in : AreJoined (xs ++ arc ∷ []) (set arcs k (joined_arc one arc))
  joined_in = record {
    sound = λ y c. elim (member_set arcs k (joined_arc one arc) y low c) [
      | inl e ↦ subst (λ (a : GraphArc). IsAlike (xs ++ arc ∷ []) a) e alike
      | inr d ↦ let a = had.sound y (d.0, d.1, d.3) in record { item = a.item; within = Contains-append_left xs (arc ∷ []) a.item a.within; from = a.from; kind = a.kind }
    ];
    cell = λ y c. elim (member_set arcs k (joined_arc one arc) y low c) [
      | inl e ↦
          subst (λ (a : GraphArc). is_cell a.kind ≡ has_comb_from (xs ++ arc ∷ []) a.from) e
          (kind_or one.kind arc.kind ∙ ap (λ b. b || is_cell arc.kind) (had.cell one one_in)
          ∙ ap (λ b. has_comb_from xs one.from || (b && is_cell arc.kind)) (sym (eq-eqb arc.from one.from (sym from)))
          ∙ sym (any_push (λ (x : GraphArc). nat_eq x.from one.from && is_cell x.kind) xs arc))
      | inr d ↦
          had.cell y (d.0, d.1, d.3) ∙ sym (or_none (has_comb_from xs y.from) (is_cell arc.kind))
          ∙ ap (λ b. has_comb_from xs y.from || (b && is_cell arc.kind)) (sym (others y d.0 d.1 d.2 d.3))
          ∙ sym (any_push (λ (x : GraphArc). nat_eq x.from y.from && is_cell x.kind) xs arc)
    ];
    edge = λ y c. elim (member_set arcs k (joined_arc one arc) y low c) [
      | inl e ↦
          subst (λ (a : GraphArc). a.edge ≡ has_edge_from (xs ++ arc ∷ []) a.from) e
          (ap (λ b. b || arc.edge) (had.edge one one_in)
          ∙ ap (λ b. has_edge_from xs one.from || (b && arc.edge)) (sym (eq-eqb arc.from one.from (sym from)))
          ∙ sym (any_push (λ (x : GraphArc). nat_eq x.from one.from && x.edge) xs arc))
      | inr d ↦
          had.edge y (d.0, d.1, d.3) ∙ sym (or_none (has_edge_from xs y.from) arc.edge)
          ∙ ap (λ b. has_edge_from xs y.from || (b && arc.edge)) (sym (others y d.0 d.1 d.2 d.3))
          ∙ sym (any_push (λ (x : GraphArc). nat_eq x.from y.from && x.edge) xs arc)
    ];
    all = λ x c. elim (Contains-push_cases xs arc x c) [
      | inl d ↦ still x (had.all x d)
      | inr e ↦ still x (any_in (λ (a : GraphArc). nat_eq a.from x.from) arcs one one_in (eq-eqb one.from x.from (from ∙ ap (λ (a : GraphArc). a.from) e)))
    ];
    once = λ f.
        let few = had.once f in
        let same : cond {A = ℕ} (nat_eq (get_or arcs k none_arc).from f) 1 0 ≡ cond (nat_eq one.from f) 1 0 = ap (λ (a : GraphArc). cond {A = ℕ} (nat_eq a.from f) 1 0) here in
        omega (arith, sum_by-set (λ (a : GraphArc). cond {A = ℕ} (nat_eq a.from f) 1 0) arcs k (joined_arc one arc) none_arc low);
    to = λ node all y c.
        let before = had.to node (λ x q. all x (Contains-append_left xs (arc ∷ []) x q)) in
        elim (member_set arcs k (joined_arc one arc) y low c) [
          | inl e ↦ ap (λ (a : GraphArc). a.to) (sym e) ∙ before one one_in
          | inr d ↦ before y (d.0, d.1, d.3)
        ];
  }
    where
      still : (x : GraphArc) → list_any (λ (a : GraphArc). nat_eq a.from x.from) arcs ≡ true → list_any (λ (a : GraphArc). nat_eq a.from x.from) (set arcs k (joined_arc one arc)) ≡ true
      still x e =
          let r = any_back (λ (a : GraphArc). nat_eq a.from x.from) arcs e in
          let at = r.within in
          let within = at.1 in
          let long = length-set arcs k (joined_arc one arc) in
          elim (cases_eq at.0 k) [
            | inl same ↦
                let is : one ≡ r.item = sym here ∙ ap (λ n. get_or arcs n none_arc) (sym same) ∙ get_or_default arcs at.0 none_arc r.item within ∙ at.2 in
                any_in (λ (a : GraphArc). nat_eq a.from x.from) (set arcs k (joined_arc one arc)) (joined_arc one arc)
                (k, omega arith, get_or-set_same arcs k (joined_arc one arc) (joined_arc one arc) low)
                (ap (λ (a : GraphArc). nat_eq a.from x.from) is ∙ r.passes)
            | inr other ↦
                any_in (λ (a : GraphArc). nat_eq a.from x.from) (set arcs k (joined_arc one arc)) r.item
                (at.0, omega arith, get_or-set_other arcs k at.0 (joined_arc one arc) r.item other ∙ at.2) r.passes
          ]

-- what is noted when an arc is added, and when one is joined
pub noted_added : (arcs : List GraphArc) (places : List ℕ) (arc : GraphArc) → arc.from < length places → AreNoted arcs places
    → ((one : GraphArc) → Contains arcs one → one.from ≡ arc.from → ⊥) → AreNoted (arcs ++ arc ∷ []) (set places arc.from (length arcs))
noted_added arcs places arc within noted apart k low =
    elim (cases_eq k (length arcs)) [
      | inl same ↦
          let here : get_or (arcs ++ arc ∷ []) k none_arc ≡ arc = get_or_push arcs arc none_arc k (sym same) in
          ap (λ (a : GraphArc). get_or (set places arc.from (length arcs)) a.from 0) here ∙ get_or-set_same places arc.from (length arcs) 0 within ∙ sym same
      | inr other ↦
          let long = length_push arcs arc in
          let inside : k < length arcs = omega arith in
          let here : get_or (arcs ++ arc ∷ []) k none_arc ≡ get_or arcs k none_arc = get_or_append_left arcs (arc ∷ []) none_arc k inside in
          ap (λ (a : GraphArc). get_or (set places arc.from (length arcs)) a.from 0) here
          ∙ get_or-set_other places arc.from (get_or arcs k none_arc).from (length arcs) 0 (apart (get_or arcs k none_arc) (Contains-get_or arcs k none_arc inside))
          ∙ noted k inside
    ]

pub noted_joined : (arcs : List GraphArc) (places : List ℕ) (k : ℕ) (v : GraphArc) → k < length arcs → v.from ≡ (get_or arcs k none_arc).from → AreNoted arcs places
    → AreNoted (set arcs k v) places
noted_joined arcs places k v within same noted j low =
    let long = length-set arcs k v in
    elim (cases_eq j k) [
      | inl here ↦
          ap (λ (n : ℕ). get_or places (get_or (set arcs k v) n none_arc).from 0) here
          ∙ ap (λ (a : GraphArc). get_or places a.from 0) (get_or-set_same arcs k v none_arc within)
          ∙ ap (λ n. get_or places n 0) same ∙ noted k within ∙ sym here
      | inr other ↦ ap (λ (a : GraphArc). get_or places a.from 0) (get_or-set_other arcs k j v none_arc other) ∙ noted j (omega arith)
    ]

pub none_joined : AreJoined [] []
none_joined = record {
  sound = λ y c. absurd (none_in y c);
  cell = λ y c. absurd (none_in y c);
  edge = λ y c. absurd (none_in y c);
  all = λ x c. absurd (none_in x c);
  once = λ f. omega arith;
  to = λ node all y c. absurd (none_in y c);
}

-- node after node
pub filter_all : {X : Type 0} (p : X → Bool) (xs : List X) → ((x : X) → Contains xs x → p x ≡ true) → filter p xs ≡ xs
filter_all p [] h = refl
filter_all p (x ∷ xs) h = rw (h x (first_in x xs)) (ap (λ ys. x ∷ ys) (filter_all p xs (λ y c. h y (later_in x xs y c))))

filter_none : {X : Type 0} (p : X → Bool) (xs : List X) → ((x : X) → Contains xs x → p x ≡ false) → filter p xs ≡ []
filter_none p [] h = refl
filter_none p (x ∷ xs) h = rw (h x (first_in x xs)) (filter_none p xs (λ y c. h y (later_in x xs y c)))

-- the arcs into nodes below `i` are merged
pub record AreSoFar (n : ℕ) (raw : List GraphArc) (i : ℕ) (arcs : List GraphArc) : Type 0 where
  pub within : (arc : GraphArc) → Contains arcs arc → (arc.from < n) × (arc.to < i)
  pub each : (node : ℕ) → node < i → AreJoined (filter (λ arc. arc.to == node) raw) (filter (λ arc. arc.to == node) arcs)

pub so_far_none : (n : ℕ) (raw arcs : List GraphArc) → arcs ≡ [] → AreSoFar n raw 0 arcs
so_far_none n raw arcs e = rw e (record { within = λ a c. absurd (none_in a c); each = λ m l. absurd (omega arith) })

pub so_far_more : (n : ℕ) (raw : List GraphArc) (i : ℕ) (fan arcs arcs2 : List GraphArc) → AreNodes n raw → AreSoFar n raw i arcs
    → fan ≡ filter (λ arc. arc.to == i) raw → IsJoinedTo fan arcs arcs2 → AreSoFar n raw (i + 1) arcs2
so_far_more n raw i fan arcs arcs2 nodes had is put = record {
  within = λ a c. elim (Contains-append_cases arcs put.joined a (subst (λ (xs : List GraphArc). Contains xs a) put.put c)) [
    | inl d ↦ let w = had.within a d in (w.0, omega (arith, w.1))
    | inr d ↦
        let like = put.one_each.sound a d in
        let at = to_i a d in
        let raw_in : Contains raw like.item = kept_in (λ (x : GraphArc). x.to == i) raw like.item (subst (λ (xs : List GraphArc). Contains xs like.item) is like.within) in
        let low = All-contains (λ (x : GraphArc). (x.from < n) × (x.to < n)) raw like.item nodes raw_in in
        (subst (λ (m : ℕ). m < n) like.from low.0, omega arith)
  ];
  each = λ m low.
      rw put.put (rw (filter-append (λ (x : GraphArc). x.to == m) arcs put.joined) (by m low (cases_eq m i)));
}
  where
    to_i : (a : GraphArc) → Contains put.joined a → a.to ≡ i
    to_i a d =
        put.one_each.to i (λ x c. eqb-true x.to i (passes_in (λ (y : GraphArc). y.to == i) raw x (subst (λ (xs : List GraphArc). Contains xs x) is c))) a d

    by : (m : ℕ) → m < i + 1 → (m ≡ i) ⊎ (m ≡ i → ⊥)
        → AreJoined (filter (λ (x : GraphArc). x.to == m) raw) (filter (λ (x : GraphArc). x.to == m) arcs ++ filter (λ (x : GraphArc). x.to == m) put.joined)
    by m low (inl same) =
        let none : filter (λ (x : GraphArc). x.to == m) arcs ≡ [] =
        filter_none (λ (x : GraphArc). x.to == m) arcs (λ x c. let w = had.within x c in ne_eqb x.to m (λ e. let f = w.1 in absurd (omega arith))) in
        let all : filter (λ (x : GraphArc). x.to == m) put.joined ≡ put.joined =
        filter_all (λ (x : GraphArc). x.to == m) put.joined (λ x c. eq-eqb x.to m (to_i x c ∙ sym same)) in
        rw (none, all) (subst (λ (xs : List GraphArc). AreJoined xs put.joined) (is ∙ ap (λ k. filter (λ (x : GraphArc). x.to == k) raw) (sym same)) put.one_each)
    by m low (inr other) =
        let none : filter (λ (x : GraphArc). x.to == m) put.joined ≡ [] =
        filter_none (λ (x : GraphArc). x.to == m) put.joined (λ x c. ne_eqb x.to m (λ e. other (sym e ∙ to_i x c))) in
        rw none (rw (append-nil (filter (λ (x : GraphArc). x.to == m) arcs)) (had.each m (omega arith)))

pub so_far_all : (n : ℕ) (raw arcs : List GraphArc) (i : ℕ) → AreSoFar n raw i arcs → i ≡ n → AreMerged n raw arcs
so_far_all n raw arcs i had e = record {
  nodes = λ k d low. let w = had.within (get_or arcs k d) (Contains-get_or arcs k d low) in (w.0, omega (arith, w.1));
  each = λ m low. had.each m (omega arith);
}

-- as the calls have it
pub ok_map : {X E : Type 0} {P Q : Type 0} (r : Result X E) → (P → Q) → OnOk r P → OnOk r Q
ok_map (Ok x) f p = f p
ok_map (Err e) f p = tt

pub joined_at : (arcs read : List GraphArc) (places : List ℕ) (arc one made : GraphArc) (k : ℕ) → read ≡ arcs → Some k ≡ noted_place read places arc.from → AreNoted arcs places
    → (k < length arcs → get_or arcs k none_arc ≡ one) → made ≡ joined_arc one arc → (xs : List GraphArc) → AreJoined xs arcs → AreJoined (xs ++ arc ∷ []) (set arcs k made)
joined_at arcs read places arc one made k same e noted here is xs had =
    let h = noted_some arcs places arc.from k (ap (λ (rs : List GraphArc). noted_place rs places arc.from) (sym same) ∙ sym e) in
    let at = here h.0 in
    subst (λ (v : GraphArc). AreJoined (xs ++ arc ∷ []) (set arcs k v)) (sym is)
    (joined_in xs arcs arc one k h.0 at (ap (λ (a : GraphArc). a.from) (sym at) ∙ h.1)
    (λ j within other froms. other (sym (noted j within) ∙ ap (λ n. get_or places n 0) froms ∙ noted k h.0)) had)

pub added_at : (arcs arcs2 read : List GraphArc) (places : List ℕ) (arc : GraphArc) → read ≡ arcs → None ≡ noted_place read places arc.from → AreNoted arcs places
    → arcs2 ≡ arcs ++ arc ∷ [] → (xs : List GraphArc) → AreJoined xs arcs → AreJoined (xs ++ arc ∷ []) arcs2
added_at arcs arcs2 read places arc same e noted put xs had =
    subst (λ (rs : List GraphArc). AreJoined (xs ++ arc ∷ []) rs) (sym put)
    (added xs arcs arc (noted_none arcs places arc.from noted (ap (λ (rs : List GraphArc). noted_place rs places arc.from) (sym same) ∙ sym e)) had)

-- of few arcs, by the first one from the node
one_counted : {X : Type 0} (p : X → Bool) (xs : List X) (d : X) (k : ℕ) → k < length xs → p (get_or xs k d) ≡ true → 1 ≤ count_by p xs
one_counted p [] d k low e = absurd (omega arith)
one_counted p (x ∷ xs) d zero low e =
    let one : cond {A = ℕ} (p x) 1 0 ≡ 1 = rw e refl in
    omega (arith, sum_by-cons (λ y. cond (p y) 1 0) x xs)
one_counted p (x ∷ xs) d (suc k) low e =
    let more = one_counted p xs d k (omega arith) e in
    omega (arith, sum_by-cons (λ y. cond (p y) 1 0) x xs)

two_counted : {X : Type 0} (p : X → Bool) (xs : List X) (d : X) (j k : ℕ) → j < length xs → k < length xs → (j ≡ k → ⊥)
    → p (get_or xs j d) ≡ true → p (get_or xs k d) ≡ true → 2 ≤ count_by p xs
two_counted p [] d j k low low2 other e f = absurd (omega arith)
two_counted p (x ∷ xs) d zero zero low low2 other e f = absurd (other refl)
two_counted p (x ∷ xs) d zero (suc k) low low2 other e f =
    let one : cond {A = ℕ} (p x) 1 0 ≡ 1 = rw e refl in
    let more = one_counted p xs d k (omega arith) f in
    omega (arith, sum_by-cons (λ y. cond (p y) 1 0) x xs)
two_counted p (x ∷ xs) d (suc j) zero low low2 other e f =
    let one : cond {A = ℕ} (p x) 1 0 ≡ 1 = rw f refl in
    let more = one_counted p xs d j (omega arith) e in
    omega (arith, sum_by-cons (λ y. cond (p y) 1 0) x xs)
two_counted p (x ∷ xs) d (suc j) (suc k) low low2 other e f =
    let more = two_counted p xs d j k (omega arith) (omega arith) (λ same. other (ap suc same)) e f in
    omega (arith, sum_by-cons (λ y. cond (p y) 1 0) x xs)

pub joined_place : (arcs : List GraphArc) (arc one made : GraphArc) (k : ℕ) → (k < length arcs) × ((get_or arcs k none_arc).from ≡ arc.from)
    → get_or arcs k none_arc ≡ one → made ≡ joined_arc one arc → (xs : List GraphArc) → AreJoined xs arcs → AreJoined (xs ++ arc ∷ []) (set arcs k made)
joined_place arcs arc one made k h at is xs had =
    subst (λ (v : GraphArc). AreJoined (xs ++ arc ∷ []) (set arcs k v)) (sym is)
    (joined_in xs arcs arc one k h.0 at (ap (λ (a : GraphArc). a.from) (sym at) ∙ h.1)
    (λ j within other froms.
    let few = had.once arc.from in
    let two = two_counted (λ (a : GraphArc). nat_eq a.from arc.from) arcs none_arc j k within h.0 other
    (eq-eqb (get_or arcs j none_arc).from arc.from (froms ∙ h.1)) (eq-eqb (get_or arcs k none_arc).from arc.from h.1) in
    absurd (omega arith)) had)

pub added_place : (arcs arcs2 : List GraphArc) (arc : GraphArc) → ((k : ℕ) → k < length arcs → (get_or arcs k none_arc).from ≡ arc.from → ⊥)
    → arcs2 ≡ arcs ++ arc ∷ [] → (xs : List GraphArc) → AreJoined xs arcs → AreJoined (xs ++ arc ∷ []) arcs2
added_place arcs arcs2 arc none put xs had =
    subst (λ (rs : List GraphArc). AreJoined (xs ++ arc ∷ []) rs) (sym put)
    (added xs arcs arc (λ one c e. none c.0 c.1 (ap (λ (a : GraphArc). a.from) (get_or_default arcs c.0 none_arc one c.1 ∙ c.2) ∙ e)) had)

pub joined_more : (fan : List GraphArc) (i : ℕ) (d : GraphArc) (arcs arcs2 : List GraphArc) → i < length fan → AreJoined (take i fan) arcs
    → ((xs : List GraphArc) → AreJoined xs arcs → AreJoined (xs ++ get_or fan i d ∷ []) arcs2) → AreJoined (take (i + 1) fan) arcs2
joined_more fan i d arcs arcs2 low had more = subst (λ (xs : List GraphArc). AreJoined xs arcs2) (sym (take_more fan i d low)) (more (take i fan) had)

pub fan_low : (n : ℕ) (raw : List GraphArc) (node m : ℕ) (fan : List GraphArc) → AreNodes n raw → fan ≡ filter (λ arc. arc.to == node) raw → m ≡ n → All (λ arc. arc.from < m) fan
fan_low n raw node m fan nodes is long =
    subst (λ (xs : List GraphArc). All (λ arc. arc.from < m) xs) (sym is)
    (λ k d low.
    let a = get_or (filter (λ (arc : GraphArc). arc.to == node) raw) k d in
    let c = kept_in (λ (arc : GraphArc). arc.to == node) raw a (Contains-get_or (filter (λ (arc : GraphArc). arc.to == node) raw) k d low) in
    subst (λ (j : ℕ). a.from < j) (sym long) (All-contains (λ (arc : GraphArc). (arc.from < n) × (arc.to < n)) raw a nodes c).0)
