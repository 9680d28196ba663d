-- The arcs of nodes after the arcs into some of them were given anew.

use Rattle.std.proofs.Common.{◌≡◌, ℕ, ◌+◌, ◌<◌, ◌≤◌, ◌==◌, Bool, true, false, not, cond, List, [], ◌∷◌, ◌++◌, filter, length, get_or, take, refl, sym, ap, subst, ◌∙◌, inl, inr, arith}
use Rattle.std.specs.Prelude.{nat_eq, ◌&&◌, ◌||◌, if◌then◌else◌, Contains, All, count_by}
use Rattle.std.specs.List.{list_any}
use Rattle.std.proofs.lemmas.Bool.{cases_Bool, cases_eq, cases_lt, false≢true, eqb-true, eq-eqb, ne_eqb, not-true, or_cases, or_left, or_right}
use Rattle.std.proofs.lemmas.List.{append-nil, append_assoc, take_more, take_all, get_or_default}
use Rattle.std.proofs.lemmas.List.Elements.{All-contains, Contains-append_left, Contains-append_right, Contains-append_cases, Contains-get_or, filter-append}
use Rattle.std.proofs.lemmas.List.Folds.{list_any-append}
use Rattle.std.proofs.lemmas.List.Sums.{sum_by-append, sum_by-le-sum_by}
use Rattle.timing_defs.specs.declared.kinds.Tran.{Tran}
use Rattle.timing_defs.specs.declared.kinds.Tran.TheVariants.{Rise, Fall}
use Rattle.netlist_store.specs.Linked.{IsLinked}
use Rattle.netlist_store.specs.Numbering.{Stored, IsNumbered}
use Rattle.pin_graph.specs.declared.arcs.GraphArc.{GraphArc}
use Rattle.pin_graph.specs.declared.held_fans.Fans.{Fans}
use Rattle.pin_graph.specs.HeldFans.{with_list, longer}
use Rattle.pin_graph.specs.Graphs.{fan_at, IsFans}
use Rattle.pin_graph.specs.Kept.{AreTurned}
use Rattle.pin_graph.specs.Nodes.{node_number, pin_under, tran_under, node_bound}
use Rattle.pin_graph.specs.NodeArcs.{none_arc, node_arcs, raw_into, AreJoined}
use Rattle.pin_graph.specs.Relinking.{leads_elsewhere, AreTaken, ArePut, AreBothFans, IsPutNode, IsNodeRelinked, AreRelinked}
use Rattle.timing_defs.proofs.Members.{none_in, in_filter, passes_in, kept_in, any_in}
use Rattle.pin_graph.proofs.MergeLaws.{any_push, filter_all}
use Rattle.pin_graph.proofs.GraphLaws.{count_filter, counts_none}
use Rattle.pin_graph.proofs.HeldLaws.{set_same, set_other, set_fans, longer_old, longer_new, longer_fans}
use Rattle.pin_graph.proofs.NodeLaws.{under_number, number_again}
use Rattle.pin_graph.proofs.PulledLaws.{raw_from_low}

-- arcs are taken out, one after the other
pub none_taken : (n node : ℕ) (fans : Fans) → IsFans n fans → AreTaken n node [] fans fans
none_taken n node fans h = record { fans = h; each = λ m. refl }

module _ (n node : ℕ) (old : List GraphArc) (before mid : Fans) (a : GraphArc) (had : AreTaken n node old before mid) (low : a.from < n) where
  abbrev taken_list : List GraphArc
  taken_list = filter (leads_elsewhere node) (fan_at mid a.from)

  again : (b : Bool) (xs ys : List GraphArc) → xs ≡ (if b then filter (leads_elsewhere node) ys else ys) → filter (leads_elsewhere node) xs ≡ filter (leads_elsewhere node) ys
  again true xs ys e =
      ap (filter (leads_elsewhere node)) e ∙ filter_all (leads_elsewhere node) (filter (leads_elsewhere node) ys) (passes_in (leads_elsewhere node) ys)
  again false xs ys e = ap (filter (leads_elsewhere node)) e

  each_taken : (m : ℕ) → fan_at (with_list mid a.from taken_list) m
      ≡ (if list_any (λ arc. nat_eq arc.from m) (old ++ a ∷ []) then filter (leads_elsewhere node) (fan_at before m) else fan_at before m)
  each_taken m =
      let pushed = any_push (λ (arc : GraphArc). nat_eq arc.from m) old a in
      elim (cases_eq a.from m) [
        | inl same ↦
            let all : list_any (λ (arc : GraphArc). nat_eq arc.from m) (old ++ a ∷ []) ≡ true =
            pushed ∙ or_right (list_any (λ (arc : GraphArc). nat_eq arc.from m) old) (nat_eq a.from m) (eq-eqb a.from m same) in
            ap (fan_at (with_list mid a.from taken_list)) (sym same)
            ∙ set_same mid a.from taken_list (omega (arith, had.fans.count))
            ∙ ap (λ k. filter (leads_elsewhere node) (fan_at mid k)) same
            ∙ again (list_any (λ (arc : GraphArc). nat_eq arc.from m) old) (fan_at mid m) (fan_at before m) (had.each m)
            ∙ ap (λ b. if b then filter (leads_elsewhere node) (fan_at before m) else fan_at before m) (sym all)
        | inr other ↦
            let still : list_any (λ (arc : GraphArc). nat_eq arc.from m) (old ++ a ∷ []) ≡ list_any (λ (arc : GraphArc). nat_eq arc.from m) old =
            pushed ∙ ap (λ b. list_any (λ (arc : GraphArc). nat_eq arc.from m) old || b) (ne_eqb a.from m other) ∙ or_none (list_any (λ (arc : GraphArc). nat_eq arc.from m) old) in
            set_other mid a.from m taken_list (λ e. other (sym e)) ∙ had.each m
            ∙ ap (λ b. if b then filter (leads_elsewhere node) (fan_at before m) else fan_at before m) (sym still)
      ]
    where
      or_none : (b : Bool) → (b || false) ≡ b
      or_none true = refl
      or_none false = refl

  one_taken : AreTaken n node (old ++ a ∷ []) before (with_list mid a.from taken_list)
  one_taken = record { fans = set_fans n mid a.from taken_list had.fans low; each = each_taken }

-- as the loop has it
pub taken_more : (n node : ℕ) (old : List GraphArc) (i : ℕ) (d : GraphArc) (before mid after : Fans) → i < length old → AreTaken n node (take i old) before mid
    → (get_or old i d).from < n → after ≡ with_list mid (get_or old i d).from (filter (leads_elsewhere node) (fan_at mid (get_or old i d).from))
    → AreTaken n node (take (i + 1) old) before after
taken_more n node old i d before mid after low had within is =
    subst (λ (f : Fans). AreTaken n node (take (i + 1) old) before f) (sym is)
    (subst (λ (xs : List GraphArc). AreTaken n node xs before (with_list mid (get_or old i d).from (filter (leads_elsewhere node) (fan_at mid (get_or old i d).from)))) (sym (take_more old i d low))
    (one_taken n node (take i old) before mid (get_or old i d) had within))

pub taken_all : (n node : ℕ) (old : List GraphArc) (i : ℕ) (before after : Fans) → AreTaken n node (take i old) before after → length old ≤ i → AreTaken n node old before after
taken_all n node old i before after had done = subst (λ (xs : List GraphArc). AreTaken n node xs before after) (take_all i old done) had

-- arcs are put, one after the other
pub none_put : (n : ℕ) (fans : Fans) → IsFans n fans → ArePut n [] fans fans
none_put n fans h = record { fans = h; each = λ m. sym (append-nil (fan_at fans m)) }

module _ (n : ℕ) (new : List GraphArc) (before mid : Fans) (a : GraphArc) (had : ArePut n new before mid) (low : a.from < n) where
  abbrev put_list : List GraphArc
  put_list = fan_at mid a.from ++ a ∷ []

  last_one : (m : ℕ) → a.from ≡ m → filter (λ (arc : GraphArc). nat_eq arc.from m) (a ∷ []) ≡ a ∷ []
  last_one m same = rw (eq-eqb a.from m same) refl

  last_none : (m : ℕ) → (a.from ≡ m → ⊥) → filter (λ (arc : GraphArc). nat_eq arc.from m) (a ∷ []) ≡ []
  last_none m other = rw (ne_eqb a.from m other) refl

  each_put : (m : ℕ) → fan_at (with_list mid a.from put_list) m ≡ fan_at before m ++ filter (λ (arc : GraphArc). nat_eq arc.from m) (new ++ a ∷ [])
  each_put m =
      let split = filter-append (λ (arc : GraphArc). nat_eq arc.from m) new (a ∷ []) in
      elim (cases_eq a.from m) [
        | inl same ↦
            ap (fan_at (with_list mid a.from put_list)) (sym same)
            ∙ set_same mid a.from put_list (omega (arith, had.fans.count))
            ∙ ap (λ k. fan_at mid k ++ a ∷ []) same
            ∙ ap (λ xs. xs ++ a ∷ []) (had.each m)
            ∙ append_assoc (fan_at before m) (filter (λ (arc : GraphArc). nat_eq arc.from m) new) (a ∷ [])
            ∙ ap (λ xs. fan_at before m ++ xs) (ap (λ ys. filter (λ (arc : GraphArc). nat_eq arc.from m) new ++ ys) (sym (last_one m same)) ∙ sym split)
        | inr other ↦
            set_other mid a.from m put_list (λ e. other (sym e)) ∙ had.each m
            ∙ ap (λ xs. fan_at before m ++ xs)
            (sym (split ∙ ap (λ ys. filter (λ (arc : GraphArc). nat_eq arc.from m) new ++ ys) (last_none m other) ∙ append-nil (filter (λ (arc : GraphArc). nat_eq arc.from m) new)))
      ]

  one_put : ArePut n (new ++ a ∷ []) before (with_list mid a.from put_list)
  one_put = record { fans = set_fans n mid a.from put_list had.fans low; each = each_put }

pub put_more : (n : ℕ) (new : List GraphArc) (i : ℕ) (d : GraphArc) (before mid after : Fans) → i < length new → ArePut n (take i new) before mid
    → (get_or new i d).from < n → after ≡ with_list mid (get_or new i d).from (fan_at mid (get_or new i d).from ++ get_or new i d ∷ [])
    → ArePut n (take (i + 1) new) before after
put_more n new i d before mid after low had within is =
    subst (λ (f : Fans). ArePut n (take (i + 1) new) before f) (sym is)
    (subst (λ (xs : List GraphArc). ArePut n xs before (with_list mid (get_or new i d).from (fan_at mid (get_or new i d).from ++ get_or new i d ∷ []))) (sym (take_more new i d low))
    (one_put n (take i new) before mid (get_or new i d) had within))

pub put_done : (n : ℕ) (new : List GraphArc) (i : ℕ) (before after : Fans) → ArePut n (take i new) before after → length new ≤ i → ArePut n new before after
put_done n new i before after had done = subst (λ (xs : List GraphArc). ArePut n xs before after) (take_all i new done) had

-- counts of what passes two tests
few_left : {X : Type 0} (p q : X → Bool) (xs : List X) → count_by (λ x. q x && p x) xs ≤ count_by p xs
few_left {X} p q xs =
    sum_by-le-sum_by (λ (x : X). cond {A = ℕ} (q x && p x) 1 0) (λ x. cond {A = ℕ} (p x) 1 0) xs (λ x. by (q x) (p x))
  where
    by : (a b : Bool) → cond {A = ℕ} (a && b) 1 0 ≤ cond {A = ℕ} b 1 0
    by true true = omega arith
    by true false = omega arith
    by false true = omega arith
    by false false = omega arith

few_right : {X : Type 0} (p q : X → Bool) (xs : List X) → count_by (λ x. q x && p x) xs ≤ count_by q xs
few_right {X} p q xs =
    sum_by-le-sum_by (λ (x : X). cond {A = ℕ} (q x && p x) 1 0) (λ x. cond {A = ℕ} (q x) 1 0) xs (λ x. by (q x) (p x))
  where
    by : (a b : Bool) → cond {A = ℕ} (a && b) 1 0 ≤ cond {A = ℕ} a 1 0
    by true true = omega arith
    by true false = omega arith
    by false true = omega arith
    by false false = omega arith

-- a node is given other arcs in, and the nodes before it theirs out
module _ (n node : ℕ) (arcs : List GraphArc) (ins outs mid outs2 : Fans) (both : AreBothFans n ins outs) (low : node < n)
    (within : All (λ (arc : GraphArc). (arc.from < n) × (arc.to ≡ node)) arcs) (once : (from : ℕ) → count_by (λ (arc : GraphArc). nat_eq arc.from from) arcs ≤ 1)
    (taken : AreTaken n node (fan_at ins node) outs mid) (put : ArePut n arcs mid outs2) where
  abbrev led_from : ℕ → Bool
  led_from m = list_any (λ (arc : GraphArc). nat_eq arc.from m) (fan_at ins node)

  elsewhere_back : (arc : GraphArc) → leads_elsewhere node arc ≡ true → arc.to ≡ node → ⊥
  elsewhere_back arc e same = false≢true (sym (not-true (arc.to == node) e) ∙ eq-eqb arc.to node same)

  base_in : (m : ℕ) → m < n → (arc : GraphArc) → Contains (fan_at mid m) arc → Contains (fan_at outs m) arc × (arc.to ≡ node → ⊥)
  base_in m below arc c = by (led_from m) refl (subst (λ (xs : List GraphArc). Contains xs arc) (taken.each m) c)
    where
      by : (b : Bool) → led_from m ≡ b → Contains (if b then filter (leads_elsewhere node) (fan_at outs m) else fan_at outs m) arc → Contains (fan_at outs m) arc × (arc.to ≡ node → ⊥)
      by true e d = (kept_in (leads_elsewhere node) (fan_at outs m) arc d, elsewhere_back arc (passes_in (leads_elsewhere node) (fan_at outs m) arc d))
      by false e d = (
        d,
        λ same.
            let h = both.outward.sound m below arc d in
            let there : Contains (fan_at ins node) arc = subst (λ (k : ℕ). Contains (fan_at ins k) arc) same h.2 in
            false≢true (sym e ∙ any_in (λ (x : GraphArc). nat_eq x.from m) (fan_at ins node) arc there (eq-eqb arc.from m h.0)),
      )

  base_has : (m : ℕ) (arc : GraphArc) → Contains (fan_at outs m) arc → (arc.to ≡ node → ⊥) → Contains (fan_at mid m) arc
  base_has m arc c other = subst (λ (xs : List GraphArc). Contains xs arc) (sym (taken.each m)) (by (led_from m))
    where
      by : (b : Bool) → Contains (if b then filter (leads_elsewhere node) (fan_at outs m) else fan_at outs m) arc
      by true = in_filter (leads_elsewhere node) (fan_at outs m) arc c (ap not (ne_eqb arc.to node other))
      by false = c

  base_few : (p : GraphArc → Bool) (m : ℕ) → count_by p (fan_at mid m) ≤ count_by p (fan_at outs m)
  base_few p m = subst (λ (xs : List GraphArc). count_by p xs ≤ count_by p (fan_at outs m)) (sym (taken.each m)) (by (led_from m))
    where
      by : (b : Bool) → count_by p (if b then filter (leads_elsewhere node) (fan_at outs m) else fan_at outs m) ≤ count_by p (fan_at outs m)
      by true = let a = count_filter p (leads_elsewhere node) (fan_at outs m) in let b = few_left p (leads_elsewhere node) (fan_at outs m) in omega arith
      by false = omega arith

  there_low : node < length ins.later
  there_low = omega (arith, both.in_fan.count)

  here : fan_at (with_list ins node arcs) node ≡ arcs
  here = set_same ins node arcs there_low

  arc_is : (arc : GraphArc) → Contains arcs arc → (arc.from < n) × (arc.to ≡ node)
  arc_is arc c = All-contains (λ (x : GraphArc). (x.from < n) × (x.to ≡ node)) arcs arc within c

  put_fan : ℕ → List GraphArc
  put_fan f = filter (λ (arc : GraphArc). nat_eq arc.from f) arcs

  outward_put : AreTurned n (fan_at (with_list ins node arcs)) (fan_at outs2)
  outward_put = record {
    sound = λ f below arc c. elim (Contains-append_cases (fan_at mid f) (filter (λ (x : GraphArc). nat_eq x.from f) arcs) arc (subst (λ (xs : List GraphArc). Contains xs arc) (put.each f) c)) [
      | inl d ↦
          let b = base_in f below arc d in
          let h = both.outward.sound f below arc b.0 in
          (h.0, h.1, subst (λ (xs : List GraphArc). Contains xs arc) (sym (set_other ins node arc.to arcs b.1)) h.2)
      | inr d ↦
          let k = kept_in (λ (x : GraphArc). nat_eq x.from f) arcs arc d in
          let w = arc_is arc k in (
            eqb-true arc.from f (passes_in (λ (x : GraphArc). nat_eq x.from f) arcs arc d),
            subst (λ (m : ℕ). m < n) (sym w.1) low,
            subst (λ (xs : List GraphArc). Contains xs arc) (sym (ap (fan_at (with_list ins node arcs)) w.1 ∙ here)) k,
          )
    ];
    all = λ t below arc c. elim (cases_eq t node) [
      | inl same ↦
          let k = subst (λ (xs : List GraphArc). Contains xs arc) (ap (fan_at (with_list ins node arcs)) same ∙ here) c in
          let w = arc_is arc k in (
            w.1 ∙ sym same,
            w.0,
            subst (λ (xs : List GraphArc). Contains xs arc) (sym (put.each arc.from))
                (Contains-append_right (fan_at mid arc.from) (filter (λ (x : GraphArc). nat_eq x.from arc.from) arcs) arc
                (in_filter (λ (x : GraphArc). nat_eq x.from arc.from) arcs arc k (eq-eqb arc.from arc.from refl))),
          )
      | inr other ↦
          let h = both.outward.all t below arc (subst (λ (xs : List GraphArc). Contains xs arc) (set_other ins node t arcs other) c) in (
            h.0,
            h.1,
            subst (λ (xs : List GraphArc). Contains xs arc) (sym (put.each arc.from))
                (Contains-append_left (fan_at mid arc.from) (filter (λ (x : GraphArc). nat_eq x.from arc.from) arcs) arc (base_has arc.from arc h.2 (λ e. other (sym h.0 ∙ e)))),
          )
    ];
    once = λ f below to.
        let split : count_by (λ (x : GraphArc). nat_eq x.to to) (fan_at outs2 f)
        ≡ count_by (λ (x : GraphArc). nat_eq x.to to) (fan_at mid f) + count_by (λ (x : GraphArc). nat_eq x.to to) (filter (λ (x : GraphArc). nat_eq x.from f) arcs) =
        ap (count_by (λ (x : GraphArc). nat_eq x.to to)) (put.each f)
        ∙ sum_by-append (λ (x : GraphArc). cond {A = ℕ} (nat_eq x.to to) 1 0) (fan_at mid f) (filter (λ (x : GraphArc). nat_eq x.from f) arcs) in
        elim (cases_eq to node) [
          | inl same ↦
              let none = counts_none (λ (x : GraphArc). nat_eq x.to to) (fan_at mid f) (λ x c e. (base_in f below x c).1 (eqb-true x.to to e ∙ same)) in
              let a = count_filter (λ (x : GraphArc). nat_eq x.to to) (λ (x : GraphArc). nat_eq x.from f) arcs in
              let b = few_right (λ (x : GraphArc). nat_eq x.to to) (λ (x : GraphArc). nat_eq x.from f) arcs in
              let few = once f in
              omega arith
          | inr other ↦
              let none = counts_none (λ (x : GraphArc). nat_eq x.to to) (filter (λ (x : GraphArc). nat_eq x.from f) arcs)
              (λ x c e. other (sym (eqb-true x.to to e) ∙ (arc_is x (kept_in (λ (y : GraphArc). nat_eq y.from f) arcs x c)).1)) in
              let a = base_few (λ (x : GraphArc). nat_eq x.to to) f in
              let b = both.outward.once f below to in
              omega arith
        ];
  }

  pub node_put : IsPutNode n node arcs ins (with_list ins node arcs) outs2
  node_put = record {
    both = record { in_fan = set_fans n ins node arcs both.in_fan low; out_fan = put.fans; outward = outward_put };
    here = here;
    others = λ m other. set_other ins node m arcs other;
  }

-- the arcs into a node of a pin
module _ (s : Stored) (num : IsNumbered s) (linked : IsLinked s.design) (network : List Bool) (pin : ℕ) (tran : Tran) (low : pin < length s.pins) where
  pub node_low : node_number pin tran < node_bound s
  node_low = by tran
    where
      by : (t : Tran) → node_number pin t < node_bound s
      by Rise = omega arith
      by Fall = omega arith

  pub joined_low : (arcs : List GraphArc) → AreJoined (raw_into s network (node_number pin tran)) arcs
      → All (λ (arc : GraphArc). (arc.from < node_bound s) × (arc.to ≡ node_number pin tran)) arcs
  joined_low arcs h = λ k d below.
      let a = get_or arcs k d in
      let c = Contains-get_or arcs k d below in
      let like = h.sound a c in (
        subst (λ (n : ℕ). n < node_bound s) like.from (raw_from_low s num linked network pin tran low like.item like.within),
        h.to (node_number pin tran)
            (λ x e. eqb-true x.to (node_number pin tran) (passes_in (λ (arc : GraphArc). arc.to == node_number pin tran) (node_arcs s network) x e)) a c,
      )

-- a node's arcs, as the call has them
pub relinked_same : (s : Stored) (network : List Bool) (node : ℕ) (ins outs : Fans) (read arcs : List GraphArc) → AreBothFans (node_bound s) ins outs
    → AreJoined (raw_into s network node) arcs → read ≡ fan_at ins node → read ≡ arcs → IsNodeRelinked s network node ins ins outs
relinked_same s network node ins outs read arcs both joined is same = record {
  both = both;
  joined = subst (λ (xs : List GraphArc). AreJoined (raw_into s network node) xs) (sym same ∙ is) joined;
  others = λ m other. refl;
}

pub relinked_put : (s : Stored) (network : List Bool) (n node : ℕ) (before ins outs : Fans) (arcs : List GraphArc) → n ≡ node_bound s
    → AreJoined (raw_into s network node) arcs → IsPutNode n node arcs before ins outs → IsNodeRelinked s network node before ins outs
relinked_put s network n node before ins outs arcs same joined put = record {
  both = subst (λ (m : ℕ). AreBothFans m ins outs) same put.both;
  joined = subst (λ (xs : List GraphArc). AreJoined (raw_into s network node) xs) (sym put.here) joined;
  others = put.others;
}

-- both nodes of a pin
pub pin_relinked : (s : Stored) (network : List Bool) (pin : ℕ) (before mid ins outs0 outs : Fans) → IsNodeRelinked s network (node_number pin Rise) before mid outs0
    → IsNodeRelinked s network (node_number pin Fall) mid ins outs → AreRelinked s network (pin ∷ []) before ins outs
pin_relinked s network pin before mid ins outs0 outs rise fall = record {
  both = fall.both;
  joined = λ node e. by node (tran_under node) (sym (number_again node) ∙ ap (λ p. node_number p (tran_under node)) (under node e));
  others = λ node e.
      fall.others node (λ same. apart node e Fall same) ∙ rise.others node (λ same. apart node e Rise same);
}
  where
    under : (node : ℕ) → list_any (nat_eq (pin_under node)) (pin ∷ []) ≡ true → pin_under node ≡ pin
    under node e = elim (or_cases (nat_eq (pin_under node) pin) false e) [
      | inl h ↦ eqb-true (pin_under node) pin h
      | inr h ↦ absurd (false≢true h)
    ]

    apart : (node : ℕ) → list_any (nat_eq (pin_under node)) (pin ∷ []) ≡ false → (t : Tran) → node ≡ node_number pin t → ⊥
    apart node e t same =
        false≢true (sym e ∙ or_left (nat_eq (pin_under node) pin) false (eq-eqb (pin_under node) pin (ap pin_under same ∙ under_number pin t)))

    rise_apart : node_number pin Rise ≡ node_number pin Fall → ⊥
    rise_apart e = omega arith

    by : (node : ℕ) (t : Tran) → node ≡ node_number pin t → AreJoined (raw_into s network node) (fan_at ins node)
    by node Rise same =
        subst (λ (k : ℕ). AreJoined (raw_into s network k) (fan_at ins k)) (sym same)
        (subst (λ (xs : List GraphArc). AreJoined (raw_into s network (node_number pin Rise)) xs) (sym (fall.others (node_number pin Rise) rise_apart)) rise.joined)
    by node Fall same = subst (λ (k : ℕ). AreJoined (raw_into s network k) (fan_at ins k)) (sym same) fall.joined

-- one pin after the other
pub none_relinked : (s : Stored) (network : List Bool) (ins outs : Fans) → AreBothFans (node_bound s) ins outs → AreRelinked s network [] ins ins outs
none_relinked s network ins outs both = record { both = both; joined = λ node e. absurd (false≢true e); others = λ node e. refl }

pub relinked_more : (s : Stored) (network : List Bool) (pins : List ℕ) (i d : ℕ) (before mid ins outs0 outs : Fans) → i < length pins → AreRelinked s network (take i pins) before mid outs0
    → AreRelinked s network (get_or pins i d ∷ []) mid ins outs → AreRelinked s network (take (i + 1) pins) before ins outs
relinked_more s network pins i d before mid ins outs0 outs low had one =
    subst (λ (ps : List ℕ). AreRelinked s network ps before ins outs) (sym (take_more pins i d low)) (record {
      both = one.both;
      joined = λ node e. elim (cases_Bool (list_any (nat_eq (pin_under node)) (get_or pins i d ∷ []))) [
        | inl h ↦ one.joined node h
        | inr h ↦
            subst (λ (xs : List GraphArc). AreJoined (raw_into s network node) xs) (sym (one.others node h))
            (had.joined node (elim (or_cases (list_any (nat_eq (pin_under node)) (take i pins)) (list_any (nat_eq (pin_under node)) (get_or pins i d ∷ []))
            (sym (list_any-append (nat_eq (pin_under node)) (take i pins) (get_or pins i d ∷ [])) ∙ e)) [ inl g ↦ g | inr g ↦ absurd (false≢true (sym h ∙ g)) ]))
      ];
      others = λ node e.
          let parts = or_false (list_any (nat_eq (pin_under node)) (take i pins)) (list_any (nat_eq (pin_under node)) (get_or pins i d ∷ []))
          (sym (list_any-append (nat_eq (pin_under node)) (take i pins) (get_or pins i d ∷ [])) ∙ e) in
          one.others node parts.1 ∙ had.others node parts.0;
    })
  where
    or_false : (a b : Bool) → (a || b) ≡ false → (a ≡ false) × (b ≡ false)
    or_false false false e = (refl, refl)
    or_false false true e = absurd (false≢true (sym e))
    or_false true b e = absurd (false≢true (sym e))

pub relinked_all : (s : Stored) (network : List Bool) (pins : List ℕ) (i : ℕ) (before ins outs : Fans) → AreRelinked s network (take i pins) before ins outs → length pins ≤ i
    → AreRelinked s network pins before ins outs
relinked_all s network pins i before ins outs had done = subst (λ (ps : List ℕ). AreRelinked s network ps before ins outs) (take_all i pins done) had

-- lists that agree so far
pub same_more : (a b : List GraphArc) (i : ℕ) (d : GraphArc) → i < length a → length a ≡ length b → take i a ≡ take i b → get_or a i d ≡ get_or b i d → take (i + 1) a ≡ take (i + 1) b
same_more a b i d low long had one =
    take_more a i d low ∙ (λ k. had k ++ one k ∷ []) ∙ sym (take_more b i d (omega (arith, long)))

pub same_all : (a b : List GraphArc) (i : ℕ) → take i a ≡ take i b → length a ≤ i → length a ≡ length b → a ≡ b
same_all a b i had done long = sym (take_all i a done) ∙ had ∙ take_all i b (omega (arith, long))

-- as the calls have it
pub fans_as : (n k : ℕ) (fans : Fans) → k ≡ n → IsFans n fans → IsFans k fans
fans_as n k fans e h = subst (λ (m : ℕ). IsFans m fans) (sym e) h

pub taken_low : (n k node : ℕ) (ins outs : Fans) (read : List GraphArc) → AreBothFans n ins outs → node < n → k ≡ n → read ≡ fan_at ins node
    → All (λ (arc : GraphArc). arc.from < k) read
taken_low n k node ins outs read both low same is =
    subst (λ (xs : List GraphArc). All (λ (arc : GraphArc). arc.from < k) xs) (sym is)
    (λ i d below.
    let h = both.outward.all node low (get_or (fan_at ins node) i d) (Contains-get_or (fan_at ins node) i d below) in
    subst (λ (m : ℕ). (get_or (fan_at ins node) i d).from < m) (sym same) h.1)

pub put_low : (n k node : ℕ) (arcs arcs2 : List GraphArc) → All (λ (arc : GraphArc). (arc.from < n) × (arc.to ≡ node)) arcs → k ≡ n → arcs2 ≡ arcs
    → All (λ (arc : GraphArc). arc.from < k) arcs2
put_low n k node arcs arcs2 within same is =
    subst (λ (xs : List GraphArc). All (λ (arc : GraphArc). arc.from < k) xs) (sym is)
    (λ i d below. subst (λ (m : ℕ). (get_or arcs i d).from < m) (sym same) (within i d below).0)

pub put_as : (n k k2 node : ℕ) (arcs arcs2 read : List GraphArc) (ins ins2 outs mid outs2 : Fans) → AreBothFans n ins outs → node < n
    → All (λ (arc : GraphArc). (arc.from < n) × (arc.to ≡ node)) arcs → ((from : ℕ) → count_by (λ (arc : GraphArc). nat_eq arc.from from) arcs ≤ 1)
    → k ≡ n → read ≡ fan_at ins node → AreTaken k node read outs mid → k2 ≡ n → arcs2 ≡ arcs → ArePut k2 arcs2 mid outs2 → ins2 ≡ with_list ins node arcs
    → IsPutNode n node arcs ins ins2 outs2
put_as n k k2 node arcs arcs2 read ins ins2 outs mid outs2 both low within once same is taken same2 is2 put made =
    subst (λ (f : Fans). IsPutNode n node arcs ins f outs2) (sym made)
    (node_put n node arcs ins outs mid outs2 both low within once
    (subst (λ (m : ℕ). AreTaken m node (fan_at ins node) outs mid) same (subst (λ (xs : List GraphArc). AreTaken k node xs outs mid) is taken))
    (subst (λ (m : ℕ). ArePut m arcs mid outs2) same2 (subst (λ (xs : List GraphArc). ArePut k2 xs mid outs2) is2 put)))

pub item_low : (n k : ℕ) (arcs : List GraphArc) (i : ℕ) (d : GraphArc) → All (λ (arc : GraphArc). arc.from < n) arcs → i < length arcs → k ≡ n → (get_or arcs i d).from < k
item_low n k arcs i d within low same = subst (λ (m : ℕ). (get_or arcs i d).from < m) (sym same) (within i d low)

pub both_as : (n : ℕ) (ins outs : Fans) → AreBothFans n ins outs → AreBothFans (length ins.later) ins outs
both_as n ins outs both = subst (λ (m : ℕ). AreBothFans m ins outs) (sym both.in_fan.count) both

module _ (s : Stored) (num : IsNumbered s) (linked : IsLinked s.design) (network : List Bool) (pin : ℕ) (tran : Tran) (low : pin < length s.pins)
    (n node : ℕ) (long : n ≡ node_bound s) (same : node ≡ node_number pin tran) where
  pub node_below_as : node < n
  node_below_as = subst (λ (k : ℕ). k < n) (sym same) (subst (λ (m : ℕ). node_number pin tran < m) (sym long) (node_low s num linked network pin tran low))

  pub joined_low_as : (arcs : List GraphArc) → AreJoined (raw_into s network (node_number pin tran)) arcs → All (λ (arc : GraphArc). (arc.from < n) × (arc.to ≡ node)) arcs
  joined_low_as arcs h =
      subst (λ (k : ℕ). All (λ (arc : GraphArc). (arc.from < n) × (arc.to ≡ k)) arcs) (sym same)
      (subst (λ (m : ℕ). All (λ (arc : GraphArc). (arc.from < m) × (arc.to ≡ node_number pin tran)) arcs) (sym long) (joined_low s num linked network pin tran low arcs h))

-- nodes without arcs are added at both ends
pub longer_both : (k n : ℕ) (ins outs : Fans) → AreBothFans k ins outs → k ≤ n → AreBothFans n (longer ins n) (longer outs n)
longer_both k n ins outs both more =
    let long = both.in_fan.count in
    let long2 = both.out_fan.count in record {
      in_fan = longer_fans k n ins both.in_fan more;
      out_fan = longer_fans k n outs both.out_fan more;
      outward = record {
        sound = λ node low arc c. elim (cases_lt node (length outs.later)) [
          | inl old ↦
              let h = both.outward.sound node (omega arith) arc (subst (λ (xs : List GraphArc). Contains xs arc) (longer_old outs n node old) c) in
              let below = h.1 in
              (h.0, omega arith, subst (λ (xs : List GraphArc). Contains xs arc) (sym (longer_old ins n arc.to (omega arith))) h.2)
          | inr high ↦ absurd (none_in arc (subst (λ (xs : List GraphArc). Contains xs arc) (longer_new outs n node high low) c))
        ];
        all = λ node low arc c. elim (cases_lt node (length ins.later)) [
          | inl old ↦
              let h = both.outward.all node (omega arith) arc (subst (λ (xs : List GraphArc). Contains xs arc) (longer_old ins n node old) c) in
              let below = h.1 in
              (h.0, omega arith, subst (λ (xs : List GraphArc). Contains xs arc) (sym (longer_old outs n arc.from (omega arith))) h.2)
          | inr high ↦ absurd (none_in arc (subst (λ (xs : List GraphArc). Contains xs arc) (longer_new ins n node high low) c))
        ];
        once = λ node low to. elim (cases_lt node (length outs.later)) [
          | inl old ↦ subst (λ (xs : List GraphArc). count_by (λ (arc : GraphArc). nat_eq arc.to to) xs ≤ 1) (sym (longer_old outs n node old)) (both.outward.once node (omega arith) to)
          | inr high ↦ subst (λ (xs : List GraphArc). count_by (λ (arc : GraphArc). nat_eq arc.to to) xs ≤ 1) (sym (longer_new outs n node high low)) (omega arith)
        ];
      };
    }

-- no arc so far is from a node
pub place_more : (arcs : List GraphArc) (i from : ℕ) (d : GraphArc) → i < length arcs → ((k : ℕ) → k < i → (get_or arcs k none_arc).from ≡ from → ⊥)
    → nat_eq (get_or arcs i d).from from ≡ false → (k : ℕ) → k < i + 1 → (get_or arcs k none_arc).from ≡ from → ⊥
place_more arcs i from d low had differs k below e = elim (cases_eq k i) [
  | inl same ↦
      false≢true (sym differs ∙ eq-eqb (get_or arcs i d).from from
      (ap (λ (a : GraphArc). a.from) (get_or_default arcs i d none_arc low) ∙ ap (λ j. (get_or arcs j none_arc).from) (sym same) ∙ e))
  | inr other ↦ had k (omega arith) e
]
