-- The offers of a list of nodes, node by node.

use Rattle.std.proofs.Common.{◌≡◌, ◌⊎◌, ℕ, zero, suc, ◌+◌, ◌<◌, ◌≤◌, ℤ, List, [], ◌∷◌, ◌++◌, length, Option, None, Some, refl, sym, ap, subst, ◌∙◌, inl, inr, arith}
use Rattle.std.specs.Prelude.{Contains, slice_get, slice_index}
use Rattle.std.proofs.lemmas.Bool.{cases_eq}
use Rattle.std.proofs.lemmas.List.Elements.{Contains-append_left, Contains-append_right, Contains-append_cases}
use Rattle.timing_defs.specs.declared.kinds.Tran.{Tran}
use Rattle.timing_defs.specs.declared.kinds.Kind.{Kind}
use Rattle.timing_defs.specs.Netlist.{Node}
use Rattle.timing_defs.specs.Kinds.{data_split}
use Rattle.timing_rules.specs.Paths.{named}
use Rattle.netlist_store.specs.Numbering.{Stored}
use Rattle.pin_graph.specs.Nodes.{node_at}
use Rattle.timing_defs.proofs.Members.{none_in, in_cases, some_is}
use Rattle.worst_walks.specs.declared.cones.Launch.{Launch}
use Rattle.path_search.specs.Launches.{IsLaunched, launch_slacks}
use Rattle.path_search.specs.Offers.{IsOfferAt, AreOffers}
use Rattle.path_search.specs.Slacks.{IsOfferOf, put_offer}

-- the offers of the first nodes of a list, for the end node of a number
pub record AreOffersUpTo (s : Stored) (kind : Kind) (nodes : List ℕ) (end : ℕ) (launches : List Launch) (done : ℕ) : Type 0 where
  pub few : length launches ≤ done
  pub sound : (node : Node) → node_at s end ≡ Some node → (launch : Launch) → Contains launches launch → IsOfferAt s kind nodes (named node) launch
  pub all : (endnode : Node) → node_at s end ≡ Some endnode → (place : ℕ) (node : Node) → place < done → node_at s (slice_index nodes place) ≡ Some node
      → (edge : ℕ × Tran) (time : ℤ) → IsLaunched s.design (data_split kind) edge (named node) time
      → (launch_slacks s.design kind (named node) edge time (named endnode) ≡ [] → ⊥)
      → (offer : ℤ) × Contains launches (record { node = place; offer = offer })
  pub low : (i : ℕ) (launch : Launch) → slice_get launches i ≡ Some launch → launch.node < done
  pub once : (i j : ℕ) (a b : Launch) → slice_get launches i ≡ Some a → slice_get launches j ≡ Some b → a.node ≡ b.node → i ≡ j

pub offers_start : (s : Stored) (kind : Kind) (nodes : List ℕ) (end : ℕ) → AreOffersUpTo s kind nodes end [] 0
offers_start s kind nodes end = record {
  few = omega arith;
  sound = λ node e launch c. absurd (none_in launch c);
  all = λ endnode e place node low at edge time l some. absurd (omega (arith, low));
  low = λ i launch at. absurd (cc);
  once = λ i j a b at. absurd (cc);
}

-- an item of a list with what is offered after it
record IsPut (launches : List Launch) (place : ℕ) (o : Option ℤ) (i : ℕ) (launch : Launch) : Type 0 where
  last : i ≡ length launches
  its : launch.node ≡ place

put_at : (launches : List Launch) (place : ℕ) (o : Option ℤ) (i : ℕ) (launch : Launch) → slice_get (launches ++ put_offer place o) i ≡ Some launch
    → (slice_get launches i ≡ Some launch) ⊎ IsPut launches place o i launch
put_at [] place None i launch e = inl e
put_at [] place (Some x) zero launch e = inr (record { last = refl; its = sym (ap (λ (l : Launch). l.node) (some_is e)) })
put_at [] place (Some x) (suc i) launch e = absurd (cc)
put_at (l ∷ ls) place o zero launch e = inl e
put_at (l ∷ ls) place o (suc i) launch e = elim (put_at ls place o i launch e) [
  | inl d ↦ inl d
  | inr d ↦ inr (record { last = ap suc d.last; its = d.its })
]

one_length : (xs : List Launch) (place : ℕ) (o : Option ℤ) → length (xs ++ put_offer place o) ≤ length xs + 1
one_length [] place None = omega arith
one_length [] place (Some x) = omega arith
one_length (y ∷ ys) place o = (let r = one_length ys place o in omega (arith, r))

module _ (s : Stored) (kind : Kind) (nodes : List ℕ) (end : ℕ) (launches more : List Launch) (place : ℕ) (had : AreOffersUpTo s kind nodes end launches place) (low : place < length nodes)
    (offer : Option ℤ) (is : IsOfferOf s kind (slice_index nodes place) end offer) (put : more ≡ launches ++ put_offer place offer) where
  new_sound : (o : Option ℤ) → IsOfferOf s kind (slice_index nodes place) end o → (node : Node) → node_at s end ≡ Some node → (launch : Launch) → Contains (put_offer place o) launch
      → IsOfferAt s kind nodes (named node) launch
  new_sound None k node e launch c = absurd (none_in launch c)
  new_sound (Some x) k node e launch c = elim (in_cases (record { node = place; offer = x }) [] launch c) [
    | inr none ↦ absurd (none_in launch none)
    | inl same ↦
        let r = k node e in
        subst (λ (l : Launch). IsOfferAt s kind nodes (named node) l) same (record { low = low; node = r.0; its = r.1; offer = r.2; bounded = r.3 })
  ]

  new_all : (o : Option ℤ) → IsOfferOf s kind (slice_index nodes place) end o → (endnode : Node) → node_at s end ≡ Some endnode → (node : Node)
      → node_at s (slice_index nodes place) ≡ Some node → (edge : ℕ × Tran) (time : ℤ) → IsLaunched s.design (data_split kind) edge (named node) time
      → (launch_slacks s.design kind (named node) edge time (named endnode) ≡ [] → ⊥) → (x : ℤ) × Contains (put_offer place o) (record { node = place; offer = x })
  new_all None k endnode e node at edge time l some = absurd (some (k endnode e node at edge time l))
  new_all (Some x) k endnode e node at edge time l some = (x, (0, omega arith, refl))

  pub offers_more : AreOffersUpTo s kind nodes end more (place + 1)
  offers_more = subst (λ (xs : List Launch). AreOffersUpTo s kind nodes end xs (place + 1)) (sym put) (record {
    few = (let a = had.few in let b = one_length launches place offer in omega (arith, a, b));
    sound = λ node e launch c. elim (Contains-append_cases launches (put_offer place offer) launch c) [
      | inl d ↦ had.sound node e launch d
      | inr d ↦ new_sound offer is node e launch d
    ];
    all = λ endnode e at node below its edge time l some. elim (cases_eq at place) [
      | inl same ↦
          let k = ap (λ (i : ℕ). node_at s (slice_index nodes i)) (sym same) ∙ its in
          let r = new_all offer is endnode e node k edge time l some in (
            r.0,
            Contains-append_right launches (put_offer place offer) (record { node = at; offer = r.0 })
                (subst (λ (i : ℕ). Contains (put_offer place offer) (record { node = i; offer = r.0 })) (sym same) r.1),
          )
      | inr other ↦
          let r = had.all endnode e at node (omega (arith, below, other)) its edge time l some in
          (r.0, Contains-append_left launches (put_offer place offer) (record { node = at; offer = r.0 }) r.1)
    ];
    low = λ i launch at. elim (put_at launches place offer i launch at) [
      | inl d ↦ let below = had.low i launch d in omega arith
      | inr d ↦ let is = d.its in omega arith
    ];
    once = λ i j a b at there same. elim (put_at launches place offer i a at) [
      | inl d ↦ elim (put_at launches place offer j b there) [
        | inl e ↦ had.once i j a b d e same
        | inr e ↦ let below = had.low i a d in let is = e.its in absurd (omega arith)
      ]
      | inr d ↦ elim (put_at launches place offer j b there) [
        | inl e ↦ let below = had.low j b e in let is = d.its in absurd (omega arith)
        | inr e ↦ d.last ∙ sym e.last
      ]
    ];
  })

pub offers_done : (s : Stored) (kind : Kind) (nodes : List ℕ) (end : ℕ) (launches : List Launch) (done : ℕ) → AreOffersUpTo s kind nodes end launches done → done ≡ length nodes
    → (node : Node) → node_at s end ≡ Some node → AreOffers s kind nodes (named node) launches
offers_done s kind nodes end launches done had all node e = record {
  few = (let a = had.few in omega (arith, a, all));
  sound = had.sound node e;
  all = λ place n low. had.all node e place n (omega (arith, low, all));
  once = had.once;
}
