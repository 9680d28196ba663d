-- The nodes of an endpoint, and the cone that is made of their fan-in.

use Rattle.std.proofs.Common.{◌≡◌, ℕ, ◌<◌, ℤ, true, List, [], ◌∷◌, length, Some, None, refl, sym, ap, subst, ◌∙◌, inl, inr, arith}
use Rattle.std.specs.Prelude.{All, Contains, IfOk, Result, Ok, Err, ◌||◌, slice_index, position, nat_eq, option_map, filter}
use Rattle.std.specs.List.{list_any, position_or_len}
use Rattle.std.proofs.lemmas.Bool.{cases_Bool, eqb-true, false≢true, lt-ltb}
use Rattle.std.proofs.lemmas.List.Quantifiers.{position-Some}
use Rattle.std.proofs.lemmas.Grind.{get_or_default_zero}
use Rattle.std.proofs.lemmas.List.Elements.{All-head, All-tail}
use Rattle.sta_units.specs.declared.units.Memory.{Memory}
use Rattle.timing_defs.specs.declared.kinds.Kind.{Kind}
use Rattle.timing_defs.specs.declared.kinds.Tran.{Tran}
use Rattle.timing_defs.specs.declared.kinds.Tran.TheVariants.{Rise, Fall}
use Rattle.timing_defs.specs.Netlist.{Node, name_of, pins}
use Rattle.timing_rules.specs.Tests.{is_endpoint}
use Rattle.timing_rules.specs.Reports.{endpoints}
use Rattle.netlist_store.specs.Linked.{IsLinked}
use Rattle.netlist_store.specs.Numbering.{Stored, is_number, IsNumbered}
use Rattle.pin_graph.specs.Nodes.{node_at, node_number, node_bound, number_at, pin_under}
use Rattle.pin_graph.specs.Graphs.{Graphed}
use Rattle.timing_defs.proofs.Members.{some_is, in_map_back, kept_in}
use Rattle.store_pins.proofs.PinLaws.{pin_told}
use Rattle.pin_graph.proofs.NodeLaws.{node_told, node_below}
use Rattle.worst_walks.specs.declared.cones.WalkEnd.{WalkEnd}
use Rattle.path_cones.specs.declared.fans.FanIn.{FanIn}
use Rattle.path_cones.specs.Delays.{followed_delay}
use Rattle.path_cones.specs.Reaching.{is_among}
use Rattle.path_cones.specs.FanIns.{IsFanPart, IsWhole}
use Rattle.path_cones.proofs.ConeLaws.{among_at}
use Rattle.path_search.specs.declared.cones.PinCone.{PinCone}
use Rattle.path_search.proofs.NumberNames.{number_there}
use Rattle.path_search.specs.PinCones.{cone_of, IsNamedNode, IsEndOf, IsPinCone, IsPinPart}

-- the number of a node of an endpoint
pub record IsEndNumber (s : Stored) (pin : List ℕ) (tran : Tran) : Type 0 where
  pub number : ℕ
  pub is : number_at s pin tran ≡ Some number
  pub below : number < node_bound s
  pub node : IsNamedNode s (pin, tran) number

module _ (s : Stored) (num : IsNumbered s) (linked : IsLinked s.design) (pin : List ℕ) (c : Contains (endpoints s.design) pin) (tran : Tran) where
  pub end_number : IsEndNumber s pin tran
  end_number =
      let m = in_map_back name_of (filter (is_endpoint s.design) (pins s.design)) pin c in
      let within = kept_in (is_endpoint s.design) (pins s.design) m.item m.within in
      let p = pin_told s num linked m.item within in
      let node : Node = record { pin = m.item; tran = tran } in
      let name = m.same in
      record {
        number = node_number p.0 tran;
        is = ap (λ (n : List ℕ). number_at s n tran) (sym name) ∙ ap (option_map (λ q. node_number q tran)) p.1.number;
        below = node_below s node (node_number p.0 tran) (record { pin = p.0; has = p.1; number = refl });
        node = record { node = node; its = node_told s node (node_number p.0 tran) (record { pin = p.0; has = p.1; number = refl }); is = λ k. (name k, tran) };
      }

  pub end_there : None ≡ number_at s pin tran → ⊥
  end_there e = let f : None ≡ Some end_number.number = e ∙ end_number.is in absurd (cc)

  pub end_below : (k : ℕ) → Some k ≡ number_at s pin tran → k < node_bound s
  end_below k e = subst (λ n. n < node_bound s) (some_is (sym end_number.is ∙ sym e)) end_number.below

  pub end_named : (k : ℕ) → Some k ≡ number_at s pin tran → IsNamedNode s (pin, tran) k
  end_named k e = subst (IsNamedNode s (pin, tran)) (some_is (sym end_number.is ∙ sym e)) end_number.node

  pub end_numbered : (k : ℕ) → Some k ≡ number_at s pin tran → is_number s.pins (pin_under k) ≡ true
  end_numbered k e = let n = end_named k e in number_there s k n.node n.its

  -- the same by a graph of the store
  module _ (g : Graphed) (same : g.stored ≡ s) where
    pub end_there_as : None ≡ number_at g.stored pin tran → ⊥
    end_there_as e = end_there (e ∙ ap (λ (x : Stored). number_at x pin tran) same)

    pub end_below_as : (k : ℕ) → Some k ≡ number_at g.stored pin tran → k < node_bound s
    end_below_as k e = end_below k (e ∙ ap (λ (x : Stored). number_at x pin tran) same)

    pub end_numbered_as : (k : ℕ) → Some k ≡ number_at g.stored pin tran → is_number s.pins (pin_under k) ≡ true
    end_numbered_as k e = end_numbered k (e ∙ ap (λ (x : Stored). number_at x pin tran) same)

    pub end_named_as : (k : ℕ) → Some k ≡ number_at g.stored pin tran → IsNamedNode s (pin, tran) k
    end_named_as k e = end_named k (e ∙ ap (λ (x : Stored). number_at x pin tran) same)

-- the place of a node in a list
placed : (node : ℕ) (nodes : List ℕ) → is_among nodes node ≡ true → position_or_len (λ n. nat_eq node n) nodes < length nodes
placed node [] e = absurd (false≢true e)
placed node (n ∷ ns) e = elim (cases_Bool (nat_eq node n)) [
  | inl f ↦ rw f (omega arith)
  | inr f ↦ let rest = placed node ns (ap (λ b. b || list_any (nat_eq node) ns) (sym f) ∙ e) in rw f (omega (arith, rest))
]

pub place_none : (nodes : List ℕ) (node : ℕ) → is_among nodes node ≡ true → None ≡ position (λ n. nat_eq node n) nodes → ⊥
place_none nodes node e f =
    let at : position (λ n. nat_eq node n) nodes ≡ Some (position_or_len (λ n. nat_eq node n) nodes) =
    rw (lt-ltb (position_or_len (λ n. nat_eq node n) nodes) (length nodes) (placed node nodes e)) refl in
    let g : None ≡ Some (position_or_len (λ n. nat_eq node n) nodes) = f ∙ at in
    absurd (cc)

pub place_is : (nodes : List ℕ) (node p : ℕ) → Some p ≡ position (λ n. nat_eq node n) nodes → slice_index nodes p ≡ node
place_is nodes node p e = sym (eqb-true node (slice_index nodes p) (position-Some (λ n. nat_eq node n) nodes p 0 (sym e)).1)

-- the nodes of a part of a fan-in
pub fan_below : (g : Graphed) (kind : Kind) (ends : List ℕ) (f : FanIn) → IsFanPart g kind ends f → All (λ n. n < node_bound g.stored) f.nodes
fan_below g kind ends f h = λ k d low.
    subst (λ n. n < node_bound g.stored) (sym (get_or_default_zero f.nodes k d low)) (h.below (slice_index f.nodes k) (among_at f.nodes k low))

module _ (g : Graphed) (kind : Kind) (rise fall : ℕ) (f : FanIn) (h : IsFanPart g kind (rise ∷ fall ∷ []) f) where
  pub fan_low : All (λ n. n < node_bound g.stored) f.nodes
  fan_low = fan_below g kind (rise ∷ fall ∷ []) f h

  pub first_among : is_among f.nodes rise ≡ true
  first_among = All-head (λ e. is_among f.nodes e ≡ true) rise (fall ∷ []) h.targets

  pub second_among : is_among f.nodes fall ≡ true
  second_among = All-head (λ e. is_among f.nodes e ≡ true) fall [] (All-tail (λ e. is_among f.nodes e ≡ true) rise (fall ∷ []) h.targets)

  pub pin_cone_told : (pin : List ℕ) → IsNamedNode g.stored (pin, Rise) rise → IsNamedNode g.stored (pin, Fall) fall → (first second : WalkEnd)
      → ((node : Node) → node_at g.stored rise ≡ Some node → IsEndOf g.stored kind f.nodes node first)
      → ((node : Node) → node_at g.stored fall ≡ Some node → IsEndOf g.stored kind f.nodes node second)
      → (made : PinCone) → made.nodes ≡ f.nodes → made.cone ≡ cone_of f first second → IsPinPart g kind pin made
  pin_cone_told pin one other first second a b made nodes cone = record {
    f = f;
    ends = rise ∷ fall ∷ [];
    fan = h;
    rise = first;
    fall = second;
    made = record {
      rise_node = one.node;
      rises = a one.node one.its;
      rise_is = one.is;
      fall_node = other.node;
      falls = b other.node other.its;
      fall_is = other.is;
    };
    nodes = nodes;
    cone = cone;
  }

-- the same by a store, in the forms that the code has
module _ (g : Graphed) (kind : Kind) (rise fall : ℕ) (f : FanIn) (h : IsFanPart g kind (rise ∷ fall ∷ []) f) (s : Stored) (same : g.stored ≡ s) where
  pub fan_low_as : (xs : List ℕ) → xs ≡ f.nodes → All (λ n. n < node_bound s) xs
  fan_low_as xs e =
      subst (λ (ys : List ℕ). All (λ n. n < node_bound s) ys) (sym e)
      (subst (λ (x : Stored). All (λ n. n < node_bound x) f.nodes) same (fan_low g kind rise fall f h))

  pub pin_cone_as : (pin : List ℕ) → IsNamedNode s (pin, Rise) rise → IsNamedNode s (pin, Fall) fall → (xs : List ℕ) → xs ≡ f.nodes → (ys : List ℕ) → ys ≡ f.nodes
      → (first second : WalkEnd)
      → ((node : Node) → node_at s rise ≡ Some node → IsEndOf s kind xs node first)
      → ((node : Node) → node_at s fall ≡ Some node → IsEndOf s kind ys node second)
      → (r : Result PinCone Memory) → IfOk r (λ made. made.nodes ≡ f.nodes) → IfOk r (λ made. made.cone ≡ cone_of f first second) → IfOk r (IsPinPart g kind pin)
  pin_cone_as pin one other xs ex ys ey first second a b (Ok made) nodes cone =
      pin_cone_told g kind rise fall f h pin
      (subst (λ (x : Stored). IsNamedNode x (pin, Rise) rise) (sym same) one)
      (subst (λ (x : Stored). IsNamedNode x (pin, Fall) fall) (sym same) other) first second
      (subst (λ (x : Stored). (node : Node) → node_at x rise ≡ Some node → IsEndOf x kind f.nodes node first) (sym same)
      (subst (λ (zs : List ℕ). (node : Node) → node_at s rise ≡ Some node → IsEndOf s kind zs node first) ex a))
      (subst (λ (x : Stored). (node : Node) → node_at x fall ≡ Some node → IsEndOf x kind f.nodes node second) (sym same)
      (subst (λ (zs : List ℕ). (node : Node) → node_at s fall ≡ Some node → IsEndOf s kind zs node second) ey b))
      made nodes cone
  pin_cone_as pin one other xs ex ys ey first second a b (Err e) nodes cone = tt

whole_same : (g : Graphed) (kind : Kind) (a b : FanIn) → a.nodes ≡ b.nodes → IsWhole g kind a → IsWhole g kind b
whole_same g kind a b same closed =
    subst (λ (ns : List ℕ). (x k : ℕ) (v : ℤ) → k < length ns → followed_delay g kind x (slice_index ns k) ≡ Some v → is_among ns x ≡ true) same closed

-- the cone of a whole fan-in
pub whole_as : (g : Graphed) (kind : Kind) (pin : List ℕ) (f : FanIn) → IsWhole g kind f → (r : Result PinCone Memory) → IfOk r (IsPinPart g kind pin) → IfOk r (λ made. made.nodes ≡ f.nodes)
    → IfOk r (IsPinCone g kind pin)
whole_as g kind pin f closed (Err e) part is = tt
whole_as g kind pin f closed (Ok made) part is = record { part = part; closed = whole_same g kind f part.f (sym is ∙ part.nodes) closed }
