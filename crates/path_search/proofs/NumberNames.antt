-- Nodes by their numbers are in the order of their names.

use Rattle.std.proofs.Common.{◌≡◌, ℕ, ◌+◌, ◌-◌, ◌<◌, Bool, true, false, List, [], map, length, Some, refl, sym, ap, subst, ◌∙◌, inl, inr, arith}
use Rattle.std.specs.Prelude.{All, IfOk, Result, Ok, Err, nat_lt, is_some, if◌then◌else◌, option_map, slice_index}
use Rattle.std.specs.Option.{option_map_or, unwrap_or}
use Rattle.std.specs.Cmp.{IsTotalOrder}
use Rattle.std.specs.Cmp.Lexicographic.{slice_cmp}
use Rattle.std.specs.Ordering.{nat_cmp, ordering_then, on, is_eq, is_lt}
use Rattle.std.specs.declared.cmp.Ordering.{Ordering}
use Rattle.std.specs.declared.cmp.Ordering.TheVariants.{Less, Equal, Greater}
use Rattle.std.proofs.lemmas.Bool.{cases_lt, lt-ltb, false_from_ne_true, ltb-true}
use Rattle.std.proofs.lemmas.Bool.Decides.{nat_tests}
use Rattle.std.proofs.lemmas.List.Elements.{All-map, All-weaker}
use Rattle.std.proofs.lemmas.Cmp.{tied_itself, nat_cmp_total, nat_list_cmp_total, on_total, then_total}
use Rattle.std.proofs.lemmas.Map.Text.{is_eq-slice_cmp}
use Rattle.sta_units.specs.declared.units.Memory.{Memory}
use Rattle.timing_defs.specs.declared.kinds.Tran.{Tran}
use Rattle.timing_defs.specs.declared.kinds.Tran.TheVariants.{Rise, Fall}
use Rattle.timing_defs.specs.Netlist.{Pin, Node, name_of, pin_named}
use Rattle.timing_rules.specs.Paths.{Named, named, named_cmp, tran_cmp}
use Rattle.netlist_store.specs.Linked.{IsLinked}
use Rattle.netlist_store.specs.Numbering.{Stored, name_at, number_of, is_number, pin_numbered, IsNumbered}
use Rattle.pin_graph.specs.Nodes.{node_at, node_number, node_bound, pin_under, tran_under}
use Rattle.timing_defs.proofs.SameNames.{same_is}
use Rattle.store_pins.proofs.PinLaws.{pin_at_number}
use Rattle.pin_graph.proofs.JoinLaws.{then_back, mapped_back}
use Rattle.timing_defs.proofs.Members.{some_is}
use Rattle.pin_graph.proofs.NodeLaws.{has_node, node_below, under_number}
use Rattle.path_search.specs.Ranks.{pin_name_at, number_cmp, rank_at, node_of, place_rank}
use Rattle.path_search.specs.PinCones.{name_told}
use Rattle.path_search.proofs.RankLaws.{less_told, greater_told, equal_told, agrees, ranks_apart}

pub number_total : (s : Stored) → IsTotalOrder (number_cmp s)
number_total s =
    then_total {R = on (pin_name_at s) (slice_cmp nat_cmp)} {S = nat_cmp} (on_total (pin_name_at s) nat_list_cmp_total) nat_cmp_total

tied_second : (o p : Ordering) → ordering_then o p ≡ Equal → p ≡ Equal
tied_second Less p e = absurd (cc)
tied_second Equal p e = e
tied_second Greater p e = absurd (cc)

number_tied : (s : Stored) (a b : ℕ) → number_cmp s a b ≡ Equal → a ≡ b
number_tied s a b e = equal_told a b (tied_second (slice_cmp nat_cmp (pin_name_at s a) (pin_name_at s b)) (nat_cmp a b) e)

pub ranks_agree : (s : Stored) (a b : ℕ) → a < node_bound s → b < node_bound s → nat_cmp (rank_at s a) (rank_at s b) ≡ number_cmp s a b
unfolding rank_at
ranks_agree s a b low high = agrees (number_cmp s) (number_total s) (node_bound s) (number_tied s) a b low high

pub rank_once : (s : Stored) (a b : ℕ) → a < node_bound s → b < node_bound s → rank_at s a ≡ rank_at s b → a ≡ b
unfolding rank_at
rank_once s a b low high e = ranks_apart (number_cmp s) (number_total s) (node_bound s) (number_tied s) a b low high e

trans_agree : (p : ℕ) (a b : Tran) → nat_cmp (node_number p a) (node_number p b) ≡ tran_cmp a b
trans_agree p Rise Rise = tied_itself nat_cmp_total (node_number p Rise)
trans_agree p Rise Fall = less_told (node_number p Rise) (node_number p Fall) (omega arith)
trans_agree p Fall Rise = greater_told (node_number p Fall) (node_number p Rise) (omega arith)
trans_agree p Fall Fall = tied_itself nat_cmp_total (node_number p Fall)

then_agree : (o p q : Ordering) → (o ≡ Equal → p ≡ q) → ordering_then o p ≡ ordering_then o q
then_agree Less p q h = refl
then_agree Equal p q h = h refl
then_agree Greater p q h = refl

pub name_here : (s : Stored) (k : ℕ) (node : Node) → node_at s k ≡ Some node → name_told s k ≡ named node
name_here s k node e = ap (λ o. option_map_or named o ([], Rise)) e

-- the number of a node of a list of nodes
pub node_of_place : (nodes : List ℕ) (n : ℕ) → n < length nodes → node_of nodes n ≡ slice_index nodes n
node_of_place nodes n low = ap (λ (b : Bool). if b then slice_index nodes n else n - length nodes) (lt-ltb n (length nodes) low)

pub node_of_more : (nodes : List ℕ) (k : ℕ) → node_of nodes (length nodes + k) ≡ k
node_of_more nodes k =
    let past : nat_lt (length nodes + k) (length nodes) ≡ false =
    false_from_ne_true (nat_lt (length nodes + k) (length nodes)) (λ e. let low = ltb-true (length nodes + k) (length nodes) e in omega arith) in
    ap (λ (b : Bool). if b then slice_index nodes (length nodes + k) else (length nodes + k) - length nodes) past ∙ (let e : (length nodes + k) - length nodes ≡ k = omega arith in e)

-- such a number is below the bound of nodes
pub node_of_low : (nodes : List ℕ) (bound n : ℕ) → All (λ k. k < bound) nodes → n < length nodes + bound → node_of nodes n < bound
node_of_low nodes bound n all low = elim (cases_lt n (length nodes)) [
  | inl place ↦ subst (λ k. k < bound) (sym (node_of_place nodes n place)) (all n 0 place)
  | inr past ↦
      let is : nat_lt n (length nodes) ≡ false = false_from_ne_true (nat_lt n (length nodes)) (λ e. let f = ltb-true n (length nodes) e in omega arith) in
      subst (λ k. k < bound) (sym (ap (λ (b : Bool). if b then slice_index nodes n else n - length nodes) is)) (omega arith)
]

pub past_low : (places bound : ℕ) (ks : List ℕ) → All (λ k. k < bound) ks → All (λ n. n < places + bound) (map (λ k. places + k) ks)
past_low places bound ks all =
    All-map (λ n. n < places + bound) (λ k. places + k) ks (All-weaker (λ k. k < bound) (λ k. places + k < places + bound) (λ k low. omega arith) ks all)

pub past_all : (r : Result (List ℕ) Memory) (places bound : ℕ) (ks ls : List ℕ) → ls ≡ ks → All (λ n. n < bound) ks → IfOk r (λ moved. moved ≡ map (λ n. places + n) ls)
    → IfOk r (λ moved. All (λ n. n < places + bound) moved)
past_all (Ok moved) places bound ks ls e all is =
    subst (λ (ns : List ℕ). All (λ n. n < places + bound) ns) (sym (is ∙ ap (map (λ n. places + n)) e)) (past_low places bound ks all)
past_all (Err e) places bound ks ls same all is = tt

lt_told : (x y : ℕ) → is_lt (nat_cmp x y) ≡ nat_lt x y
lt_told x y = grind (arith, nat_tests)

-- whether one number comes before another, by their ranks
pub first_told : (s : Stored) (nodes : List ℕ) (a b : ℕ) → All (λ k. k < node_bound s) nodes → a < length nodes + node_bound s → b < length nodes + node_bound s
    → is_lt (number_cmp s (node_of nodes a) (node_of nodes b)) ≡ nat_lt (place_rank s nodes a) (place_rank s nodes b)
first_told s nodes a b all low high =
    sym (ap is_lt (ranks_agree s (node_of nodes a) (node_of nodes b) (node_of_low nodes (node_bound s) a all low) (node_of_low nodes (node_bound s) b all high)))
    ∙ lt_told (place_rank s nodes a) (place_rank s nodes b)

-- the number of a node is a pin's
pub number_there : (s : Stored) (k : ℕ) (n : Node) → node_at s k ≡ Some n → is_number s.pins (pin_under k) ≡ true
number_there s k n e =
    let m = mapped_back (λ (pin : Pin). record { pin = pin; tran = tran_under k }) (pin_numbered s (pin_under k)) n e in
    let name = then_back (pin_named s.design) (name_at s.pins (pin_under k)) m.0 m.1 in
    ap is_some name.1

pub record IsNodeNumber (s : Stored) (k : ℕ) : Type 0 where
  pub node : Node
  pub its : node_at s k ≡ Some node

module _ (s : Stored) (num : IsNumbered s) (linked : IsLinked s.design) where
  pub pin_name_here : (k : ℕ) (node : Node) → node_at s k ≡ Some node → pin_name_at s k ≡ name_of node.pin
  pin_name_here k node e =
      let h = has_node s num linked k node e in
      ap (λ n. unwrap_or (name_at s.pins n) []) (ap pin_under h.number ∙ under_number h.pin node.tran) ∙ ap (λ o. unwrap_or o []) h.has.name

  pub number_low : (k : ℕ) → IsNodeNumber s k → k < node_bound s
  number_low k n = node_below s n.node k (has_node s num linked k n.node n.its)

  -- numbers are in the order of the names of their nodes
  names_agree : (a b : ℕ) (x y : Node) → node_at s a ≡ Some x → node_at s b ≡ Some y → number_cmp s a b ≡ named_cmp (named x) (named y)
  names_agree a b x y e f =
      let h = has_node s num linked a x e in
      let i = has_node s num linked b y f in
      let first = pin_name_here a x e in
      let second = pin_name_here b y f in
      (λ k. ordering_then (slice_cmp nat_cmp (first k) (second k)) (nat_cmp a b))
      ∙ then_agree (slice_cmp nat_cmp (name_of x.pin) (name_of y.pin)) (nat_cmp a b) (tran_cmp x.tran y.tran) (λ same.
      let name : name_of x.pin ≡ name_of y.pin =
      same_is (name_of x.pin) (name_of y.pin) (sym (is_eq-slice_cmp (name_of x.pin) (name_of y.pin)) ∙ ap is_eq same) in
      let pin : h.pin ≡ i.pin = some_is (sym h.has.number ∙ ap (number_of s.pins) name ∙ i.has.number) in
      let one = h.number in
      let other : b ≡ node_number h.pin y.tran = i.number ∙ ap (λ p. node_number p y.tran) (sym pin) in
      (λ k. nat_cmp (one k) (other k)) ∙ trans_agree h.pin x.tran y.tran)

  -- nodes of one name have one number
  pub number_once : (a b : ℕ) (x y : Node) → node_at s a ≡ Some x → node_at s b ≡ Some y → named x ≡ named y → a ≡ b
  number_once a b x y e f same =
      number_tied s a b
      (names_agree a b x y e f ∙ ap (named_cmp (named x)) (sym same) ∙ sym (names_agree a a x x e e) ∙ tied_itself (number_total s) a)

  pub named_agree : (a b : ℕ) → IsNodeNumber s a → IsNodeNumber s b → nat_cmp (rank_at s a) (rank_at s b) ≡ named_cmp (name_told s a) (name_told s b)
  named_agree a b n m =
      let first = sym (name_here s a n.node n.its) in
      let second = sym (name_here s b m.node m.its) in
      ranks_agree s a b (number_low a n) (number_low b m) ∙ names_agree a b n.node m.node n.its m.its
      ∙ (λ k. named_cmp (first k) (second k))

  -- the name of a number that is told
  pub name_of_number : (k : ℕ) → is_number s.pins (pin_under k) ≡ true → (name : List ℕ) → name_at s.pins (pin_under k) ≡ Some name → (copy : List ℕ) → copy ≡ name
      → (tran : Tran) → tran ≡ tran_under k → ◌≡◌ {A = Named} (copy, tran) (name_told s k)
  name_of_number k e name at copy same tran is =
      let p = pin_at_number s num linked (pin_under k) e in
      let node : node_at s k ≡ Some (record { pin = p.0; tran = tran_under k }) = ap (option_map (λ (pin : Pin). record { pin = pin; tran = tran_under k })) p.1.pin in
      let told : name ≡ name_of p.0 = some_is (sym at ∙ p.1.name) in
      let whole : copy ≡ name_of p.0 = same ∙ told in
      let there : ◌≡◌ {A = Named} (copy, tran) (name_of p.0, tran_under k) = λ i. (whole i, is i) in
      there ∙ sym (name_here s k (record { pin = p.0; tran = tran_under k }) node)
