-- Lists of nodes that grow by the nodes before them, and the same in another order.

use Rattle.std.proofs.Common.{◌≡◌, ℕ, zero, suc, ◌+◌, ◌^◌, ◌<◌, ◌≤◌, Bool, true, false, ◌||◌, if◌then◌else◌, List, [], ◌∷◌, ◌++◌, map, length, get_or, Option, Some, None, refl, sym, ap, subst, ◌∙◌, inl, inr, arith}
use Rattle.std.specs.Prelude.{nat_eq, All, slice_get, slice_index, option_map, option_and_then}
use Rattle.std.specs.List.{list_any, IsDistinct, AllByRecursion}
use Rattle.std.proofs.lemmas.Bool.{cases_eq, eqb-true, eq-eqb, or_cases, or_right, both_ways, false≢true}
use Rattle.std.proofs.lemmas.List.{append_assoc, append-nil, get_or_append_left}
use Rattle.std.proofs.lemmas.List.Elements.{All-append, All-cons, All-nil, All-head, All-tail, All-map, All-weaker, All-contains_itself}
use Rattle.std.proofs.lemmas.List.Folds.{list_any-append}
use Rattle.std.proofs.lemmas.Option.{none-some, slice_get_within, get_or_from_slice_get}
use Rattle.indexmap.specs.IndexSet.{insert_key, insert_all}
use Rattle.timing_defs.specs.Netlist.{Node, pin_named}
use Rattle.netlist_store.specs.Numbering.{Stored, name_at}
use Rattle.pin_graph.specs.declared.arcs.GraphArc.{GraphArc}
use Rattle.pin_graph.specs.Nodes.{node_at, node_bound, pin_under, tran_under}
use Rattle.pin_graph.specs.Graphs.{Graphed, IsGraph, IsArc, from_of, fan_at, network_at}
use Rattle.store_pins.proofs.PinLaws.{below_bound}
use Rattle.path_cones.specs.Reaching.{is_among, AreAmong, followed, AreClosed, AreConeNodes, AreReached, AreOnce, AreTheSame}

-- a list after some insertions begins as it was, and has no others than those inserted
pub record IsGrown (P : ℕ → Type 0) (old new xs : List ℕ) : Type 0 where
  pub more : List ℕ
  pub is : new ≡ old ++ more
  pub kept : All P more
  pub there : All (λ x. is_among new x ≡ true) xs

among_left : (old more : List ℕ) (n : ℕ) → is_among old n ≡ true → is_among (old ++ more) n ≡ true
among_left old more n h = list_any-append (nat_eq n) old more ∙ ap (λ b. b || list_any (nat_eq n) more) h

among_last : (old : List ℕ) (n : ℕ) → is_among (old ++ n ∷ []) n ≡ true
among_last old n =
    list_any-append (nat_eq n) old (n ∷ [])
    ∙ or_right (list_any (nat_eq n) old) (list_any (nat_eq n) (n ∷ [])) (ap (λ b. b || false) (eq-eqb n n refl))

module _ (P : ℕ → Type 0) where
  grown_one : (old : List ℕ) (x : ℕ) (b : Bool) → P x → is_among old x ≡ b → IsGrown P old (if b then old else old ++ x ∷ []) (x ∷ [])
  grown_one old x true p e = record {
    more = [];
    is = sym (append-nil old);
    kept = All-nil P;
    there = All-cons (λ y. is_among old y ≡ true) x [] e (All-nil (λ y. is_among old y ≡ true));
  }
  grown_one old x false p e = record {
    more = x ∷ [];
    is = refl;
    kept = All-cons P x [] p (All-nil P);
    there = All-cons (λ y. is_among (old ++ x ∷ []) y ≡ true) x [] (among_last old x) (All-nil (λ y. is_among (old ++ x ∷ []) y ≡ true));
  }

  pub grown : (xs old : List ℕ) → All P xs → IsGrown P old (insert_all nat_eq old xs) xs
  grown [] old p = record { more = []; is = sym (append-nil old); kept = All-nil P; there = All-nil (λ x. is_among old x ≡ true) }
  grown (x ∷ xs) old p =
      let one = grown_one old x (is_among old x) (All-head P x xs p) refl in
      let rest = grown xs (insert_key nat_eq old x) (All-tail P x xs p) in
      let here : is_among (insert_key nat_eq old x) x ≡ true = All-head (λ y. is_among (insert_key nat_eq old x) y ≡ true) x [] one.there in
      record {
        more = one.more ++ rest.more;
        is = rest.is ∙ ap (λ ys. ys ++ rest.more) one.is ∙ append_assoc old one.more rest.more;
        kept = All-append P one.more rest.more one.kept rest.kept;
        there = All-cons (λ y. is_among (insert_all nat_eq old (x ∷ xs)) y ≡ true) x xs
            (subst (λ ys. is_among ys x ≡ true) (sym rest.is) (among_left (insert_key nat_eq old x) rest.more x here)) rest.there;
      }

-- the arcs into the first nodes have been seen
pub record IsReaching (g : Graphed) (ends nodes : List ℕ) (k : ℕ) : Type 0 where
  pub targets : All (λ e. is_among nodes e ≡ true) ends
  pub sources : (i : ℕ) → i < k → i < length nodes → AreAmong nodes (followed g (slice_index nodes i))
  pub below : All (λ n. n < node_bound g.stored) nodes

pub reaching_none : (g : Graphed) (ends nodes : List ℕ) → All (λ e. e < node_bound g.stored) ends → nodes ≡ insert_all nat_eq [] ends → IsReaching g ends nodes 0
reaching_none g ends nodes low e =
    let h = grown (λ n. n < node_bound g.stored) ends [] low in
    subst (λ ns. IsReaching g ends ns 0) (sym e) (record {
      targets = h.there;
      sources = λ i under. absurd (omega arith);
      below = subst (All (λ n. n < node_bound g.stored)) (sym h.is) h.kept;
    })

-- the number of a node is below the bound
number_low : (s : Stored) (n : ℕ) (node : Node) (o : Option (List ℕ)) → name_at s.pins (pin_under n) ≡ o → node_at s n ≡ Some node → pin_under n < length s.pins
number_low s n node None e at =
    absurd (none-some node (sym (ap (λ p. option_map (λ pin. record { pin = pin; tran = tran_under n }) (option_and_then (pin_named s.design) p)) e) ∙ at))
number_low s n node (Some name) e at = below_bound s.pins name (pin_under n) e

pub from_low : (s : Stored) (n : ℕ) (node : Node) → node_at s n ≡ Some node → n < node_bound s
from_low s n node at =
    let low = number_low s n node (name_at s.pins (pin_under n)) refl at in
    omega arith

-- the arcs into a node are those of the design
pub arcs_sound : (g : Graphed) (n : ℕ) → IsGraph g → n < node_bound g.stored → All (IsArc g.stored) (fan_at g.ins n)
arcs_sound g n is low = λ i d l. ((is.ins n low).sound (get_or (fan_at g.ins n) i d) (All-contains_itself (fan_at g.ins n) i d l)).0

-- the arcs that are followed into a node lead from nodes
followed-low : (g : Graphed) (n : ℕ) (b : Bool) → IsGraph g → n < node_bound g.stored → All (λ arc. arc.from < node_bound g.stored) (if b then [] else fan_at g.ins n)
followed-low g n true is low = All-nil (λ (arc : GraphArc). arc.from < node_bound g.stored)
followed-low g n false is low = λ i d l.
    let arc = ((is.ins n low).sound (get_or (fan_at g.ins n) i d) (All-contains_itself (fan_at g.ins n) i d l)).0 in
    from_low g.stored (get_or (fan_at g.ins n) i d).from arc.from arc.from_number

sources_low : (g : Graphed) (n : ℕ) → IsGraph g → n < node_bound g.stored → All (λ x. x < node_bound g.stored) (map from_of (followed g n))
sources_low g n is low = All-map (λ x. x < node_bound g.stored) from_of (followed g n) (followed-low g n (network_at g n) is low)

sources_among : (nodes : List ℕ) (arcs : List GraphArc) → All (λ x. is_among nodes x ≡ true) (map from_of arcs) → AreAmong nodes arcs
sources_among nodes [] h = All-nil (λ (arc : GraphArc). is_among nodes arc.from ≡ true)
sources_among nodes (arc ∷ arcs) h =
    All-cons (λ (a : GraphArc). is_among nodes a.from ≡ true) arc arcs (All-head (λ x. is_among nodes x ≡ true) arc.from (map from_of arcs) h)
    (sources_among nodes arcs (All-tail (λ x. is_among nodes x ≡ true) arc.from (map from_of arcs) h))

among_weaker : (old new more : List ℕ) → new ≡ old ++ more → (n : ℕ) → is_among old n ≡ true → is_among new n ≡ true
among_weaker old new more e n h = subst (λ ns. is_among ns n ≡ true) (sym e) (among_left old more n h)

-- one node more
pub reaching_more : (g : Graphed) (ends nodes new : List ℕ) (k node : ℕ) → IsGraph g → IsReaching g ends nodes k → Some node ≡ slice_get nodes k
    → new ≡ insert_all nat_eq nodes (map from_of (followed g node)) → IsReaching g ends new (k + 1)
reaching_more g ends nodes new k node is h at e =
    let under : k < length nodes = slice_get_within nodes k node (sym at) in
    let here : slice_index nodes k ≡ node = get_or_from_slice_get nodes k node 0 (sym at) in
    let low : node < node_bound g.stored = subst (λ n. n < node_bound g.stored) here (h.below k 0 under) in
    let r = grown (λ n. n < node_bound g.stored) (map from_of (followed g node)) nodes (sources_low g node is low) in
    let to : new ≡ nodes ++ r.more = e ∙ r.is in
    let among : (n : ℕ) → is_among nodes n ≡ true → is_among new n ≡ true = among_weaker nodes new r.more to in
    let same : (i : ℕ) → i < length nodes → slice_index new i ≡ slice_index nodes i =
    (λ i l. ap (λ ns. slice_index ns i) to ∙ get_or_append_left nodes r.more 0 i l) in
    record {
      targets = All-weaker (λ x. is_among nodes x ≡ true) (λ x. is_among new x ≡ true) among ends h.targets;
      sources = λ i l m.
          elim (cases_eq i k) [
            | inl at_k ↦
                subst (λ n. AreAmong new (followed g n)) (sym (ap (slice_index new) at_k ∙ same k under ∙ here))
                (sources_among new (followed g node) (subst (λ ns. All (λ x. is_among ns x ≡ true) (map from_of (followed g node))) (sym e) r.there))
            | inr other ↦
                let before : i < k = omega arith in
                subst (λ n. AreAmong new (followed g n)) (sym (same i (omega arith)))
                (All-weaker (λ (a : GraphArc). is_among nodes a.from ≡ true) (λ a. is_among new a.from ≡ true) (λ a. among a.from)
                (followed g (slice_index nodes i)) (h.sources i before (omega arith)))
          ];
      below = subst (All (λ n. n < node_bound g.stored)) (sym to) (All-append (λ n. n < node_bound g.stored) nodes r.more h.below r.kept);
    }

pub node_low : (g : Graphed) (ends nodes : List ℕ) (k node : ℕ) → IsReaching g ends nodes k → Some node ≡ slice_get nodes k → node < node_bound g.stored
node_low g ends nodes k node h at =
    subst (λ n. n < node_bound g.stored) (get_or_from_slice_get nodes k node 0 (sym at)) (h.below k 0 (slice_get_within nodes k node (sym at)))

-- each node that is among a list has a place in it
pub place_of : (nodes : List ℕ) (n : ℕ) → is_among nodes n ≡ true → (i : ℕ) × (i < length nodes) × (slice_index nodes i ≡ n)
place_of [] n h = absurd (false≢true h)
place_of (x ∷ xs) n h = elim (or_cases (nat_eq n x) (is_among xs n) h) [
  | inl same ↦ (0, omega arith, sym (eqb-true n x same))
  | inr later ↦ let r = place_of xs n later in let low = r.1 in (suc r.0, omega arith, r.2)
]

-- distinct keys stand at one place each
not_later : (x : ℕ) (xs : List ℕ) (i : ℕ) → AllByRecursion (λ y. nat_eq x y ≡ false) xs → i < length xs → slice_index xs i ≡ x → ⊥
not_later x [] i h low e = absurd (omega arith)
not_later x (y ∷ ys) zero h low e = both_ways (nat_eq x y) h.0 (eq-eqb x y (sym e))
not_later x (y ∷ ys) (suc i) h low e = not_later x ys i h.1 (omega arith) e

pub apart_by : (nodes : List ℕ) → IsDistinct nat_eq nodes → AreOnce nodes
unfolding IsDistinct
apart_by [] h a b la lb e = absurd (omega arith)
apart_by (x ∷ xs) h zero zero la lb e = refl
apart_by (x ∷ xs) h zero (suc b) la lb e = absurd (not_later x xs b h.0 (omega arith) (sym e))
apart_by (x ∷ xs) h (suc a) zero la lb e = absurd (not_later x xs a h.0 (omega arith) e)
apart_by (x ∷ xs) h (suc a) (suc b) la lb e = ap suc (apart_by xs h.1 a b (omega arith) (omega arith) e)

get_past : (nodes : List ℕ) (k : ℕ) → slice_get nodes k ≡ None → length nodes ≤ k
get_past [] k e = omega arith
get_past (x ∷ xs) zero e = absurd (none-some x (sym e))
get_past (x ∷ xs) (suc k) e = let rest = get_past xs k e in omega arith

-- each of some nodes is below the bound
all_below : (g : Graphed) (nodes : List ℕ) → All (λ n. n < node_bound g.stored) nodes → (n : ℕ) → is_among nodes n ≡ true → n < node_bound g.stored
all_below g nodes low n among = let p = place_of nodes n among in subst (λ m. m < node_bound g.stored) p.2 (low p.0 0 p.1)

-- all nodes
pub reaching_all : (g : Graphed) (ends nodes : List ℕ) (k : ℕ) → IsReaching g ends nodes k → slice_get nodes k ≡ None → k < 2 ^ 22 → AreReached g ends nodes
reaching_all g ends nodes k h at few =
    let past : length nodes ≤ k = get_past nodes k at in
    record {
      some = record { targets = h.targets; below = all_below g nodes h.below; few = omega arith };
      sources = λ n among. (let p = place_of nodes n among in let low = p.1 in subst (λ m. AreAmong nodes (followed g m)) p.2 (h.sources p.0 (omega arith) low));
    }

-- the same nodes in another order
pub some_again : (g : Graphed) (ends old new : List ℕ) → AreConeNodes g ends old → AreTheSame old new → length new ≡ length old → AreConeNodes g ends new
some_again g ends old new h same long =
    let few = h.few in
    record {
      targets = All-weaker (λ x. is_among old x ≡ true) (λ x. is_among new x ≡ true) (λ n among. same n ∙ among) ends h.targets;
      below = λ n among. h.below n (sym (same n) ∙ among);
      few = omega arith;
    }

pub closed_again : (g : Graphed) (old new : List ℕ) → AreClosed g old → AreTheSame old new → AreClosed g new
closed_again g old new closed same n among =
    All-weaker (λ (a : GraphArc). is_among old a.from ≡ true) (λ a. is_among new a.from ≡ true) (λ a among_a. same a.from ∙ among_a) (followed g n)
    (closed n (sym (same n) ∙ among))

-- end nodes and further nodes
module _ (g : Graphed) (ends nodes found all : List ℕ) (low : All (λ n. n < node_bound g.stored) ends) (under : All (λ n. n < node_bound g.stored) nodes) (e : found ≡ insert_all nat_eq [] ends)
    (f : all ≡ insert_all nat_eq found nodes) where
  grown_ends : IsGrown (λ n. n < node_bound g.stored) [] (insert_all nat_eq [] ends) ends
  grown_ends = grown (λ n. n < node_bound g.stored) ends [] low

  grown_all : IsGrown (λ n. n < node_bound g.stored) found (insert_all nat_eq found nodes) nodes
  grown_all = grown (λ n. n < node_bound g.stored) nodes found under

  pub further_among : All (λ n. is_among all n ≡ true) nodes
  further_among = subst (λ ns. All (λ n. is_among ns n ≡ true) nodes) (sym f) grown_all.there

  pub further_some : length all < 2 ^ 22 → AreConeNodes g ends all
  further_some few = record {
    targets =
        All-weaker (λ x. is_among found x ≡ true) (λ x. is_among all x ≡ true) (among_weaker found all grown_all.more (f ∙ grown_all.is)) ends
        (subst (λ ns. All (λ n. is_among ns n ≡ true) ends) (sym e) grown_ends.there);
    below = all_below g all
        (subst (All (λ n. n < node_bound g.stored)) (sym (f ∙ grown_all.is))
        (All-append (λ n. n < node_bound g.stored) found grown_all.more (subst (All (λ n. n < node_bound g.stored)) (sym (e ∙ grown_ends.is)) grown_ends.kept) grown_all.kept));
    few = few;
  }
