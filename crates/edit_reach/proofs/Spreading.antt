-- Lists of nodes that grow by the nodes behind them.

use Rattle.std.proofs.Common.{◌≡◌, ℕ, zero, suc, ◌+◌, ◌<◌, ◌≤◌, true, ◌||◌, List, [], ◌∷◌, ◌++◌, map, length, get_or, Some, None, sym, ap, subst, ◌∙◌, inl, inr, arith}
use Rattle.std.specs.Prelude.{nat_eq, All, slice_get, slice_index}
use Rattle.std.specs.List.{list_any}
use Rattle.std.proofs.lemmas.Bool.{cases_eq}
use Rattle.std.proofs.lemmas.List.{get_or_append_left}
use Rattle.std.proofs.lemmas.List.Elements.{All-append, All-map, All-weaker, All-contains, All-contains_itself}
use Rattle.std.proofs.lemmas.List.Folds.{list_any-append}
use Rattle.std.proofs.lemmas.Option.{none-some, slice_get_within, get_or_from_slice_get}
use Rattle.indexmap.specs.IndexSet.{insert_all}
use Rattle.pin_graph.specs.declared.arcs.GraphArc.{GraphArc}
use Rattle.pin_graph.specs.Nodes.{node_bound}
use Rattle.pin_graph.specs.Graphs.{Graphed, IsGraph, to_of, fan_at}
use Rattle.timing_defs.proofs.Members.{in_map}
use Rattle.edit_reach.proofs.Insertions.{grown, from_low, place_of}
use Rattle.edit_reach.specs.Reach.{is_in, AreBehind}

-- the arcs out of the first nodes have been followed
pub record IsSpreading (g : Graphed) (seeds nodes : List ℕ) (k : ℕ) : Type 0 where
  pub first : All (λ n. is_in nodes n ≡ true) seeds
  pub onward : (i : ℕ) → i < k → i < length nodes → All (λ arc. is_in nodes arc.to ≡ true) (fan_at g.outs (slice_index nodes i))
  pub below : All (λ n. n < node_bound g.stored) nodes

pub spread_none : (g : Graphed) (seeds nodes : List ℕ) → All (λ n. n < node_bound g.stored) seeds → nodes ≡ insert_all nat_eq [] seeds → IsSpreading g seeds nodes 0
spread_none g seeds nodes low e =
    let h = grown (λ n. n < node_bound g.stored) seeds [] low in
    subst (λ ns. IsSpreading g seeds ns 0) (sym e) (record {
      first = h.there;
      onward = λ i under. absurd (omega arith);
      below = subst (All (λ n. n < node_bound g.stored)) (sym h.is) h.kept;
    })

-- arcs out of a node lead to nodes
targets_low : (g : Graphed) (n : ℕ) → IsGraph g → n < node_bound g.stored → All (λ x. x < node_bound g.stored) (map to_of (fan_at g.outs n))
targets_low g n is low = All-map (λ x. x < node_bound g.stored) to_of (fan_at g.outs n) (λ i d l.
    let arc = ((is.outs n low).sound (get_or (fan_at g.outs n) i d) (All-contains_itself (fan_at g.outs n) i d l)).0 in
    from_low g.stored (get_or (fan_at g.outs n) i d).to arc.to arc.to_number)

targets_in : (nodes : List ℕ) (arcs : List GraphArc) → All (λ x. is_in nodes x ≡ true) (map to_of arcs) → All (λ (a : GraphArc). is_in nodes a.to ≡ true) arcs
targets_in nodes arcs h = λ i d l.
    All-contains (λ x. is_in nodes x ≡ true) (map to_of arcs) (get_or arcs i d).to h (in_map to_of arcs (get_or arcs i d) (All-contains_itself arcs i d l))

in_more : (old new more : List ℕ) → new ≡ old ++ more → (n : ℕ) → is_in old n ≡ true → is_in new n ≡ true
in_more old new more e n h =
    subst (λ ns. is_in ns n ≡ true) (sym e) (list_any-append (nat_eq n) old more ∙ ap (λ b. b || list_any (nat_eq n) more) h)

pub spread_low : (g : Graphed) (seeds nodes : List ℕ) (k node : ℕ) → IsSpreading g seeds nodes k → Some node ≡ slice_get nodes k → node < node_bound g.stored
spread_low g seeds nodes k node h at =
    subst (λ n. n < node_bound g.stored) (get_or_from_slice_get nodes k node 0 (sym at)) (h.below k 0 (slice_get_within nodes k node (sym at)))

-- one node more
pub spread_more : (g : Graphed) (seeds nodes new : List ℕ) (k node : ℕ) → IsGraph g → IsSpreading g seeds nodes k → Some node ≡ slice_get nodes k
    → new ≡ insert_all nat_eq nodes (map to_of (fan_at g.outs node)) → IsSpreading g seeds new (k + 1)
spread_more g seeds nodes new k node is h at e =
    let under : k < length nodes = slice_get_within nodes k node (sym at) in
    let here : slice_index nodes k ≡ node = get_or_from_slice_get nodes k node 0 (sym at) in
    let low : node < node_bound g.stored = spread_low g seeds nodes k node h at in
    let r = grown (λ n. n < node_bound g.stored) (map to_of (fan_at g.outs node)) nodes (targets_low g node is low) in
    let to : new ≡ nodes ++ r.more = e ∙ r.is in
    let kept : (n : ℕ) → is_in nodes n ≡ true → is_in new n ≡ true = in_more nodes new r.more to in
    let same : (i : ℕ) → i < length nodes → slice_index new i ≡ slice_index nodes i =
    (λ i l. ap (λ ns. slice_index ns i) to ∙ get_or_append_left nodes r.more 0 i l) in
    record {
      first = All-weaker (λ x. is_in nodes x ≡ true) (λ x. is_in new x ≡ true) kept seeds h.first;
      onward = λ i l m.
          elim (cases_eq i k) [
            | inl at_k ↦
                subst (λ n. All (λ (a : GraphArc). is_in new a.to ≡ true) (fan_at g.outs n)) (sym (ap (slice_index new) at_k ∙ same k under ∙ here))
                (targets_in new (fan_at g.outs node) (subst (λ ns. All (λ x. is_in ns x ≡ true) (map to_of (fan_at g.outs node))) (sym e) r.there))
            | inr other ↦
                let before : i < k = omega arith in
                subst (λ n. All (λ (a : GraphArc). is_in new a.to ≡ true) (fan_at g.outs n)) (sym (same i (omega arith)))
                (All-weaker (λ (a : GraphArc). is_in nodes a.to ≡ true) (λ a. is_in new a.to ≡ true) (λ a. kept a.to)
                (fan_at g.outs (slice_index nodes i)) (h.onward i before (omega arith)))
          ];
      below = subst (All (λ n. n < node_bound g.stored)) (sym to) (All-append (λ n. n < node_bound g.stored) nodes r.more h.below r.kept);
    }

get_past : (nodes : List ℕ) (k : ℕ) → slice_get nodes k ≡ None → length nodes ≤ k
get_past [] k e = omega arith
get_past (x ∷ xs) zero e = absurd (none-some x (sym e))
get_past (x ∷ xs) (suc k) e = let rest = get_past xs k e in omega arith

-- all nodes
pub spread_all : (g : Graphed) (seeds nodes : List ℕ) (k : ℕ) → IsSpreading g seeds nodes k → slice_get nodes k ≡ None → AreBehind g seeds nodes
spread_all g seeds nodes k h at =
    let past : length nodes ≤ k = get_past nodes k at in
    record {
      first = λ n among. (let p = place_of seeds n among in subst (λ m. is_in nodes m ≡ true) p.2 (h.first p.0 0 p.1));
      onward = λ n among.
          (let p = place_of nodes n among in let low = p.1 in subst (λ m. All (λ (a : GraphArc). is_in nodes a.to ≡ true) (fan_at g.outs m)) p.2 (h.onward p.0 (omega arith) low));
      below = λ n among. (let p = place_of nodes n among in subst (λ m. m < node_bound g.stored) p.2 (h.below p.0 0 p.1));
    }
