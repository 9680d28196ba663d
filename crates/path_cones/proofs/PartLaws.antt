-- Lists that stand side by side, one more each time.

use Rattle.std.proofs.Common.{◌≡◌, ℕ, ◌+◌, ◌-◌, ◌<◌, ◌≤◌, List, [], ◌∷◌, ◌++◌, length, take, drop, get_or, Option, sym, ap, subst, ◌∙◌, inl, inr, arith, length-append}
use Rattle.std.specs.Prelude.{slice_index, slice_range}
use Rattle.std.specs.List.{filter_map}
use Rattle.std.specs.Option.{option_to_list}
use Rattle.std.proofs.lemmas.Bool.{cases_eq}
use Rattle.std.proofs.lemmas.List.{get_or_append_left, get_or_default, get_or_push, take-append-le, drop-append-le, length-drop, take_all}
use Rattle.std.proofs.Math.Seq.{drop-append_seam}
use Rattle.timing_defs.specs.declared.kinds.Kind.{Kind}
use Rattle.pin_graph.specs.declared.arcs.GraphArc.{GraphArc}
use Rattle.netlist_store.specs.Numbering.{Stored}
use Rattle.pin_graph.specs.Graphs.{Graphed}
use Rattle.worst_walks.specs.declared.cones.WalkArc.{WalkArc}
use Rattle.pin_graph.proofs.ArcLaws.{mapped_more}
use Rattle.path_cones.specs.Reaching.{followed}
use Rattle.path_cones.specs.Delays.{walk_arc, arcs_placed}
use Rattle.path_cones.specs.FanIns.{part_at, AreParts}

module _ {X : Type 0} where
  range_left : (xs ys : List X) (a b : ℕ) → a ≤ b → b ≤ length xs → slice_range (xs ++ ys) a b ≡ slice_range xs a b
  range_left xs ys a b le low =
      let long = length-drop a xs in
      ap (take (b - a)) (drop-append-le a xs ys (omega arith)) ∙ take-append-le (b - a) (drop a xs) ys (omega arith)

  range_last : (xs ys : List X) (a b : ℕ) → a ≡ length xs → b ≡ length xs + length ys → slice_range (xs ++ ys) a b ≡ ys
  range_last xs ys a b here there =
      ap (λ n. take (b - n) (drop n (xs ++ ys))) here ∙ ap (take (b - length xs)) (drop-append_seam xs ys)
      ∙ take_all (b - length xs) ys (omega arith)

  pub parts_none : (part : ℕ → List X) (starts : List ℕ) (items : List X) → starts ≡ 0 ∷ [] → items ≡ [] → AreParts 0 part starts items
  parts_none part starts items s e = record {
    long = ap length s;
    last = ap (λ xs. slice_index xs 0) s ∙ sym (ap length e);
    rising = λ n low. absurd (omega arith);
    stored = λ n low. absurd (omega arith);
    each = λ n low. absurd (omega arith);
  }

  pub parts_more : (part : ℕ → List X) (k next : ℕ) (starts starts' : List ℕ) (items items' more : List X) → AreParts k part starts items
      → more ≡ part k → items' ≡ items ++ more → next ≡ length items' → starts' ≡ starts ++ next ∷ [] → AreParts (k + 1) part starts' items'
  parts_more part k next starts starts' items items' more h is put count noted =
      let long = h.long in
      let last = h.last in
      let longer : length items' ≡ length items + length more = ap length put ∙ length-append items more in
      let kept : (n : ℕ) → n < length starts → slice_index starts' n ≡ slice_index starts n =
      (λ n low. ap (λ xs. slice_index xs n) noted ∙ get_or_append_left starts (next ∷ []) 0 n low) in
      let end : slice_index starts' (k + 1) ≡ next =
      ap (λ xs. slice_index xs (k + 1)) noted ∙ get_or_push starts next 0 (k + 1) long in
      record {
        long = ap length noted ∙ length-append starts (next ∷ []) ∙ ap (λ n. n + 1) long;
        last = end ∙ count;
        rising = λ n low. elim (cases_eq n k) [
          | inl same ↦
              let a = kept k (omega arith) in
              subst (λ m. slice_index starts' m ≤ slice_index starts' (m + 1)) (sym same) (omega (arith, a, end, last, longer, count))
          | inr other ↦
              let a = kept n (omega arith) in
              let b = kept (n + 1) (omega arith) in
              let r = h.rising n (omega arith) in
              omega (arith, a, b, r)
        ];
        stored = λ n low. elim (cases_eq n k) [
          | inl same ↦ subst (λ m. slice_index starts' (m + 1) ≤ length items') (sym same) (omega (arith, end, count))
          | inr other ↦
              let b = kept (n + 1) (omega arith) in
              let r = h.stored n (omega arith) in
              omega (arith, b, r, longer)
        ];
        each = λ n low. elim (cases_eq n k) [
          | inl same ↦
              let a = kept k (omega arith) in
              subst (λ m. part_at starts' items' m ≡ part m) (sym same)
              (ap (λ xs. slice_range xs (slice_index starts' k) (slice_index starts' (k + 1))) put
              ∙ range_last items more (slice_index starts' k) (slice_index starts' (k + 1)) (a ∙ last) (end ∙ count ∙ longer) ∙ is)
          | inr other ↦
              let a = kept n (omega arith) in
              let b = kept (n + 1) (omega arith) in
              ap (λ xs. slice_range xs (slice_index starts' n) (slice_index starts' (n + 1))) put
              ∙ ap (λ i. slice_range (items ++ more) i (slice_index starts' (n + 1))) a
              ∙ ap (λ i. slice_range (items ++ more) (slice_index starts n) i) b
              ∙ range_left items more (slice_index starts n) (slice_index starts (n + 1)) (h.rising n (omega arith)) (h.stored n (omega arith))
              ∙ h.each n (omega arith)
        ];
      }

-- one arc more
pub walked_more : (s : Stored) (kind : Kind) (nodes : List ℕ) (base ys ys' : List WalkArc) (xs : List GraphArc) (i : ℕ) (d : GraphArc) (o : Option WalkArc) → i < length xs
    → o ≡ walk_arc s kind nodes (get_or xs i d) → ys ≡ base ++ filter_map (walk_arc s kind nodes) (take i xs) → ys' ≡ ys ++ option_to_list o
    → ys' ≡ base ++ filter_map (walk_arc s kind nodes) (take (i + 1) xs)
walked_more s kind nodes base ys ys' xs i d o low is had put =
    mapped_more (walk_arc s kind nodes) base ys ys' xs i (get_or xs i d) o low (get_or_default xs i d (get_or xs i d) low) is had put

-- the arcs into the node at one more place
pub placed_more : (g : Graphed) (kind : Kind) (nodes items : List ℕ) (k d next : ℕ) (into : List GraphArc) (starts starts' : List ℕ) (arcs arcs' : List WalkArc)
    → AreParts k (arcs_placed g kind nodes) starts arcs → items ≡ nodes → k < length items → into ≡ followed g (get_or items k d)
    → arcs' ≡ arcs ++ filter_map (walk_arc g.stored kind nodes) into → next ≡ length arcs' → starts' ≡ starts ++ next ∷ []
    → AreParts (k + 1) (arcs_placed g kind nodes) starts' arcs'
placed_more g kind nodes items k d next into starts starts' arcs arcs' h same low is put count noted =
    let here : get_or items k d ≡ slice_index nodes k = get_or_default items k d 0 low ∙ ap (λ ns. slice_index ns k) same in
    parts_more (arcs_placed g kind nodes) k next starts starts' arcs arcs' (filter_map (walk_arc g.stored kind nodes) into) h
    (ap (filter_map (walk_arc g.stored kind nodes)) (is ∙ ap (followed g) here)) put count noted
