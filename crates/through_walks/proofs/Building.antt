-- Building the layered cone part by part.

use Rattle.std.proofs.Common.{◌≡◌, ℕ, ◌+◌, ◌-◌, ◌<◌, ◌≤◌, List, [], ◌∷◌, ◌++◌, length, take, drop, sym, ap, subst, ◌∙◌, inl, inr, arith, length-append}
use Rattle.std.specs.Prelude.{slice_index, slice_range}
use Rattle.std.proofs.lemmas.Bool.{cases_eq}
use Rattle.std.proofs.lemmas.List.{get_or_append_left, get_or_push, take-append-le, drop-append-le, length-drop, take_all}
use Rattle.std.proofs.Math.Seq.{drop-append_seam}
use Rattle.through_walks.specs.Layers.{AreParts}

module _ {X : Type 0} where
  range_left : (xs ys : List X) (a b : ℕ) → a ≤ b → b ≤ length xs → slice_range (xs ++ ys) a b ≡ slice_range xs a b
  range_left xs ys a b le low =
      let long = length-drop a xs in
      ap (take (b - a)) (drop-append-le a xs ys (omega arith)) ∙ take-append-le (b - a) (drop a xs) ys (omega arith)

  range_last : (xs ys : List X) (a b : ℕ) → a ≡ length xs → b ≡ length xs + length ys → slice_range (xs ++ ys) a b ≡ ys
  range_last xs ys a b here there =
      ap (λ n. take (b - n) (drop n (xs ++ ys))) here ∙ ap (take (b - length xs)) (drop-append_seam xs ys)
      ∙ take_all (b - length xs) ys (omega arith)

  pub parts_none : (part : ℕ → List X) (starts : List ℕ) (items : List X) → starts ≡ 0 ∷ [] → items ≡ [] → AreParts 0 part starts items
  parts_none part starts items s e = record {
    long = ap length s;
    last = ap (λ xs. slice_index xs 0) s ∙ sym (ap length e);
    rising = λ n low. absurd (omega arith);
    stored = λ n low. absurd (omega arith);
    each = λ n low. absurd (omega arith);
  }

  pub parts_more : (part : ℕ → List X) (k next : ℕ) (starts starts' : List ℕ) (items items' : List X) → AreParts k part starts items
      → items' ≡ items ++ part k → next ≡ length items' → starts' ≡ starts ++ next ∷ [] → AreParts (k + 1) part starts' items'
  parts_more part k next starts starts' items items' h put count noted =
      let long = h.long in
      let last = h.last in
      let longer : length items' ≡ length items + length (part k) = ap length put ∙ length-append items (part k) in
      let kept : (n : ℕ) → n < length starts → slice_index starts' n ≡ slice_index starts n =
      (λ n low. ap (λ xs. slice_index xs n) noted ∙ get_or_append_left starts (next ∷ []) 0 n low) in
      let end : slice_index starts' (k + 1) ≡ next =
      ap (λ xs. slice_index xs (k + 1)) noted ∙ get_or_push starts next 0 (k + 1) long in
      record {
        long = ap length noted ∙ length-append starts (next ∷ []) ∙ ap (λ n. n + 1) long;
        last = end ∙ count;
        rising = λ n low. elim (cases_eq n k) [
          | inl same ↦
              let a = kept k (omega arith) in
              subst (λ m. slice_index starts' m ≤ slice_index starts' (m + 1)) (sym same) (omega (arith, a, end, last, longer, count))
          | inr other ↦
              let a = kept n (omega arith) in
              let b = kept (n + 1) (omega arith) in
              let r = h.rising n (omega arith) in
              omega (arith, a, b, r)
        ];
        stored = λ n low. elim (cases_eq n k) [
          | inl same ↦ subst (λ m. slice_index starts' (m + 1) ≤ length items') (sym same) (omega (arith, end, count))
          | inr other ↦
              let b = kept (n + 1) (omega arith) in
              let r = h.stored n (omega arith) in
              omega (arith, b, r, longer)
        ];
        each = λ n low. elim (cases_eq n k) [
          | inl same ↦
              let a = kept k (omega arith) in
              subst (λ m. slice_range items' (slice_index starts' m) (slice_index starts' (m + 1)) ≡ part m) (sym same)
              (ap (λ xs. slice_range xs (slice_index starts' k) (slice_index starts' (k + 1))) put
              ∙ range_last items (part k) (slice_index starts' k) (slice_index starts' (k + 1)) (a ∙ last) (end ∙ count ∙ longer))
          | inr other ↦
              let a = kept n (omega arith) in
              let b = kept (n + 1) (omega arith) in
              ap (λ xs. slice_range xs (slice_index starts' n) (slice_index starts' (n + 1))) put
              ∙ ap (λ i. slice_range (items ++ part k) i (slice_index starts' (n + 1))) a
              ∙ ap (λ i. slice_range (items ++ part k) (slice_index starts n) i) b
              ∙ range_left items (part k) (slice_index starts n) (slice_index starts (n + 1)) (h.rising n (omega arith)) (h.stored n (omega arith))
              ∙ h.each n (omega arith)
        ];
      }
