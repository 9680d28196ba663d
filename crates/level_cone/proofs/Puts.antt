-- Rows that are put to their places in turn.

use Rattle.std.proofs.Common.{◌≡◌, ℕ, zero, suc, ◌+◌, ◌<◌, ◌==◌, Bool, true, false, cond, ◌||◌, List, [], ◌∷◌, map, length, get_or, take, add-one, refl, ap, sym, subst, ◌∙◌, inl, inr, arith}
use Rattle.std.specs.Prelude.{All, slice_set}
use Rattle.std.specs.List.{list_any}
use Rattle.std.proofs.lemmas.Bool.{cases_Bool, cases_eq, eq-eqb, ne_eqb}
use Rattle.std.proofs.lemmas.List.{length-set, length-map, get_or-set_same, get_or-set_other, get_or-map, same_lists}
use Rattle.std.proofs.lemmas.List.Elements.{All-head, All-tail}
use Rattle.level_cone.specs.Cone.{put_all}

-- functions that agree on some numbers give the same of them
pub map_agree : {R : Type 0} (f g : ℕ → R) (nodes : List ℕ) → All (λ n. f n ≡ g n) nodes → map f nodes ≡ map g nodes
map_agree f g [] alike = refl
map_agree f g (n ∷ nodes) alike =
    rw (All-head (λ m. f m ≡ g m) n nodes alike, map_agree f g nodes (All-tail (λ m. f m ≡ g m) n nodes alike)) refl

module _ {R : Type 0} where
  pub length-put_all : (rows : List R) (nodes : List ℕ) (news : List R) → length (put_all rows nodes news) ≡ length rows
  length-put_all rows [] news = refl
  length-put_all rows (n ∷ nodes) [] = refl
  length-put_all rows (n ∷ nodes) (r ∷ news) = length-put_all (slice_set rows n r) nodes news ∙ length-set rows n r

  put_suc : (rows : List R) (nodes : List ℕ) (news : List R) (i d : ℕ) (e : R) → i < length nodes → i < length news
      → put_all rows (take (suc i) nodes) (take (suc i) news) ≡ slice_set (put_all rows (take i nodes) (take i news)) (get_or nodes i d) (get_or news i e)
  put_suc rows [] news i d e within inside = absurd (omega arith)
  put_suc rows (n ∷ nodes) [] i d e within inside = absurd (omega arith)
  put_suc rows (n ∷ nodes) (r ∷ news) zero d e within inside = refl
  put_suc rows (n ∷ nodes) (r ∷ news) (suc i) d e within inside = put_suc (slice_set rows n r) nodes news i d e (omega arith) (omega arith)

  -- one row more, as a loop over the nodes puts it
  pub put_more : (rows : List R) (nodes : List ℕ) (news : List R) (i d : ℕ) (e : R) → i < length nodes → i < length news
      → put_all rows (take (i + 1) nodes) (take (i + 1) news) ≡ slice_set (put_all rows (take i nodes) (take i news)) (get_or nodes i d) (get_or news i e)
  put_more rows nodes news i d e within inside =
      subst (λ (m : ℕ). put_all rows (take m nodes) (take m news) ≡ slice_set (put_all rows (take i nodes) (take i news)) (get_or nodes i d) (get_or news i e))
      (sym (add-one i)) (put_suc rows nodes news i d e within inside)

  -- the same, with the rows so far
  pub put_more_at : (rows so_far : List R) (nodes : List ℕ) (news : List R) (i d : ℕ) (e : R) → i < length nodes → i < length news
      → so_far ≡ put_all rows (take i nodes) (take i news)
      → slice_set so_far (get_or nodes i d) (get_or news i e) ≡ put_all rows (take (i + 1) nodes) (take (i + 1) news)
  put_more_at rows so_far nodes news i d e within inside is =
      ap (λ (xs : List R). slice_set xs (get_or nodes i d) (get_or news i e)) is ∙ sym (put_more rows nodes news i d e within inside)

  put_one : (now : ℕ → R) (d : R) (rows : List R) (x n : ℕ) (b : Bool) → x < length rows
      → cond b (now n) (get_or (slice_set rows x (now x)) n d) ≡ cond ((x == n) || b) (now n) (get_or rows n d)
  put_one now d rows x n true low = elim (cases_Bool (x == n)) [
    | inl e ↦ rw e refl
    | inr e ↦ rw e refl
  ]
  put_one now d rows x n false low = elim (cases_eq x n) [
    | inl same ↦ rw (eq-eqb x n same) (subst (λ (m : ℕ). get_or (slice_set rows x (now x)) m d ≡ now m) same (get_or-set_same rows x (now x) d low))
    | inr other ↦ rw (ne_eqb x n other) (get_or-set_other rows x n (now x) d (λ e. other (sym e)))
  ]

  -- a place has its new row where it is among those that were put, else its old one
  pub put_all_at : (now : ℕ → R) (d : R) (rows : List R) (nodes : List ℕ) → All (λ n. n < length rows) nodes
      → (n : ℕ) → get_or (put_all rows nodes (map now nodes)) n d ≡ cond (list_any (λ y. y == n) nodes) (now n) (get_or rows n d)
  put_all_at now d rows [] low n = refl
  put_all_at now d rows (x ∷ nodes) low n =
      put_all_at now d (slice_set rows x (now x)) nodes
      (λ k e within. omega (arith, All-tail (λ (y : ℕ). y < length rows) x nodes low k e within, length-set rows x (now x))) n
      ∙ put_one now d rows x n (list_any (λ y. y == n) nodes) (All-head (λ (y : ℕ). y < length rows) x nodes low)

  -- as many rows as nodes, each the new one of its node
  pub news_are : (now : ℕ → R) (nodes : List ℕ) (news : List R) → length news ≡ length nodes
      → ((k d : ℕ) (e : R) → k < length nodes → get_or news k e ≡ now (get_or nodes k d)) → news ≡ map now nodes
  news_are now nodes news long told = same_lists news (map now nodes) (long ∙ sym (length-map nodes now))
      (λ k e within.
      let low : k < length nodes = omega arith in
      told k 0 e low ∙ sym (get_or-map now nodes k 0 e low))
