-- The nodes that an order is asked about.

use Rattle.std.proofs.Common.{◌≡◌, ℕ, ◌<◌, ◌≤◌, ℤ, inl, inr, List, ◌∷◌, Option, Some, None, refl, sym, ap, subst, arith}
use Rattle.std.specs.Prelude.{All, slice_get}
use Rattle.std.specs.Option.{option_and_then}
use Rattle.std.proofs.lemmas.Bool.{cases_eq}
use Rattle.std.proofs.lemmas.List.{get_or_default}
use Rattle.std.proofs.lemmas.List.Elements.{All-cons, All-weaker}
use Rattle.std.proofs.lemmas.Option.{option_and_then_some, slice_get_within, get_or_from_slice_get}
use Rattle.worst_walks.specs.declared.cones.Launch.{Launch}
use Rattle.worst_walks.specs.declared.cones.WalkEnd.{WalkEnd}
use Rattle.worst_walks.specs.declared.cones.Cone.{Cone}
use Rattle.worst_walks.specs.declared.cones.Walk.{Walk}
use Rattle.worst_walks.specs.declared.tables.Entry.{Entry}
use Rattle.worst_walks.specs.Best.{BestOf}
use Rattle.worst_walks.specs.Walks.{count_of, delay_between, launch_slack, comes_before, IsWalk, IsCone, IsEnd}
use Rattle.worst_walks.specs.Tables.{row_in, ahead, IsKnown, IsCandidate, IsFilled}
use Rattle.worst_walks.specs.Searches.{AreKnown, IsTo, IsBefore, IsTied, IsTiedBefore}
use Rattle.worst_walks.proofs.Naming.{walk_within}
use Rattle.worst_walks.proofs.Offers.{Walked, walked}
use Rattle.worst_walks.proofs.Optimal.{came}

-- the entries of a table
known-by : (rank : ℕ → ℕ) (count : ℕ) (cone : Cone) (k n : ℕ) (rows : List (Option Entry)) (o : Option Entry) → k ≤ count
    → BestOf (ahead rank) (IsCandidate cone rows k n) o → IsKnown count o
known-by rank count cone k n rows None low best = tt
known-by rank count cone k n rows (Some entry) low best =
    let c = best.0 in
    let under = c.1 in
    let via = came c.0 (row_in rows c.0) (delay_between cone n c.0) entry c.2 in
    let is : c.0 ≡ entry.next = ap (λ (x : Entry). x.next) via.is in
    omega arith

pub row_known : (rank : ℕ → ℕ) (count : ℕ) (cone : Cone) (end k : ℕ) (rows : List (Option Entry)) (n : ℕ) → k ≤ count → end < count
    → IsFilled rank cone end k rows → IsKnown count (row_in rows n)
row_known rank count cone end k rows n low there h = elim (cases_eq n end) [
  | inl same ↦ subst (λ m. IsKnown count (row_in rows m)) (sym same) (subst (IsKnown count) (sym h.last) there)
  | inr other ↦ known-by rank count cone k n rows (row_in rows n) low (h.each n other)
]

pub rows_known : (rank : ℕ → ℕ) (count : ℕ) (cone : Cone) (end k : ℕ) (rows : List (Option Entry)) → k ≤ count → end < count
    → IsFilled rank cone end k rows → All (IsKnown count) rows
rows_known rank count cone end k rows low there h = λ i d under.
    subst (IsKnown count) (get_or_default rows i None d under) (row_known rank count cone end k rows i low there h)

-- the nodes of walks
module _ (rank : ℕ → ℕ) (before : ℕ → List ℕ) (count : ℕ) (cone : Cone) (good : IsCone cone) (low : count_of cone ≤ count) where
  walked-known : (end : WalkEnd) (walk : Walk) → end.node < count_of cone → Walked cone end walk → All (λ n. n < count) walk.nodes
  walked-known end walk there w =
      let within = walk_within cone end.node w.listed.rest w.launch.node w.listed.sum good there w.listed.adds in
      subst (All (λ n. n < count)) (sym w.listed.whole)
      (All-weaker (λ n. n < count_of cone) (λ n. n < count) (λ n under. omega arith) (w.launch.node ∷ w.listed.rest)
      (All-cons (λ n. n < count_of cone) w.launch.node w.listed.rest within.0 within.1))

  end-low : (place : ℕ) (end : WalkEnd) → slice_get cone.ends place ≡ Some end → end.node < count_of cone
  end-low place end at =
      let fine = subst (IsEnd cone) (get_or_from_slice_get cone.ends place end end at) (good.ends place end (slice_get_within cone.ends place end at)) in
      fine.node

  pub walk_known : (walk : Walk) → IsWalk cone walk → All (λ n. n < count) walk.nodes
  walk_known walk is =
      option_and_then_some (λ (end : WalkEnd). option_and_then (λ (launch : Launch). launch_slack cone end.node launch walk.nodes) (slice_get end.launches walk.launch))
      (slice_get cone.ends walk.end) walk.slack is
      (λ end at rest. walked-known end walk (end-low walk.end end at) (walked cone walk.end end walk at (is, refl)))

  best-known : (P : Walk → Type 0) (o : Option Walk) → ((w : Walk) → P w → IsWalk cone w) → BestOf (comes_before rank before) P o → AreKnown count o
  best-known P None are best = tt
  best-known P (Some w) are best = walk_known w (are w best.0)

  pub tied_known : (place : ℕ) (s : ℤ) (i : ℕ) (o : Option Walk) → BestOf (comes_before rank before) (IsTied cone place s i) o → AreKnown count o
  tied_known place s i o best = best-known (IsTied cone place s i) o (λ w t. t.0.0) best

  pub tied_before_known : (place : ℕ) (s : ℤ) (i : ℕ) (o : Option Walk) → BestOf (comes_before rank before) (IsTiedBefore cone place s i) o → AreKnown count o
  tied_before_known place s i o best = best-known (IsTiedBefore cone place s i) o (λ w t. t.0.0) best

  pub to_known : (place : ℕ) (o : Option Walk) → BestOf (comes_before rank before) (IsTo cone place) o → AreKnown count o
  to_known place o best = best-known (IsTo cone place) o (λ w t. t.0) best

  pub before_known : (place : ℕ) (o : Option Walk) → BestOf (comes_before rank before) (IsBefore cone place) o → AreKnown count o
  before_known place o best = best-known (IsBefore cone place) o (λ w t. t.0) best
