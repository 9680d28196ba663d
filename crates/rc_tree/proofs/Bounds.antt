-- Moments are small: they fit the numbers that hold them.
use Rattle.std.proofs.Common.{◌≡◌, ℕ, zero, suc, ◌*◌, ◌<◌, ◌≤◌, ◌^◌, List, [], ◌∷◌, length, Option, None, Some, refl, ap, sym, subst, ◌∙◌, arith, inl, inr, ◌⊎◌}
use Rattle.std.specs.List.{AllByRecursion}
use Rattle.std.proofs.lemmas.List.{length-append}
use Rattle.std.proofs.lemmas.Nat.{mul-le}
use Rattle.timing_defs.specs.declared.parasitics.RcNode.{RcNode}
use Rattle.timing_defs.specs.declared.parasitics.RcRes.{RcRes}
use Rattle.rc_tree.specs.declared.segments.Segment.{Segment}
use Rattle.rc_tree.specs.declared.forests.Row.{Row}
use Rattle.rc_tree.specs.declared.forests.Forest.{Forest}
use Rattle.rc_tree.specs.Numbering.{AreApart}
use Rattle.rc_tree.specs.Growth.{AreSegments, row_at, up_of}
use Rattle.rc_tree.specs.Moments.{path_to, sum_below, common, weight_at, res_at, IsRising, AreSmall}
use Rattle.rc_tree.specs.Loops.{IsFound}
use Rattle.rc_tree.proofs.Routes.{all_append}
use Rattle.rc_tree.proofs.Moments.{common_le, sum_le, sum_times}
use Rattle.rc_tree.proofs.Passes.{step, start}
use Rattle.rc_tree.proofs.Bridge.{IsRooted}

-- where all places are of the first part, or where there are no resistors
pub rooted_whole : (nodes : List RcNode) (ress : List RcRes) (segments : List Segment) (f : Forest) (apart : AreApart nodes) (wires : AreSegments nodes ress segments) (found : IsFound segments (length nodes) f)
    → ((j : ℕ) → j < length f.rows.items → (row_at f.rows.items j).home ≡ 0) → IsRooted nodes ress segments f apart wires found
rooted_whole nodes ress segments f apart wires found h v l = inl (h v l)

pub rooted_lumped : (nodes : List RcNode) (ress : List RcRes) (segments : List Segment) (f : Forest) (apart : AreApart nodes) (wires : AreSegments nodes ress segments) (found : IsFound segments (length nodes) f)
    → length segments ≡ 0 → IsRooted nodes ress segments f apart wires found
rooted_lumped nodes ress segments f apart wires found e v l = by (up_of f.rows.items v) refl
  where
    by : (o : Option ℕ) → up_of f.rows.items v ≡ o → ((row_at f.rows.items v).home ≡ 0) ⊎ (path_to (up_of f.rows.items) v ≡ [])
    by None o = inr (start f.rows.items found.grown.rising v o)
    by (Some p) o = (let k : (row_at f.rows.items v).segment < length segments = (found.grown.linked v p l o).0 in absurd (omega arith))

module _ (rows : List Row) (rising : IsRising rows) where
  path_short : (m k : ℕ) → k < m → k < length rows → length (path_to (up_of rows) k) ≤ k
  path_short zero k l lk = absurd (omega arith)
  path_short (suc m) k l lk = by (up_of rows k) refl (λ p a b. path_short m p a b)
    where
      by : (o : Option ℕ) → up_of rows k ≡ o → ((p : ℕ) → p < m → p < length rows → length (path_to (up_of rows) p) ≤ p) → length (path_to (up_of rows) k) ≤ k
      by None o rest = (let e = ap length (start rows rising k o) in omega arith)
      by (Some p) o rest =
          let low : p < k = rising k p lk o in
          let e = ap length (step rows rising k p lk o) ∙ length-append (path_to (up_of rows) p) (k ∷ []) in
          let r = rest p (omega arith) (omega arith) in
          omega arith

  path_all : (P : ℕ → Type 0) → ((j p : ℕ) → j < length rows → up_of rows j ≡ Some p → P j) → (m k : ℕ) → k < m → k < length rows → AllByRecursion P (path_to (up_of rows) k)
  path_all P h zero k l lk = absurd (omega arith)
  path_all P h (suc m) k l lk = by (up_of rows k) refl (λ p a b. path_all P h m p a b)
    where
      by : (o : Option ℕ) → up_of rows k ≡ o → ((p : ℕ) → p < m → p < length rows → AllByRecursion P (path_to (up_of rows) p)) → AllByRecursion P (path_to (up_of rows) k)
      by None o rest = subst (AllByRecursion P) (sym (start rows rising k o)) tt
      by (Some p) o rest =
          let low : p < k = rising k p lk o in
          subst (AllByRecursion P) (sym (step rows rising k p lk o)) (all_append P (path_to (up_of rows) p) (k ∷ []) (rest p (omega arith) (omega arith)) (h k p lk o, tt))

  -- the first moments of at most 65,535 places within the limits
  pub first_small : (weights : List ℕ) → ((j p : ℕ) → j < length rows → up_of rows j ≡ Some p → res_at rows j ≤ 10 ^ 12) → length rows ≤ 65535 → sum_below (weight_at weights) (length rows) ≤ 10 ^ 12 → AreSmall rows weights
  first_small weights rs many total k lk =
      let short = path_short (suc k) k (omega arith) lk in
      let each : (i : ℕ) → i < length rows → common (res_at rows) (path_to (up_of rows) i) (path_to (up_of rows) k) * weight_at weights i ≤ (65535 * 10 ^ 12) * weight_at weights i =
      (λ i li.
      let c = common_le (res_at rows) (10 ^ 12) (path_to (up_of rows) i) (path_to (up_of rows) k) (path_all (λ j. res_at rows j ≤ 10 ^ 12) rs (suc i) i (omega arith) li) in
      let wide : common (res_at rows) (path_to (up_of rows) i) (path_to (up_of rows) k) ≤ 65535 * 10 ^ 12 = (let few : length (path_to (up_of rows) k) ≤ 65535 = omega arith in omega arith) in
      mul-le (common (res_at rows) (path_to (up_of rows) i) (path_to (up_of rows) k)) (weight_at weights i) (65535 * 10 ^ 12) (weight_at weights i) wide (let same : weight_at weights i ≤ weight_at weights i = omega arith in same)) in
      let s = sum_le (λ i. common (res_at rows) (path_to (up_of rows) i) (path_to (up_of rows) k) * weight_at weights i) (λ i. (65535 * 10 ^ 12) * weight_at weights i) (length rows) each in
      let t = sum_times (65535 * 10 ^ 12) (weight_at weights) (length rows) in
      omega arith
