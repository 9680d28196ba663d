-- The least credit that a place can have.
use Rattle.std.proofs.Common.{◌≡◌, ℕ, ◌*◌, ◌≤◌, ℤ, pos, ◌-ℤ◌, ◌≤ℤ◌, unsigned_abs, ◌==◌, List, [], ◌∷◌, ◌++◌, Option, None, Some, refl, ap, sym, subst, ◌∙◌, inl, inr, arith}
use Rattle.std.specs.List.{slice_get}
use Rattle.std.specs.Int.{int_min}
use Rattle.std.specs.Option.{option_map_or}
use Rattle.std.proofs.lemmas.Bool.{cases_Bool, eqb-true}
use Rattle.std.proofs.lemmas.Int.{ints, clamps}
use Rattle.sta_units.specs.Numbers.{limit, Within}
use Rattle.pessimism_credit.specs.declared.rows.TreeRow.{TreeRow}
use Rattle.pessimism_credit.specs.Credit.{parent_of, IsTree, root_path, last_common, pessimism_at, credit_of, least_over, least_credit_of}
use Rattle.pessimism_credit.proofs.Climbs.{above, root_path-step, pessimism_there, pessimism_past, early_there, late_there}

min_swap : (x y z : ℤ) → int_min x (int_min y z) ≡ int_min y (int_min x z)
min_swap x y z = omega (arith, ints, clamps)

min_shift : (x y z : ℤ) → int_min (int_min x y) z ≡ int_min x (int_min y z)
min_shift x y z = omega (arith, ints, clamps)

-- a path with one place more at its end
over_snoc : (rows : List TreeRow) (ns : List ℕ) (n : ℕ) → least_over rows (ns ++ n ∷ []) ≡ int_min (pessimism_at rows n) (least_over rows ns)
over_snoc rows [] n = refl
over_snoc rows (m ∷ ns) n =
    ap (int_min (pessimism_at rows m)) (over_snoc rows ns n) ∙ min_swap (pessimism_at rows m) (pessimism_at rows n) (least_over rows ns)

-- the least so far, with a place more and with what is above it
pub least_more : (rows : List TreeRow) (n : ℕ) (o : Option ℕ) (x : ℤ) → IsTree rows → parent_of rows n ≡ o
    → int_min (int_min x (pessimism_at rows n)) (least_over rows (above rows o)) ≡ int_min x (least_over rows (root_path rows n))
least_more rows n o x t e =
    min_shift x (pessimism_at rows n) (least_over rows (above rows o))
    ∙ ap (int_min x) (sym (ap (least_over rows) (root_path-step rows n o t e) ∙ over_snoc rows (above rows o) n))

over_low : (rows : List TreeRow) (ns : List ℕ) → least_over rows ns ≤ℤ pos 0
over_low rows [] = omega (arith, ints)
over_low rows (n ∷ ns) = let low = over_low rows ns in below (pessimism_at rows n) (least_over rows ns) low
  where
    below : (x y : ℤ) → y ≤ℤ pos 0 → int_min x y ≤ℤ pos 0
    below x y l = omega (arith, ints, clamps, l)

pub least_start : (rows : List TreeRow) (ns : List ℕ) → int_min (pos 0) (least_over rows ns) ≡ least_over rows ns
least_start rows ns = let low = over_low rows ns in by (least_over rows ns) low
  where
    by : (y : ℤ) → y ≤ℤ pos 0 → int_min (pos 0) y ≡ y
    by y l = omega (arith, ints, clamps, l)

pub least_end : (rows : List TreeRow) (x : ℤ) → x ≤ℤ pos 0 → int_min x (least_over rows []) ≡ x
least_end rows x l = omega (arith, ints, clamps, l)

pub min_low : (x y : ℤ) → x ≤ℤ pos 0 → int_min x y ≤ℤ pos 0
min_low x y l = omega (arith, ints, clamps, l)

-- a last common place is one of the second path, or the one before it
shared_low : (rows : List TreeRow) (last : Option ℕ) (xs ys : List ℕ)
    → int_min (option_map_or (pessimism_at rows) last (pos 0)) (least_over rows ys) ≤ℤ option_map_or (pessimism_at rows) (last_common last xs ys) (pos 0)
shared_low rows last [] ys = first (option_map_or (pessimism_at rows) last (pos 0)) (least_over rows ys)
  where
    first : (x y : ℤ) → int_min x y ≤ℤ x
    first x y = omega (arith, ints, clamps)
shared_low rows last (x ∷ xs) [] = first (option_map_or (pessimism_at rows) last (pos 0)) (pos 0)
  where
    first : (x y : ℤ) → int_min x y ≤ℤ x
    first x y = omega (arith, ints, clamps)
shared_low rows last (x ∷ xs) (y ∷ ys) = elim (cases_Bool (x == y)) [
  | inl same ↦ rw same (further (option_map_or (pessimism_at rows) last (pos 0)) (pessimism_at rows x) (pessimism_at rows y) (least_over rows ys) _
      (ap (pessimism_at rows) (eqb-true x y same)) (shared_low rows (Some x) xs ys))
  | inr apart ↦ rw apart (first (option_map_or (pessimism_at rows) last (pos 0)) (least_over rows (y ∷ ys)))
]
  where
    first : (x y : ℤ) → int_min x y ≤ℤ x
    first x y = omega (arith, ints, clamps)

    further : (a p q l v : ℤ) → p ≡ q → int_min p l ≤ℤ v → int_min a (int_min q l) ≤ℤ v
    further a p q l v e low = omega (arith, ints, clamps, e, low)

pub credit_least : (rows : List TreeRow) (a b : ℕ) → least_credit_of rows b ≤ℤ credit_of rows a b
credit_least rows a b =
    subst (λ (z : ℤ). z ≤ℤ credit_of rows a b) (least_start rows (root_path rows b)) (shared_low rows None (root_path rows a) (root_path rows b))

spread_bound : (rows : List TreeRow) → IsTree rows → (p : ℕ) → unsigned_abs (pessimism_at rows p) ≤ 2 * limit
spread_bound rows t p = by (slice_get rows p) refl
  where
    low : (a b : ℤ) → Within a → Within b → unsigned_abs (b -ℤ a) ≤ 2 * limit
    low a b ha hb = omega (arith, ints, ha, hb)

    by : (o : Option TreeRow) → slice_get rows p ≡ o → unsigned_abs (pessimism_at rows p) ≤ 2 * limit
    by None e = subst (λ (z : ℤ). unsigned_abs z ≤ 2 * limit) (sym (pessimism_past rows p e)) (omega arith)
    by (Some row) e =
        subst (λ (z : ℤ). unsigned_abs z ≤ 2 * limit) (sym (pessimism_there rows p row e))
        (low row.early.0 row.late.0 (early_there rows p row t e) (late_there rows p row t e))

over_bound : (rows : List TreeRow) → IsTree rows → (ns : List ℕ) → unsigned_abs (least_over rows ns) ≤ 2 * limit
over_bound rows t [] = omega arith
over_bound rows t (n ∷ ns) = by (pessimism_at rows n) (least_over rows ns) (spread_bound rows t n) (over_bound rows t ns)
  where
    by : (x y : ℤ) → unsigned_abs x ≤ 2 * limit → unsigned_abs y ≤ 2 * limit → unsigned_abs (int_min x y) ≤ 2 * limit
    by x y a b = omega (arith, ints, clamps, a, b)

pub credit_bound : (rows : List TreeRow) (b : ℕ) → IsTree rows → unsigned_abs (least_credit_of rows b) ≤ 2 * limit
credit_bound rows b t = over_bound rows t (root_path rows b)

pub ruleset lowest = (credit_least, credit_bound)
