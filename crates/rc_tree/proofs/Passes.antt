-- The two passes over a forest's rows, step by step.
use Rattle.std.proofs.Common.{◌≡◌, ℕ, zero, suc, ◌+◌, ◌*◌, ◌<◌, ◌≤◌, ◌^◌, List, [], ◌∷◌, ◌++◌, length, get_or, set, Option, None, Some, IfSome, refl, ap, sym, subst, ◌∙◌, arith, inl, inr, ◌⊎◌}
use Rattle.std.specs.Option.{option_map_or}
use Rattle.std.proofs.lemmas.Bool.{cases_lt}
use Rattle.std.proofs.lemmas.List.{length-set, length-append, get_or-set_same, get_or-set_other, get_or_append_left, get_or_push}
use Rattle.rc_tree.specs.declared.forests.Row.{Row}
use Rattle.rc_tree.specs.Growth.{row_at, up_of}
use Rattle.rc_tree.specs.Moments.{path_in, path_to, sum_below, weight_at, res_at, moment_at, IsRising, AreSubtotals, AreMoments, AreSmall, IsUpTo, given, IsPassingUp, IsPassingDown, next_moment}
use Rattle.rc_tree.proofs.Moments.{up_none, up_start, up_given, subtotal_is, room_to_give, moment_start, moment_step}

module _ (rows : List Row) (rising : IsRising rows) where
  n : ℕ
  n = length rows

  enough_by : (a b j : ℕ) → j < length rows → ((p : ℕ) → p < j → path_in (up_of rows) a p ≡ path_in (up_of rows) b p) → (o : Option ℕ) → up_of rows j ≡ o
      → option_map_or (λ p. path_in (up_of rows) a p ++ j ∷ []) o [] ≡ option_map_or (λ p. path_in (up_of rows) b p ++ j ∷ []) o []
  enough_by a b j l h None e = refl
  enough_by a b j l h (Some p) e = ap (λ ps. ps ++ j ∷ []) (h p (rising j p l e))

  enough : (a b j : ℕ) → j < length rows → j < a → j < b → path_in (up_of rows) a j ≡ path_in (up_of rows) b j
  enough zero b j l x y = absurd (omega arith)
  enough (suc a) zero j l x y = absurd (omega arith)
  enough (suc a) (suc b) j l x y =
      enough_by a b j l (λ p low. enough a b p (let k : p < j = low in omega arith) (let k : p < j = low in omega arith) (let k : p < j = low in omega arith)) (up_of rows j) refl

  pub step : (j p : ℕ) → j < length rows → up_of rows j ≡ Some p → path_to (up_of rows) j ≡ path_to (up_of rows) p ++ j ∷ []
  step j p l e =
      let low : p < j = rising j p l e in
      ap (λ o. option_map_or (λ q. path_in (up_of rows) j q ++ j ∷ []) o []) e
      ∙ ap (λ ps. ps ++ j ∷ []) (enough j (suc p) p (omega arith) low (omega arith))

  pub start : (j : ℕ) → up_of rows j ≡ None → path_to (up_of rows) j ≡ []
  start j e = ap (λ o. option_map_or (λ q. path_in (up_of rows) j q ++ j ∷ []) o []) e

  pub up_first : (weights : List ℕ) → length weights ≡ length rows → IsPassingUp rows weights weights (length rows)
  up_first weights e = (e, omega arith, up_none (length rows) (up_of rows) (path_to (up_of rows)) rising step start (res_at rows) (weight_at weights) (weight_at weights) (λ i l. refl))

  pub up_more : (weights totals : List ℕ) (j : ℕ) → IsPassingUp rows weights totals (j + 1) → IsPassingUp rows weights (given totals (up_of rows j) j) j
  up_more weights totals j a = by (up_of rows j) refl
    where
      next : j + 1 ≡ suc j
      next = omega arith

      here : IsUpTo (length rows) (up_of rows) (weight_at weights) (weight_at totals) (suc j)
      here = subst (λ k. IsUpTo (length rows) (up_of rows) (weight_at weights) (weight_at totals) k) next a.2

      by : (o : Option ℕ) → up_of rows j ≡ o → IsPassingUp rows weights (given totals o j) j
      by None o = (let l : j + 1 ≤ length rows = a.1 in
          (a.0, omega arith, up_start (length rows) (up_of rows) (path_to (up_of rows)) rising step start (res_at rows) (weight_at weights) (weight_at totals) j (omega arith) o here))
      by (Some p) o =
          let l : j + 1 ≤ length rows = a.1 in
          let lj : j < length rows = omega arith in
          let lp : p < j = rising j p lj o in
          let size : length totals ≡ length rows = a.0 in (
            length-set totals p (weight_at totals p + weight_at totals j) ∙ a.0,
            omega arith,
            up_given (length rows) (up_of rows) (path_to (up_of rows)) rising step start (res_at rows) (weight_at weights) (weight_at totals) (weight_at (set totals p (weight_at totals p + weight_at totals j))) j p lj o
                (get_or-set_same totals p (weight_at totals p + weight_at totals j) 0 (omega arith))
                (λ i un. get_or-set_other totals p i (weight_at totals p + weight_at totals j) 0 un) here,
          )

  pub up_room : (weights totals : List ℕ) (j p : ℕ) → IsPassingUp rows weights totals (j + 1) → up_of rows j ≡ Some p → sum_below (weight_at weights) (length rows) ≤ 2 ^ 125 → weight_at totals p + weight_at totals j ≤ 2 ^ 125
  up_room weights totals j p a u b =
      let l : j + 1 ≤ length rows = a.1 in
      let next : j + 1 ≡ suc j = omega arith in
      let r : weight_at totals p + weight_at totals j ≤ sum_below (weight_at weights) (length rows) =
      room_to_give (length rows) (up_of rows) (path_to (up_of rows)) rising step start (res_at rows) (weight_at weights) (weight_at totals) j p (omega arith) u
      (subst (λ k. IsUpTo (length rows) (up_of rows) (weight_at weights) (weight_at totals) k) next a.2) in
      omega arith

  pub up_last : (weights totals : List ℕ) → IsPassingUp rows weights totals 0 → AreSubtotals rows weights totals
  up_last weights totals a i p l u =
      a.2.high i (omega arith) l
      ∙ subtotal_is (length rows) (up_of rows) (path_to (up_of rows)) rising step start (res_at rows) (weight_at weights) i p l u

  -- the pass down
  pub moment_next : (weights totals moments : List ℕ) (j : ℕ) → AreSubtotals rows weights totals → j < length rows → IsPassingDown rows weights moments j → next_moment rows totals moments j ≡ moment_at rows weights j
  moment_next weights totals moments j s l a = by (up_of rows j) refl
    where
      by : (o : Option ℕ) → up_of rows j ≡ o → next_moment rows totals moments j ≡ moment_at rows weights j
      by None o =
          ap (λ q. option_map_or (λ p. weight_at moments p + res_at rows j * weight_at totals j) q 0) o
          ∙ sym (moment_start (length rows) (up_of rows) (path_to (up_of rows)) rising step start (res_at rows) (weight_at weights) j o)
      by (Some p) o =
          ap (λ q. option_map_or (λ p. weight_at moments p + res_at rows j * weight_at totals j) q 0) o
          ∙ ap (λ y. y + res_at rows j * weight_at totals j) (a.1 p (rising j p l o))
          ∙ ap (λ y. moment_at rows weights p + res_at rows j * y) (s j p l o ∙ sym (subtotal_is (length rows) (up_of rows) (path_to (up_of rows)) rising step start (res_at rows) (weight_at weights) j p l o))
          ∙ sym (moment_step (length rows) (up_of rows) (path_to (up_of rows)) rising step start (res_at rows) (weight_at weights) j p l o)

  pub down_more : (weights totals moments : List ℕ) (j : ℕ) → AreSubtotals rows weights totals → j < length rows → IsPassingDown rows weights moments j → IsPassingDown rows weights (moments ++ next_moment rows totals moments j ∷ []) (j + 1)
  down_more weights totals moments j s l a =
      (length-append moments (next_moment rows totals moments j ∷ []) ∙ ap (λ k. k + 1) a.0, λ k lk. by k lk (cases_lt k j))
    where
      by : (k : ℕ) → k < j + 1 → (k < j) ⊎ (j ≤ k) → weight_at (moments ++ next_moment rows totals moments j ∷ []) k ≡ moment_at rows weights k
      by k lk (inl less) = (let size : length moments ≡ j = a.0 in get_or_append_left moments (next_moment rows totals moments j ∷ []) 0 k (omega arith) ∙ a.1 k less)
      by k lk (inr more) =
          let same : j ≡ k = omega arith in
          get_or_push moments (next_moment rows totals moments j) 0 k (a.0 ∙ same) ∙ moment_next weights totals moments j s l a ∙ ap (moment_at rows weights) same

pub none_left : (rows : List Row) (weights totals : List ℕ) (j : ℕ) → IsPassingUp rows weights totals j → j ≤ 0 → IsPassingUp rows weights totals 0
none_left rows weights totals j a l = (let e : j ≡ 0 = omega arith in subst (IsPassingUp rows weights totals) e a)

pub passed_up : (rows : List Row) (weights totals : List ℕ) (j : ℕ) → IsRising rows → IsPassingUp rows weights totals j → j ≤ 0 → AreSubtotals rows weights totals
passed_up rows weights totals j rising a l = up_last rows rising weights totals (none_left rows weights totals j a l)

-- the pass down, as the code has it
pub moment_small : (rows : List Row) (weights totals moments : List ℕ) (j : ℕ) → IsRising rows → AreSubtotals rows weights totals → AreSmall rows weights → j < length rows → IsPassingDown rows weights moments j → next_moment rows totals moments j ≤ 2 ^ 125
moment_small rows weights totals moments j rising s small l a =
    let e = moment_next rows rising weights totals moments j s l a in
    let b = small j l in
    omega arith

pub down_none : (rows : List Row) (weights : List ℕ) → IsPassingDown rows weights [] 0
down_none rows weights = (refl, λ k l. absurd (omega arith))

pub down_done : (rows : List Row) (weights moments : List ℕ) → IsPassingDown rows weights moments (length rows) → AreMoments rows weights moments
down_done rows weights moments a = a

-- the row of a place, as the code has it
pub parent_before : (rows : List Row) (j : ℕ) (r : Row) → IsRising rows → j < length rows → r ≡ row_at rows j → IfSome r.parent (λ p. p < j)
parent_before rows j r rising l e = subst (λ (x : Row). IfSome x.parent (λ p. p < j)) (sym e) (by (up_of rows j) refl)
  where
    by : (o : Option ℕ) → up_of rows j ≡ o → IfSome o (λ p. p < j)
    by None o = tt
    by (Some p) o = rising j p l o

pub parent_room : (rows : List Row) (weights totals : List ℕ) (j : ℕ) (r : Row) → IsRising rows → IsPassingUp rows weights totals (j + 1) → sum_below (weight_at weights) (length rows) ≤ 2 ^ 125 → r ≡ row_at rows j
    → IfSome r.parent (λ p. weight_at totals p + weight_at totals j ≤ 2 ^ 125)
parent_room rows weights totals j r rising a b e = subst (λ (x : Row). IfSome x.parent (λ p. weight_at totals p + weight_at totals j ≤ 2 ^ 125)) (sym e) (by (up_of rows j) refl)
  where
    by : (o : Option ℕ) → up_of rows j ≡ o → IfSome o (λ p. weight_at totals p + weight_at totals j ≤ 2 ^ 125)
    by None o = tt
    by (Some p) o = up_room rows rising weights totals j p a o b

pub gave : (rows : List Row) (weights totals totals' : List ℕ) (j : ℕ) (r : Row) → IsRising rows → IsPassingUp rows weights totals (j + 1) → r ≡ row_at rows j → totals' ≡ given totals r.parent j → IsPassingUp rows weights totals' j
gave rows weights totals totals' j r rising a e t =
    subst (λ ts. IsPassingUp rows weights ts j) (sym (t ∙ ap (λ (x : Row). given totals x.parent j) e)) (up_more rows rising weights totals j a)

pub parent_made : (rows : List Row) (weights moments : List ℕ) (j : ℕ) (r : Row) → IsRising rows → j < length rows → IsPassingDown rows weights moments j → r ≡ row_at rows j → IfSome r.parent (λ p. p < length moments)
parent_made rows weights moments j r rising l a e =
    subst (λ m. IfSome r.parent (λ p. p < m)) (sym a.0) (parent_before rows j r rising l e)

pub small_next : (rows : List Row) (weights totals moments : List ℕ) (j total : ℕ) (r : Row) → IsRising rows → AreSubtotals rows weights totals → AreSmall rows weights → j < length rows → IsPassingDown rows weights moments j
    → r ≡ row_at rows j → total ≡ weight_at totals j → option_map_or (λ p. weight_at moments p + r.res * total) r.parent 0 ≤ 2 ^ 125
small_next rows weights totals moments j total r rising s small l a e t =
    subst (λ (x : Row). option_map_or (λ p. weight_at moments p + x.res * total) x.parent 0 ≤ 2 ^ 125) (sym e)
    (subst (λ y. option_map_or (λ p. weight_at moments p + res_at rows j * y) (up_of rows j) 0 ≤ 2 ^ 125) (sym t) (moment_small rows weights totals moments j rising s small l a))

pub made_next : (rows : List Row) (weights totals moments moments' : List ℕ) (j total next : ℕ) (r : Row) → IsRising rows → AreSubtotals rows weights totals → j < length rows → IsPassingDown rows weights moments j
    → r ≡ row_at rows j → total ≡ weight_at totals j → next ≡ option_map_or (λ p. weight_at moments p + r.res * total) r.parent 0 → moments' ≡ moments ++ next ∷ [] → IsPassingDown rows weights moments' (j + 1)
made_next rows weights totals moments moments' j total next r rising s l a e t x m =
    subst (λ ms. IsPassingDown rows weights ms (j + 1))
    (sym (m ∙ ap (λ y. moments ++ y ∷ []) (x ∙ ap (λ (q : Row). option_map_or (λ p. weight_at moments p + q.res * total) q.parent 0) e
    ∙ ap (λ y. option_map_or (λ p. weight_at moments p + res_at rows j * y) (up_of rows j) 0) t)))
    (down_more rows rising weights totals moments j s l a)

pub ruleset passing_up = (up_first, passed_up, parent_before, parent_room, gave)

pub ruleset passing_down = (parent_made, small_next, made_next, down_none, down_done)

pub weight_read : (weights : List ℕ) (i x : ℕ) → i < length weights → x ≡ get_or weights i x → x ≡ weight_at weights i
weight_read weights i x l e = e ∙ at weights i l
  where
    at : (ws : List ℕ) (k : ℕ) → k < length ws → get_or ws k x ≡ get_or ws k 0
    at [] k l = absurd (omega arith)
    at (w ∷ ws) zero l = refl
    at (w ∷ ws) (suc k) l = at ws k (omega arith)
