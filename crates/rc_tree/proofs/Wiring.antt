-- Delays and impulses of wires: they fit the numbers that hold them.
use Rattle.std.proofs.Common.{◌≡◌, ℕ, zero, suc, ◌+◌, ◌*◌, ◌/◌, ◌<◌, ◌≤◌, ◌^◌, List, [], ◌∷◌, ◌++◌, map, length, get_or, take, Option, None, Some, IfSome, refl, ap, sym, subst, ◌∙◌, arith, inl, inr, ◌⊎◌}
use Rattle.std.proofs.lemmas.Bool.{cases_lt}
use Rattle.std.proofs.lemmas.List.{length-append, length-map, map-append, take_more, get_or_append_left, get_or_push, get_or_past, get_or-map}
use Rattle.std.proofs.lemmas.Nat.{mul-le}
use Rattle.rc_tree.specs.declared.forests.Row.{Row}
use Rattle.rc_tree.specs.Growth.{up_of}
use Rattle.rc_tree.specs.Moments.{path_to, sum_below, common, weight_at, res_at, moment_at, AreMoments, AreSmall}
use Rattle.rc_tree.specs.Weights.{AreUnder}
use Rattle.rc_tree.specs.Wiring.{micro, delay_at, IsAnyOver, IsOver, AreTimes, ArePlaces, IsLimited}
use Rattle.rc_tree.proofs.Moments.{sum_le, sum_times}
use Rattle.rc_tree.proofs.Passes.{weight_read}
use Rattle.rc_tree.proofs.Bounds.{first_small}

pub none_under : (bound : ℕ) → AreUnder bound []
none_under bound i = omega arith

pub one_under : (bound : ℕ) (xs : List ℕ) (x : ℕ) → AreUnder bound xs → x ≤ bound → AreUnder bound (xs ++ x ∷ [])
one_under bound [] x u l zero = l
one_under bound [] x u l (suc i) = omega arith
one_under bound (y ∷ ys) x u l zero = u 0
one_under bound (y ∷ ys) x u l (suc i) = one_under bound ys x (λ k. u (suc k)) l i

pub read_under : (bound : ℕ) (xs : List ℕ) (i x : ℕ) → AreUnder bound xs → i < length xs → x ≡ get_or xs i x → x ≤ bound
read_under bound xs i x u l e = (let r : x ≡ weight_at xs i = weight_read xs i x l e in let b = u i in omega arith)

pub map_more : {X Y : Type 0} (f : X → Y) (xs : List X) (i : ℕ) (x : X) (ys : List Y) → i < length xs → x ≡ get_or xs i x → ys ≡ map f (take i xs) → ys ++ f x ∷ [] ≡ map f (take (i + 1) xs)
map_more f xs i x ys l e h =
    ap (λ zs. zs ++ f x ∷ []) h ∙ sym (map-append f (take i xs) (x ∷ [])) ∙ ap (map f) (sym (take_more xs i x l ∙ ap (λ y. take i xs ++ y ∷ []) (sym e)))

pub over_there : (moments : List ℕ) (i m : ℕ) → i < length moments → m ≡ get_or moments i m → 10 ^ 12 < micro m → IsAnyOver moments
over_there moments i m l e h = (i, (l, subst (λ x. 10 ^ 12 < micro x) (weight_read moments i m l e) h))

-- products
pub times_more : (weights delays products products' : List ℕ) (j x : ℕ) → (length products ≡ j) × ((i : ℕ) → i < j → weight_at products i ≡ weight_at weights i * weight_at delays i) → x ≡ weight_at weights j * weight_at delays j → products' ≡ products ++ x ∷ []
    → (length products' ≡ j + 1) × ((i : ℕ) → i < j + 1 → weight_at products' i ≡ weight_at weights i * weight_at delays i)
times_more weights delays products products' j x a e q =
    (ap length q ∙ length-append products (x ∷ []) ∙ ap (λ n. n + 1) a.0, λ i l. ap (λ ps. weight_at ps i) q ∙ by i l (cases_lt i j))
  where
    by : (i : ℕ) → i < j + 1 → (i < j) ⊎ (j ≤ i) → weight_at (products ++ x ∷ []) i ≡ weight_at weights i * weight_at delays i
    by i l (inl less) = (let size : length products ≡ j = a.0 in get_or_append_left products (x ∷ []) 0 i (omega arith) ∙ a.1 i less)
    by i l (inr more) = (let same : j ≡ i = omega arith in get_or_push products x 0 i (a.0 ∙ same) ∙ e ∙ ap (λ k. weight_at weights k * weight_at delays k) same)

pub times_all : (weights delays products : List ℕ) → (length products ≡ length weights) × ((i : ℕ) → i < length weights → weight_at products i ≡ weight_at weights i * weight_at delays i) → AreTimes weights delays products
times_all weights delays products a = (a.0, λ i. by i (cases_lt i (length weights)))
  where
    by : (i : ℕ) → (i < length weights) ⊎ (length weights ≤ i) → weight_at products i ≡ weight_at weights i * weight_at delays i
    by i (inl less) = a.1 i less
    by i (inr more) =
        let size : length products ≡ length weights = a.0 in
        let left : weight_at products i ≡ 0 = get_or_past products i 0 (omega arith) in
        let right : weight_at weights i ≡ 0 = get_or_past weights i 0 more in
        left ∙ sym (ap (λ w. w * weight_at delays i) right ∙ (let z : 0 * weight_at delays i ≡ 0 = omega arith in z))

-- the place of a node
pub place_inside : (places : List (Option ℕ)) (u a b : ℕ) (o : Option ℕ) → u < length places → o ≡ get_or places u o → ArePlaces a places → b ≡ a → IfSome o (λ p. (p < a) × (p < b))
place_inside places u a b None l e h s = tt
place_inside places u a b (Some p) l e h s = (let low : p < a = h u p (sym (e ∙ there places u l)) in (low, omega arith))
  where
    there : (os : List (Option ℕ)) (k : ℕ) → k < length os → get_or os k (Some p) ≡ get_or os k None
    there [] k l = absurd (omega arith)
    there (x ∷ os) zero l = refl
    there (x ∷ os) (suc k) l = there os k (omega arith)

-- sums
part_le : (f : ℕ → ℕ) (n i : ℕ) → i < n → f i ≤ sum_below f n
part_le f zero i l = absurd (omega arith)
part_le f (suc n) i l = elim (cases_lt i n) [
  | inl less ↦ (let r = part_le f n i less in omega arith)
  | inr more ↦ (let e : f i ≡ f n = ap f (let s : i ≡ n = omega arith in s) in omega arith)
]

pub weights_under : (rows : List Row) (places : List (Option ℕ)) (weights : List ℕ) → IsLimited rows places weights → AreUnder (10 ^ 12) weights
weights_under rows places weights h i = elim (cases_lt i (length rows)) [
  | inl less ↦ (let p = part_le (weight_at weights) (length rows) i less in let t = h.total in omega arith)
  | inr more ↦ (let s = h.size in let z : weight_at weights i ≡ 0 = get_or_past weights i 0 (omega arith) in omega arith)
]

pub total_small : (rows : List Row) (places : List (Option ℕ)) (weights : List ℕ) → IsLimited rows places weights → sum_below (weight_at weights) (length rows) ≤ 2 ^ 125
total_small rows places weights h = (let t = h.total in omega arith)

pub moments_small : (rows : List Row) (places : List (Option ℕ)) (weights : List ℕ) → IsLimited rows places weights → AreSmall rows weights
moments_small rows places weights h = first_small rows h.rising weights h.ohms h.few h.total

pub moments_under : (rows : List Row) (weights moments : List ℕ) → AreSmall rows weights → AreMoments rows weights moments → AreUnder (2 ^ 125) moments
moments_under rows weights moments small a i = elim (cases_lt i (length rows)) [
  | inl less ↦ (let e = a.1 i less in let s = small i less in omega arith)
  | inr more ↦ (let l = a.0 in let z : weight_at moments i ≡ 0 = get_or_past moments i 0 (omega arith) in omega arith)
]

pub delays_timed : (rows : List Row) (weights moments delays : List ℕ) → AreMoments rows weights moments → delays ≡ map micro moments → (k : ℕ) → k < length rows → weight_at delays k ≡ delay_at rows weights k
delays_timed rows weights moments delays a e k l =
    let s : length moments ≡ length rows = a.0 in
    ap (λ ds. weight_at ds k) e ∙ get_or-map micro moments k 0 0 (omega arith) ∙ ap micro (a.1 k l)

pub delays_size : (rows : List Row) (weights moments delays : List ℕ) → AreMoments rows weights moments → delays ≡ map micro moments → length delays ≡ length rows
delays_size rows weights moments delays a e = ap length e ∙ length-map moments micro ∙ a.0

micro_low : (m : ℕ) → micro m ≤ 10 ^ 12 → m ≤ 10 ^ 18 + 10 ^ 6
micro_low m h = elim (cases_lt (10 ^ 18 + 10 ^ 6) m) [
  | inl more ↦ absurd (let d : (2 * m + 1000000) / 2000000 ≤ 10 ^ 12 = h in omega arith)
  | inr less ↦ less
]

-- the second moments
module _ (rows : List Row) (places : List (Option ℕ)) (weights delays products : List ℕ) (limited : IsLimited rows places weights) (bound : AreUnder (10 ^ 12) delays) (times : AreTimes weights delays products)
    (timed : (k : ℕ) → k < length rows → weight_at delays k ≡ delay_at rows weights k) where
  product_le : (i : ℕ) → weight_at products i ≤ 10 ^ 12 * weight_at weights i
  product_le i =
      let e = times.1 i in
      let m = mul-le (weight_at weights i) (weight_at delays i) (weight_at weights i) (10 ^ 12) (let same : weight_at weights i ≤ weight_at weights i = omega arith in same) (bound i) in
      omega arith

  pub products_small : sum_below (weight_at products) (length rows) ≤ 2 ^ 125
  products_small =
      let s = sum_le (weight_at products) (λ i. 10 ^ 12 * weight_at weights i) (length rows) (λ i l. product_le i) in
      let t = sum_times (10 ^ 12) (weight_at weights) (length rows) in
      let u = limited.total in
      omega arith

  pub seconds_small : AreSmall rows products
  seconds_small k l =
      let low : moment_at rows weights k ≤ 10 ^ 18 + 10 ^ 6 = micro_low (moment_at rows weights k) (let e = timed k l in let b = bound k in omega arith) in
      let s = sum_le (λ c. common (res_at rows) (path_to (up_of rows) c) (path_to (up_of rows) k) * weight_at products c) (λ c. 10 ^ 12 * (common (res_at rows) (path_to (up_of rows) c) (path_to (up_of rows) k) * weight_at weights c)) (length rows)
      (λ c lc. scaled (common (res_at rows) (path_to (up_of rows) c) (path_to (up_of rows) k)) (weight_at products c) (weight_at weights c) (product_le c)) in
      let t = sum_times (10 ^ 12) (λ c. common (res_at rows) (path_to (up_of rows) c) (path_to (up_of rows) k) * weight_at weights c) (length rows) in
      omega arith
    where
      scaled : (a p w : ℕ) → p ≤ 10 ^ 12 * w → a * p ≤ 10 ^ 12 * (a * w)
      scaled a p w h = (let m = mul-le a p a (10 ^ 12 * w) (let same : a ≤ a = omega arith in same) h in let e : a * (10 ^ 12 * w) ≡ 10 ^ 12 * (a * w) = omega arith in omega arith)

pub is_over : (rows : List Row) (weights moments : List ℕ) → AreMoments rows weights moments → IsAnyOver moments → IsOver rows weights
is_over rows weights moments a h =
    let low : h.0 < length rows = (let l : h.0 < length moments = h.1.0 in let s : length moments ≡ length rows = a.0 in omega arith) in
    (h.0, (low, subst (λ m. 10 ^ 12 < micro m) (a.1 h.0 low) h.1.1))

-- what the code has, in the words of rows and weights
pub same_moments : (rows rs : List Row) (weights ws moments : List ℕ) → rs ≡ rows → ws ≡ weights → AreMoments rs ws moments → AreMoments rows weights moments
same_moments rows rs weights ws moments a b m = subst (λ x. AreMoments x weights moments) a (subst (λ y. AreMoments rs y moments) b m)

pub same_times : (weights ws delays ds products : List ℕ) → ws ≡ weights → ds ≡ delays → AreTimes ws ds products → AreTimes weights delays products
same_times weights ws delays ds products a b t = subst (λ x. AreTimes x delays products) a (subst (λ y. AreTimes ws y products) b t)
