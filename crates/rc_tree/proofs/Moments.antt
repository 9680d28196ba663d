-- Sums over pairs of paths from a root are what one pass up and one pass down a tree give.
use Rattle.std.proofs.Common.{◌≡◌, ℕ, zero, suc, ◌+◌, ◌-◌, ◌*◌, ◌<◌, ◌≤◌, ◌==◌, Bool, true, false, ◌&&◌, if◌then◌else◌, List, [], ◌∷◌, ◌++◌, length, Option, None, Some, refl, ap, sym, subst, ◌∙◌, arith, inl, inr, append_assoc, append-nil, ◌⊎◌}
use Rattle.std.specs.List.{AllByRecursion}
use Rattle.std.specs.Option.{unwrap_or}
use Rattle.std.proofs.lemmas.Bool.{cases_Bool, false≢true, cases_lt, eqb-true, eq-eqb, ne_eqb, cases_eq}
use Rattle.rc_tree.specs.Moments.{sum_below, common, starts, hop_of, stand_of, standing_of, IsUpTo}
use Rattle.rc_tree.proofs.Routes.{all_append, all_more, all_right}

pub sum_agree : (f g : ℕ → ℕ) (n : ℕ) → ((i : ℕ) → i < n → f i ≡ g i) → sum_below f n ≡ sum_below g n
sum_agree f g zero h = refl
sum_agree f g (suc n) h = rw (sum_agree f g n (λ i l. h i (omega arith)), h n (omega arith)) refl

pub sum_plus : (f g : ℕ → ℕ) (n : ℕ) → sum_below (λ i. f i + g i) n ≡ sum_below f n + sum_below g n
sum_plus f g zero = refl
sum_plus f g (suc n) = let s = sum_plus f g n in omega arith

pub sum_times : (k : ℕ) (f : ℕ → ℕ) (n : ℕ) → sum_below (λ i. k * f i) n ≡ k * sum_below f n
sum_times k f zero = omega arith
sum_times k f (suc n) = let s = sum_times k f n in omega arith

pub sum_nothing : (f : ℕ → ℕ) (n : ℕ) → ((i : ℕ) → i < n → f i ≡ 0) → sum_below f n ≡ 0
sum_nothing f zero h = refl
sum_nothing f (suc n) h = let s = sum_nothing f n (λ i l. h i (omega arith)) in let t = h n (omega arith) in omega arith

pub sum_le : (f g : ℕ → ℕ) (n : ℕ) → ((i : ℕ) → i < n → f i ≤ g i) → sum_below f n ≤ sum_below g n
sum_le f g zero h = omega arith
sum_le f g (suc n) h = let s = sum_le f g n (λ i l. h i (omega arith)) in let t = h n (omega arith) in omega arith

eq_swap : (a b : ℕ) → (a == b) ≡ (b == a)
eq_swap a b = elim (cases_eq a b) [
  | inl e ↦ eq-eqb a b e ∙ sym (eq-eqb b a (sym e))
  | inr un ↦ ne_eqb a b un ∙ sym (ne_eqb b a (λ e. un (sym e)))
]

-- a value that is added at one place
pub sum_put : (g t t' : ℕ → ℕ) (p x n : ℕ) → p < n → t' p ≡ t p + x → ((i : ℕ) → i < n → (i ≡ p → ⊥) → t' i ≡ t i)
    → sum_below (λ i. g i * t' i) n ≡ sum_below (λ i. g i * t i) n + g p * x
sum_put g t t' p x zero l a b = absurd (omega arith)
sum_put g t t' p x (suc n) l a b = elim (cases_lt p n) [
  | inl less ↦
      let s = sum_put g t t' p x n less a (λ i il. b i (omega arith)) in
      let e : t' n ≡ t n = b n (omega arith) (λ q. omega arith) in
      let e' : g n * t' n ≡ g n * t n = ap (λ y. g n * y) e in
      omega arith
  | inr more ↦
      let same : p ≡ n = omega arith in
      let s : sum_below (λ i. g i * t' i) n ≡ sum_below (λ i. g i * t i) n =
      sum_agree (λ i. g i * t' i) (λ i. g i * t i) n (λ i il. ap (λ y. g i * y) (b i (omega arith) (λ q. omega arith))) in
      let e : t' n ≡ t n + x = subst (λ y. t' y ≡ t y + x) same a in
      let e' : g n * t' n ≡ g n * (t n + x) = ap (λ y. g n * y) e in
      let e'' : g p * x ≡ g n * x = ap (λ y. g y * x) same in
      omega arith
]

pub common_none : (r : ℕ → ℕ) (xs : List ℕ) → common r xs [] ≡ 0
common_none r [] = refl
common_none r (x ∷ xs) = refl

starts_none : (ys : List ℕ) (e : ℕ) → starts (ys ++ e ∷ []) [] ≡ false
starts_none [] e = refl
starts_none (y ∷ ys) e = refl

common_snoc : (r : ℕ → ℕ) (xs ys : List ℕ) (e : ℕ) → common r xs (ys ++ e ∷ []) ≡ common r xs ys + (if starts (ys ++ e ∷ []) xs then r e else 0)
common_snoc r [] ys e = rw (starts_none ys e) refl
common_snoc r (x ∷ xs) [] e = by (x == e) refl
  where
    by : (b : Bool) → (x == e) ≡ b → (if x == e then r x + common r xs [] else 0) ≡ 0 + (if (x == e) && true then r e else 0)
    by true s =
        let same : r x ≡ r e = ap r (eqb-true x e s) in
        let none : common r xs [] ≡ 0 = common_none r xs in
        rw s (omega arith)
    by false s = rw s refl
common_snoc r (x ∷ xs) (y ∷ ys) e = by (common_snoc r xs ys e) (x == y) refl
  where
    by : common r xs (ys ++ e ∷ []) ≡ common r xs ys + (if starts (ys ++ e ∷ []) xs then r e else 0) → (b : Bool) → (x == y) ≡ b
        → (if x == y then r x + common r xs (ys ++ e ∷ []) else 0) ≡ (if x == y then r x + common r xs ys else 0) + (if (x == y) && starts (ys ++ e ∷ []) xs then r e else 0)
    by rest true s = rw s (let t : common r xs (ys ++ e ∷ []) ≡ common r xs ys + (if starts (ys ++ e ∷ []) xs then r e else 0) = rest in omega arith)
    by rest false s = rw s refl

starts_own : (xs ys : List ℕ) → starts xs (xs ++ ys) ≡ true
starts_own [] ys = refl
starts_own (x ∷ xs) ys = rw (eq-eqb x x refl) (starts_own xs ys)

starts_all : (P : ℕ → Type 0) (xs ys : List ℕ) → starts xs ys ≡ true → AllByRecursion P ys → AllByRecursion P xs
starts_all P [] ys s a = tt
starts_all P (x ∷ xs) [] s a = absurd (false≢true s)
starts_all P (x ∷ xs) (y ∷ ys) s a = by (y == x) refl (λ t. starts_all P xs ys t a.1)
  where
    by : (b : Bool) → (y == x) ≡ b → (starts xs ys ≡ true → AllByRecursion P xs) → AllByRecursion P (x ∷ xs)
    by true e rest = (subst P (eqb-true y x e) a.0, rest (rw e at s))
    by false e rest = absurd (false≢true (rw e at s))

pub common_le : (r : ℕ → ℕ) (most : ℕ) (xs ys : List ℕ) → AllByRecursion (λ x. r x ≤ most) xs → common r xs ys ≤ length ys * most
common_le r most [] ys a = omega arith
common_le r most (x ∷ xs) [] a = omega arith
common_le r most (x ∷ xs) (y ∷ ys) a = by (common_le r most xs ys a.1) (x == y) refl
  where
    by : common r xs ys ≤ length ys * most → (b : Bool) → (x == y) ≡ b → (if x == y then r x + common r xs ys else 0) ≤ suc (length ys) * most
    by rest true s = rw s (let h : r x ≤ most = a.0 in let more : suc (length ys) * most ≡ most + length ys * most = omega arith in omega arith)
    by rest false s = rw s (omega arith)

module _ (n : ℕ) (up : ℕ → Option ℕ) (path : ℕ → List ℕ)
    (rising : (j p : ℕ) → j < n → up j ≡ Some p → p < j)
    (step : (j p : ℕ) → j < n → up j ≡ Some p → path j ≡ path p ++ j ∷ [])
    (start : (j : ℕ) → up j ≡ None → path j ≡ []) where
  -- where what began at a place stands after the `d` last places gave theirs to their parents
  abbrev pub hop : ℕ → ℕ → ℕ
  hop j x = hop_of up j x

  abbrev pub stand : ℕ → ℕ → ℕ
  stand d i = stand_of n up d i

  abbrev Stands : ℕ → ℕ → ℕ → Type 0
  Stands d c x = (x < n) × ((x < n - d) ⊎ (up x ≡ None)) × ((more : List ℕ) × (path c ≡ path x ++ more) × AllByRecursion (λ y. n - d ≤ y) more)

  stands_next : (d c x : ℕ) → d < n → Stands d c x → Stands (suc d) c (hop (n - suc d) x)
  stands_next d c x l s = by (x == n - suc d) refl (up (n - suc d)) refl s.1
    where
      wide : AllByRecursion (λ y. n - suc d ≤ y) s.2.0
      wide = all_more (λ y. n - d ≤ y) (λ y. n - suc d ≤ y) (λ y h. omega arith) s.2.0 s.2.2

      by : (b : Bool) → (x == n - suc d) ≡ b → (o : Option ℕ) → up (n - suc d) ≡ o → (x < n - d) ⊎ (up x ≡ None) → Stands (suc d) c (hop (n - suc d) x)
      by true e (Some p) o u =
          let same : x ≡ n - suc d = eqb-true x (n - suc d) e in
          let low : p < n - suc d = rising (n - suc d) p (omega arith) o in
          let more : path c ≡ path p ++ (n - suc d) ∷ s.2.0 =
          s.2.1 ∙ ap (λ y. path y ++ s.2.0) same ∙ ap (λ ys. ys ++ s.2.0) (step (n - suc d) p (omega arith) o) ∙ append_assoc (path p) ((n - suc d) ∷ []) s.2.0 in
          subst (Stands (suc d) c) (sym (ap (λ b. if b then unwrap_or (up (n - suc d)) (n - suc d) else x) e ∙ ap (λ q. unwrap_or q (n - suc d)) o))
          (omega arith, inl low, ((n - suc d) ∷ s.2.0, more, (omega arith, wide)))
      by true e None o u =
          let same : x ≡ n - suc d = eqb-true x (n - suc d) e in
          subst (Stands (suc d) c) (sym (ap (λ b. if b then unwrap_or (up (n - suc d)) (n - suc d) else x) e ∙ ap (λ q. unwrap_or q (n - suc d)) o))
          (omega arith, inr o, (s.2.0, s.2.1 ∙ ap (λ y. path y ++ s.2.0) same, wide))
      by false e o q (inl u) =
          let other : x ≡ n - suc d → ⊥ = (λ same. false≢true (sym e ∙ eq-eqb x (n - suc d) same)) in
          let less : x < n - suc d = (elim (cases_lt x (n - suc d)) [ inl y ↦ y | inr z ↦ absurd (other (omega arith)) ]) in
          subst (Stands (suc d) c) (sym (ap (λ b. if b then unwrap_or (up (n - suc d)) (n - suc d) else x) e)) (s.0, inl less, (s.2.0, s.2.1, wide))
      by false e o q (inr u) =
          subst (Stands (suc d) c) (sym (ap (λ b. if b then unwrap_or (up (n - suc d)) (n - suc d) else x) e)) (s.0, inr u, (s.2.0, s.2.1, wide))

  stands : (d c : ℕ) → d ≤ n → c < n → Stands d c (stand d c)
  stands zero c l lc = (lc, inl (omega arith), ([], sym (append-nil (path c)), tt))
  stands (suc d) c l lc = stands_next d c (stand d c) (omega arith) (stands d c (omega arith) lc)

  path_low : (m x : ℕ) → x < m → x < n → AllByRecursion (λ y. y ≤ x) (path x)
  path_low zero x l lx = absurd (omega arith)
  path_low (suc m) x l lx = by (up x) refl (λ p a b. path_low m p a b)
    where
      by : (o : Option ℕ) → up x ≡ o → ((p : ℕ) → p < m → p < n → AllByRecursion (λ y. y ≤ p) (path p)) → AllByRecursion (λ y. y ≤ x) (path x)
      by None o rest = subst (AllByRecursion (λ y. y ≤ x)) (sym (start x o)) tt
      by (Some p) o rest =
          let low : p < x = rising x p lx o in
          subst (AllByRecursion (λ y. y ≤ x)) (sym (step x p lx o))
          (all_append (λ y. y ≤ x) (path p) (x ∷ []) (all_more (λ y. y ≤ p) (λ y. y ≤ x) (λ y h. omega arith) (path p) (rest p (omega arith) (omega arith))) (omega arith, tt))

  -- what stands at a place as its turn comes is what its path begins
  below_is : (i p c : ℕ) → i < n → c < n → up i ≡ Some p → (stand (n - suc i) c == i) ≡ starts (path i) (path c)
  below_is i p c li lc ui = by (stand (n - suc i) c == i) refl (stands (n - suc i) c (omega arith) lc)
    where
      x : ℕ
      x = stand (n - suc i) c

      away : (x ≡ i → ⊥) → Stands (n - suc i) c x → (x < n - (n - suc i)) ⊎ (up x ≡ None) → AllByRecursion (λ y. i ≡ y → ⊥) (path x)
      away other s (inl u) =
          all_more (λ y. y ≤ x) (λ y. i ≡ y → ⊥) (λ y h e. other (omega arith)) (path x) (path_low (suc x) x (omega arith) s.0)
      away other s (inr u) = subst (AllByRecursion (λ y. i ≡ y → ⊥)) (sym (start x u)) tt

      by : (b : Bool) → (stand (n - suc i) c == i) ≡ b → Stands (n - suc i) c x → (stand (n - suc i) c == i) ≡ starts (path i) (path c)
      by true e s =
          let same : x ≡ i = eqb-true x i e in
          e ∙ sym (ap (starts (path i)) (s.2.1 ∙ ap (λ y. path y ++ s.2.0) same) ∙ starts_own (path i) s.2.0)
      by false e s = elim (cases_Bool (starts (path i) (path c))) [
        | inr f ↦ e ∙ sym f
        | inl t ↦
            let other : x ≡ i → ⊥ = (λ same. false≢true (sym e ∙ eq-eqb x i same)) in
            let none : AllByRecursion (λ y. i ≡ y → ⊥) (path c) =
            subst (AllByRecursion (λ y. i ≡ y → ⊥)) (sym s.2.1)
            (all_append (λ y. i ≡ y → ⊥) (path x) s.2.0 (away other s s.1)
            (all_more (λ y. n - (n - suc i) ≤ y) (λ y. i ≡ y → ⊥) (λ y h q. omega arith) s.2.0 s.2.2)) in
            let own : AllByRecursion (λ y. i ≡ y → ⊥) (path p ++ i ∷ []) = subst (AllByRecursion (λ y. i ≡ y → ⊥)) (step i p li ui) (starts_all (λ y. i ≡ y → ⊥) (path i) (path c) t none) in
            absurd ((all_right (λ y. i ≡ y → ⊥) (path p) (i ∷ []) own).0 refl)
      ]

  module _ (r w : ℕ → ℕ) where
    -- what stands at a place after `d` turns, what a place gives in its turn, and the sums over pairs of paths
    abbrev pub standing : ℕ → ℕ → ℕ
    standing d i = standing_of n up w d i

    abbrev pub subtotal : ℕ → ℕ
    subtotal i = standing (n - suc i) i

    abbrev pub moment : ℕ → ℕ
    moment k = sum_below (λ c. common r (path c) (path k) * w c) n

    pub moment_start : (k : ℕ) → up k ≡ None → moment k ≡ 0
    moment_start k u =
        sum_nothing (λ c. common r (path c) (path k) * w c) n
        (λ c l. (let none : common r (path c) (path k) ≡ 0 = ap (common r (path c)) (start k u) ∙ common_none r (path c) in
        ap (λ y. y * w c) none ∙ (let z : 0 * w c ≡ 0 = omega arith in z)))

    pub moment_step : (k p : ℕ) → k < n → up k ≡ Some p → moment k ≡ moment p + r k * subtotal k
    moment_step k p l u =
        sum_agree (λ c. common r (path c) (path k) * w c) (λ c. common r (path c) (path p) * w c + r k * (if stand (n - suc k) c == k then w c else 0)) n each
        ∙ sum_plus (λ c. common r (path c) (path p) * w c) (λ c. r k * (if stand (n - suc k) c == k then w c else 0)) n
        ∙ ap (λ y. moment p + y) (sum_times (r k) (λ c. if stand (n - suc k) c == k then w c else 0) n)
      where
        share : (b : Bool) (a x y : ℕ) → (a + (if b then x else 0)) * y ≡ a * y + x * (if b then y else 0)
        share true a x y = omega arith
        share false a x y = omega arith

        each : (c : ℕ) → c < n → common r (path c) (path k) * w c ≡ common r (path c) (path p) * w c + r k * (if stand (n - suc k) c == k then w c else 0)
        each c lc =
            let e : common r (path c) (path k) ≡ common r (path c) (path p) + (if stand (n - suc k) c == k then r k else 0) =
            ap (common r (path c)) (step k p l u) ∙ common_snoc r (path c) (path p) k
            ∙ ap (λ b. common r (path c) (path p) + (if b then r k else 0)) (sym (below_is k p c l lc u ∙ ap (λ ps. starts ps (path c)) (step k p l u))) in
            ap (λ y. y * w c) e ∙ share (stand (n - suc k) c == k) (common r (path c) (path p)) (r k) (w c)

    pub up_none : (t : ℕ → ℕ) → ((i : ℕ) → i < n → t i ≡ w i) → IsUpTo n up w t n
    up_none t h = record {
      low = λ i l. h i l ∙ sym (alone i l) ∙ ap (λ d. standing d i) (let e : 0 ≡ n - n = omega arith in e);
      high = λ i l u. absurd (omega arith);
    }
      where
        one : (m i : ℕ) → i < m → sum_below (λ c. if c == i then w c else 0) m ≡ w i
        one zero i l = absurd (omega arith)
        one (suc m) i l = elim (cases_lt i m) [
          | inl less ↦
              let other : (m == i) ≡ false = ne_eqb m i (λ e. omega arith) in
              let s = one m i less in
              let z : (if m == i then w m else 0) ≡ 0 = ap (λ b. if b then w m else 0) other in
              omega arith
          | inr more ↦
              let same : m ≡ i = omega arith in
              let s : sum_below (λ c. if c == i then w c else 0) m ≡ 0 =
              sum_nothing (λ c. if c == i then w c else 0) m (λ c lc. ap (λ b. if b then w c else 0) (ne_eqb c i (λ e. omega arith))) in
              let z : (if m == i then w m else 0) ≡ w i = ap (λ b. if b then w m else 0) (eq-eqb m i same) ∙ ap w same in
              omega arith
        ]

        alone : (i : ℕ) → i < n → standing 0 i ≡ w i
        alone i l = one n i l

    turn : (d j : ℕ) → d < n → n - suc d ≡ j → (c : ℕ) → stand (suc d) c ≡ hop j (stand d c)
    turn d j l e c = ap (λ k. hop k (stand d c)) e

    stays_there : (d j i : ℕ) → d < n → n - suc d ≡ j → up j ≡ None → standing (suc d) i ≡ standing d i
    stays_there d j i l e u =
        sum_agree (λ c. if stand (suc d) c == i then w c else 0) (λ c. if stand d c == i then w c else 0) n
        (λ c lc. ap (λ x. if x == i then w c else 0) (turn d j l e c ∙ same (stand d c)))
      where
        same : (x : ℕ) → hop j x ≡ x
        same x = by (x == j) refl
          where
            by : (b : Bool) → (x == j) ≡ b → hop j x ≡ x
            by true q = ap (λ b. if b then unwrap_or (up j) j else x) q ∙ ap (λ o. unwrap_or o j) u ∙ sym (eqb-true x j q)
            by false q = ap (λ b. if b then unwrap_or (up j) j else x) q

    moves_up : (d j p i : ℕ) → d < n → n - suc d ≡ j → up j ≡ Some p → i < j → standing (suc d) i ≡ standing d i + (if i == p then standing d j else 0)
    moves_up d j p i l e u li =
        sum_agree (λ c. if stand (suc d) c == i then w c else 0) (λ c. (if stand d c == i then w c else 0) + (if i == p then (if stand d c == j then w c else 0) else 0)) n each
        ∙ sum_plus (λ c. if stand d c == i then w c else 0) (λ c. if i == p then (if stand d c == j then w c else 0) else 0) n
        ∙ ap (λ y. standing d i + y) (out (i == p))
      where
        out : (b : Bool) → sum_below (λ c. if b then (if stand d c == j then w c else 0) else 0) n ≡ (if b then standing d j else 0)
        out true = refl
        out false = sum_nothing (λ c. 0) n (λ c lc. refl)

        go : (x y : ℕ) → (if hop j x == i then y else 0) ≡ (if x == i then y else 0) + (if i == p then (if x == j then y else 0) else 0)
        go x y = by (x == j) refl (i == p) refl
          where
            by : (b : Bool) → (x == j) ≡ b → (t : Bool) → (i == p) ≡ t → (if hop j x == i then y else 0) ≡ (if x == i then y else 0) + (if i == p then (if x == j then y else 0) else 0)
            by true q t g =
                let here : hop j x ≡ p = ap (λ b. if b then unwrap_or (up j) j else x) q ∙ ap (λ o. unwrap_or o j) u in
                let other : (x == i) ≡ false = ne_eqb x i (λ k. (let same : x ≡ j = eqb-true x j q in omega arith)) in
                let flip : (p == i) ≡ (i == p) = eq_swap p i in
                ap (λ z. if z == i then y else 0) here ∙ ap (λ b. if b then y else 0) flip
                ∙ sym (ap (λ b. (if b then y else 0) + (if i == p then (if x == j then y else 0) else 0)) other
                ∙ ap (λ b. 0 + (if i == p then (if b then y else 0) else 0)) q ∙ (let z : 0 + (if i == p then y else 0) ≡ (if i == p then y else 0) = omega arith in z))
            by false q t g =
                let here : hop j x ≡ x = ap (λ b. if b then unwrap_or (up j) j else x) q in
                ap (λ z. if z == i then y else 0) here
                ∙ sym (ap (λ b. (if x == i then y else 0) + (if i == p then (if b then y else 0) else 0)) q ∙ none (i == p) (if x == i then y else 0))
              where
                none : (b : Bool) (a : ℕ) → a + (if b then 0 else 0) ≡ a
                none true a = omega arith
                none false a = omega arith

        each : (c : ℕ) → c < n → (if stand (suc d) c == i then w c else 0) ≡ (if stand d c == i then w c else 0) + (if i == p then (if stand d c == j then w c else 0) else 0)
        each c lc = ap (λ x. if x == i then w c else 0) (turn d j l e c) ∙ go (stand d c) (w c)

    pub up_start : (t : ℕ → ℕ) (j : ℕ) → j < n → up j ≡ None → IsUpTo n up w t (suc j) → IsUpTo n up w t j
    up_start t j l u a = record { low = low; high = λ i li ln. high i li ln (cases_lt j i) }
      where
        low : (i : ℕ) → i < j → t i ≡ standing (n - j) i
        low i li =
            let e : n - suc (n - suc j) ≡ j = omega arith in
            let d : suc (n - suc j) ≡ n - j = omega arith in
            a.low i (omega arith) ∙ sym (stays_there (n - suc j) j i (omega arith) e u) ∙ ap (λ x. standing x i) d

        high : (i : ℕ) → j ≤ i → i < n → (j < i) ⊎ (i ≤ j) → t i ≡ subtotal i
        high i li ln (inl m) = a.high i (omega arith) ln
        high i li ln (inr m) = (let same : j ≡ i = omega arith in a.low i (omega arith) ∙ ap (λ k. standing (n - suc k) i) same)

    pub up_given : (t t' : ℕ → ℕ) (j p : ℕ) → j < n → up j ≡ Some p → t' p ≡ t p + t j → ((i : ℕ) → (i ≡ p → ⊥) → t' i ≡ t i) → IsUpTo n up w t (suc j) → IsUpTo n up w t' j
    up_given t t' j p l u here other a = record { low = λ i li. low i li (i == p) refl; high = λ i li ln. high i li ln (cases_lt j i) }
      where
        e : n - suc (n - suc j) ≡ j
        e = omega arith

        low : (i : ℕ) → i < j → (b : Bool) → (i == p) ≡ b → t' i ≡ standing (n - j) i
        low i li b q =
            let lp : p < j = rising j p l u in
            let d : suc (n - suc j) ≡ n - j = omega arith in
            let m : standing (suc (n - suc j)) i ≡ standing (n - suc j) i + (if i == p then standing (n - suc j) j else 0) = moves_up (n - suc j) j p i (omega arith) e u li in
            now b q ∙ sym m ∙ ap (λ x. standing x i) d
          where
            now : (b : Bool) → (i == p) ≡ b → t' i ≡ standing (n - suc j) i + (if i == p then standing (n - suc j) j else 0)
            now true q =
                let same : i ≡ p = eqb-true i p q in
                let ti : t i ≡ standing (n - suc j) i = a.low i (omega arith) in
                let tj : t j ≡ standing (n - suc j) j = a.low j (omega arith) in
                ap t' same ∙ here ∙ ap (λ k. t k + t j) (sym same) ∙ ap (λ y. y + t j) ti ∙ ap (λ y. standing (n - suc j) i + y) tj
                ∙ ap (λ b. standing (n - suc j) i + (if b then standing (n - suc j) j else 0)) (sym q)
            now false q =
                let un : i ≡ p → ⊥ = (λ k. false≢true (sym q ∙ eq-eqb i p k)) in
                other i un ∙ a.low i (omega arith) ∙ (let z : standing (n - suc j) i ≡ standing (n - suc j) i + 0 = omega arith in z)
                ∙ ap (λ b. standing (n - suc j) i + (if b then standing (n - suc j) j else 0)) (sym q)

        high : (i : ℕ) → j ≤ i → i < n → (j < i) ⊎ (i ≤ j) → t' i ≡ subtotal i
        high i li ln (inl m) = (let lp : p < j = rising j p l u in other i (λ k. omega arith) ∙ a.high i (omega arith) ln)
        high i li ln (inr m) =
            let lp : p < j = rising j p l u in
            let same : j ≡ i = omega arith in
            other i (λ k. omega arith) ∙ a.low i (omega arith) ∙ ap (λ k. standing (n - suc k) i) same

    -- what two places hold together is no more than all
    pub two_le : (d i j : ℕ) → (i ≡ j → ⊥) → standing d i + standing d j ≤ sum_below w n
    two_le d i j un =
        let s : sum_below (λ c. (if stand d c == i then w c else 0) + (if stand d c == j then w c else 0)) n ≡ standing d i + standing d j =
        sum_plus (λ c. if stand d c == i then w c else 0) (λ c. if stand d c == j then w c else 0) n in
        let l : sum_below (λ c. (if stand d c == i then w c else 0) + (if stand d c == j then w c else 0)) n ≤ sum_below w n =
        sum_le (λ c. (if stand d c == i then w c else 0) + (if stand d c == j then w c else 0)) w n (λ c lc. each (stand d c) (w c)) in
        omega arith
      where
        each : (x y : ℕ) → (if x == i then y else 0) + (if x == j then y else 0) ≤ y
        each x y = elim (cases_eq x i) [
          | inl e ↦
              let a : (if x == i then y else 0) ≡ y = ap (λ b. if b then y else 0) (eq-eqb x i e) in
              let b : (if x == j then y else 0) ≡ 0 = ap (λ b. if b then y else 0) (ne_eqb x j (λ q. un (sym e ∙ q))) in
              omega arith
          | inr no_i ↦
              let a : (if x == i then y else 0) ≡ 0 = ap (λ b. if b then y else 0) (ne_eqb x i no_i) in
              elim (cases_eq x j) [
                | inl e ↦ (let b : (if x == j then y else 0) ≡ y = ap (λ b. if b then y else 0) (eq-eqb x j e) in omega arith)
                | inr no_j ↦ (let b : (if x == j then y else 0) ≡ 0 = ap (λ b. if b then y else 0) (ne_eqb x j no_j) in omega arith)
              ]
        ]

    pub subtotal_is : (i p : ℕ) → i < n → up i ≡ Some p → subtotal i ≡ sum_below (λ c. if starts (path i) (path c) then w c else 0) n
    subtotal_is i p li ui =
        sum_agree (λ c. if stand (n - suc i) c == i then w c else 0) (λ c. if starts (path i) (path c) then w c else 0) n
        (λ c lc. ap (λ b. if b then w c else 0) (below_is i p c li lc ui))

    pub room_to_give : (t : ℕ → ℕ) (j p : ℕ) → j < n → up j ≡ Some p → IsUpTo n up w t (suc j) → t p + t j ≤ sum_below w n
    room_to_give t j p l u a =
        let lp : p < j = rising j p l u in
        let tp : t p ≡ standing (n - suc j) p = a.low p (omega arith) in
        let tj : t j ≡ standing (n - suc j) j = a.low j (omega arith) in
        let two = two_le (n - suc j) p j (λ e. omega arith) in
        omega arith
