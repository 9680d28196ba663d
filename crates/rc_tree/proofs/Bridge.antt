-- The sums over pairs of paths, as the definitions have them, are the moments of a forest's rows.
use Rattle.std.proofs.Common.{◌≡◌, ℕ, zero, suc, ◌+◌, ◌*◌, ◌<◌, ◌==◌, ℤ, pos, ◌+ℤ◌, ◌*ℤ◌, nat_abs, Bool, true, false, ◌||◌, List, [], ◌∷◌, ◌++◌, map, length, Option, None, Some, is_some, refl, ap, sym, subst, ◌∙◌, arith, inl, inr, ◌⊎◌, if◌then◌else◌}
use Rattle.std.specs.List.{AllByRecursion}
use Rattle.std.specs.Option.{unwrap_or}
use Rattle.std.proofs.lemmas.Bool.{cases_Bool, false≢true, eq-eqb, ne_eqb, cases_eq}
use Rattle.timing_defs.specs.declared.parasitics.RcNode.{RcNode}
use Rattle.timing_defs.specs.declared.parasitics.RcRes.{RcRes}
use Rattle.timing_defs.specs.declared.parasitics.RcCap.{RcCap}
use Rattle.timing_defs.specs.Wires.{sum_of, same_rc, same_res, res_of, common_resistance, shared_resistance, path_between}
use Rattle.rc_tree.specs.Trees.{is_node}
use Rattle.rc_tree.specs.Numbering.{node_at, AreApart}
use Rattle.rc_tree.specs.declared.segments.Segment.{Segment}
use Rattle.rc_tree.specs.declared.forests.Forest.{Forest}
use Rattle.rc_tree.specs.Growth.{AreSegments, row_at, up_of, place_of, IsUsed}
use Rattle.rc_tree.specs.Moments.{path_to, sum_below, common}
use Rattle.rc_tree.specs.Loops.{IsFound}
use Rattle.rc_tree.specs.Weights.{cap_of, sum_nat, IsWeighed}
use Rattle.rc_tree.proofs.Routes.{all_append, all_more, same_rc_is, same_rc_self}
use Rattle.rc_tree.proofs.Forest.{up_to, path_step, path_start, path_found, not_found, IsForest}
use Rattle.rc_tree.proofs.Moments.{sum_put, sum_agree, sum_nothing}
use Rattle.rc_tree.proofs.Growing.{resistor, node_of, forest_of, resistors_are}

module _ (nodes : List RcNode) (ress : List RcRes) (segments : List Segment) (f : Forest) (apart : AreApart nodes) (wires : AreSegments nodes ress segments) (found : IsFound segments (length nodes) f) where
  abbrev pub path : ℕ → List ℕ
  path j = path_to (up_of f.rows.items) j

  abbrev pub at : ℕ → RcNode
  at j = node_of nodes f j

  abbrev rs : ℕ → RcRes
  rs k = resistor nodes segments k

  abbrev seg : ℕ → ℕ
  seg j = (row_at f.rows.items j).segment

  abbrev home : ℕ → ℕ
  home j = (row_at f.rows.items j).home

  abbrev pub res : ℕ → ℕ
  res j = (row_at f.rows.items j).res

  grows : IsForest rs at (up_of f.rows.items) seg home (length segments) (length f.rows.items)
  grows = forest_of nodes segments f apart found.grown

  ress_are : map rs (up_to (length segments)) ≡ ress
  ress_are = resistors_are nodes segments ∙ wires.0

  abbrev IsPlaced : ℕ → Type 0
  IsPlaced j = (j < length f.rows.items) × ((p : ℕ) × (up_of f.rows.items j ≡ Some p))

  all_placed : (m j : ℕ) → j < m → j < length f.rows.items → AllByRecursion IsPlaced (path j)
  all_placed zero j l lj = absurd (omega arith)
  all_placed (suc m) j l lj = by (up_of f.rows.items j) refl (λ p a b. all_placed m p a b)
    where
      by : (o : Option ℕ) → up_of f.rows.items j ≡ o → ((p : ℕ) → p < m → p < length f.rows.items → AllByRecursion IsPlaced (path p)) → AllByRecursion IsPlaced (path j)
      by None o rest = subst (AllByRecursion IsPlaced) (sym (path_start rs at (up_of f.rows.items) seg home (length segments) (length f.rows.items) grows j o)) tt
      by (Some p) o rest =
          let low : p < j = found.grown.rising j p lj o in
          subst (AllByRecursion IsPlaced) (sym (path_step rs at (up_of f.rows.items) seg home (length segments) (length f.rows.items) grows j p lj o))
          (all_append IsPlaced (path p) (j ∷ []) (rest p (omega arith) (omega arith)) ((lj, (p, o)), tt))

  -- resistors with the same ends are one
  same_ends : (i j : ℕ) → IsPlaced i → IsPlaced j → (rs (seg i)).a ≡ (rs (seg j)).a → (rs (seg i)).b ≡ (rs (seg j)).b → i ≡ j
  same_ends i j pi pj ea eb = by (grows.rising i pi.1.0 pi.0 pi.1.1) (grows.rising j pj.1.0 pj.0 pj.1.1) (grows.joined i pi.1.0 pi.0 pi.1.1) (grows.joined j pj.1.0 pj.0 pj.1.1)
    where
      p : ℕ
      p = pi.1.0

      q : ℕ
      q = pj.1.0

      by : p < i → q < j → (((rs (seg i)).a ≡ at p) × ((rs (seg i)).b ≡ at i)) ⊎ (((rs (seg i)).a ≡ at i) × ((rs (seg i)).b ≡ at p))
          → (((rs (seg j)).a ≡ at q) × ((rs (seg j)).b ≡ at j)) ⊎ (((rs (seg j)).a ≡ at j) × ((rs (seg j)).b ≡ at q)) → i ≡ j
      by lp lq (inl x) (inl y) = grows.apart i j pi.0 pj.0 (sym x.1 ∙ eb ∙ y.1)
      by lp lq (inr x) (inr y) = grows.apart i j pi.0 pj.0 (sym x.0 ∙ ea ∙ y.0)
      by lp lq (inl x) (inr y) =
          let li : i < length f.rows.items = pi.0 in
          let lj : j < length f.rows.items = pj.0 in
          let pj' : p ≡ j = grows.apart p j (omega arith) lj (sym x.0 ∙ ea ∙ y.0) in
          let iq : i ≡ q = grows.apart i q li (omega arith) (sym x.1 ∙ eb ∙ y.1) in
          omega arith
      by lp lq (inr x) (inl y) =
          let li : i < length f.rows.items = pi.0 in
          let lj : j < length f.rows.items = pj.0 in
          let iq : i ≡ q = grows.apart i q li (omega arith) (sym x.0 ∙ ea ∙ y.0) in
          let pj' : p ≡ j = grows.apart p j (omega arith) lj (sym x.1 ∙ eb ∙ y.1) in
          omega arith

  same_is : (i j : ℕ) → IsPlaced i → IsPlaced j → same_res (rs (seg i)) (rs (seg j)) ≡ (i == j)
  same_is i j pi pj = elim (cases_eq i j) [
    | inl e ↦
        let own : same_res (rs (seg i)) (rs (seg i)) ≡ true = rw (same_rc_self (rs (seg i)).a, same_rc_self (rs (seg i)).b) refl in
        subst (λ x. same_res (rs (seg i)) (rs (seg x)) ≡ (i == x)) e (own ∙ sym (eq-eqb i i refl))
    | inr un ↦ by (same_rc (rs (seg i)).a (rs (seg j)).a) refl (same_rc (rs (seg i)).b (rs (seg j)).b) refl un
  ]
    where
      by : (a : Bool) → same_rc (rs (seg i)).a (rs (seg j)).a ≡ a → (b : Bool) → same_rc (rs (seg i)).b (rs (seg j)).b ≡ b → (i ≡ j → ⊥) → same_res (rs (seg i)) (rs (seg j)) ≡ (i == j)
      by true ea true eb un = absurd (un (same_ends i j pi pj (same_rc_is (rs (seg i)).a (rs (seg j)).a ea) (same_rc_is (rs (seg i)).b (rs (seg j)).b eb)))
      by true ea false eb un = rw (ea, eb) (sym (ne_eqb i j un))
      by false ea b eb un = rw ea (sym (ne_eqb i j un))

  res_is : (j : ℕ) → IsPlaced j → res_of (rs (seg j)) ≡ pos (res j)
  res_is j pj = ap pos (sym (found.grown.linked j pj.1.0 pj.0 pj.1.1).2)

  common_is : (ps qs : List ℕ) → AllByRecursion IsPlaced ps → AllByRecursion IsPlaced qs → common_resistance (map rs (map seg ps)) (map rs (map seg qs)) ≡ pos (common res ps qs)
  common_is [] qs a b = refl
  common_is (p ∷ ps) [] a b = refl
  common_is (p ∷ ps) (q ∷ qs) a b = by (p == q) refl (common_is ps qs a.1 b.1)
    where
      by : (t : Bool) → (p == q) ≡ t → common_resistance (map rs (map seg ps)) (map rs (map seg qs)) ≡ pos (common res ps qs)
          → (if same_res (rs (seg p)) (rs (seg q)) then res_of (rs (seg p)) +ℤ common_resistance (map rs (map seg ps)) (map rs (map seg qs)) else pos 0) ≡ pos (if p == q then res p + common res ps qs else 0)
      by true e rest =
          let s : same_res (rs (seg p)) (rs (seg q)) ≡ true = same_is p q a.0 b.0 ∙ e in
          ap (λ t. if t then res_of (rs (seg p)) +ℤ common_resistance (map rs (map seg ps)) (map rs (map seg qs)) else pos 0) s
          ∙ ap (λ z. z +ℤ common_resistance (map rs (map seg ps)) (map rs (map seg qs))) (res_is p a.0)
          ∙ ap (λ z. pos (res p) +ℤ z) rest
          ∙ ap pos (sym (ap (λ t. if t then res p + common res ps qs else 0) e))
      by false e rest =
          let s : same_res (rs (seg p)) (rs (seg q)) ≡ false = same_is p q a.0 b.0 ∙ e in
          ap (λ t. if t then res_of (rs (seg p)) +ℤ common_resistance (map rs (map seg ps)) (map rs (map seg qs)) else pos 0) s
          ∙ ap pos (sym (ap (λ t. if t then res p + common res ps qs else 0) e))

  full : (k : ℕ) → k < length segments → IsUsed f.rows.items k
  full = found.used

  -- no resistor closes a loop
  pub free_of_loops : (some : 0 < length f.rows.items) → up_of f.rows.items 0 ≡ None
  free_of_loops some = by (up_of f.rows.items 0) refl
    where
      by : (o : Option ℕ) → up_of f.rows.items 0 ≡ o → up_of f.rows.items 0 ≡ None
      by None o = o
      by (Some p) o = (let low : p < 0 = found.grown.rising 0 p some o in absurd (omega arith))

  -- the path to a place of the first part
  pub path_is : (v : ℕ) → v < length f.rows.items → home v ≡ 0 → path_between ress (at 0) (at v) ≡ Some (map rs (map seg (path v)))
  path_is v lv h =
      subst (λ r. path_between r (at 0) (at v) ≡ Some (map rs (map seg (path v)))) ress_are
      (path_found rs at (up_of f.rows.items) seg home (length segments) (length f.rows.items) grows full
      (free_of_loops (omega arith)) v lv (h ∙ sym (found.grown.own_home 0 (omega arith) (free_of_loops (omega arith)))))

  -- a node that is at no place of the first part
  pub path_none : 0 < length f.rows.items → (x : RcNode) → ((v : ℕ) → v < length f.rows.items → home v ≡ 0 → x ≡ at v → ⊥) → path_between ress (at 0) x ≡ None
  path_none some x h =
      subst (λ r. path_between r (at 0) x ≡ None) ress_are
      (not_found rs at (up_of f.rows.items) seg home (length segments) (length f.rows.items) grows full some x
      (λ v lv hv e. h v lv (hv ∙ found.grown.own_home 0 some (free_of_loops some)) e))

  -- each place is of the first part, or begins a part
  abbrev pub IsRooted : Type 0
  IsRooted = (v : ℕ) → v < length f.rows.items → (home v ≡ 0) ⊎ (path v ≡ [])

  pub paths_are : IsRooted → (v : ℕ) → v < length f.rows.items → unwrap_or (path_between ress (at 0) (at v)) [] ≡ map rs (map seg (path v))
  paths_are rooted v lv = elim (cases_eq (home v) 0) [
    | inl e ↦ ap (λ o. unwrap_or o []) (path_is v lv e)
    | inr un ↦ by un (rooted v lv)
  ]
    where
      by : (home v ≡ 0 → ⊥) → (home v ≡ 0) ⊎ (path v ≡ []) → unwrap_or (path_between ress (at 0) (at v)) [] ≡ map rs (map seg (path v))
      by un (inl e) = absurd (un e)
      by un (inr e) =
          ap (λ o. unwrap_or o []) (path_none (omega arith) (at v) (λ x lx hx q. un (ap home (grows.apart v x lv lx q) ∙ hx)))
          ∙ sym (ap (λ ps. map rs (map seg ps)) e)

  -- shared resistance from the root
  pub shared_is : IsRooted → (i k : ℕ) → i < length f.rows.items → k < length f.rows.items → shared_resistance ress (at 0) (at i) (at k) ≡ pos (common res (path i) (path k))
  shared_is rooted i k li lk =
      ap (λ ps. common_resistance ps (unwrap_or (path_between ress (at 0) (at k)) [])) (paths_are rooted i li)
      ∙ ap (common_resistance (map rs (map seg (path i)))) (paths_are rooted k lk)
      ∙ common_is (path i) (path k) (all_placed (suc i) i (omega arith) li) (all_placed (suc k) k (omega arith) lk)

  -- a node that is there has a place
  pub place_there : (x : RcNode) → is_node nodes x ≡ true → (i : ℕ) × (i < length f.rows.items) × (at i ≡ x)
  place_there x h = by (number_there nodes x h)
    where
      number_there : (ns : List RcNode) (y : RcNode) → is_node ns y ≡ true → (u : ℕ) × (u < length ns) × (node_at ns u ≡ y)
      number_there [] y h = absurd (false≢true h)
      number_there (n ∷ ns) y h = go (same_rc y n) refl (number_there ns y)
        where
          go : (b : Bool) → same_rc y n ≡ b → (is_node ns y ≡ true → (u : ℕ) × (u < length ns) × (node_at ns u ≡ y)) → (u : ℕ) × (u < suc (length ns)) × (node_at (n ∷ ns) u ≡ y)
          go true e rest = (0, omega arith, sym (same_rc_is y n e))
          go false e rest = (let r = rest (rw e at h) in let l : r.0 < length ns = r.1 in (suc r.0, omega arith, r.2))

      by : (u : ℕ) × (u < length nodes) × (node_at nodes u ≡ x) → (i : ℕ) × (i < length f.rows.items) × (at i ≡ x)
      by t = go (place_of f t.0) refl
        where
          go : (o : Option ℕ) → place_of f t.0 ≡ o → (i : ℕ) × (i < length f.rows.items) × (at i ≡ x)
          go None o = absurd (false≢true (ap is_some (sym o) ∙ found.all t.0 t.1))
          go (Some i) o = (let b = found.grown.back t.0 i o in (i, b.0, ap (node_at nodes) b.1 ∙ t.2))

  pub there_placed : (i : ℕ) → i < length f.rows.items → is_node nodes (at i) ≡ true
  there_placed i l = within nodes (row_at f.rows.items i).node (found.grown.placed i l).0
    where
      or_right_true : (a b : Bool) → b ≡ true → (a || b) ≡ true
      or_right_true true b h = refl
      or_right_true false b h = h

      within : (ns : List RcNode) (u : ℕ) → u < length ns → is_node ns (node_at ns u) ≡ true
      within [] u l = absurd (omega arith)
      within (n ∷ ns) zero l = rw (same_rc_self n) refl
      within (n ∷ ns) (suc u) l = or_right_true (same_rc (node_at ns u) n) (is_node ns (node_at ns u)) (within ns u (omega arith))

  -- a node that is not there shares nothing
  pub shared_none : 0 < length f.rows.items → (x k : RcNode) → is_node nodes x ≡ false → shared_resistance ress (at 0) x k ≡ pos 0
  shared_none some x k h =
      ap (λ o. common_resistance (unwrap_or o []) (unwrap_or (path_between ress (at 0) k) []))
      (path_none some x (λ v lv hv e. false≢true (sym h ∙ ap (is_node nodes) e ∙ there_placed v lv)))

  -- what a node shares with a place, as a number
  abbrev pub share : ℕ → RcNode → ℕ
  share k x = nat_abs (shared_resistance ress (at 0) x (at k))

  pub share_none : 0 < length f.rows.items → (k : ℕ) (x : RcNode) → is_node nodes x ≡ false → share k x ≡ 0
  share_none some k x h = ap nat_abs (shared_none some x (at k) h)

  pub share_at : IsRooted → (k i : ℕ) → k < length f.rows.items → i < length f.rows.items → share k (at i) ≡ common res (path i) (path k)
  share_at rooted k i lk li = ap nat_abs (shared_is rooted i k li lk)

  pub share_is : IsRooted → 0 < length f.rows.items → (k : ℕ) → k < length f.rows.items → (x : RcNode) → shared_resistance ress (at 0) x (at k) ≡ pos (share k x)
  share_is rooted some k lk x = elim (cases_Bool (is_node nodes x)) [
    | inl t ↦
        let p = place_there x t in
        let s : shared_resistance ress (at 0) x (at k) ≡ pos (common res (path p.0) (path k)) =
        ap (λ y. shared_resistance ress (at 0) y (at k)) (sym p.2) ∙ shared_is rooted p.0 k p.1 lk in
        s ∙ ap (λ z. pos (nat_abs z)) (sym s)
    | inr e ↦ (let s = shared_none some x (at k) e in s ∙ ap (λ z. pos (nat_abs z)) (sym s))
  ]

pub sum_of_nat : {X : Type 0} (f : X → ℤ) (g : X → ℕ) (xs : List X) → AllByRecursion (λ x. f x ≡ pos (g x)) xs → sum_of f xs ≡ pos (sum_nat g xs)
sum_of_nat f g [] a = refl
sum_of_nat f g (x ∷ xs) a = ap (λ z. z +ℤ sum_of f xs) a.0 ∙ ap (λ z. pos (g x) +ℤ z) (sum_of_nat f g xs a.1)

sum_nat_snoc : {X : Type 0} (g : X → ℕ) (xs : List X) (x : X) → sum_nat g (xs ++ x ∷ []) ≡ sum_nat g xs + g x
sum_nat_snoc g [] x = omega arith
sum_nat_snoc g (y ∷ ys) x = (let s = sum_nat_snoc g ys x in omega arith)

pub weighed_none : (nodes : List RcNode) (f : Forest) (w : ℕ → ℕ) → ((i : ℕ) → w i ≡ 0) → IsWeighed nodes f [] w
weighed_none nodes f w z h none =
    sym (sum_nothing (λ i. h (node_of nodes f i) * w i) (length f.rows.items) (λ i l. ap (λ y. h (node_of nodes f i) * y) (z i) ∙ (let e : h (node_of nodes f i) * 0 ≡ 0 = omega arith in e)))

pub weighed_more : (nodes : List RcNode) (f : Forest) (charges : List RcCap) (c : RcCap) (w w' : ℕ → ℕ) (p : ℕ) → p < length f.rows.items → node_of nodes f p ≡ c.node
    → w' p ≡ w p + cap_of c → ((i : ℕ) → i < length f.rows.items → (i ≡ p → ⊥) → w' i ≡ w i) → IsWeighed nodes f charges w → IsWeighed nodes f (charges ++ c ∷ []) w'
weighed_more nodes f charges c w w' p l e a b old h none =
    sum_nat_snoc (λ x. h x.node * cap_of x) charges c
    ∙ ap (λ n. n + h c.node * cap_of c) (old h none)
    ∙ ap (λ x. sum_below (λ i. h (node_of nodes f i) * w i) (length f.rows.items) + h x * cap_of c) (sym e)
    ∙ sym (sum_put (λ i. h (node_of nodes f i)) w w' p (cap_of c) (length f.rows.items) l a b)

pub weighed_skip : (nodes : List RcNode) (f : Forest) (charges : List RcCap) (c : RcCap) (w : ℕ → ℕ) → is_node nodes c.node ≡ false → IsWeighed nodes f charges w → IsWeighed nodes f (charges ++ c ∷ []) w
weighed_skip nodes f charges c w e old h none =
    sum_nat_snoc (λ x. h x.node * cap_of x) charges c
    ∙ ap (λ n. sum_nat (λ x. h x.node * cap_of x) charges + n * cap_of c) (none c.node e)
    ∙ (let z : sum_nat (λ x. h x.node * cap_of x) charges + 0 * cap_of c ≡ sum_nat (λ x. h x.node * cap_of x) charges = omega arith in z)
    ∙ old h none

-- delays and second moments of the definition
module _ (nodes : List RcNode) (ress : List RcRes) (segments : List Segment) (f : Forest) (apart : AreApart nodes) (wires : AreSegments nodes ress segments) (found : IsFound segments (length nodes) f)
    (rooted : IsRooted nodes ress segments f apart wires found) (some : 0 < length f.rows.items)
    (charges : List RcCap) (amounts : AllByRecursion (λ c. c.cap.0 ≡ pos (cap_of c)) charges) (w : ℕ → ℕ) (weighed : IsWeighed nodes f charges w) where
  abbrev pub first_moment : (ℕ → ℕ) → ℕ → ℕ
  first_moment v k = sum_below (λ i. common (λ j. (row_at f.rows.items j).res) (path_to (up_of f.rows.items) i) (path_to (up_of f.rows.items) k) * v i) (length f.rows.items)

  pub elmore_sum : (k : ℕ) → k < length f.rows.items → sum_of (λ c. shared_resistance ress (node_of nodes f 0) c.node (node_of nodes f k) *ℤ c.cap.0) charges ≡ pos (first_moment w k)
  elmore_sum k lk =
      sum_of_nat (λ c. shared_resistance ress (node_of nodes f 0) c.node (node_of nodes f k) *ℤ c.cap.0) (λ c. share nodes ress segments f apart wires found k c.node * cap_of c) charges
      (all_more (λ c. c.cap.0 ≡ pos (cap_of c)) (λ c. shared_resistance ress (node_of nodes f 0) c.node (node_of nodes f k) *ℤ c.cap.0 ≡ pos (share nodes ress segments f apart wires found k c.node * cap_of c))
      (λ c e. ap (λ z. z *ℤ c.cap.0) (share_is nodes ress segments f apart wires found rooted some k lk c.node) ∙ ap (λ z. pos (share nodes ress segments f apart wires found k c.node) *ℤ z) e) charges amounts)
      ∙ ap pos (weighed (share nodes ress segments f apart wires found k) (share_none nodes ress segments f apart wires found some k)
      ∙ sum_agree (λ i. share nodes ress segments f apart wires found k (node_of nodes f i) * w i) (λ i. common (λ j. (row_at f.rows.items j).res) (path_to (up_of f.rows.items) i) (path_to (up_of f.rows.items) k) * w i) (length f.rows.items)
      (λ i l. ap (λ y. y * w i) (share_at nodes ress segments f apart wires found rooted k i lk l)))
