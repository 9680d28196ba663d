-- A forest that grows by one node and one resistor at a time: walks in it, and the one walk from its first root to a node.
use Rattle.std.proofs.Common.{◌≡◌, ℕ, zero, suc, ◌<◌, ◌≤◌, Bool, true, false, if◌then◌else◌, List, [], ◌∷◌, ◌++◌, map, length, Option, None, Some, is_some, refl, ap, sym, subst, ◌∙◌, arith, inl, inr, append_assoc, append-nil, ◌⊎◌}
use Rattle.std.specs.List.{AllByRecursion, list_any}
use Rattle.std.specs.Option.{option_map_or}
use Rattle.std.proofs.lemmas.Bool.{cases_Bool, false≢true, cases_lt}
use Rattle.std.proofs.lemmas.List.{length-map}
use Rattle.std.proofs.lemmas.Option.{none-some}
use Rattle.timing_defs.specs.declared.parasitics.RcNode.{RcNode}
use Rattle.timing_defs.specs.declared.parasitics.RcRes.{RcRes}
use Rattle.timing_defs.specs.Wires.{same_rc, touches, far_end, each_with_rest, path_between}
use Rattle.rc_tree.specs.Moments.{path_in, path_to}
use Rattle.rc_tree.proofs.Routes.{Among, Lacks, Differ, all_append, all_more, same_rc_is, same_rc_self, Walk, sound, complete, cycle_found, no_cycle}

-- the places 0, 1, .. below a count
abbrev pub up_to : ℕ → List ℕ
up_to zero = []
up_to (suc n) = up_to n ++ n ∷ []

below_more : (n m : ℕ) (ks : List ℕ) → n ≤ m → AllByRecursion (λ k. k < n) ks → AllByRecursion (λ k. k < m) ks
below_more n m ks l a = all_more (λ k. k < n) (λ k. k < m) (λ k b. omega arith) ks a

pub up_to_below : (n : ℕ) → AllByRecursion (λ k. k < n) (up_to n)
up_to_below zero = tt
up_to_below (suc n) = all_append (λ k. k < suc n) (up_to n) (n ∷ []) (below_more n (suc n) (up_to n) (omega arith) (up_to_below n)) (omega arith, tt)

differ_snoc : (ks : List ℕ) (k : ℕ) → Differ ks → Lacks k ks → Differ (ks ++ k ∷ [])
differ_snoc [] k d l = (tt, tt)
differ_snoc (j ∷ ks) k d l = (all_append (λ i. j ≡ i → ⊥) ks (k ∷ []) d.0 ((λ e. l.0 (sym e)), tt), differ_snoc ks k d.1 l.1)

pub up_to_differ : (n : ℕ) → Differ (up_to n)
up_to_differ zero = tt
up_to_differ (suc n) = differ_snoc (up_to n) n (up_to_differ n) (all_more (λ k. k < n) (λ k. n ≡ k → ⊥) (λ k b e. omega arith) (up_to n) (up_to_below n))

among_left : (k : ℕ) (xs ys : List ℕ) → Among k xs → Among k (xs ++ ys)
among_left k [] ys i = absurd i
among_left k (x ∷ xs) ys (inl e) = inl e
among_left k (x ∷ xs) ys (inr i) = inr (among_left k xs ys i)

among_last : (k : ℕ) (xs : List ℕ) (x : ℕ) → k ≡ x → Among k (xs ++ x ∷ [])
among_last k [] x e = inl e
among_last k (y ∷ xs) x e = inr (among_last k xs x e)

pub among_up_to : (k n : ℕ) → k < n → Among k (up_to n)
among_up_to k zero l = omega arith
among_up_to k (suc n) l = elim (cases_lt k n) [
  | inl less ↦ among_left k (up_to n) (n ∷ []) (among_up_to k n less)
  | inr more ↦ among_last k (up_to n) n (omega arith)
]

abbrev turned : List ℕ → List ℕ
turned [] = []
turned (k ∷ ks) = turned ks ++ k ∷ []

all_reverse : (P : ℕ → Type 0) (ks : List ℕ) → AllByRecursion P ks → AllByRecursion P (turned ks)
all_reverse P [] a = tt
all_reverse P (k ∷ ks) a = all_append P (turned ks) (k ∷ []) (all_reverse P ks a.1) (a.0, tt)

differ_reverse : (ks : List ℕ) → Differ ks → Differ (turned ks)
differ_reverse [] d = tt
differ_reverse (k ∷ ks) d = differ_snoc (turned ks) k (differ_reverse ks d.1) (all_reverse (λ j. k ≡ j → ⊥) ks d.0)

-- a resistor leads back
leads_back : (r : RcRes) (from : RcNode) → touches r from ≡ true → (touches r (far_end r from) ≡ true) × (far_end r (far_end r from) ≡ from)
leads_back r from t = by (same_rc r.a from) refl
  where
    back : (b : Bool) → same_rc r.a r.b ≡ b → r.a ≡ from → (touches r r.b ≡ true) × ((if same_rc r.a r.b then r.b else r.a) ≡ from)
    back true s e = (rw s refl, rw s (sym (same_rc_is r.a r.b s) ∙ e))
    back false s e = (rw (s, same_rc_self r.b) refl, rw s e)

    by : (b : Bool) → same_rc r.a from ≡ b → (touches r (far_end r from) ≡ true) × (far_end r (far_end r from) ≡ from)
    by true s = rw s (back (same_rc r.a r.b) refl (same_rc_is r.a from s))
    by false s =
        let e : r.b ≡ from = same_rc_is r.b from (rw s at t) in
        rw (s, same_rc_self r.a) (refl, e)

module _ (rs : ℕ → RcRes) where
  walk_append : (from : RcNode) (ks : List ℕ) (mid : RcNode) (ls : List ℕ) (to : RcNode) → Walk rs from ks mid → Walk rs mid ls to → Walk rs from (ks ++ ls) to
  walk_append from [] mid ls to w v = subst (λ x. Walk rs x ls to) (sym w) v
  walk_append from (k ∷ ks) mid ls to w v = (w.0, walk_append (far_end (rs k) from) ks mid ls to w.1 v)

  walk_back : (from : RcNode) (ks : List ℕ) (to : RcNode) → Walk rs from ks to → Walk rs to (turned ks) from
  walk_back from [] to w = sym w
  walk_back from (k ∷ ks) to w =
      let back = leads_back (rs k) from w.0 in
      walk_append to (turned ks) (far_end (rs k) from) (k ∷ []) from (walk_back (far_end (rs k) from) ks to w.1) (back.0, back.1)

  -- a resistor joins the places `p` and `j`
  abbrev pub Joins : (ℕ → RcNode) → ℕ → ℕ → ℕ → Type 0
  Joins at k p j = (((rs k).a ≡ at p) × ((rs k).b ≡ at j)) ⊎ (((rs k).a ≡ at j) × ((rs k).b ≡ at p))

  -- `n` places: their nodes, the parent of each with the resistor to it, and the first place of its part
  pub record IsForest (at : ℕ → RcNode) (up : ℕ → Option ℕ) (seg home : ℕ → ℕ) (many n : ℕ) : Type 0 where
    pub apart : (i j : ℕ) → i < n → j < n → at i ≡ at j → i ≡ j
    pub rising : (j p : ℕ) → j < n → up j ≡ Some p → p < j
    pub joined : (j p : ℕ) → j < n → up j ≡ Some p → Joins at (seg j) p j
    pub inside : (j p : ℕ) → j < n → up j ≡ Some p → seg j < many
    pub same_home : (j p : ℕ) → j < n → up j ≡ Some p → home j ≡ home p
    pub own_home : (j : ℕ) → j < n → up j ≡ None → home j ≡ j
    pub low_home : (j : ℕ) → j < n → home j ≤ j

module _ (rs : ℕ → RcRes) (at : ℕ → RcNode) (up : ℕ → Option ℕ) (seg home : ℕ → ℕ) (many n : ℕ) (f : IsForest rs at up seg home many n) where
  -- the resistor of a place that has a parent
  abbrev pub IsLink : ℕ → ℕ → Type 0
  IsLink m k = (j : ℕ) × ((p : ℕ) × (j < m) × (up j ≡ Some p) × (seg j ≡ k))

  apart_no : (i j : ℕ) → i < n → j < n → (i ≡ j → ⊥) → same_rc (at i) (at j) ≡ false
  apart_no i j a b un = elim (cases_Bool (same_rc (at i) (at j))) [
    | inl t ↦ absurd (un (f.apart i j a b (same_rc_is (at i) (at j) t)))
    | inr e ↦ e
  ]

  -- a link from either end
  from_parent : (k p j : ℕ) → p < n → j < n → (p ≡ j → ⊥) → Joins rs at k p j → (touches (rs k) (at p) ≡ true) × (far_end (rs k) (at p) ≡ at j)
  from_parent k p j lp lj un (inl e) = (rw (e.0, same_rc_self (at p)) refl, rw (e.0, same_rc_self (at p)) e.1)
  from_parent k p j lp lj un (inr e) =
      let other : same_rc (at j) (at p) ≡ false = apart_no j p lj lp (λ q. un (sym q)) in
      (rw (e.0, e.1, other, same_rc_self (at p)) refl, rw (e.0, other) refl)

  from_child : (k p j : ℕ) → p < n → j < n → (p ≡ j → ⊥) → Joins rs at k p j → (touches (rs k) (at j) ≡ true) × (far_end (rs k) (at j) ≡ at p)
  from_child k p j lp lj un (inl e) = from_parent k j p lj lp (λ q. un (sym q)) (inr e)
  from_child k p j lp lj un (inr e) = from_parent k j p lj lp (λ q. un (sym q)) (inl e)

  -- a place at a link is one of its two ends
  which_end : (k p j u : ℕ) → p < n → j < n → u < n → Joins rs at k p j → touches (rs k) (at u) ≡ true → (u ≡ p) ⊎ (u ≡ j)
  which_end k p j u lp lj lu joins t = by (same_rc (rs k).a (at u)) refl joins
    where
      by : (b : Bool) → same_rc (rs k).a (at u) ≡ b → Joins rs at k p j → (u ≡ p) ⊎ (u ≡ j)
      by true s (inl e) = inl (f.apart u p lu lp (sym (same_rc_is (rs k).a (at u) s) ∙ e.0))
      by true s (inr e) = inr (f.apart u j lu lj (sym (same_rc_is (rs k).a (at u) s) ∙ e.0))
      by false s (inl e) = inr (f.apart u j lu lj (sym (same_rc_is (rs k).b (at u) (rw s at t)) ∙ e.1))
      by false s (inr e) = inl (f.apart u p lu lp (sym (same_rc_is (rs k).b (at u) (rw s at t)) ∙ e.1))

  -- each link is that of one place
  pub one_child : (i p j q : ℕ) → i < n → j < n → up i ≡ Some p → up j ≡ Some q → seg i ≡ seg j → i ≡ j
  one_child i p j q li lj ui uj e = by (f.rising i p li ui) (f.rising j q lj uj) (f.joined i p li ui) (subst (λ k. Joins rs at k q j) (sym e) (f.joined j q lj uj))
    where
      by : p < i → q < j → Joins rs at (seg i) p i → Joins rs at (seg i) q j → i ≡ j
      by lp lq (inl x) (inl y) = f.apart i j li lj (sym x.1 ∙ y.1)
      by lp lq (inr x) (inr y) = f.apart i j li lj (sym x.0 ∙ y.0)
      by lp lq (inl x) (inr y) =
          let pj : p ≡ j = f.apart p j (omega arith) lj (sym x.0 ∙ y.0) in
          let iq : i ≡ q = f.apart i q li (omega arith) (sym x.1 ∙ y.1) in
          omega arith
      by lp lq (inr x) (inl y) =
          let pj : i ≡ q = f.apart i q li (omega arith) (sym x.0 ∙ y.0) in
          let iq : p ≡ j = f.apart p j (omega arith) lj (sym x.1 ∙ y.1) in
          omega arith

  -- walks over links between two places of one part
  abbrev pub Trail : ℕ → ℕ → ℕ → Type 0
  Trail m u v = (ks : List ℕ) × Walk rs (at u) ks (at v) × Differ ks × AllByRecursion (IsLink m) ks

  wider : (m : ℕ) (ks : List ℕ) → AllByRecursion (IsLink m) ks → AllByRecursion (IsLink (suc m)) ks
  wider m ks a = all_more (IsLink m) (IsLink (suc m)) (λ k l. (l.0, (l.1.0, omega (arith, l.1.1), l.1.2, l.1.3))) ks a

  unlike : (m p : ℕ) (ks : List ℕ) → m < n → up m ≡ Some p → AllByRecursion (IsLink m) ks → Lacks (seg m) ks
  unlike m p ks lm um a =
      all_more (IsLink m) (λ k. seg m ≡ k → ⊥)
      (λ k l e.
      let low : l.0 < m = l.1.1 in
      let same : m ≡ l.0 = one_child m p l.0 l.1.0 lm (omega arith) um l.1.2 (e ∙ sym l.1.3) in
      omega arith) ks a

  trail_up : (m p v : ℕ) → m < n → up m ≡ Some p → Trail m p v → Trail (suc m) m v
  trail_up m p v lm um t =
      let low : p < m = f.rising m p lm um in
      let s = from_child (seg m) p m (omega arith) lm (λ e. omega arith) (f.joined m p lm um) in (
        seg m ∷ t.0,
        (s.0, subst (λ x. Walk rs x t.0 (at v)) (sym s.1) t.1),
        (unlike m p t.0 lm um t.3, t.2),
        ((m, (p, omega arith, um, refl)), wider m t.0 t.3),
      )

  trail_down : (m p u : ℕ) → m < n → up m ≡ Some p → Trail m u p → Trail (suc m) u m
  trail_down m p u lm um t =
      let low : p < m = f.rising m p lm um in
      let s = from_parent (seg m) p m (omega arith) lm (λ e. omega arith) (f.joined m p lm um) in (
        t.0 ++ seg m ∷ [],
        walk_append rs (at u) t.0 (at p) (seg m ∷ []) (at m) t.1 (s.0, s.1),
        differ_snoc t.0 (seg m) t.2 (unlike m p t.0 lm um t.3),
        all_append (IsLink (suc m)) t.0 (seg m ∷ []) (wider m t.0 t.3) ((m, (p, omega arith, um, refl)), tt),
      )

  trail_step : (m : ℕ) → m < n → ((u v : ℕ) → u < m → v < m → home u ≡ home v → Trail m u v) → (u v : ℕ) → u < suc m → v < suc m → home u ≡ home v → Trail (suc m) u v
  trail_step m lm ih u v lu lv h = by (cases_lt u m) (cases_lt v m) (up m) refl
    where
      alone : (w : ℕ) → w < m → up m ≡ None → home w ≡ home m → ⊥
      alone w l o e =
          let a : home m ≡ m = f.own_home m lm o in
          let b : home w ≤ w = f.low_home w (omega arith) in
          omega arith

      by : (u < m) ⊎ (m ≤ u) → (v < m) ⊎ (m ≤ v) → (o : Option ℕ) → up m ≡ o → Trail (suc m) u v
      by (inl a) (inl b) o e = (let t = ih u v a b h in (t.0, t.1, t.2, wider m t.0 t.3))
      by (inr a) (inr b) o e = (let same : u ≡ v = omega arith in ([], ap at same, tt, tt))
      by (inr a) (inl b) None e = (let same : u ≡ m = omega arith in absurd (alone v b e (sym h ∙ ap home same)))
      by (inl a) (inr b) None e = (let same : v ≡ m = omega arith in absurd (alone u a e (h ∙ ap home same)))
      by (inr a) (inl b) (Some p) e =
          let same : m ≡ u = omega arith in
          let low : p < m = f.rising m p lm e in
          subst (λ w. Trail (suc m) w v) same (trail_up m p v lm e (ih p v low b (sym (f.same_home m p lm e) ∙ ap home same ∙ h)))
      by (inl a) (inr b) (Some p) e =
          let same : m ≡ v = omega arith in
          let low : p < m = f.rising m p lm e in
          subst (λ w. Trail (suc m) u w) same (trail_down m p u lm e (ih u p a low (h ∙ sym (ap home same) ∙ f.same_home m p lm e)))

  pub trail : (m : ℕ) → m ≤ n → (u v : ℕ) → u < m → v < m → home u ≡ home v → Trail m u v
  trail zero l u v lu lv h = absurd (omega arith)
  trail (suc m) l u v lu lv h = trail_step m (omega arith) (λ x y. trail m (omega arith) x y) u v lu lv h

  links_inside : (m : ℕ) → m ≤ n → (ks : List ℕ) → AllByRecursion (IsLink m) ks → AllByRecursion (λ k. k < many) ks
  links_inside m l ks a =
      all_more (IsLink m) (λ k. k < many)
      (λ k x.
      let low : x.0 < m = x.1.1 in
      subst (λ s. s < many) x.1.3 (f.inside x.0 x.1.0 (omega arith) x.1.2)) ks a

  -- a resistor between two places of one part that is no link closes a loop
  pub loop_found : (k u v : ℕ) → k < many → u < n → v < n → (rs k).a ≡ at u → (rs k).b ≡ at v → home u ≡ home v → (IsLink n k → ⊥)
      → list_any (λ (r, rest). is_some (path_between rest r.a r.b)) (each_with_rest [] (map rs (up_to many))) ≡ true
  loop_found k u v lk lu lv ea eb h un =
      let t = trail n (omega arith) u v lu lv h in
      let inner = links_inside n (omega arith) t.0 t.3 in
      cycle_found rs (up_to many) k t.0 (among_up_to k many lk)
      (subst (λ x. Walk rs x t.0 (rs k).b) (sym ea) (subst (λ x. Walk rs (at u) t.0 x) (sym eb) t.1)) t.2
      (all_more (λ j. j < many) (λ j. Among j (up_to many)) (λ j l. among_up_to j many l) t.0 inner)
      (all_more (IsLink n) (λ j. k ≡ j → ⊥) (λ j l e. un (l.0, (l.1.0, l.1.1, l.1.2, l.1.3 ∙ sym e))) t.0 t.3)

  -- one place more of a path
  enough_by : (a b j : ℕ) → j < n → ((p : ℕ) → p < j → path_in up a p ≡ path_in up b p) → (o : Option ℕ) → up j ≡ o
      → option_map_or (λ p. path_in up a p ++ j ∷ []) o [] ≡ option_map_or (λ p. path_in up b p ++ j ∷ []) o []
  enough_by a b j l h None e = refl
  enough_by a b j l h (Some p) e = ap (λ ps. ps ++ j ∷ []) (h p (f.rising j p l e))

  enough : (a b j : ℕ) → j < n → j < a → j < b → path_in up a j ≡ path_in up b j
  enough zero b j l x y = absurd (omega arith)
  enough (suc a) zero j l x y = absurd (omega arith)
  enough (suc a) (suc b) j l x y = enough_by a b j l (λ p low. enough a b p (omega arith) (omega arith) (omega arith)) (up j) refl

  pub path_step : (j p : ℕ) → j < n → up j ≡ Some p → path_to up j ≡ path_to up p ++ j ∷ []
  path_step j p l e =
      let low : p < j = f.rising j p l e in
      ap (λ o. option_map_or (λ q. path_in up j q ++ j ∷ []) o []) e
      ∙ ap (λ ps. ps ++ j ∷ []) (enough j (suc p) p (omega arith) low (omega arith))

  pub path_start : (j : ℕ) → up j ≡ None → path_to up j ≡ []
  path_start j e = ap (λ o. option_map_or (λ q. path_in up j q ++ j ∷ []) o []) e

  -- where each resistor is a link, a walk that does not begin upwards leads down
  abbrev pub Down : List ℕ → ℕ → ℕ → Type 0
  Down ks u v = (js : List ℕ) × (ks ≡ map seg js) × (path_to up v ≡ path_to up u ++ js) × (u ≤ v)

  down_step : (k : ℕ) (ks : List ℕ) (u v : ℕ) → IsLink n k → u < n → Walk rs (at u) (k ∷ ks) (at v) → Differ (k ∷ ks)
      → ((p : ℕ) → up u ≡ Some p → Lacks (seg u) (k ∷ ks))
      → ((j : ℕ) → j < n → Walk rs (at j) ks (at v) → Lacks (seg j) ks → Down ks j v) → Down (k ∷ ks) u v
  down_step k ks u v link lu w d l ih = by (f.rising link.0 link.1.0 link.1.1 link.1.2)
    where
      j : ℕ
      j = link.0

      p : ℕ
      p = link.1.0

      go : p < j → (u ≡ p) ⊎ (u ≡ j) → Joins rs at k p j → Down (k ∷ ks) u v
      go low (inl e) joins =
          let lj : j < n = link.1.1 in
          let s = from_parent k p j (omega arith) lj (λ q. omega arith) joins in
          let far : far_end (rs k) (at u) ≡ at j = ap (λ x. far_end (rs k) (at x)) e ∙ s.1 in
          let g = ih j lj (subst (λ x. Walk rs x ks (at v)) far w.1) (subst (λ x. Lacks x ks) (sym link.1.3) d.0) in
          let over : u ≤ v = (let less = g.3 in omega arith) in (
            j ∷ g.0,
            ap (λ x. x ∷ ks) (sym link.1.3) ∙ ap (λ xs. seg j ∷ xs) g.1,
            g.2 ∙ ap (λ xs. xs ++ g.0) (path_step j p lj link.1.2) ∙ append_assoc (path_to up p) (j ∷ []) g.0 ∙ ap (λ x. path_to up x ++ j ∷ g.0) (sym e),
            over,
          )
      go low (inr e) joins = absurd ((l p (ap up e ∙ link.1.2)).0 (ap seg e ∙ link.1.3))

      by : p < j → Down (k ∷ ks) u v
      by low =
          let lj : j < n = link.1.1 in
          let joins : Joins rs at k p j = subst (λ x. Joins rs at x p j) link.1.3 (f.joined j p lj link.1.2) in
          go low (which_end k p j u (omega arith) lj lu joins w.0) joins

  pub descend : ((k : ℕ) → k < many → IsLink n k) → (ks : List ℕ) (u v : ℕ) → u < n → v < n → Walk rs (at u) ks (at v) → Differ ks → AllByRecursion (λ k. k < many) ks → ((p : ℕ) → up u ≡ Some p → Lacks (seg u) ks) → Down ks u v
  descend full [] u v lu lv w d a l =
      let same : u ≡ v = f.apart u v lu lv w in
      ([], refl, ap (path_to up) (sym same) ∙ sym (append-nil (path_to up u)), omega arith)
  descend full (k ∷ ks) u v lu lv w d a l =
      down_step k ks u v (full k a.0) lu w d l (λ j lj w' l'. descend full ks j v lj lv w' d.1 a.1 (λ p e. l'))

  -- then no resistor closes a loop
  no_way_round : ((k : ℕ) → k < many → IsLink n k) → (k : ℕ) (ks : List ℕ) (j p : ℕ) → j < n → up j ≡ Some p → seg j ≡ k → Walk rs (at j) ks (at p) → Differ ks → AllByRecursion (λ i. (i < many) × (k ≡ i → ⊥)) ks → ⊥
  no_way_round full k ks j p lj uj sk w d a =
      let low : p < j = f.rising j p lj uj in
      let g = descend full ks j p lj (omega arith) w d (all_more (λ i. (i < many) × (k ≡ i → ⊥)) (λ i. i < many) (λ i x. x.0) ks a)
      (λ q e. all_more (λ i. (i < many) × (k ≡ i → ⊥)) (λ i. seg j ≡ i → ⊥) (λ i x y. x.1 (sym sk ∙ y)) ks a) in
      let less : j ≤ p = g.3 in
      omega arith

  no_loop_at : ((k : ℕ) → k < many → IsLink n k) → (k : ℕ) (ks : List ℕ) → k < many → Walk rs (rs k).a ks (rs k).b → Differ ks → AllByRecursion (λ i. (i < many) × (k ≡ i → ⊥)) ks → ⊥
  no_loop_at full k ks lk w d a = by (full k lk)
    where
      by : IsLink n k → ⊥
      by link = go (subst (λ x. Joins rs at x link.1.0 link.0) link.1.3 (f.joined link.0 link.1.0 link.1.1 link.1.2))
        where
          go : Joins rs at k link.1.0 link.0 → ⊥
          go (inr e) =
              no_way_round full k ks link.0 link.1.0 link.1.1 link.1.2 link.1.3
              (subst (λ x. Walk rs x ks (at link.1.0)) e.0 (subst (λ x. Walk rs (rs k).a ks x) e.1 w)) d a
          go (inl e) =
              no_way_round full k (turned ks) link.0 link.1.0 link.1.1 link.1.2 link.1.3
              (walk_back rs (at link.1.0) ks (at link.0) (subst (λ x. Walk rs x ks (at link.0)) e.0 (subst (λ x. Walk rs (rs k).a ks x) e.1 w)))
              (differ_reverse ks d) (all_reverse (λ i. (i < many) × (k ≡ i → ⊥)) ks a)

  pub no_loop : ((k : ℕ) → k < many → IsLink n k) → list_any (λ (r, rest). is_some (path_between rest r.a r.b)) (each_with_rest [] (map rs (up_to many))) ≡ false
  no_loop full = no_cycle rs (λ k. k < many) (up_to many) (up_to_below many) (up_to_differ many) (λ k ks lk w d a. no_loop_at full k ks lk w d a)

  -- a walk stays in its part
  ends_there : ((k : ℕ) → k < many → IsLink n k) → (ks : List ℕ) (u : ℕ) (x : RcNode) → u < n → Walk rs (at u) ks x → AllByRecursion (λ k. k < many) ks → (v : ℕ) × (v < n) × (x ≡ at v) × (home v ≡ home u)
  ends_there full [] u x lu w a = (u, lu, sym w, refl)
  ends_there full (k ∷ ks) u x lu w a = by (full k a.0) (λ j lj w'. ends_there full ks j x lj w' a.1)
    where
      by : IsLink n k → ((j : ℕ) → j < n → Walk rs (at j) ks x → (v : ℕ) × (v < n) × (x ≡ at v) × (home v ≡ home j)) → (v : ℕ) × (v < n) × (x ≡ at v) × (home v ≡ home u)
      by link ih = go (f.rising link.0 link.1.0 link.1.1 link.1.2) (subst (λ y. Joins rs at y link.1.0 link.0) link.1.3 (f.joined link.0 link.1.0 link.1.1 link.1.2))
        where
          j : ℕ
          j = link.0

          p : ℕ
          p = link.1.0

          to : p < j → Joins rs at k p j → (u ≡ p) ⊎ (u ≡ j) → (v : ℕ) × (v < n) × (x ≡ at v) × (home v ≡ home u)
          to low joins (inl e) =
              let lj : j < n = link.1.1 in
              let s = from_parent k p j (omega arith) lj (λ q. omega arith) joins in
              let g = ih j lj (subst (λ y. Walk rs y ks x) (ap (λ y. far_end (rs k) (at y)) e ∙ s.1) w.1) in
              (g.0, g.1, g.2, g.3 ∙ f.same_home j p lj link.1.2 ∙ ap home (sym e))
          to low joins (inr e) =
              let lj : j < n = link.1.1 in
              let lp : p < n = omega arith in
              let s = from_child k p j (omega arith) lj (λ q. omega arith) joins in
              let g = ih p lp (subst (λ y. Walk rs y ks x) (ap (λ y. far_end (rs k) (at y)) e ∙ s.1) w.1) in
              (g.0, g.1, g.2, g.3 ∙ sym (f.same_home j p lj link.1.2) ∙ ap home (sym e))

          go : p < j → Joins rs at k p j → (v : ℕ) × (v < n) × (x ≡ at v) × (home v ≡ home u)
          go low joins = (let lj : j < n = link.1.1 in to low joins (which_end k p j u (omega arith) lj lu joins w.0))

  -- the path from the first place of all
  pub path_found : ((k : ℕ) → k < many → IsLink n k) → up 0 ≡ None → (v : ℕ) → v < n → home v ≡ home 0
      → path_between (map rs (up_to many)) (at 0) (at v) ≡ Some (map rs (map seg (path_to up v)))
  path_found full first v lv h = by (path_between (map rs (up_to many)) (at 0) (at v)) refl
    where
      size : length (map rs (up_to many)) ≡ length (up_to many)
      size = length-map (up_to many) rs

      there : is_some (path_between (map rs (up_to many)) (at 0) (at v)) ≡ true
      there =
          let t = trail n (omega arith) 0 v (omega arith) lv (sym h) in
          let inner = links_inside n (omega arith) t.0 t.3 in
          complete rs (length (map rs (up_to many))) (up_to many) (at 0) t.0 (at v) (omega (arith, size)) t.1 t.2
          (all_more (λ j. j < many) (λ j. Among j (up_to many)) (λ j l. among_up_to j many l) t.0 inner)

      by : (o : Option (List RcRes)) → path_between (map rs (up_to many)) (at 0) (at v) ≡ o → path_between (map rs (up_to many)) (at 0) (at v) ≡ Some (map rs (map seg (path_to up v)))
      by None o = absurd (false≢true (ap is_some (sym o) ∙ there))
      by (Some q) o =
          let g = sound rs (length (map rs (up_to many))) (λ k. k < many) (up_to many) (at 0) (at v) q (up_to_below many) (up_to_differ many) o in
          let d = descend full g.0 0 v (omega arith) lv g.2 g.3 g.4 (λ p e. absurd (none-some p (sym first ∙ e))) in
          o ∙ ap Some (g.1 ∙ ap (map rs) (d.1 ∙ ap (map seg) (ap (λ ps. ps ++ d.0) (sym (path_start 0 first)) ∙ sym d.2)))

  pub not_found : ((k : ℕ) → k < many → IsLink n k) → 0 < n → (x : RcNode) → ((v : ℕ) → v < n → home v ≡ home 0 → x ≡ at v → ⊥) → path_between (map rs (up_to many)) (at 0) x ≡ None
  not_found full some x h = by (path_between (map rs (up_to many)) (at 0) x) refl
    where
      by : (o : Option (List RcRes)) → path_between (map rs (up_to many)) (at 0) x ≡ o → path_between (map rs (up_to many)) (at 0) x ≡ None
      by None o = o
      by (Some q) o =
          let g = sound rs (length (map rs (up_to many))) (λ k. k < many) (up_to many) (at 0) x q (up_to_below many) (up_to_differ many) o in
          let t = ends_there full g.0 0 x some g.2 g.4 in
          absurd (h t.0 t.1 t.3 t.2)
