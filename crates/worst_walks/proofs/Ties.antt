-- The worst walk among walks of equal slack, over launches and over ends.

use Rattle.std.proofs.Common.{◌≡◌, ℕ, ◌+◌, ◌<◌, ℤ, ◌-ℤ◌, ◌≤ℤ◌, true, false, ◌⊎◌, inl, inr, List, [], ◌∷◌, ◌++◌, length, map, Option, Some, None, refl, sym, ap, subst, ◌∙◌, arith}
use Rattle.std.specs.Prelude.{int_lt, slice_get}
use Rattle.std.specs.Cmp.{IsStrictWeakOrder}
use Rattle.std.specs.Ordering.{nat_cmp, int_cmp, int_eq, ordering_then, ordering_reverse, then_cmp, on, is_lt, is_gt}
use Rattle.std.specs.declared.cmp.Ordering.{Ordering}
use Rattle.std.specs.declared.cmp.Ordering.TheVariants.{Less, Equal, Greater}
use Rattle.std.specs.Cmp.Lexicographic.{slice_cmp}
use Rattle.std.proofs.lemmas.Bool.{cases_eq, cases_Bool, both_ways}
use Rattle.std.proofs.lemmas.Bool.Decides.{Decides-int_eq}
use Rattle.std.proofs.lemmas.Cmp.{tied_itself, int_cmp_total, nat_list_cmp_total, on_total, then_total}
use Rattle.std.proofs.lemmas.Int.{ints}
use Rattle.std.proofs.lemmas.List.MinMax.{ranks_by}
use Rattle.std.proofs.lemmas.Option.{none-some, same_Some, slice_get_within}
use Rattle.worst_walks.specs.declared.cones.Launch.{Launch}
use Rattle.worst_walks.specs.declared.cones.WalkEnd.{WalkEnd}
use Rattle.worst_walks.specs.declared.cones.Cone.{Cone}
use Rattle.worst_walks.specs.declared.cones.Walk.{Walk}
use Rattle.worst_walks.specs.declared.tables.Entry.{Entry}
use Rattle.worst_walks.specs.Best.{BestOf, better}
use Rattle.worst_walks.specs.Walks.{IsWalk, AreRanked, IsCone, IsAtMost, IsWorst, comes_before, whole_list, ranks_along}
use Rattle.worst_walks.specs.Tables.{row_in, offered, IsTable, Traces, IsTrace}
use Rattle.worst_walks.specs.Searches.{IsTo, IsBefore, IsSlackTo, IsTied, IsTiedBefore}
use Rattle.worst_walks.proofs.BestLaws.{best_alike, best_both}
use Rattle.worst_walks.proofs.Optimal.{head_same, found, least}
use Rattle.worst_walks.proofs.Offers.{Under, under, walked, joined, attained, end_within, offer, no_row}

-- walks are ordered
pub walks : (rank : ℕ → ℕ) (before : ℕ → List ℕ) → IsStrictWeakOrder (comes_before rank before)
walks rank before =
    ranks_by {R = then_cmp (on (λ (w : Walk). w.slack) int_cmp) (on (ranks_along rank before) (slice_cmp nat_cmp))}
    (then_total (on_total (λ (w : Walk). w.slack) int_cmp_total) (on_total (ranks_along rank before) nat_list_cmp_total)) (λ (w : Walk). w)

reversed : (o : Ordering) → is_lt (ordering_reverse o) ≡ is_gt o
reversed Less = refl
reversed Equal = refl
reversed Greater = refl

not_after : (xs ys : List ℕ) → is_gt (slice_cmp nat_cmp xs ys) ≡ is_lt (slice_cmp nat_cmp ys xs)
not_after xs ys = sym (ap is_lt (nat_list_cmp_total.antisymm ys xs) ∙ reversed (slice_cmp nat_cmp xs ys))

tied : (a b : ℤ) (o : Ordering) → a ≡ b → is_lt (ordering_then (int_cmp a b) o) ≡ is_lt o
tied a b o e =
    ap (λ c. is_lt (ordering_then (int_cmp c b) o)) e ∙ ap (λ r. is_lt (ordering_then r o)) (tied_itself int_cmp_total b)

lesser : (a b : ℤ) (o : Ordering) → int_lt a b ≡ true → is_lt (ordering_then (int_cmp a b) o) ≡ true
lesser a b o e = rw e refl

greater : (a b : ℤ) (o : Ordering) → int_lt a b ≡ false → int_lt b a ≡ true → is_lt (ordering_then (int_cmp a b) o) ≡ false
greater a b o e f = rw (e, f) refl

above : (rank : ℕ → ℕ) (before : ℕ → List ℕ) (v w : Walk) → w.slack ≤ℤ v.slack → (w.slack ≡ v.slack → ⊥) → comes_before rank before v w ≡ false
above rank before v w le other =
    let e : int_lt v.slack w.slack ≡ false = grind (arith, ints) in
    let f : int_lt w.slack v.slack ≡ true = grind (arith, ints) in
    greater v.slack w.slack (slice_cmp nat_cmp (ranks_along rank before v) (ranks_along rank before w)) e f

front : (rank : ℕ → ℕ) (ps xs ys : List ℕ) → is_gt (slice_cmp nat_cmp (map rank xs) (map rank ys)) ≡ false
    → is_gt (slice_cmp nat_cmp (map rank (ps ++ xs)) (map rank (ps ++ ys))) ≡ false
front rank [] xs ys h = h
front rank (p ∷ ps) xs ys h = head_same (rank p) (map rank (ps ++ xs)) (map rank (ps ++ ys)) (front rank ps xs ys h)

-- one launch
module _ (rank : ℕ → ℕ) (before : ℕ → List ℕ) (cone : Cone) (place : ℕ) (end : WalkEnd) (rows : List (Option Entry)) (good : IsCone cone)
    (ranked : AreRanked cone rank) (there : slice_get cone.ends place ≡ Some end) (h : IsTable rank cone end.node rows) (i : ℕ) (launch : Launch) (at : slice_get end.launches i ≡ Some launch) where
  -- against a walk from the same launch
  pub ordered : (entry : Entry) (ms : List ℕ) → row_in rows launch.node ≡ Some entry → Traces rows end.node launch.node ms
      → (v : Walk) → IsTo cone place v → v.launch ≡ i → v.slack ≡ launch.offer -ℤ entry.total
      → is_gt (slice_cmp nat_cmp (map rank (whole_list before (launch.node ∷ ms))) (ranks_along rank before v)) ≡ false
  ordered entry ms row tr v to from slack =
      let w = walked cone place end v there to in
      let same : w.launch ≡ launch = same_Some w.launch launch (sym w.at ∙ ap (slice_get end.launches) from ∙ at) in
      let b = least rank cone end.node rows good h ranked w.listed.rest w.launch.node w.listed.sum w.listed.adds in
      let node : w.launch.node ≡ launch.node = ap (λ (l : Launch). l.node) same in
      let offer : w.launch.offer ≡ launch.offer = ap (λ (l : Launch). l.offer) same in
      let entry_is : b.entry ≡ entry = same_Some b.entry entry (sym b.row ∙ ap (row_in rows) node ∙ row) in
      let total : b.entry.total ≡ entry.total = ap (λ (x : Entry). x.total) entry_is in
      let is = w.listed.is in
      let tie : w.listed.sum ≡ b.entry.total = omega (arith, ints) in
      let rest = b.order tie ms (subst (λ n. Traces rows end.node n ms) (sym node) tr) in
      let nodes : v.nodes ≡ launch.node ∷ w.listed.rest = w.listed.whole ∙ ap (λ n. n ∷ w.listed.rest) node in
      subst (λ ns. is_gt (slice_cmp nat_cmp (map rank (whole_list before (launch.node ∷ ms))) (map rank (whole_list before ns))) ≡ false) (sym nodes)
      (front rank (before launch.node) (launch.node ∷ ms) (launch.node ∷ w.listed.rest)
      (head_same (rank launch.node) (map rank ms) (map rank w.listed.rest) rest))

  -- the walk that the entries lead along
  pub tied_best : (entry : Entry) (s : ℤ) (nodes : List ℕ) → row_in rows launch.node ≡ Some entry → launch.offer -ℤ entry.total ≡ s → IsTrace rows end.node launch.node nodes
      → BestOf (comes_before rank before) (IsTied cone place s i) (Some (record { slack = s; launch = i; end = place; nodes = nodes }))
  tied_best entry s [] row slack tr = absurd tr
  tied_best entry s (m ∷ ms) row slack tr =
      let is : IsWalk cone (record { slack = s; launch = i; end = place; nodes = m ∷ ms }) =
      subst (λ n. IsWalk cone (record { slack = s; launch = i; end = place; nodes = n ∷ ms })) (sym tr.0)
      (subst (λ t. IsWalk cone (record { slack = t; launch = i; end = place; nodes = launch.node ∷ ms })) slack
      (joined cone place i end launch ms entry.total there at (found rank cone end.node rows good h ms launch.node entry tr.1 row))) in
      let list : ranks_along rank before (record { slack = s; launch = i; end = place; nodes = m ∷ ms }) ≡ map rank (whole_list before (launch.node ∷ ms)) =
      ap (λ n. map rank (whole_list before (n ∷ ms))) tr.0 in (
        ((is, refl), refl, refl),
        λ v t. tied v.slack s
            (slice_cmp nat_cmp (ranks_along rank before v) (ranks_along rank before (record { slack = s; launch = i; end = place; nodes = m ∷ ms }))) t.1
            ∙ sym (not_after (ranks_along rank before (record { slack = s; launch = i; end = place; nodes = m ∷ ms })) (ranks_along rank before v))
            ∙ ap (λ xs. is_gt (slice_cmp nat_cmp xs (ranks_along rank before v))) list
            ∙ ordered entry ms row tr.1 v t.0 t.2 (t.1 ∙ sym slack),
      )

  same_under : (v : Walk) → IsTo cone place v → v.launch ≡ i → (u : Under end rows v) → u.launch ≡ launch
  same_under v to from u = same_Some u.launch launch (sym u.at ∙ ap (slice_get end.launches) from ∙ at)

  -- no walk of that slack
  pub tied_none : (s : ℤ) → row_in rows launch.node ≡ None → BestOf (comes_before rank before) (IsTied cone place s i) None
  tied_none s row =
      λ v t. let u = under rank cone place end rows good ranked there h v t.0 in
      let same = same_under v t.0 t.2 u in
      none-some u.entry (sym row ∙ sym (ap (λ (l : Launch). row_in rows l.node) same) ∙ u.row)

  pub tied_other : (entry : Entry) (s : ℤ) → row_in rows launch.node ≡ Some entry → (launch.offer -ℤ entry.total ≡ s → ⊥) → BestOf int_lt (IsSlackTo cone place) (Some s)
      → BestOf (comes_before rank before) (IsTied cone place s i) None
  tied_other entry s row other best =
      λ v t. let u = under rank cone place end rows good ranked there h v t.0 in
      let same = same_under v t.0 t.2 u in
      let entry_is : u.entry ≡ entry = same_Some u.entry entry (sym u.row ∙ ap (λ (l : Launch). row_in rows l.node) same ∙ row) in
      let total : u.entry.total ≡ entry.total = ap (λ (x : Entry). x.total) entry_is in
      let offer : u.launch.offer ≡ launch.offer = ap (λ (l : Launch). l.offer) same in
      let low = u.low in
      let slack = t.1 in
      let least_is = best.1 (launch.offer -ℤ entry.total) (attained rank cone place end rows good ranked there h i launch entry at row) in
      let floor : s ≤ℤ (launch.offer -ℤ entry.total) = grind (arith, ints) in
      other (omega (arith, ints))

  -- the same by the offer of the launch
  pub offer_best : (s : ℤ) (nodes : List ℕ) → Some s ≡ offered rows launch → IsTrace rows end.node launch.node nodes
      → BestOf (comes_before rank before) (IsTied cone place s i) (Some (record { slack = s; launch = i; end = place; nodes = nodes }))
  offer_best s nodes e tr = let f = offer rows launch s (sym e) in tied_best f.entry s nodes f.row f.is tr

  pub offer_none : (s : ℤ) → None ≡ offered rows launch → BestOf (comes_before rank before) (IsTied cone place s i) None
  offer_none s e = tied_none s (no_row rows launch (sym e))

  pub offer_other : (t s : ℤ) → Some t ≡ offered rows launch → (t ≡ s → ⊥) → BestOf int_lt (IsSlackTo cone place) (Some s)
      → BestOf (comes_before rank before) (IsTied cone place s i) None
  offer_other t s e other best = let f = offer rows launch t (sym e) in tied_other f.entry s f.row (λ is. other (sym f.is ∙ is)) best

-- one launch more
pub launch_none : (rank : ℕ → ℕ) (before : ℕ → List ℕ) (cone : Cone) (place : ℕ) (s : ℤ) → BestOf (comes_before rank before) (IsTiedBefore cone place s 0) None
launch_none rank before cone place s = λ w t. let low = t.2 in omega arith

tied_more : (cone : Cone) (place : ℕ) (s : ℤ) (i : ℕ) (w : Walk) → IsTiedBefore cone place s i w ⊎ IsTied cone place s i w → IsTiedBefore cone place s (i + 1) w
tied_more cone place s i w (inl t) = let low = t.2 in (t.0, t.1, omega arith)
tied_more cone place s i w (inr t) = let at = t.2 in (t.0, t.1, omega arith)

tied_less : (cone : Cone) (place : ℕ) (s : ℤ) (i : ℕ) (w : Walk) → IsTiedBefore cone place s (i + 1) w → IsTiedBefore cone place s i w ⊎ IsTied cone place s i w
tied_less cone place s i w t = let low = t.2 in elim (cases_eq w.launch i) [
  | inl at ↦ inr (t.0, t.1, at)
  | inr other ↦ inl (t.0, t.1, omega arith)
]

pub launch_more : (rank : ℕ → ℕ) (before : ℕ → List ℕ) (cone : Cone) (place : ℕ) (s : ℤ) (i : ℕ) (o p q : Option Walk) → BestOf (comes_before rank before) (IsTiedBefore cone place s i) o
    → BestOf (comes_before rank before) (IsTied cone place s i) p → q ≡ better (comes_before rank before) o p → BestOf (comes_before rank before) (IsTiedBefore cone place s (i + 1)) q
launch_more rank before cone place s i o p q b c e =
    subst (BestOf (comes_before rank before) (IsTiedBefore cone place s (i + 1))) (sym e)
    (best_alike (comes_before rank before) (λ w. IsTiedBefore cone place s i w ⊎ IsTied cone place s i w) (IsTiedBefore cone place s (i + 1)) (better (comes_before rank before) o p)
    (tied_more cone place s i) (tied_less cone place s i)
    (best_both (comes_before rank before) (IsTiedBefore cone place s i) (IsTied cone place s i) o p (walks rank before) b c))

launch_within : (cone : Cone) (place : ℕ) (end : WalkEnd) (w : Walk) → slice_get cone.ends place ≡ Some end → IsTo cone place w → w.launch < length end.launches
launch_within cone place end w there to = let x = walked cone place end w there to in slice_get_within end.launches w.launch x.launch x.at

-- all launches
pub launch_all : (rank : ℕ → ℕ) (before : ℕ → List ℕ) (cone : Cone) (place : ℕ) (end : WalkEnd) (s : ℤ) (n : ℕ) (o : Option Walk) → slice_get cone.ends place ≡ Some end → n ≡ length end.launches
    → BestOf int_lt (IsSlackTo cone place) (Some s) → BestOf (comes_before rank before) (IsTiedBefore cone place s n) o → BestOf (comes_before rank before) (IsTo cone place) o
launch_all rank before cone place end s n None there e low best =
    let within = launch_within cone place end low.0.0 there low.0.1.0 in
    absurd (best low.0.0 (low.0.1.0, low.0.1.1, omega arith))
launch_all rank before cone place end s n (Some w) there e low best = (
  best.0.0,
  λ v to.
      let within = launch_within cone place end v there to in
      let off = low.1 v.slack (v, (to, refl)) in
      let is = best.0.1 in
      let le : s ≤ℤ v.slack = grind (arith, ints) in
      elim (cases_Bool (int_eq v.slack s)) [
        | inl same ↦ best.1 v (to, (Decides-int_eq v.slack s).0 same, omega arith)
        | inr other ↦ above rank before v w (omega (arith, ints)) (λ same. both_ways (int_eq v.slack s) other ((Decides-int_eq v.slack s).1 (sym same ∙ is)))
      ],
)

pub to_none : (rank : ℕ → ℕ) (before : ℕ → List ℕ) (cone : Cone) (place : ℕ) → BestOf int_lt (IsSlackTo cone place) None → BestOf (comes_before rank before) (IsTo cone place) None
to_none rank before cone place best = λ w to. best w.slack (w, (to, refl))

-- one end more
pub end_none : (rank : ℕ → ℕ) (before : ℕ → List ℕ) (cone : Cone) → BestOf (comes_before rank before) (IsBefore cone 0) None
end_none rank before cone = λ w t. let low = t.1 in omega arith

end-more : (cone : Cone) (i : ℕ) (w : Walk) → IsBefore cone i w ⊎ IsTo cone i w → IsBefore cone (i + 1) w
end-more cone i w (inl t) = let low = t.1 in (t.0, omega arith)
end-more cone i w (inr t) = let at = t.1 in (t.0, omega arith)

end-less : (cone : Cone) (i : ℕ) (w : Walk) → IsBefore cone (i + 1) w → IsBefore cone i w ⊎ IsTo cone i w
end-less cone i w t = let low = t.1 in elim (cases_eq w.end i) [ inl at ↦ inr (t.0, at) | inr other ↦ inl (t.0, omega arith) ]

pub end_more : (rank : ℕ → ℕ) (before : ℕ → List ℕ) (cone : Cone) (i : ℕ) (o p q : Option Walk) → BestOf (comes_before rank before) (IsBefore cone i) o → BestOf (comes_before rank before) (IsTo cone i) p
    → q ≡ better (comes_before rank before) o p → BestOf (comes_before rank before) (IsBefore cone (i + 1)) q
end_more rank before cone i o p q b c e =
    subst (BestOf (comes_before rank before) (IsBefore cone (i + 1))) (sym e)
    (best_alike (comes_before rank before) (λ w. IsBefore cone i w ⊎ IsTo cone i w) (IsBefore cone (i + 1)) (better (comes_before rank before) o p) (end-more cone i) (end-less cone i)
    (best_both (comes_before rank before) (IsBefore cone i) (IsTo cone i) o p (walks rank before) b c))

at_most : (rank : ℕ → ℕ) (before : ℕ → List ℕ) (w v : Walk) → comes_before rank before v w ≡ false → IsAtMost rank before w v
at_most rank before w v e = (
  elim (cases_Bool (int_lt v.slack w.slack)) [
    | inl less ↦ absurd (both_ways (comes_before rank before v w) e (lesser v.slack w.slack (slice_cmp nat_cmp (ranks_along rank before v) (ranks_along rank before w)) less))
    | inr more ↦ grind (arith, ints)
  ],
  λ same. not_after (ranks_along rank before w) (ranks_along rank before v) ∙ sym (tied v.slack w.slack (slice_cmp nat_cmp (ranks_along rank before v) (ranks_along rank before w)) same) ∙ e,
)

pub end_all : (rank : ℕ → ℕ) (before : ℕ → List ℕ) (cone : Cone) (n : ℕ) (o : Option Walk) → n ≡ length cone.ends → BestOf (comes_before rank before) (IsBefore cone n) o → IsWorst rank before cone o
end_all rank before cone n None e best = λ w is. let low = end_within cone w is in best w (is, omega arith)
end_all rank before cone n (Some w) e best = (best.0.0, λ v is. let low = end_within cone v is in at_most rank before w v (best.1 v (is, omega arith)))
