-- Walks from a launch to an end node, against the table of that end node.

use Rattle.std.proofs.Common.{◌≡◌, ℕ, zero, suc, ◌+◌, ◌<◌, ℤ, ◌-ℤ◌, ◌≤ℤ◌, Bool, true, false, ◌==◌, if◌then◌else◌, ◌⊎◌, inl, inr, List, [], ◌∷◌, length, Option, Some, None, refl, sym, ap, subst, ◌∙◌, arith}
use Rattle.std.specs.Prelude.{int_lt, slice_get, option_map, IsSome}
use Rattle.std.specs.Cmp.{IsStrictWeakOrder}
use Rattle.std.specs.Option.{option_and_then}
use Rattle.std.proofs.lemmas.Bool.{cases_eq, eq-eqb, eqb-true}
use Rattle.std.proofs.lemmas.Int.{ints}
use Rattle.std.proofs.lemmas.Option.{none-some, same_Some, option_and_then_some, slice_get_within, get_or_from_slice_get}
use Rattle.worst_walks.specs.declared.cones.Launch.{Launch}
use Rattle.worst_walks.specs.declared.cones.WalkEnd.{WalkEnd}
use Rattle.worst_walks.specs.declared.cones.Cone.{Cone}
use Rattle.worst_walks.specs.declared.cones.Walk.{Walk}
use Rattle.worst_walks.specs.declared.tables.Entry.{Entry}
use Rattle.worst_walks.specs.Best.{BestOf, better}
use Rattle.worst_walks.specs.Walks.{most_nodes, count_of, delay_between, walk_sum, launch_slack, IsWalk, AreRanked, IsCone, IsEnd, IsLaunch}
use Rattle.worst_walks.specs.Tables.{row_in, offered, least_from, IsBounded, IsTable}
use Rattle.worst_walks.specs.Searches.{IsTo, IsSlackTo, IsFalling}
use Rattle.worst_walks.proofs.BestLaws.{best_alike, best_one, best_both}
use Rattle.worst_walks.proofs.Filling.{bounded_more}
use Rattle.worst_walks.proofs.Optimal.{next_there, found, traced, least}

pub bounded_there : (rank : ℕ → ℕ) (cone : Cone) (end : ℕ) (rows : List (Option Entry)) (n : ℕ) → IsCone cone → IsTable rank cone end rows → IsBounded most_nodes (row_in rows n)
bounded_there rank cone end rows n good h =
    let few = good.few in
    bounded_more (count_of cone) most_nodes (row_in rows n) (omega arith) (h.bounded n)

pub launch_fine : (cone : Cone) (end : WalkEnd) (i : ℕ) (launch : Launch) → IsEnd cone end → slice_get end.launches i ≡ Some launch → IsLaunch cone launch
launch_fine cone end i launch fine at =
    subst (IsLaunch cone) (get_or_from_slice_get end.launches i launch launch at) (fine.each i launch (slice_get_within end.launches i launch at))

pub is_falling : (rank : ℕ → ℕ) (cone : Cone) (end : ℕ) (rows : List (Option Entry)) → IsCone cone → IsTable rank cone end rows → IsFalling rows end
is_falling rank cone end rows good h =
    λ n entry other e. let via = next_there rank cone end rows good h n entry other e in
    (via.low, subst IsSome (sym via.row) refl)

-- slacks are ordered
less-chain : (x y z : ℤ) → int_lt x y ≡ false → int_lt y z ≡ false → int_lt x z ≡ false
less-chain x y z a b = grind (arith, ints)

less-one_way : (x y : ℤ) → int_lt x y ≡ true → int_lt y x ≡ false
less-one_way x y a = grind (arith, ints)

pub slacks : IsStrictWeakOrder int_lt
slacks = record { one_way = less-one_way; chain = less-chain }

not_less : (t s u w : ℤ) → int_lt u s ≡ false → u ≤ℤ w → w ≡ t → int_lt t s ≡ false
not_less t s u w off low is = grind (arith, ints)

-- what some launches offer
abbrev IsGiven : List (Option Entry) → List Launch → ℤ → Type 0
IsGiven rows [] s = ⊥
IsGiven rows (launch ∷ launches) s = (offered rows launch ≡ Some s) ⊎ IsGiven rows launches s

given_best : (rows : List (Option Entry)) (launches : List Launch) (P : ℤ → Type 0) (o : Option ℤ) → BestOf int_lt P o
    → BestOf int_lt (λ s. P s ⊎ IsGiven rows launches s) (least_from rows o launches)
given_best rows [] P o best = best_alike int_lt P (λ s. P s ⊎ ⊥) o (λ s p. inl p) (λ s h. elim h [ inl p ↦ p | inr q ↦ absurd q ]) best
given_best rows (launch ∷ launches) P o best =
    best_alike int_lt (λ s. (P s ⊎ (offered rows launch ≡ Some s)) ⊎ IsGiven rows launches s) (λ s. P s ⊎ ((offered rows launch ≡ Some s) ⊎ IsGiven rows launches s))
    (least_from rows (better int_lt o (offered rows launch)) launches)
    (λ s h. elim h [ inl first ↦ elim first [ inl p ↦ inl p | inr q ↦ inr (inl q) ] | inr r ↦ inr (inr r) ])
    (λ s h. elim h [ inl p ↦ inl (inl p) | inr rest ↦ elim rest [ inl q ↦ inl (inr q) | inr r ↦ inr r ] ])
    (given_best rows launches (λ s. P s ⊎ (offered rows launch ≡ Some s)) (better int_lt o (offered rows launch))
    (best_both int_lt P (λ s. offered rows launch ≡ Some s) o (offered rows launch) slacks best (best_one int_lt slacks (offered rows launch))))

least_given : (rows : List (Option Entry)) (launches : List Launch) → BestOf int_lt (IsGiven rows launches) (least_from rows None launches)
least_given rows launches =
    best_alike int_lt (λ s. ⊥ ⊎ IsGiven rows launches s) (IsGiven rows launches) (least_from rows None launches)
    (λ s h. elim h [ inl p ↦ absurd p | inr q ↦ q ]) (λ s q. inr q)
    (given_best rows launches (λ s. ⊥) None (λ s p. p))

given_at : (rows : List (Option Entry)) (launches : List Launch) (i : ℕ) (launch : Launch) (s : ℤ) → slice_get launches i ≡ Some launch
    → offered rows launch ≡ Some s → IsGiven rows launches s
given_at rows [] i launch s at e = absurd (none-some launch at)
given_at rows (first ∷ launches) zero launch s at e = inl (subst (λ (l : Launch). offered rows l ≡ Some s) (sym (same_Some first launch at)) e)
given_at rows (first ∷ launches) (suc i) launch s at e = inr (given_at rows launches i launch s at e)

record Giver (rows : List (Option Entry)) (launches : List Launch) (s : ℤ) : Type 0 where
  place : ℕ
  launch : Launch
  at : slice_get launches place ≡ Some launch
  gives : offered rows launch ≡ Some s

giver : (rows : List (Option Entry)) (launches : List Launch) (s : ℤ) → IsGiven rows launches s → Giver rows launches s
giver rows [] s h = absurd h
giver rows (first ∷ launches) s (inl e) = record { place = 0; launch = first; at = refl; gives = e }
giver rows (first ∷ launches) s (inr h) =
    let more = giver rows launches s h in
    record { place = suc more.place; launch = more.launch; at = more.at; gives = more.gives }

-- an offer by the entry at the launch
pub record Offer (rows : List (Option Entry)) (launch : Launch) (s : ℤ) : Type 0 where
  pub entry : Entry
  pub row : row_in rows launch.node ≡ Some entry
  pub is : launch.offer -ℤ entry.total ≡ s

offer-by : (rows : List (Option Entry)) (launch : Launch) (o : Option Entry) (s : ℤ) → row_in rows launch.node ≡ o
    → option_map (λ (entry : Entry). launch.offer -ℤ entry.total) o ≡ Some s → Offer rows launch s
offer-by rows launch None s e f = absurd (none-some s f)
offer-by rows launch (Some entry) s e f = record { entry = entry; row = e; is = same_Some (launch.offer -ℤ entry.total) s f }

pub offer : (rows : List (Option Entry)) (launch : Launch) (s : ℤ) → offered rows launch ≡ Some s → Offer rows launch s
offer rows launch s e = offer-by rows launch (row_in rows launch.node) s refl e

pub has_row : (rows : List (Option Entry)) (launch : Launch) (s : ℤ) → Some s ≡ offered rows launch → IsSome (row_in rows launch.node)
has_row rows launch s e = let f = offer rows launch s (sym e) in subst IsSome (sym f.row) refl

no_row-by : (rows : List (Option Entry)) (launch : Launch) (o : Option Entry) → row_in rows launch.node ≡ o
    → option_map (λ (entry : Entry). launch.offer -ℤ entry.total) o ≡ None → row_in rows launch.node ≡ None
no_row-by rows launch None e f = e
no_row-by rows launch (Some entry) e f = absurd (none-some (launch.offer -ℤ entry.total) (sym f))

pub no_row : (rows : List (Option Entry)) (launch : Launch) → offered rows launch ≡ None → row_in rows launch.node ≡ None
no_row rows launch e = no_row-by rows launch (row_in rows launch.node) refl e

offered_by : (rows : List (Option Entry)) (launch : Launch) (entry : Entry) → row_in rows launch.node ≡ Some entry → offered rows launch ≡ Some (launch.offer -ℤ entry.total)
offered_by rows launch entry e = ap (option_map (λ (x : Entry). launch.offer -ℤ x.total)) e

-- a list of nodes that is a walk from a launch
pub record Listed (cone : Cone) (end : ℕ) (launch : Launch) (nodes : List ℕ) (s : ℤ) : Type 0 where
  pub rest : List ℕ
  pub sum : ℤ
  pub whole : nodes ≡ launch.node ∷ rest
  pub adds : walk_sum ◌==◌ (delay_between cone) end launch.node rest ≡ Some sum
  pub is : launch.offer -ℤ sum ≡ s

listed-by : (cone : Cone) (end n : ℕ) (ns : List ℕ) (launch : Launch) (s : ℤ) (same : Bool) (o : Option ℤ) → (n == launch.node) ≡ same
    → walk_sum ◌==◌ (delay_between cone) end n ns ≡ o → (if same then option_map (λ sum. launch.offer -ℤ sum) o else None) ≡ Some s
    → Listed cone end launch (n ∷ ns) s
listed-by cone end n ns launch s false o at e f = absurd (none-some s f)
listed-by cone end n ns launch s true None at e f = absurd (none-some s f)
listed-by cone end n ns launch s true (Some sum) at e f =
    let is : n ≡ launch.node = eqb-true n launch.node at in
    record {
      rest = ns;
      sum = sum;
      whole = ap (λ m. m ∷ ns) is;
      adds = subst (λ m. walk_sum ◌==◌ (delay_between cone) end m ns ≡ Some sum) is e;
      is = same_Some (launch.offer -ℤ sum) s f;
    }

listed : (cone : Cone) (end : ℕ) (launch : Launch) (ns : List ℕ) (s : ℤ) → launch_slack cone end launch ns ≡ Some s → Listed cone end launch ns s
listed cone end launch [] s e = absurd (none-some s e)
listed cone end launch (n ∷ ns) s e =
    listed-by cone end n ns launch s (n == launch.node) (walk_sum ◌==◌ (delay_between cone) end n ns) refl refl e

-- a walk to the end at a place
pub record Walked (cone : Cone) (end : WalkEnd) (walk : Walk) : Type 0 where
  pub launch : Launch
  pub at : slice_get end.launches walk.launch ≡ Some launch
  pub listed : Listed cone end.node launch walk.nodes walk.slack

walked-in : (cone : Cone) (end : WalkEnd) (walk : Walk)
    → option_and_then (λ (launch : Launch). launch_slack cone end.node launch walk.nodes) (slice_get end.launches walk.launch) ≡ Some walk.slack
    → Walked cone end walk
walked-in cone end walk e =
    option_and_then_some (λ (launch : Launch). launch_slack cone end.node launch walk.nodes) (slice_get end.launches walk.launch) walk.slack e
    (λ launch at is. record { launch = launch; at = at; listed = listed cone end.node launch walk.nodes walk.slack is })

pub walked : (cone : Cone) (place : ℕ) (end : WalkEnd) (walk : Walk) → slice_get cone.ends place ≡ Some end → IsTo cone place walk → Walked cone end walk
walked cone place end walk there h =
    let at : slice_get cone.ends walk.end ≡ Some end = ap (slice_get cone.ends) h.1 ∙ there in
    walked-in cone end walk
    (sym (ap (option_and_then (λ (end : WalkEnd). option_and_then (λ (launch : Launch). launch_slack cone end.node launch walk.nodes) (slice_get end.launches walk.launch))) at) ∙ h.0)

-- the other way round
pub joined : (cone : Cone) (place i : ℕ) (end : WalkEnd) (launch : Launch) (ns : List ℕ) (sum : ℤ) → slice_get cone.ends place ≡ Some end
    → slice_get end.launches i ≡ Some launch → walk_sum ◌==◌ (delay_between cone) end.node launch.node ns ≡ Some sum
    → IsWalk cone (record { slack = launch.offer -ℤ sum; launch = i; end = place; nodes = launch.node ∷ ns })
joined cone place i end launch ns sum there at adds =
    let same : (launch.node == launch.node) ≡ true = eq-eqb launch.node launch.node refl in
    ap (option_and_then (λ (e : WalkEnd). option_and_then (λ (l : Launch). launch_slack cone e.node l (launch.node ∷ ns)) (slice_get e.launches i))) there
    ∙ ap (option_and_then (λ (l : Launch). launch_slack cone end.node l (launch.node ∷ ns))) at
    ∙ ap (λ b. if b then option_map (λ t. launch.offer -ℤ t) (walk_sum ◌==◌ (delay_between cone) end.node launch.node ns) else None) same
    ∙ ap (option_map (λ t. launch.offer -ℤ t)) adds

-- the best walk from the launch of a walk, by its entry
pub record Under (end : WalkEnd) (rows : List (Option Entry)) (walk : Walk) : Type 0 where
  pub launch : Launch
  pub at : slice_get end.launches walk.launch ≡ Some launch
  pub entry : Entry
  pub row : row_in rows launch.node ≡ Some entry
  pub low : (launch.offer -ℤ entry.total) ≤ℤ walk.slack

module _ (rank : ℕ → ℕ) (cone : Cone) (place : ℕ) (end : WalkEnd) (rows : List (Option Entry)) (good : IsCone cone) (ranked : AreRanked cone rank) (there : slice_get cone.ends place ≡ Some end)
    (h : IsTable rank cone end.node rows) where
  pub under : (walk : Walk) → IsTo cone place walk → Under end rows walk
  under walk to =
      let w = walked cone place end walk there to in
      let b = least rank cone end.node rows good h ranked w.listed.rest w.launch.node w.listed.sum w.listed.adds in
      let most = b.most in
      let is = w.listed.is in
      record { launch = w.launch; at = w.at; entry = b.entry; row = b.row; low = omega (arith, ints) }

  pub attained : (i : ℕ) (launch : Launch) (entry : Entry) → slice_get end.launches i ≡ Some launch → row_in rows launch.node ≡ Some entry
      → IsSlackTo cone place (launch.offer -ℤ entry.total)
  attained i launch entry at row =
      let t = traced rank cone end.node rows good h (suc launch.node) launch.node entry (omega arith) row in
      let adds = found rank cone end.node rows good h t.0 launch.node entry t.1 row in (
        record { slack = launch.offer -ℤ entry.total; launch = i; end = place; nodes = launch.node ∷ t.0 },
        ((joined cone place i end launch t.0 entry.total there at adds, refl), refl),
      )

  to_best-by : (o : Option ℤ) → BestOf int_lt (IsGiven rows end.launches) o → BestOf int_lt (IsSlackTo cone place) o
  to_best-by None best =
      λ s w. let u = under w.0 w.1.0 in
      best (u.launch.offer -ℤ u.entry.total)
      (given_at rows end.launches w.0.launch u.launch (u.launch.offer -ℤ u.entry.total) u.at (offered_by rows u.launch u.entry u.row))
  to_best-by (Some s) best =
      let g = giver rows end.launches s best.0 in
      let f = offer rows g.launch s g.gives in (
        subst (IsSlackTo cone place) f.is (attained g.place g.launch f.entry g.at f.row),
        λ t w. let u = under w.0 w.1.0 in
            let off = best.1 (u.launch.offer -ℤ u.entry.total)
            (given_at rows end.launches w.0.launch u.launch (u.launch.offer -ℤ u.entry.total) u.at (offered_by rows u.launch u.entry u.row)) in
            let low = u.low in
            let is = w.1.1 in
            not_less t s (u.launch.offer -ℤ u.entry.total) w.0.slack off low is,
      )

  pub to_best : BestOf int_lt (IsSlackTo cone place) (least_from rows None end.launches)
  to_best = to_best-by (least_from rows None end.launches) (least_given rows end.launches)

pub to_best_as : (rank : ℕ → ℕ) (cone : Cone) (place : ℕ) (end : WalkEnd) (rows : List (Option Entry)) (o : Option ℤ) → IsCone cone → AreRanked cone rank → slice_get cone.ends place ≡ Some end
    → IsTable rank cone end.node rows → o ≡ least_from rows None end.launches → BestOf int_lt (IsSlackTo cone place) o
to_best_as rank cone place end rows o good ranked there h e =
    subst (BestOf int_lt (IsSlackTo cone place)) (sym e) (to_best rank cone place end rows good ranked there h)

-- the end of a walk is there
pub end_within : (cone : Cone) (walk : Walk) → IsWalk cone walk → walk.end < length cone.ends
end_within cone walk is =
    option_and_then_some (λ (end : WalkEnd). option_and_then (λ (launch : Launch). launch_slack cone end.node launch walk.nodes) (slice_get end.launches walk.launch))
    (slice_get cone.ends walk.end) walk.slack is (λ end at rest. slice_get_within cone.ends walk.end end at)
