-- The walks of the layered cone are the walks of the cone that pass all stops.

use Rattle.std.proofs.Common.{◌≡◌, ℕ, ◌+◌, ◌*◌, ◌-◌, ◌<◌, ℤ, pos, ◌-ℤ◌, Bool, true, false, ◌&&◌, ◌==◌, if◌then◌else◌, inl, inr, List, [], ◌∷◌, ◌++◌, length, map, Option, Some, None, refl, sym, ap, subst, ◌∙◌, arith}
use Rattle.std.specs.Prelude.{◌/◌, ◌%◌, All, slice_get, option_map}
use Rattle.std.specs.Option.{option_and_then}
use Rattle.std.proofs.lemmas.Bool.{cases_eq, eq-eqb, ne_eqb, eqb-true, lt-ltb, le-ltb}
use Rattle.std.proofs.lemmas.Option.{none-some, same_Some, option_and_then_some, slice_get_within, get_or_from_slice_get, slice_get-map}
use Rattle.std.proofs.lemmas.List.{map-append}
use Rattle.std.proofs.lemmas.List.Elements.{All-cons, All-head, All-tail, All-map, All-weaker}
use Rattle.timing_defs.specs.RowTimes.{plus_some}
use Rattle.worst_walks.specs.declared.cones.Launch.{Launch}
use Rattle.worst_walks.specs.declared.cones.WalkEnd.{WalkEnd}
use Rattle.worst_walks.specs.declared.cones.Cone.{Cone}
use Rattle.worst_walks.specs.declared.cones.Walk.{Walk}
use Rattle.worst_walks.specs.Walks.{count_of, delay_between, walk_sum, launch_slack, slack_of, whole_list, IsWalk, IsCone, IsEnd}
use Rattle.worst_walks.proofs.Naming.{walk_within}
use Rattle.worst_walks.proofs.Offers.{launch_fine, Walked, walked}
use Rattle.worst_walks.proofs.Optimal.{plus_parts}
use Rattle.through_walks.specs.declared.stops.Stop.{Stop}
use Rattle.through_walks.specs.Through.{next_stop, passed, passes}
use Rattle.through_walks.specs.Layers.{first_stage, launch_on, end_on, AreStages, IsLayered, place_of, past, rank_on, before_on}
use Rattle.through_walks.proofs.Counting.{next_low, passes_on}
use Rattle.through_walks.proofs.Layering.{delay_layered, delay_numbered}
use Rattle.through_walks.proofs.Numbers.{place_at, stage_at, whole, number_low, place_low, numbers_eq}

-- the nodes of a walk at their stages
abbrev pub staged : List Stop → ℕ → ℕ → List ℕ → List ℕ
staged stops k s [] = []
staged stops k s (n ∷ ns) = (n * k + next_stop stops s n) ∷ staged stops k (next_stop stops s n) ns

abbrev pub staged_list : List Stop → List ℕ → ℕ → List ℕ → List ℕ
staged_list stops begun k [] = []
staged_list stops begun k (n ∷ ns) = (n * k + first_stage stops begun n) ∷ staged stops k (first_stage stops begun n) ns

abbrev pub layered : List Stop → List ℕ → ℕ → Walk → Walk
layered stops begun k walk = record { slack = walk.slack; launch = walk.launch; end = walk.end; nodes = staged_list stops begun k walk.nodes }

abbrev places : ℕ → List ℕ → List ℕ
places k ns = map (λ n. n / k) ns

-- choices
plus_if : (b : Bool) (o p : Option ℤ) → plus_some o (if b then p else None) ≡ (if b then plus_some o p else None)
plus_if true o p = refl
plus_if false None p = refl
plus_if false (Some x) p = refl

swap_if : (a b : Bool) (o : Option ℤ) → (if a && b then o else None) ≡ (if b then (if a then o else None) else None)
swap_if true true o = refl
swap_if false true o = refl
swap_if true false o = refl
swap_if false false o = refl

keep_if : (a b : Bool) (f : ℤ → ℤ) (o : Option ℤ) → (if a then option_map f (if b then o else None) else None) ≡ (if b then (if a then option_map f o else None) else None)
keep_if true true f o = refl
keep_if false true f o = refl
keep_if true false f o = refl
keep_if false false f o = refl

abbrev no_slack : Option ℤ
no_slack = None

if_some : (b : Bool) (o : Option ℤ) (x : ℤ) → (if b then o else None) ≡ Some x → b ≡ true
if_some true o x e = refl
if_some false o x e = absurd (none-some x e)

none_if : (b : Bool) → no_slack ≡ (if b then no_slack else no_slack)
none_if true = refl
none_if false = refl

module _ (cone : Cone) (stops : List Stop) (begun : List ℕ) (k : ℕ) (layers : Cone) (good : IsCone cone) (known : length begun ≡ count_of cone)
    (stages : AreStages stops begun k) (h : IsLayered cone stops begun k layers) where
  -- the sum of a walk at its stages
  sum_staged : (ns : List ℕ) (n s e t : ℕ) → s < k → t < k → All (λ m. m < count_of cone) ns
      → walk_sum ◌==◌ (delay_between layers) (e * k + t) (n * k + s) (staged stops k s ns)
      ≡ (if passed stops s ns == t then walk_sum ◌==◌ (delay_between cone) e n ns else None)
  sum_staged [] n s e t low under lows =
      ap (λ b. if b then Some (pos 0) else None) (numbers_eq k n e s t low under) ∙ swap_if (n == e) (s == t) (Some (pos 0))
  sum_staged (m ∷ ns) n s e t low under lows =
      let next : next_stop stops s m < k = next_low stops k s m low stages.last in
      let here : m < count_of cone = All-head (λ m. m < count_of cone) m ns lows in
      let arc : delay_between layers (n * k + s) (m * k + next_stop stops s m) ≡ delay_between cone n m =
      delay_layered cone stops begun k layers good known stages h n s m (next_stop stops s m) low here next
      ∙ ap (λ b. if b then delay_between cone n m else None) (eq-eqb (next_stop stops s m) (next_stop stops s m) refl) in
      ap (λ o. plus_some o (walk_sum ◌==◌ (delay_between layers) (e * k + t) (m * k + next_stop stops s m) (staged stops k (next_stop stops s m) ns))) arc
      ∙ ap (plus_some (delay_between cone n m))
      (sum_staged ns m (next_stop stops s m) e t next under (All-tail (λ m. m < count_of cone) m ns lows))
      ∙ plus_if (passed stops (next_stop stops s m) ns == t) (delay_between cone n m) (walk_sum ◌==◌ (delay_between cone) e m ns)

  told : (n m : ℕ) (x : ℤ) → m < count_of layers → delay_between layers n m ≡ Some x → (next_stop stops (n % k) (m / k) == m % k) ≡ true
  told n m x there d =
      if_some (next_stop stops (n % k) (m / k) == m % k) (delay_between cone (n / k) (m / k)) x
      (sym (delay_numbered cone stops begun k layers good known stages h n m there) ∙ d)

  -- each walk over layered nodes is at its stages
  is_staged : (ns : List ℕ) (n end : ℕ) (v : ℤ) → IsCone layers → end < count_of layers → walk_sum ◌==◌ (delay_between layers) end n ns ≡ Some v
      → ns ≡ staged stops k (n % k) (places k ns)
  is_staged [] n end v fine low e = refl
  is_staged (m ∷ ns) n end v fine low e =
      let parts = plus_parts (delay_between layers n m) (walk_sum ◌==◌ (delay_between layers) end m ns) v e in
      let within = walk_within layers end ns m parts.y fine low parts.right in
      let stage : next_stop stops (n % k) (m / k) ≡ m % k = eqb-true (next_stop stops (n % k) (m / k)) (m % k) (told n m parts.x within.0 parts.left) in
      sym
      (ap (λ s. (m / k * k + s) ∷ staged stops k s (places k ns)) stage
      ∙ ap (λ x. x ∷ staged stops k (m % k) (places k ns)) (whole k m)
      ∙ ap (λ xs. m ∷ xs) (sym (is_staged ns m end parts.y fine low parts.right)))

  -- the slack of a layered walk
  begins_alike : (launch : Launch) (n : ℕ) → launch.node < count_of cone → first_stage stops begun n < k
      → (n * k + first_stage stops begun n == launch.node * k + first_stage stops begun launch.node) ≡ (n == launch.node)
  begins_alike launch n there first = elim (cases_eq n launch.node) [
    | inl same ↦ eq-eqb (n * k + first_stage stops begun n) (launch.node * k + first_stage stops begun launch.node) (ap (λ m. m * k + first_stage stops begun m) same)
        ∙ sym (eq-eqb n launch.node same)
    | inr other ↦
        numbers_eq k n launch.node (first_stage stops begun n) (first_stage stops begun launch.node) first (stages.first launch.node (omega (arith, known, there)))
        ∙ ap (λ b. b && (first_stage stops begun n == first_stage stops begun launch.node)) (ne_eqb n launch.node other) ∙ sym (ne_eqb n launch.node other)
  ]

  launch_staged : (launch : Launch) (end n : ℕ) (ns : List ℕ) → launch.node < count_of cone → All (λ m. m < count_of cone) (n ∷ ns)
      → launch_slack layers (end * k + length stops) (launch_on stops k begun launch) (staged_list stops begun k (n ∷ ns))
      ≡ (if passes stops begun (n ∷ ns) then launch_slack cone end launch (n ∷ ns) else None)
  launch_staged launch end n ns there lows =
      let here : n < count_of cone = All-head (λ m. m < count_of cone) n ns lows in
      let first : first_stage stops begun n < k = stages.first n (omega (arith, known, here)) in
      ap (λ b. if b then option_map (λ sum. launch.offer -ℤ sum) (walk_sum ◌==◌ (delay_between layers) (end * k + length stops) (n * k + first_stage stops begun n)
      (staged stops k (first_stage stops begun n) ns)) else None) (begins_alike launch n there first)
      ∙ ap (λ o. if n == launch.node then option_map (λ sum. launch.offer -ℤ sum) o else None)
      (sum_staged ns n (first_stage stops begun n) end (length stops) first stages.last (All-tail (λ m. m < count_of cone) n ns lows)
      ∙ ap (λ b. if b then walk_sum ◌==◌ (delay_between cone) end n ns else None) (passes_on stops begun n ns))
      ∙ keep_if (n == launch.node) (passes stops begun (n ∷ ns)) (λ sum. launch.offer -ℤ sum) (walk_sum ◌==◌ (delay_between cone) end n ns)

  launch_listed : (launch : Launch) (end : ℕ) (ns : List ℕ) → launch.node < count_of cone → All (λ m. m < count_of cone) ns
      → launch_slack layers (end * k + length stops) (launch_on stops k begun launch) (staged_list stops begun k ns)
      ≡ (if passes stops begun ns then launch_slack cone end launch ns else None)
  launch_listed launch end [] there lows = refl
  launch_listed launch end (n ∷ ns) there lows = launch_staged launch end n ns there lows

  end_fine : (i : ℕ) (end : WalkEnd) → slice_get cone.ends i ≡ Some end → IsEnd cone end
  end_fine i end at = subst (IsEnd cone) (get_or_from_slice_get cone.ends i end end at) (good.ends i end (slice_get_within cone.ends i end at))

  from_launch : (end : WalkEnd) (i : ℕ) (ns : List ℕ) (o : Option Launch) → IsEnd cone end → slice_get end.launches i ≡ o → All (λ m. m < count_of cone) ns
      → option_and_then (λ launch. launch_slack layers (end.node * k + length stops) launch (staged_list stops begun k ns)) (option_map (launch_on stops k begun) o)
      ≡ (if passes stops begun ns then option_and_then (λ launch. launch_slack cone end.node launch ns) o else None)
  from_launch end i ns None fine e lows = none_if (passes stops begun ns)
  from_launch end i ns (Some launch) fine e lows = launch_listed launch end.node ns (launch_fine cone end i launch fine e).0 lows

  from_end : (i place : ℕ) (ns : List ℕ) (o : Option WalkEnd) → slice_get cone.ends place ≡ o → All (λ m. m < count_of cone) ns
      → option_and_then (λ end. option_and_then (λ launch. launch_slack layers end.node launch (staged_list stops begun k ns)) (slice_get end.launches i)) (option_map (end_on stops k begun) o)
      ≡ (if passes stops begun ns then option_and_then (λ end. option_and_then (λ launch. launch_slack cone end.node launch ns) (slice_get end.launches i)) o else None)
  from_end i place ns None e lows = none_if (passes stops begun ns)
  from_end i place ns (Some end) e lows =
      ap (option_and_then (λ (launch : Launch). launch_slack layers (end.node * k + length stops) launch (staged_list stops begun k ns)))
      (slice_get-map (launch_on stops k begun) end.launches i)
      ∙ from_launch end i ns (slice_get end.launches i) (end_fine place end e) refl lows

  pub slack_layered : (walk : Walk) → All (λ m. m < count_of cone) walk.nodes
      → slack_of layers (layered stops begun k walk) ≡ (if passes stops begun walk.nodes then slack_of cone walk else None)
  slack_layered walk lows =
      ap (option_and_then (λ (end : WalkEnd). option_and_then (λ (launch : Launch). launch_slack layers end.node launch (staged_list stops begun k walk.nodes)) (slice_get end.launches walk.launch)))
      (ap (λ ends. slice_get ends walk.end) h.ends ∙ slice_get-map (end_on stops k begun) cone.ends walk.end)
      ∙ from_end walk.launch walk.end walk.nodes (slice_get cone.ends walk.end) refl lows

  -- a layered walk is the walk under it at its stages
  pub record Staged (ns : List ℕ) : Type 0 where
    pub is : ns ≡ staged_list stops begun k (places k ns)
    pub lows : All (λ m. m < count_of cone) (places k ns)

  staged_from : (n end : ℕ) (ns nodes : List ℕ) (v : ℤ) → IsCone layers → end < count_of layers → walk_sum ◌==◌ (delay_between layers) end n ns ≡ Some v
      → first_stage stops begun (n / k) ≡ n % k → nodes ≡ n ∷ ns → Staged nodes
  staged_from n end ns nodes v fine low e first all =
      let within = walk_within layers end ns n v fine low e in
      let some : 0 < k = (let last = stages.last in omega arith) in
      let count = h.count in
      let rest = is_staged ns n end v fine low e in
      subst Staged (sym all) (record {
        is = sym
            (ap (λ s. (n / k * k + s) ∷ staged stops k s (places k ns)) first
            ∙ ap (λ x. x ∷ staged stops k (n % k) (places k ns)) (whole k n)
            ∙ ap (λ xs. n ∷ xs) (sym rest));
        lows = All-map (λ m. m < count_of cone) (λ m. m / k) (n ∷ ns)
            (All-weaker (λ m. m < count_of layers) (λ m. m / k < count_of cone) (λ m under. place_low k m (count_of cone) some (omega (arith, count, under))) (n ∷ ns)
            (All-cons (λ m. m < count_of layers) n ns within.0 within.1));
      })

  mapped_back : {X Y : Type 0} (f : X → Y) (o : Option X) (y : Y) → option_map f o ≡ Some y → (x : X) × (o ≡ Some x) × (f x ≡ y)
  mapped_back f None y e = absurd (none-some y e)
  mapped_back f (Some x) y e = (x, refl, same_Some (f x) y e)

  -- a walk from the launch over one of the cone
  staged_by : (walk : Walk) (end : WalkEnd) (launch : Launch) (w : Walked layers end walk) → IsCone layers → end.node < count_of layers → launch.node < count_of cone
      → launch_on stops k begun launch ≡ w.launch → Staged walk.nodes
  staged_by walk end launch w fine there low same =
      let first : first_stage stops begun launch.node < k = stages.first launch.node (omega (arith, known, low)) in
      let number : w.launch.node ≡ launch.node * k + first_stage stops begun launch.node = sym (ap (λ (l : Launch). l.node) same) in
      let place : w.launch.node / k ≡ launch.node = ap (λ n. n / k) number ∙ place_at k launch.node (first_stage stops begun launch.node) first in
      let stage : w.launch.node % k ≡ first_stage stops begun launch.node = ap (λ n. n % k) number ∙ stage_at k launch.node (first_stage stops begun launch.node) first in
      staged_from w.launch.node end.node w.listed.rest walk.nodes w.listed.sum fine there w.listed.adds (ap (first_stage stops begun) place ∙ sym stage) w.listed.whole

  staged_end : (walk : Walk) (end under : WalkEnd) → IsCone layers → IsEnd layers end → IsEnd cone under → end_on stops k begun under ≡ end
      → Walked layers end walk → Staged walk.nodes
  staged_end walk end under fine there fine_under same w =
      let below = mapped_back (launch_on stops k begun) (slice_get under.launches walk.launch) w.launch
      (sym (slice_get-map (launch_on stops k begun) under.launches walk.launch) ∙ ap (λ (e : WalkEnd). slice_get e.launches walk.launch) same ∙ w.at) in
      staged_by walk end below.0 w fine there.node (launch_fine cone under walk.launch below.0 fine_under below.1).0 below.2

  staged_walk : (walk : Walk) (end : WalkEnd) → IsCone layers → slice_get layers.ends walk.end ≡ Some end → IsWalk layers walk → Staged walk.nodes
  staged_walk walk end fine at is =
      let under = mapped_back (end_on stops k begun) (slice_get cone.ends walk.end) end
      (sym (slice_get-map (end_on stops k begun) cone.ends walk.end) ∙ sym (ap (λ ends. slice_get ends walk.end) h.ends) ∙ at) in
      staged_end walk end under.0 fine
      (subst (IsEnd layers) (get_or_from_slice_get layers.ends walk.end end end at) (fine.ends walk.end end (slice_get_within layers.ends walk.end end at)))
      (end_fine walk.end under.0 under.1) under.2 (walked layers walk.end end walk at (is, refl))

  pub staged_back : (walk : Walk) → IsCone layers → IsWalk layers walk → Staged walk.nodes
  staged_back walk fine is =
      option_and_then_some (λ (end : WalkEnd). option_and_then (λ (launch : Launch). launch_slack layers end.node launch walk.nodes) (slice_get end.launches walk.launch))
      (slice_get layers.ends walk.end) walk.slack is (λ end at rest. staged_walk walk end fine at is)

-- a layered walk is ordered as the walk under it
module _ (stops : List Stop) (begun : List ℕ) (k places count : ℕ) (rank : ℕ → ℕ) (before : ℕ → List ℕ) (known : length begun ≡ places) (whole : count ≡ places * k)
    (stages : AreStages stops begun k) where
  place_below : (n s : ℕ) → n < places → s < k → place_of k count (n * k + s) ≡ n
  place_below n s low under =
      let there = number_low k n places s low under in
      ap (λ b. if b then (n * k + s) / k else (n * k + s) - count) (lt-ltb (n * k + s) count (omega (arith, whole, there))) ∙ place_at k n s under

  place_past : (n : ℕ) → place_of k count (past count n) ≡ n
  place_past n =
      let less : (n + count) - count ≡ n = omega arith in
      ap (λ b. if b then (n + count) / k else (n + count) - count) (le-ltb (n + count) count (omega arith)) ∙ less

  ranks_past : (ns : List ℕ) → map (rank_on k count rank) (map (past count) ns) ≡ map rank ns
  ranks_past [] = refl
  ranks_past (n ∷ ns) =
      ap (λ r. rank r ∷ map (rank_on k count rank) (map (past count) ns)) (place_past n) ∙ ap (λ rs. rank n ∷ rs) (ranks_past ns)

  ranks_staged : (ns : List ℕ) (s : ℕ) → s < k → All (λ n. n < places) ns → map (rank_on k count rank) (staged stops k s ns) ≡ map rank ns
  ranks_staged [] s low lows = refl
  ranks_staged (n ∷ ns) s low lows =
      let next : next_stop stops s n < k = next_low stops k s n low stages.last in
      ap (λ r. rank r ∷ map (rank_on k count rank) (staged stops k (next_stop stops s n) ns)) (place_below n (next_stop stops s n) (All-head (λ m. m < places) n ns lows) next)
      ∙ ap (λ rs. rank n ∷ rs) (ranks_staged ns (next_stop stops s n) next (All-tail (λ m. m < places) n ns lows))

  pub ranks_layered : (ns : List ℕ) → All (λ n. n < places) ns
      → map (rank_on k count rank) (whole_list (before_on k count before) (staged_list stops begun k ns)) ≡ map rank (whole_list before ns)
  ranks_layered [] lows = refl
  ranks_layered (n ∷ ns) lows =
      let here : n < places = All-head (λ m. m < places) n ns lows in
      let first : first_stage stops begun n < k = stages.first n (omega (arith, known, here)) in
      let at : place_of k count (n * k + first_stage stops begun n) ≡ n = place_below n (first_stage stops begun n) here first in
      map-append (rank_on k count rank) (map (past count) (before (place_of k count (n * k + first_stage stops begun n)))) (staged_list stops begun k (n ∷ ns))
      ∙ ap (λ rs. rs ++ map (rank_on k count rank) (staged_list stops begun k (n ∷ ns)))
      (ranks_past (before (place_of k count (n * k + first_stage stops begun n))) ∙ ap (λ m. map rank (before m)) at)
      ∙ ap (λ rs. map rank (before n) ++ rs)
      (ap (λ m. rank m ∷ map (rank_on k count rank) (staged stops k (first_stage stops begun n) ns)) at
      ∙ ap (λ rs. rank n ∷ rs) (ranks_staged ns (first_stage stops begun n) first (All-tail (λ m. m < places) n ns lows)))
      ∙ sym (map-append rank (before n) (n ∷ ns))
