-- The times along a walk, step by step.

use Rattle.std.proofs.Common.{◌≡◌, ℕ, suc, ◌+◌, ◌-◌, ◌*◌, ◌^◌, ◌<◌, ◌≤◌, ℤ, ◌+ℤ◌, pos, Bool, List, [], ◌∷◌, ◌++◌, map, drop, length, get_or, Option, Some, None, refl, sym, ap, subst, ◌∙◌, inl, inr, arith, append_assoc, add-one, drop-cons}
use Rattle.std.specs.Prelude.{All, IsSome, ◌==◌, if◌then◌else◌, unsigned_abs}
use Rattle.std.specs.Option.{unwrap_or}
use Rattle.std.proofs.lemmas.Bool.{cases_Bool, eqb-true, false≢true}
use Rattle.std.proofs.lemmas.Int.{ints}
use Rattle.std.proofs.lemmas.List.{append-nil}
use Rattle.std.proofs.Math.Seq.{drop-length}
use Rattle.std.proofs.lemmas.Grind.{get_or_default_zero}
use Rattle.std.proofs.lemmas.List.Elements.{All-head, All-tail}
use Rattle.sta_units.specs.Numbers.{Within}
use Rattle.timing_defs.specs.declared.kinds.Kind.{Kind}
use Rattle.timing_defs.specs.declared.kinds.Kind.TheVariants.{Setup, Hold}
use Rattle.timing_defs.specs.declared.rows.PathNode.{PathNode}
use Rattle.timing_rules.specs.Paths.{Named}
use Rattle.netlist_store.specs.Numbering.{Stored}
use Rattle.worst_walks.specs.declared.cones.WalkArc.{WalkArc}
use Rattle.worst_walks.specs.declared.cones.Cone.{Cone}
use Rattle.worst_walks.specs.Walks.{most_nodes, arcs_into, count_of, delay_between, delay_in, is_first, listed_into, walk_sum, IsArcInto, IsCone}
use Rattle.path_search.specs.declared.cones.PinCone.{PinCone}
use Rattle.path_search.specs.Launches.{signed}
use Rattle.path_search.specs.WalkTimes.{time_next, times_after}
use Rattle.path_search.specs.PinCones.{name_part, place_name, time_part, IsNodePlace, IsWalkOn}
use Rattle.path_search.proofs.PrefixSums.{sum_back}

-- the arc that a delay is found by
pub record IsDelay (cone : Cone) (a b : ℕ) (v : ℤ) : Type 0 where
  pub between : delay_between cone a b ≡ Some v
  pub above : b < a
  pub low : a < count_of cone
  pub within : Within v

found_delay : (cone : Cone) (b : ℕ) (arcs : List WalkArc) (n : ℕ) (v : ℤ) → All (IsArcInto cone b) arcs → delay_in arcs n ≡ Some v → (b < n) × (n < count_of cone) × Within v
found_delay cone b [] n v all e = absurd (cc)
found_delay cone b (arc ∷ arcs) n v all e = elim (cases_Bool (arc.from == n)) [
  | inl same ↦
      let is : arc.from ≡ n = eqb-true arc.from n same in
      let f : Some arc.delay ≡ Some v = sym (ap (λ (t : Bool). if t then Some arc.delay else delay_in arcs n) same) ∙ e in
      let delay : arc.delay ≡ v = cc in
      let h = All-head (IsArcInto cone b) arc arcs all in
      (subst (λ k. b < k) is h.0, subst (λ k. k < count_of cone) is h.1, subst Within delay h.2)
  | inr other ↦ found_delay cone b arcs n v (All-tail (IsArcInto cone b) arc arcs all) (sym (ap (λ (t : Bool). if t then Some arc.delay else delay_in arcs n) other) ∙ e)
]

module _ (cone : Cone) (a b : ℕ) (some : IsSome (delay_between cone a b)) where
  -- where there is a delay, it is that of a listed arc
  listed_told : delay_in (listed_into cone b) a ≡ delay_between cone a b
  unfolding arcs_into
  listed_told = elim (cases_Bool (is_first cone b)) [
    | inl first ↦
        let none : delay_between cone a b ≡ None = ap (λ (t : Bool). delay_in (if t then [] else listed_into cone b) a) first in
        absurd (false≢true (subst IsSome none some))
    | inr other ↦ sym (ap (λ (t : Bool). delay_in (if t then [] else listed_into cone b) a) other)
  ]

  pub no_delay : None ≡ delay_in (listed_into cone b) a → ⊥
  no_delay e = false≢true (subst IsSome (sym listed_told ∙ sym e) some)

  pub some_delay : IsCone cone → b < count_of cone → (v : ℤ) → Some v ≡ delay_in (listed_into cone b) a → IsDelay cone a b v
  some_delay good low v e =
      let f = found_delay cone b (listed_into cone b) a v (good.arcs b low) (sym e) in
      record { between = sym listed_told ∙ sym e; above = f.0; low = f.1; within = f.2 }

-- the same of a list of arcs that is told
pub no_delay_as : (cone : Cone) (a b : ℕ) → IsSome (delay_between cone a b) → (arcs : List WalkArc) → arcs ≡ listed_into cone b → None ≡ delay_in arcs a → ⊥
no_delay_as cone a b some arcs is e = no_delay cone a b some (e ∙ ap (λ (xs : List WalkArc). delay_in xs a) is)

pub some_delay_as : (cone : Cone) (a b : ℕ) → IsSome (delay_between cone a b) → IsCone cone → b < count_of cone → (arcs : List WalkArc) → arcs ≡ listed_into cone b
    → (v : ℤ) → Some v ≡ delay_in arcs a → IsDelay cone a b v
some_delay_as cone a b some good low arcs is v e = some_delay cone a b some good low v (e ∙ ap (λ (xs : List WalkArc). delay_in xs a) is)

-- a time after a step stays within its bound
pub step_bound : (kind : Kind) (time v : ℤ) (a b : ℕ) → b < a → a < most_nodes → Within v → unsigned_abs time ≤ (most_nodes - a) * 10 ^ 12 → unsigned_abs (time +ℤ signed kind v) ≤ (most_nodes - b) * 10 ^ 12
step_bound Setup time v a b low few within bound = omega (arith, ints)
step_bound Hold time v a b low few within bound = omega (arith, ints)

pub step_value : (kind : Kind) (cone : Cone) (time v : ℤ) (a b : ℕ) → delay_between cone a b ≡ Some v → time +ℤ signed kind v ≡ time_next kind cone time a b
step_value kind cone time v a b e = ap (λ (o : Option ℤ). time +ℤ signed kind (unwrap_or o (pos 0))) (sym e)

pub value_as : (kind : Kind) (cone : Cone) (time v r : ℤ) (a b : ℕ) → IsDelay cone a b v → r ≡ time +ℤ signed kind v → r ≡ time_next kind cone time a b
value_as kind cone time v r a b d e = e ∙ step_value kind cone time v a b d.between

pub bound_as : (kind : Kind) (cone : Cone) (time v r : ℤ) (a b : ℕ) → IsCone cone → IsDelay cone a b v → unsigned_abs time ≤ (most_nodes - a) * 10 ^ 12 → r ≡ time +ℤ signed kind v
    → unsigned_abs r ≤ (most_nodes - b) * 10 ^ 12
bound_as kind cone time v r a b good d bound e =
    let few = good.few in
    let low = d.low in
    subst (λ x. unsigned_abs x ≤ (most_nodes - b) * 10 ^ 12) (sym e) (step_bound kind time v a b d.above (omega arith) d.within bound)

-- the nodes that a loop over a walk has added
pub record IsAdded (s : Stored) (kind : Kind) (c : PinCone) (first : ℕ) (rest : List ℕ) (start : ℤ) (old : List PathNode) (i at : ℕ) (time : ℤ) (path : List PathNode) : Type 0 where
  pub low : at < count_of c.cone
  pub bound : unsigned_abs time ≤ (most_nodes - at) * 10 ^ 12
  pub end : ℕ
  pub sum : ℤ
  pub adds : walk_sum ◌==◌ (delay_between c.cone) end at (drop i rest) ≡ Some sum
  pub names : map name_part path ++ map (place_name s c.nodes) (drop i rest) ≡ map name_part old ++ map (place_name s c.nodes) rest
  pub times : map time_part path ++ times_after kind c.cone time at (drop i rest) ≡ map time_part old ++ times_after kind c.cone start first rest

pub added_none : (s : Stored) (kind : Kind) (c : PinCone) (first : ℕ) (rest : List ℕ) (start : ℤ) (old : List PathNode) → IsCone c.cone → IsWalkOn s c first rest → Within start → IsAdded s kind c first rest start old 0 first start old
added_none s kind c first rest start old good on within =
    let few = good.few in
    let low = on.first_low in
    record { low = low; bound = omega (arith, ints); end = on.end; sum = on.sum; adds = on.adds; names = refl; times = refl }

-- what the next step needs
pub record IsNextStep (s : Stored) (c : PinCone) (at next : ℕ) : Type 0 where
  pub arc : IsSome (delay_between c.cone at next)
  pub place : IsNodePlace s c.nodes next

module _ (s : Stored) (kind : Kind) (c : PinCone) (first : ℕ) (rest : List ℕ) (start : ℤ) (old : List PathNode) (i at : ℕ) (time : ℤ) (path : List PathNode)
    (h : IsAdded s kind c first rest start old i at time path) (next : ℕ) (inside : i < length rest) (is : next ≡ get_or rest i next) where
  cut : drop i rest ≡ next ∷ drop (i + 1) rest
  cut =
      drop-cons rest i next inside
      ∙ ap (λ (n : ℕ). n ∷ drop (suc i) rest) (sym is)
      ∙ ap (λ (j : ℕ). next ∷ drop j rest) (sym (add-one i))

  pub next_step : IsWalkOn s c first rest → IsNextStep s c at next
  next_step on =
      let z = sum_back (delay_between c.cone at next) (walk_sum ◌==◌ (delay_between c.cone) h.end next (drop (i + 1) rest)) h.sum
      (ap (λ (xs : List ℕ). walk_sum ◌==◌ (delay_between c.cone) h.end at xs) (sym cut) ∙ h.adds) in
      record {
        arc = subst IsSome (sym z.left_is) refl;
        place = subst (IsNodePlace s c.nodes) (sym is) (on.places i next inside);
      }

  pub added_more : (later : ℤ) (new : List PathNode) → next < count_of c.cone → later ≡ time_next kind c.cone time at next → unsigned_abs later ≤ (most_nodes - next) * 10 ^ 12
      → map name_part new ≡ map name_part path ++ place_name s c.nodes next ∷ [] → map time_part new ≡ map time_part path ++ later ∷ []
      → IsAdded s kind c first rest start old (i + 1) next later new
  added_more later new low value bound names times =
      let z = sum_back (delay_between c.cone at next) (walk_sum ◌==◌ (delay_between c.cone) h.end next (drop (i + 1) rest)) h.sum
      (ap (λ (xs : List ℕ). walk_sum ◌==◌ (delay_between c.cone) h.end at xs) (sym cut) ∙ h.adds) in
      record {
        low = low;
        bound = bound;
        end = h.end;
        sum = z.right;
        adds = z.right_is;
        names =
            ap (λ (xs : List Named). xs ++ map (place_name s c.nodes) (drop (i + 1) rest)) names
            ∙ append_assoc (map name_part path) (place_name s c.nodes next ∷ []) (map (place_name s c.nodes) (drop (i + 1) rest))
            ∙ ap (λ (xs : List ℕ). map name_part path ++ map (place_name s c.nodes) xs) (sym cut) ∙ h.names;
        times =
            ap (λ (xs : List ℤ). xs ++ times_after kind c.cone later next (drop (i + 1) rest)) times
            ∙ append_assoc (map time_part path) (later ∷ []) (times_after kind c.cone later next (drop (i + 1) rest))
            ∙ ap (λ (x : ℤ). map time_part path ++ x ∷ times_after kind c.cone x next (drop (i + 1) rest)) value
            ∙ ap (λ (xs : List ℕ). map time_part path ++ times_after kind c.cone time at xs) (sym cut) ∙ h.times;
      }

-- one node more, in the form that the loop has
pub added_as : (s : Stored) (kind : Kind) (c : PinCone) (first : ℕ) (rest : List ℕ) (start : ℤ) (old : List PathNode) (i at : ℕ) (time : ℤ) (path : List PathNode)
    → IsAdded s kind c first rest start old i at time path → count_of c.cone ≡ length c.nodes → IsWalkOn s c first rest → i < length rest
    → (later : ℤ) (ns : List ℕ) → ns ≡ c.nodes → (new : List PathNode) → later ≡ time_next kind c.cone time at (get_or rest i 0) → unsigned_abs later ≤ (most_nodes - get_or rest i 0) * 10 ^ 12
    → map name_part new ≡ map name_part path ++ place_name s ns (get_or rest i 0) ∷ [] → map time_part new ≡ map time_part path ++ later ∷ []
    → IsAdded s kind c first rest start old (i + 1) (get_or rest i 0) later new
added_as s kind c first rest start old i at time path h count on inside later ns same new value bound names times =
    let is : get_or rest i 0 ≡ get_or rest i (get_or rest i 0) = sym (get_or_default_zero rest i (get_or rest i 0) inside) in
    let step = next_step s kind c first rest start old i at time path h (get_or rest i 0) inside is on in
    added_more s kind c first rest start old i at time path h (get_or rest i 0) inside is later new
    (subst (λ n. get_or rest i 0 < n) (sym count) step.place.low) value bound
    (names ∙ ap (λ (xs : List ℕ). map name_part path ++ place_name s xs (get_or rest i 0) ∷ []) same) times

pub next_as : (s : Stored) (kind : Kind) (c : PinCone) (first : ℕ) (rest : List ℕ) (start : ℤ) (old : List PathNode) (i at : ℕ) (time : ℤ) (path : List PathNode)
    → IsAdded s kind c first rest start old i at time path → IsWalkOn s c first rest → i < length rest → IsNextStep s c at (get_or rest i 0)
next_as s kind c first rest start old i at time path h on inside =
    next_step s kind c first rest start old i at time path h (get_or rest i 0) inside (sym (get_or_default_zero rest i (get_or rest i 0) inside)) on

pub added_all : (s : Stored) (kind : Kind) (c : PinCone) (first : ℕ) (rest : List ℕ) (start : ℤ) (old : List PathNode) (i at : ℕ) (time : ℤ) (path : List PathNode)
    → IsAdded s kind c first rest start old i at time path → i ≡ length rest
    → (map name_part path ≡ map name_part old ++ map (place_name s c.nodes) rest) × (map time_part path ≡ map time_part old ++ times_after kind c.cone start first rest)
added_all s kind c first rest start old i at time path h e =
    let none : drop i rest ≡ [] = ap (λ n. drop n rest) e ∙ drop-length rest in (
      sym (append-nil (map name_part path)) ∙ ap (λ (xs : List ℕ). map name_part path ++ map (place_name s c.nodes) xs) (sym none) ∙ h.names,
      sym (append-nil (map time_part path)) ∙ ap (λ (xs : List ℕ). map time_part path ++ times_after kind c.cone time at xs) (sym none) ∙ h.times,
    )
