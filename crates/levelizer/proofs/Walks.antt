-- Walks against the arcs among nodes that wait, the cycle that one meets, and that levels leave none.
use Rattle.std.proofs.Common.{◌≡◌, ℕ, zero, suc, ◌+◌, ◌<◌, ◌≤◌, ◌==◌, Bool, true, false, cond, not, ◌&&◌, ◌||◌, max, List, [], ◌∷◌, ◌++◌, length, get_or, take, drop, set, map, replicate, reverse, refl, ap, sym, subst, ◌∙◌, inl, inr, arith}
use Rattle.std.specs.Prelude.{nat_eq}
use Rattle.std.specs.List.{count_by, list_any, IsDistinct}
use Rattle.std.proofs.lemmas.Bool.{cases_Bool, cases_lt, cases_eq, le-ltb, eq-eqb, ne_eqb, eqb-true, and_parts}
use Rattle.std.proofs.lemmas.List.{take-append-drop, take_all, drop_more, reverse-append, get_or-set_same, get_or-set_other, length-set, get_or_default, get_or_past, get_or-replicate}
use Rattle.std.proofs.lemmas.List.Folds.{list_any-append, list_any_none}
use Rattle.std.proofs.lemmas.List.Sorted.{IsPermutation-cons, IsPermutation-reverse}
use Rattle.std.proofs.lemmas.List.Sums.{sum_by-set}
use Rattle.std.proofs.lemmas.Map.Keys.{IsDistinct-tail, IsDistinct-push, IsDistinct-IsPermutation}
use Rattle.std.proofs.lemmas.Cmp.{nat_eq_equiv}
use Rattle.std.specs.Result.{IfOk}
use Rattle.std.proofs.Common.{Result, Ok, Err}
use Rattle.levelizer.specs.declared.links.Link.{Link}
use Rattle.levelizer.specs.Levels.{AreWithin, fan_in, greatest, AreLevels, IsJoined, IsWalk, IsCycle, HasNoCycle}
use Rattle.levelizer.specs.Sweep.{level_over, waits, IsSwept}
use Rattle.levelizer.specs.Tails.{IsTail, AreTails, is_marked, waiting_arcs}
use Rattle.levelizer.proofs.Counting.{count_more, none_if, same_sym}

-- tails for the first `i` arcs
pub record AreTailsSoFar (arcs : List Link) (waiting : List ℕ) (i : ℕ) (tails : List ℕ) : Type 0 where
  pub long : length tails ≡ length waiting
  pub each : (m : ℕ) → 0 < waiting_arcs waiting (take i arcs) m → IsTail arcs waiting (get_or tails m 0) m

still_waits : (waiting : List ℕ) (m : ℕ) → waits waiting m ≡ true → 0 < get_or waiting m 0
still_waits waiting m e = elim (cases_lt 0 (get_or waiting m 0)) [
  | inl low ↦ low
  | inr high ↦ let none = le-ltb 0 (get_or waiting m 0) high in cc
]

pub tails-none : (arcs : List Link) (waiting tails : List ℕ) → length tails ≡ length waiting → AreTailsSoFar arcs waiting 0 tails
tails-none arcs waiting tails long = record { long = long; each = λ m h. absurd (omega arith) }

pub tails-more : (arcs : List Link) (waiting tails tails' : List ℕ) (i : ℕ) (d : Link) → i < length arcs → length tails' ≡ length tails
    → ((m : ℕ) → get_or tails' m 0 ≡ cond (((get_or arcs i d).to == m) && waits waiting ((get_or arcs i d).from)) ((get_or arcs i d).from) (get_or tails m 0))
    → AreTailsSoFar arcs waiting i tails → AreTailsSoFar arcs waiting (i + 1) tails'
tails-more arcs waiting tails tails' i d low long step h = record {
  long = long ∙ h.long;
  each = λ m some. elim (cases_Bool (((get_or arcs i d).to == m) && waits waiting ((get_or arcs i d).from))) [
    | inl here ↦
        let is : get_or tails' m 0 ≡ (get_or arcs i d).from = step m ∙ rw here refl in
        let parts = and_parts ((get_or arcs i d).to == m) (waits waiting ((get_or arcs i d).from)) here in
        let to : (get_or arcs i d).to ≡ m = eqb-true ((get_or arcs i d).to) m parts.0 in
        rw (is, ← to) (record {
          joined = (i, low, get_or_default arcs i _ d low);
          still = still_waits waiting ((get_or arcs i d).from) parts.1;
        })
    | inr other ↦
        let is : get_or tails' m 0 ≡ get_or tails m 0 = step m ∙ rw other refl in
        let more = count_more (λ (arc : Link). (arc.to == m) && waits waiting arc.from) arcs i d low in
        let nil = none_if (((get_or arcs i d).to == m) && waits waiting ((get_or arcs i d).from)) other in
        rw is (h.each m (omega arith))
  ];
}

pub tails-all : (arcs : List Link) (waiting tails : List ℕ) (i : ℕ) → length arcs ≤ i → AreTailsSoFar arcs waiting i tails → AreTails arcs waiting arcs tails
tails-all arcs waiting tails i end h m some = h.each m (rw (take_all i arcs end) some)

-- a walk against the arcs from a start to the node `at`: its nodes are marked, and all wait
pub record IsWalkedBack (arcs : List Link) (waiting : List ℕ) (marks : List Bool) (walk : List ℕ) (at : ℕ) : Type 0 where
  pub long : length marks ≡ length waiting
  pub still : 0 < get_or waiting at 0
  pub marked : (m : ℕ) → m < length waiting → is_marked marks m ≡ list_any (λ x. x == m) walk
  pub apart : IsDistinct nat_eq walk
  pub joined : IsWalk arcs at (reverse walk)

pub there : (waiting : List ℕ) (m : ℕ) → 0 < get_or waiting m 0 → m < length waiting
there waiting m h = elim (cases_lt m (length waiting)) [
  | inl low ↦ low
  | inr high ↦ let nil = get_or_past waiting m 0 high in absurd (omega arith)
]

-- a part at the front of a walk
pub walk_front : (arcs : List Link) (first : ℕ) (xs ys : List ℕ) → IsWalk arcs first (xs ++ ys) → IsWalk arcs first xs
walk_front arcs first [] ys w = tt
walk_front arcs first (x ∷ xs) ys w = (w.0, walk_front arcs x xs ys w.1)

apart_rest : (k : ℕ) (xs : List ℕ) → IsDistinct nat_eq xs → IsDistinct nat_eq (drop k xs)
apart_rest zero xs d = d
apart_rest (suc k) [] d = d
apart_rest (suc k) (x ∷ xs) d = apart_rest k xs (IsDistinct-tail nat_eq x xs d)

-- where the walk meets one of its nodes again, what comes after that node's first place is a cycle
pub cycle_cut : (arcs : List Link) (walk : List ℕ) (at k : ℕ) → k < length walk → get_or walk k 0 ≡ at → IsDistinct nat_eq walk
    → IsWalk arcs at (reverse walk) → IsCycle arcs (at ∷ reverse (drop (k + 1) walk))
cycle_cut arcs walk at k low is apart joined =
    let rest : drop k walk ≡ at ∷ drop (k + 1) walk = drop_more walk k 0 low ∙ ap (λ x. x ∷ drop (k + 1) walk) is in
    let whole : reverse walk ≡ (reverse (drop (k + 1) walk) ++ at ∷ []) ++ reverse (take k walk) =
    ap reverse (sym (take-append-drop k walk)) ∙ reverse-append (take k walk) (drop k walk)
    ∙ ap (λ xs. reverse xs ++ reverse (take k walk)) rest
    ∙ ap (λ xs. xs ++ reverse (take k walk)) (reverse-append (at ∷ []) (drop (k + 1) walk)) in (
      IsDistinct-IsPermutation nat_eq same_sym (at ∷ drop (k + 1) walk) (at ∷ reverse (drop (k + 1) walk))
          (IsPermutation-cons at (drop (k + 1) walk) (reverse (drop (k + 1) walk)) (IsPermutation-reverse (drop (k + 1) walk)))
          (rw rest at (apart_rest k walk apart)),
      walk_front arcs at (reverse (drop (k + 1) walk) ++ at ∷ []) (reverse (take k walk)) (rw whole at joined),
    )

-- the level of a predecessor is below that of its node
reaches : (levels : List ℕ) (arcs : List Link) (k a b : ℕ) (d : Link) → k < length arcs → (get_or arcs k d).from ≡ a → (get_or arcs k d).to ≡ b
    → get_or levels a 0 + 1 ≤ greatest (map (λ from. get_or levels from 0 + 1) (fan_in arcs b))
reaches levels [] k a b d l from to = absurd (omega arith)
reaches levels (arc ∷ arcs) zero a b d l from to =
    let here : (arc.to == b) ≡ true = eq-eqb arc.to b to in
    let is : greatest (map (λ x. get_or levels x 0 + 1) (fan_in (arc ∷ arcs) b)) ≡ max (get_or levels arc.from 0 + 1) (greatest (map (λ x. get_or levels x 0 + 1) (fan_in arcs b))) = rw here refl in
    let level : get_or levels arc.from 0 ≡ get_or levels a 0 = ap (λ x. get_or levels x 0) from in
    omega arith
reaches levels (arc ∷ arcs) (suc k) a b d l from to =
    let more = reaches levels arcs k a b d (omega arith) from to in
    elim (cases_Bool (arc.to == b)) [
      | inl here ↦
          let is : greatest (map (λ x. get_or levels x 0 + 1) (fan_in (arc ∷ arcs) b)) ≡ max (get_or levels arc.from 0 + 1) (greatest (map (λ x. get_or levels x 0 + 1) (fan_in arcs b))) = rw here refl in
          omega arith
      | inr none ↦
          let is : greatest (map (λ x. get_or levels x 0 + 1) (fan_in (arc ∷ arcs) b)) ≡ greatest (map (λ x. get_or levels x 0 + 1) (fan_in arcs b)) = rw none refl in
          omega arith
    ]

rises : (n : ℕ) (arcs : List Link) (levels : List ℕ) → AreWithin n arcs → AreLevels n arcs levels → (a b : ℕ) → IsJoined arcs a b → get_or levels a 0 < get_or levels b 0
rises n arcs levels within h a b j =
    let low = (within j.0 (record { from = a; to = b }) j.1).1 in
    let low' : b < n = subst (λ (x : Link). x.to < n) j.2 low in
    let more = reaches levels arcs j.0 a b (record { from = a; to = b }) j.1 (ap (λ (x : Link). x.from) j.2) (ap (λ (x : Link). x.to) j.2) in
    let level = h.level b low' in
    omega arith

climbs : (n : ℕ) (arcs : List Link) (levels : List ℕ) → AreWithin n arcs → AreLevels n arcs levels → (a : ℕ) (xs : List ℕ) (b : ℕ)
    → IsWalk arcs a (xs ++ b ∷ []) → get_or levels a 0 < get_or levels b 0
climbs n arcs levels within h a [] b w = rises n arcs levels within h a b w.0
climbs n arcs levels within h a (x ∷ xs) b w =
    let step = rises n arcs levels within h a x w.0 in
    let more = climbs n arcs levels within h x xs b w.1 in
    omega arith

-- where there are levels there is no cycle
pub no_cycle : (n : ℕ) (arcs : List Link) (levels : List ℕ) → AreWithin n arcs → AreLevels n arcs levels → HasNoCycle arcs
no_cycle n arcs levels within h [] c = c
no_cycle n arcs levels within h (first ∷ more) c = let up = climbs n arcs levels within h first more first c.1 in omega arith

-- levels over all predecessors
over_all : (p : ℕ → Bool) (levels : List ℕ) (arcs : List Link) (m : ℕ) → ((x : ℕ) → p x ≡ true)
    → level_over p levels arcs m ≡ greatest (map (λ from. get_or levels from 0 + 1) (fan_in arcs m))
over_all p levels [] m h = refl
over_all p levels (arc ∷ arcs) m h =
    let more = over_all p levels arcs m h in
    elim (cases_Bool (arc.to == m)) [
      | inl here ↦
          let left : level_over p levels (arc ∷ arcs) m ≡ max (get_or levels arc.from 0 + 1) (level_over p levels arcs m) = rw (here, h arc.from) refl in
          let right : greatest (map (λ x. get_or levels x 0 + 1) (fan_in (arc ∷ arcs) m)) ≡ max (get_or levels arc.from 0 + 1) (greatest (map (λ x. get_or levels x 0 + 1) (fan_in arcs m))) = rw here refl in
          left ∙ ap (max (get_or levels arc.from 0 + 1)) more ∙ sym right
      | inr none ↦
          let left : level_over p levels (arc ∷ arcs) m ≡ level_over p levels arcs m = rw none refl in
          let right : greatest (map (λ x. get_or levels x 0 + 1) (fan_in (arc ∷ arcs) m)) ≡ greatest (map (λ x. get_or levels x 0 + 1) (fan_in arcs m)) = rw none refl in
          left ∙ more ∙ sym right
    ]

-- where no node waits the levels are all there
pub all_levels : (n : ℕ) (arcs : List Link) (levels waiting : List ℕ) → IsSwept n arcs levels waiting → ((m : ℕ) → get_or waiting m 0 ≡ 0) → AreLevels n arcs levels
all_levels n arcs levels waiting h none = record {
  count = h.levels_count;
  level = λ m low. h.level m low ∙ over_all (λ x. get_or waiting x 0 == 0) levels arcs m (λ x. eq-eqb (get_or waiting x 0) 0 (none x));
}

-- a node that waits has a predecessor that waits
pub has_tail : (n : ℕ) (arcs : List Link) (levels waiting : List ℕ) → IsSwept n arcs levels waiting → (m : ℕ) → 0 < get_or waiting m 0 → 0 < waiting_arcs waiting arcs m
has_tail n arcs levels waiting h m some =
    let low = there waiting m some in
    let count = h.count m (omega (arith, h.waiting_count)) in
    omega arith

-- a node that a walk has is at a place of it
pub must_have : (walk : List ℕ) (node : ℕ) → list_any (λ x. x == node) walk ≡ true → ((k : ℕ) → k < length walk → get_or walk k 0 ≡ node → ⊥) → ⊥
must_have walk node has none =
    let quiet : list_any (λ x. x == node) walk ≡ false =
    list_any_none (λ x. x == node) walk (λ k d l. ne_eqb (get_or walk k d) node (λ e. none k l (get_or_default walk k 0 d l ∙ e))) in
    cc

none_apart : IsDistinct nat_eq []
unfolding IsDistinct
none_apart = tt

-- before the first node
pub walk-none : (arcs : List Link) (waiting : List ℕ) (marks : List Bool) (walk : List ℕ) (at : ℕ) → length marks ≡ length waiting
    → marks ≡ replicate (length waiting) false → walk ≡ [] → 0 < get_or waiting at 0 → IsWalkedBack arcs waiting marks walk at
walk-none arcs waiting marks walk at long clear empty still = rw empty (record {
  long = long;
  still = still;
  marked = λ m low. ap (λ bs. get_or bs m false) clear ∙ get_or-replicate (length waiting) m false false low;
  apart = none_apart;
  joined = tt;
})

any_same : (p q : ℕ → Bool) (xs : List ℕ) → ((x : ℕ) → p x ≡ q x) → list_any p xs ≡ list_any q xs
any_same p q [] h = refl
any_same p q (x ∷ xs) h = rw (h x, any_same p q xs h) refl

or-right : (b : Bool) → (b || (true || false)) ≡ true
or-right true = refl
or-right false = refl

or-left : (b : Bool) → (b || (false || false)) ≡ b
or-left true = refl
or-left false = refl

marked_more : (waiting : List ℕ) (marks : List Bool) (walk : List ℕ) (at : ℕ) → length marks ≡ length waiting → at < length waiting
    → ((m : ℕ) → m < length waiting → is_marked marks m ≡ list_any (λ x. x == m) walk)
    → (m : ℕ) → m < length waiting → is_marked (set marks at true) m ≡ list_any (λ x. x == m) (walk ++ at ∷ [])
marked_more waiting marks walk at long there marked m low =
    elim (cases_eq m at) [
      | inl same ↦
          let here : (at == m) ≡ true = eq-eqb at m (sym same) in
          let right : list_any (λ x. x == m) (walk ++ at ∷ []) ≡ true =
          list_any-append (λ x. x == m) walk (at ∷ []) ∙ ap (λ b. list_any (λ x. x == m) walk || (b || false)) here ∙ or-right (list_any (λ x. x == m) walk) in
          let left : is_marked (set marks at true) at ≡ true = get_or-set_same marks at true false (omega arith) in
          ap (is_marked (set marks at true)) same ∙ left ∙ sym right
      | inr other ↦
          let none : (at == m) ≡ false = ne_eqb at m (λ e. other (sym e)) in
          let right : list_any (λ x. x == m) (walk ++ at ∷ []) ≡ list_any (λ x. x == m) walk =
          list_any-append (λ x. x == m) walk (at ∷ []) ∙ ap (λ b. list_any (λ x. x == m) walk || (b || false)) none ∙ or-left (list_any (λ x. x == m) walk) in
          get_or-set_other marks at m true false other ∙ marked m low ∙ sym right
    ]

-- one node more of the walk
pub walk-more : (arcs : List Link) (waiting tails : List ℕ) (marks marks' : List Bool) (walk walk' : List ℕ) (at next : ℕ)
    → AreTails arcs waiting arcs tails → ((m : ℕ) → 0 < get_or waiting m 0 → 0 < waiting_arcs waiting arcs m)
    → IsWalkedBack arcs waiting marks walk at → is_marked marks at ≡ false
    → marks' ≡ set marks at true → walk' ≡ walk ++ at ∷ [] → next ≡ get_or tails at 0 → IsWalkedBack arcs waiting marks' walk' next
walk-more arcs waiting tails marks marks' walk walk' at next tail closed h fresh set_is walk_is next_is =
    let behind : IsTail arcs waiting (get_or tails at 0) at = tail at (closed at h.still) in
    let low : at < length waiting = there waiting at h.still in
    let away : list_any (nat_eq at) walk ≡ false = any_same (nat_eq at) (λ x. x == at) walk (λ x. same_sym at x) ∙ sym (h.marked at low) ∙ fresh in
    rw (set_is, walk_is, next_is) (record {
      long = length-set marks at true ∙ h.long;
      still = behind.still;
      marked = marked_more waiting marks walk at h.long low h.marked;
      apart = IsDistinct-push nat_eq_equiv walk at h.apart away;
      joined = rw (reverse-append walk (at ∷ [])) (behind.joined, h.joined);
    })

-- what holds of an answer's value holds of what follows from it
pub ok_more : {X E : Type 0} {P Q : X → Type 0} (r : Result X E) → ((x : X) → P x → Q x) → IfOk r P → IfOk r Q
ok_more (Ok x) h p = h x p
ok_more (Err e) h p = p

-- the measure of the walk
pub fewer : (marks : List Bool) (at : ℕ) → at < length marks → is_marked marks at ≡ false → count_by not (set marks at true) < count_by not marks
fewer marks at low fresh =
    let moved = sum_by-set (λ b. cond (not b) 1 0) marks at true false low in
    let before : cond {A = ℕ} (not (get_or marks at false)) 1 0 ≡ 1 = rw fresh refl in
    omega arith
