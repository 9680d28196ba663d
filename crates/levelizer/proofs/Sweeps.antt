-- One node more of a sweep: which nodes are done, how many arcs still wait, and what levels are so far.
use Rattle.std.proofs.Common.{◌≡◌, ℕ, suc, ◌+◌, ◌<◌, ◌≤◌, ◌==◌, Bool, true, false, cond, not, ◌&&◌, ◌||◌, max, List, [], ◌∷◌, length, get_or, take, refl, ap, sym, subst, ◌∙◌, inl, inr, zero-add, arith}
use Rattle.std.specs.Prelude.{nat_lt}
use Rattle.std.specs.List.{count_by, list_any}
use Rattle.std.proofs.lemmas.Bool.{cases_Bool, cases_lt, cases_eq, lt-ltb, le-ltb, eq-eqb, ne_eqb, eqb-true, and_parts}
use Rattle.std.proofs.lemmas.Bool.Decides.{nat_tests}
use Rattle.std.proofs.lemmas.List.{take_all, take-take, get_or_past}
use Rattle.std.proofs.lemmas.List.Folds.{list_any_more}
use Rattle.std.proofs.lemmas.List.Sums.{sum_by-take-le}
use Rattle.levelizer.specs.declared.links.Link.{Link}
use Rattle.levelizer.specs.Levels.{AreWithin}
use Rattle.levelizer.specs.FanOut.{fan_out}
use Rattle.levelizer.specs.Sweep.{freed, level_over, waits, IsSwept}
use Rattle.levelizer.proofs.Counting.{count_cons, count_split, count_same, count_agree, count_more, count_all, counts_at, some_passes, few, list_any-from_count, one_if, if_one, same_sym}

-- a node is done where it stands in the queue before the place `done`
abbrev pub is_done : ℕ → List ℕ → ℕ → Bool
is_done done queue x = list_any (λ y. y == x) (take done queue)

-- how often a number stands in a list
abbrev pub times : ℕ → List ℕ → ℕ
times m xs = count_by (λ x. x == m) xs

-- a node is free where no arc from a node that is not done leads to it
abbrev pub is_free : ℕ → List ℕ → ℕ → Bool
is_free n waiting m = nat_lt m n && (get_or waiting m 0 == 0)

-- how many arcs lead to a node from nodes that are not done
abbrev pub open_arcs : (ℕ → Bool) → List Link → ℕ → ℕ
open_arcs p arcs m = count_by (λ arc. (arc.to == m) && not (p arc.from)) arcs

-- the queue holds each free node once; counts and levels are over the nodes that are done
pub record IsSweeping (n : ℕ) (arcs : List Link) (done : ℕ) (queue levels waiting : List ℕ) : Type 0 where
  pub levels_long : length levels ≡ n
  pub waiting_long : length waiting ≡ n
  pub within : done ≤ length queue
  pub once : (m : ℕ) → times m queue ≡ cond (is_free n waiting m) 1 0
  pub count : (m : ℕ) → m < n → get_or waiting m 0 ≡ open_arcs (is_done done queue) arcs m
  pub level : (m : ℕ) → m < n → get_or levels m 0 ≡ level_over (is_done done queue) levels arcs m
  pub low : (m : ℕ) → get_or levels m 0 ≤ done

-- what stands in the queue is free
pub queued_free : (n : ℕ) (queue waiting : List ℕ) → ((m : ℕ) → times m queue ≡ cond (is_free n waiting m) 1 0)
    → (m : ℕ) → 0 < times m queue → (m < n) × (get_or waiting m 0 ≡ 0)
queued_free n queue waiting once m h =
    let free : is_free n waiting m ≡ true = if_one (is_free n waiting m) (omega (arith, once m)) in
    let parts = and_parts (nat_lt m n) (get_or waiting m 0 == 0) free in (
      elim (cases_lt m n) [
        | inl low ↦ low
        | inr high ↦ let none = le-ltb m n high in cc
      ],
      eqb-true (get_or waiting m 0) 0 parts.1,
    )

at_most_one : {k : ℕ} (b : Bool) → k ≡ cond {A = ℕ} b 1 0 → k ≤ 1
at_most_one true e = omega arith
at_most_one false e = omega arith

at_place : (queue : List ℕ) (done : ℕ) (d : ℕ) → done < length queue → 0 < times (get_or queue done d) queue
at_place queue done d l = counts_at (λ x. x == get_or queue done d) queue done d l (eq-eqb (get_or queue done d) (get_or queue done d) refl)

-- the node at the place `done` is not done
fresh : (n : ℕ) (queue waiting : List ℕ) (done d : ℕ) → ((m : ℕ) → times m queue ≡ cond (is_free n waiting m) 1 0) → done < length queue
    → is_done done queue (get_or queue done d) ≡ false
fresh n queue waiting done d once l =
    let more = count_more (λ x. x == get_or queue done d) queue done d l in
    let one = one_if (get_or queue done d == get_or queue done d) (eq-eqb (get_or queue done d) (get_or queue done d) refl) in
    let part : times (get_or queue done d) (take (done + 1) queue) ≤ times (get_or queue done d) queue = sum_by-take-le (λ x. cond (x == get_or queue done d) 1 0) queue (done + 1) in
    let most : times (get_or queue done d) queue ≤ 1 = at_most_one (is_free n waiting (get_or queue done d)) (once (get_or queue done d)) in
    list_any-from_count (λ y. y == get_or queue done d) (take done queue) ∙ le-ltb 0 (times (get_or queue done d) (take done queue)) (omega arith)

-- a node that is done is free
pub done_free : (n : ℕ) (queue waiting : List ℕ) (done : ℕ) → ((m : ℕ) → times m queue ≡ cond (is_free n waiting m) 1 0)
    → (m : ℕ) → is_done done queue m ≡ true → (m < n) × (get_or waiting m 0 ≡ 0)
done_free n queue waiting done once m e =
    let some : nat_lt 0 (times m (take done queue)) ≡ true = sym (list_any-from_count (λ y. y == m) (take done queue)) ∙ e in
    let part : times m (take done queue) ≤ times m queue = sum_by-take-le (λ x. cond (x == m) 1 0) queue done in
    queued_free n queue waiting once m (elim (cases_lt 0 (times m (take done queue))) [
      | inl low ↦ omega arith
      | inr high ↦ let none = le-ltb 0 (times m (take done queue)) high in cc
    ])

-- the arcs to a node: those out of one node more count no longer
bits : (t p q : Bool) → (q ≡ true → p ≡ false) → cond {A = ℕ} (t && not p) 1 0 ≡ cond (t && not (p || q)) 1 0 + cond (q && t) 1 0
bits true true true h = let wrong : true ≡ false = h refl in cc
bits true true false h = refl
bits true false true h = refl
bits true false false h = refl
bits false true true h = refl
bits false true false h = refl
bits false false true h = refl
bits false false false h = refl

fan_count : (arcs : List Link) (node m : ℕ) → times m (fan_out arcs node) ≡ count_by (λ (arc : Link). (arc.from == node) && (arc.to == m)) arcs
fan_count [] node m = refl
fan_count (arc ∷ arcs) node m =
    let more = fan_count arcs node m in
    let parts = count_cons (λ (a : Link). (a.from == node) && (a.to == m)) arc arcs in
    elim (cases_Bool (arc.from == node)) [
      | inl here ↦
          let list : fan_out (arc ∷ arcs) node ≡ arc.to ∷ fan_out arcs node = rw here refl in
          let left : times m (fan_out (arc ∷ arcs) node) ≡ cond (arc.to == m) 1 0 + times m (fan_out arcs node) =
          ap (times m) list ∙ count_cons (λ x. x == m) arc.to (fan_out arcs node) in
          let unit : cond {A = ℕ} ((arc.from == node) && (arc.to == m)) 1 0 ≡ cond (arc.to == m) 1 0 = rw here refl in
          omega arith
      | inr none ↦
          let list : fan_out (arc ∷ arcs) node ≡ fan_out arcs node = rw none refl in
          let left : times m (fan_out (arc ∷ arcs) node) ≡ times m (fan_out arcs node) = ap (times m) list in
          let unit : cond {A = ℕ} ((arc.from == node) && (arc.to == m)) 1 0 ≡ 0 = rw none refl in
          omega arith
    ]

open_less : (p p' : ℕ → Bool) (arcs : List Link) (node m : ℕ) → p node ≡ false → ((x : ℕ) → p' x ≡ (p x || (x == node)))
    → open_arcs p arcs m ≡ open_arcs p' arcs m + times m (fan_out arcs node)
open_less p p' arcs node m clear more =
    let split = count_split (λ (arc : Link). (arc.to == m) && not (p arc.from)) (λ arc. (arc.to == m) && not (p' arc.from)) (λ arc. (arc.from == node) && (arc.to == m))
    (λ arc. rw (more arc.from) (bits (arc.to == m) (p arc.from) (arc.from == node) (λ e. ap p (eqb-true arc.from node e) ∙ clear))) arcs in
    let fan = fan_count arcs node m in
    omega arith

or-false : (b : Bool) → (b || false) ≡ b
or-false true = refl
or-false false = refl

raised : (b : Bool) (t l : ℕ) → max (l + 1) (cond b (max t (l + 1)) t) ≡ max t (l + 1)
raised true t l = omega arith
raised false t l = omega arith

kept : (b : Bool) (e t l : ℕ) → max (e + 1) (cond b (max t (l + 1)) t) ≡ cond b (max (max (e + 1) t) (l + 1)) (max (e + 1) t)
kept true e t l = omega arith
kept false e t l = refl

-- the levels behind one node more
level_more : (p p' : ℕ → Bool) (levels levels' : List ℕ) (arcs : List Link) (node m : ℕ) → p node ≡ false
    → ((x : ℕ) → p' x ≡ (p x || (x == node))) → ((x : ℕ) → p' x ≡ true → get_or levels' x 0 ≡ get_or levels x 0)
    → level_over p' levels' arcs m ≡ cond (list_any (λ head. head == m) (fan_out arcs node)) (max (level_over p levels arcs m) (get_or levels node 0 + 1)) (level_over p levels arcs m)
level_more p p' levels levels' [] node m clear more same = refl
level_more p p' levels levels' (arc ∷ arcs) node m clear more same =
    let rest = level_more p p' levels levels' arcs node m clear more same in
    elim (cases_Bool (arc.to == m)) [
      | inl to ↦ elim (cases_Bool (arc.from == node)) [
        | inl from ↦
            let is : arc.from ≡ node = eqb-true arc.from node from in
            let before : p arc.from ≡ false = ap p is ∙ clear in
            let after : p' arc.from ≡ true = more arc.from ∙ rw (before, from) refl in
            let level : get_or levels' arc.from 0 ≡ get_or levels node 0 = same arc.from after ∙ ap (λ k. get_or levels k 0) is in
            let left : level_over p' levels' (arc ∷ arcs) m ≡ max (get_or levels' arc.from 0 + 1) (level_over p' levels' arcs m) = rw (to, after) refl in
            let right : level_over p levels (arc ∷ arcs) m ≡ level_over p levels arcs m = rw (to, before) refl in
            let heads : list_any (λ head. head == m) (fan_out (arc ∷ arcs) node) ≡ true = rw (from, to) refl in
            left ∙ rw (heads, right, level, rest) (raised (list_any (λ head. head == m) (fan_out arcs node)) (level_over p levels arcs m) (get_or levels node 0))
        | inr other ↦
            let now : p' arc.from ≡ p arc.from = more arc.from ∙ rw other (or-false (p arc.from)) in
            let heads : list_any (λ head. head == m) (fan_out (arc ∷ arcs) node) ≡ list_any (λ head. head == m) (fan_out arcs node) = rw other refl in
            elim (cases_Bool (p arc.from)) [
              | inl passes ↦
                  let level : get_or levels' arc.from 0 ≡ get_or levels arc.from 0 = same arc.from (now ∙ passes) in
                  let left : level_over p' levels' (arc ∷ arcs) m ≡ max (get_or levels' arc.from 0 + 1) (level_over p' levels' arcs m) = rw (to, now ∙ passes) refl in
                  let right : level_over p levels (arc ∷ arcs) m ≡ max (get_or levels arc.from 0 + 1) (level_over p levels arcs m) = rw (to, passes) refl in
                  left ∙ rw (heads, right, level, rest) (kept (list_any (λ head. head == m) (fan_out arcs node)) (get_or levels arc.from 0) (level_over p levels arcs m) (get_or levels node 0))
              | inr fails ↦
                  let left : level_over p' levels' (arc ∷ arcs) m ≡ level_over p' levels' arcs m = rw (to, now ∙ fails) refl in
                  let right : level_over p levels (arc ∷ arcs) m ≡ level_over p levels arcs m = rw (to, fails) refl in
                  left ∙ rw (heads, right) rest
            ]
      ]
      | inr elsewhere ↦
          let left : level_over p' levels' (arc ∷ arcs) m ≡ level_over p' levels' arcs m = rw elsewhere refl in
          let right : level_over p levels (arc ∷ arcs) m ≡ level_over p levels arcs m = rw elsewhere refl in
          let heads : list_any (λ head. head == m) (fan_out (arc ∷ arcs) node) ≡ list_any (λ head. head == m) (fan_out arcs node) = elim (cases_Bool (arc.from == node)) [
            | inl from ↦ rw (from, elsewhere) refl
            | inr other ↦ rw other refl
          ] in
          left ∙ rw (heads, right) rest
    ]

-- the queue has at most `n` nodes
pub queue_short : (n : ℕ) (arcs : List Link) (done : ℕ) (queue levels waiting : List ℕ) → IsSweeping n arcs done queue levels waiting → length queue ≤ n
queue_short n arcs done queue levels waiting h =
    let all : count_by (λ x. nat_lt x n) queue ≡ length queue =
    count_all (λ x. nat_lt x n) queue (λ k d l. lt-ltb (get_or queue k d) n (queued_free n queue waiting h.once (get_or queue k d) (at_place queue k d l)).0) in
    let most = few queue (λ m. at_most_one (is_free n waiting m) (h.once m)) n in
    omega arith

-- no more arcs lead out of a free node to another than that one waits for
pub fan_waits : (n : ℕ) (arcs : List Link) (done : ℕ) (queue levels waiting : List ℕ) (node : ℕ) → AreWithin n arcs
    → IsSweeping n arcs done queue levels waiting → is_done done queue node ≡ false
    → (m : ℕ) → times m (fan_out arcs node) ≤ get_or waiting m 0
fan_waits n arcs done queue levels waiting node within h clear m =
    elim (cases_lt m n) [
      | inl low ↦
          let parts = open_less (is_done done queue) (λ x. is_done done queue x || (x == node)) arcs node m clear (λ x. refl) in
          let count = h.count m low in
          omega arith
      | inr high ↦
          let fan = fan_count arcs node m in
          elim (cases_lt 0 (times m (fan_out arcs node))) [
            | inl some ↦
                let found = some_passes (λ (arc : Link). (arc.from == node) && (arc.to == m)) arcs (omega arith) in
                let parts = and_parts (found.1.from == node) (found.1.to == m) found.4 in
                let to : found.1.to ≡ m = eqb-true found.1.to m parts.1 in
                let low = (within found.0 found.1 found.2).1 in
                let low' : found.1.to < n = subst (λ (arc : Link). arc.to < n) found.3 low in
                absurd (omega arith)
            | inr none ↦ omega arith
          ]
    ]

pub fan_within : (heads waiting : List ℕ) → ((m : ℕ) → times m heads ≤ get_or waiting m 0) → (k d : ℕ) → k < length heads → get_or heads k d < length waiting
fan_within heads waiting h k d l =
    let some = at_place heads k d l in
    let most = h (get_or heads k d) in
    elim (cases_lt (get_or heads k d) (length waiting)) [
      | inl low ↦ low
      | inr high ↦ let none = get_or_past waiting (get_or heads k d) 0 high in absurd (omega arith)
    ]

-- the place after one node more
done_more : (queue queue' : List ℕ) (done d : ℕ) → done < length queue → take (length queue) queue' ≡ queue
    → (x : ℕ) → is_done (done + 1) queue' x ≡ (is_done done queue x || (x == get_or queue done d))
done_more queue queue' done d l kept x =
    let front : take (done + 1) queue' ≡ take (done + 1) queue =
    sym (take-take (done + 1) (length queue) queue' (omega arith)) ∙ ap (take (done + 1)) kept in
    ap (list_any (λ y. y == x)) front
    ∙ list_any_more (λ y. y == x) queue done d l
    ∙ ap (λ b. is_done done queue x || b) (same_sym (get_or queue done d) x)

free_step : (n m a b : ℕ) → b ≤ a → (n ≤ m → a ≡ 0) → cond {A = ℕ} (nat_lt m n && (a == 0)) 1 0 + freed a b ≡ cond (nat_lt m n && (b == 0)) 1 0
free_step n m a b less past =
    elim (cases_lt m n) [
      | inl low ↦
          let within = lt-ltb m n low in
          elim (cases_eq a 0) [
            | inl nil ↦
                let none : b ≡ 0 = omega arith in
                let start : (a == 0) ≡ true = eq-eqb a 0 nil in
                let end : (b == 0) ≡ true = eq-eqb b 0 none in
                let still : nat_lt 0 a ≡ false = le-ltb 0 a (omega arith) in
                rw (within, start, end, still) refl
            | inr some ↦
                let start : (a == 0) ≡ false = ne_eqb a 0 some in
                let moves : nat_lt 0 a ≡ true = lt-ltb 0 a (omega arith) in
                rw (within, start, moves) (zero-add (cond {A = ℕ} (b == 0) 1 0))
          ]
      | inr high ↦
          let beyond = le-ltb m n high in
          let nil = past high in
          let still : nat_lt 0 a ≡ false = le-ltb 0 a (omega arith) in
          rw (beyond, still) refl
    ]

raise_low : (b : Bool) (l k done next : ℕ) → l ≡ cond b (max k next) k → k ≤ done → next ≤ done + 1 → l ≤ done + 1
raise_low true l k done next e h g = omega arith
raise_low false l k done next e h g = omega arith

-- one node more is done
pub sweep-more : (n : ℕ) (arcs : List Link) (done : ℕ) (queue queue' levels levels' waiting waiting' heads : List ℕ) (node next d : ℕ)
    → IsSweeping n arcs done queue levels waiting → done < length queue → node ≡ get_or queue done d
    → heads ≡ fan_out arcs node → next ≡ get_or levels node 0 + 1
    → length levels' ≡ length levels → length waiting' ≡ length waiting
    → ((m : ℕ) → m < length levels → get_or levels' m 0 ≡ cond (list_any (λ head. head == m) heads) (max (get_or levels m 0) next) (get_or levels m 0))
    → ((m : ℕ) → get_or waiting' m 0 + times m heads ≡ get_or waiting m 0)
    → ((m : ℕ) → times m queue' ≡ times m queue + freed (get_or waiting m 0) (get_or waiting' m 0))
    → take (length queue) queue' ≡ queue → length queue ≤ length queue'
    → IsSweeping n arcs (done + 1) queue' levels' waiting'
sweep-more n arcs done queue queue' levels levels' waiting waiting' heads node next d h l is fan up levels_same waiting_same raise wait queued kept grown =
    let clear : is_done done queue node ≡ false = ap (is_done done queue) is ∙ fresh n queue waiting done d h.once l in
    let ready = queued_free n queue waiting h.once node (subst (λ x. 0 < times x queue) (sym is) (at_place queue done d l)) in
    let more : (x : ℕ) → is_done (done + 1) queue' x ≡ (is_done done queue x || (x == node)) =
    λ x. done_more queue queue' done d l kept x ∙ ap (λ y. is_done done queue x || (x == y)) (sym is) in
    let fan_times : (m : ℕ) → times m heads ≡ times m (fan_out arcs node) = λ m. ap (times m) fan in
    let calm : (x : ℕ) → is_done (done + 1) queue' x ≡ true → (x < n) × (get_or waiting x 0 ≡ 0) = λ x e.
    elim (cases_eq x node) [
      | inl same ↦ subst (λ y. (y < n) × (get_or waiting y 0 ≡ 0)) (sym same) ready
      | inr other ↦ done_free n queue waiting done h.once x (sym (or-false (is_done done queue x)) ∙ ap (λ b. is_done done queue x || b) (sym (ne_eqb x node other)) ∙ sym (more x) ∙ e)
    ] in
    let same : (x : ℕ) → is_done (done + 1) queue' x ≡ true → get_or levels' x 0 ≡ get_or levels x 0 = λ x e.
    let at_rest = calm x e in
    let none : times x heads ≡ 0 = omega (arith, wait x, at_rest.1) in
    let quiet : list_any (λ head. head == x) heads ≡ false = list_any-from_count (λ head. head == x) heads ∙ le-ltb 0 (times x heads) (omega arith) in
    raise x (omega (arith, at_rest.0, h.levels_long)) ∙ rw quiet refl in
    record {
      levels_long = levels_same ∙ h.levels_long;
      waiting_long = waiting_same ∙ h.waiting_long;
      within = omega arith;
      once = λ m. queued m ∙ ap (λ k. k + freed (get_or waiting m 0) (get_or waiting' m 0)) (h.once m)
          ∙ free_step n m (get_or waiting m 0) (get_or waiting' m 0) (omega (arith, wait m)) (λ past. get_or_past waiting m 0 (omega (arith, h.waiting_long)));
      count = λ m low.
          let parts = open_less (is_done done queue) (is_done (done + 1) queue') arcs node m clear more in
          omega (arith, wait m, h.count m low, fan_times m);
      level = λ m low.
          raise m (omega (arith, h.levels_long))
          ∙ rw (h.level m low, fan, up) (sym (level_more (is_done done queue) (is_done (done + 1) queue') levels levels' arcs node m clear more same));
      low = λ m. elim (cases_lt m (length levels)) [
        | inl low ↦ raise_low (list_any (λ head. head == m) heads) (get_or levels' m 0) (get_or levels m 0) done next (raise m low) (h.low m) (omega (arith, h.low node))
        | inr high ↦ let nil = get_or_past levels' m 0 (omega arith) in omega arith
      ];
    }

-- the levels of no node at all
level-none : (levels : List ℕ) (arcs : List Link) (m : ℕ) → level_over (λ x. false) levels arcs m ≡ 0
level-none levels [] m = refl
level-none levels (arc ∷ arcs) m = elim (cases_Bool (arc.to == m)) [
  | inl to ↦ (let left : level_over (λ x. false) levels (arc ∷ arcs) m ≡ level_over (λ x. false) levels arcs m = rw to refl in left ∙ level-none levels arcs m)
  | inr other ↦ (let left : level_over (λ x. false) levels (arc ∷ arcs) m ≡ level_over (λ x. false) levels arcs m = rw other refl in left ∙ level-none levels arcs m)
]

and-true : (b : Bool) → b ≡ (b && true)
and-true true = refl
and-true false = refl

-- before the first node
pub sweep-none : (n : ℕ) (arcs : List Link) (queue levels waiting : List ℕ) → length levels ≡ n → length waiting ≡ n
    → ((m : ℕ) → get_or levels m 0 ≡ 0)
    → ((m : ℕ) → get_or waiting m 0 ≡ count_by (λ (arc : Link). arc.to == m) arcs)
    → ((m : ℕ) → times m queue ≡ cond (nat_lt m (length waiting) && (get_or waiting m 0 == 0)) 1 0)
    → IsSweeping n arcs 0 queue levels waiting
sweep-none n arcs queue levels waiting levels_long waiting_long zeros counts once = record {
  levels_long = levels_long;
  waiting_long = waiting_long;
  within = omega arith;
  once = λ m. once m ∙ ap (λ k. cond {A = ℕ} (nat_lt m k && (get_or waiting m 0 == 0)) 1 0) waiting_long;
  count = λ m low. counts m ∙ count_same (λ (arc : Link). arc.to == m) (λ arc. (arc.to == m) && true) (λ arc. and-true (arc.to == m)) arcs;
  level = λ m low. zeros m ∙ sym (level-none levels arcs m);
  low = λ m. omega (arith, zeros m);
}

-- tests that agree where arcs come from give the same level
level_agree : (n : ℕ) (p q : ℕ → Bool) (levels : List ℕ) (arcs : List Link) (m : ℕ) → AreWithin n arcs → ((x : ℕ) → x < n → p x ≡ q x)
    → level_over p levels arcs m ≡ level_over q levels arcs m
level_agree n p q levels [] m within h = refl
level_agree n p q levels (arc ∷ arcs) m within h =
    let here : p arc.from ≡ q arc.from = h arc.from (within 0 arc (omega arith)).0 in
    let more = level_agree n p q levels arcs m (λ k d l. within (suc k) d (omega arith)) h in
    rw (here, more) refl

unit_back : (b : Bool) → nat_lt 0 (cond {A = ℕ} b 1 0) ≡ b
unit_back true = refl
unit_back false = refl

not_nil : (a : ℕ) → not (a == 0) ≡ nat_lt 0 a
not_nil a = grind (arith, nat_tests)

-- after the last node
pub sweep-all : (n : ℕ) (arcs : List Link) (done : ℕ) (queue levels waiting : List ℕ) → AreWithin n arcs
    → IsSweeping n arcs done queue levels waiting → length queue ≤ done → IsSwept n arcs levels waiting
sweep-all n arcs done queue levels waiting within h end =
    let here : (x : ℕ) → x < n → is_done done queue x ≡ (get_or waiting x 0 == 0) = λ x low.
    ap (list_any (λ y. y == x)) (take_all done queue end)
    ∙ list_any-from_count (λ y. y == x) queue
    ∙ ap (λ k. nat_lt 0 k) (h.once x)
    ∙ rw (lt-ltb x n low) (unit_back (get_or waiting x 0 == 0)) in
    record {
      levels_count = h.levels_long;
      waiting_count = h.waiting_long;
      count = λ m low. h.count m low ∙ count_agree (λ (arc : Link). (arc.to == m) && not (is_done done queue arc.from)) (λ arc. (arc.to == m) && waits waiting arc.from) arcs
          (λ k d l. ap (λ b. ((get_or arcs k d).to == m) && b) (ap not (here ((get_or arcs k d).from) (within k d l).0) ∙ not_nil (get_or waiting ((get_or arcs k d).from) 0)));
      level = λ m low. h.level m low ∙ level_agree n (is_done done queue) (λ x. get_or waiting x 0 == 0) levels arcs m within here;
    }

-- the next node is a node, is not done, and its level has room
pub next_node : (n : ℕ) (arcs : List Link) (done : ℕ) (queue levels waiting : List ℕ) (node : ℕ) → IsSweeping n arcs done queue levels waiting
    → done < length queue → node ≡ get_or queue done 0 → (node < n) × (is_done done queue node ≡ false) × (get_or levels node 0 < n)
next_node n arcs done queue levels waiting node h l is =
    let ready = queued_free n queue waiting h.once node (subst (λ x. 0 < times x queue) (sym is) (at_place queue done 0 l)) in
    let short = queue_short n arcs done queue levels waiting h in
    (ready.0, ap (is_done done queue) is ∙ fresh n queue waiting done 0 h.once l, omega (arith, h.low node))

-- one node more that is queued where nothing leads to it
pub ready_more : (i m : ℕ) (waiting : List ℕ) (before after : ℕ)
    → before ≡ cond {A = ℕ} (nat_lt m i && (get_or waiting m 0 == 0)) 1 0
    → after ≡ before + cond ((i == m) && (get_or waiting i 0 == 0)) 1 0
    → after ≡ cond (nat_lt m (i + 1) && (get_or waiting m 0 == 0)) 1 0
ready_more i m waiting before after e f =
    elim (cases_eq i m) [
      | inl same ↦
          let here : (i == m) ≡ true = eq-eqb i m same in
          let not_before : nat_lt m i ≡ false = le-ltb m i (omega arith) in
          let within : nat_lt m (i + 1) ≡ true = lt-ltb m (i + 1) (omega arith) in
          let count : get_or waiting i 0 ≡ get_or waiting m 0 = ap (λ k. get_or waiting k 0) same in
          f ∙ rw (e, here, not_before, within, count) (zero-add (cond {A = ℕ} (get_or waiting m 0 == 0) 1 0))
      | inr other ↦
          let none : (i == m) ≡ false = ne_eqb i m other in
          f ∙ rw (e, none) (elim (cases_lt m i) [
            | inl low ↦
                let before_it : nat_lt m i ≡ true = lt-ltb m i low in
                let within : nat_lt m (i + 1) ≡ true = lt-ltb m (i + 1) (omega arith) in
                rw (before_it, within) (omega arith)
            | inr high ↦
                let before_it : nat_lt m i ≡ false = le-ltb m i high in
                let within : nat_lt m (i + 1) ≡ false = le-ltb m (i + 1) (omega arith) in
                rw (before_it, within) refl
          ])
    ]
