-- Resistors that stand in the order of a walk from a root are a tree to all nodes that were met.

use Rattle.std.proofs.Common.{◌≡◌, ℕ, zero, suc, ◌+◌, ◌<◌, ◌≤◌, Bool, true, false, not, List, [], ◌∷◌, ◌++◌, map, length, get_or, take, Option, None, Some, refl, sym, ap, subst, ◌∙◌, inl, inr, arith, ◌⊎◌}
use Rattle.std.specs.Prelude.{is_some, ◌&&◌, ◌||◌, if◌then◌else◌, Contains}
use Rattle.std.specs.List.{list_any, list_all}
use Rattle.std.proofs.lemmas.Bool.{false≢true, not-true, cases_lt, or_cases, or_left, or_right, and_from, and_parts}
use Rattle.std.proofs.lemmas.List.{map-append, take_more, take_all, get_or_default}
use Rattle.std.proofs.lemmas.List.Folds.{list_any-append}
use Rattle.std.proofs.lemmas.Option.{none-some}
use Rattle.timing_defs.specs.declared.parasitics.RcNode.{RcNode}
use Rattle.timing_defs.specs.declared.parasitics.RcNode.TheVariants.{Pin as rc_pin}
use Rattle.timing_defs.specs.declared.parasitics.RcRes.{RcRes}
use Rattle.timing_defs.specs.declared.parasitics.RcCap.{RcCap}
use Rattle.timing_defs.specs.declared.parasitics.NetRc.{NetRc}
use Rattle.timing_defs.specs.Wires.{same_rc, touches, path_between, is_lumped, each_with_rest}
use Rattle.timing_defs.specs.NetChecks.{named_nodes, has_cycle}
use Rattle.timing_defs.proofs.Members.{some_is, any_in}
use Rattle.store_pins.proofs.PinLaws.{there}
use Rattle.rc_tree.proofs.Routes.{same_rc_is, same_rc_self}
use Rattle.rc_tree.proofs.Forest.{up_to, IsForest, no_loop, path_found}
use Rattle.design_link.specs.Rooted.{is_rooted}
use Rattle.design_link.specs.Walks.{is_met, leads_on, no_resistor, resistor_at, IsWalkTo}
use Rattle.design_link.proofs.RcPinLaws.{all_members, named_all}

-- the resistors by their places
resistors_to : (ress : List RcRes) (n : ℕ) → n ≤ length ress → map (resistor_at ress) (up_to n) ≡ take n ress
resistors_to ress zero low = refl
resistors_to ress (suc n) low =
    map-append (resistor_at ress) (up_to n) (n ∷ [])
    ∙ ap (λ xs. xs ++ resistor_at ress n ∷ []) (resistors_to ress n (omega arith))
    ∙ sym (take_more ress n no_resistor (omega arith))
    ∙ (let more : n + 1 ≡ suc n = omega arith in ap (λ m. take m ress) more)

-- the two ends of a resistor that leads on: one that was met, and a new one
abbrev AreEnds : RcNode → RcNode → RcNode → RcNode → Type 0
AreEnds a b old new = ((a ≡ old) × (b ≡ new)) ⊎ ((a ≡ new) × (b ≡ old))

record IsTurn (met : RcNode → Bool) (a b old new : RcNode) : Type 0 where
  known : met old ≡ true
  fresh : met new ≡ false
  ends : AreEnds a b old new

turn_of : (met : RcNode → Bool) (a b : RcNode) → (if met a then not (met b) else met b) ≡ true → IsTurn met a b (if met a then a else b) (if met a then b else a)
turn_of met a b leads = by (met a) refl
  where
    by : (t : Bool) → met a ≡ t → IsTurn met a b (if met a then a else b) (if met a then b else a)
    by true e =
        let other : met b ≡ false = not-true (met b) (sym (ap (λ t. if t then not (met b) else met b) e) ∙ leads) in
        subst (λ t. IsTurn met a b (if t then a else b) (if t then b else a)) (sym e) (record { known = e; fresh = other; ends = inl (refl, refl) })
    by false e =
        let other : met b ≡ true = sym (ap (λ t. if t then not (met b) else met b) e) ∙ leads in
        subst (λ t. IsTurn met a b (if t then a else b) (if t then b else a)) (sym e) (record { known = other; fresh = e; ends = inr (refl, refl) })

touches_new : (r : RcRes) (old new : RcNode) → AreEnds r.a r.b old new → touches r new ≡ true
touches_new r old new (inl e) = or_right (same_rc r.a new) (same_rc r.b new) (ap (λ n. same_rc n new) e.1 ∙ same_rc_self new)
touches_new r old new (inr e) = or_left (same_rc r.a new) (same_rc r.b new) (ap (λ n. same_rc n new) e.0 ∙ same_rc_self new)

which_end : (r : RcRes) (old new node : RcNode) → AreEnds r.a r.b old new → touches r node ≡ true → (old ≡ node) ⊎ (new ≡ node)
which_end r old new node (inl e) t = elim (or_cases (same_rc r.a node) (same_rc r.b node) t) [
  | inl s ↦ inl (sym e.0 ∙ same_rc_is r.a node s)
  | inr s ↦ inr (sym e.1 ∙ same_rc_is r.b node s)
]
which_end r old new node (inr e) t = elim (or_cases (same_rc r.a node) (same_rc r.b node) t) [
  | inl s ↦ inr (sym e.0 ∙ same_rc_is r.a node s)
  | inr s ↦ inl (sym e.1 ∙ same_rc_is r.b node s)
]

module _ (root : List ℕ) (ress : List RcRes) (walk : IsWalkTo root ress (length ress)) where
  abbrev rs : ℕ → RcRes
  rs = resistor_at ress

  -- what the first resistors and the root meet
  abbrev met : ℕ → RcNode → Bool
  met j q = is_met root (take j ress) q

  -- the nodes in the order in which they are met, and from where each resistor leads on
  abbrev at : ℕ → RcNode
  at zero = rc_pin root
  at (suc j) = (if met j (rs j).a then (rs j).b else (rs j).a)

  abbrev old : ℕ → RcNode
  old j = (if met j (rs j).a then (rs j).a else (rs j).b)

  turn : (j : ℕ) → j < length ress → IsTurn (met j) (rs j).a (rs j).b (old j) (at (suc j))
  turn j low = turn_of (met j) (rs j).a (rs j).b (walk j low)

  met_more : (j : ℕ) (q : RcNode) → j < length ress → met (suc j) q ≡ (met j q || touches (rs j) q)
  met_more j q low =
      (let more : suc j ≡ j + 1 = omega arith in ap (λ n. is_met root (take n ress) q) more)
      ∙ ap (λ xs. is_met root xs q) (take_more ress j no_resistor low)
      ∙ ap (λ b. same_rc q (rc_pin root) || b) (list_any-append (λ r. touches r q) (take j ress) (rs j ∷ []))
      ∙ grouped (same_rc q (rc_pin root)) (list_any (λ r. touches r q) (take j ress)) (touches (rs j) q)
    where
      grouped : (a b c : Bool) → (a || (b || (c || false))) ≡ ((a || b) || c)
      grouped true b c = refl
      grouped false true c = refl
      grouped false false true = refl
      grouped false false false = refl

  was_met : (j i : ℕ) → i ≤ j → j ≤ length ress → met j (at i) ≡ true
  was_met zero zero low most = or_left (same_rc (rc_pin root) (rc_pin root)) _ (same_rc_self (rc_pin root))
  was_met zero (suc i) low most = absurd (omega arith)
  was_met (suc j) i low most = met_more j (at i) (omega arith) ∙ elim (cases_lt j i) [
    | inl above ↦
        let last : suc j ≡ i = omega arith in
        or_right (met j (at i)) (touches (rs j) (at i))
        (subst (λ n. touches (rs j) (at n) ≡ true) last (touches_new (rs j) (old j) (at (suc j)) (turn j (omega arith)).ends))
    | inr below ↦ or_left (met j (at i)) (touches (rs j) (at i)) (was_met j i below (omega arith))
  ]

  not_before : (i j : ℕ) → i ≤ j → j < length ress → at i ≡ at (suc j) → ⊥
  not_before i j low most same = false≢true (sym (turn j most).fresh ∙ ap (met j) (sym same) ∙ was_met j i low (omega arith))

  -- the place of a node that was met
  abbrev first_place : Bool → Option ℕ
  first_place here = (if here then Some 0 else None)

  abbrev find_place : ℕ → RcNode → Option ℕ
  find_place zero q = first_place (same_rc (at zero) q)
  find_place (suc j) q = (if same_rc (at (suc j)) q then Some (suc j) else find_place j q)

  found_at : (j : ℕ) (q : RcNode) (p : ℕ) → find_place j q ≡ Some p → (p ≤ j) × (at p ≡ q)
  found_at zero q p e = by (same_rc (at zero) q) refl
    where
      by : (t : Bool) → same_rc (at zero) q ≡ t → (p ≤ 0) × (at p ≡ q)
      by true s =
          let same : 0 ≡ p = some_is (sym (ap first_place s) ∙ e) in
          (omega arith, ap at (sym same) ∙ same_rc_is (at zero) q s)
      by false s = absurd (none-some p (sym (ap first_place s) ∙ e))
  found_at (suc j) q p e = by (same_rc (at (suc j)) q) refl (found_at j q p)
    where
      by : (t : Bool) → same_rc (at (suc j)) q ≡ t → (find_place j q ≡ Some p → (p ≤ j) × (at p ≡ q)) → (p ≤ suc j) × (at p ≡ q)
      by true s before =
          let same : suc j ≡ p = some_is (sym (ap (λ t. if t then Some (suc j) else find_place j q) s) ∙ e) in
          (omega arith, ap at (sym same) ∙ same_rc_is (at (suc j)) q s)
      by false s before =
          let rest = before (sym (ap (λ t. if t then Some (suc j) else find_place j q) s) ∙ e) in
          let low : p ≤ j = rest.0 in
          (omega arith, rest.1)

  found_here : (j : ℕ) (q : RcNode) → at (suc j) ≡ q → is_some (find_place (suc j) q) ≡ true
  found_here j q same =
      ap (λ t. is_some (if t then Some (suc j) else find_place j q)) (ap (λ n. same_rc n q) same ∙ same_rc_self q)

  found_before : (j : ℕ) (q : RcNode) → is_some (find_place j q) ≡ true → is_some (find_place (suc j) q) ≡ true
  found_before j q e = by (same_rc (at (suc j)) q) e
    where
      by : (t : Bool) → is_some (find_place j q) ≡ true → is_some (if t then Some (suc j) else find_place j q) ≡ true
      by true h = refl
      by false h = h

  found_met : (j : ℕ) (q : RcNode) → j ≤ length ress → met j q ≡ true → is_some (find_place j q) ≡ true
  found_met zero q most h = elim (or_cases (same_rc q (rc_pin root)) false h) [
    | inl s ↦ ap (λ t. is_some (first_place t)) (ap (λ n. same_rc (rc_pin root) n) (same_rc_is q (rc_pin root) s) ∙ same_rc_self (rc_pin root))
    | inr f ↦ absurd (false≢true f)
  ]
  found_met (suc j) q most h = elim (or_cases (met j q) (touches (rs j) q) (sym (met_more j q (omega arith)) ∙ h)) [
    | inl had ↦ found_before j q (found_met j q (omega arith) had)
    | inr t ↦
        let turned = turn j (omega arith) in
        elim (which_end (rs j) (old j) (at (suc j)) q turned.ends t) [
          | inl e ↦ found_before j q (found_met j q (omega arith) (ap (met j) (sym e) ∙ turned.known))
          | inr e ↦ found_here j q e
        ]
  ]

  -- the forest: each resistor leads on to a place from one before it
  abbrev up : ℕ → Option ℕ
  up zero = None
  up (suc j) = find_place j (old j)

  abbrev seg : ℕ → ℕ
  seg zero = 0
  seg (suc j) = j

  abbrev home : ℕ → ℕ
  home j = 0

  up_there : (j : ℕ) → j < length ress → is_some (up (suc j)) ≡ true
  up_there j low = found_met j (old j) (omega arith) (turn j low).known

  apart : (i j : ℕ) → i < suc (length ress) → j < suc (length ress) → at i ≡ at j → i ≡ j
  apart zero zero a b e = refl
  apart zero (suc j) a b e = absurd (not_before zero j (omega arith) (omega arith) e)
  apart (suc i) zero a b e = absurd (not_before zero i (omega arith) (omega arith) (sym e))
  apart (suc i) (suc j) a b e = elim (cases_lt i j) [
    | inl less ↦ absurd (not_before (suc i) j (omega arith) (omega arith) e)
    | inr more ↦ elim (cases_lt j i) [
      | inl less ↦ absurd (not_before (suc j) i (omega arith) (omega arith) (sym e))
      | inr other ↦ omega arith
    ]
  ]

  rising : (j p : ℕ) → j < suc (length ress) → up j ≡ Some p → p < j
  rising zero p low e = absurd (none-some p e)
  rising (suc j) p low e = let low : p ≤ j = (found_at j (old j) p e).0 in omega arith

  joined : (j p : ℕ) → j < suc (length ress) → up j ≡ Some p → AreEnds (rs (seg j)).a (rs (seg j)).b (at p) (at j)
  joined zero p low e = absurd (none-some p e)
  joined (suc j) p low e =
      subst (λ n. AreEnds (rs j).a (rs j).b n (at (suc j))) (sym (found_at j (old j) p e).1) (turn j (omega arith)).ends

  inside : (j p : ℕ) → j < suc (length ress) → up j ≡ Some p → seg j < length ress
  inside zero p low e = absurd (none-some p e)
  inside (suc j) p low e = omega arith

  own_home : (j : ℕ) → j < suc (length ress) → up j ≡ None → home j ≡ j
  own_home zero low e = refl
  own_home (suc j) low e = absurd (false≢true (sym (ap is_some e) ∙ up_there j (omega arith)))

  forest : IsForest rs at up seg home (length ress) (suc (length ress))
  forest = record {
    apart = apart;
    rising = rising;
    joined = joined;
    inside = inside;
    same_home = λ j p low e. refl;
    own_home = own_home;
    low_home = λ j low. omega arith;
  }

  full : (k : ℕ) → k < length ress → (j : ℕ) × ((p : ℕ) × (j < suc (length ress)) × (up j ≡ Some p) × (seg j ≡ k))
  full k low = let p = there (up (suc k)) (up_there k low) in (suc k, (p.0, omega arith, p.1, refl))

  all_resistors : map rs (up_to (length ress)) ≡ ress
  all_resistors = resistors_to ress (length ress) (omega arith) ∙ take_all (length ress) ress (omega arith)

  no_cycle : list_any (λ (r, rest). is_some (path_between rest r.a r.b)) (each_with_rest [] ress) ≡ false
  no_cycle =
      ap (λ xs. list_any (λ (r, rest). is_some (path_between rest r.a r.b)) (each_with_rest [] xs)) (sym all_resistors)
      ∙ no_loop rs at up seg home (length ress) (suc (length ress)) forest full

  reached : (q : RcNode) → is_met root ress q ≡ true → is_some (path_between ress (rc_pin root) q) ≡ true
  reached q h =
      let all : met (length ress) q ≡ true = ap (λ xs. is_met root xs q) (take_all (length ress) ress (omega arith)) ∙ h in
      let place = there (find_place (length ress) q) (found_met (length ress) q (omega arith) all) in
      let found = found_at (length ress) q place.0 place.1 in
      let low : place.0 ≤ length ress = found.0 in
      ap (λ n. is_some (path_between ress (rc_pin root) n)) (sym found.1)
      ∙ ap (λ xs. is_some (path_between xs (rc_pin root) (at place.0))) (sym all_resistors)
      ∙ ap is_some (path_found rs at up seg home (length ress) (suc (length ress)) forest full refl place.0 (omega arith) refl)

  -- all nodes at resistors are reached
  ends_reached : list_all (λ r. is_some (path_between ress (rc_pin root) r.a) && is_some (path_between ress (rc_pin root) r.b)) ress ≡ true
  ends_reached = all_members (λ r. is_some (path_between ress (rc_pin root) r.a) && is_some (path_between ress (rc_pin root) r.b)) ress each
    where
      each : (r : RcRes) → Contains ress r → (is_some (path_between ress (rc_pin root) r.a) && is_some (path_between ress (rc_pin root) r.b)) ≡ true
      each r c =
          and_from (is_some (path_between ress (rc_pin root) r.a)) (is_some (path_between ress (rc_pin root) r.b))
          (reached r.a (or_right (same_rc r.a (rc_pin root)) (list_any (λ x. touches x r.a) ress)
          (any_in (λ x. touches x r.a) ress r c (or_left (same_rc r.a r.a) (same_rc r.b r.a) (same_rc_self r.a)))))
          (reached r.b (or_right (same_rc r.b (rc_pin root)) (list_any (λ x. touches x r.b) ress)
          (any_in (λ x. touches x r.b) ress r c (or_right (same_rc r.a r.b) (same_rc r.b r.b) (same_rc_self r.b)))))

all_imply : {X : Type 0} (p q : X → Bool) → ((x : X) → p x ≡ true → q x ≡ true) → (xs : List X) → list_all p xs ≡ true → list_all q xs ≡ true
all_imply p q f [] h = refl
all_imply p q f (x ∷ xs) h =
    let parts = and_parts (p x) (list_all p xs) h in
    and_from (q x) (list_all q xs) (f x parts.0) (all_imply p q f xs parts.1)

pub walk_rooted : (rc : NetRc) (root : List ℕ) → IsWalkTo root rc.ress (length rc.ress) → list_all (λ c. is_met root rc.ress c.node) rc.caps ≡ true → is_rooted rc root ≡ true
walk_rooted rc root walk caps =
    or_right (is_lumped rc) (not (has_cycle rc) && list_all (λ node. is_some (path_between rc.ress (rc_pin root) node)) (named_nodes rc))
    (and_from (not (has_cycle rc)) (list_all (λ node. is_some (path_between rc.ress (rc_pin root) node)) (named_nodes rc)) (ap not (no_cycle root rc.ress walk))
    (sym (named_all (λ node. is_some (path_between rc.ress (rc_pin root) node)) rc)
    ∙ and_from (list_all (λ r. is_some (path_between rc.ress (rc_pin root) r.a) && is_some (path_between rc.ress (rc_pin root) r.b)) rc.ress)
    (list_all (λ c. is_some (path_between rc.ress (rc_pin root) c.node)) rc.caps)
    (ends_reached root rc.ress walk)
    (all_imply (λ (c : RcCap). is_met root rc.ress c.node) (λ (c : RcCap). is_some (path_between rc.ress (rc_pin root) c.node))
    (λ c h. reached root rc.ress walk c.node h) rc.caps caps)))

-- one resistor more leads on
pub walk_more : (root : List ℕ) (ress : List RcRes) (i : ℕ) (r : RcRes) → i < length ress → r ≡ get_or ress i r → IsWalkTo root ress i → leads_on root (take i ress) r ≡ true → IsWalkTo root ress (i + 1)
walk_more root ress i r low here had leads k below = elim (cases_lt k i) [
  | inl less ↦ had k less
  | inr more ↦
      let same : k ≡ i = omega arith in
      subst (λ n. leads_on root (take n ress) (resistor_at ress n) ≡ true) (sym same)
      (ap (leads_on root (take i ress)) (get_or_default ress i no_resistor r low ∙ sym here) ∙ leads)
]
