-- What is reached over arcs that rise, and the number of levels.

use Rattle.std.proofs.Common.{◌≡◌, ℕ, zero, suc, ◌+◌, ◌<◌, ◌≤◌, ◌==◌, Bool, true, false, cond, max, List, [], ◌∷◌, map, filter, length, get_or, refl, sym, ap, subst, ◌∙◌, inl, inr, arith, lt-ltb}
use Rattle.std.specs.Prelude.{nat_eq, nat_lt, ◌&&◌, ◌||◌, Contains, count_by}
use Rattle.std.specs.List.{list_any}
use Rattle.std.specs.Option.{unwrap_or}
use Rattle.std.proofs.lemmas.Bool.{cases_lt, false≢true, and_parts, and_from, or_cases, or_left, or_right, eq-eqb, eqb-true}
use Rattle.std.proofs.lemmas.Bool.Decides.{nat_tests}
use Rattle.std.proofs.lemmas.Cmp.{nat_eq_equiv}
use Rattle.std.proofs.lemmas.List.Sums.{sum_by-cons, count_by-le-length}
use Rattle.timing_defs.specs.Netlist.{Pin, name_of, pins}
use Rattle.netlist_store.specs.Numbering.{Stored, number_of, IsNumbered}
use Rattle.netlist_store.specs.Linked.{IsLinked}
use Rattle.levelizer.specs.declared.links.Link.{Link}
use Rattle.levelizer.specs.Levels.{fan_in, greatest, AreLevels}
use Rattle.levelizer.specs.Reaching.{has_mark, is_led_to}
use Rattle.pin_graph.specs.Joins.{pin_links}
use Rattle.timing_defs.proofs.Members.{none_in, in_cases, first_in, later_in, in_map, in_map_back, in_filter, passes_in, kept_in, any_in, any_back}
use Rattle.store_pins.proofs.PinLaws.{HasNumber}
use Rattle.pin_graph.proofs.JoinLaws.{links_lead}

pub both_same : (a b : Bool) → (a ≡ true → b ≡ true) → (b ≡ true → a ≡ true) → a ≡ b
both_same true b f g = sym (f refl)
both_same false true f g = absurd (false≢true (g refl))
both_same false false f g = refl

-- the pin from which an arc leads, beside another
pub record IsBeside (s : Stored) (links : List Link) (q : Pin) (m : ℕ) : Type 0 where
  pub number : ℕ
  pub has : HasNumber s q number
  pub link : Contains links (record { from = number; to = m })

pub record IsFromPin (s : Stored) (near : List Pin) (n : ℕ) : Type 0 where
  pub pin : Pin
  pub has : HasNumber s pin n
  pub within : Contains near pin

-- what is reached by walks of at most so many steps is what is marked, where arcs rise
module _ (s : Stored) (base : Pin → Bool) (near : Pin → List Pin) (steps : ℕ → Pin → Bool) (links : List Link) (marks : List Bool) (first : List ℕ) (rank : ℕ → ℕ)
    (none : (p : Pin) → steps 0 p ≡ base p)
    (more : (n : ℕ) (p : Pin) → steps (suc n) p ≡ (base p || list_any (steps n) (near p)))
    (begun : (p : Pin) (m : ℕ) → HasNumber s p m → list_any (nat_eq m) first ≡ base p)
    (fixed : (p : Pin) (m : ℕ) → HasNumber s p m → has_mark marks m ≡ (list_any (nat_eq m) first || is_led_to links marks m))
    (beside : (p : Pin) (m : ℕ) (q : Pin) → HasNumber s p m → Contains (near p) q → IsBeside s links q m)
    (back : (p : Pin) (m : ℕ) (l : Link) → HasNumber s p m → Contains links l → l.to ≡ m → IsFromPin s (near p) l.from)
    (rises : (l : Link) → Contains links l → rank l.from < rank l.to) where
  led_back : (m : ℕ) → is_led_to links marks m ≡ true → (l : Link) × Contains links l × (l.to ≡ m) × (has_mark marks l.from ≡ true)
  led_back m e =
      let r = any_back (λ (arc : Link). nat_eq arc.to m && has_mark marks arc.from) links e in
      let parts = and_parts (nat_eq r.item.to m) (has_mark marks r.item.from) r.passes in
      (r.item, r.within, eqb-true r.item.to m parts.0, parts.1)

  unled : (p : Pin) (m : ℕ) → HasNumber s p m → rank m ≤ 0 → is_led_to links marks m ≡ true → ⊥
  unled p m h low e =
      let l = led_back m e in
      let up = rises l.0 l.1 in
      let same : rank l.0.to ≡ rank m = ap rank l.2 in
      omega arith

  pub steps_are_marks : (n : ℕ) (p : Pin) (m : ℕ) → HasNumber s p m → rank m ≤ n → steps n p ≡ has_mark marks m
  steps_are_marks zero p m h low =
      none p ∙ both_same (base p) (has_mark marks m)
      (λ e. fixed p m h ∙ or_left (list_any (nat_eq m) first) (is_led_to links marks m) (begun p m h ∙ e))
      (λ e. elim (or_cases (list_any (nat_eq m) first) (is_led_to links marks m) (sym (fixed p m h) ∙ e)) [
        | inl f ↦ sym (begun p m h) ∙ f
        | inr f ↦ absurd (unled p m h low f)
      ])
  steps_are_marks (suc n) p m h low =
      more n p ∙ both_same (base p || list_any (steps n) (near p)) (has_mark marks m)
      (λ e. fixed p m h ∙ elim (or_cases (base p) (list_any (steps n) (near p)) e) [
        | inl f ↦ or_left (list_any (nat_eq m) first) (is_led_to links marks m) (begun p m h ∙ f)
        | inr f ↦
            let r = any_back (steps n) (near p) f in
            let b = beside p m r.item h r.within in
            let up : rank b.number < rank m = rises (record { from = b.number; to = m }) b.link in
            let marked : has_mark marks b.number ≡ true = sym (steps_are_marks n r.item b.number b.has (omega arith)) ∙ r.passes in
            or_right (list_any (nat_eq m) first) (is_led_to links marks m)
            (any_in (λ (arc : Link). nat_eq arc.to m && has_mark marks arc.from) links (record { from = b.number; to = m }) b.link
            (and_from (nat_eq m m) (has_mark marks b.number) (nat_eq_equiv.refl m) marked))
      ])
      (λ e. elim (or_cases (list_any (nat_eq m) first) (is_led_to links marks m) (sym (fixed p m h) ∙ e)) [
        | inl f ↦ or_left (base p) (list_any (steps n) (near p)) (sym (begun p m h) ∙ f)
        | inr f ↦
            let l = led_back m f in
            let up = rises l.0 l.1 in
            let same : rank l.0.to ≡ rank m = ap rank l.2 in
            let q = back p m l.0 h l.1 l.2 in
            or_right (base p) (list_any (steps n) (near p))
            (any_in (steps n) (near p) q.pin q.within (steps_are_marks n q.pin l.0.from q.has (omega arith) ∙ l.3))
      ])

-- the greatest of some numbers
above_greatest : (xs : List ℕ) (x : ℕ) → Contains xs x → x ≤ greatest xs
above_greatest [] x c = absurd (none_in x c)
above_greatest (y ∷ ys) x c = elim (in_cases y ys x c) [
  | inl e ↦ omega arith
  | inr d ↦ let rest = above_greatest ys x d in omega arith
]

greatest_in : (xs : List ℕ) → 0 < greatest xs → Contains xs (greatest xs)
greatest_in [] h = absurd (omega arith)
greatest_in (y ∷ ys) h = elim (cases_lt y (greatest ys)) [
  | inl low ↦
      let is : greatest ys ≡ max y (greatest ys) = omega arith in
      subst (λ (g : ℕ). Contains (y ∷ ys) g) is (later_in y ys (greatest ys) (greatest_in ys (omega arith)))
  | inr high ↦ let is : y ≡ max y (greatest ys) = omega arith in subst (λ (g : ℕ). Contains (y ∷ ys) g) is (first_in y ys)
]

-- arcs rise from level to level
pub levels_rise : (n : ℕ) (arcs : List Link) (levels : List ℕ) → AreLevels n arcs levels → (l : Link) → Contains arcs l → l.to < n
    → get_or levels l.from 0 < get_or levels l.to 0
levels_rise n arcs levels h l c low =
    let member : Contains (fan_in arcs l.to) l.from =
    in_map (λ (arc : Link). arc.from) (filter (λ arc. arc.to == l.to) arcs) l (in_filter (λ (arc : Link). arc.to == l.to) arcs l c (eq-eqb l.to l.to refl)) in
    let up = above_greatest (map (λ from. get_or levels from 0 + 1) (fan_in arcs l.to)) (get_or levels l.from 0 + 1)
    (in_map (λ (from : ℕ). get_or levels from 0 + 1) (fan_in arcs l.to) l.from member) in
    let is = h.level l.to low in
    omega arith

-- where a level is not 0 some arc comes from the level below
pub record IsBelow (arcs : List Link) (levels : List ℕ) (m k : ℕ) : Type 0 where
  pub from : ℕ
  pub link : Contains arcs (record { from = from; to = m })
  pub level : get_or levels from 0 ≡ k

level_below : (n : ℕ) (arcs : List Link) (levels : List ℕ) → AreLevels n arcs levels → (m k : ℕ) → m < n → get_or levels m 0 ≡ k + 1 → IsBelow arcs levels m k
level_below n arcs levels h m k low e =
    let is = h.level m low in
    let top = greatest_in (map (λ from. get_or levels from 0 + 1) (fan_in arcs m)) (omega arith) in
    let f = in_map_back (λ (from : ℕ). get_or levels from 0 + 1) (fan_in arcs m) (greatest (map (λ from. get_or levels from 0 + 1) (fan_in arcs m))) top in
    let l = in_map_back (λ (arc : Link). arc.from) (filter (λ arc. arc.to == m) arcs) f.item f.within in
    let to : l.item.to ≡ m = eqb-true l.item.to m (passes_in (λ (arc : Link). arc.to == m) arcs l.item l.within) in
    let same = f.same in
    record {
      from = f.item;
      link =
          subst (λ (x : ℕ). Contains arcs (record { from = x; to = m })) l.same
          (subst (λ (x : ℕ). Contains arcs (record { from = l.item.from; to = x })) to (kept_in (λ (arc : Link). arc.to == m) arcs l.item l.within));
      level = omega arith;
    }

count_cons : {X : Type 0} (p : X → Bool) (x : X) (xs : List X) → count_by p (x ∷ xs) ≡ cond (p x) 1 0 + count_by p xs
count_cons p x xs = sum_by-cons (λ y. cond (p y) 1 0) x xs

count_split : {X : Type 0} (p q r : X → Bool) → ((x : X) → cond (p x) 1 0 ≡ cond (q x) 1 0 + cond (r x) 1 0) → (xs : List X) → count_by p xs ≡ count_by q xs + count_by r xs
count_split p q r h [] = refl
count_split p q r h (x ∷ xs) =
    let here = h x in
    let more = count_split p q r h xs in
    omega (arith, count_cons p x xs, count_cons q x xs, count_cons r x xs)

counts_in : {X : Type 0} (p : X → Bool) (xs : List X) (x : X) → Contains xs x → p x ≡ true → 0 < count_by p xs
counts_in p [] x c e = absurd (none_in x c)
counts_in p (y ∷ ys) x c e = elim (in_cases y ys x c) [
  | inl same ↦
      let f : p y ≡ true = ap p same ∙ e in
      let one : cond {A = ℕ} (p y) 1 0 ≡ 1 = rw f refl in
      omega (arith, count_cons p y ys)
  | inr d ↦ let rest = counts_in p ys x d e in omega (arith, count_cons p y ys)
]

below_next : (a m k : ℕ) → k ≡ m + 1 → cond (nat_lt a k) 1 0 ≡ cond (nat_lt a m) 1 0 + cond (a == m) 1 0
below_next a m k e = grind (arith, nat_tests)

-- there are more pins than levels
module _ (s : Stored) (num : IsNumbered s) (linked : IsLinked s.design) (levels : List ℕ) (are : AreLevels (length s.pins) (pin_links s) levels) where
  level_of : Pin → ℕ
  level_of p = get_or levels (unwrap_or (number_of s.pins (name_of p)) 0) 0

  level_is : (p : Pin) (m : ℕ) → HasNumber s p m → level_of p ≡ get_or levels m 0
  unfolding level_of
  level_is p m h = ap (λ o. get_or levels (unwrap_or o 0) 0) h.number

  pins_below : (k : ℕ) (p : Pin) (m : ℕ) → HasNumber s p m → get_or levels m 0 ≡ k → k + 1 ≤ count_by (λ q. nat_lt (level_of q) (k + 1)) (pins s.design)
  pins_below zero p m h e =
      let is = level_is p m h in
      let some = counts_in (λ q. nat_lt (level_of q) (0 + 1)) (pins s.design) p h.within (lt-ltb (level_of p) (0 + 1) (omega arith)) in
      omega arith
  pins_below (suc k) p m h e =
      let b = level_below (length s.pins) (pin_links s) levels are m k h.below (omega arith) in
      let l = links_lead s num linked (record { from = b.from; to = m }) b.link in
      let rest = pins_below k l.from b.from l.from_number b.level in
      let is = level_is p m h in
      let here = counts_in (λ q. level_of q == (k + 1)) (pins s.design) p h.within (eq-eqb (level_of p) (k + 1) (omega arith)) in
      let parts = count_split (λ q. nat_lt (level_of q) (suc k + 1)) (λ q. nat_lt (level_of q) (k + 1)) (λ q. level_of q == (k + 1))
      (λ q. below_next (level_of q) (k + 1) (suc k + 1) (omega arith)) (pins s.design) in
      omega arith

  pub level_short : (p : Pin) (m : ℕ) → HasNumber s p m → get_or levels m 0 < length (pins s.design)
  level_short p m h =
      let many = pins_below (get_or levels m 0) p m h refl in
      let few = count_by-le-length (λ q. nat_lt (level_of q) (get_or levels m 0 + 1)) (pins s.design) in
      omega arith
