-- The arcs of a cone by places: from higher places to lower ones, one between two nodes, with the
-- delays of the definition.

use Rattle.std.proofs.Common.{◌≡◌, ℕ, zero, suc, ◌+◌, ◌<◌, ◌≤◌, ℤ, Bool, true, false, ◌||◌, if◌then◌else◌, cond, List, [], ◌∷◌, length, get_or, Option, None, Some, refl, sym, ap, subst, ◌∙◌, inl, inr, arith}
use Rattle.std.specs.Prelude.{nat_eq, All, Contains, position, slice_index, option_map, option_and_then, count_by}
use Rattle.std.specs.List.{list_any, filter_map, cons_option, position_or_len}
use Rattle.std.proofs.lemmas.Bool.{cases_Bool, cases_eq, eqb-true, eq-eqb, ne_eqb, false≢true, lt-ltb}
use Rattle.std.proofs.lemmas.Option.{none-some}
use Rattle.std.proofs.lemmas.List.Elements.{All-contains_itself}
use Rattle.std.proofs.lemmas.List.Folds.{list_any_at}
use Rattle.std.proofs.lemmas.List.Quantifiers.{position-Some}
use Rattle.std.proofs.lemmas.List.Sums.{sum_by-cons}
use Rattle.sta_units.specs.Numbers.{Within}
use Rattle.timing_defs.specs.declared.kinds.Kind.{Kind}
use Rattle.timing_defs.specs.Kinds.{data_split}
use Rattle.netlist_store.specs.Numbering.{Stored}
use Rattle.pin_graph.specs.declared.arcs.GraphArc.{GraphArc}
use Rattle.timing_defs.proofs.Members.{some_is, any_back, in_filter_map_back}
use Rattle.worst_walks.specs.declared.cones.WalkArc.{WalkArc}
use Rattle.worst_walks.specs.Walks.{delay_in, AreApart}
use Rattle.path_cones.specs.Reaching.{is_among, AreOnce}
use Rattle.arc_delays.specs.Delays.{delay_numbered}
use Rattle.path_cones.specs.Delays.{signed, walk_arc}
use Rattle.path_cones.specs.FanIns.{IsFromAbove}

-- places of nodes
pub among_at : (nodes : List ℕ) (a : ℕ) → a < length nodes → is_among nodes (slice_index nodes a) ≡ true
among_at nodes a low = list_any_at (nat_eq (slice_index nodes a)) nodes a 0 low (eq-eqb (slice_index nodes a) (slice_index nodes a) refl)

placed_at : (nodes : List ℕ) (x p : ℕ) → position (λ n. nat_eq x n) nodes ≡ Some p → (p < length nodes) × (slice_index nodes p ≡ x)
placed_at nodes x p e = let r = position-Some (λ n. nat_eq x n) nodes p 0 e in (r.0, sym (eqb-true x (slice_index nodes p) r.1))

low_place : (x : ℕ) (nodes : List ℕ) → is_among nodes x ≡ true → position_or_len (λ n. nat_eq x n) nodes < length nodes
low_place x [] h = absurd (false≢true h)
low_place x (n ∷ ns) h = elim (cases_Bool (nat_eq x n)) [
  | inl e ↦ rw e (omega arith)
  | inr e ↦ let rest = low_place x ns (ap (λ b. b || list_any (nat_eq x) ns) (sym e) ∙ h) in rw e (omega (arith, rest))
]

place_is : (nodes : List ℕ) (x a : ℕ) → AreOnce nodes → a < length nodes → slice_index nodes a ≡ x → position (λ n. nat_eq x n) nodes ≡ Some a
place_is nodes x a once low e =
    let found = low_place x nodes (subst (λ y. is_among nodes y ≡ true) e (among_at nodes a low)) in
    let there : position (λ n. nat_eq x n) nodes ≡ Some (position_or_len (λ n. nat_eq x n) nodes) =
    rw (lt-ltb (position_or_len (λ n. nat_eq x n) nodes) (length nodes) found) refl in
    let r = placed_at nodes x (position_or_len (λ n. nat_eq x n) nodes) there in
    there ∙ ap Some (once (position_or_len (λ n. nat_eq x n) nodes) a found low (r.1 ∙ sym e))

pub counted : {X : Type 0} (test : X → Bool) (x : X) (xs : List X) → count_by test (x ∷ xs) ≡ cond (test x) 1 0 + count_by test xs
counted test x xs = sum_by-cons (λ y. cond (test y) 1 0) x xs

pub counted_in : {X : Type 0} (test : X → Bool) (xs : List X) (x : X) → Contains xs x → test x ≡ true → 1 ≤ count_by test xs
counted_in test [] x (i, low, is) e = absurd (omega (arith, low))
counted_in test (y ∷ ys) x (zero, low, is) e =
    let a = counted test y ys in
    let b : cond {A = ℕ} (test y) 1 0 ≡ 1 = ap (λ t. cond {A = ℕ} t 1 0) (ap test is ∙ e) in
    omega (arith, a, b)
counted_in test (y ∷ ys) x (suc i, low, is) e =
    let a = counted test y ys in
    let rest = counted_in test ys x (i, omega (arith, low), is) e in
    omega (arith, a, rest)

-- an arc from a place, by its delay
abbrev told_arc : Kind → ℕ → ℤ → WalkArc
told_arc kind a v = record { from = a; delay = signed kind v }

module _ (s : Stored) (kind : Kind) (nodes : List ℕ) (once : AreOnce nodes) where
  -- an arc by places is that of an arc of the graph
  record IsWalkArc (arc : GraphArc) (w : WalkArc) : Type 0 where
    pub place : w.from < length nodes
    pub node : slice_index nodes w.from ≡ arc.from
    pub delay : ℤ
    pub told : delay_numbered s (data_split kind) arc.from arc.to ≡ Some delay
    pub turned : w.delay ≡ signed kind delay

  walked : (arc : GraphArc) (w : WalkArc) → walk_arc s kind nodes arc ≡ Some w → IsWalkArc arc w
  walked arc w e = by (delay_numbered s (data_split kind) arc.from arc.to) refl (position (λ n. nat_eq arc.from n) nodes) refl e
    where
      by : (o : Option ℤ) → delay_numbered s (data_split kind) arc.from arc.to ≡ o → (q : Option ℕ) → position (λ n. nat_eq arc.from n) nodes ≡ q
          → option_and_then (λ delay. option_map (λ place. told_arc kind place delay) q) o ≡ Some w → IsWalkArc arc w
      by None d q p f = absurd (none-some w f)
      by (Some v) d None p f = absurd (none-some w f)
      by (Some v) d (Some a) p f =
          let at = placed_at nodes arc.from a p in
          let same : ◌≡◌ {A = WalkArc} (record { from = a; delay = signed kind v }) w = some_is f in
          let from : a ≡ w.from = ap (λ (x : WalkArc). x.from) same in
          record {
            place = subst (λ k. k < length nodes) from at.0;
            node = ap (slice_index nodes) (sym from) ∙ at.1;
            delay = v;
            told = d;
            turned = sym (ap (λ (x : WalkArc). x.delay) same);
          }

  walk_is : (arc : GraphArc) (a : ℕ) → a < length nodes → slice_index nodes a ≡ arc.from
      → walk_arc s kind nodes arc ≡ option_map (told_arc kind a) (delay_numbered s (data_split kind) arc.from arc.to)
  walk_is arc a low e =
      ap (λ q. option_and_then (λ delay. option_map (λ place. told_arc kind place delay) q) (delay_numbered s (data_split kind) arc.from arc.to))
      (place_is nodes arc.from a once low e)
      ∙ by (delay_numbered s (data_split kind) arc.from arc.to)
    where
      by : (o : Option ℤ) → option_and_then (λ delay. option_map (λ place. told_arc kind place delay) (Some a)) o
          ≡ option_map (told_arc kind a) o
      by None = refl
      by (Some v) = refl

  -- arcs from higher places, with delays within their limit
  pub above_part : (b : ℕ) (arcs : List GraphArc)
      → ((arc : GraphArc) → Contains arcs arc → (a : ℕ) → a < length nodes → slice_index nodes a ≡ arc.from → b < a)
      → ((arc : GraphArc) → Contains arcs arc → (v : ℤ) → delay_numbered s (data_split kind) arc.from arc.to ≡ Some v → Within (signed kind v))
      → All (IsFromAbove (length nodes) b) (filter_map (walk_arc s kind nodes) arcs)
  above_part b arcs high fine = λ i d l.
      let w = get_or (filter_map (walk_arc s kind nodes) arcs) i d in
      let r = in_filter_map_back (walk_arc s kind nodes) arcs w (All-contains_itself (filter_map (walk_arc s kind nodes) arcs) i d l) in
      let k = walked r.item w r.same in
      (high r.item r.within w.from k.place k.node, k.place, subst (λ (z : ℤ). Within z) (sym k.turned) (fine r.item r.within k.delay k.told))

  -- one arc for each place
  pub apart_part : (arcs : List GraphArc) → ((other : ℕ) → count_by (λ arc. nat_eq arc.from other) arcs ≤ 1) → AreApart (filter_map (walk_arc s kind nodes) arcs)
  apart_part [] one = tt
  apart_part (arc ∷ arcs) one = by (walk_arc s kind nodes arc) refl (apart_part arcs fewer)
    where
      fewer : (other : ℕ) → count_by (λ (x : GraphArc). nat_eq x.from other) arcs ≤ 1
      fewer other = let a = counted (λ (x : GraphArc). nat_eq x.from other) arc arcs in let h = one other in omega (arith, a, h)

      lone : (w : WalkArc) → walk_arc s kind nodes arc ≡ Some w → list_any (λ (other : WalkArc). nat_eq other.from w.from) (filter_map (walk_arc s kind nodes) arcs) ≡ false
      lone w e = elim (cases_Bool (list_any (λ (other : WalkArc). nat_eq other.from w.from) (filter_map (walk_arc s kind nodes) arcs))) [
        | inr none ↦ none
        | inl some ↦
            let r = any_back (λ (other : WalkArc). nat_eq other.from w.from) (filter_map (walk_arc s kind nodes) arcs) some in
            let m = in_filter_map_back (walk_arc s kind nodes) arcs r.item r.within in
            let k = walked m.item r.item m.same in
            let j = walked arc w e in
            let from : m.item.from ≡ arc.from = sym k.node ∙ ap (slice_index nodes) (eqb-true r.item.from w.from r.passes) ∙ j.node in
            let c = counted_in (λ (x : GraphArc). nat_eq x.from arc.from) arcs m.item m.within (eq-eqb m.item.from arc.from from) in
            let a = counted (λ (x : GraphArc). nat_eq x.from arc.from) arc arcs in
            let b : cond {A = ℕ} (nat_eq arc.from arc.from) 1 0 ≡ 1 = ap (λ t. cond {A = ℕ} t 1 0) (eq-eqb arc.from arc.from refl) in
            let h = one arc.from in
            absurd (omega (arith, a, b, c, h))
      ]

      by : (o : Option WalkArc) → walk_arc s kind nodes arc ≡ o → AreApart (filter_map (walk_arc s kind nodes) arcs)
          → AreApart (cons_option o (filter_map (walk_arc s kind nodes) arcs))
      by None e more = more
      by (Some w) e more = (lone w e, more)

  -- the delay from a place
  pub delay_part : (a x n : ℕ) (arcs : List GraphArc) → a < length nodes → slice_index nodes a ≡ x → ((arc : GraphArc) → Contains arcs arc → arc.to ≡ n)
      → delay_in (filter_map (walk_arc s kind nodes) arcs) a
      ≡ (if list_any (λ arc. nat_eq arc.from x) arcs then option_map (signed kind) (delay_numbered s (data_split kind) x n) else None)
  delay_part a x n [] low at to = refl
  delay_part a x n (arc ∷ arcs) low at to =
      let rest = delay_part a x n arcs low at (λ y c. to y (let l = c.1 in (suc c.0, omega (arith, l), c.2))) in
      elim (cases_eq arc.from x) [
        | inl same ↦ here rest same (delay_numbered s (data_split kind) x n) refl
        | inr other ↦ there rest other (walk_arc s kind nodes arc) refl
      ]
    where
      walk_here : arc.from ≡ x → walk_arc s kind nodes arc ≡ option_map (told_arc kind a) (delay_numbered s (data_split kind) x n)
      walk_here same =
          walk_is arc a low (at ∙ sym same)
          ∙ ap (λ f. option_map (told_arc kind a) (delay_numbered s (data_split kind) f arc.to)) same
          ∙ ap (λ t. option_map (told_arc kind a) (delay_numbered s (data_split kind) x t)) (to arc (0, omega arith, refl))

      nothing : (b : Bool) → ◌≡◌ {A = Option ℤ} (if b then None else None) None
      nothing true = refl
      nothing false = refl

      here : delay_in (filter_map (walk_arc s kind nodes) arcs) a ≡ (if list_any (λ (y : GraphArc). nat_eq y.from x) arcs then option_map (signed kind) (delay_numbered s (data_split kind) x n) else None)
          → arc.from ≡ x → (o : Option ℤ) → delay_numbered s (data_split kind) x n ≡ o
          → delay_in (cons_option (walk_arc s kind nodes arc) (filter_map (walk_arc s kind nodes) arcs)) a
          ≡ (if nat_eq arc.from x || list_any (λ (y : GraphArc). nat_eq y.from x) arcs then option_map (signed kind) (delay_numbered s (data_split kind) x n) else None)
      here rest same None d =
          ap (λ (w : Option WalkArc). delay_in (cons_option w (filter_map (walk_arc s kind nodes) arcs)) a)
          (walk_here same ∙ ap (option_map (told_arc kind a)) d)
          ∙ rest
          ∙ ap (λ o. if list_any (λ (y : GraphArc). nat_eq y.from x) arcs then option_map (signed kind) o else None) d
          ∙ nothing (list_any (λ (y : GraphArc). nat_eq y.from x) arcs)
          ∙ sym (ap (λ o. if nat_eq arc.from x || list_any (λ (y : GraphArc). nat_eq y.from x) arcs then option_map (signed kind) o else None) d
          ∙ nothing (nat_eq arc.from x || list_any (λ (y : GraphArc). nat_eq y.from x) arcs))
      here rest same (Some v) d =
          ap (λ (w : Option WalkArc). delay_in (cons_option w (filter_map (walk_arc s kind nodes) arcs)) a)
          (walk_here same ∙ ap (option_map (told_arc kind a)) d)
          ∙ ap (λ b. if b then Some (signed kind v) else delay_in (filter_map (walk_arc s kind nodes) arcs) a) (eq-eqb a a refl)
          ∙ sym (ap (λ o. if nat_eq arc.from x || list_any (λ (y : GraphArc). nat_eq y.from x) arcs then option_map (signed kind) o else None) d
          ∙ ap (λ b. if b || list_any (λ (y : GraphArc). nat_eq y.from x) arcs then Some (signed kind v) else None) (eq-eqb arc.from x same))

      there : delay_in (filter_map (walk_arc s kind nodes) arcs) a ≡ (if list_any (λ (y : GraphArc). nat_eq y.from x) arcs then option_map (signed kind) (delay_numbered s (data_split kind) x n) else None)
          → (arc.from ≡ x → ⊥) → (w : Option WalkArc) → walk_arc s kind nodes arc ≡ w
          → delay_in (cons_option w (filter_map (walk_arc s kind nodes) arcs)) a
          ≡ (if nat_eq arc.from x || list_any (λ (y : GraphArc). nat_eq y.from x) arcs then option_map (signed kind) (delay_numbered s (data_split kind) x n) else None)
      there rest other None e =
          rest ∙ ap (λ b. if b || list_any (λ (y : GraphArc). nat_eq y.from x) arcs then option_map (signed kind) (delay_numbered s (data_split kind) x n) else None)
          (sym (ne_eqb arc.from x other))
      there rest other (Some w) e =
          let k = walked arc w e in
          ap (λ b. if b then Some w.delay else delay_in (filter_map (walk_arc s kind nodes) arcs) a)
          (ne_eqb w.from a (λ q. other (sym k.node ∙ ap (slice_index nodes) q ∙ at)))
          ∙ rest ∙ ap (λ b. if b || list_any (λ (y : GraphArc). nat_eq y.from x) arcs then option_map (signed kind) (delay_numbered s (data_split kind) x n) else None)
          (sym (ne_eqb arc.from x other))
