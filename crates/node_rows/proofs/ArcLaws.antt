-- The outermost values of the arcs between two nodes of a cell, arc by arc.

use Rattle.std.proofs.Common.{◌≡◌, ℕ, zero, suc, ◌+◌, ◌<◌, ◌≤◌, ℤ, unsigned_abs, Bool, true, false, cond, ◌&&◌, List, [], ◌∷◌, filter, drop, length, get_or, Option, None, Some, refl, ap, sym, ◌∙◌, inl, inr, arith, add-one}
use Rattle.std.specs.Prelude.{int_lt}
use Rattle.std.specs.List.{list_all}
use Rattle.std.proofs.Math.Seq.{drop-cons}
use Rattle.std.proofs.lemmas.Bool.{cases_Bool, false≢true, and_parts, and_from, le-leb}
use Rattle.sta_units.specs.Numbers.{limit, is_within}
use Rattle.timing_defs.specs.declared.kinds.Split.{Split}
use Rattle.timing_defs.specs.declared.kinds.Split.TheVariants.{Early, Late}
use Rattle.timing_defs.specs.declared.library.CellArc.{CellArc}
use Rattle.timing_defs.specs.Lookup.{look}
use Rattle.timing_rules.specs.Rows.{outer, outer_some}
use Rattle.timing_rules.specs.Range.{within_some}
use Rattle.node_rows.specs.declared.arcs.ArcEnds.{ArcEnds}
use Rattle.node_rows.specs.declared.arcs.ArcValues.{ArcValues}
use Rattle.node_rows.specs.Between.{is_between, is_looked, outer_values, are_within}

pub more : {X : Type 0} (xs : List X) (i : ℕ) (x : X) → i < length xs → x ≡ get_or xs i x → drop i xs ≡ x ∷ drop (i + 1) xs
more xs i x low e = rw (add-one, drop-cons xs i x) (ap (λ y. y ∷ drop (suc i) xs) (sym e))

pub each_at : {X : Type 0} (p : X → Bool) (xs : List X) (i : ℕ) (x : X) → list_all p xs ≡ true → i < length xs → x ≡ get_or xs i x → p x ≡ true
each_at p [] i x all low e = absurd (omega arith)
each_at p (y ∷ ys) zero x all low e = ap p e ∙ (and_parts (p y) (list_all p ys) all).0
each_at p (y ∷ ys) (suc i) x all low e = each_at p ys i x (and_parts (p y) (list_all p ys) all).1 (omega arith) e

-- outer values within the limit
outer_within : (split : Split) (x y : ℤ) → is_within x ≡ true → is_within y ≡ true → is_within (outer split x y) ≡ true
outer_within Early x y h k = by (int_lt y x)
  where
    by : (b : Bool) → is_within (cond b y x) ≡ true
    by true = k
    by false = h
outer_within Late x y h k = by (int_lt y x)
  where
    by : (b : Bool) → is_within (cond b x y) ≡ true
    by true = h
    by false = k

pub outer_some_within : (split : Split) (a b : Option ℤ) → within_some a ≡ true → within_some b ≡ true → within_some (outer_some split a b) ≡ true
outer_some_within split None b h k = k
outer_some_within split (Some x) None h k = h
outer_some_within split (Some x) (Some y) h k = outer_within split x y h k

module _ (p q : CellArc → Bool) where
  pub fine_first : (arc : CellArc) (arcs : List CellArc) → list_all q (filter p (arc ∷ [])) ≡ true → list_all q (filter p (arc ∷ arcs)) ≡ list_all q (filter p arcs)
  fine_first arc arcs h = elim (cases_Bool (p arc)) [
    | inl e ↦
        let here : (q arc && true) ≡ true = rw e at h in
        rw e (ap (λ b. b && list_all q (filter p arcs)) (and_parts (q arc) true here).0)
    | inr e ↦ rw e refl
  ]

  pub wrong_first : (arc : CellArc) (arcs : List CellArc) → list_all q (filter p (arc ∷ [])) ≡ false → list_all q (filter p (arc ∷ arcs)) ≡ false
  wrong_first arc arcs h = elim (cases_Bool (p arc)) [
    | inl e ↦
        let here : (q arc && true) ≡ false = rw e at h in
        rw e (by (q arc) here)
    | inr e ↦
        let none : true ≡ false = rw e at h in
        absurd (false≢true (sym none))
  ]
    where
      by : (b : Bool) → (b && true) ≡ false → (b && list_all q (filter p arcs)) ≡ false
      by true h = absurd (false≢true (sym h))
      by false h = refl
      -- where each passes, the first does and so do the others

module _ (split : Split) (slew load : ℤ) (ends : ArcEnds) where
  -- the values after one arc more
  more_values : (best next : ArcValues) (arc : CellArc) (arcs : List CellArc) → next ≡ outer_values split slew load best (filter (is_between ends) (arc ∷ []))
      → outer_values split slew load next (filter (is_between ends) arcs) ≡ outer_values split slew load best (filter (is_between ends) (arc ∷ arcs))
  more_values best next arc arcs e = elim (cases_Bool (is_between ends arc)) [
    | inl h ↦
        let f : next ≡ outer_values split slew load best (arc ∷ []) = rw h at e in
        rw h (ap (λ v. outer_values split slew load v (filter (is_between ends) arcs)) f)
    | inr h ↦
        let f : next ≡ outer_values split slew load best [] = rw h at e in
        rw h (ap (λ v. outer_values split slew load v (filter (is_between ends) arcs)) f)
  ]

  more_within : (best next : ArcValues) (arc : CellArc) → next ≡ outer_values split slew load best (filter (is_between ends) (arc ∷ []))
      → list_all (is_looked slew load) (filter (is_between ends) (arc ∷ [])) ≡ true → are_within best ≡ true → are_within next ≡ true
  more_within best next arc e fine h = elim (cases_Bool (is_between ends arc)) [
    | inl b ↦
        let f : next ≡ outer_values split slew load best (arc ∷ []) = rw b at e in
        let g : (is_looked slew load arc && true) ≡ true = rw b at fine in
        let both = and_parts (is_within (look arc.slew slew load)) (is_within (look arc.delay slew load)) (and_parts (is_looked slew load arc) true g).0 in
        let had = and_parts (within_some best.slew) (within_some best.delay) h in
        ap are_within f
        ∙ and_from (within_some (outer_some split best.slew (Some (look arc.slew slew load)))) (within_some (outer_some split best.delay (Some (look arc.delay slew load))))
        (outer_some_within split best.slew (Some (look arc.slew slew load)) had.0 both.0)
        (outer_some_within split best.delay (Some (look arc.delay slew load)) had.1 both.1)
    | inr b ↦
        let f : next ≡ outer_values split slew load best [] = rw b at e in
        ap are_within f ∙ h
  ]

  -- what holds as the arcs from a place on are still to come
  pub record IsPassing (arcs : List CellArc) (start best : ArcValues) (i : ℕ) : Type 0 where
    pub values : outer_values split slew load best (filter (is_between ends) (drop i arcs)) ≡ outer_values split slew load start (filter (is_between ends) arcs)
    pub fine : list_all (is_looked slew load) (filter (is_between ends) (drop i arcs)) ≡ list_all (is_looked slew load) (filter (is_between ends) arcs)
    pub within : are_within best ≡ true

  pub passed : (arcs : List CellArc) (start best next : ArcValues) (i : ℕ) (arc : CellArc) → i < length arcs → arc ≡ get_or arcs i arc
      → next ≡ outer_values split slew load best (filter (is_between ends) (arc ∷ []))
      → list_all (is_looked slew load) (filter (is_between ends) (arc ∷ [])) ≡ true
      → IsPassing arcs start best i → IsPassing arcs start next (i + 1)
  passed arcs start best next i arc low at e fine p =
      let cut = more arcs i arc low at in
      record {
        values = more_values best next arc (drop (i + 1) arcs) e
            ∙ ap (λ xs. outer_values split slew load best (filter (is_between ends) xs)) (sym cut) ∙ p.values;
        fine = sym (fine_first (is_between ends) (is_looked slew load) arc (drop (i + 1) arcs) fine)
            ∙ ap (λ xs. list_all (is_looked slew load) (filter (is_between ends) xs)) (sym cut) ∙ p.fine;
        within = more_within best next arc e fine p.within;
      }

  pub failed : (arcs : List CellArc) (start best : ArcValues) (i : ℕ) (arc : CellArc) → i < length arcs → arc ≡ get_or arcs i arc
      → list_all (is_looked slew load) (filter (is_between ends) (arc ∷ [])) ≡ false
      → IsPassing arcs start best i → list_all (is_looked slew load) (filter (is_between ends) arcs) ≡ false
  failed arcs start best i arc low at wrong p =
      sym p.fine ∙ ap (λ xs. list_all (is_looked slew load) (filter (is_between ends) xs)) (more arcs i arc low at)
      ∙ wrong_first (is_between ends) (is_looked slew load) arc (drop (i + 1) arcs) wrong

-- an arc as looked up
pub first_wrong : (a b : Bool) → a ≡ false → (a && b) ≡ false
first_wrong true b h = absurd (false≢true (sym h))
first_wrong false b h = refl

pub second_wrong : (a b : Bool) → b ≡ false → (a && b) ≡ false
second_wrong true b h = h
second_wrong false b h = refl

pub both_values : (a b x y : ℤ) → a ≡ x → b ≡ y → ◌≡◌ {A = ArcValues} (record { slew = Some a; delay = Some b }) (record { slew = Some x; delay = Some y })
both_values a b x y h k = ap (λ (z : ℤ). record { slew = Some z; delay = Some b }) h ∙ ap (λ (z : ℤ). record { slew = Some x; delay = Some z }) k

pub within_of : (a x : ℤ) → a ≡ x → unsigned_abs a ≤ limit → is_within x ≡ true
within_of a x e h = sym (ap is_within e) ∙ le-leb (unsigned_abs a) limit h

-- an arc that leads from one node to the other
module _ (split : Split) (slew load : ℤ) (ends : ArcEnds) (arc : CellArc) (leads : is_between ends arc ≡ true) where
  pub leads_wrong : is_looked slew load arc ≡ false → list_all (is_looked slew load) (filter (is_between ends) (arc ∷ [])) ≡ false
  leads_wrong h = rw leads (ap (λ b. b && true) h)

  pub leads_fine : is_looked slew load arc ≡ true → list_all (is_looked slew load) (filter (is_between ends) (arc ∷ [])) ≡ true
  leads_fine h = rw leads (ap (λ b. b && true) h)

  pub leads_values : (best next told : ArcValues) → next ≡ record { slew = Some (look arc.slew slew load); delay = Some (look arc.delay slew load) }
      → told ≡ record { slew = outer_some split best.slew next.slew; delay = outer_some split best.delay next.delay }
      → told ≡ outer_values split slew load best (filter (is_between ends) (arc ∷ []))
  leads_values best next told e f =
      rw leads
      (f ∙ ap (λ (v : ArcValues). record { slew = outer_some split best.slew v.slew; delay = outer_some split best.delay v.delay }) e)
