-- A forest with one row more, and the loop that a resistor closes.
use Rattle.std.proofs.Common.{◌≡◌, ℕ, zero, suc, ◌+◌, ◌-◌, ◌<◌, ◌≤◌, ◌==◌, Bool, true, false, cond, ◌&&◌, ◌||◌, List, [], ◌∷◌, ◌++◌, map, length, get_or, set, take, replicate, Option, None, Some, is_some, is_none, count_by, refl, ap, sym, subst, ◌∙◌, arith, inl, inr, ◌⊎◌, append_assoc, append-nil}
use Rattle.std.specs.List.{AllByRecursion}
use Rattle.std.proofs.lemmas.Bool.{false≢true, cases_lt, cases_eq, eqb-true, eq-eqb}
use Rattle.std.proofs.lemmas.List.{length-append, length-replicate, length-set, get_or_append_left, get_or_push, get_or-set_same, get_or-set_other, take_more, map-append, take_all}
use Rattle.std.proofs.lemmas.List.Sums.{sum_by-set, sum_by-cons}
use Rattle.std.proofs.lemmas.Option.{none-some}
use Rattle.timing_defs.specs.declared.parasitics.RcNode.{RcNode}
use Rattle.timing_defs.specs.declared.parasitics.RcRes.{RcRes}
use Rattle.rc_tree.specs.declared.segments.Segment.{Segment}
use Rattle.rc_tree.specs.declared.forests.Row.{Row}
use Rattle.rc_tree.specs.declared.forests.Forest.{Forest}
use Rattle.rc_tree.specs.Numbering.{node_at, AreApart}
use Rattle.rc_tree.specs.Growth.{wired, AreSegments, no_segment, segment_at, no_row, row_at, up_of, place_of, Links, Touches, IsUsed, IsLinkedTo, IsGrown, IsSpread, IsLonger, IsDone, is_used_at}
use Rattle.rc_tree.specs.Loops.{IsPart, IsGrownBy, IsReady, is_looped, IsAmong, IsVisited, AreVisited, IsFurther, IsFound, AreIndexed, AreIndexes}
use Rattle.rc_tree.proofs.Forest.{up_to, IsForest, loop_found}

some_same : {X : Type 0} (a b : X) → Some a ≡ Some b → a ≡ b
some_same a b e = cc

row_left : (rows more : List Row) (j : ℕ) → j < length rows → row_at (rows ++ more) j ≡ row_at rows j
row_left rows more j l = get_or_append_left rows more no_row j l

row_new : (rows : List Row) (row : Row) → row_at (rows ++ row ∷ []) (length rows) ≡ row
row_new rows row = get_or_push rows row no_row (length rows) refl

pub used_more : (rows more : List Row) (k : ℕ) → IsUsed rows k → IsUsed (rows ++ more) k
used_more rows more k u =
    let e : row_at (rows ++ more) u.0 ≡ row_at rows u.0 = row_left rows more u.0 u.1.1 in
    let wide : u.0 < length (rows ++ more) = (let l : u.0 < length rows = u.1.1 in let m = length-append rows more in omega arith) in
    (u.0, (u.1.0, wide, ap (λ (r : Row). r.parent) e ∙ u.1.2, ap (λ (r : Row). r.segment) e ∙ u.1.3))

-- a row that begins a part, or hangs on a place
abbrev pub IsNewRow : List Segment → List Row → Row → Type 0
IsNewRow segments rows row =
    ((row.parent ≡ None) × (row.home ≡ length rows))
    ⊎ ((p : ℕ) × (row.parent ≡ Some p) × (p < length rows) × IsLinkedTo segments rows row p × (row.home ≡ (row_at rows p).home))

module _ (segments : List Segment) (count : ℕ) (f f' : Forest) (row : Row) (g : IsGrown segments count f) (within : row.node < count) (free : place_of f row.node ≡ None)
    (new : IsNewRow segments f.rows.items row) (er : f'.rows.items ≡ f.rows.items ++ row ∷ []) (ep : f'.places.items ≡ set f.places.items row.node (Some (length f.rows.items))) where
  many : length f'.rows.items ≡ suc (length f.rows.items)
  many = ap length er ∙ length-append f.rows.items (row ∷ []) ∙ (let e : length f.rows.items + 1 ≡ suc (length f.rows.items) = omega arith in e)

  old_row : (j : ℕ) → j < length f.rows.items → row_at f'.rows.items j ≡ row_at f.rows.items j
  old_row j l = ap (λ rs. row_at rs j) er ∙ row_left f.rows.items (row ∷ []) j l

  last_row : row_at f'.rows.items (length f.rows.items) ≡ row
  last_row = ap (λ rs. row_at rs (length f.rows.items)) er ∙ row_new f.rows.items row

  place_new : place_of f' row.node ≡ Some (length f.rows.items)
  place_new =
      let size = g.sized in
      ap (λ ps. get_or ps row.node None) ep ∙ get_or-set_same f.places.items row.node (Some (length f.rows.items)) None (omega arith)

  place_old : (u : ℕ) → (u ≡ row.node → ⊥) → place_of f' u ≡ place_of f u
  place_old u un = ap (λ ps. get_or ps u None) ep ∙ get_or-set_other f.places.items row.node u (Some (length f.rows.items)) None un

  which : (j : ℕ) → j < length f'.rows.items → (j < length f.rows.items) ⊎ (j ≡ length f.rows.items)
  which j l = (let m = many in elim (cases_lt j (length f.rows.items)) [ inl less ↦ inl less | inr more ↦ inr (omega arith) ])

  abbrev Placed : ℕ → Row → Type 0
  Placed j r = (r.node < count) × (place_of f' r.node ≡ Some j)

  placed' : (j : ℕ) → (j < length f.rows.items) ⊎ (j ≡ length f.rows.items) → Placed j (row_at f'.rows.items j)
  placed' j (inl l) =
      let p = g.placed j l in
      subst (Placed j) (sym (old_row j l))
      (p.0, place_old (row_at f.rows.items j).node (λ e. none-some j (sym free ∙ ap (place_of f) (sym e) ∙ p.1)) ∙ p.1)
  placed' j (inr e) =
      subst (λ k. Placed k (row_at f'.rows.items k)) (sym e) (subst (Placed (length f.rows.items)) (sym last_row) (within, place_new))

  back' : (u j : ℕ) → place_of f' u ≡ Some j → (j < length f'.rows.items) × ((row_at f'.rows.items j).node ≡ u)
  back' u j h = elim (cases_eq u row.node) [
    | inl e ↦
        let same : length f.rows.items ≡ j = some_same (length f.rows.items) j (sym place_new ∙ ap (place_of f') (sym e) ∙ h) in
        let m = many in
        (omega arith, subst (λ k. (row_at f'.rows.items k).node ≡ u) same (ap (λ (r : Row). r.node) last_row ∙ sym e))
    | inr un ↦
        let b = g.back u j (sym (place_old u un) ∙ h) in
        let l : j < length f.rows.items = b.0 in
        let m = many in
        (omega arith, ap (λ (r : Row). r.node) (old_row j l) ∙ b.1)
  ]

  hangs : (p : ℕ) → row.parent ≡ Some p → (p < length f.rows.items) × IsLinkedTo segments f.rows.items row p × (row.home ≡ (row_at f.rows.items p).home)
  hangs p e = by new
    where
      by : IsNewRow segments f.rows.items row → (p < length f.rows.items) × IsLinkedTo segments f.rows.items row p × (row.home ≡ (row_at f.rows.items p).home)
      by (inl x) = absurd (none-some p (sym x.0 ∙ e))
      by (inr x) =
          let same : x.0 ≡ p = some_same x.0 p (sym x.1 ∙ e) in
          (subst (λ q. q < length f.rows.items) same x.2, subst (IsLinkedTo segments f.rows.items row) same x.3, x.4 ∙ ap (λ q. (row_at f.rows.items q).home) same)

  abbrev Hangs : ℕ → ℕ → Row → Type 0
  Hangs j p r = (p < j) × IsLinkedTo segments f'.rows.items r p × (r.home ≡ (row_at f'.rows.items p).home)

  linked_same : (r : Row) (p : ℕ) → p < length f.rows.items → IsLinkedTo segments f.rows.items r p → IsLinkedTo segments f'.rows.items r p
  linked_same r p l x = (x.0, subst (λ (q : Row). Links (segment_at segments r.segment) q.node r.node) (sym (old_row p l)) x.1, x.2)

  hangs' : (j p : ℕ) → (j < length f.rows.items) ⊎ (j ≡ length f.rows.items) → up_of f'.rows.items j ≡ Some p → Hangs j p (row_at f'.rows.items j)
  hangs' j p (inl l) u =
      let u' : up_of f.rows.items j ≡ Some p = sym (ap (λ (r : Row). r.parent) (old_row j l)) ∙ u in
      let low : p < j = g.rising j p l u' in
      let lp : p < length f.rows.items = omega arith in
      subst (Hangs j p) (sym (old_row j l))
      (low, linked_same (row_at f.rows.items j) p lp (g.linked j p l u'), g.same_home j p l u' ∙ sym (ap (λ (r : Row). r.home) (old_row p lp)))
  hangs' j p (inr e) u =
      let u' : row.parent ≡ Some p = sym (ap (λ (r : Row). r.parent) last_row) ∙ ap (λ k. up_of f'.rows.items k) (sym e) ∙ u in
      let h = hangs p u' in
      let lp : p < length f.rows.items = h.0 in
      let made : Hangs j p row = (omega arith, linked_same row p lp h.1, h.2 ∙ sym (ap (λ (r : Row). r.home) (old_row p lp))) in
      subst (λ k. Hangs j p (row_at f'.rows.items k)) (sym e) (subst (Hangs j p) (sym last_row) made)

  own' : (j : ℕ) → (j < length f.rows.items) ⊎ (j ≡ length f.rows.items) → up_of f'.rows.items j ≡ None → (row_at f'.rows.items j).home ≡ j
  own' j (inl l) u =
      ap (λ (r : Row). r.home) (old_row j l) ∙ g.own_home j l (sym (ap (λ (r : Row). r.parent) (old_row j l)) ∙ u)
  own' j (inr e) u = by new
    where
      u' : row.parent ≡ None
      u' = sym (ap (λ (r : Row). r.parent) last_row) ∙ ap (λ k. up_of f'.rows.items k) (sym e) ∙ u

      by : IsNewRow segments f.rows.items row → (row_at f'.rows.items j).home ≡ j
      by (inl x) = ap (λ k. (row_at f'.rows.items k).home) e ∙ ap (λ (r : Row). r.home) last_row ∙ x.1 ∙ sym e
      by (inr x) = absurd (none-some x.0 (sym u' ∙ x.1))

  low' : (j : ℕ) → (j < length f.rows.items) ⊎ (j ≡ length f.rows.items) → (row_at f'.rows.items j).home ≤ j
  low' j (inl l) = (let a = g.low_home j l in let e : (row_at f'.rows.items j).home ≡ (row_at f.rows.items j).home = ap (λ (r : Row). r.home) (old_row j l) in omega arith)
  low' j (inr e) = by new
    where
      h : (row_at f'.rows.items j).home ≡ row.home
      h = ap (λ k. (row_at f'.rows.items k).home) e ∙ ap (λ (r : Row). r.home) last_row

      by : IsNewRow segments f.rows.items row → (row_at f'.rows.items j).home ≤ j
      by (inl x) = (let a : row.home ≡ length f.rows.items = x.1 in let b = h in omega arith)
      by (inr x) =
          let l : x.0 < length f.rows.items = x.2 in
          let low = g.low_home x.0 l in
          let a : row.home ≡ (row_at f.rows.items x.0).home = x.4 in
          let b = h in
          omega arith

  room' : count_by is_none f'.places.items + length f'.rows.items ≡ count
  room' =
      let size = g.sized in
      let old = g.room in
      let m = many in
      let s : count_by is_none (set f.places.items row.node (Some (length f.rows.items))) + cond (is_none (place_of f row.node)) 1 0 ≡ count_by is_none f.places.items + 0 =
      sum_by-set (λ (o : Option ℕ). cond (is_none o) 1 0) f.places.items row.node (Some (length f.rows.items)) None (let w = within in omega arith) in
      let one : cond {A = ℕ} (is_none (place_of f row.node)) 1 0 ≡ 1 = ap (λ (o : Option ℕ). cond {A = ℕ} (is_none o) 1 0) free in
      let now : count_by is_none f'.places.items ≡ count_by is_none (set f.places.items row.node (Some (length f.rows.items))) = ap (count_by is_none) ep in
      omega arith

  pub grown_push : IsGrown segments count f'
  grown_push = record {
    sized = ap length ep ∙ length-set f.places.items row.node (Some (length f.rows.items)) ∙ g.sized;
    room = room';
    placed = λ j l. placed' j (which j l);
    back = back';
    rising = λ j p l u. (hangs' j p (which j l) u).0;
    linked = λ j p l u. (hangs' j p (which j l) u).1;
    same_home = λ j p l u. (hangs' j p (which j l) u).2;
    own_home = λ j l u. own' j (which j l) u;
    low_home = λ j l. low' j (which j l);
  }

  spread_push : (h : ℕ) → h ≤ length f.rows.items → IsSpread segments h f → IsSpread segments h f'
  spread_push h lh s i k li lk t =
      let l : i < length f.rows.items = omega arith in
      subst (λ rs. IsUsed rs k) (sym er)
      (used_more f.rows.items (row ∷ []) k (s i k li lk (subst (λ (r : Row). Touches (segment_at segments k) r.node) (old_row i l) t)))

  -- a place that is reached from the place `h`
  pub reached : (h home k : ℕ) → IsPart segments count h home f → h < length f.rows.items → row.parent ≡ Some h → row.segment ≡ k → row.home ≡ home
      → IsGrownBy segments count h home f f' × IsUsed f'.rows.items k
  reached h home k part lh up seg own = (
    record {
      part = record {
        grown = grown_push;
        spread = spread_push h (omega arith) part.spread;
        recent = λ x lx ux. recent x lx (which x ux);
      };
      longer = (row ∷ [], er);
    },
    (length f.rows.items, (h, (let m = many in omega arith), ap (λ (r : Row). r.parent) last_row ∙ up, ap (λ (r : Row). r.segment) last_row ∙ seg)),
  )
    where
      recent : (x : ℕ) → h ≤ x → (x < length f.rows.items) ⊎ (x ≡ length f.rows.items) → (row_at f'.rows.items x).home ≡ home
      recent x lx (inl l) = ap (λ (r : Row). r.home) (old_row x l) ∙ part.recent x lx l
      recent x lx (inr e) = ap (λ k. (row_at f'.rows.items k).home) e ∙ ap (λ (r : Row). r.home) last_row ∙ own

  -- a place that begins a part
  pub begun : (home : ℕ) → IsPart segments count (length f.rows.items) home f → row.home ≡ length f.rows.items
      → IsPart segments count (length f.rows.items) (length f.rows.items) f'
  begun home part own = record {
    grown = grown_push;
    spread = spread_push (length f.rows.items) (omega arith) part.spread;
    recent = λ x lx ux. recent x lx (which x ux);
  }
    where
      recent : (x : ℕ) → length f.rows.items ≤ x → (x < length f.rows.items) ⊎ (x ≡ length f.rows.items) → (row_at f'.rows.items x).home ≡ length f.rows.items
      recent x lx (inl l) = absurd (omega arith)
      recent x lx (inr e) = ap (λ k. (row_at f'.rows.items k).home) e ∙ ap (λ (r : Row). r.home) last_row ∙ own

-- a place that is done
pub advanced : (segments : List Segment) (count h home : ℕ) (f : Forest) → IsPart segments count h home f
    → ((k : ℕ) → k < length segments → Touches (segment_at segments k) (row_at f.rows.items h).node → IsUsed f.rows.items k) → IsPart segments count (suc h) home f
advanced segments count h home f part all = record {
  grown = part.grown;
  spread = λ i k li lk t. by i k (cases_lt i h) li lk t;
  recent = λ x lx ux. part.recent x (omega arith) ux;
}
  where
    by : (i k : ℕ) → (i < h) ⊎ (h ≤ i) → i < suc h → k < length segments → Touches (segment_at segments k) (row_at f.rows.items i).node → IsUsed f.rows.items k
    by i k (inl l) li lk t = part.spread i k l lk t
    by i k (inr m) li lk t =
        let same : i ≡ h = omega arith in
        all k lk (subst (λ x. Touches (segment_at segments k) (row_at f.rows.items x).node) same t)

-- a forest of nodes that differ, as walks see it
abbrev pub resistor : List RcNode → List Segment → ℕ → RcRes
resistor nodes segments k = wired nodes (segment_at segments k)

abbrev pub node_of : List RcNode → Forest → ℕ → RcNode
node_of nodes f j = node_at nodes (row_at f.rows.items j).node

pub forest_of : (nodes : List RcNode) (segments : List Segment) (f : Forest) → AreApart nodes → IsGrown segments (length nodes) f
    → IsForest (resistor nodes segments) (node_of nodes f) (up_of f.rows.items) (λ j. (row_at f.rows.items j).segment) (λ j. (row_at f.rows.items j).home) (length segments) (length f.rows.items)
forest_of nodes segments f apart g = record {
  apart = λ i j li lj e.
      let a = g.placed i li in
      let b = g.placed j lj in
      let same = apart (row_at f.rows.items i).node (row_at f.rows.items j).node a.0 b.0 e in
      some_same i j (sym a.1 ∙ ap (place_of f) same ∙ b.1);
  rising = g.rising;
  joined = λ j p l u. by j p (g.linked j p l u).1;
  inside = λ j p l u. (g.linked j p l u).0;
  same_home = g.same_home;
  own_home = g.own_home;
  low_home = g.low_home;
}
  where
    by : (j p : ℕ) → Links (segment_at segments (row_at f.rows.items j).segment) (row_at f.rows.items p).node (row_at f.rows.items j).node
        → ((node_at nodes (segment_at segments (row_at f.rows.items j).segment).a ≡ node_of nodes f p) × (node_at nodes (segment_at segments (row_at f.rows.items j).segment).b ≡ node_of nodes f j))
        ⊎ ((node_at nodes (segment_at segments (row_at f.rows.items j).segment).a ≡ node_of nodes f j) × (node_at nodes (segment_at segments (row_at f.rows.items j).segment).b ≡ node_of nodes f p))
    by j p (inl x) = inl (ap (node_at nodes) x.0, ap (node_at nodes) x.1)
    by j p (inr x) = inr (ap (node_at nodes) x.0, ap (node_at nodes) x.1)

taken_up : {X Y : Type 0} (g : X → Y) (xs : List X) (d : X) (m : ℕ) → m ≤ length xs → map (λ k. g (get_or xs k d)) (up_to m) ≡ map g (take m xs)
taken_up g xs d zero l = refl
taken_up g xs d (suc m) l =
    map-append (λ k. g (get_or xs k d)) (up_to m) (m ∷ [])
    ∙ ap (λ ys. ys ++ g (get_or xs m d) ∷ []) (taken_up g xs d m (omega arith))
    ∙ sym (map-append g (take m xs) (get_or xs m d ∷ []))
    ∙ ap (map g) (sym (take_more xs m d (omega arith)) ∙ ap (λ k. take k xs) (let e : m + 1 ≡ suc m = omega arith in e))

pub resistors_are : (nodes : List RcNode) (segments : List Segment) → map (resistor nodes segments) (up_to (length segments)) ≡ map (wired nodes) segments
resistors_are nodes segments =
    taken_up (wired nodes) segments no_segment (length segments) (omega arith) ∙ ap (map (wired nodes)) (take_all (length segments) segments (omega arith))

-- a segment between two places that leads to no parent closes a loop
module _ (segments : List Segment) (count h home : ℕ) (f : Forest) (part : IsPart segments count h home f) (lh : h < length f.rows.items)
    (k far x : ℕ) (lk : k < length segments) (ends : Links (segment_at segments k) far (row_at f.rows.items h).node) (there : place_of f far ≡ Some x)
    (first : is_used_at f.rows.items k h ≡ false) (second : is_used_at f.rows.items k x ≡ false) where
  at_x : (x < length f.rows.items) × ((row_at f.rows.items x).node ≡ far)
  at_x = part.grown.back far x there

  one_place : (j i : ℕ) → j < length f.rows.items → i < length f.rows.items → (row_at f.rows.items j).node ≡ (row_at f.rows.items i).node → j ≡ i
  one_place j i lj li e = some_same j i (sym (part.grown.placed j lj).1 ∙ ap (place_of f) e ∙ (part.grown.placed i li).1)

  used_at : (j p : ℕ) → up_of f.rows.items j ≡ Some p → (row_at f.rows.items j).segment ≡ k → is_used_at f.rows.items k j ≡ true
  used_at j p u s = rw (u, eq-eqb (row_at f.rows.items j).segment k s) refl

  unused : IsUsed f.rows.items k → ⊥
  unused u = by (subst (λ y. Links (segment_at segments y) (row_at f.rows.items u.1.0).node (row_at f.rows.items u.0).node) u.1.3 (part.grown.linked u.0 u.1.0 u.1.1 u.1.2).1) ends
    where
      at_h : (row_at f.rows.items u.0).node ≡ (row_at f.rows.items h).node → ⊥
      at_h e =
          let same = one_place u.0 h u.1.1 lh e in
          false≢true (sym first ∙ subst (λ j. is_used_at f.rows.items k j ≡ true) same (used_at u.0 u.1.0 u.1.2 u.1.3))

      at_far : (row_at f.rows.items u.0).node ≡ far → ⊥
      at_far e =
          let same = one_place u.0 x u.1.1 at_x.0 (e ∙ sym at_x.1) in
          false≢true (sym second ∙ subst (λ j. is_used_at f.rows.items k j ≡ true) same (used_at u.0 u.1.0 u.1.2 u.1.3))

      by : Links (segment_at segments k) (row_at f.rows.items u.1.0).node (row_at f.rows.items u.0).node → Links (segment_at segments k) far (row_at f.rows.items h).node → ⊥
      by (inl a) (inl b) = at_h (sym a.1 ∙ b.1)
      by (inl a) (inr b) = at_far (sym a.1 ∙ b.1)
      by (inr a) (inl b) = at_far (sym a.0 ∙ b.0)
      by (inr a) (inr b) = at_h (sym a.0 ∙ b.0)

  touch_x : Links (segment_at segments k) far (row_at f.rows.items h).node → Touches (segment_at segments k) (row_at f.rows.items x).node
  touch_x (inl a) = inl (a.0 ∙ sym at_x.1)
  touch_x (inr a) = inr (a.1 ∙ sym at_x.1)

  same_part : (row_at f.rows.items x).home ≡ (row_at f.rows.items h).home
  same_part = elim (cases_lt x h) [
    | inl less ↦ absurd (unused (part.spread x k less lk (touch_x ends)))
    | inr more ↦ part.recent x more at_x.0 ∙ sym (part.recent h (omega arith) lh)
  ]

  pub loop_here : (nodes : List RcNode) → AreApart nodes → length nodes ≡ count → is_looped (map (wired nodes) segments) ≡ true
  loop_here nodes apart size =
      subst (λ ress. is_looped ress ≡ true) (resistors_are nodes segments) (by ends)
    where
      g : IsGrown segments (length nodes) f
      g = subst (λ c. IsGrown segments c f) (sym size) part.grown

      by : Links (segment_at segments k) far (row_at f.rows.items h).node → is_looped (map (resistor nodes segments) (up_to (length segments))) ≡ true
      by (inl a) =
          loop_found (resistor nodes segments) (node_of nodes f) (up_of f.rows.items) (λ j. (row_at f.rows.items j).segment) (λ j. (row_at f.rows.items j).home) (length segments) (length f.rows.items)
          (forest_of nodes segments f apart g) k x h lk at_x.0 lh (ap (node_at nodes) (a.0 ∙ sym at_x.1)) (ap (node_at nodes) a.1) same_part unused
      by (inr a) =
          loop_found (resistor nodes segments) (node_of nodes f) (up_of f.rows.items) (λ j. (row_at f.rows.items j).segment) (λ j. (row_at f.rows.items j).home) (length segments) (length f.rows.items)
          (forest_of nodes segments f apart g) k h x lk lh at_x.0 (ap (node_at nodes) a.0) (ap (node_at nodes) (a.1 ∙ sym at_x.1)) (sym same_part) unused

and_left : (a b : Bool) → (a && b) ≡ true → a ≡ true
and_left true b h = refl
and_left false b h = h

and_right : (a b : Bool) → (a && b) ≡ true → b ≡ true
and_right true b h = h
and_right false b h = absurd (false≢true h)

pub used_from : (rows : List Row) (k j : ℕ) → j < length rows → is_used_at rows k j ≡ true → IsUsed rows k
used_from rows k j l h = by (up_of rows j) refl
  where
    by : (o : Option ℕ) → up_of rows j ≡ o → IsUsed rows k
    by None o = absurd (false≢true (ap is_some (sym o) ∙ and_left (is_some (up_of rows j)) ((row_at rows j).segment == k) h))
    by (Some p) o = (j, (p, l, o, eqb-true (row_at rows j).segment k (and_right (is_some (up_of rows j)) ((row_at rows j).segment == k) h)))

pub kept : (segments : List Segment) (count h home : ℕ) (f : Forest) → IsPart segments count h home f → IsGrownBy segments count h home f f
kept segments count h home f part = record { part = part; longer = ([], sym (append-nil f.rows.items)) }

pub longer_both : (f m n : Forest) → IsLonger f m → IsLonger m n → IsLonger f n
longer_both f m n a b = (a.0 ++ b.0, b.1 ∙ ap (λ rs. rs ++ b.0) a.1 ∙ append_assoc f.rows.items a.0 b.0)

pub row_stays : (f m : Forest) (j : ℕ) → IsLonger f m → j < length f.rows.items → row_at m.rows.items j ≡ row_at f.rows.items j
row_stays f m j a l = ap (λ rs. row_at rs j) a.1 ∙ row_left f.rows.items a.0 j l

pub used_stays : (f m : Forest) (k : ℕ) → IsLonger f m → IsUsed f.rows.items k → IsUsed m.rows.items k
used_stays f m k a u = subst (λ rs. IsUsed rs k) (sym a.1) (used_more f.rows.items a.0 k u)

pub longer_length : (f m : Forest) → IsLonger f m → length f.rows.items ≤ length m.rows.items
longer_length f m a = (let e = ap length a.1 ∙ length-append f.rows.items a.0 in omega arith)

pub place_stays : (segments : List Segment) (count : ℕ) (f m : Forest) (u : ℕ) → IsGrown segments count f → IsGrown segments count m → IsLonger f m → is_some (place_of f u) ≡ true → is_some (place_of m u) ≡ true
place_stays segments count f m u g g' a s = by (place_of f u) refl
  where
    by : (o : Option ℕ) → place_of f u ≡ o → is_some (place_of m u) ≡ true
    by None o = absurd (false≢true (ap is_some (sym o) ∙ s))
    by (Some j) o =
        let b = g.back u j o in
        let more = longer_length f m a in
        let l : j < length f.rows.items = b.0 in
        let there = (g'.placed j (omega arith)).1 in
        let node : (row_at m.rows.items j).node ≡ u = ap (λ (r : Row). r.node) (row_stays f m j a l) ∙ b.1 in
        ap is_some (ap (place_of m) (sym node) ∙ there)

-- where all nodes have a place and all places are done, each segment leads to a parent
pub all_used : (segments : List Segment) (count : ℕ) (f : Forest) → IsDone segments count f → ((u : ℕ) → u < count → is_some (place_of f u) ≡ true) → (k : ℕ) → k < length segments → (segment_at segments k).a < count → IsUsed f.rows.items k
all_used segments count f done all k l within = by (place_of f (segment_at segments k).a) refl
  where
    by : (o : Option ℕ) → place_of f (segment_at segments k).a ≡ o → IsUsed f.rows.items k
    by None o = absurd (false≢true (ap is_some (sym o) ∙ all (segment_at segments k).a within))
    by (Some j) o =
        let b = done.0.back (segment_at segments k).a j o in
        done.1 j k b.0 l (inl (sym b.1))

-- what a list of segments adds, one by one
among_snoc : (k : ℕ) (ks : List ℕ) (j : ℕ) → IsAmong k (ks ++ j ∷ []) → IsAmong k ks ⊎ (k ≡ j)
among_snoc k [] j (inl e) = inr e
among_snoc k [] j (inr a) = absurd a
among_snoc k (i ∷ ks) j (inl e) = inl (inl e)
among_snoc k (i ∷ ks) j (inr a) = by (among_snoc k ks j a)
  where
    by : IsAmong k ks ⊎ (k ≡ j) → IsAmong k (i ∷ ks) ⊎ (k ≡ j)
    by (inl x) = inl (inr x)
    by (inr e) = inr e

pub visited_none : (segments : List Segment) (count h home : ℕ) (f : Forest) → IsPart segments count h home f → AreVisited segments count h home [] f f
visited_none segments count h home f part = record { grown = kept segments count h home f part; used = λ k a t. absurd a }

pub visited_more : (segments : List Segment) (count h home : ℕ) (ks : List ℕ) (i k : ℕ) (f m n : Forest) → h < length f.rows.items → i < length ks → k ≡ get_or ks i k
    → AreVisited segments count h home (take i ks) f m → IsVisited segments count h home k m n → AreVisited segments count h home (take (i + 1) ks) f n
visited_more segments count h home ks i k f m n lh l e a v = record {
  grown = record { part = v.0.part; longer = longer_both f m n a.grown.longer v.0.longer };
  used = λ j x t. by j (among_snoc j (take i ks) k (subst (IsAmong j) (take_more ks i k l ∙ ap (λ y. take i ks ++ y ∷ []) (sym e)) x)) t;
}
  where
    by : (j : ℕ) → IsAmong j (take i ks) ⊎ (j ≡ k) → Touches (segment_at segments j) (row_at f.rows.items h).node → IsUsed n.rows.items j
    by j (inl x) t = used_stays m n j v.0.longer (a.used j x t)
    by j (inr q) t =
        let t' : Touches (segment_at segments k) (row_at m.rows.items h).node =
        subst (λ (r : Row). Touches (segment_at segments k) r.node) (sym (row_stays f m h a.grown.longer lh)) (subst (λ y. Touches (segment_at segments y) (row_at f.rows.items h).node) q t) in
        subst (IsUsed n.rows.items) (sym q) (v.1 t')

pub size_of : (segments : List Segment) (count h home : ℕ) (ks : List ℕ) (f m : Forest) → AreVisited segments count h home ks f m → length m.places.items ≡ count
size_of segments count h home ks f m a = a.grown.part.grown.sized

pub still_there : (segments : List Segment) (count h home : ℕ) (ks : List ℕ) (f m : Forest) → h < length f.rows.items → AreVisited segments count h home ks f m → h < length m.rows.items
still_there segments count h home ks f m l a = (let e = longer_length f m a.grown.longer in omega arith)

-- a place of which all segments were looked at
pub place_done : (segments : List Segment) (count h home : ℕ) (links : List (List ℕ)) (f m : Forest) → AreIndexed segments links → h < length f.rows.items
    → AreVisited segments count h home (get_or links (row_at f.rows.items h).node []) f m → IsPart segments count (suc h) home m
place_done segments count h home links f m x lh a =
    advanced segments count h home m a.grown.part
    (λ k lk t.
    let t' : Touches (segment_at segments k) (row_at f.rows.items h).node = subst (λ (r : Row). Touches (segment_at segments k) r.node) (row_stays f m h a.grown.longer lh) t in
    a.used k (x.all k (row_at f.rows.items h).node lk t') t')

pub part_done : (segments : List Segment) (count h home : ℕ) (f : Forest) → IsPart segments count h home f → length f.rows.items ≤ h → IsDone segments count f
part_done segments count h home f p l = (p.grown, λ i k li lk t. p.spread i k (omega arith) lk t)

pub room_left : (segments : List Segment) (count h home : ℕ) (f : Forest) → IsPart segments count h home f → length f.rows.items ≤ count
room_left segments count h home f p = (let r = p.grown.room in omega arith)

done_part : (segments : List Segment) (count : ℕ) (f : Forest) → IsDone segments count f → IsPart segments count (length f.rows.items) 0 f
done_part segments count f d = record { grown = d.0; spread = d.1; recent = λ x lx ux. absurd (omega arith) }

-- a part that begins
pub part_begun : (segments : List Segment) (count node : ℕ) (f m : Forest) (row : Row) → IsDone segments count f → place_of f node ≡ None → node < count
    → row ≡ record { node = node; parent = None; segment = 0; res = 0; home = length f.rows.items }
    → m.rows.items ≡ f.rows.items ++ row ∷ [] → m.places.items ≡ set f.places.items row.node (Some (length f.rows.items))
    → IsPart segments count (length f.rows.items) (length f.rows.items) m × ((row_at m.rows.items (length f.rows.items)).node ≡ node) × IsLonger f m
part_begun segments count node f m row d free l e er ep =
    let node_is : row.node ≡ node = ap (λ (r : Row). r.node) e in
    let home_is : row.home ≡ length f.rows.items = ap (λ (r : Row). r.home) e in
    let free' : place_of f row.node ≡ None = ap (place_of f) node_is ∙ free in
    let l' : row.node < count = omega (arith, node_is) in
    let new : IsNewRow segments f.rows.items row = inl (ap (λ (r : Row). r.parent) e, home_is) in (
      begun segments count f m row d.0 l' free' new er ep 0 (done_part segments count f d) home_is,
      ap (λ rs. (row_at rs (length f.rows.items)).node) er ∙ ap (λ (r : Row). r.node) (row_new f.rows.items row) ∙ node_is,
      (row ∷ [], er),
    )

pub further : (segments : List Segment) (count node : ℕ) (f m n : Forest) → IsGrown segments count m → IsLonger f m → (row_at m.rows.items (length f.rows.items)).node ≡ node → length f.rows.items < length m.rows.items
    → IsDone segments count n → IsLonger m n → IsFurther segments count node f n
further segments count node f m n g a e l d b = record {
  done = d;
  longer = longer_both f m n a b;
  there = place_stays segments count m n node g d.0 b (ap is_some (ap (place_of m) (sym e) ∙ (g.placed (length f.rows.items) l).1));
  first = λ z. ap (λ j. (row_at n.rows.items j).node) (sym z) ∙ ap (λ (r : Row). r.node) (row_stays m n (length f.rows.items) b l) ∙ e;
}

pub no_further : (segments : List Segment) (count node place : ℕ) (f : Forest) → IsDone segments count f → place_of f node ≡ Some place → IsFurther segments count node f f
no_further segments count node place f d e = record {
  done = d;
  longer = ([], sym (append-nil f.rows.items));
  there = ap is_some e;
  first = λ z. (let b = d.0.back node place e in let l : place < length f.rows.items = b.0 in absurd (omega arith));
}

-- nodes one by one
pub record IsFoundTo (segments : List Segment) (count i : ℕ) (f : Forest) : Type 0 where
  pub done : IsDone segments count f
  pub all : (u : ℕ) → u < i → is_some (place_of f u) ≡ true
  pub first : 0 < i → (0 < length f.rows.items) × ((row_at f.rows.items 0).node ≡ 0)
  pub none : i ≡ 0 → length f.rows.items ≡ 0

abbrev no_place : Option ℕ
no_place = None

none_there : (n u : ℕ) → get_or (replicate n no_place) u None ≡ None
none_there zero u = refl
none_there (suc n) zero = refl
none_there (suc n) (suc u) = none_there n u

many_none : (n : ℕ) → count_by is_none (replicate n no_place) ≡ n
many_none zero = refl
many_none (suc n) = sum_by-cons (λ (o : Option ℕ). cond (is_none o) 1 0) no_place (replicate n no_place) ∙ (let m = many_none n in omega arith)

pub found_none : (segments : List Segment) (count : ℕ) (f : Forest) → f.rows.items ≡ [] → f.places.items ≡ replicate count None → IsFoundTo segments count 0 f
found_none segments count f er ep = record {
  done = (
    record {
      sized = ap length ep ∙ length-replicate count None;
      room = (let a : count_by is_none f.places.items ≡ count = ap (count_by is_none) ep ∙ many_none count in let b : length f.rows.items ≡ 0 = ap length er in omega arith);
      placed = λ j l. absurd (no_row_there j l);
      back = λ u j e. absurd (none-some j (sym (ap (λ ps. get_or ps u None) ep ∙ none_there count u) ∙ e));
      rising = λ j p l u. absurd (no_row_there j l);
      linked = λ j p l u. absurd (no_row_there j l);
      same_home = λ j p l u. absurd (no_row_there j l);
      own_home = λ j l u. absurd (no_row_there j l);
      low_home = λ j l. absurd (no_row_there j l);
    },
    λ i k li lk t. absurd (no_row_there i li),
  );
  all = λ u l. absurd (omega arith);
  first = λ l. absurd (omega arith);
  none = λ e. ap length er;
}
  where
    no_row_there : (j : ℕ) → j < length f.rows.items → ⊥
    no_row_there j l = (let e : length f.rows.items ≡ 0 = ap length er in omega arith)

pub found_more : (segments : List Segment) (count i : ℕ) (f m : Forest) → IsFoundTo segments count i f → IsFurther segments count i f m → IsFoundTo segments count (i + 1) m
found_more segments count i f m a b = record {
  done = b.done;
  all = λ u l. by u (cases_lt u i) l;
  first = λ l. first (cases_lt 0 i);
  none = λ e. absurd (omega arith);
}
  where
    by : (u : ℕ) → (u < i) ⊎ (i ≤ u) → u < i + 1 → is_some (place_of m u) ≡ true
    by u (inl l) k = place_stays segments count f m u a.done.0 b.done.0 b.longer (a.all u l)
    by u (inr l) k = (let e : i ≡ u = omega arith in subst (λ v. is_some (place_of m v) ≡ true) e b.there)

    first : (0 < i) ⊎ (i ≤ 0) → (0 < length m.rows.items) × ((row_at m.rows.items 0).node ≡ 0)
    first (inl l) =
        let o = a.first l in
        let lo : 0 < length f.rows.items = o.0 in
        let w = longer_length f m b.longer in
        (omega arith, ap (λ (r : Row). r.node) (row_stays f m 0 b.longer lo) ∙ o.1)
    first (inr l) =
        let z : i ≡ 0 = omega arith in
        let some : is_some (place_of m i) ≡ true = b.there in
        (there (place_of m i) refl some, b.first (a.none z) ∙ z)
      where
        there : (o : Option ℕ) → place_of m i ≡ o → is_some (place_of m i) ≡ true → 0 < length m.rows.items
        there None o s = absurd (false≢true (ap is_some (sym o) ∙ s))
        there (Some j) o s = (let k : j < length m.rows.items = (b.done.0.back i j o).0 in omega arith)

pub ready_at : (segments : List Segment) (count k : ℕ) → IsReady segments count → k < length segments → ((segment_at segments k).a < count) × ((segment_at segments k).b < count)
ready_at [] count k r l = absurd (omega arith)
ready_at (s ∷ ss) count zero r l = r.0
ready_at (s ∷ ss) count (suc k) r l = ready_at ss count k r.1 (omega arith)

pub far_inside : (segments : List Segment) (count k far node : ℕ) → IsReady segments count → k < length segments → Links (segment_at segments k) far node → far < count
far_inside segments count k far node r l (inl e) = (let b = (ready_at segments count k r l).0 in let q : (segment_at segments k).a ≡ far = e.0 in omega arith)
far_inside segments count k far node r l (inr e) = (let b = (ready_at segments count k r l).1 in let q : (segment_at segments k).b ≡ far = e.1 in omega arith)

pub found_all : (segments : List Segment) (count : ℕ) (f : Forest) → IsReady segments count → IsFoundTo segments count count f → IsFound segments count f
found_all segments count f r a = record {
  grown = a.done.0;
  used = λ k l. all_used segments count f a.done a.all k l (ready_at segments count k r l).0;
  all = a.all;
  first = λ l. (a.first l).1;
}

-- resistors one by one
pub resistor_there : (P : RcRes → Type 0) (rs : List RcRes) (i : ℕ) (r : RcRes) → i < length rs → r ≡ get_or rs i r → AllByRecursion P rs → P r
resistor_there P rs i r l e a = subst P (sym e) (at rs i l a)
  where
    at : (rs : List RcRes) (i : ℕ) → i < length rs → AllByRecursion P rs → P (get_or rs i r)
    at [] i l a = absurd (omega arith)
    at (x ∷ xs) zero l a = a.0
    at (x ∷ xs) (suc i) l a = at xs i (omega arith) a.1

all_snoc : {X : Type 0} (P : X → Type 0) (xs : List X) (x : X) → AllByRecursion P xs → P x → AllByRecursion P (xs ++ x ∷ [])
all_snoc P [] x a p = (p, tt)
all_snoc P (y ∷ ys) x a p = (a.0, all_snoc P ys x a.1 p)

pub segments_more : (nodes : List RcNode) (rs : List RcRes) (segments : List Segment) (i : ℕ) (r : RcRes) (s : Segment) → i < length rs → r ≡ get_or rs i r
    → AreSegments nodes (take i rs) segments → wired nodes s ≡ r → s.a < length nodes → s.b < length nodes → AreSegments nodes (take (i + 1) rs) (segments ++ s ∷ [])
segments_more nodes rs segments i r s l e a w la lb = (
  map-append (wired nodes) segments (s ∷ []) ∙ ap (λ xs. xs ++ wired nodes s ∷ []) a.0 ∙ ap (λ x. take i rs ++ x ∷ []) (w ∙ e) ∙ sym (take_more rs i r l),
  all_snoc (λ (x : Segment). (x.a < length nodes) × (x.b < length nodes)) segments s a.1 (la, lb),
)

-- a step to a node that has no place
links_swap : (s : Segment) (u v : ℕ) → Links s u v → Links s v u
links_swap s u v (inl e) = inr e
links_swap s u v (inr e) = inl e

pub extended : (segments : List Segment) (count : ℕ) (f m : Forest) (place home k far : ℕ) (row : Row) → IsPart segments count place home f → place < length f.rows.items → k < length segments
    → Links (segment_at segments k) far (row_at f.rows.items place).node → far < count → place_of f far ≡ None
    → row ≡ record { node = far; parent = Some place; segment = k; res = (segment_at segments k).res; home = home }
    → m.rows.items ≡ f.rows.items ++ row ∷ [] → m.places.items ≡ set f.places.items row.node (Some (length f.rows.items))
    → IsGrownBy segments count place home f m × IsUsed m.rows.items k
extended segments count f m place home k far row part lp lk ends lf free e er ep =
    let made : Row = record { node = far; parent = Some place; segment = k; res = (segment_at segments k).res; home = home } in
    let er' : m.rows.items ≡ f.rows.items ++ made ∷ [] = er ∙ ap (λ r. f.rows.items ++ r ∷ []) e in
    let ep' : m.places.items ≡ set f.places.items far (Some (length f.rows.items)) = ep ∙ ap (λ (r : Row). set f.places.items r.node (Some (length f.rows.items))) e in
    let new : IsNewRow segments f.rows.items made =
    inr (place, refl, lp, (lk, links_swap (segment_at segments k) far (row_at f.rows.items place).node ends, refl), sym (part.recent place (omega arith) lp)) in
    reached segments count f m made part.grown lf free new er' ep' place home k part lp refl refl refl

or_left : (a b : Bool) → (a || b) ≡ false → a ≡ false
or_left true b h = h
or_left false b h = refl

or_right : (a b : Bool) → (a || b) ≡ false → b ≡ false
or_right true b h = absurd (false≢true (sym h))
or_right false b h = h

pub come_loop : (segments : List Segment) (count h home : ℕ) (f : Forest) (part : IsPart segments count h home f) (lh : h < length f.rows.items)
    (k far x : ℕ) → k < length segments → Links (segment_at segments k) far (row_at f.rows.items h).node → place_of f far ≡ Some x
    → (is_used_at f.rows.items k h || is_used_at f.rows.items k x) ≡ false → (nodes : List RcNode) → AreApart nodes → length nodes ≡ count → is_looped (map (wired nodes) segments) ≡ true
come_loop segments count h home f part lh k far x lk ends there un =
    loop_here segments count h home f part lh k far x lk ends there
    (or_left (is_used_at f.rows.items k h) (is_used_at f.rows.items k x) un) (or_right (is_used_at f.rows.items k h) (is_used_at f.rows.items k x) un)

any_default : (ks : List ℕ) (i d e : ℕ) → i < length ks → get_or ks i d ≡ get_or ks i e
any_default [] i d e l = absurd (omega arith)
any_default (k ∷ ks) zero d e l = refl
any_default (k ∷ ks) (suc i) d e l = any_default ks i d e (omega arith)

pub visited_at : (segments : List Segment) (count h home : ℕ) (ks : List ℕ) (i : ℕ) (f m n : Forest) → h < length f.rows.items → i < length ks
    → AreVisited segments count h home (take i ks) f m → IsVisited segments (length m.places.items) h home (get_or ks i 0) m n → AreVisited segments count h home (take (i + 1) ks) f n
visited_at segments count h home ks i f m n lh l a v =
    visited_more segments count h home ks i (get_or ks i 0) f m n lh l (any_default ks i 0 (get_or ks i 0) l) a
    (subst (λ size. IsVisited segments size h home (get_or ks i 0) m n) (size_of segments count h home (take i ks) f m a) v)

-- the count is the length of the list of places
pub part_sized : (segments : List Segment) (count h home : ℕ) (f : Forest) → IsPart segments count h home f → IsPart segments (length f.places.items) h home f
part_sized segments count h home f p = subst (λ n. IsPart segments n h home f) (sym p.grown.sized) p

pub ready_sized : (segments : List Segment) (count h home : ℕ) (f : Forest) → IsPart segments count h home f → IsReady segments count → IsReady segments (length f.places.items)
ready_sized segments count h home f p r = subst (IsReady segments) (sym p.grown.sized) r

pub indexes_at : (segments : List Segment) (links : List (List ℕ)) (node : ℕ) → AreIndexed segments links → AreIndexes segments (get_or links node [])
indexes_at segments links node x = at links node x.inside
  where
    at : (ls : List (List ℕ)) (u : ℕ) → AllByRecursion (AreIndexes segments) ls → AreIndexes segments (get_or ls u [])
    at [] u a = tt
    at (l ∷ ls) zero a = a.0
    at (l ∷ ls) (suc u) a = at ls u a.1

pub node_below : (segments : List Segment) (count h home place : ℕ) (f : Forest) → IsPart segments count h home f → place < length f.rows.items → (row_at f.rows.items place).node < count
node_below segments count h home place f p l = (p.grown.placed place l).0

abbrev pub IsSpreading : List Segment → ℕ → ℕ → ℕ → Forest → Forest → Type 0
IsSpreading segments count place first f m = IsPart segments count place first m × IsLonger f m

pub spread_more : (segments : List Segment) (count place first : ℕ) (links : List (List ℕ)) (f m n : Forest) → AreIndexed segments links → place < length m.rows.items → IsSpreading segments count place first f m
    → AreVisited segments (length m.places.items) place first (get_or links (row_at m.rows.items place).node []) m n → IsSpreading segments count (place + 1) first f n
spread_more segments count place first links f m n x l a v =
    let v' : AreVisited segments count place first (get_or links (row_at m.rows.items place).node []) m n =
    subst (λ size. AreVisited segments size place first (get_or links (row_at m.rows.items place).node []) m n) a.0.grown.sized v in
    let next : suc place ≡ place + 1 = omega arith in
    (subst (λ h. IsPart segments count h first n) next (place_done segments count place first links m n x l v'), longer_both f m n a.1 v'.grown.longer)

pub spread_done : (segments : List Segment) (count place first : ℕ) (f m : Forest) → IsSpreading segments count place first f m → length m.rows.items ≤ place → IsDone segments count m × IsLonger f m
spread_done segments count place first f m a l = (part_done segments count place first m a.0 l, a.1)

pub spread_less : (segments : List Segment) (count place first : ℕ) (f m : Forest) → IsSpreading segments count place first f m → place < length m.rows.items → count - (place + 1) < count - place
spread_less segments count place first f m a l = (let r = room_left segments count place first m a.0 in omega arith)

-- a part that begins, to its end
pub begun_further : (segments : List Segment) (count node : ℕ) (f m n : Forest) (row : Row) → IsDone segments count f → place_of f node ≡ None → node < count
    → row ≡ record { node = node; parent = None; segment = 0; res = 0; home = length f.rows.items }
    → m.rows.items ≡ f.rows.items ++ row ∷ [] → m.places.items ≡ set f.places.items row.node (Some (length f.rows.items))
    → IsDone segments (length m.places.items) n × IsLonger m n → IsFurther segments count node f n
begun_further segments count node f m n row d free l e er ep b =
    let p = part_begun segments count node f m row d free l e er ep in
    let size = ap length er ∙ length-append f.rows.items (row ∷ []) in
    further segments count node f m n p.0.grown p.2 p.1 (omega (arith, size)) (subst (λ c. IsDone segments c n) p.0.grown.sized b.0) b.1

-- the count is the length of the list of places
pub done_sized : (segments : List Segment) (count i : ℕ) (f : Forest) → IsFoundTo segments count i f → IsDone segments (length f.places.items) f
done_sized segments count i f a = subst (λ c. IsDone segments c f) (sym a.done.0.sized) a.done

pub count_sized : (segments : List Segment) (count i : ℕ) (f : Forest) → IsFoundTo segments count i f → count ≡ length f.places.items
count_sized segments count i f a = sym a.done.0.sized

pub ready_found : (segments : List Segment) (count i : ℕ) (f : Forest) → IsFoundTo segments count i f → IsReady segments count → IsReady segments (length f.places.items)
ready_found segments count i f a r = subst (IsReady segments) (sym a.done.0.sized) r

pub found_next : (segments : List Segment) (count i : ℕ) (f m : Forest) → IsFoundTo segments count i f → IsFurther segments (length f.places.items) i f m → IsFoundTo segments count (i + 1) m
found_next segments count i f m a b = found_more segments count i f m a (subst (λ c. IsFurther segments c i f m) a.done.0.sized b)

pub ruleset finding = (done_sized, count_sized, ready_found, found_next, found_all, found_none)
