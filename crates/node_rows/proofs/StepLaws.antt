-- Lists of values and of times, as one more comes.

use Rattle.std.proofs.Common.{◌≡◌, ℕ, zero, suc, ◌+◌, ◌<◌, ℤ, Bool, true, false, not, ◌&&◌, ◌||◌, List, [], ◌∷◌, ◌++◌, map, take, drop, length, get_or, Option, None, Some, refl, sym, ap, ◌∙◌, arith}
use Rattle.std.specs.Prelude.{Contains, option_map}
use Rattle.std.specs.List.{list_any, list_all, cons_option}
use Rattle.std.proofs.lemmas.Bool.{false≢true, and_parts, and_from}
use Rattle.std.proofs.lemmas.List.{take_more, map-append, take_all}
use Rattle.std.proofs.lemmas.List.Folds.{list_all-append, list_any-append, list_any_at}
use Rattle.timing_defs.specs.declared.kinds.Split.{Split}
use Rattle.timing_defs.specs.declared.kinds.Tran.{Tran}
use Rattle.timing_defs.specs.declared.kinds.Tran.TheVariants.{Rise, Fall}
use Rattle.timing_defs.specs.declared.constraints.Clock.{Clock}
use Rattle.timing_defs.specs.declared.edge_times.EdgeTime.{EdgeTime}
use Rattle.timing_rules.specs.Rows.{outer_some, outermost, clock_edges, edge_time}
use Rattle.timing_defs.specs.RowTimes.{plus_some, time_on, times_in}
use Rattle.timing_rules.specs.Range.{within_some}
use Rattle.netlist_store.specs.Numbering.{Stored}
use Rattle.node_rows.specs.declared.arcs.ArcValues.{ArcValues}
use Rattle.node_rows.specs.declared.settings.NodeAt.{NodeAt}
use Rattle.node_rows.specs.declared.settings.Before.{Before}
use Rattle.node_rows.specs.Between.{are_within}
use Rattle.node_rows.specs.Evaluation.{IsJoined, AreBefore, told_values, told_wide, merged_over, times_on, are_wide_times, is_row_within}
use Rattle.timing_defs.proofs.Members.{first_in, later_in}
use Rattle.node_rows.proofs.ArcLaws.{more, each_at, outer_some_within}

-- the first of a list and one more
one_more : {X : Type 0} (xs : List X) (i : ℕ) (x : X) → i < length xs → x ≡ get_or xs i x → take (i + 1) xs ≡ take i xs ++ x ∷ []
one_more xs i x low e = take_more xs i x low ∙ ap (λ y. take i xs ++ y ∷ []) (sym e)

pub member : {X : Type 0} (xs : List X) (i : ℕ) (x : X) → i < length xs → x ≡ get_or xs i x → Contains xs x
member xs i x low e = (i, low, sym e)

widen : (a b c : Bool) → (a || (b || false)) ≡ true → (a || (b || c)) ≡ true
widen true b c h = refl
widen false true c h = refl
widen false false c h = absurd (false≢true h)

later_two : (a b c : Bool) → c ≡ true → (a || (b || c)) ≡ true
later_two true b c h = refl
later_two false true c h = refl
later_two false false c h = h

-- the values of the first nodes before a node
pub record AreGathered (s : Stored) (split : Split) (at : NodeAt) (before : List Before) (values : List ArcValues) (i : ℕ) : Type 0 where
  pub told : values ≡ map (told_values s split at) (take i before)
  pub within : list_all are_within values ≡ true
  pub fine : list_any (told_wide s split at) (take i before) ≡ false

or_no : (a b : Bool) → a ≡ false → b ≡ false → (a || b) ≡ false
or_no a b h k = rw (h, k) refl

module _ (s : Stored) (split : Split) (at : NodeAt) (before : List Before) where
  pub none_gathered : (values : List ArcValues) → values ≡ [] → AreGathered s split at before values 0
  none_gathered values e = record { told = e; within = ap (list_all are_within) e; fine = refl }

  module _ (values : List ArcValues) (i : ℕ) (b : Before) (low : i < length before) (here : b ≡ get_or before i b) (had : AreGathered s split at before values i) where
    pub gathered : (next : List ArcValues) (v : ArcValues) → v ≡ told_values s split at b → are_within v ≡ true → told_wide s split at b ≡ false → next ≡ values ++ v ∷ []
        → AreGathered s split at before next (i + 1)
    gathered next v e within fine pushed =
        record {
          told = pushed ∙ ap (λ xs. xs ++ v ∷ []) had.told ∙ ap (λ w. map (told_values s split at) (take i before) ++ w ∷ []) e
              ∙ sym (map-append (told_values s split at) (take i before) (b ∷ [])) ∙ ap (map (told_values s split at)) (sym (one_more before i b low here));
          within = ap (list_all are_within) pushed ∙ list_all-append are_within values (v ∷ []) ∙ and_from (list_all are_within values) (are_within v && true) had.within (and_from (are_within v) true within refl);
          fine = ap (list_any (told_wide s split at)) (one_more before i b low here) ∙ list_any-append (told_wide s split at) (take i before) (b ∷ [])
              ∙ or_no (list_any (told_wide s split at) (take i before)) (told_wide s split at b || false) had.fine (or_no (told_wide s split at b) false fine refl);
        }

    pub wide_found : told_wide s split at b ≡ true → list_any (told_wide s split at) before ≡ true
    wide_found wide = list_any_at (told_wide s split at) before i b low (ap (told_wide s split at) (sym here) ∙ wide)

  pub all_gathered : (values : List ArcValues) → AreGathered s split at before values (length before)
      → (values ≡ map (told_values s split at) before) × (list_any (told_wide s split at) before ≡ false)
  all_gathered values had = (
    had.told ∙ ap (map (told_values s split at)) (take_all (length before) before (omega arith)),
    ap (list_any (told_wide s split at)) (sym (take_all (length before) before (omega arith))) ∙ had.fine,
  )

  -- a node that is listed before another is joined to it
  pub joined_at : AreBefore s at before → (i : ℕ) (b : Before) → i < length before → b ≡ get_or before i b → IsJoined s at b.node
  joined_at are i b low e = record { to = are.to; there = are.there; into = are.sound b (member before i b low e) }

  pub row_at : AreBefore s at before → (i : ℕ) (b : Before) → i < length before → b ≡ get_or before i b → is_row_within b.row.now ≡ true
  row_at are i b low e = are.within b (member before i b low e)

all_from : {X : Type 0} (p : X → Bool) (xs : List X) → ((x : X) → Contains xs x → p x ≡ true) → list_all p xs ≡ true
all_from p [] h = refl
all_from p (x ∷ xs) h = and_from (p x) (list_all p xs) (h x (first_in x xs)) (all_from p xs (λ y c. h y (later_in x xs y c)))

pub rows_within : (s : Stored) (at : NodeAt) (before : List Before) → AreBefore s at before → list_all (λ (b : Before). is_row_within b.row.now) before ≡ true
rows_within s at before are = all_from (λ (b : Before). is_row_within b.row.now) before are.within

-- the outermost slew of values
module _ (split : Split) (values : List ArcValues) (all : list_all are_within values ≡ true) where
  pub slew_more : (best next : Option ℤ) (i : ℕ) (v : ArcValues) → i < length values → v ≡ get_or values i v → next ≡ outer_some split best v.slew
      → (outermost split (λ (w : ArcValues). w.slew) best (drop i values) ≡ outermost split (λ (w : ArcValues). w.slew) None values) × (within_some best ≡ true)
      → (outermost split (λ (w : ArcValues). w.slew) next (drop (i + 1) values) ≡ outermost split (λ (w : ArcValues). w.slew) None values) × (within_some next ≡ true)
  slew_more best next i v low e is had = (
    ap (λ o. outermost split (λ (w : ArcValues). w.slew) o (drop (i + 1) values)) is
        ∙ ap (outermost split (λ (w : ArcValues). w.slew) best) (sym (more values i v low e)) ∙ had.0,
    ap within_some is
        ∙ outer_some_within split best v.slew had.1 (and_parts (within_some v.slew) (within_some v.delay) (each_at are_within values i v all low e)).0,
  )

-- the outermost arrival
pub arrival_more : (split : Split) (edge : ℕ × Tran) (before : List Before) (values : List ArcValues) (best next : Option ℤ) (i : ℕ) (b : Before) (v : ArcValues)
    → length values ≡ length before → i < length before → b ≡ get_or before i b → v ≡ get_or values i v
    → next ≡ outer_some split best (plus_some (time_on (times_in split b.row.now) edge) v.delay)
    → merged_over split edge best (drop i before) (drop i values) ≡ merged_over split edge None before values
    → merged_over split edge next (drop (i + 1) before) (drop (i + 1) values) ≡ merged_over split edge None before values
arrival_more split edge before values best next i b v same low here there is had =
    ap (λ o. merged_over split edge o (drop (i + 1) before) (drop (i + 1) values)) is
    ∙ sym (ap (λ bs. merged_over split edge best bs (drop i values)) (more before i b low here)
    ∙ ap (merged_over split edge best (b ∷ drop (i + 1) before)) (more values i v (let l : i < length values = omega (arith, same, low) in l) there))
    ∙ had

times_append : (f : ℕ × Tran → Option ℤ) (xs ys : List (ℕ × Tran)) → times_on f (xs ++ ys) ≡ times_on f xs ++ times_on f ys
times_append f [] ys = refl
times_append f (x ∷ xs) ys = ap (cons_option (option_map (edge_time x) (f x))) (times_append f xs ys) ∙ by (option_map (edge_time x) (f x))
  where
    by : (o : Option EdgeTime) → cons_option o (times_on f xs ++ times_on f ys) ≡ cons_option o (times_on f xs) ++ times_on f ys
    by None = refl
    by (Some t) = refl

pub record AreTimed (f : ℕ × Tran → Option ℤ) (clocks : List Clock) (times : List EdgeTime) (i : ℕ) : Type 0 where
  pub told : times ≡ times_on f (clock_edges 0 (take i clocks))
  pub fine : are_wide_times f (clock_edges 0 (take i clocks)) ≡ false

module _ (f : ℕ × Tran → Option ℤ) (clocks : List Clock) where
  pub none_timed : (times : List EdgeTime) → times ≡ [] → AreTimed f clocks times 0
  none_timed times e = record { told = e; fine = refl }

  edges_more : (i : ℕ) → i < length clocks → clock_edges 0 (take (i + 1) clocks) ≡ clock_edges 0 (take i clocks) ++ (i, Rise) ∷ (i, Fall) ∷ []
  edges_more i low =
      by clocks i low 0
      ∙ ap (λ m. clock_edges 0 (take i clocks) ++ (m, Rise) ∷ (m, Fall) ∷ []) (let e : 0 + i ≡ i = omega arith in e)
    where
      by : (xs : List Clock) (j : ℕ) → j < length xs → (n : ℕ) → clock_edges n (take (j + 1) xs) ≡ clock_edges n (take j xs) ++ (n + j, Rise) ∷ (n + j, Fall) ∷ []
      by [] j l n = absurd (omega arith)
      by (x ∷ xs) zero l n = ap (λ m. (m, Rise) ∷ (m, Fall) ∷ []) (let e : n ≡ n + 0 = omega arith in e)
      by (x ∷ xs) (suc j) l n =
          ap (λ m. clock_edges n (take m (x ∷ xs))) (let e : suc j + 1 ≡ suc (j + 1) = omega arith in e)
          ∙ ap (λ es. (n, Rise) ∷ (n, Fall) ∷ es)
          (by xs j (omega arith) (n + 1)
          ∙ ap (λ m. clock_edges (n + 1) (take j xs) ++ (m, Rise) ∷ (m, Fall) ∷ []) (let e : n + 1 + j ≡ n + suc j = omega arith in e))

  wide_in : (xs : List Clock) (j : ℕ) → j < length xs → (n : ℕ) → are_wide_times f ((n + j, Rise) ∷ (n + j, Fall) ∷ []) ≡ true → are_wide_times f (clock_edges n xs) ≡ true
  wide_in [] j l n wide = absurd (omega arith)
  wide_in (x ∷ xs) zero l n wide =
      widen (not (within_some (f (n, Rise)))) (not (within_some (f (n, Fall)))) (are_wide_times f (clock_edges (n + 1) xs))
      (ap (λ m. are_wide_times f ((m, Rise) ∷ (m, Fall) ∷ [])) (let e : n ≡ n + 0 = omega arith in e) ∙ wide)
  wide_in (x ∷ xs) (suc j) l n wide =
      later_two (not (within_some (f (n, Rise)))) (not (within_some (f (n, Fall)))) (are_wide_times f (clock_edges (n + 1) xs))
      (wide_in xs j (omega arith) (n + 1) (ap (λ m. are_wide_times f ((m, Rise) ∷ (m, Fall) ∷ [])) (let e : n + 1 + j ≡ n + suc j = omega arith in e) ∙ wide))

  module _ (times : List EdgeTime) (i : ℕ) (low : i < length clocks) (had : AreTimed f clocks times i) where
    pub timed : (next : List EdgeTime) → next ≡ times ++ times_on f ((i, Rise) ∷ (i, Fall) ∷ []) → are_wide_times f ((i, Rise) ∷ (i, Fall) ∷ []) ≡ false
        → AreTimed f clocks next (i + 1)
    timed next e fine =
        record {
          told = e ∙ ap (λ ts. ts ++ times_on f ((i, Rise) ∷ (i, Fall) ∷ [])) had.told
              ∙ sym (times_append f (clock_edges 0 (take i clocks)) ((i, Rise) ∷ (i, Fall) ∷ [])) ∙ ap (times_on f) (sym (edges_more i low));
          fine = ap (are_wide_times f) (edges_more i low)
              ∙ list_any-append (λ edge. not (within_some (f edge))) (clock_edges 0 (take i clocks)) ((i, Rise) ∷ (i, Fall) ∷ [])
              ∙ or_no (are_wide_times f (clock_edges 0 (take i clocks))) (are_wide_times f ((i, Rise) ∷ (i, Fall) ∷ [])) had.fine fine;
        }

    pub wide_time : are_wide_times f ((i, Rise) ∷ (i, Fall) ∷ []) ≡ true → are_wide_times f (clock_edges 0 clocks) ≡ true
    wide_time wide = wide_in clocks i low 0 (ap (λ m. are_wide_times f ((m, Rise) ∷ (m, Fall) ∷ [])) (let e : 0 + i ≡ i = omega arith in e) ∙ wide)

  pub all_timed : (times : List EdgeTime) → AreTimed f clocks times (length clocks) → (times ≡ times_on f (clock_edges 0 clocks)) × (are_wide_times f (clock_edges 0 clocks) ≡ false)
  all_timed times had = (
    had.told ∙ ap (λ xs. times_on f (clock_edges 0 xs)) (take_all (length clocks) clocks (omega arith)),
    ap (λ xs. are_wide_times f (clock_edges 0 xs)) (sym (take_all (length clocks) clocks (omega arith))) ∙ had.fine,
  )
