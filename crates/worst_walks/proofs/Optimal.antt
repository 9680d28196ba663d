-- A filled table has the best walk from each node: no walk is of greater sum, and none of the same
-- sum comes before it by the ranks (the principle of optimality).

use Rattle.std.proofs.Common.{◌≡◌, ℕ, zero, suc, ◌<◌, ◌≤◌, ℤ, pos, ◌+ℤ◌, ◌≤ℤ◌, true, false, ◌&&◌, ◌==◌, inl, inr, List, [], ◌∷◌, length, map, Option, Some, None, refl, sym, ap, subst, ◌∙◌, arith}
use Rattle.std.specs.Prelude.{int_lt, nat_lt, IsSome}
use Rattle.std.specs.Ordering.{int_eq, nat_cmp, ordering_then, is_gt}
use Rattle.std.specs.Cmp.Lexicographic.{slice_cmp}
use Rattle.std.proofs.lemmas.Bool.{cases_eq, cases_lt, or_parts, lt-ltb, eq-eqb, eqb-true}
use Rattle.std.proofs.lemmas.Bool.Decides.{Decides-int_eq}
use Rattle.std.proofs.lemmas.Cmp.{tied_itself, nat_cmp_total}
use Rattle.std.proofs.lemmas.Int.{ints}
use Rattle.std.proofs.lemmas.List.{get_or_past}
use Rattle.std.proofs.lemmas.Option.{none-some, same_Some, cond_some}
use Rattle.timing_defs.specs.RowTimes.{plus_some}
use Rattle.worst_walks.specs.declared.cones.Cone.{Cone}
use Rattle.worst_walks.specs.declared.tables.Entry.{Entry}
use Rattle.worst_walks.specs.Best.{BestOf}
use Rattle.worst_walks.specs.Walks.{count_of, arcs_into, delay_between, walk_sum, AreRanked, IsCone}
use Rattle.worst_walks.specs.Tables.{row_in, ahead, through, IsCandidate, IsTable, LeadsTo, Traces}
use Rattle.worst_walks.proofs.Filling.{arcs_there, delay_there}

-- what an entry came from
pub record Came (j : ℕ) (o : Option Entry) (d : Option ℤ) (entry : Entry) : Type 0 where
  pub after : Entry
  pub delay : ℤ
  pub row : o ≡ Some after
  pub arc : d ≡ Some delay
  pub is : record { total = delay +ℤ after.total; next = j } ≡ entry

pub came : (j : ℕ) (o : Option Entry) (d : Option ℤ) (entry : Entry) → through j o d ≡ Some entry → Came j o d entry
came j None d entry e = absurd (none-some entry e)
came j (Some after) None entry e = absurd (none-some entry e)
came j (Some after) (Some delay) entry e =
    record { after = after; delay = delay; row = refl; arc = refl; is = same_Some (record { total = delay +ℤ after.total; next = j }) entry e }

pub record Sum (a b : Option ℤ) (s : ℤ) : Type 0 where
  pub x : ℤ
  pub y : ℤ
  pub left : a ≡ Some x
  pub right : b ≡ Some y
  pub is : x +ℤ y ≡ s

pub plus_parts : (a b : Option ℤ) (s : ℤ) → plus_some a b ≡ Some s → Sum a b s
plus_parts None b s e = absurd (none-some s e)
plus_parts (Some x) None s e = absurd (none-some s e)
plus_parts (Some x) (Some y) s e = record { x = x; y = y; left = refl; right = refl; is = same_Some (x +ℤ y) s e }

-- lists by their first difference
pub head_less : (a b : ℕ) (xs ys : List ℕ) → a < b → is_gt (slice_cmp nat_cmp (a ∷ xs) (b ∷ ys)) ≡ false
head_less a b xs ys h = rw (lt-ltb a b h) refl

pub head_same : (a : ℕ) (xs ys : List ℕ) → is_gt (slice_cmp nat_cmp xs ys) ≡ false → is_gt (slice_cmp nat_cmp (a ∷ xs) (a ∷ ys)) ≡ false
head_same a xs ys h = ap (λ o. is_gt (ordering_then o (slice_cmp nat_cmp xs ys))) (tied_itself nat_cmp_total a) ∙ h

not_ahead : (rank : ℕ → ℕ) (c b : Entry) → ahead rank c b ≡ false → c.total ≤ℤ b.total
not_ahead rank c b e = let parts = (or_parts (int_lt b.total c.total) (int_eq c.total b.total && nat_lt (rank c.next) (rank b.next)) e).0 in grind (arith, ints)

tied_ahead : (rank : ℕ → ℕ) (c b : Entry) → ahead rank c b ≡ false → c.total ≡ b.total → rank b.next ≤ rank c.next
tied_ahead rank c b e same = grind (arith, ints, Decides-int_eq)

-- what is known of a walk from `n` by `ns` with the sum `s`
pub record Beaten (rank : ℕ → ℕ) (cone : Cone) (end : ℕ) (rows : List (Option Entry)) (n : ℕ) (ns : List ℕ) (s : ℤ) : Type 0 where
  pub entry : Entry
  pub row : row_in rows n ≡ Some entry
  pub most : s ≤ℤ entry.total
  pub order : s ≡ entry.total → (ms : List ℕ) → Traces rows end n ms → is_gt (slice_cmp nat_cmp (map rank ms) (map rank ns)) ≡ false

-- the entry of a node that is not the end, by the node to which it leads
pub record Next (cone : Cone) (rows : List (Option Entry)) (n : ℕ) (entry : Entry) : Type 0 where
  pub after : Entry
  pub delay : ℤ
  pub row : row_in rows entry.next ≡ Some after
  pub arc : delay_between cone n entry.next ≡ Some delay
  pub sum : delay +ℤ after.total ≡ entry.total
  pub low : entry.next < n

module _ (rank : ℕ → ℕ) (cone : Cone) (end : ℕ) (rows : List (Option Entry)) (good : IsCone cone) (h : IsTable rank cone end rows) where
  pub row_low : (n : ℕ) (entry : Entry) → row_in rows n ≡ Some entry → n < count_of cone
  row_low n entry e = elim (cases_lt n (length rows)) [
    | inl under ↦ let long = h.long in omega arith
    | inr over ↦ absurd (none-some entry (sym (get_or_past rows n None over) ∙ e))
  ]

  pub next_there : (n : ℕ) (entry : Entry) → (n ≡ end → ⊥) → row_in rows n ≡ Some entry → Next cone rows n entry
  next_there n entry other e =
      let best = subst (BestOf (ahead rank) (IsCandidate cone rows (count_of cone) n)) e (h.each n other) in
      let c = best.0 in
      let via = came c.0 (row_in rows c.0) (delay_between cone n c.0) entry c.2 in
      let is : c.0 ≡ entry.next = ap (λ (x : Entry). x.next) via.is in
      let row : row_in rows entry.next ≡ Some via.after = subst (λ j. row_in rows j ≡ Some via.after) is via.row in
      let arc : delay_between cone n entry.next ≡ Some via.delay = subst (λ j. delay_between cone n j ≡ Some via.delay) is via.arc in
      record {
        after = via.after;
        delay = via.delay;
        row = row;
        arc = arc;
        sum = ap (λ (x : Entry). x.total) via.is;
        low = (delay_there cone entry.next n (arcs_into cone entry.next) via.delay (arcs_there cone entry.next good (row_low entry.next via.after row)) arc).0;
      }

  -- the walk that the entries lead along has the sum of its first entry
  pub found : (ms : List ℕ) (n : ℕ) (entry : Entry) → Traces rows end n ms → row_in rows n ≡ Some entry
      → walk_sum ◌==◌ (delay_between cone) end n ms ≡ Some entry.total
  found [] n entry t e =
      let is : record { total = pos 0; next = end } ≡ entry =
      same_Some (record { total = pos 0; next = end }) entry (sym h.last ∙ subst (λ m. row_in rows m ≡ Some entry) t e) in
      let at : (n == end) ≡ true = eq-eqb n end t in
      rw at (ap (λ (x : Entry). Some x.total) is)
  found (m ∷ ms) n entry t e =
      let to : entry.next ≡ m = subst (λ o. LeadsTo o m) e t.1 in
      let via = next_there n entry t.0 e in
      let rest : walk_sum ◌==◌ (delay_between cone) end m ms ≡ Some via.after.total = found ms m via.after t.2 (subst (λ j. row_in rows j ≡ Some via.after) to via.row) in
      let arc : delay_between cone n m ≡ Some via.delay = subst (λ j. delay_between cone n j ≡ Some via.delay) to via.arc in
      ap (λ o. plus_some o (walk_sum ◌==◌ (delay_between cone) end m ms)) arc ∙ ap (plus_some (Some via.delay)) rest ∙ ap Some via.sum

  -- and there is such a walk
  pub traced : (k n : ℕ) (entry : Entry) → n < k → row_in rows n ≡ Some entry → (ms : List ℕ) × Traces rows end n ms
  traced zero n entry low e = absurd (omega arith)
  traced (suc k) n entry low e = elim (cases_eq n end) [
    | inl same ↦ ([], same)
    | inr other ↦ let via = next_there n entry other e in
        let under = via.low in
        let rest = traced k entry.next via.after (omega arith) via.row in
        (entry.next ∷ rest.0, (other, subst (λ o. LeadsTo o entry.next) (sym e) refl, rest.1))
  ]

  ended : (n : ℕ) → n ≡ end → (ms : List ℕ) → Traces rows end n ms → is_gt (slice_cmp nat_cmp (map rank ms) []) ≡ false
  ended n at [] t = refl
  ended n at (m ∷ ms) t = absurd (t.0 at)

  -- an arc from the end node leads to no node with an entry
  apart : (m n : ℕ) (d : ℤ) (after : Entry) → delay_between cone n m ≡ Some d → row_in rows m ≡ Some after → n ≡ end → ⊥
  apart m n d after arc row at =
      let low = (delay_there cone m n (arcs_into cone m) d (arcs_there cone m good (row_low m after row)) arc).0 in
      none-some after (sym (h.below m (omega arith)) ∙ row)

  -- the nodes behind `n`, against those of a walk through `m`
  by_rank : AreRanked cone rank → (n m p : ℕ) (ps ns : List ℕ) → p < count_of cone → m < count_of cone → IsSome (delay_between cone n p) → IsSome (delay_between cone n m) → rank p ≤ rank m
      → (p ≡ m → is_gt (slice_cmp nat_cmp (map rank ps) (map rank ns)) ≡ false)
      → is_gt (slice_cmp nat_cmp (map rank (p ∷ ps)) (map rank (m ∷ ns))) ≡ false
  by_rank ranked n m p ps ns low under to by le rest = elim (cases_lt (rank p) (rank m)) [
    | inl less ↦ head_less (rank p) (rank m) (map rank ps) (map rank ns) less
    | inr more ↦ let same : rank p ≡ rank m = omega arith in
        subst (λ r. is_gt (slice_cmp nat_cmp (r ∷ map rank ps) (map rank (m ∷ ns))) ≡ false) (sym same)
        (head_same (rank m) (map rank ps) (map rank ns) (rest (ranked n p m low under to by same)))
  ]

  order-by : AreRanked cone rank → (n m : ℕ) (ns : List ℕ) (s d t : ℤ) (after best : Entry) → (n ≡ end → ⊥) → row_in rows n ≡ Some best → row_in rows m ≡ Some after → delay_between cone n m ≡ Some d
      → ahead rank (record { total = d +ℤ after.total; next = m }) best ≡ false → d +ℤ t ≡ s → t ≤ℤ after.total
      → (t ≡ after.total → (ms : List ℕ) → Traces rows end m ms → is_gt (slice_cmp nat_cmp (map rank ms) (map rank ns)) ≡ false)
      → s ≡ best.total → (ms : List ℕ) → Traces rows end n ms → is_gt (slice_cmp nat_cmp (map rank ms) (map rank (m ∷ ns))) ≡ false
  order-by ranked n m ns s d t after best other row there arc not_before sum most rest is [] tr = absurd (other tr)
  order-by ranked n m ns s d t after best other row there arc not_before sum most rest is (p ∷ ps) tr =
      let le = not_ahead rank (record { total = d +ℤ after.total; next = m }) best not_before in
      let same : t ≡ after.total = omega (arith, ints) in
      let tied : d +ℤ after.total ≡ best.total = omega (arith, ints) in
      let ordered = tied_ahead rank (record { total = d +ℤ after.total; next = m }) best not_before tied in
      let to : best.next ≡ p = subst (λ o. LeadsTo o p) row tr.1 in
      let via = next_there n best other row in
      let low : best.next < count_of cone = row_low best.next via.after via.row in
      by_rank ranked n m p ps ns (subst (λ j. j < count_of cone) to low) (row_low m after there)
      (subst (λ j. IsSome (delay_between cone n j)) to (subst IsSome (sym via.arc) refl)) (subst IsSome (sym arc) refl)
      (subst (λ j. rank j ≤ rank m) to ordered)
      (λ e. rest same ps (subst (λ j. Traces rows end j ps) e tr.2))

  beat : AreRanked cone rank → (n m : ℕ) (ns : List ℕ) (s d t : ℤ) (after : Entry) (o : Option Entry) → (n ≡ end → ⊥) → row_in rows n ≡ o → row_in rows m ≡ Some after
      → delay_between cone n m ≡ Some d → BestOf (ahead rank) (IsCandidate cone rows (count_of cone) n) o → d +ℤ t ≡ s → t ≤ℤ after.total
      → (t ≡ after.total → (ms : List ℕ) → Traces rows end m ms → is_gt (slice_cmp nat_cmp (map rank ms) (map rank ns)) ≡ false)
      → Beaten rank cone end rows n (m ∷ ns) s
  beat ranked n m ns s d t after None other e there arc best sum most rest =
      absurd (best (record { total = d +ℤ after.total; next = m })
      (m, row_low m after there, ap (λ o. through m o (delay_between cone n m)) there ∙ ap (through m (Some after)) arc))
  beat ranked n m ns s d t after (Some b) other e there arc best sum most rest =
      let not_before = best.1 (record { total = d +ℤ after.total; next = m })
      (m, row_low m after there, ap (λ o. through m o (delay_between cone n m)) there ∙ ap (through m (Some after)) arc) in
      let le = not_ahead rank (record { total = d +ℤ after.total; next = m }) b not_before in
      record {
        entry = b;
        row = e;
        most = omega (arith, ints);
        order = order-by ranked n m ns s d t after b other e there arc not_before sum most rest;
      }

  pub least : AreRanked cone rank → (ns : List ℕ) (n : ℕ) (s : ℤ) → walk_sum ◌==◌ (delay_between cone) end n ns ≡ Some s → Beaten rank cone end rows n ns s
  least ranked [] n s e =
      let parts = cond_some (n == end) (pos 0) s e in
      let at : n ≡ end = eqb-true n end parts.0 in
      let is = parts.1 in
      record {
        entry = record { total = pos 0; next = end };
        row = subst (λ m. row_in rows m ≡ Some (record { total = pos 0; next = end })) (sym at) h.last;
        most = omega (arith, ints);
        order = λ same ms t. ended n at ms t;
      }
  least ranked (m ∷ ns) n s e =
      let parts = plus_parts (delay_between cone n m) (walk_sum ◌==◌ (delay_between cone) end m ns) s e in
      let rest = least ranked ns m parts.y parts.right in
      let other : n ≡ end → ⊥ = apart m n parts.x rest.entry parts.left rest.row in
      beat ranked n m ns s parts.x parts.y rest.entry (row_in rows n) other refl rest.row parts.left (h.each n other) parts.is rest.most rest.order
