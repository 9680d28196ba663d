-- The first walk of a class, by the entries of a table.

use Rattle.std.proofs.Common.{◌≡◌, ℕ, suc, ◌<◌, ◌≤◌, ℤ, ◌+ℤ◌, ◌-ℤ◌, ◌≤ℤ◌, false, ◌==◌, List, [], ◌∷◌, ◌++◌, length, map, Option, Some, None, refl, sym, ap, subst, ◌∙◌, arith}
use Rattle.std.specs.Prelude.{slice_get, IsSome}
use Rattle.std.specs.Ordering.{nat_cmp, is_gt}
use Rattle.std.specs.Cmp.Lexicographic.{slice_cmp}
use Rattle.std.proofs.lemmas.Int.{ints}
use Rattle.std.proofs.lemmas.Option.{none-some, same_Some}
use Rattle.timing_defs.specs.RowTimes.{plus_some}
use Rattle.worst_walks.specs.declared.cones.Launch.{Launch}
use Rattle.worst_walks.specs.declared.cones.WalkEnd.{WalkEnd}
use Rattle.worst_walks.specs.declared.cones.Cone.{Cone}
use Rattle.worst_walks.specs.declared.cones.Walk.{Walk}
use Rattle.worst_walks.specs.declared.tables.Entry.{Entry}
use Rattle.worst_walks.specs.Best.{BestOf}
use Rattle.worst_walks.specs.Walks.{count_of, delay_between, walk_sum, comes_before, IsWalk, AreRanked, IsCone}
use Rattle.worst_walks.specs.Tables.{row_in, ahead, through, IsTable, Traces}
use Rattle.worst_walks.specs.Searches.{IsTo}
use Rattle.worst_walks.proofs.Offers.{Listed, walked, joined}
use Rattle.worst_walks.proofs.Optimal.{came, plus_parts, row_low, found, traced, least}
use Rattle.ranked_walks.specs.Branches.{is_barred, path_sum, last_of, branch_by, start_by, IsOf, IsStem, IsBranched}
use Rattle.ranked_walks.proofs.Comparing.{not_before, begun, not_ahead, tied_ahead, by_rank}
use Rattle.ranked_walks.proofs.Stems.{parted}

-- an entry of a node by an arc to a node that is not barred
abbrev pub IsFree : Cone → List (Option Entry) → List ℕ → ℕ → Entry → Type 0
IsFree cone rows barred n entry = (j : ℕ) × (is_barred barred j ≡ false) × (through j (row_in rows j) (delay_between cone n j) ≡ Some entry)

abbrev behind : List ℕ → List ℕ
behind [] = []
behind (n ∷ ns) = ns

-- what is known of a walk that begins with the nodes of a stem
pub record Behind (cone : Cone) (end node : ℕ) (room : ℤ) (ns : List ℕ) (s : ℤ) : Type 0 where
  pub sum : ℤ
  pub adds : walk_sum ◌==◌ (delay_between cone) end node ns ≡ Some sum
  pub is : room -ℤ sum ≡ s

-- the way on that a free entry is of
pub record Way (rows : List (Option Entry)) (cone : Cone) (node : ℕ) (entry : Entry) : Type 0 where
  pub after : Entry
  pub delay : ℤ
  pub row : row_in rows entry.next ≡ Some after
  pub arc : delay_between cone node entry.next ≡ Some delay
  pub total : delay +ℤ after.total ≡ entry.total

pub way : (cone : Cone) (rows : List (Option Entry)) (barred : List ℕ) (node : ℕ) (entry : Entry) → IsFree cone rows barred node entry → Way rows cone node entry
way cone rows barred node entry f =
    let via = came f.0 (row_in rows f.0) (delay_between cone node f.0) entry f.2 in
    let is : f.0 ≡ entry.next = ap (λ (x : Entry). x.next) via.is in
    record {
      after = via.after;
      delay = via.delay;
      row = subst (λ j. row_in rows j ≡ Some via.after) is via.row;
      arc = subst (λ j. delay_between cone node j ≡ Some via.delay) is via.arc;
      total = ap (λ (x : Entry). x.total) via.is;
    }

way_free : (cone : Cone) (rows : List (Option Entry)) (barred : List ℕ) (node : ℕ) (entry : Entry) → IsFree cone rows barred node entry → is_barred barred entry.next ≡ false
way_free cone rows barred node entry f =
    let via = came f.0 (row_in rows f.0) (delay_between cone node f.0) entry f.2 in
    subst (λ j. is_barred barred j ≡ false) (ap (λ (x : Entry). x.next) via.is) f.1

module _ (rank : ℕ → ℕ) (before : ℕ → List ℕ) (cone : Cone) (place : ℕ) (end : WalkEnd) (rows : List (Option Entry)) (good : IsCone cone) (ranked : AreRanked cone rank)
    (there : slice_get cone.ends place ≡ Some end) (h : IsTable rank cone end.node rows) (i : ℕ) (launch : Launch) (at : slice_get end.launches i ≡ Some launch) where
  abbrev walk_by : ℤ → List ℕ → Walk
  walk_by s ns = record { slack = s; launch = i; end = place; nodes = ns }

  abbrev sum_from : ℕ → List ℕ → Option ℤ
  sum_from n ns = walk_sum ◌==◌ (delay_between cone) end.node n ns

  pub from_launch : (w : Walk) → IsTo cone place w → w.launch ≡ i → Listed cone end.node launch w.nodes w.slack
  from_launch w to from =
      let x = walked cone place end w there to in
      subst (λ l. Listed cone end.node l w.nodes w.slack) (same_Some x.launch launch (sym x.at ∙ ap (slice_get end.launches) from ∙ at)) x.listed

  -- all walks from a launch
  start_best : (entry : Entry) (ms : List ℕ) → row_in rows launch.node ≡ Some entry → Traces rows end.node launch.node ms
      → BestOf (comes_before rank before) (IsOf cone place i [] []) (Some (walk_by (launch.offer -ℤ entry.total) (launch.node ∷ ms)))
  start_best entry ms row tr = (
    record {
      is = joined cone place i end launch ms entry.total there at (found rank cone end.node rows good h ms launch.node entry tr row);
      to = refl;
      from = refl;
      next = launch.node;
      rest = ms;
      nodes = refl;
      free = refl;
    },
    λ v c.
        let l = from_launch v (c.is, c.to) c.from in
        let b = least rank cone end.node rows good h ranked l.rest launch.node l.sum l.adds in
        let total : b.entry.total ≡ entry.total = ap (λ (x : Entry). x.total) (same_Some b.entry entry (sym b.row ∙ row)) in
        let most = b.most in
        let is = l.is in
        let le : (launch.offer -ℤ entry.total) ≤ℤ v.slack = omega (arith, ints) in
        not_before rank before v (walk_by (launch.offer -ℤ entry.total) (launch.node ∷ ms)) le
        (λ e. (let tie : l.sum ≡ b.entry.total = omega (arith, ints) in
        begun rank before v (walk_by (launch.offer -ℤ entry.total) (launch.node ∷ ms)) launch.node [] ms l.rest refl l.whole (b.order tie ms tr))),
  )

  start-by : (o : Option Entry) → row_in rows launch.node ≡ o → IsBranched rank before cone rows end.node place i [] [] (start_by place i launch o)
  start-by None row =
      λ v c. let l = from_launch v (c.is, c.to) c.from in
      let b = least rank cone end.node rows good h ranked l.rest launch.node l.sum l.adds in
      none-some b.entry (sym row ∙ b.row)
  start-by (Some entry) row =
      let t = traced rank cone end.node rows good h (suc launch.node) launch.node entry (omega arith) row in
      record {
        to = refl;
        from = refl;
        bars = refl;
        long = refl;
        walk = walk_by (launch.offer -ℤ entry.total) (launch.node ∷ t.0);
        shown = record { slack = refl; to = refl; from = refl; rest = t.0; nodes = refl; traces = t.1 };
        best = start_best entry t.0 row t.1;
      }

  pub started : IsBranched rank before cone rows end.node place i [] [] (start_by place i launch (row_in rows launch.node))
  started = start-by (row_in rows launch.node) refl

  -- walks that begin with a stem
  module _ (kept : List ℕ) (node : ℕ) (room : ℤ) (stem : IsStem cone launch kept node room) where
    stem_whole : (ns : List ℕ) → kept ++ ns ≡ launch.node ∷ (stem.rest ++ ns)
    stem_whole ns = ap (λ ps. ps ++ ns) stem.whole

    pub stem_walk : (ns : List ℕ) (t : ℤ) → walk_sum ◌==◌ (delay_between cone) end.node node ns ≡ Some t → IsWalk cone (walk_by (room -ℤ t) (kept ++ ns))
    stem_walk ns t on =
        let whole : sum_from launch.node (stem.rest ++ ns) ≡ Some (stem.sum +ℤ t) =
        parted cone end.node launch.node stem.rest ns ∙ ap (λ o. plus_some o (sum_from (last_of launch.node stem.rest) ns)) stem.adds
        ∙ ap (λ n. plus_some (Some stem.sum) (sum_from n ns)) stem.last ∙ ap (plus_some (Some stem.sum)) on in
        let leaves = stem.leaves in
        let slack : launch.offer -ℤ (stem.sum +ℤ t) ≡ room -ℤ t = omega (arith, ints) in
        subst (λ s. IsWalk cone (walk_by s (kept ++ ns))) slack
        (subst (λ ps. IsWalk cone (walk_by (launch.offer -ℤ (stem.sum +ℤ t)) ps)) (sym (stem_whole ns))
        (joined cone place i end launch (stem.rest ++ ns) (stem.sum +ℤ t) there at whole))

    pub stem_behind : (v : Walk) → IsTo cone place v → v.launch ≡ i → (ns : List ℕ) → v.nodes ≡ kept ++ ns → Behind cone end.node node room ns v.slack
    stem_behind v to from ns nodes =
        let l = from_launch v to from in
        let rest : l.rest ≡ stem.rest ++ ns = ap behind (sym l.whole ∙ nodes ∙ stem_whole ns) in
        let adds : plus_some (path_sum cone launch.node stem.rest) (sum_from (last_of launch.node stem.rest) ns) ≡ Some l.sum =
        sym (parted cone end.node launch.node stem.rest ns) ∙ ap (sum_from launch.node) (sym rest) ∙ l.adds in
        let parts = plus_parts (path_sum cone launch.node stem.rest) (sum_from (last_of launch.node stem.rest) ns) l.sum adds in
        let same : parts.x ≡ stem.sum = same_Some parts.x stem.sum (sym parts.left ∙ stem.adds) in
        let leaves = stem.leaves in
        let is = l.is in
        let sum = parts.is in
        record {
          sum = parts.y;
          adds = subst (λ n. sum_from n ns ≡ Some parts.y) stem.last parts.right;
          is = omega (arith, ints);
        }

    module _ (barred : List ℕ) where
      -- an entry that a walk of the class takes
      pub record Taken (v : Walk) (m : ℕ) (ns : List ℕ) : Type 0 where
        pub sum : ℤ
        pub is : room -ℤ sum ≡ v.slack
        pub entry : Entry
        pub next : entry.next ≡ m
        pub free : IsFree cone rows barred node entry
        pub some : IsSome (delay_between cone node m)
        pub low : m < count_of cone
        pub most : sum ≤ℤ entry.total
        pub order : sum ≡ entry.total → (ms : List ℕ) → Traces rows end.node m ms → is_gt (slice_cmp nat_cmp (map rank ms) (map rank ns)) ≡ false

      taken : (v : Walk) → IsTo cone place v → v.launch ≡ i → (m : ℕ) (ns : List ℕ) → v.nodes ≡ kept ++ (m ∷ ns) → is_barred barred m ≡ false → Taken v m ns
      taken v to from m ns nodes free =
          let k = stem_behind v to from (m ∷ ns) nodes in
          let parts = plus_parts (delay_between cone node m) (sum_from m ns) k.sum k.adds in
          let b = least rank cone end.node rows good h ranked ns m parts.y parts.right in
          let is = parts.is in
          let most = b.most in
          record {
            sum = k.sum;
            is = k.is;
            entry = record { total = parts.x +ℤ b.entry.total; next = m };
            next = refl;
            free = (m, free, ap (λ o. through m o (delay_between cone node m)) b.row ∙ ap (through m (Some b.entry)) parts.left);
            some = subst IsSome (sym parts.left) refl;
            low = row_low rank cone end.node rows good h m b.entry b.row;
            most = omega (arith, ints);
            order = λ e. b.order (omega (arith, ints));
          }

      stem_best : (entry : Entry) (ms : List ℕ) → BestOf (ahead rank) (IsFree cone rows barred node) (Some entry) → Traces rows end.node entry.next ms
          → BestOf (comes_before rank before) (IsOf cone place i kept barred) (Some (walk_by (room -ℤ entry.total) (kept ++ (entry.next ∷ ms))))
      stem_best entry ms best tr =
          let w = way cone rows barred node entry best.0 in
          let tail = found rank cone end.node rows good h ms entry.next w.after tr w.row in
          let on : sum_from node (entry.next ∷ ms) ≡ Some entry.total =
          ap (λ o. plus_some o (sum_from entry.next ms)) w.arc ∙ ap (plus_some (Some w.delay)) tail ∙ ap Some w.total in (
            record {
              is = stem_walk (entry.next ∷ ms) entry.total on;
              to = refl;
              from = refl;
              next = entry.next;
              rest = ms;
              nodes = refl;
              free = way_free cone rows barred node entry best.0;
            },
            λ v c.
                let t = taken v (c.is, c.to) c.from c.next c.rest c.nodes c.free in
                let off = best.1 t.entry t.free in
                let below = not_ahead rank t.entry entry off in
                let most = t.most in
                let is = t.is in
                let le : (room -ℤ entry.total) ≤ℤ v.slack = omega (arith, ints) in
                not_before rank before v (walk_by (room -ℤ entry.total) (kept ++ (entry.next ∷ ms))) le
                (λ e. (let tie : t.sum ≡ t.entry.total = omega (arith, ints) in
                let even : t.entry.total ≡ entry.total = omega (arith, ints) in
                let ordered : rank entry.next ≤ rank c.next = subst (λ m. rank entry.next ≤ rank m) t.next (tied_ahead rank t.entry entry off even) in
                begun rank before v (walk_by (room -ℤ entry.total) (kept ++ (entry.next ∷ ms))) launch.node stem.rest (entry.next ∷ ms) (c.next ∷ c.rest)
                (stem_whole (entry.next ∷ ms)) (c.nodes ∙ stem_whole (c.next ∷ c.rest))
                (by_rank rank entry.next c.next ms c.rest ordered
                (λ same. ranked node entry.next c.next (row_low rank cone end.node rows good h entry.next w.after w.row) t.low (subst IsSome (sym w.arc) refl) t.some same)
                (λ same. t.order tie ms (subst (λ j. Traces rows end.node j ms) same tr))))),
          )

      pub branched : (source k : ℕ) → k ≡ length kept → (o : Option Entry) → BestOf (ahead rank) (IsFree cone rows barred node) o
          → IsBranched rank before cone rows end.node place i kept barred (branch_by place i source k room barred o)
      branched source k long None best = λ v c. let t = taken v (c.is, c.to) c.from c.next c.rest c.nodes c.free in best t.entry t.free
      branched source k long (Some entry) best =
          let w = way cone rows barred node entry best.0 in
          let t = traced rank cone end.node rows good h (suc entry.next) entry.next w.after (omega arith) w.row in
          record {
            to = refl;
            from = refl;
            bars = refl;
            long = long;
            walk = walk_by (room -ℤ entry.total) (kept ++ (entry.next ∷ t.0));
            shown = record { slack = refl; to = refl; from = refl; rest = t.0; nodes = refl; traces = t.1 };
            best = stem_best entry t.0 best t.1;
          }
