-- A walk that is given, split place by place behind the nodes where the table leads it.

use Rattle.std.proofs.Common.{◌≡◌, ℕ, zero, suc, ◌<◌, ◌≤◌, ℤ, pos, ◌+ℤ◌, ◌-ℤ◌, ◌==◌, ◌⊎◌, inl, inr, List, [], ◌∷◌, ◌++◌, length, take, drop, Option, Some, None, refl, sym, ap, subst, ◌∙◌, arith}
use Rattle.std.specs.Prelude.{◌≢◌, slice_get, slice_index}
use Rattle.std.specs.List.{AllByRecursion}
use Rattle.std.proofs.lemmas.Bool.{cases_eq, eqb-true}
use Rattle.std.proofs.lemmas.Int.{ints}
use Rattle.std.proofs.lemmas.List.{append_assoc, append-nil, take-append-drop}
use Rattle.std.proofs.lemmas.Option.{none-some, same_Some, cond_some}
use Rattle.worst_walks.specs.declared.cones.Launch.{Launch}
use Rattle.worst_walks.specs.declared.cones.WalkEnd.{WalkEnd}
use Rattle.worst_walks.specs.declared.cones.Cone.{Cone}
use Rattle.worst_walks.specs.declared.cones.Walk.{Walk}
use Rattle.worst_walks.specs.declared.tables.Entry.{Entry}
use Rattle.worst_walks.specs.Best.{BestOf}
use Rattle.worst_walks.specs.Walks.{count_of, arcs_into, delay_between, walk_sum, comes_before, AreRanked, IsCone}
use Rattle.worst_walks.specs.Tables.{row_in, ahead, IsTable, Traces}
use Rattle.worst_walks.specs.Searches.{IsTo}
use Rattle.worst_walks.proofs.Filling.{arcs_there, delay_there}
use Rattle.worst_walks.proofs.Optimal.{plus_parts, row_low, found, least}
use Rattle.ranked_walks.specs.declared.branches.Branch.{Branch}
use Rattle.ranked_walks.specs.declared.branches.Tables.{Tables}
use Rattle.ranked_walks.specs.Branches.{path_sum, last_of, branch_by, kept_of, nodes_in, InBranch, IsOf, IsShown, IsStem, IsBranched}
use Rattle.ranked_walks.specs.Outs.{best_free, outs_in, rows_at, AreTables}
use Rattle.ranked_walks.specs.Searching.{room_by, part_by, node_at, made_list, HasOne, IsOpen, IsUnder, WaitsUnder, Nothing, IsSearched, IsSplitting}
use Rattle.ranked_walks.proofs.Bests.{IsFree, from_launch, stem_behind, branched}
use Rattle.ranked_walks.proofs.Classes.{added}
use Rattle.ranked_walks.proofs.Firsts.{left_more}
use Rattle.ranked_walks.proofs.OutLaws.{best_on}
use Rattle.ranked_walks.proofs.Splits.{head_same_as, take_next, drop_next, last_given, barred_one, free_one}
use Rattle.ranked_walks.proofs.Stems.{parted}

pub take_len : {X : Type 0} (i : ℕ) (xs : List X) → i ≤ length xs → length (take i xs) ≡ i
take_len zero xs low = refl
take_len (suc i) [] low = absurd (omega arith)
take_len (suc i) (x ∷ xs) low = ap suc (take_len i xs (omega arith))

last_taken : (n : ℕ) (ns : List ℕ) (i : ℕ) → i < suc (length ns) → last_of n (take i ns) ≡ slice_index (n ∷ ns) i
last_taken n ns zero low = refl
last_taken n [] (suc i) low = absurd (omega arith)
last_taken n (m ∷ ns) (suc i) low = last_taken m ns i (omega arith)

-- the first nodes of a walk, behind which the table leads it
pub record Rooted (cone : Cone) (rows : List (Option Entry)) (launch : Launch) (walk : Walk) (last : ℕ) : Type 0 where
  pub entry : Entry
  pub row : row_in rows (node_at walk last) ≡ Some entry
  pub stem : IsStem cone launch (take (suc last) walk.nodes) (node_at walk last) (walk.slack +ℤ entry.total)

module _ (rank : ℕ → ℕ) (before : ℕ → List ℕ) (cone : Cone) (place : ℕ) (end : WalkEnd) (rows : List (Option Entry)) (good : IsCone cone) (ranked : AreRanked cone rank)
    (there : slice_get cone.ends place ≡ Some end) (h : IsTable rank cone end.node rows) (i : ℕ) (launch : Launch) (at : slice_get end.launches i ≡ Some launch) where
  abbrev sum_from : ℕ → List ℕ → Option ℤ
  sum_from n ns = walk_sum ◌==◌ (delay_between cone) end.node n ns

  rooted-by : (walk : Walk) (last : ℕ) (rest : List ℕ) (sum : ℤ) → walk.nodes ≡ launch.node ∷ rest → sum_from launch.node rest ≡ Some sum → launch.offer -ℤ sum ≡ walk.slack → last < length walk.nodes
      → Traces rows end.node (node_at walk last) (drop (suc last) walk.nodes) → Rooted cone rows launch walk last
  rooted-by walk last rest sum whole adds is within tr =
      let low : last < suc (length rest) = subst (λ (ns : List ℕ). last < length ns) whole within in
      let node : last_of launch.node (take last rest) ≡ node_at walk last = last_taken launch.node rest last low ∙ ap (λ ns. slice_index ns last) (sym whole) in
      let behind : drop (suc last) walk.nodes ≡ drop last rest = ap (drop (suc last)) whole in
      let split = sym (parted cone end.node launch.node (take last rest) (drop last rest)) ∙ ap (sum_from launch.node) (take-append-drop last rest) ∙ adds in
      let parts = plus_parts (path_sum cone launch.node (take last rest)) (sum_from (last_of launch.node (take last rest)) (drop last rest)) sum split in
      let on : sum_from (node_at walk last) (drop last rest) ≡ Some parts.y = subst (λ n. sum_from n (drop last rest) ≡ Some parts.y) node parts.right in
      let b = least rank cone end.node rows good h ranked (drop last rest) (node_at walk last) parts.y on in
      let same : parts.y ≡ b.entry.total = same_Some parts.y b.entry.total
      (sym on ∙ found rank cone end.node rows good h (drop last rest) (node_at walk last) b.entry (subst (Traces rows end.node (node_at walk last)) behind tr) b.row) in
      let adds_up = parts.is in
      record {
        entry = b.entry;
        row = b.row;
        stem = record {
          rest = take last rest;
          sum = parts.x;
          whole = ap (take (suc last)) whole;
          adds = parts.left;
          last = node;
          leaves = omega (arith, ints);
        };
      }

  pub rooted : (walk : Walk) (last : ℕ) → IsTo cone place walk → walk.launch ≡ i → last < length walk.nodes → Traces rows end.node (node_at walk last) (drop (suc last) walk.nodes)
      → Rooted cone rows launch walk last
  rooted walk last to from within tr =
      let l = from_launch rank before cone place end rows good ranked there h i launch at walk to from in
      rooted-by walk last l.rest l.sum l.whole l.adds l.is within tr

  -- nothing goes on from the end node
  beyond : (m : ℕ) (ns : List ℕ) (s : ℤ) → sum_from end.node (m ∷ ns) ≡ Some s → ⊥
  beyond m ns s e =
      let parts = plus_parts (delay_between cone end.node m) (sum_from m ns) s e in
      let b = least rank cone end.node rows good h ranked ns m parts.y parts.right in
      let low = (delay_there cone m end.node (arcs_into cone m) parts.x (arcs_there cone m good (row_low rank cone end.node rows good h m b.entry b.row)) parts.left).0 in
      none-some b.entry (sym (h.below m (omega arith)) ∙ b.row)

same_walk : (v w : Walk) → v.slack ≡ w.slack → v.launch ≡ w.launch → v.end ≡ w.end → v.nodes ≡ w.nodes → v ≡ w
same_walk v w s l e n = λ i. record { slack = s i; launch = l i; end = e i; nodes = n i }

module _ (rank : ℕ → ℕ) (before : ℕ → List ℕ) (cone : Cone) (tables : Tables) (given : List Walk) (walk : Walk) (bs : List Branch) (last : ℕ)
    (good : IsCone cone) (ranked : AreRanked cone rank) (t : AreTables rank cone tables) (s : IsSplitting rank before cone tables given walk bs last) where
  abbrev rows : List (Option Entry)
  rows = rows_at tables walk.end

  abbrev kept : List ℕ
  kept = take (suc last) walk.nodes

  abbrev node : ℕ
  node = node_at walk last

  h : IsTable rank cone s.end.node rows
  h = t.rows walk.end s.end s.there

  pub root : Rooted cone rows s.launch walk last
  root = rooted rank before cone walk.end s.end rows good ranked s.there h walk.launch s.launch s.at walk last (s.is, refl) refl s.within s.traces

  abbrev room : ℤ
  room = room_by walk.slack (row_in rows node)

  stem : IsStem cone s.launch kept node room
  stem = subst (IsStem cone s.launch kept node) (sym (ap (room_by walk.slack) root.row)) root.stem

  node_low : node < count_of cone
  node_low = row_low rank cone s.end.node rows good h node root.entry root.row

  -- at the last node of the walk nothing is left to split
  walk_same : (w : Walk) → IsUnder cone walk (suc last) w → (rest : List ℕ) → w.nodes ≡ kept ++ rest → node ≡ s.end.node → kept ≡ walk.nodes → w ≡ walk
  walk_same w u [] nodes at whole =
      let a = stem_behind rank before cone walk.end s.end rows good ranked s.there h walk.launch s.launch s.at kept node room stem w (u.is, u.to) u.from [] nodes in
      let b = stem_behind rank before cone walk.end s.end rows good ranked s.there h walk.launch s.launch s.at kept node room stem walk (s.is, refl) refl [] (sym whole ∙ sym (append-nil kept)) in
      let same : a.sum ≡ b.sum = same_Some a.sum b.sum (sym a.adds ∙ b.adds) in
      let one = a.is in
      let two = b.is in
      same_walk w walk (omega (arith, ints)) u.from u.to (nodes ∙ append-nil kept ∙ whole)
  walk_same w u (m ∷ ms) nodes at whole =
      let a = stem_behind rank before cone walk.end s.end rows good ranked s.there h walk.launch s.launch s.at kept node room stem w (u.is, u.to) u.from (m ∷ ms) nodes in
      absurd (beyond rank before cone walk.end s.end rows good ranked s.there h walk.launch s.launch s.at m ms a.sum
      (subst (λ n. walk_sum ◌==◌ (delay_between cone) s.end.node n (m ∷ ms) ≡ Some a.sum) at a.adds))

  all_taken : (i : ℕ) (xs : List ℕ) → length xs ≤ i → take i xs ≡ xs
  all_taken i [] low = nil i
    where
      nil : (i : ℕ) → take {A = ℕ} i [] ≡ []
      nil zero = refl
      nil (suc i) = refl
  all_taken zero (x ∷ xs) low = absurd (omega arith)
  all_taken (suc i) (x ∷ xs) low = ap (λ ys. x ∷ ys) (all_taken i xs (omega arith))

  none_dropped : (i : ℕ) (xs : List ℕ) → length xs ≤ i → drop i xs ≡ []
  none_dropped i [] low = nil i
    where
      nil : (i : ℕ) → drop {A = ℕ} i [] ≡ []
      nil zero = refl
      nil (suc i) = refl
  none_dropped zero (x ∷ xs) low = absurd (omega arith)
  none_dropped (suc i) (x ∷ xs) low = none_dropped i xs (omega arith)

  pub split_all : length walk.nodes ≤ suc last → IsSearched rank before cone tables (given ++ walk ∷ []) bs Nothing
  split_all low =
      let whole : kept ≡ walk.nodes = all_taken (suc last) walk.nodes low in
      let at : node ≡ s.end.node = subst (Traces rows s.end.node node) (none_dropped (suc last) walk.nodes low) s.traces in
      record {
        first = s.searched.first;
        each = s.searched.each;
        apart = s.searched.apart;
        left = s.searched.left;
        alone = λ w one none. none;
        covers = λ w is left. elim (s.searched.covers w is left) [
          | inl old ↦ inl old
          | inr waits ↦ absurd (waits.1 (walk_same w waits.0 waits.0.rest waits.0.nodes at whole))
        ];
      }

  -- one place more
  module _ (more : suc last < length walk.nodes) where
    abbrev next : ℕ
    next = node_at walk (suc last)

    abbrev behind : List ℕ
    behind = drop (suc (suc last)) walk.nodes

    next_kept : take (suc (suc last)) walk.nodes ≡ kept ++ (next ∷ [])
    next_kept = take_next (suc last) walk.nodes more

    whole : walk.nodes ≡ kept ++ (next ∷ behind)
    whole = sym (take-append-drop (suc last) walk.nodes) ∙ ap (λ ns. kept ++ ns) (drop_next (suc last) walk.nodes more)

    traces : Traces rows s.end.node node (next ∷ behind)
    traces = subst (Traces rows s.end.node node) (drop_next (suc last) walk.nodes more) s.traces

    abbrev C : Walk → Type 0
    C w = IsOf cone walk.end walk.launch kept (next ∷ []) w

    parts-by : (w : Walk) → IsUnder cone walk (suc last) w → w ≢ walk → (rest : List ℕ) → w.nodes ≡ kept ++ rest → C w ⊎ WaitsUnder cone walk (suc (suc last)) w
    parts-by w u other [] nodes =
        let a = stem_behind rank before cone walk.end s.end rows good ranked s.there h walk.launch s.launch s.at kept node room stem w (u.is, u.to) u.from [] nodes in
        absurd (traces.0 (eqb-true node s.end.node (cond_some (node == s.end.node) (pos 0) a.sum a.adds).0))
    parts-by w u other (m ∷ ms) nodes = elim (cases_eq m next) [
      | inl same ↦ inr (
        record {
          is = u.is;
          to = u.to;
          from = u.from;
          rest = ms;
          nodes = nodes ∙ ap (λ x. kept ++ (x ∷ ms)) same ∙ sym (append_assoc kept (next ∷ []) ms) ∙ ap (λ ps. ps ++ ms) (sym next_kept);
        },
        other,
      )
      | inr off ↦ inl (record { is = u.is; to = u.to; from = u.from; next = m; rest = ms; nodes = nodes; free = free_one next m off })
    ]

    of_class : (w : Walk) → C w → WaitsUnder cone walk (suc last) w
    of_class w c = (
      record { is = c.is; to = c.to; from = c.from; rest = c.next ∷ c.rest; nodes = c.nodes },
      λ e. barred_one next c.next c.free (head_same_as kept c.next next c.rest behind (sym c.nodes ∙ ap (λ (v : Walk). v.nodes) e ∙ whole)),
    )

    abbrev further : (w : Walk) → IsUnder cone walk (suc (suc last)) w → IsUnder cone walk (suc last) w
    further w u = record { is = u.is; to = u.to; from = u.from; rest = next ∷ u.rest; nodes = u.nodes ∙ ap (λ ps. ps ++ u.rest) next_kept ∙ append_assoc kept (next ∷ []) u.rest }

    class_apart : (w : Walk) → C w → WaitsUnder cone walk (suc (suc last)) w → ⊥
    class_apart w c u =
        let f = further w u.0 in
        barred_one next c.next c.free (head_same_as kept c.next next c.rest u.0.rest (sym c.nodes ∙ f.nodes))

    kept_is : (b : Branch) → b.source ≡ length given → b.kept ≡ suc last → kept_of (given ++ walk ∷ []) b ≡ kept
    kept_is b source k =
        ap (λ j. take b.kept (nodes_in (slice_get (given ++ walk ∷ []) j))) source ∙ ap (λ o. take b.kept (nodes_in o)) (last_given given walk) ∙ ap (λ j. take j walk.nodes) k

    abbrev made : Option Entry → Option Branch
    made o = branch_by walk.end walk.launch (length given) (suc last) room (next ∷ []) o

    one_longer : length given < length (given ++ walk ∷ [])
    one_longer = grows given
      where
        grows : (ws : List Walk) → length ws < length (ws ++ walk ∷ [])
        grows [] = omega arith
        grows (w ∷ ws) = let rest = grows ws in omega arith

    open_by : (o : Option Entry) → IsBranched rank before cone rows s.end.node walk.end walk.launch kept (next ∷ []) (made o)
        → AllByRecursion (IsOpen rank before cone tables (given ++ walk ∷ [])) (made_list (made o))
    open_by None f = tt
    open_by (Some entry) f =
        let b : Branch = record { slack = room -ℤ entry.total; room = room; end = walk.end; launch = walk.launch; source = length given; kept = suc last; next = entry.next; barred = next ∷ [] } in
        let k = sym (kept_is (record { slack = room -ℤ entry.total; room = room; end = walk.end; launch = walk.launch; source = length given; kept = suc last; next = entry.next; barred = next ∷ [] }) refl refl) in (
          record {
            end = s.end;
            launch = s.launch;
            there = s.there;
            at = s.at;
            root = inr (record {
              source = one_longer;
              long = subst (λ (o : Option Walk). suc last ≤ length (nodes_in o)) (sym (last_given given walk)) (omega arith);
              some = omega arith;
              node = node;
              stem = subst (λ ps. IsStem cone s.launch ps node room) k stem;
              apart = traces.0;
            });
            walk = f.walk;
            shown = subst (λ ps. IsShown rows s.end.node ps (record { slack = room -ℤ entry.total; room = room; end = walk.end; launch = walk.launch; source = length given; kept = suc last; next = entry.next; barred = next ∷ [] }) f.walk) k f.shown;
            best = subst (λ ps. BestOf (comes_before rank before) (IsOf cone walk.end walk.launch ps (next ∷ [])) (Some f.walk)) k f.best;
          },
          tt,
        )

    into_by : (o : Option Entry) → IsBranched rank before cone rows s.end.node walk.end walk.launch kept (next ∷ []) (made o) → (w : Walk) → C w
        → HasOne (λ b. InBranch cone (given ++ walk ∷ []) b w) (made_list (made o))
    into_by None f w c = f w c
    into_by (Some entry) f w c =
        let k = sym (kept_is (record { slack = room -ℤ entry.total; room = room; end = walk.end; launch = walk.launch; source = length given; kept = suc last; next = entry.next; barred = next ∷ [] }) refl refl) in
        inl (subst (λ ps. IsOf cone walk.end walk.launch ps (next ∷ []) w) k c)

    back_by : (o : Option Entry) → (w : Walk) → HasOne (λ b. InBranch cone (given ++ walk ∷ []) b w) (made_list (made o)) → C w
    back_by None w none = absurd none
    back_by (Some entry) w one =
        let k = kept_is (record { slack = room -ℤ entry.total; room = room; end = walk.end; launch = walk.launch; source = length given; kept = suc last; next = entry.next; barred = next ∷ [] }) refl refl in
        elim one [
          | inl c ↦ subst (λ ps. IsOf cone walk.end walk.launch ps (next ∷ []) w) k c
          | inr none ↦ absurd none
        ]

    abbrev best : Option Entry
    best = best_free rank rows (next ∷ []) None (outs_in tables.outs node)

    best_is : BestOf (ahead rank) (IsFree cone rows (next ∷ []) node) best
    best_is =
        subst (λ arcs. BestOf (ahead rank) (IsFree cone rows (next ∷ []) node) (best_free rank rows (next ∷ []) None arcs)) (sym (t.outs.each node node_low))
        (best_on rank rows (next ∷ []) cone node s.end.node good h)

    made_is : IsBranched rank before cone rows s.end.node walk.end walk.launch kept (next ∷ []) (made best)
    made_is =
        branched rank before cone walk.end s.end rows good ranked s.there h walk.launch s.launch s.at kept node room stem (next ∷ []) (length given) (suc last)
        (sym (take_len (suc last) walk.nodes (omega arith))) best best_is

    pub part_step : IsSplitting rank before cone tables given walk (bs ++ made_list (part_by rank tables walk (length given) last)) (suc last)
    part_step = record {
      end = s.end;
      launch = s.launch;
      there = s.there;
      at = s.at;
      is = s.is;
      within = more;
      traces = traces.2;
      left = λ w u. s.left w (further w u);
      searched = added rank before cone tables (given ++ walk ∷ []) bs (made best) C (WaitsUnder cone walk (suc last)) (WaitsUnder cone walk (suc (suc last)))
          (record {
            opens = open_by best made_is;
            into = into_by best made_is;
            back = back_by best;
            parts = λ w u. parts-by w u.0 u.1 u.0.rest u.0.nodes;
            of_class = of_class;
            of_next = λ w u. (further w u.0, u.1);
            apart = class_apart;
            left = λ w c. (let u = of_class w c in left_more given walk w (s.left w u.0) u.1);
          }) s.searched;
    }
