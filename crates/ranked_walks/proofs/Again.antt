-- What a branch's class splits into at the nodes that the branch keeps.

use Rattle.std.proofs.Common.{◌≡◌, ℕ, zero, suc, ◌<◌, ◌≤◌, ◌-ℤ◌, false, ◌⊎◌, inl, inr, List, [], ◌∷◌, ◌++◌, length, take, drop, Option, Some, None, refl, sym, ap, subst, ◌∙◌, arith}
use Rattle.std.specs.Prelude.{slice_get, slice_index}
use Rattle.std.specs.List.{AllByRecursion}
use Rattle.std.proofs.Math.Seq.{take-append_seam}
use Rattle.std.proofs.lemmas.Bool.{cases_eq}
use Rattle.std.proofs.lemmas.List.{append_assoc}
use Rattle.std.proofs.lemmas.Option.{slice_get_within, get_or_from_slice_get}
use Rattle.worst_walks.specs.declared.cones.WalkEnd.{WalkEnd}
use Rattle.worst_walks.specs.declared.cones.Cone.{Cone}
use Rattle.worst_walks.specs.declared.cones.Walk.{Walk}
use Rattle.worst_walks.specs.declared.tables.Entry.{Entry}
use Rattle.worst_walks.specs.Best.{BestOf}
use Rattle.worst_walks.specs.Walks.{count_of, comes_before, AreRanked, IsCone, IsEnd}
use Rattle.worst_walks.specs.Tables.{ahead, IsTable, Traces}
use Rattle.worst_walks.proofs.Naming.{walk_within}
use Rattle.ranked_walks.specs.declared.branches.Branch.{Branch}
use Rattle.ranked_walks.specs.declared.branches.Tables.{Tables}
use Rattle.ranked_walks.specs.Branches.{is_barred, last_of, branch_by, kept_of, nodes_in, InBranch, IsOf, IsShown, IsStem, IsBranched}
use Rattle.ranked_walks.specs.Outs.{best_free, outs_in, rows_at, AreTables}
use Rattle.ranked_walks.specs.Searching.{again_kept, node_at, made_list, HasOne, IsRooted, IsOpen, IsUnder, WaitsUnder, WaitsIn, Nothing, IsSearched, IsSplitting, IsTaken}
use Rattle.ranked_walks.proofs.Bests.{IsFree, from_launch, stem_behind, branched}
use Rattle.ranked_walks.proofs.Classes.{added}
use Rattle.ranked_walks.proofs.Firsts.{left_more}
use Rattle.ranked_walks.proofs.OutLaws.{best_on}
use Rattle.ranked_walks.proofs.Parting.{take_len}
use Rattle.ranked_walks.proofs.Splits.{head_same_as, last_given}
use Rattle.ranked_walks.proofs.Turning.{given_step, at_seam, behind_seam, before_seam, seam_long, last_at, barred_parts, barred_both}

grown : (ws : List Walk) (walk : Walk) → length ws < length (ws ++ walk ∷ [])
grown [] walk = omega arith
grown (w ∷ ws) walk = let rest = grown ws walk in omega arith

module _ (rank : ℕ → ℕ) (before : ℕ → List ℕ) (cone : Cone) (tables : Tables) (given : List Walk) (walk : Walk) (bs : List Branch) (b : Branch)
    (good : IsCone cone) (ranked : AreRanked cone rank) (t : AreTables rank cone tables) (tk : IsTaken rank before cone tables given bs b walk) where
  abbrev kept : List ℕ
  kept = kept_of given b

  abbrev rows : List (Option Entry)
  rows = rows_at tables b.end

  long : length kept ≡ b.kept
  long = elim tk.open_is.root [
    | inl none ↦ ap (λ k. length (take k (nodes_in (slice_get given b.source)))) none ∙ sym none
    | inr r ↦ take_len b.kept (nodes_in (slice_get given b.source)) r.long
  ]

  m_is : node_at walk b.kept ≡ b.next
  m_is = ap (λ ns. slice_index ns b.kept) tk.shown.nodes ∙ at_seam kept b.next tk.shown.rest b.kept long

  free : is_barred b.barred b.next ≡ false
  free = subst (λ n. is_barred b.barred n ≡ false) (head_same_as kept tk.in_class.next b.next tk.in_class.rest tk.shown.rest (sym tk.in_class.nodes ∙ tk.shown.nodes)) tk.in_class.free

  further : take (suc b.kept) walk.nodes ≡ kept ++ (b.next ∷ [])
  further = ap (take (suc b.kept)) tk.shown.nodes ∙ before_seam kept b.next tk.shown.rest b.kept long

  abbrev under_nodes : (w : Walk) → (u : IsUnder cone walk (suc b.kept) w) → w.nodes ≡ kept ++ (b.next ∷ u.rest)
  under_nodes w u = u.nodes ∙ ap (λ ps. ps ++ u.rest) further ∙ append_assoc kept (b.next ∷ []) u.rest

  under_in : (w : Walk) → IsUnder cone walk (suc b.kept) w → InBranch cone given b w
  under_in w u = record {
    is = u.is;
    to = u.to ∙ tk.shown.to;
    from = u.from ∙ tk.shown.from;
    next = b.next;
    rest = u.rest;
    nodes = under_nodes w u;
    free = free;
  }

  to_under : (w : Walk) → (c : InBranch cone given b w) → c.next ≡ b.next → IsUnder cone walk (suc b.kept) w
  to_under w c e = record {
    is = c.is;
    to = c.to ∙ sym tk.shown.to;
    from = c.from ∙ sym tk.shown.from;
    rest = c.rest;
    nodes = c.nodes ∙ ap (λ x. kept ++ (x ∷ c.rest)) e ∙ sym (append_assoc kept (b.next ∷ []) c.rest) ∙ ap (λ ps. ps ++ c.rest) (sym further);
  }

  pub splitting : (more : List Branch) → IsSearched rank before cone tables (given ++ walk ∷ []) more (WaitsUnder cone walk (suc b.kept))
      → IsSplitting rank before cone tables given walk more b.kept
  splitting more s =
      let o = tk.open_is in
      let sh = tk.shown in
      record {
        end = o.end;
        launch = o.launch;
        there = ap (slice_get cone.ends) sh.to ∙ o.there;
        at = ap (slice_get o.end.launches) sh.from ∙ o.at;
        is = tk.in_class.is;
        within = subst (λ (ns : List ℕ). b.kept < length ns) (sym sh.nodes) (seam_long kept b.next sh.rest b.kept long);
        traces = subst (λ p. Traces (rows_at tables p) o.end.node (node_at walk b.kept) (drop (suc b.kept) walk.nodes)) (sym sh.to)
            (subst (λ n. Traces rows o.end.node n (drop (suc b.kept) walk.nodes)) (sym m_is)
            (subst (Traces rows o.end.node b.next) (sym (ap (drop (suc b.kept)) sh.nodes ∙ behind_seam kept b.next sh.rest b.kept long)) sh.traces));
        left = λ w u. tk.left w (under_in w u);
        searched = s;
      }

  h : IsTable rank cone tk.open_is.end.node rows
  h = t.rows b.end tk.open_is.end tk.open_is.there

  s0 : IsSearched rank before cone tables (given ++ walk ∷ []) bs (WaitsIn cone given b walk)
  s0 = given_step rank before cone tables given walk bs b tk

  -- where no node is kept all walks go on alike
  alike : b.kept ≡ 0 → (w : Walk) → (c : InBranch cone given b w) → c.next ≡ b.next
  alike none w c =
      let o = tk.open_is in
      let empty : kept ≡ [] = ap (λ k. take k (nodes_in (slice_get given b.source))) none in
      let l = from_launch rank before cone b.end o.end rows good ranked o.there h b.launch o.launch o.at w (c.is, c.to) c.from in
      let k = from_launch rank before cone b.end o.end rows good ranked o.there h b.launch o.launch o.at walk (tk.in_class.is, tk.in_class.to) tk.in_class.from in
      head_same_as [] c.next o.launch.node c.rest l.rest (sym (c.nodes ∙ ap (λ ps. ps ++ (c.next ∷ c.rest)) empty) ∙ l.whole)
      ∙ sym (head_same_as [] b.next o.launch.node tk.shown.rest k.rest (sym (tk.shown.nodes ∙ ap (λ ps. ps ++ (b.next ∷ tk.shown.rest)) empty) ∙ k.whole))

  unsplit : b.kept ≡ 0 → IsSearched rank before cone tables (given ++ walk ∷ []) (bs ++ []) (WaitsUnder cone walk (suc b.kept))
  unsplit none =
      added rank before cone tables (given ++ walk ∷ []) bs None Nothing (WaitsIn cone given b walk) (WaitsUnder cone walk (suc b.kept))
      (record {
        opens = tt;
        into = λ w c. c;
        back = λ w c. c;
        parts = λ w i. inr (to_under w i.0 (alike none w i.0), i.1);
        of_class = λ w c. absurd c;
        of_next = λ w u. (under_in w u.0, u.1);
        apart = λ w c u. c;
        left = λ w c. absurd c;
      }) s0

  -- where some are kept
  module _ (last : ℕ) (k : b.kept ≡ suc last) (r : IsRooted cone given tk.open_is.launch tk.open_is.end.node b) where
    abbrev bars : List ℕ
    bars = b.barred ++ node_at walk (suc last) ∷ []

    next_is : node_at walk (suc last) ≡ b.next
    next_is = ap (node_at walk) (sym k) ∙ m_is

    abbrev C : Walk → Type 0
    C w = IsOf cone b.end b.launch kept bars w

    pub node_is : node_at walk last ≡ r.node
    node_is =
        let st = r.stem in
        let size : length st.rest ≡ last = let whole = ap length (sym st.whole) ∙ long ∙ k in omega arith in
        ap (λ ns. slice_index ns last) (tk.shown.nodes ∙ ap (λ ps. ps ++ (b.next ∷ tk.shown.rest)) st.whole)
        ∙ subst (λ j. slice_index (tk.open_is.launch.node ∷ (st.rest ++ (b.next ∷ tk.shown.rest))) j ≡ last_of tk.open_is.launch.node st.rest) size
        (last_at tk.open_is.launch.node st.rest (b.next ∷ tk.shown.rest)) ∙ st.last

    of_class : (w : Walk) → C w → WaitsIn cone given b walk w
    of_class w c =
        let p = barred_parts b.barred (node_at walk (suc last)) c.next c.free in (
          record { is = c.is; to = c.to; from = c.from; next = c.next; rest = c.rest; nodes = c.nodes; free = p.0 },
          λ e. p.1 (head_same_as kept c.next b.next c.rest tk.shown.rest (sym c.nodes ∙ ap (λ (v : Walk). v.nodes) e ∙ tk.shown.nodes) ∙ sym next_is),
        )

    parts : (w : Walk) → WaitsIn cone given b walk w → C w ⊎ WaitsUnder cone walk (suc b.kept) w
    parts w i =
        let c = i.0 in
        elim (cases_eq c.next (node_at walk (suc last))) [
          | inl same ↦ inr (to_under w c (same ∙ next_is), i.1)
          | inr off ↦ inl (record { is = c.is; to = c.to; from = c.from; next = c.next; rest = c.rest; nodes = c.nodes; free = barred_both b.barred (node_at walk (suc last)) c.next c.free off })
        ]

    class_apart : (w : Walk) → C w → WaitsUnder cone walk (suc b.kept) w → ⊥
    class_apart w c u =
        (barred_parts b.barred (node_at walk (suc last)) c.next c.free).1
        (head_same_as kept c.next b.next c.rest u.0.rest (sym c.nodes ∙ under_nodes w u.0) ∙ sym next_is)

    abbrev made : Option Entry → Option Branch
    made o = branch_by b.end b.launch (length given) (suc last) b.room bars o

    kept_is : take (suc last) (nodes_in (slice_get (given ++ walk ∷ []) (length given))) ≡ kept
    kept_is =
        ap (λ o. take (suc last) (nodes_in o)) (last_given given walk) ∙ ap (take (suc last)) tk.shown.nodes
        ∙ ap (λ j. take j (kept ++ (b.next ∷ tk.shown.rest))) (sym k ∙ sym long) ∙ take-append_seam kept (b.next ∷ tk.shown.rest)

    open_by : (o : Option Entry) → IsBranched rank before cone rows tk.open_is.end.node b.end b.launch kept bars (made o)
        → AllByRecursion (IsOpen rank before cone tables (given ++ walk ∷ [])) (made_list (made o))
    open_by None f = tt
    open_by (Some entry) f =
        let o = tk.open_is in
        let within : b.kept < length walk.nodes = subst (λ (ns : List ℕ). b.kept < length ns) (sym tk.shown.nodes) (seam_long kept b.next tk.shown.rest b.kept long) in (
          record {
            end = o.end;
            launch = o.launch;
            there = o.there;
            at = o.at;
            root = inr (record {
              source = grown given walk;
              long = subst (λ (x : Option Walk). suc last ≤ length (nodes_in x)) (sym (last_given given walk)) (omega arith);
              some = omega arith;
              node = r.node;
              stem = subst (λ ps. IsStem cone o.launch ps r.node b.room) (sym kept_is) r.stem;
              apart = r.apart;
            });
            walk = f.walk;
            shown = subst (λ ps. IsShown rows o.end.node ps (record { slack = b.room -ℤ entry.total; room = b.room; end = b.end; launch = b.launch; source = length given; kept = suc last; next = entry.next; barred = bars }) f.walk) (sym kept_is) f.shown;
            best = subst (λ ps. BestOf (comes_before rank before) (IsOf cone b.end b.launch ps bars) (Some f.walk)) (sym kept_is) f.best;
          },
          tt,
        )

    into_by : (o : Option Entry) → IsBranched rank before cone rows tk.open_is.end.node b.end b.launch kept bars (made o) → (w : Walk) → C w
        → HasOne (λ c. InBranch cone (given ++ walk ∷ []) c w) (made_list (made o))
    into_by None f w c = f w c
    into_by (Some entry) f w c = inl (subst (λ ps. IsOf cone b.end b.launch ps bars w) (sym kept_is) c)

    back_by : (o : Option Entry) → (w : Walk) → HasOne (λ c. InBranch cone (given ++ walk ∷ []) c w) (made_list (made o)) → C w
    back_by None w none = absurd none
    back_by (Some entry) w one = elim one [
      | inl c ↦ subst (λ ps. IsOf cone b.end b.launch ps bars w) kept_is c
      | inr none ↦ absurd none
    ]

    abbrev best : Option Entry
    best = best_free rank rows bars None (outs_in tables.outs (node_at walk last))

    best_is : r.node < count_of cone → BestOf (ahead rank) (IsFree cone rows bars r.node) best
    best_is low =
        subst (λ n. BestOf (ahead rank) (IsFree cone rows bars r.node) (best_free rank rows bars None (outs_in tables.outs n))) (sym node_is)
        (subst (λ arcs. BestOf (ahead rank) (IsFree cone rows bars r.node) (best_free rank rows bars None arcs)) (sym (t.outs.each r.node low))
        (best_on rank rows bars cone r.node tk.open_is.end.node good h))

    split : r.node < count_of cone → IsSearched rank before cone tables (given ++ walk ∷ []) (bs ++ made_list (made best)) (WaitsUnder cone walk (suc b.kept))
    split low =
        let o = tk.open_is in
        let f = branched rank before cone b.end o.end rows good ranked o.there h b.launch o.launch o.at kept r.node b.room r.stem bars (length given) (suc last) (sym (long ∙ k)) best (best_is low) in
        added rank before cone tables (given ++ walk ∷ []) bs (made best) C (WaitsIn cone given b walk) (WaitsUnder cone walk (suc b.kept))
        (record {
          opens = open_by best f;
          into = into_by best f;
          back = back_by best;
          parts = parts;
          of_class = of_class;
          of_next = λ w u. (under_in w u.0, u.1);
          apart = class_apart;
          left = λ w c. (let i = of_class w c in left_more given walk w (tk.left w i.0) i.1);
        }) s0

  pub node_low : (r : IsRooted cone given tk.open_is.launch tk.open_is.end.node b) → r.node < count_of cone
  node_low r =
      let o = tk.open_is in
      let a = stem_behind rank before cone b.end o.end rows good ranked o.there h b.launch o.launch o.at kept r.node b.room r.stem walk (tk.in_class.is, tk.in_class.to) tk.in_class.from
      (b.next ∷ tk.shown.rest) tk.shown.nodes in
      (walk_within cone o.end.node (b.next ∷ tk.shown.rest) r.node a.sum good (end_low o.end o.there) a.adds).0
    where
      end_low : (end : WalkEnd) → slice_get cone.ends b.end ≡ Some end → end.node < count_of cone
      end_low end there =
          let fine = subst (IsEnd cone) (get_or_from_slice_get cone.ends b.end end end there) (good.ends b.end end (slice_get_within cone.ends b.end end there)) in
          fine.node

  again-by : (k : ℕ) → b.kept ≡ k → IsSplitting rank before cone tables given walk (bs ++ made_list (again_kept rank tables walk (length given) b k)) b.kept
  again-by zero e = splitting (bs ++ []) (unsplit e)
  again-by (suc last) e = elim tk.open_is.root [
    | inl none ↦ absurd (omega arith)
    | inr r ↦ splitting (bs ++ made_list (again_kept rank tables walk (length given) b (suc last))) (split last e r (node_low r))
  ]

  -- the walk is given, and the class is split at the nodes that are kept
  pub again_step : IsSplitting rank before cone tables given walk (bs ++ made_list (again_kept rank tables walk (length given) b b.kept)) b.kept
  again_step = again-by b.kept refl
