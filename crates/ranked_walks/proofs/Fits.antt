-- A split has the nodes that it asks for, and its sums are in range.

use Rattle.std.proofs.Common.{◌≡◌, ℕ, zero, suc, ◌+◌, ◌*◌, ◌^◌, ◌<◌, ◌≤◌, ℤ, ◌+ℤ◌, ◌-ℤ◌, ◌==◌, inl, inr, List, [], ◌∷◌, ◌++◌, length, take, drop, Option, Some, None, refl, sym, ap, subst, ◌∙◌, arith}
use Rattle.std.specs.Prelude.{slice_get, unsigned_abs}
use Rattle.std.proofs.Math.Numerals.{add-one}
use Rattle.std.proofs.lemmas.Int.{ints}
use Rattle.std.proofs.lemmas.Option.{slice_get_within, get_or_from_slice_get}
use Rattle.timing_defs.specs.RowTimes.{plus_some}
use Rattle.worst_walks.specs.declared.cones.Launch.{Launch}
use Rattle.worst_walks.specs.declared.cones.WalkEnd.{WalkEnd}
use Rattle.worst_walks.specs.declared.cones.Cone.{Cone}
use Rattle.worst_walks.specs.declared.cones.Walk.{Walk}
use Rattle.worst_walks.specs.declared.tables.Entry.{Entry}
use Rattle.worst_walks.specs.Best.{BestOf}
use Rattle.worst_walks.specs.Walks.{count_of, delay_between, walk_sum, AreRanked, IsCone, IsEnd}
use Rattle.worst_walks.specs.Tables.{row_in, ahead, IsTable}
use Rattle.worst_walks.proofs.Naming.{walk_within}
use Rattle.worst_walks.proofs.Offers.{launch_fine}
use Rattle.worst_walks.proofs.Optimal.{row_low, found, traced}
use Rattle.ranked_walks.specs.declared.branches.Branch.{Branch}
use Rattle.ranked_walks.specs.declared.branches.Tables.{Tables}
use Rattle.ranked_walks.specs.Branches.{last_of, kept_of, nodes_in, IsStem}
use Rattle.ranked_walks.specs.Outs.{best_free, outs_in, rows_at, AreTables}
use Rattle.ranked_walks.specs.Searching.{room_by, node_at, IsSplitting, IsTaken}
use Rattle.ranked_walks.specs.Fitting.{IsFine, IsRoomy, IsFit, IsAgainFit}
use Rattle.ranked_walks.proofs.Again.{node_is, node_low}
use Rattle.ranked_walks.proofs.Bests.{IsFree, way}
use Rattle.ranked_walks.proofs.OutLaws.{best_on}
use Rattle.ranked_walks.proofs.Parting.{root, take_len}
use Rattle.ranked_walks.proofs.Turning.{seam_long}
use Rattle.ranked_walks.proofs.Stems.{parted, sum_bound, path_bound}

end_fine : (cone : Cone) (place : ℕ) (end : WalkEnd) → IsCone cone → slice_get cone.ends place ≡ Some end → IsEnd cone end
end_fine cone place end good there =
    subst (IsEnd cone) (get_or_from_slice_get cone.ends place end end there) (good.ends place end (slice_get_within cone.ends place end there))

module _ (rank : ℕ → ℕ) (cone : Cone) (place : ℕ) (end : WalkEnd) (rows : List (Option Entry)) (good : IsCone cone)
    (there : slice_get cone.ends place ≡ Some end) (h : IsTable rank cone end.node rows) (i : ℕ) (launch : Launch) (at : slice_get end.launches i ≡ Some launch)
    (kept : List ℕ) (node : ℕ) (room : ℤ) (stem : IsStem cone launch kept node room) where
  in_range : (ns : List ℕ) (y : ℤ) → walk_sum ◌==◌ (delay_between cone) end.node node ns ≡ Some y
      → (unsigned_abs room ≤ 9 * 10 ^ 18) × (unsigned_abs (room -ℤ y) ≤ 9 * 10 ^ 18)
  in_range ns y on =
      let fine = end_fine cone place end good there in
      let offer = (launch_fine cone end i launch fine at).1 in
      let few = good.few in
      let from : walk_sum ◌==◌ (delay_between cone) end.node (last_of launch.node stem.rest) ns ≡ Some y = subst (λ n. walk_sum ◌==◌ (delay_between cone) end.node n ns ≡ Some y) (sym stem.last) on in
      let whole : walk_sum ◌==◌ (delay_between cone) end.node launch.node (stem.rest ++ ns) ≡ Some (stem.sum +ℤ y) =
      parted cone end.node launch.node stem.rest ns ∙ ap (λ o. plus_some o (walk_sum ◌==◌ (delay_between cone) end.node (last_of launch.node stem.rest) ns)) stem.adds ∙ ap (plus_some (Some stem.sum)) from in
      let low = (walk_within cone end.node (stem.rest ++ ns) launch.node (stem.sum +ℤ y) good fine.node whole).0 in
      let sum = sum_bound cone end.node launch.node (stem.rest ++ ns) (stem.sum +ℤ y) good fine.node whole in
      let path = (path_bound cone end.node launch.node stem.rest ns stem.sum y good fine.node stem.adds from).1 in
      let leaves = stem.leaves in
      (omega (arith, ints), omega (arith, ints))

  fine_by : (bars : List ℕ) (o : Option Entry) → BestOf (ahead rank) (IsFree cone rows bars node) o → IsFine room o
  fine_by bars None best = tt
  fine_by bars (Some entry) best =
      let w = way cone rows bars node entry best.0 in
      let t = traced rank cone end.node rows good h (suc entry.next) entry.next w.after (omega arith) w.row in
      let tail = found rank cone end.node rows good h t.0 entry.next w.after t.1 w.row in
      (in_range (entry.next ∷ t.0) entry.total
      (ap (λ o. plus_some o (walk_sum ◌==◌ (delay_between cone) end.node entry.next t.0)) w.arc ∙ ap (plus_some (Some w.delay)) tail ∙ ap Some w.total)).1

  pub fine_best : (tables : Tables) (bars : List ℕ) → AreTables rank cone tables → node < count_of cone → IsFine room (best_free rank rows bars None (outs_in tables.outs node))
  fine_best tables bars t low =
      fine_by bars (best_free rank rows bars None (outs_in tables.outs node))
      (subst (λ arcs. BestOf (ahead rank) (IsFree cone rows bars node) (best_free rank rows bars None arcs)) (sym (t.outs.each node low)) (best_on rank rows bars cone node end.node good h))

pub fit_at : (rank : ℕ → ℕ) (before : ℕ → List ℕ) (cone : Cone) (tables : Tables) (given : List Walk) (walk : Walk) (bs : List Branch) (last : ℕ) → IsCone cone → AreRanked cone rank → AreTables rank cone tables
    → IsSplitting rank before cone tables given walk bs last → last + 1 < length walk.nodes → IsFit rank cone tables walk last
fit_at rank before cone tables given walk bs last good ranked t s more =
    let h = t.rows walk.end s.end s.there in
    let r = root rank before cone tables given walk bs last good ranked t s in
    let low = row_low rank cone s.end.node (rows_at tables walk.end) good h (node_at walk last) r.entry r.row in
    let tail = found rank cone s.end.node (rows_at tables walk.end) good h (drop (suc last) walk.nodes) (node_at walk last) r.entry s.traces r.row in
    let room_is : room_by walk.slack (row_in (rows_at tables walk.end) (node_at walk last)) ≡ walk.slack +ℤ r.entry.total = ap (room_by walk.slack) r.row in
    let next = add-one last in
    record {
      end = slice_get_within cone.ends walk.end s.end s.there;
      more = more;
      node = low;
      room = subst (IsRoomy walk.slack) (sym r.row)
          (in_range rank cone walk.end s.end (rows_at tables walk.end) good s.there h walk.launch s.launch s.at (take (suc last) walk.nodes) (node_at walk last) (walk.slack +ℤ r.entry.total) r.stem
          (drop (suc last) walk.nodes) r.entry.total tail).0;
      fine = subst (λ x. IsFine x (best_free rank (rows_at tables walk.end) (node_at walk (last + 1) ∷ []) None (outs_in tables.outs (node_at walk last)))) (sym room_is)
          (fine_best rank cone walk.end s.end (rows_at tables walk.end) good s.there h walk.launch s.launch s.at (take (suc last) walk.nodes) (node_at walk last) (walk.slack +ℤ r.entry.total) r.stem
          tables (node_at walk (last + 1) ∷ []) t low);
    }

module _ (rank : ℕ → ℕ) (before : ℕ → List ℕ) (cone : Cone) (tables : Tables) (given : List Walk) (walk : Walk) (bs : List Branch) (b : Branch)
    (good : IsCone cone) (ranked : AreRanked cone rank) (t : AreTables rank cone tables) (tk : IsTaken rank before cone tables given bs b walk) where
  kept_within : b.kept < length walk.nodes
  kept_within =
      let o = tk.open_is in
      let sh = tk.shown in
      elim o.root [
        | inl none ↦ subst (λ (ns : List ℕ). b.kept < length ns) (sym sh.nodes) (seam_long (kept_of given b) b.next sh.rest b.kept (ap (λ k. length (take k (nodes_in (slice_get given b.source)))) none ∙ sym none))
        | inr r ↦ subst (λ (ns : List ℕ). b.kept < length ns) (sym sh.nodes) (seam_long (kept_of given b) b.next sh.rest b.kept (take_len b.kept (nodes_in (slice_get given b.source)) r.long))
      ]

  fit-by : (k : ℕ) → b.kept ≡ k → IsAgainFit rank cone tables walk b k
  fit-by zero e = tt
  fit-by (suc last) e = elim tk.open_is.root [
    | inl none ↦ absurd (omega arith)
    | inr r ↦
        let o = tk.open_is in
        let low = node_low rank before cone tables given walk bs b good ranked t tk r in
        let same = node_is rank before cone tables given walk bs b good ranked t tk last e r in
        let within = kept_within in
        record {
          end = slice_get_within cone.ends b.end o.end o.there;
          more = omega arith;
          node = subst (λ n. n < count_of cone) (sym same) low;
          fine = subst (λ n. IsFine b.room (best_free rank (rows_at tables b.end) (b.barred ++ node_at walk (last + 1) ∷ []) None (outs_in tables.outs n))) (sym same)
              (fine_best rank cone b.end o.end (rows_at tables b.end) good o.there (t.rows b.end o.end o.there) b.launch o.launch o.at (kept_of given b) r.node b.room r.stem
              tables (b.barred ++ node_at walk (last + 1) ∷ []) t low);
        }
  ]

  pub again_fit : IsAgainFit rank cone tables walk b b.kept
  again_fit = fit-by b.kept refl
