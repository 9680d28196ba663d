-- The times of a path: arrivals up to its launch node, and sums of delays after it.

use Rattle.std.proofs.Common.{◌≡◌, ℕ, ℤ, ◌+ℤ◌, pos, List, [], ◌∷◌, ◌++◌, map, Option, Some, refl, sym, ap, ◌∙◌, inl, inr}
use Rattle.std.specs.Prelude.{Contains}
use Rattle.std.specs.Option.{option_map_or, unwrap_or}
use Rattle.std.proofs.lemmas.List.{append_assoc}
use Rattle.timing_defs.specs.declared.kinds.Split.{Split}
use Rattle.timing_defs.specs.declared.kinds.Tran.{Tran}
use Rattle.timing_defs.specs.declared.design.Design.{Design}
use Rattle.timing_defs.specs.Netlist.{Node}
use Rattle.timing_rules.specs.Rows.{arrival, delay, launch_edges}
use Rattle.timing_defs.specs.RowTimes.{plus_some}
use Rattle.timing_rules.specs.Tests.{network_walk}
use Rattle.timing_rules.specs.Paths.{Named, named, node_named, delay_between, walk_delay, times_along, path_times}
use Rattle.timing_defs.proofs.Members.{some_is}
use Rattle.path_search.specs.Runs.{AreSteps, end_of, IsTimed, IsNetworkWalk}
use Rattle.path_search.specs.Launches.{IsWhole, IsByWalk, IsAlone, IsParted, IsLaunched, IsTail, begin_names, time_at, before_end, before_last, begin_times}
use Rattle.path_search.proofs.Prefixes.{from_one, walk_is_told, off_walk}
use Rattle.path_search.proofs.NodeNames.{named_back, name_told, joined_in}
use Rattle.path_search.proofs.PrefixSums.{sum_back, arrival_starts, arrival_more}
use Rattle.path_search.proofs.Starts.{started}
use Rattle.path_search.proofs.Joins.{joins}
use Rattle.path_search.proofs.Launching.{parts_of, tail_told}

heads_same : {X : Type 0} (x y : X) (xs ys : List X) → x ∷ xs ≡ y ∷ ys → (x ≡ y) × (xs ≡ ys)
heads_same x y xs ys e = (cc, cc)

-- the times along a run of network nodes and on
pub record IsTimedRun (d : Design) (split : Split) (edge : ℕ × Tran) (n : Node) (ms : List Node) (post : List Named) (time : ℤ) : Type 0 where
  pub end : ℤ
  pub arrives : arrival d split (end_of n ms) edge ≡ Some end
  pub times : times_along d split time (named n) (map named ms ++ post) ≡ map (time_at d split edge) (before_end n ms) ++ times_along d split end (named (end_of n ms)) post

module _ (d : Design) (t : IsTimed d) (split : Split) (edge : ℕ × Tran) where
  pub times_of_steps : Contains (launch_edges d) edge → (n : Node) (ms : List Node) → AreSteps d n ms → (post : List Named) (time : ℤ) → arrival d split n edge ≡ Some time
      → (sum : ℤ) → walk_delay d split (named n) (map named ms ++ post) ≡ Some sum → IsTimedRun d split edge n ms post time
  times_of_steps launched n [] s post time e sum f = record { end = time; arrives = e; times = refl }
  times_of_steps launched n (m ∷ ms) s post time e sum f =
      let z = sum_back (delay_between d split (named n) (named m)) (walk_delay d split (named m) (map named ms ++ post)) sum f in
      let takes : delay d split n m ≡ Some z.left = sym (joined_in d t split n m s.0.within s.0.arc) ∙ z.left_is in
      let later : arrival d split m edge ≡ Some (time +ℤ z.left) =
      arrival_more d t split edge launched m n s.0.within s.0.network s.0.arc (from_one d t m n s.0.within s.0.network s.0.arc) ∙ (λ k. plus_some (e k) (takes k)) in
      let r = times_of_steps launched m ms s.1 post (time +ℤ z.left) later z.right z.right_is in
      record {
        end = r.end;
        arrives = r.arrives;
        times =
            ap (λ (o : Option ℤ). time ∷ times_along d split (time +ℤ unwrap_or o (pos 0)) (named m) (map named ms ++ post)) z.left_is
            ∙ ap (λ (xs : List ℤ). time ∷ xs) r.times
            ∙ ap (λ (o : Option ℤ). unwrap_or o (pos 0) ∷ (map (time_at d split edge) (before_end m ms) ++ times_along d split r.end (named (end_of m ms)) post)) (sym e);
      }

  module _ (path : List Named) (launch : Named) (length : ℤ) (w : IsWhole d split edge path launch length) (p : IsParted d split edge path launch length) where
    whole_times : path_times d split path ≡ times_along d split w.time w.first w.more
    whole_times =
        ap (path_times d split) w.nodes
        ∙ ap (λ o. option_map_or (λ (g, time). times_along d split time w.first w.more) o []) w.starts

    run_end : (walk : List Node) (r : IsNetworkWalk d walk p.node) (time : ℤ) (run : IsTimedRun d split edge r.first r.rest p.post time) → run.end ≡ p.time
    run_end walk r time run = some_is (sym run.arrives ∙ ap (λ (n : Node). arrival d split n edge) r.ends ∙ p.arrives)

    begins_told : (walk : List Node) (r : IsNetworkWalk d walk p.node) → network_walk d p.node ≡ Some walk
        → begin_times d split edge launch ≡ map (time_at d split edge) (before_end r.first r.rest)
    begins_told walk r told =
        ap (λ o. option_map_or (λ n. option_map_or (λ v. map (time_at d split edge) (before_last v)) (network_walk d n) []) o []) p.its
        ∙ ap (λ o. option_map_or (λ v. map (time_at d split edge) (before_last v)) o []) told
        ∙ ap (λ (v : List Node). map (time_at d split edge) (before_last v)) r.begins

    by_walk : IsByWalk d edge p.node p.pre launch → path_times d split path ≡ begin_times d split edge launch ++ times_along d split p.time launch p.post
    by_walk by =
        let its = name_told d t launch p.node p.its in
        let r = walk_is_told d t p.node its.0 by.walk by.told in
        let first_its = named_back d t r.first r.within in
        let cut : named r.first ∷ map named r.rest ≡ p.pre ++ launch ∷ [] = sym (ap (map named) r.begins) ∙ by.names in
        let heads =
        heads_same w.first (named r.first) w.more (map named r.rest ++ p.post)
        (sym w.nodes ∙ p.nodes ∙ sym (append_assoc p.pre (launch ∷ []) p.post) ∙ ap (λ (xs : List Named). xs ++ p.post) (sym cut)) in
        let s = started d split w.first edge w.time w.starts in
        let node : s.node ≡ r.first = some_is (sym s.its ∙ ap (node_named d) heads.0 ∙ first_its) in
        let arrives : arrival d split r.first edge ≡ Some w.time =
        ap (λ (n : Node). arrival d split n edge) (sym node) ∙ arrival_starts d t split edge s.launched s.node (name_told d t w.first s.node s.its).0 w.time s.start in
        let walks : walk_delay d split (named r.first) (map named r.rest ++ p.post) ≡ Some w.sum =
        (λ k. walk_delay d split (sym heads.0 k) (sym heads.1 k)) ∙ w.walks in
        let run = times_of_steps s.launched r.first r.rest r.steps p.post w.time arrives w.sum walks in
        let end = run_end by.walk r w.time run in
        let name : named (end_of r.first r.rest) ≡ launch = ap named r.ends ∙ its.1 in
        let begins = begins_told by.walk r by.told in
        whole_times ∙ (λ k. times_along d split w.time (heads.0 k) (heads.1 k)) ∙ run.times
        ∙ (λ k. sym begins k ++ times_along d split (end k) (name k) p.post)

    alone : IsAlone d split edge p.time p.node p.pre launch → path_times d split path ≡ begin_times d split edge launch ++ times_along d split p.time launch p.post
    alone a =
        let begins : begin_times d split edge launch ≡ [] =
        ap (λ o. option_map_or (λ n. option_map_or (λ v. map (time_at d split edge) (before_last v)) (network_walk d n) []) o []) p.its
        ∙ ap (λ o. option_map_or (λ v. map (time_at d split edge) (before_last v)) o []) (off_walk d p.node a.outside) in
        ap (path_times d split) (p.nodes ∙ ap (λ (xs : List Named). xs ++ launch ∷ p.post) a.none)
        ∙ ap (λ o. option_map_or (λ (g, time). times_along d split time launch p.post) o []) a.start
        ∙ ap (λ (xs : List ℤ). xs ++ times_along d split p.time launch p.post) (sym begins)

    -- the times of a path in parts
    pub times_in_parts : path_times d split path ≡ begin_times d split edge launch ++ times_along d split p.time launch p.post
    times_in_parts = elim (p.begins) [ inl by ↦ by_walk by | inr a ↦ alone a ]

  -- the times of the path of a launch node and nodes after it
  pub times_of_launch : (launch : Named) (time : ℤ) → IsLaunched d split edge launch time → (post : List Named) (rest : ℤ) → IsTail d split launch post rest
      → path_times d split (begin_names d launch ++ post) ≡ begin_times d split edge launch ++ times_along d split time launch post
  times_of_launch launch time l post rest tail =
      let p = parts_of d t split edge launch time l post rest tail in
      let w = joins d t split edge (begin_names d launch ++ post) launch (time +ℤ rest) p in
      let node : p.node ≡ l.node = some_is (sym p.its ∙ l.its) in
      let same : p.time ≡ time = some_is (sym p.arrives ∙ ap (λ (n : Node). arrival d split n edge) node ∙ l.arrives) in
      let end = tail_told d t split edge launch time rest post p in
      times_in_parts (begin_names d launch ++ post) launch (time +ℤ rest) w p
      ∙ (λ k. begin_times d split edge launch ++ times_along d split (same k) launch (end k))
