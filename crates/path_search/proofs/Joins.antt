-- A launch node that arrives on an edge and nodes outside the clock network after it are a path, behind the walk to the launch node.

use Rattle.std.proofs.Common.{◌≡◌, ℕ, ℤ, ◌+ℤ◌, pos, Bool, List, [], ◌∷◌, ◌++◌, map, Some, refl, sym, ap, ◌∙◌, inl, inr, arith}
use Rattle.std.specs.Prelude.{if◌then◌else◌}
use Rattle.std.proofs.lemmas.Int.{ints}
use Rattle.std.proofs.lemmas.List.{append_assoc}
use Rattle.timing_defs.specs.declared.kinds.Split.{Split}
use Rattle.timing_defs.specs.declared.kinds.Tran.{Tran}
use Rattle.timing_defs.specs.declared.design.Design.{Design}
use Rattle.timing_defs.specs.Netlist.{Node}
use Rattle.timing_defs.specs.RowTimes.{plus_some}
use Rattle.timing_rules.specs.Rows.{start_at}
use Rattle.timing_rules.specs.Tests.{first_edge}
use Rattle.timing_rules.specs.Paths.{Named, named, walk_delay, is_network_named, launch_node, last_of}
use Rattle.timing_defs.proofs.Members.{some_is}
use Rattle.path_search.specs.Runs.{AreSteps, end_of, IsTimed}
use Rattle.path_search.specs.Launches.{IsWhole, IsByWalk, IsAlone, IsParted}
use Rattle.path_search.proofs.Prefixes.{walk_is_told}
use Rattle.path_search.proofs.NodeNames.{named_back, name_told, network_of}
use Rattle.path_search.proofs.PrefixSums.{sum_back, walk_append, sums_of_walk}
use Rattle.path_search.proofs.Starts.{started, started_port}
use Rattle.path_search.proofs.PathParts.{launch_out}

pub last_named : (n : Node) (ms : List Node) → last_of (named n) (map named ms) ≡ named (end_of n ms)
last_named n [] = refl
last_named n (m ∷ ms) = last_named m ms

launch_append : (d : Design) (n : Named) (ms more : List Named) → launch_node d n (ms ++ more) ≡ launch_node d (launch_node d n ms) more
launch_append d n [] more = refl
launch_append d n (m ∷ ms) more = launch_append d (if is_network_named d m then m else n) ms more

module _ (d : Design) (t : IsTimed d) where
  launch_steps : (n : Node) (ms : List Node) → AreSteps d n ms → launch_node d (named n) (map named ms) ≡ named (end_of n ms)
  launch_steps n [] s = refl
  launch_steps n (m ∷ ms) s =
      ap (λ (b : Bool). launch_node d (if b then named m else named n) (map named ms)) (network_of d t m s.0.within ∙ s.0.network)
      ∙ launch_steps m ms s.1

  module _ (split : Split) (edge : ℕ × Tran) (path : List Named) (launch : Named) (length : ℤ) (p : IsParted d split edge path launch length) where
    joins_walk : IsByWalk d edge p.node p.pre launch → IsWhole d split edge path launch length
    joins_walk by =
        let its = name_told d t launch p.node p.its in
        let r = walk_is_told d t p.node its.0 by.walk by.told in
        let first_its = named_back d t r.first r.within in
        let starts = started_port d split (named r.first) r.first edge first_its r.port (sym (ap (first_edge d) r.begins) ∙ by.edge_is) in
        let s = started d split (named r.first) edge (pos 0) starts in
        let same : s.node ≡ r.first = some_is (sym s.its ∙ first_its) in
        let begin : start_at d split r.first edge ≡ Some (pos 0) = ap (λ (n : Node). start_at d split n edge) (sym same) ∙ s.start in
        let along : plus_some (start_at d split r.first edge) (walk_delay d split (named r.first) (map named r.rest)) ≡ Some p.time =
        sym (sums_of_walk d t split edge s.launched p.node by.walk r) ∙ p.arrives in
        let sum = sum_back (start_at d split r.first edge) (walk_delay d split (named r.first) (map named r.rest)) p.time along in
        let zero : sum.left ≡ pos 0 = some_is (sym sum.left_is ∙ begin) in
        let end : named (end_of r.first r.rest) ≡ launch = ap named r.ends ∙ its.1 in
        let cut : named r.first ∷ map named r.rest ≡ p.pre ++ launch ∷ [] = sym (ap (map named) r.begins) ∙ by.names in
        let walks : walk_delay d split (named r.first) (map named r.rest ++ p.post) ≡ Some (sum.right +ℤ p.rest) =
        walk_append d split (named r.first) (map named r.rest) p.post
        ∙ ap (λ (n : Named). plus_some (walk_delay d split (named r.first) (map named r.rest)) (walk_delay d split n p.post)) (last_named r.first r.rest ∙ end)
        ∙ (let a = sum.right_is in let b = p.walks in λ k. plus_some (a k) (b k)) in
        let u = sum.left in
        let v = sum.right in
        let time = p.time in
        let rest = p.rest in
        let both : u +ℤ v ≡ time = sum.both in
        let none : u ≡ pos 0 = zero in
        let all : time +ℤ rest ≡ length = p.total in
        let total : pos 0 +ℤ (v +ℤ rest) ≡ length = omega (arith, ints, both, none, all) in
        record {
          first = named r.first;
          more = map named r.rest ++ p.post;
          nodes = p.nodes ∙ sym (append_assoc p.pre (launch ∷ []) p.post) ∙ ap (λ (xs : List Named). xs ++ p.post) (sym cut);
          time = pos 0;
          starts = starts;
          sum = v +ℤ rest;
          walks = walks;
          total = total;
          last =
              launch_append d (named r.first) (map named r.rest) p.post
              ∙ ap (λ (n : Named). launch_node d n p.post) (launch_steps r.first r.rest r.steps ∙ end)
              ∙ launch_out d launch p.post p.outside;
        }

    joins_alone : IsAlone d split edge p.time p.node p.pre launch → IsWhole d split edge path launch length
    joins_alone alone = record {
      first = launch;
      more = p.post;
      nodes = p.nodes ∙ ap (λ (xs : List Named). xs ++ launch ∷ p.post) alone.none;
      time = p.time;
      starts = alone.start;
      sum = p.rest;
      walks = p.walks;
      total = p.total;
      last = launch_out d launch p.post p.outside;
    }

    -- parts are a path
    pub joins : IsWhole d split edge path launch length
    joins = elim (p.begins) [ inl by ↦ joins_walk by | inr alone ↦ joins_alone alone ]
