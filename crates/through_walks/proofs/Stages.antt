-- How many stages there are, and what the layered cone needs.

use Rattle.std.proofs.Common.{◌≡◌, ℕ, ◌+◌, ◌*◌, ◌<◌, ◌≤◌, List, length, take, get_or, Option, sym, subst, arith}
use Rattle.std.specs.Prelude.{All, option_map}
use Rattle.std.proofs.lemmas.List.{take_all}
use Rattle.std.proofs.Math.Nat.{min-le_left, min-le_right}
use Rattle.worst_walks.specs.declared.cones.Cone.{Cone}
use Rattle.worst_walks.specs.declared.cones.Walk.{Walk}
use Rattle.worst_walks.specs.Walks.{most_nodes, count_of, IsCone, IsOrdered, IsWorst}
use Rattle.through_walks.specs.declared.stops.Stop.{Stop}
use Rattle.through_walks.specs.Through.{IsWorstThrough}
use Rattle.through_walks.specs.Layers.{AreStages, IsLayered, known_on, rank_on, before_on, unlayered}
use Rattle.through_walks.proofs.Knowing.{all_known}
use Rattle.through_walks.proofs.Layering.{is_cone, ordered}
use Rattle.through_walks.proofs.Worst.{worst_through}

pub few_stages : (stops : List Stop) (begun : List ℕ) → All (λ s. s ≤ length stops) begun → AreStages stops begun (length stops + 1)
few_stages stops begun h = record {
  last = omega arith;
  first = λ n low.
      let less = h n 0 low in
      let is = min-le_left (get_or begun n 0) (length stops + 1) in
      omega (arith, less, is);
}

pub all_few : (stops : List Stop) (begun : List ℕ) (n : ℕ) → All (λ s. s ≤ length stops) (take n begun) → length begun ≤ n
    → AreStages stops begun (length stops + 1)
all_few stops begun n h past =
    few_stages stops begun (subst (All (λ s. s ≤ length stops)) (take_all n begun past) h)

pub more_stages : (stops : List Stop) (begun : List ℕ) → AreStages stops begun (length stops + 2)
more_stages stops begun = record {
  last = omega arith;
  first = λ n low. let is = min-le_right (get_or begun n 0) (length stops + 1) in omega (arith, is);
}

module _ (cone : Cone) (stops : List Stop) (begun : List ℕ) (k : ℕ) (layers : Cone) (good : IsCone cone) (known : length begun ≡ count_of cone)
    (stages : AreStages stops begun k) (h : IsLayered cone stops begun k layers) where
  pub cone_there : count_of cone * k < most_nodes → IsCone layers
  cone_there few = is_cone cone stops begun k layers good known stages h (let count = h.count in omega (arith, count, few))

  pub order_there : (count : ℕ) (rank : ℕ → ℕ) → IsOrdered cone count rank
      → IsOrdered layers (known_on k (count_of layers) count) (rank_on k (count_of layers) rank)
  order_there count rank order =
      subst (λ n. IsOrdered layers n (rank_on k (count_of layers) rank)) (sym (all_known k (count_of layers) (count_of cone) count order.known h.count))
      (ordered cone stops begun k layers good known stages h count rank order)

  pub worst_under : (rank : ℕ → ℕ) (before : ℕ → List ℕ) (o under : Option Walk) → count_of cone * k < most_nodes
      → IsWorst (rank_on k (count_of layers) rank) (before_on k (count_of layers) before) layers o → under ≡ option_map (unlayered k) o
      → IsWorstThrough rank before cone stops begun under
  worst_under rank before o under few best is =
      subst (IsWorstThrough rank before cone stops begun) (sym is)
      (worst_through rank before cone stops begun k layers good known stages h (let count = h.count in omega (arith, count, few)) o best)
