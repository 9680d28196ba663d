-- The seeds that a graph's update finds are all seeds.

use Rattle.std.proofs.Common.{false, List, ℕ, ap, ◌∙◌}
use Rattle.std.specs.Option.{option_map_or}
use Rattle.timing_defs.specs.Touches.{Touch}
use Rattle.timing_rules.specs.Cones.{is_seed}
use Rattle.netlist_store.specs.Numbering.{Stored}
use Rattle.pin_graph.specs.Seeds.{AreSeeds}
use Rattle.edit_reach.specs.Reach.{HasSeeds}

pub has_seeds : (base edited : Stored) (touch : Touch) (seeds : List ℕ) → AreSeeds base edited touch seeds → HasSeeds base edited touch seeds
has_seeds base edited touch seeds are = record {
  each = λ n node at seed. are.each n ∙ ap (λ o. option_map_or (is_seed base.design edited.design touch) o false) at ∙ seed;
}
