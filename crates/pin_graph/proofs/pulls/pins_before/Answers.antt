use Rattle.std.proofs.Common.{◌≡◌, ◌∙◌, ◌++◌, ℕ, List, map, subst}
use Rattle.std.specs.Prelude.{IfOk}
use Rattle.std.specs.Option.{option_to_list}
use Rattle.pin_graph.specs.Pulls.{from_pin}
use Rattle.pin_graph.proofs.pulls.pins_before.Goals as goal

pub returns : goal.returns
returns c =
    subst (λ (xs : List ℕ). IfOk c.tails.result (λ pins. pins ≡ xs))
    (λ k. option_to_list (c.driver_of.ensures k) ++ map from_pin ((c.as_slice.ensures ∙ c.in_ok-arcs.ensures) k)) c.tails.ensures
