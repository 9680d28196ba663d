use Rattle.std.proofs.Common.{sym, ◌∙◌}
use Rattle.affected_cone.proofs.trees.keeps_network.Goals as goal

pub returns : goal.returns
returns c = λ yes. record { places = c.same_places.ensures yes; off = sym c.any_placed.ensures ∙ c.if-any_placed.false }
