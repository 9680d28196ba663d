use Rattle.std.proofs.Common.{rules, ap, ◌∙◌, FitsSigned, w64, to_z, of_z}
use Rattle.std.proofs.lemmas.Int.{to_z-of_z}
use Rattle.bounded_slack.specs.Cuts.{greater}
use Rattle.bounded_slack.proofs.Keys.{map_raised}
use Rattle.bounded_slack.proofs.reached.Reached.raise.Goals as goal

pub returns-in-Ok : goal.returns-in-Ok
returns-in-Ok c =
    let fits : FitsSigned w64 c.greater-sum.result = search rules in
    map_raised c.args.self.now.sums c.insert.new.self c.args.held.level c.args.held.node c.args.held.sum (to_z w64 (of_z w64 c.greater-sum.result))
    (to_z-of_z w64 c.greater-sum.result fits ∙ c.greater-sum.ensures ∙ ap (λ o. greater o c.args.held.sum) c.sum_of.ensures) c.in-Ok.ensures.updates
