use Rattle.std.proofs.Common.{◌∙◌, Some, ap}
use Rattle.design_link.proofs.Orders.{least_at_place}
use Rattle.design_link.proofs.least.least_name.Goals as goal

pub returns : goal.returns
returns c =
    ap Some c.in_ok-name.ensures
    ∙ least_at_place c.args.names.now c.least_place-place.result c.least_place-place.ensures.within c.least_place-place.ensures.least
