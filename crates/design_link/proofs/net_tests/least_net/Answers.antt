use Rattle.std.proofs.Common.{◌∙◌, ap}
use Rattle.timing_defs.specs.NetChecks.{least}
use Rattle.design_link.proofs.net_tests.least_net.Goals as goal

pub returns : goal.returns
returns c = c.in_ok-least.ensures ∙ ap least c.as_slice.ensures ∙ c.in_ok-names.ensures
