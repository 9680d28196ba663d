use Rattle.bounded_slack.proofs.Keys.{empty_map}
use Rattle.bounded_slack.proofs.reached.Reached.new.Goals as goal

pub returns : goal.returns
returns c = empty_map c.new.result c.new.ensures.empty
