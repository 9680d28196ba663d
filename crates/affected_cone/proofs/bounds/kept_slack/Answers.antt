use Rattle.affected_cone.proofs.bounds.kept_slack.Goals as goal

pub returns-then-branch : goal.returns-then-branch
returns-then-branch c = c.in_ok-keeps.ensures c.if-branch.true c.in-Some.ensures
