use Rattle.what_if.proofs.DraftLaws.{dropped_follows}
use Rattle.what_if.proofs.trials.dropped.Goals as goal

pub returns-then-drop_last : goal.returns-then-drop_last
returns-then-drop_last c = dropped_follows c.args.draft.now c.drop_last.new.self c.if-drop_last.ensures
