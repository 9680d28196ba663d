use Rattle.std.proofs.Common.{rules}
use Rattle.std.specs.Arc.{arc_value}
use Rattle.session_engine.proofs.Rows.{ran_all}
use Rattle.session_engine.proofs.runs.run_script.Goals as goal

pub returns-in-Ok-steps-clause-ran : goal.returns-in-Ok-steps-clause-ran
returns-in-Ok-steps-clause-ran g c =
    ran_all c.args.board.now.opening.origin c.args.board.now.opening.first c.args.who c.args.script.now c.args.seat.now.view c.steps.new.seat.view
    (arc_value c.in-Ok-steps.held) c.as_slice-commands.result.now c.steps.new.rows.items c.from_vec.result (search rules) (search rules) c.in-Ok-steps.ensures.run
