use Rattle.timed_paths.proofs.timed.timed.Goals as goal

pub returns-in-Ok-clause-timed : goal.returns-in-Ok-clause-timed
returns-in-Ok-clause-timed g c =
    let f = c.in-Ok.ensures in (f.test, f.holds, f.stages_are, f.capture_are, f.parts_are)
