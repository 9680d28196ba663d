use Rattle.live_run.specs.Closing.{setting_of}
use Rattle.live_run.specs.Runs.{file_of}
use Rattle.live_run.proofs.runs.run_live.Given as goal

abbrev pub ghosts-run_ready-B-Room : goal.ghosts-run_ready-B-Room
ghosts-run_ready-B-Room g a = record { about = setting_of a.ready.board a.plan.now.sessions (file_of g.F.Sink.written g.F.Sink.faults a.journal) a.ready.derates a.ready.cell.table.shared.table_id }

abbrev pub ghosts-run_ready-B-LiveRoom : goal.ghosts-run_ready-B-LiveRoom
ghosts-run_ready-B-LiveRoom g a = record { lines = g.N.Hall.lines a.plan.now.hall.now; denies = g.N.Hall.denies a.plan.now.hall.now }
