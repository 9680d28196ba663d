use Rattle.journal_tests.specs.Logs.{setting_of}
use Rattle.journal_tests.proofs.desks.behind_a_put_that_fails_nothing_is_told_or_written.Given as goal

abbrev pub ghosts-kept_beside : goal.ghosts-kept_beside
ghosts-kept_beside g a = record { about = setting_of a.opened.board a.opened.keeper }
