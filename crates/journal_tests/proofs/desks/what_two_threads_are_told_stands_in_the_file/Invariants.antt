use Rattle.journal_tests.specs.Logs.{setting_of}
use Rattle.journal_tests.proofs.desks.what_two_threads_are_told_stands_in_the_file.Given as goal

abbrev pub ghosts-kept_beside : goal.ghosts-kept_beside
ghosts-kept_beside g a = record { about = setting_of a.opened.board a.opened.keeper }
