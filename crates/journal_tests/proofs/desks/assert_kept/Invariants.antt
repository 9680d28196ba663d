use Rattle.journal_tests.specs.Logs.{setting_of}
use Rattle.journal_tests.proofs.desks.assert_kept.Given as goal

abbrev pub ghosts-kept_in_turn : goal.ghosts-kept_in_turn
ghosts-kept_in_turn g a = record { about = setting_of a.opened.board a.opened.keeper }
