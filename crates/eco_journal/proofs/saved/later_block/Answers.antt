use Rattle.std.proofs.Common.{arith}
use Rattle.std.proofs.lemmas.Grind.{common_steps}
use Rattle.eco_journal.specs.Saved.{behind_head}
use Rattle.eco_journal.proofs.JournalLemmas.{stands_same}
use Rattle.eco_journal.proofs.saved.later_block.Goals as goal

pub returns-in-None : goal.returns-in-None
returns-in-None c = λ t all line before place.
    stands_same c.scaled_head.result (behind_head t line.at all) _ _ (grind (arith, common_steps)) (c.scaled_head.ensures t all line)

pub returns-in-Some : goal.returns-in-Some
returns-in-Some c = λ t all line before place.
    stands_same c.scaled_head-in-Some.result (behind_head t line.at all) _ _ (grind (arith, common_steps)) (c.scaled_head-in-Some.ensures t all line)
