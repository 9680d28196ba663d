use Rattle.std.proofs.Common.{arith}
use Rattle.std.proofs.lemmas.Grind.{common_steps}
use Rattle.eco_journal.specs.Saved.{behind_head}
use Rattle.eco_journal.proofs.JournalLemmas.{stands_same}
use Rattle.eco_journal.proofs.saved.block_form.Goals as goal

pub returns-in-Some-eq1 : goal.returns-in-Some-eq1
returns-in-Some-eq1 c = λ t all line same before place.
    stands_same c.first_block.result (behind_head t line.at all) _ _ (grind (arith, common_steps)) (c.first_block.ensures t all line same before place)

pub returns-in-Some-eq2 : goal.returns-in-Some-eq2
returns-in-Some-eq2 c = λ t all line same before place.
    stands_same c.later_block.result (behind_head t line.at all) _ _ (grind (arith, common_steps)) (c.later_block.ensures t all line before place)
