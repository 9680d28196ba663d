use Rattle.eco_journal.proofs.Lawful.{eco_there, edit_there}
use Rattle.eco_journal.proofs.laws.eco_can_be_written.Goals as goal

pub returns-clause-text : goal.returns-clause-text
returns-clause-text c = λ bytes eco read. eco_there bytes eco read

pub returns-clause-line : goal.returns-clause-line
returns-clause-line c = λ mixed words e read. edit_there mixed words e read
