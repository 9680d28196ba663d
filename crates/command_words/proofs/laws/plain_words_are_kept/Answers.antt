use Rattle.command_words.proofs.PlainRun.{plain_run}
use Rattle.command_words.proofs.PlainJournal.{plain_journal}
use Rattle.command_words.proofs.PlainGenerate.{plain_generate}
use Rattle.command_words.proofs.laws.plain_words_are_kept.Goals as goal

pub returns-clause-run : goal.returns-clause-run
returns-clause-run c = λ e l n k s w x xs plain few.
    plain_run e l n k s w x xs plain.0 plain.1.0 plain.1.1.0 plain.1.1.1.0 plain.1.1.1.1.0 plain.1.1.1.1.1.0 plain.1.1.1.1.1.1.0 plain.1.1.1.1.1.1.1 few

pub returns-clause-generate : goal.returns-clause-generate
returns-clause-generate c = λ n g e plain. plain_generate n g e plain.0 plain.1.0 plain.1.1.0

pub returns-clause-journal : goal.returns-clause-journal
returns-clause-journal c = λ j e l n k s w x xs plain few.
    plain_journal j e l n k s w x xs plain.0 plain.1.0 plain.1.1.0 plain.1.1.1.0 plain.1.1.1.1.0 plain.1.1.1.1.1.0 plain.1.1.1.1.1.1.0 plain.1.1.1.1.1.1.1.0
    plain.1.1.1.1.1.1.1.1 few
