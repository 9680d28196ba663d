use Rattle.live_words.proofs.PlainLive.{plain_live}
use Rattle.live_words.proofs.PlainJournal.{plain_journal}
use Rattle.live_words.proofs.laws.plain_words_are_kept.Goals as goal

pub returns-clause-live : goal.returns-clause-live
returns-clause-live c = λ e l n k s w names plain few.
    plain_live e l n k s w names plain.0 plain.1.0 plain.1.1.0 plain.1.1.1.0 plain.1.1.1.1.0 plain.1.1.1.1.1.0 plain.1.1.1.1.1.1 few

pub returns-clause-journal : goal.returns-clause-journal
returns-clause-journal c = λ j e l n k s w names plain few.
    plain_journal j e l n k s w plain.0 plain.1.0 plain.1.1.0 plain.1.1.1.0 plain.1.1.1.1.0 plain.1.1.1.1.1.0 plain.1.1.1.1.1.1.0 names plain.1.1.1.1.1.1.1 few
