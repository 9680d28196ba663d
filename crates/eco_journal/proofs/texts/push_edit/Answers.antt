use Rattle.eco_journal.proofs.texts.push_edit.Goals as goal

pub returns-in-Repower : goal.returns-in-Repower
returns-in-Repower c = rw c.in-Repower.is c.push_two.ensures

pub returns-in-Disconnect : goal.returns-in-Disconnect
returns-in-Disconnect c = rw c.in-Disconnect.is c.push_one-in-Disconnect.ensures
