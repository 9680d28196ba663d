use Rattle.eco_analysis.proofs.SoundLaws.{data_edited_refused}
use Rattle.eco_analysis.proofs.soundness.check_last_edited.Goals as goal

pub returns-clause-refused : goal.returns-clause-refused
returns-clause-refused c =
    data_edited_refused c.args.touched.now.nets c.args.store.now.design c.requires.edit c.requires.nets c.requires.no_loop c.requires.tree
    c.check_data_after.result c.check_data_after.ensures
