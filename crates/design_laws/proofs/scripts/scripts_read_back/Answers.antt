use Rattle.design_laws.proofs.GeneratedBack.{all_scripts_back}
use Rattle.design_laws.proofs.scripts.scripts_read_back.Goals as goal

pub returns : goal.returns
returns c = λ start gates edits some few less. all_scripts_back start gates edits some few less
