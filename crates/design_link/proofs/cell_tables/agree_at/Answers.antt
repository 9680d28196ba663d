use Rattle.std.proofs.Common.{◌∙◌, sym, ap}
use Rattle.std.specs.Prelude.{is_some}
use Rattle.std.proofs.lemmas.Bool.{true≢false}
use Rattle.timing_defs.proofs.Members.{some_is}
use Rattle.design_link.proofs.LinkLaws.{agree_told}
use Rattle.design_link.proofs.cell_tables.agree_at.Goals as goal

pub returns-in-Some : goal.returns-in-Some
returns-in-Some c = λ early late cell all here. some_is (c.in-Some.ensures.value ∙ agree_told early c.args.table.now.agree late c.args.place cell all here)

pub returns-in-None : goal.returns-in-None
returns-in-None c = λ early late cell all here.
    absurd (true≢false (ap is_some (sym (c.in-None.ensures.value ∙ agree_told early c.args.table.now.agree late c.args.place cell all here))))
