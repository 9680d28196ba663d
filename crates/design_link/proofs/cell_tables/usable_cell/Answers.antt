use Rattle.std.proofs.Common.{◌∙◌, sym, ap}
use Rattle.std.specs.Prelude.{slice_get, option_and_then}
use Rattle.design_link.proofs.LinkLaws.{not_late}
use Rattle.design_link.proofs.cell_tables.usable_cell.Goals as goal

pub returns-in-Some : goal.returns-in-Some
returns-in-Some c = λ early all.
    c.usable_at.ensures early c.args.name.now all (ap (option_and_then (slice_get c.args.late.now.cells)) c.in-Some.ensures ∙ c.requires c.args.name.now)

pub returns-in-None : goal.returns-in-None
returns-in-None c = λ early all.
    not_late early c.args.late.now c.args.name.now c.args.table.now.agree all
    (sym (ap (option_and_then (slice_get c.args.late.now.cells)) c.in-None.ensures ∙ c.requires c.args.name.now))
