use Rattle.std.proofs.Common.{◌∙◌, None, sym, ap, if◌then◌else◌}
use Rattle.std.specs.Prelude.{slice_get}
use Rattle.design_link.proofs.LinkLaws.{usable_told}
use Rattle.design_link.proofs.cell_tables.usable_at.Goals as goal

pub returns-then-not-agree_at : goal.returns-then-not-agree_at
returns-then-not-agree_at c = λ early name all named.
    ap (λ b. if b then slice_get c.args.late.now.cells c.args.place else None) (sym c.if-not-agree_at.true)
    ∙ usable_told early c.args.late.now name c.args.table.now.agree all c.args.place c.agree_at.result
    (λ cell here. c.agree_at.ensures early c.args.late.now.cells cell all here) named

pub returns : goal.returns
returns c = λ early name all named.
    c.get.ensures.value
    ∙ ap (λ b. if b then slice_get c.args.late.now.cells c.args.place else None) (sym c.if-not-agree_at.false)
    ∙ usable_told early c.args.late.now name c.args.table.now.agree all c.args.place c.agree_at.result
    (λ cell here. c.agree_at.ensures early c.args.late.now.cells cell all here) named
