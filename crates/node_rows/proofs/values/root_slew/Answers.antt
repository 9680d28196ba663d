use Rattle.std.proofs.Common.{◌∙◌, rules, FitsSigned, w64}
use Rattle.std.proofs.lemmas.Int.{to_z-of_z}
use Rattle.node_rows.proofs.RootLaws.{root_large}
use Rattle.node_rows.proofs.values.root_slew.Goals as goal

pub returns-in_default-clause-err : goal.returns-in_default-clause-err
returns-in_default-clause-err c =
    let f : FitsSigned w64 c.args.slew = search rules in
    let size = simp to_z-of_z at c.unsigned_abs.ensures.value in
    root_large c.args.slew c.args.impulse c.from-size.result (c.from-size.ensures ∙ size) c.in_default.ensures
