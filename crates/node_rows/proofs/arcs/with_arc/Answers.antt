use Rattle.std.proofs.Common.{◌≡◌, false, [], ◌∷◌, filter, sym, ◌∙◌, rules, FitsSigned, w64}
use Rattle.std.proofs.lemmas.Int.{to_z-of_z}
use Rattle.std.specs.List.{list_all}
use Rattle.node_rows.specs.Between.{is_between, is_looked}
use Rattle.node_rows.proofs.ArcLaws.{leads_wrong, leads_fine, leads_values}
use Rattle.node_rows.proofs.ResultLaws.{any_err}
use Rattle.node_rows.proofs.arcs.with_arc.Goals as goal

pub returns-in_err-next-clause-err : goal.returns-in_err-next-clause-err
returns-in_err-next-clause-err c =
    let x : FitsSigned w64 c.args.slew = search rules in
    let y : FitsSigned w64 c.args.load = search rules in
    let e = simp to_z-of_z at c.in_err-next.ensures.err in
    any_err c.from_residual.result (list_all (is_looked c.args.slew c.args.load) (filter (is_between c.args.ends.now) (c.args.arc.now ∷ [])) ≡ false)
    (leads_wrong c.args.split c.args.slew c.args.load c.args.ends.now c.args.arc.now (sym c.is_between.ensures ∙ c.if-is_between.true) e)

pub returns-in_ok-next-clause-values : goal.returns-in_ok-next-clause-values
returns-in_ok-next-clause-values c =
    let x : FitsSigned w64 c.args.slew = search rules in
    let y : FitsSigned w64 c.args.load = search rules in
    let e = simp to_z-of_z at c.in_ok-next.ensures.values in
    leads_values c.args.split c.args.slew c.args.load c.args.ends.now c.args.arc.now (sym c.is_between.ensures ∙ c.if-is_between.true) c.args.best c.in_ok-next.next c.outer_of.result
    e c.outer_of.ensures

pub returns-in_ok-next-clause-fine : goal.returns-in_ok-next-clause-fine
returns-in_ok-next-clause-fine c =
    let x : FitsSigned w64 c.args.slew = search rules in
    let y : FitsSigned w64 c.args.load = search rules in
    let e = simp to_z-of_z at c.in_ok-next.ensures.fine in
    leads_fine c.args.split c.args.slew c.args.load c.args.ends.now c.args.arc.now (sym c.is_between.ensures ∙ c.if-is_between.true) e
