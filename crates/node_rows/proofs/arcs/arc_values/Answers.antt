use Rattle.std.proofs.Common.{◌≡◌, false, filter, rules, FitsSigned, w64, to_z, of_z}
use Rattle.std.proofs.lemmas.Int.{to_z-of_z}
use Rattle.std.specs.List.{list_all}
use Rattle.node_rows.specs.Between.{is_between, is_looked, has_tables, no_values}
use Rattle.node_rows.proofs.ArcLaws.{each_at, passed, failed}
use Rattle.node_rows.proofs.ResultLaws.{any_err}
use Rattle.node_rows.proofs.arcs.arc_values.Goals as goal

pub with_arc-requires-clause-tables : goal.with_arc-requires-clause-tables
with_arc-requires-clause-tables c = each_at has_tables c.args.arcs.now c.loop-arc.arc-index c.arc-item.result c.requires.tables c.loop-arc-test.true c.arc-item.is

pub returns-in_err-best-clause-err : goal.returns-in_err-best-clause-err
returns-in_err-best-clause-err c =
    let x : FitsSigned w64 c.args.slew = search rules in
    let y : FitsSigned w64 c.args.load = search rules in
    let e = simp to_z-of_z at c.in_err-best.ensures.err in
    let i = simp to_z-of_z at c.loop-arc.invariant in
    any_err c.from_residual.result (list_all (is_looked c.args.slew c.args.load) (filter (is_between c.args.ends.now) c.args.arcs.now) ≡ false)
    (failed c.args.split c.args.slew c.args.load c.args.ends.now c.args.arcs.now no_values c.loop-arc.best c.loop-arc.arc-index c.arc-item.result c.loop-arc-test.true c.arc-item.is
    e i)

pub loop-arc-preserved : goal.loop-arc-preserved
loop-arc-preserved c =
    passed c.args.split (to_z w64 (of_z w64 c.args.slew)) (to_z w64 (of_z w64 c.args.load)) c.args.ends.now c.args.arcs.now no_values c.loop-arc.best c.in_ok-best.best
    c.loop-arc.arc-index c.arc-item.result c.loop-arc-test.true c.arc-item.is c.in_ok-best.ensures.values c.in_ok-best.ensures.fine c.loop-arc.invariant
