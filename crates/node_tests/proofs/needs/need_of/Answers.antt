use Rattle.std.proofs.Common.{◌≡◌, false, filter, rules, FitsSigned, w64, to_z, of_z}
use Rattle.std.proofs.lemmas.Int.{to_z-of_z}
use Rattle.std.specs.List.{list_all}
use Rattle.node_tests.specs.Needs.{is_test_between, is_need_in, has_table}
use Rattle.node_tests.proofs.NeedLaws.{any_err, each_at, passed, failed}
use Rattle.node_tests.proofs.needs.need_of.Goals as goal

pub with_test-requires-clause-table : goal.with_test-requires-clause-table
with_test-requires-clause-table c = each_at has_table c.args.tests.now c.loop-test.test-index c.test-item.result c.requires.tables c.loop-test-test.true c.test-item.is

pub returns-in_err-best-clause-err : goal.returns-in_err-best-clause-err
returns-in_err-best-clause-err c =
    let x : FitsSigned w64 c.args.clock_slew = search rules in
    let y : FitsSigned w64 c.args.data_slew = search rules in
    let e = simp to_z-of_z at c.in_err-best.ensures.err in
    let i = simp to_z-of_z at c.loop-test.invariant in
    any_err c.from_residual.result (list_all (is_need_in c.args.clock_slew c.args.data_slew) (filter (is_test_between c.args.ends.now) c.args.tests.now) ≡ false)
    (failed c.args.clock_slew c.args.data_slew c.args.ends.now c.args.tests.now c.loop-test.best c.loop-test.test-index c.test-item.result c.loop-test-test.true c.test-item.is
    e i)

pub loop-test-preserved : goal.loop-test-preserved
loop-test-preserved c =
    passed (to_z w64 (of_z w64 c.args.clock_slew)) (to_z w64 (of_z w64 c.args.data_slew)) c.args.ends.now c.args.tests.now c.loop-test.best c.in_ok-best.best
    c.loop-test.test-index c.test-item.result c.loop-test-test.true c.test-item.is c.in_ok-best.ensures.need c.in_ok-best.ensures.fine c.loop-test.invariant
