use Rattle.std.proofs.Common.{◌≡◌, false, [], ◌∷◌, filter, sym, ◌∙◌, rules, FitsSigned, w64}
use Rattle.std.proofs.lemmas.Int.{to_z-of_z}
use Rattle.std.specs.List.{list_all}
use Rattle.timing_defs.specs.Lookup.{look}
use Rattle.node_tests.specs.Needs.{is_test_between, is_need_in}
use Rattle.node_tests.proofs.NeedLaws.{any_err, its_wrong, its_fine, its_need, within_of}
use Rattle.node_tests.proofs.needs.with_test.Goals as goal

pub returns-in_err-next-clause-err : goal.returns-in_err-next-clause-err
returns-in_err-next-clause-err c =
    let x : FitsSigned w64 c.args.clock_slew = search rules in
    let y : FitsSigned w64 c.args.data_slew = search rules in
    let e = simp to_z-of_z at c.in_err-next.ensures.value in
    any_err c.from_residual.result (list_all (is_need_in c.args.clock_slew c.args.data_slew) (filter (is_test_between c.args.ends.now) (c.args.test.now ∷ [])) ≡ false)
    (its_wrong c.args.clock_slew c.args.data_slew c.args.ends.now c.args.test.now (sym c.is_between.ensures ∙ c.if-is_between.true) e)

pub returns-in_ok-next-clause-need : goal.returns-in_ok-next-clause-need
returns-in_ok-next-clause-need c =
    let x : FitsSigned w64 c.args.clock_slew = search rules in
    let y : FitsSigned w64 c.args.data_slew = search rules in
    let next : FitsSigned w64 c.in_ok-next.next = search rules in
    let e = simp to_z-of_z at c.in_ok-next.ensures.value in
    let told : FitsSigned w64 c.greater.result = search rules in
    let g = simp to_z-of_z at c.greater.ensures in
    simp to_z-of_z (its_need c.args.clock_slew c.args.data_slew c.args.ends.now c.args.test.now (sym c.is_between.ensures ∙ c.if-is_between.true) c.args.best c.in_ok-next.next c.greater.result e g)

pub returns-in_ok-next-clause-fine : goal.returns-in_ok-next-clause-fine
returns-in_ok-next-clause-fine c =
    let x : FitsSigned w64 c.args.clock_slew = search rules in
    let y : FitsSigned w64 c.args.data_slew = search rules in
    let e = simp to_z-of_z at c.in_ok-next.ensures.value in
    its_fine c.args.clock_slew c.args.data_slew c.args.ends.now c.args.test.now (sym c.is_between.ensures ∙ c.if-is_between.true)
    (within_of c.in_ok-next.next (look c.args.test.now.need c.args.clock_slew c.args.data_slew) e c.in_ok-next.ensures.within)
