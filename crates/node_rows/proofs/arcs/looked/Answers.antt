use Rattle.std.proofs.Common.{◌≡◌, false, rules, FitsSigned, w64}
use Rattle.std.proofs.lemmas.Int.{to_z-of_z}
use Rattle.std.proofs.lemmas.Bool.{and_parts, and_from}
use Rattle.sta_units.specs.Numbers.{is_within}
use Rattle.timing_defs.specs.Lookup.{look, is_well_formed}
use Rattle.node_rows.specs.Between.{is_looked}
use Rattle.node_rows.proofs.ArcLaws.{first_wrong, second_wrong, both_values, within_of}
use Rattle.node_rows.proofs.ResultLaws.{any_err}
use Rattle.node_rows.proofs.arcs.looked.Goals as goal

pub look_up-requires-clause-well_formed : goal.look_up-requires-clause-well_formed
look_up-requires-clause-well_formed c = (and_parts (is_well_formed c.args.arc.now.delay) (is_well_formed c.args.arc.now.slew) c.requires.tables).1

pub returns-in_err-end-clause-err : goal.returns-in_err-end-clause-err
returns-in_err-end-clause-err c =
    let x : FitsSigned w64 c.args.slew = search rules in
    let y : FitsSigned w64 c.args.load = search rules in
    let e = simp to_z-of_z at c.in_err-end.ensures.value in
    any_err c.from_residual.result (is_looked c.args.slew c.args.load c.args.arc.now ≡ false)
    (first_wrong (is_within (look c.args.arc.now.slew c.args.slew c.args.load)) (is_within (look c.args.arc.now.delay c.args.slew c.args.load)) e)

pub look_up-requires-2-clause-well_formed : goal.look_up-requires-2-clause-well_formed
look_up-requires-2-clause-well_formed c = (and_parts (is_well_formed c.args.arc.now.delay) (is_well_formed c.args.arc.now.slew) c.requires.tables).0

pub returns-in_err-delay-clause-err : goal.returns-in_err-delay-clause-err
returns-in_err-delay-clause-err c =
    let x : FitsSigned w64 c.args.slew = search rules in
    let y : FitsSigned w64 c.args.load = search rules in
    let e = simp to_z-of_z at c.in_err-delay.ensures.value in
    any_err c.from_residual-in_err-delay.result (is_looked c.args.slew c.args.load c.args.arc.now ≡ false)
    (second_wrong (is_within (look c.args.arc.now.slew c.args.slew c.args.load)) (is_within (look c.args.arc.now.delay c.args.slew c.args.load)) e)

pub returns-clause-values : goal.returns-clause-values
returns-clause-values c =
    let x : FitsSigned w64 c.args.slew = search rules in
    let y : FitsSigned w64 c.args.load = search rules in
    let e = simp to_z-of_z at c.in_ok-end.ensures.value in
    let f = simp to_z-of_z at c.in_ok-delay.ensures.value in
    let end : FitsSigned w64 c.in_ok-end.end = search rules in
    let delay : FitsSigned w64 c.in_ok-delay.delay = search rules in
    simp to_z-of_z
    (both_values c.in_ok-end.end c.in_ok-delay.delay (look c.args.arc.now.slew c.args.slew c.args.load) (look c.args.arc.now.delay c.args.slew c.args.load)
    e f)

pub returns-clause-fine : goal.returns-clause-fine
returns-clause-fine c =
    let x : FitsSigned w64 c.args.slew = search rules in
    let y : FitsSigned w64 c.args.load = search rules in
    let e = simp to_z-of_z at c.in_ok-end.ensures.value in
    let f = simp to_z-of_z at c.in_ok-delay.ensures.value in
    and_from (is_within (look c.args.arc.now.slew c.args.slew c.args.load)) (is_within (look c.args.arc.now.delay c.args.slew c.args.load))
    (within_of c.in_ok-end.end (look c.args.arc.now.slew c.args.slew c.args.load) e c.in_ok-end.ensures.within)
    (within_of c.in_ok-delay.delay (look c.args.arc.now.delay c.args.slew c.args.load) f c.in_ok-delay.ensures.within)
