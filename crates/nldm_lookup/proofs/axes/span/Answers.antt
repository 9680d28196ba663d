-- Neighbouring entries rise.
use Rattle.std.proofs.Common.{rules, FitsSigned, w64, ◌+◌, pos, arith}
use Rattle.std.proofs.lemmas.Int.{to_z-of_z}
use Rattle.nldm_lookup.proofs.Rising.{axis_rises, rises}
use Rattle.nldm_lookup.proofs.axes.span.Goals as goal

pub returns-clause-rising : goal.returns-clause-rising
returns-clause-rising c =
    let axis = c.args.axis.now in
    let low : FitsSigned w64 c.entry.result = search rules in
    let high : FitsSigned w64 c.entry-2.result = search rules in
    let up = rises axis c.args.at (c.args.at + 1) (pos 0) (axis_rises axis c.requires.axis) (omega arith) c.requires.at_within in
    simp to_z-of_z (rw (c.entry.ensures.value, c.entry-2.ensures.value) up)
