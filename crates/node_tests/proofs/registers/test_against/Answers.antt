use Rattle.std.proofs.Common.{Bool, sym, subst}
use Rattle.timing_defs.specs.Kinds.{data_split, clock_split}
use Rattle.node_rows.specs.Evaluation.{IsPlaced}
use Rattle.node_tests.specs.NodeTests.{name_numbered}
use Rattle.node_tests.proofs.AskedLaws.{target_slew, pin_number, name_is}
use Rattle.node_tests.proofs.AskedForms.{off_as, clock_slew, calm_as, large_as, need_as, tables_as}
use Rattle.node_tests.proofs.registers.test_against.Goals as goal

pub returns-then-not-is_network-clause-test : goal.returns-then-not-is_network-clause-test
returns-then-not-is_network-clause-test c = (off_as c.args.asked.now c.requires.asked c.laws.ensures.numbered c.laws.ensures.linked c.laws-2.ensures c.args.ends.now c.args.clock c.requires.ends c.requires.clock (sym c.if-not-is_network.ensures)).0

pub returns-then-not-is_network-clause-fine : goal.returns-then-not-is_network-clause-fine
returns-then-not-is_network-clause-fine c = (off_as c.args.asked.now c.requires.asked c.laws.ensures.numbered c.laws.ensures.linked c.laws-2.ensures c.args.ends.now c.args.clock c.requires.ends c.requires.clock (sym c.if-not-is_network.ensures)).1

pub need_between-requires-clause-tables : goal.need_between-requires-clause-tables
need_between-requires-clause-tables c = tables_as c.args.asked.now c.requires.asked c.laws.ensures.numbered c.laws.ensures.linked c.laws-2.ensures c.args.tests.now c.requires.tests

pub need_between-requires-clause-clock : goal.need_between-requires-clause-clock
need_between-requires-clause-clock c = clock_slew c.args.asked.now c.requires.asked c.laws.ensures.numbered c.laws.ensures.linked c.laws-2.ensures c.args.ends.now c.args.clock c.requires.ends c.args.row.now c.requires.row (clock_split c.args.ends.now.kind)

pub need_between-requires-clause-target : goal.need_between-requires-clause-target
need_between-requires-clause-target c = target_slew c.args.asked.now c.requires.asked c.laws.ensures.numbered c.laws.ensures.linked c.laws-2.ensures (data_split c.args.ends.now.kind)

pub out_of_range-requires : goal.out_of_range-requires
out_of_range-requires c = pin_number c.args.asked.now c.requires.asked c.laws.ensures.numbered c.laws.ensures.linked c.laws-2.ensures

pub returns-in-Ok-clause-test : goal.returns-in-Ok-clause-test
returns-in-Ok-clause-test c = need_as c.args.asked.now c.requires.asked c.laws.ensures.numbered c.laws.ensures.linked c.laws-2.ensures c.args.ends.now c.args.clock c.requires.ends c.args.row.now c.requires.row c.args.tests.now c.requires.tests c.in-Ok.need c.in-Ok.ensures.need c.captured.result c.captured.ensures

pub returns-in-Ok-clause-fine : goal.returns-in-Ok-clause-fine
returns-in-Ok-clause-fine c = calm_as c.args.asked.now c.requires.asked c.laws.ensures.numbered c.laws.ensures.linked c.laws-2.ensures c.args.ends.now c.args.clock c.requires.ends c.args.row.now c.requires.row c.args.tests.now c.requires.tests c.in-Ok.ensures.fine

pub returns-in-Err-clause-err : goal.returns-in-Err-clause-err
returns-in-Err-clause-err c =
    subst (λ (b : Bool). IsPlaced b (name_numbered c.args.asked.now.store.now c.args.asked.now.node) c.out_of_range.result)
    (sym (large_as c.args.asked.now c.requires.asked c.laws.ensures.numbered c.laws.ensures.linked c.laws-2.ensures c.args.ends.now c.args.clock c.requires.ends c.args.row.now c.requires.row c.args.tests.now c.requires.tests c.requires.clock (sym c.if-not-is_network.ensures) c.in-Err.ensures.err))
    (c.out_of_range.ensures (name_numbered c.args.asked.now.store.now c.args.asked.now.node) (name_is c.args.asked.now c.requires.asked c.laws.ensures.numbered c.laws.ensures.linked c.laws-2.ensures))
