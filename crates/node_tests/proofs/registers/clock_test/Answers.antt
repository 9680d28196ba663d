use Rattle.std.proofs.Common.{ap, refl, sym, ◌∙◌}
use Rattle.std.specs.Prelude.{option_and_then}
use Rattle.timing_defs.specs.Netlist.{cell_of}
use Rattle.netlist_store.specs.Numbering.{inst_numbered}
use Rattle.node_tests.proofs.AskedForms.{untested_as}
use Rattle.node_tests.proofs.registers.clock_test.Goals as goal

pub returns-then-not-has_test-clause-test : goal.returns-then-not-has_test-clause-test
returns-then-not-has_test-clause-test g c =
    (untested_as c.args.asked.now c.requires.asked c.laws.ensures.numbered c.laws.ensures.linked c.laws-2.ensures c.args.pin.now c.args.active c.requires.pin
    (record { kind = c.args.asked.now.kind; pin = c.args.asked.now.own; tran = c.args.asked.now.tran; clock = c.as_bytes.result; active = c.args.active })
    refl refl refl c.as_bytes.ensures.value refl c.cell_at-cell.result.now c.as_slice.result.now
    (sym (ap (λ split. option_and_then (cell_of c.args.asked.now.store.now.design split) (inst_numbered c.args.asked.now.store.now c.args.asked.now.inst)) c.data_split.ensures) ∙ c.cell_at-cell.ensures)
    c.as_slice.ensures (sym c.if-not-has_test.ensures)).0

pub returns-then-not-has_test-clause-fine : goal.returns-then-not-has_test-clause-fine
returns-then-not-has_test-clause-fine g c =
    (untested_as c.args.asked.now c.requires.asked c.laws.ensures.numbered c.laws.ensures.linked c.laws-2.ensures c.args.pin.now c.args.active c.requires.pin
    (record { kind = c.args.asked.now.kind; pin = c.args.asked.now.own; tran = c.args.asked.now.tran; clock = c.as_bytes.result; active = c.args.active })
    refl refl refl c.as_bytes.ensures.value refl c.cell_at-cell.result.now c.as_slice.result.now
    (sym (ap (λ split. option_and_then (cell_of c.args.asked.now.store.now.design split) (inst_numbered c.args.asked.now.store.now c.args.asked.now.inst)) c.data_split.ensures) ∙ c.cell_at-cell.ensures)
    c.as_slice.ensures (sym c.if-not-has_test.ensures)).1
