use Rattle.std.proofs.Common.{sym, ◌∙◌}
use Rattle.timing_defs.specs.Edits.{same_test}
use Rattle.netlist_store.proofs.SetLaws.{any_at}
use Rattle.netlist_store.proofs.agreement.has_test.Goals as goal

pub returns-then-is_test_at : goal.returns-then-is_test_at
returns-then-is_test_at c =
    sym (any_at (same_test c.args.test.now) c.args.tests.now c.args.at (sym c.is_test_at.ensures ∙ c.if-is_test_at.true))
