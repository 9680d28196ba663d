use Rattle.std.proofs.Common.{ap, ◌∙◌}
use Rattle.std.specs.Prelude.{is_some}
use Rattle.std.proofs.lemmas.Bool.{false≢true}
use Rattle.netlist_store.proofs.BufferSteps.{first_named, one_of_dir}
use Rattle.netlist_store.proofs.buffer_edits.pin_of_dir.Goals as goal

pub unreachable-requires : goal.unreachable-requires
unreachable-requires c =
    false≢true (ap is_some c.in-None.ensures ∙ first_named c.args.dir c.args.cell.now (one_of_dir c.args.dir c.args.cell.now c.requires))
