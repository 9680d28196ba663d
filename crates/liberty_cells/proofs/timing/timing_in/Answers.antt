use Rattle.std.proofs.Common.{ap, ◌∙◌}
use Rattle.liberty_cells.specs.Statements.{told, last}
use Rattle.liberty_cells.specs.Cells.{timing_typed, timing_in}
use Rattle.liberty_cells.proofs.timing.timing_in.Goals as goal

pub returns : goal.returns
unfolding timing_in
returns c =
    c.timing_typed-timing.ensures
    ∙ ap (timing_typed c.args.dir) (c.last.ensures ∙ ap (λ x. last (told x)) c.as_slice.ensures ∙ ap last c.in_ok-found.ensures)
