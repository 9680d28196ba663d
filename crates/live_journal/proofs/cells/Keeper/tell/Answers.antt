use Rattle.std.proofs.Common.{rules, sym, ap, ◌∙◌}
use Rattle.live_journal.proofs.Moves.{parts}
use Rattle.live_journal.proofs.cells.Keeper.tell.Goals as goal

pub split_pass-requires : goal.split_pass-requires
split_pass-requires c =
    (search rules, (search rules, (ap (λ k. k.cell) c.self.view_is ∙ sym c.requires.cell, parts _ _)))
