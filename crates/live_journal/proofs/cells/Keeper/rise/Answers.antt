use Rattle.std.proofs.Common.{rules, sym, ap, ◌∙◌, subst}
use Rattle.live_journal.specs.Receipts.{IsAtMost}
use Rattle.live_journal.proofs.Moves.{rises}
use Rattle.live_journal.proofs.cells.Keeper.rise.Goals as goal

pub swap_as-requires : goal.swap_as-requires
swap_as-requires g c =
    let is = c.self.view_is in
    (search rules, (search rules, (ap (λ k. k.cell) is ∙ sym c.requires.cell, rises _ _ _ (ap (λ v. v.keeps) c.self.invariant) (subst (λ k. IsAtMost k.known c.args.more) (sym is) c.requires.more))))
