use Rattle.std.proofs.Common.{rules, sym, ap, ◌∙◌}
use Rattle.live_journal.proofs.Moves.{takes_in, compares}
use Rattle.live_journal.proofs.cells.Keeper.compare.Goals as goal

pub join_pass-requires : goal.join_pass-requires
join_pass-requires g c =
    let is = ap (λ k. k.cell) c.self.view_is in
    (search rules, (search rules, ((is ∙ sym c.requires.cell, c.requires.pass.0 ∙ sym is, c.requires.pass.1), takes_in _ _ _ _)))

pub load_as-requires : goal.load_as-requires
load_as-requires g c =
    let is = ap (λ k. k.cell) c.self.view_is in
    let j = c.join_pass.ensures in
    (search rules, (search rules, (j.0.0 ∙ is ∙ sym c.requires.cell, compares _ _ (ap (λ v. v.keeps) j.1 ∙ ap (λ v. v.keeps) c.self.invariant))))
