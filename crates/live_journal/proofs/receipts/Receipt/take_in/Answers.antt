use Rattle.std.proofs.Common.{rules, sym, ◌∙◌}
use Rattle.live_journal.proofs.Moves.{takes_in, parts}
use Rattle.live_journal.proofs.receipts.Receipt.take_in.Goals as goal

pub join_pass-requires : goal.join_pass-requires
join_pass-requires g c =
    let i = c.self.invariant in
    let o = c.into_pass.ensures in
    (search rules, (search rules, ((i.0 ∙ sym c.requires.cell, o.0 ∙ sym i.0, o.1), takes_in _ _ _ _)))

pub split_pass-requires : goal.split_pass-requires
split_pass-requires g c =
    (search rules, (search rules, (c.join_pass.ensures.0.0 ∙ c.self.invariant.0 ∙ sym c.requires.cell, parts _ _)))
