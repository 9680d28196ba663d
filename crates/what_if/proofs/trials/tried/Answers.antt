use Rattle.std.proofs.Common.{sym, ◌∙◌}
use Rattle.what_if.proofs.DraftLaws.{refused_follows, told_other}
use Rattle.what_if.proofs.trials.tried.Goals as goal

pub returns-then-tells : goal.returns-then-tells
returns-then-tells g c =
    refused_follows c.args.draft.now c.try_eco.new.self c.args.eco.now c.in-Err.fault c.in-Err.ensures.kept
    (told_other c.in-Err.fault (sym c.tells.ensures ∙ c.if-tells.true)) c.in-Err.ensures.refused
