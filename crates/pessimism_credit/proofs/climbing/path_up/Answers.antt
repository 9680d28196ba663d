use Rattle.std.proofs.Common.{◌++◌, reverse, ap, sym, ◌∙◌}
use Rattle.pessimism_credit.proofs.Climbs.{above, path-more}
use Rattle.pessimism_credit.proofs.climbing.path_up.Goals as goal

pub loop-at-preserved : goal.loop-at-preserved
loop-at-preserved c =
    ap (λ ps. above c.args.rows.now c.parent_at-at.result ++ reverse ps) c.in_ok-push.ensures.ok
    ∙ path-more c.args.rows.now c.in-Some.place c.parent_at-at.result c.loop-at.path c.requires (sym c.parent_at-at.ensures)
    ∙ ap (λ o. above c.args.rows.now o ++ reverse c.loop-at.path) (sym c.in-Some.is)
    ∙ c.loop-at.invariant
