use Rattle.std.proofs.Common.{[], sym, subst}
use Rattle.std.proofs.lemmas.List.{append-nil}
use Rattle.worst_walks.specs.Tables.{IsTrace}
use Rattle.worst_walks.proofs.tracing.nodes_from.Goals as goal

pub loop-at-smaller : goal.loop-at-smaller
loop-at-smaller c = (c.requires.falling c.loop-at.at c.in-Some.entry c.loop-at-test.true (sym c.in-Some.ensures)).0

pub returns : goal.returns
returns c =
    subst (IsTrace c.args.rows.now c.args.end c.args.node) (append-nil c.loop-at.nodes) (c.loop-at.invariant.whole [] c.loop-at-test.false)
