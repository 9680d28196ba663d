use Rattle.std.proofs.Common.{ap, subst}
use Rattle.std.specs.Option.{unwrap_or}
use Rattle.rc_tree.specs.Trees.{Told, IsTreeOf}
use Rattle.node_rows.proofs.net_trees.late_wire.Goals as goal

pub returns-in-Some : goal.returns-in-Some
returns-in-Some c =
    λ net root caps is.
    c.sink_wire.ensures net root caps (subst (λ (told : Told). IsTreeOf net root caps told) (ap (λ late. unwrap_or late c.args.trees.now.early) c.in-Some.is) is)

pub returns-in-None : goal.returns-in-None
returns-in-None c =
    λ net root caps is.
    c.requires.early net root caps (subst (λ (told : Told). IsTreeOf net root caps told) (ap (λ late. unwrap_or late c.args.trees.now.early) c.in-None.is) is)
