use Rattle.std.proofs.Common.{subst, IfOk, IfErr}
use Rattle.rc_tree.specs.Loops.{IsFound, IsLoopOf}
use Rattle.rc_tree.proofs.trees.forest_of.Goals as goal

pub returns-clause-found : goal.returns-clause-found
returns-clause-found c = subst (λ n. IfOk c.found_forest.result (IsFound c.args.segments.now n)) c.in_ok-links.ensures.len c.found_forest.ensures.found

pub returns-clause-looped : goal.returns-clause-looped
returns-clause-looped c = subst (λ n. IfErr c.found_forest.result (IsLoopOf c.args.segments.now n)) c.in_ok-links.ensures.len c.found_forest.ensures.looped
