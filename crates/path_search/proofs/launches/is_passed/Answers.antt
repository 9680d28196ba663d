use Rattle.std.proofs.Common.{sym, ◌∙◌}
use Rattle.path_search.proofs.Forms.{passed_over}
use Rattle.path_search.proofs.launches.is_passed.Goals as goal

pub returns-in-len1-up : goal.returns-in-len1-up
returns-in-len1-up c = λ passed split.
    passed_over c.args.graph.now c.args.store.now c.requires.graph c.laws.ensures.numbered c.laws.ensures.linked c.laws-2.ensures c.args.node
    (sym c.is_network.ensures ∙ c.if-is_network.false) c.arcs_in.result.now c.arcs_in.ensures c.in-len1-up.len_at_least split
