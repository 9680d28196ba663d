use Rattle.std.proofs.Common.{◌≤◌, sym, ◌∙◌, arith}
use Rattle.timed_paths.proofs.CourseLaws.{end_some, end_is, end_gone}
use Rattle.timed_paths.proofs.timed.end_of.Goals as goal

pub overflow_sub-at : goal.overflow_sub-at
overflow_sub-at c = end_some c.args.store.now c.args.path.now c.requires.path c.as_slice-nodes.result.now c.as_slice-nodes.ensures

pub bounds-nodes-at : goal.bounds-nodes-at
bounds-nodes-at c =
    let some = end_some c.args.store.now c.args.path.now c.requires.path c.as_slice-nodes.result.now c.as_slice-nodes.ensures in omega (arith, some)

pub unreachable-requires : goal.unreachable-requires
unreachable-requires c =
    end_gone c.args.store.now c.args.path.now c.requires.path c.as_slice-nodes.result.now c.as_slice-nodes.ensures c.index-nodes-at.result c.index-nodes-at.is
    c.args.graph.now c.requires.graph c.number_of.result c.number_of.ensures.value c.in-None.is

pub returns-clause-end : goal.returns-clause-end
returns-clause-end c =
    end_is c.args.store.now c.args.path.now c.requires.path c.as_slice-nodes.result.now c.as_slice-nodes.ensures c.index-nodes-at.result c.index-nodes-at.is
    c.args.graph.now c.requires.graph c.number_of.result c.number_of.ensures.value c.in-Some.end c.in-Some.is
