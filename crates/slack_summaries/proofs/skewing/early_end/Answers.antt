use Rattle.timing_defs.specs.declared.kinds.Split.TheVariants.{Early}
use Rattle.timing_defs.specs.RowTimes.{edge_of}
use Rattle.slack_summaries.proofs.EndLaws.{end_first, no_gap}
use Rattle.slack_summaries.proofs.skewing.early_end.Goals as goal

pub unreachable-requires : goal.unreachable-requires
unreachable-requires c =
    no_gap c.args.search.now.graph.now c.args.search.now.store.now c.requires.search.graph c.laws.ensures.numbered c.laws.ensures.linked c.laws-2.ensures (edge_of c.args.edge) c.requires.edge
    c.args.pins.now c.args.late c.outermost.result c.requires.pins c.requires.late c.outermost.ensures c.in-None.is
