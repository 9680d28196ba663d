use Rattle.timing_defs.specs.declared.kinds.Split.TheVariants.{Late}
use Rattle.timing_defs.specs.RowTimes.{edge_of}
use Rattle.slack_summaries.proofs.EndLaws.{end_first, both_ends}
use Rattle.slack_summaries.proofs.skewing.skew_ends.Goals as goal

pub returns-in-Some : goal.returns-in-Some
returns-in-Some c =
    both_ends c.args.search.now.graph.now c.args.search.now.store.now c.requires.search.graph c.laws.ensures.numbered c.laws.ensures.linked c.laws-2.ensures c.requires.search.fine
    (edge_of c.args.edge) c.requires.edge c.in-Some.late c.early_end-early.result
    (end_first c.args.search.now.store.now Late (edge_of c.args.edge) c.args.pins.now c.outermost.result c.in-Some.late c.requires.pins c.outermost.ensures c.in-Some.is) c.early_end-early.ensures
