use Rattle.std.proofs.Common.{get_or}
use Rattle.std.proofs.lemmas.List.{get_or_default}
use Rattle.pin_graph.proofs.ArcLaws.{first_mapped_more}
use Rattle.affected_cone.specs.Renewed.{kept_end}
use Rattle.affected_cone.proofs.FindLaws.{no_end}
use Rattle.affected_cone.proofs.EndCuts.{cut_start, cut_more, cut_told}
use Rattle.affected_cone.proofs.end_updates.kept_ends.Goals as goal

pub loop-end-init : goal.loop-end-init
loop-end-init c = (c.in_ok-kept.ensures, cut_start c.args.dirty.now c.args.ends.now c.requires.dirty)

pub loop-end-preserved : goal.loop-end-preserved
loop-end-preserved c =
    let told =
    cut_told c.args.dirty.now c.loop-end.rest.now c.from_number-rest.result.now c.args.ends.now c.loop-end.end-index no_end c.requires.ends c.loop-end-test.true
    c.loop-end.invariant.1 c.from_number-rest.ensures c.cut_end.result c.cut_end.ensures in (
      first_mapped_more (kept_end c.args.dirty.now) c.loop-end.kept c.add_end.new.ends c.args.ends.now c.loop-end.end-index (get_or c.args.ends.now c.loop-end.end-index no_end)
          c.cut_end.result c.loop-end-test.true (get_or_default c.args.ends.now c.loop-end.end-index no_end _ c.loop-end-test.true) told c.loop-end.invariant.0 c.in_ok-add_end.ensures,
      cut_more c.args.dirty.now c.loop-end.rest.now c.from_number-rest.result.now c.args.ends.now c.loop-end.end-index no_end c.requires.ends c.loop-end-test.true
          c.loop-end.invariant.1 c.from_number-rest.ensures,
    )
