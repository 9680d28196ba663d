use Rattle.std.proofs.Common.{slice_index_or, flat_map, ◌∙◌}
use Rattle.std.specs.Arc.{arc_value}
use Rattle.std.proofs.lemmas.List.{get_or_default}
use Rattle.cow_table.proofs.Writing.{written_step, written_end}
use Rattle.cow_table.proofs.writes.put_within.Goals as goal

pub loop-at-preserved : goal.loop-at-preserved
loop-at-preserved g c =
    let step = written_step c.args.first (flat_map arc_value c.loop-at.pages) (flat_map arc_value c.put_one.new.pages) c.args.places.now c.args.values.now c.loop-at.at
    (slice_index_or c.args.places.now c.loop-at.at 0) c.index-values-at.result c.loop-at-test.true c.requires.same (get_or_default c.args.places.now c.loop-at.at 0 _ c.loop-at-test.true) c.index-values-at.is c.in_ok-put_one.ensures.ok in
    (c.put_one.ensures.cut, c.put_one.ensures.len, step ∙ c.loop-at.invariant.2)

pub returns-clause-ok : goal.returns-clause-ok
returns-clause-ok g c = written_end c.args.first _ _ c.args.places.now c.args.values.now c.loop-at.at c.loop-at-test.false c.loop-at.invariant.2
