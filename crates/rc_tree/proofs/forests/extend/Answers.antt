use Rattle.std.proofs.Common.{Some, length, ap}
use Rattle.rc_tree.specs.declared.segments.Segment.{Segment}
use Rattle.rc_tree.specs.declared.forests.Row.{Row}
use Rattle.rc_tree.proofs.Growing.{extended}
use Rattle.rc_tree.proofs.forests.extend.Goals as goal

pub returns-clause-grown : goal.returns-clause-grown
returns-clause-grown c =
    let row : Row = record { node = c.args.step.far; parent = Some c.args.step.place; segment = c.args.step.index; res = c.segment_at.result.res; home = c.args.step.home } in
    extended c.args.segments.now (length c.args.forest.places.items) c.args.forest c.in_ok-more.more c.args.step.place c.args.step.home c.args.step.index c.args.step.far row
    c.requires.part c.requires.place c.requires.index c.requires.ends c.requires.far c.requires.free
    (ap (λ (s : Segment). record { node = c.args.step.far; parent = Some c.args.step.place; segment = c.args.step.index; res = s.res; home = c.args.step.home }) c.segment_at.ensures)
    c.in_ok-more.ensures.rows c.in_ok-more.ensures.places
