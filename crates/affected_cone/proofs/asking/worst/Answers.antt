use Rattle.std.proofs.Common.{refl}
use Rattle.affected_cone.proofs.WorstLaws.{numbers_there, worst_rows_told}
use Rattle.affected_cone.proofs.asking.worst.Goals as goal

pub worst_ends-requires : goal.worst_ends-requires
worst_ends-requires c =
    numbers_there c.args.known.now.store.now c.laws.ensures.numbered c.laws.ensures.linked c.args.kind c.args.known.now.ends.now c.requires.analysis.ends

pub returns-clause-told : goal.returns-clause-told
returns-clause-told c = (
  refl,
  (
    c.in_ok-rows.rows,
    worst_rows_told c.args.known.now.store.now c.laws.ensures.numbered c.laws.ensures.linked c.args.kind c.args.count c.args.known.now.ends.now c.in_ok-rows.rows
        c.requires.analysis.ends c.in_ok-rows.ensures,
    refl,
  ),
)
