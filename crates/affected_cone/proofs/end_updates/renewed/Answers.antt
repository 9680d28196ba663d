use Rattle.std.proofs.Common.{refl}
use Rattle.affected_cone.proofs.EndCuts.{rising_pins, rising_kept}
use Rattle.affected_cone.proofs.end_updates.renewed.Goals as goal

pub renewed_at-ends-requires-clause-kept : goal.renewed_at-ends-requires-clause-kept
renewed_at-ends-requires-clause-kept g c κs within =
    rising_kept c.args.weighed.now.base.now.graph.now.stored c.args.weighed.now.search.now.store.now c.args.dirty.now c.args.dirty.now c.in_ok-numbers.numbers c.as_slice.result.now refl
    c.in_ok-numbers.ensures c.as_slice.ensures c.requires.kept

pub renewed_at-ends-requires-clause-rising : goal.renewed_at-ends-requires-clause-rising
renewed_at-ends-requires-clause-rising g c κs within = rising_pins c.args.dirty.now c.in_ok-numbers.numbers c.as_slice.result.now c.in_ok-numbers.ensures c.as_slice.ensures
