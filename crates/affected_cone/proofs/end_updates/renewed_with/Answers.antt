use Rattle.std.proofs.Common.{◌++◌, refl, ap}
use Rattle.std.specs.List.{filter_map}
use Rattle.level_cone.proofs.Counts.{rising_distinct}
use Rattle.affected_cone.specs.Renewed.{kept_end}
use Rattle.affected_cone.proofs.EndOrder.{ends_rise}
use Rattle.affected_cone.proofs.RenewedEnds.{renewed_ends, among_ends}
use Rattle.affected_cone.proofs.SearchLaws.{ok_more}
use Rattle.affected_cone.proofs.end_updates.renewed_with.Goals as goal

pub searched-requires-clause-ends : goal.searched-requires-clause-ends
searched-requires-clause-ends g c κs within = among_ends c.args.weighed.now.search.now.store.now c.args.pins.now c.args.again.now c.requires.again

pub joined-ends-requires-clause-ends : goal.joined-ends-requires-clause-ends
joined-ends-requires-clause-ends g c = ends_rise c.args.weighed.now.base.now.graph.now.stored c.args.weighed.now.base.now.ends.now c.args.weighed.now.base.now.ends.now refl c.requires.weighed.base.ends

pub returns : goal.returns
returns g c =
    ok_more c.joined-ends.result
    (λ sorted h.
    renewed_ends c.args.weighed.now.base.now.graph.now.stored c.args.weighed.now.search.now.store.now c.args.pins.now c.args.pins.now refl c.requires.kept
    (rising_distinct c.args.pins.now c.requires.rising) c.args.weighed.now.base.now.ends.now c.requires.weighed.base.ends
    (filter_map (kept_end c.args.pins.now) c.args.weighed.now.base.now.ends.now) refl c.args.again.now c.requires.again c.in_ok-found.found c.in_ok-found.ensures
    (filter_map (kept_end c.args.pins.now) c.args.weighed.now.base.now.ends.now ++ c.as_slice.result.now)
    (ap (λ es. filter_map (kept_end c.args.pins.now) c.args.weighed.now.base.now.ends.now ++ es) c.as_slice.ensures) sorted h.same h.rising)
    c.joined-ends.ensures
