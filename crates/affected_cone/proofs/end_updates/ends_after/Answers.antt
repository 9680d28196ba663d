use Rattle.std.proofs.Common.{List, ℕ, sym, subst}
use Rattle.affected_cone.specs.declared.ends.Search.{Search}
use Rattle.affected_cone.specs.declared.updating.Base.{Base}
use Rattle.affected_cone.specs.Renewed.{AreKeptEnds}
use Rattle.affected_cone.proofs.end_updates.ends_after.Goals as goal

pub renewed-ends-requires-clause-kept : goal.renewed-ends-requires-clause-kept
renewed-ends-requires-clause-kept g c κs within =
    subst (λ (b : Base). AreKeptEnds b.graph.now.stored c.in-Ok.weighed.search.now.store.now c.as_slice.result.now) (sym c.in-Ok.ensures.base)
    (subst (λ (x : Search). AreKeptEnds c.args.base.now.graph.now.stored x.store.now c.as_slice.result.now) (sym c.in-Ok.ensures.search)
    (subst (λ (xs : List ℕ). AreKeptEnds c.args.base.now.graph.now.stored c.args.search.now.store.now xs) (sym c.as_slice.ensures) c.in_ok-dirty.ensures))
