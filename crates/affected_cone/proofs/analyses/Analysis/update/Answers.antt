use Rattle.std.proofs.Common.{refl, sym, subst}
use Rattle.netlist_store.specs.Applying.{IsEditOf}
use Rattle.required_engine.specs.Updated.{touch_of}
use Rattle.affected_cone.specs.Analysed.{Analysed}
use Rattle.affected_cone.proofs.FoundLaws.{found_analysis}
use Rattle.affected_cone.proofs.ChangedLaws.{base_told}
use Rattle.affected_cone.proofs.analyses.Analysis.update.Goals as goal

pub find_after-requires-clause-base : goal.find_after-requires-clause-base
find_after-requires-clause-base g c κs within =
    base_told _ c.self.inside.graph c.self.inside.arrivals c.self.inside.required.rows c.self.inside.tree c.self.inside.ends refl refl refl refl c.as_slice.ensures
    c.self.invariant.0 c.self.invariant.1

pub find_after-requires-clause-made : goal.find_after-requires-clause-made
find_after-requires-clause-made g c κs within =
    subst (λ (a : Analysed). IsEditOf a.stored (touch_of c.args.touched.now) c.args.store.now) (sym c.self.view_is) c.requires.made

pub invariant_of-result : goal.invariant_of-result
invariant_of-result g c =
    found_analysis c.args.store.now c.args.graph c.in-Ok.found c.requires.graph c.requires.sound c.laws.ensures.numbered c.laws.ensures.linked c.laws-2.ensures
    c.in-Ok.ensures.found
