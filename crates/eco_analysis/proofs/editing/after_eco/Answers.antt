use Rattle.std.proofs.Common.{sym, subst}
use Rattle.std.specs.Arc.{arc_value}
use Rattle.netlist_store.specs.declared.touched.Touched.{Touched}
use Rattle.netlist_store.specs.Applying.{IsApplied}
use Rattle.netlist_store.specs.Numbering.{Stored}
use Rattle.eco_analysis.proofs.CountLaws.{counted}
use Rattle.eco_analysis.proofs.editing.after_eco.Goals as goal

pub returns-in_ok-after-in-Ok-clause-counted : goal.returns-in_ok-after-in-Ok-clause-counted
returns-in_ok-after-in-Ok-clause-counted g c =
    counted c.args.store.now (arc_value c.in_ok-after-in-Ok.after) c.args.eco.now (record { insts = c.in_ok-after-in-Ok.touched.insts; nets = c.in_ok-after-in-Ok.touched.nets })
    (subst (λ (s : Stored). IsApplied c.args.store.now c.args.eco.now s (record { insts = c.in_ok-after-in-Ok.touched.insts; nets = c.in_ok-after-in-Ok.touched.nets })) (sym c.in_ok-after-in-Ok.ensures.0)
    (subst (λ (t : Touched). IsApplied c.args.store.now c.args.eco.now c.in-Ok.after (record { insts = t.insts; nets = t.nets })) (sym c.in_ok-after-in-Ok.ensures.1) c.in-Ok.ensures.applied))
    c.prepared.result c.args.steps.now c.prepared.new.steps c.prepared.ensures.least c.prepared.ensures.most c.prepared.ensures.unsound c.prepared.ensures.refused
