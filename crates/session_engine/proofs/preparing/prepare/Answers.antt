use Rattle.std.proofs.Common.{◌-◌, true, subst}
use Rattle.netlist_store.specs.Numbering.{Stored}
use Rattle.eco_analysis.specs.Soundness.{IsRefusal}
use Rattle.eco_analysis.specs.Counting.{is_told}
use Rattle.session_engine.proofs.VersionLaws.{counted_next}
use Rattle.session_engine.proofs.preparing.prepare.Goals as goal

pub returns-in_err-next-in-Ok-clause-counted : goal.returns-in_err-next-in-Ok-clause-counted
returns-in_err-next-in-Ok-clause-counted g c =
    counted_next c.store.result.now c.args.base.now.stored c.args.eco.now (is_told c.from_residual.result) (c.after_eco.new.steps - c.args.steps.now)
    c.store.ensures c.in-Ok.ensures.counted

pub returns-in_ok-next-in-Ok-clause-counted : goal.returns-in_ok-next-in-Ok-clause-counted
returns-in_ok-next-in-Ok-clause-counted g c =
    counted_next c.store.result.now c.args.base.now.stored c.args.eco.now true (c.after_eco.new.steps - c.args.steps.now)
    c.store.ensures c.in-Ok.ensures.counted

pub returns-in-Err-clause-refused : goal.returns-in-Err-clause-refused
returns-in-Err-clause-refused g c =
    subst (λ (s : Stored). IsRefusal s.design c.args.eco.now c.in-Err.fault) c.store.ensures c.in-Err.ensures.refused
