use Rattle.std.proofs.Common.{ap, sym, ◌∙◌}
use Rattle.std.specs.Prelude.{Ok}
use Rattle.timing_defs.specs.declared.design.Design.{Design}
use Rattle.netlist_store.specs.Touching.{touched_with}
use Rattle.netlist_store.proofs.EcoSteps.{edit_done}
use Rattle.netlist_store.proofs.stores.Store.after.Goals as goal

pub returns-in_ok-after-in-Ok-clause-edited : goal.returns-in_ok-after-in-Ok-clause-edited
returns-in_ok-after-in-Ok-clause-edited c =
    edit_done c.args.self.design c.args.change.now c.in-Ok.ensures.checked ∙ sym (ap Ok c.in_ok-after-in-Ok.ensures.design)

pub returns-in_ok-after-in-Ok-clause-touched : goal.returns-in_ok-after-in-Ok-clause-touched
returns-in_ok-after-in-Ok-clause-touched c = λ edits.
    ap (λ (d : Design). touched_with c.checked.new.touched d edits) c.in_ok-after-in-Ok.ensures.design ∙ c.in-Ok.ensures.touched edits
