use Rattle.std.proofs.Common.{◌≡◌, sym, subst}
use Rattle.std.specs.Prelude.{IfOk}
use Rattle.timing_defs.specs.declared.edits.Edit.{Edit}
use Rattle.timing_defs.specs.Edits.{changed}
use Rattle.netlist_store.proofs.stores.Store.changed.Goals as goal

pub returns-in-Connect-clause-design : goal.returns-in-Connect-clause-design
returns-in-Connect-clause-design c =
    subst (λ (e : Edit). IfOk c.connect.result (λ after. after.design ≡ changed c.args.self.design e)) (sym c.in-Connect.is) c.connect.ensures.design
