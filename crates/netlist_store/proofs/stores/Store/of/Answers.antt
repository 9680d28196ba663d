use Rattle.std.proofs.Common.{◌≡◌, subst, sym}
use Rattle.std.specs.Prelude.{IfOk}
use Rattle.timing_defs.specs.declared.design.Design.{Design}
use Rattle.netlist_store.specs.Numbering.{Stored}
use Rattle.netlist_store.specs.Linked.{IsLinked}
use Rattle.netlist_store.proofs.NewStores.{whole_is}
use Rattle.netlist_store.proofs.stores.Store.of.Goals as goal

pub of_lists-requires : goal.of_lists-requires
of_lists-requires c =
    subst (λ (d : Design). IsLinked d)
    (sym (whole_is c.args.design c.in-Ok.frame c.in-Ok.ensures.early c.in-Ok.ensures.late c.in-Ok.ensures.ports c.in-Ok.ensures.constraints)) c.requires.linked

pub returns-in-Ok : goal.returns-in-Ok
returns-in-Ok c =
    subst (λ (d : Design). IfOk c.of_lists.result (λ (s : Stored). s.design ≡ d))
    (whole_is c.args.design c.in-Ok.frame c.in-Ok.ensures.early c.in-Ok.ensures.late c.in-Ok.ensures.ports c.in-Ok.ensures.constraints) c.of_lists.ensures
