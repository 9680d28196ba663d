use Rattle.std.proofs.Common.{ap, sym, ◌∙◌, Some}
use Rattle.netlist_store.proofs.StoreLaws.{inst_tells, inst_there}
use Rattle.netlist_store.proofs.stores.Store.inst_row.Goals as goal

pub returns : goal.returns
returns c =
    inst_tells c.self.inside.frame c.self.inside.names c.self.inside.rows c.self.inside.orders c.self.invariant c.args.self.now c.self.view_is c.args.inst
    c.get.result.now (sym c.in-Some.ensures ∙ ap Some (sym c.get.ensures))

pub unreachable-requires : goal.unreachable-requires
unreachable-requires c =
    inst_there c.self.inside.frame c.self.inside.names c.self.inside.rows c.self.inside.orders c.self.invariant c.args.self.now c.self.view_is c.args.inst
    c.requires (sym c.in-None.ensures)
