use Rattle.std.proofs.Common.{refl}
use Rattle.netlist_store.proofs.NewStores.{design_of, new_from, rcs_apart, rows_ready, tables_of, whole}
use Rattle.netlist_store.proofs.stores.Store.of_orders.Goals as goal

pub rows_of-requires : goal.rows_of-requires
rows_of-requires c = record {
  rcs = rcs_apart (whole c.args.frame c.args.lists.nets c.args.lists.insts c.args.lists.rcs) c.requires.linked;
  pins = rows_ready c.args.frame c.args.names c.args.lists.insts c.requires.pins;
}

pub invariant_of-result : goal.invariant_of-result
invariant_of-result c =
    tables_of (whole c.args.frame c.args.lists.nets c.args.lists.insts c.args.lists.rcs) c.in-Ok-of.frame c.args.names c.in-Ok.rows c.args.orders
    (new_from (whole c.args.frame c.args.lists.nets c.args.lists.insts c.args.lists.rcs) c.args.frame c.in-Ok-of.frame c.args.names c.in-Ok.rows c.args.orders c.in-Ok-of.ensures
    refl refl refl refl c.requires.insts c.requires.nets c.requires.pins
    c.in-Ok.ensures.insts c.in-Ok.ensures.rcs c.in-Ok.ensures.pins c.in-Ok.ensures.net_len c.in-Ok.ensures.net_pins
    c.requires.inst_order c.requires.net_order c.requires.rc_order)
    c.requires.linked c.laws.ensures.insts c.laws.ensures.nets c.laws.ensures.pins

pub returns-in-Ok-of : goal.returns-in-Ok-of
returns-in-Ok-of c =
    design_of (whole c.args.frame c.args.lists.nets c.args.lists.insts c.args.lists.rcs) c.in-Ok-of.frame c.args.names c.in-Ok.rows c.args.orders
    (new_from (whole c.args.frame c.args.lists.nets c.args.lists.insts c.args.lists.rcs) c.args.frame c.in-Ok-of.frame c.args.names c.in-Ok.rows c.args.orders c.in-Ok-of.ensures
    refl refl refl refl c.requires.insts c.requires.nets c.requires.pins
    c.in-Ok.ensures.insts c.in-Ok.ensures.rcs c.in-Ok.ensures.pins c.in-Ok.ensures.net_len c.in-Ok.ensures.net_pins
    c.requires.inst_order c.requires.net_order c.requires.rc_order)
    c.requires.linked
