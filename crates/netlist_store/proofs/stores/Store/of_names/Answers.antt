use Rattle.netlist_store.proofs.NewStores.{rcs_apart, whole}
use Rattle.netlist_store.proofs.stores.Store.of_names.Goals as goal

pub orders_of-requires : goal.orders_of-requires
orders_of-requires c = rcs_apart (whole c.args.frame c.args.lists.nets c.args.lists.insts c.args.lists.rcs) c.requires.linked

pub of_orders-requires : goal.of_orders-requires
of_orders-requires c = record {
  linked = c.requires.linked;
  insts = c.requires.insts;
  nets = c.requires.nets;
  pins = c.requires.pins;
  inst_order = c.in-Ok.ensures.insts;
  net_order = c.in-Ok.ensures.nets;
  rc_order = c.in-Ok.ensures.rcs;
}
