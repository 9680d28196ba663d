use Rattle.std.proofs.Common.{refl}
use Rattle.netlist_store.proofs.FitLaws.{nets_distinct}
use Rattle.netlist_store.proofs.NewStores.{insts_apart, pins_ready, whole}
use Rattle.netlist_store.proofs.stores.Store.of_lists.Goals as goal

pub names_of-requires : goal.names_of-requires
names_of-requires c = record {
  nets = nets_distinct (whole c.args.frame c.args.lists.nets c.args.lists.insts c.args.lists.rcs) c.requires;
  insts = insts_apart (whole c.args.frame c.args.lists.nets c.args.lists.insts c.args.lists.rcs) c.requires;
  pins = pins_ready (whole c.args.frame c.args.lists.nets c.args.lists.insts c.args.lists.rcs) c.args.frame refl refl c.requires;
}

pub of_names-requires : goal.of_names-requires
of_names-requires c = record {
  linked = c.requires;
  insts = c.in-Ok.ensures.insts;
  nets = c.in-Ok.ensures.nets;
  pins = c.in-Ok.ensures.pins;
}
