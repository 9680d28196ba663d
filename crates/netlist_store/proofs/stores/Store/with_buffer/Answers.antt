use Rattle.netlist_store.proofs.stores.Store.with_buffer.Goals as goal

pub with_ends_on-requires : goal.with_ends_on-requires
with_ends_on-requires c = record {
  cell = c.requires.cell;
  new = c.requires.new;
  net = c.requires.net;
  fresh = c.requires.fresh;
  follows = c.requires.follows;
  input = c.in-Ok.ensures.input;
  output = c.in-Ok.ensures.output;
}
