use Rattle.netlist_store.proofs.StoreLaws.{pin_within, pin_tells}
use Rattle.netlist_store.proofs.stores.Store.pin_row.Goals as goal

pub get-requires : goal.get-requires
get-requires c =
    pin_within c.self.inside.frame c.self.inside.names c.self.inside.rows c.self.inside.orders c.self.invariant c.args.self.now c.self.view_is c.args.pin c.requires

pub returns : goal.returns
returns c =
    pin_tells c.self.inside.frame c.self.inside.names c.self.inside.rows c.self.inside.orders c.self.invariant c.args.self.now c.self.view_is c.args.pin c.requires
    c.get.result.now c.get.ensures
