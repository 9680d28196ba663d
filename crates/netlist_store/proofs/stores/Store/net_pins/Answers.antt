use Rattle.std.proofs.Common.{sym, ap, ◌∙◌, Some}
use Rattle.netlist_store.proofs.StoreLaws.{net_within, net_tells}
use Rattle.netlist_store.proofs.stores.Store.net_pins.Goals as goal

pub get-requires : goal.get-requires
get-requires c =
    net_within c.self.inside.frame c.self.inside.names c.self.inside.rows c.self.inside.orders c.self.invariant c.args.self.now c.self.view_is c.args.net c.requires

pub returns : goal.returns
returns c =
    net_tells c.self.inside.frame c.self.inside.names c.self.inside.rows c.self.inside.orders c.self.invariant c.args.self.now c.self.view_is c.args.net c.requires
    c.as_slice.result.now (c.get.ensures ∙ ap Some (sym (c.as_slice.ensures ∙ c.get-2.ensures)))
