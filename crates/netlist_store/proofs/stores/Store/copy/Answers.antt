use Rattle.std.proofs.Common.{◌∙◌}
use Rattle.netlist_store.proofs.StoreLaws.{same_stored, same_tables}
use Rattle.netlist_store.proofs.stores.Store.copy.Goals as goal

pub invariant_of-result : goal.invariant_of-result
invariant_of-result c =
    same_tables c.self.inside.frame c.in_ok-frame.frame c.self.inside.names c.in-Ok.names c.self.inside.rows c.in-Ok-copy.rows c.self.inside.orders c.in-Ok-copy-2.orders
    c.in_ok-frame.ensures c.in-Ok.ensures c.in-Ok-copy.ensures c.in-Ok-copy-2.ensures c.self.invariant

pub returns-in-Ok-copy-2 : goal.returns-in-Ok-copy-2
returns-in-Ok-copy-2 c =
    same_stored c.self.inside.frame c.in_ok-frame.frame c.self.inside.names c.in-Ok.names c.self.inside.rows c.in-Ok-copy.rows c.self.inside.orders c.in-Ok-copy-2.orders
    c.in_ok-frame.ensures c.in-Ok.ensures c.in-Ok-copy.ensures c.in-Ok-copy-2.ensures ∙ c.self.view_is
