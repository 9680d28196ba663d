use Rattle.std.proofs.Common.{List, ℕ}
use Rattle.std.specs.Prelude.{option_and_then}
use Rattle.timing_defs.specs.Netlist.{net_of}
use Rattle.netlist_store.specs.Numbering.{pin_numbered}
use Rattle.netlist_store.proofs.StoreLaws.{is_found}
use Rattle.netlist_store.proofs.stores.Store.net_of.Goals as goal

pub returns-clause-net : goal.returns-clause-net
returns-clause-net c =
    is_found c.args.self.now.nets (λ (name : List ℕ). name) (option_and_then net_of (pin_numbered c.args.self.now c.args.pin))
    c.pin_row.result.now.net c.pin_row.ensures.net
