use Rattle.std.specs.Prelude.{option_and_then}
use Rattle.netlist_store.specs.Numbering.{pin_numbered}
use Rattle.netlist_store.proofs.StoreLaws.{is_found}
use Rattle.netlist_store.proofs.stores.Store.inst_of.Goals as goal

pub returns-clause-inst : goal.returns-clause-inst
returns-clause-inst c =
    is_found c.args.self.now.insts (λ inst. inst.name) (option_and_then (λ p. p.owner) (pin_numbered c.args.self.now c.args.pin))
    c.pin_row.result.now.owner c.pin_row.ensures.owner
