use Rattle.std.proofs.Common.{◌≡◌, ap, sym, subst, List}
use Rattle.std.specs.Prelude.{IfOk}
use Rattle.timing_defs.specs.declared.library.CellPin.{CellPin}
use Rattle.timing_defs.specs.Netlist.{cell_pins}
use Rattle.netlist_store.proofs.stores.Store.pins_of_inst.Goals as goal

pub returns : goal.returns
returns c = subst (λ (ps : List CellPin). IfOk c.again.result (λ (pins : List CellPin). pins ≡ ps)) (sym (ap cell_pins c.cell_at.ensures)) c.again.ensures
