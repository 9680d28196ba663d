use Rattle.std.proofs.Common.{sym, ap, ◌∙◌}
use Rattle.netlist_store.specs.Numbering.{Stored, number_of}
use Rattle.netlist_store.proofs.NamedLaws.{no_inst}
use Rattle.netlist_store.proofs.stores.Store.nameless.Goals as goal

pub returns : goal.returns
returns c =
    no_inst c.args.self.now c.args.bytes.now c.laws.ensures.numbered
    (ap (λ (s : Stored). number_of s.insts c.args.bytes.now) (sym c.self.view_is) ∙ c.nameless.ensures)
