use Rattle.std.proofs.Common.{sym, ap, ◌∙◌, map}
use Rattle.netlist_store.specs.Numbering.{number_of}
use Rattle.netlist_store.specs.Shards.{number_under}
use Rattle.netlist_store.specs.Slots.{slot_name}
use Rattle.netlist_store.proofs.NumberLaws.{told_from}
use Rattle.netlist_store.proofs.numberings.Numbering.nameless.Goals as goal

pub returns : goal.returns
returns c =
    ap (λ names. number_of names c.args.bytes.now) (sym c.self.view_is)
    ∙ told_from (number_under c.self.inside.numbers) (map slot_name c.self.inside.slots) c.self.invariant.0 c.args.bytes.now
    ∙ c.nameless.ensures
