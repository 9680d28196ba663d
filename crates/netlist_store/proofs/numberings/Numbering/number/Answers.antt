use Rattle.std.proofs.Common.{sym, ap, ◌∙◌, map}
use Rattle.netlist_store.specs.Numbering.{number_of}
use Rattle.netlist_store.specs.Shards.{number_under}
use Rattle.netlist_store.specs.Slots.{slot_name}
use Rattle.netlist_store.proofs.NumberLaws.{told_from}
use Rattle.netlist_store.proofs.numberings.Numbering.number.Goals as goal

pub returns : goal.returns
returns c =
    c.number.ensures ∙ sym (told_from (number_under c.self.inside.numbers) (map slot_name c.self.inside.slots) c.self.invariant.0 c.args.name.now)
    ∙ ap (λ names. number_of names c.args.name.now) c.self.view_is
