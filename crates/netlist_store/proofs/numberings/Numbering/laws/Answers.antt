use Rattle.std.proofs.Common.{◌<◌, ◌^◌, map, subst, sym}
use Rattle.std.proofs.lemmas.List.{length-map}
use Rattle.netlist_store.specs.Numbering.{AreNumbers}
use Rattle.netlist_store.specs.Shards.{number_under}
use Rattle.netlist_store.specs.Slots.{slot_name}
use Rattle.netlist_store.proofs.NumberLaws.{numbers_from}
use Rattle.netlist_store.proofs.numberings.Numbering.laws.Goals as goal

pub returns : goal.returns
returns c =
    subst AreNumbers c.self.view_is
    (numbers_from (number_under c.self.inside.numbers) (map slot_name c.self.inside.slots) c.self.invariant.0
    (subst (λ n. n < 2 ^ 31) (sym (length-map c.self.inside.slots slot_name)) c.self.invariant.1))
