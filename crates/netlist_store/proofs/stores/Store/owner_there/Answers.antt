use Rattle.std.proofs.Common.{sym, ◌∙◌}
use Rattle.netlist_store.proofs.NamedLaws.{number_is}
use Rattle.netlist_store.proofs.JoinSteps.{stands, owner_is, has_owner}
use Rattle.netlist_store.proofs.stores.Store.owner_there.Goals as goal

pub inst_of-requires : goal.inst_of-requires
inst_of-requires c = number_is c.args.self.now.pins c.args.word.now c.args.pin c.requires.pin

pub returns : goal.returns
returns c =
    sym (owner_is c.args.self.now c.laws.ensures.numbered c.args.word.now c.args.pin c.requires.pin
    (stands c.args.self.now c.laws.ensures.numbered c.laws.ensures.linked c.args.word.now c.args.pin c.requires.colon c.requires.pin))
    ∙ sym c.in-Some.ensures.value

pub unreachable-requires : goal.unreachable-requires
unreachable-requires c =
    has_owner c.args.self.now c.laws.ensures.numbered c.args.word.now c.args.pin c.requires.pin
    (stands c.args.self.now c.laws.ensures.numbered c.laws.ensures.linked c.args.word.now c.args.pin c.requires.colon c.requires.pin)
    (sym c.in-None.ensures.value)
