use Rattle.std.proofs.Common.{sym, ap, ◌∙◌, Some}
use Rattle.std.specs.Prelude.{is_some}
use Rattle.std.proofs.lemmas.Bool.{false≢true}
use Rattle.netlist_store.proofs.NamedLaws.{number_is}
use Rattle.netlist_store.proofs.EditFacts.{net_is_named, net_by_word}
use Rattle.netlist_store.proofs.stores.Store.known_net_of.Goals as goal

pub net_of-requires : goal.net_of-requires
net_of-requires c = number_is c.args.self.now.pins c.args.pin.now c.args.number c.requires.number

pub returns : goal.returns
returns c =
    let named = net_is_named c.args.self.now c.laws.ensures.numbered c.laws.ensures.linked c.args.pin.now c.args.number c.in-Some.net c.net_name.result.now
    c.requires.colon c.requires.number (sym c.in-Some.ensures.value) c.net_name.ensures in
    named ∙ ap Some (sym c.in_ok-name-in-Some.ensures)

pub unreachable-requires : goal.unreachable-requires
unreachable-requires c =
    false≢true (c.in-None.ensures.none
    ∙ ap is_some (net_by_word c.args.self.now c.laws.ensures.numbered c.laws.ensures.linked c.args.pin.now c.args.number c.requires.colon c.requires.number)
    ∙ c.requires.net)
