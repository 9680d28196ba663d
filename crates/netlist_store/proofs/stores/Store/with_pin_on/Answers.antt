use Rattle.std.specs.Prelude.{is_some}
use Rattle.std.proofs.lemmas.Bool.{and_parts}
use Rattle.timing_defs.specs.Edits.{has_colon}
use Rattle.netlist_store.specs.Numbering.{number_of}
use Rattle.netlist_store.proofs.stores.Store.with_pin_on.Goals as goal

pub pin_there-pin-requires : goal.pin_there-pin-requires
pin_there-pin-requires c = (and_parts (has_colon c.args.word.now) (is_some (number_of c.args.self.pins c.args.word.now)) c.requires.word).1

pub with_join-requires : goal.with_join-requires
with_join-requires c = record {
  colon = (and_parts (has_colon c.args.word.now) (is_some (number_of c.args.self.pins c.args.word.now)) c.requires.word).0;
  pin = c.pin_there-pin.ensures;
  net = c.known_net-to.ensures;
}
