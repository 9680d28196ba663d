use Rattle.timing_defs.specs.Edits.{before_last}
use Rattle.netlist_store.proofs.NamedLaws.{number_is}
use Rattle.netlist_store.proofs.stores.Store.joined_row.Goals as goal

pub with_other_conns-requires : goal.with_other_conns-requires
with_other_conns-requires c = number_is c.args.self.now.insts (before_last c.args.word.now) c.args.owner c.requires.inst
