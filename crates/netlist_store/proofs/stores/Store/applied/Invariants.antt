use Rattle.std.proofs.Common.{◌≡◌, drop}
use Rattle.std.specs.Prelude.{Ok}
use Rattle.timing_defs.specs.Edits.{edited_list, edited}
use Rattle.timing_defs.specs.Touches.{touched_list}
use Rattle.netlist_store.specs.Touching.{touched_with}
use Rattle.netlist_store.specs.Drafts.{FollowsAll}
use Rattle.netlist_store.proofs.stores.Store.applied.Given as goal

abbrev pub invariant-loop-edit : goal.invariant-loop-edit
invariant-loop-edit l = record {
  edited : edited_list (Ok l.store.design) (drop l.edit-index l.edits) ≡ edited l.self.design l.eco;
  touched : touched_with l.touched l.store.design (drop l.edit-index l.edits) ≡ touched_list l.self.design l.edits;
  follows : FollowsAll l.self l.store;
}
