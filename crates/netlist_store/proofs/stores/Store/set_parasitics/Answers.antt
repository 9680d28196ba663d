use Rattle.std.proofs.Common.{ap}
use Rattle.netlist_store.specs.Numbering.{Stored}
use Rattle.netlist_store.proofs.EditFacts.{rc_listed}
use Rattle.netlist_store.proofs.BufferSteps.{follows_same}
use Rattle.netlist_store.proofs.stores.Store.set_parasitics.Goals as goal

pub with_other_rc-requires : goal.with_other_rc-requires
with_other_rc-requires c = record {
  edit = c.requires.edit;
  listed = rc_listed c.args.self.design c.args.net.now c.args.rc.now c.requires.faults;
}

pub returns-clause-design : goal.returns-clause-design
returns-clause-design c = ap (λ (z : Stored). z.design) c.in_ok-after.ensures

pub returns-clause-follows : goal.returns-clause-follows
returns-clause-follows c =
    follows_same c.args.base.now c.args.self c.in_ok-after.after (ap (λ (z : Stored). z.insts) c.in_ok-after.ensures) (ap (λ (z : Stored). z.nets) c.in_ok-after.ensures)
    (ap (λ (z : Stored). z.pins) c.in_ok-after.ensures) c.requires.follows
