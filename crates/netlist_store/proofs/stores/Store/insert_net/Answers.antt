use Rattle.std.proofs.Common.{ap, sym, subst, ◌∙◌}
use Rattle.netlist_store.specs.Numbering.{Stored, number_of}
use Rattle.netlist_store.specs.Drafts.{Follows}
use Rattle.netlist_store.proofs.NamedLaws.{none_is}
use Rattle.netlist_store.proofs.EditFacts.{net_absent}
use Rattle.netlist_store.proofs.stores.Store.insert_net.Goals as goal

pub with_net-requires : goal.with_net-requires
with_net-requires c = record {
  fresh =
      none_is (number_of c.args.self.nets c.args.net.now)
      (c.laws.ensures.numbered.net_names c.args.net.now ∙ net_absent c.args.self.design c.args.net.now c.requires.faults);
  follows = c.requires.follows.nets;
}

pub returns-clause-design : goal.returns-clause-design
returns-clause-design c = ap (λ (z : Stored). z.design) c.in_ok-after.ensures.changed

pub returns-clause-follows : goal.returns-clause-follows
returns-clause-follows c = record {
  insts = subst (λ (z : Stored). Follows c.args.base.now.insts z.insts) (sym c.in_ok-after.ensures.changed) c.requires.follows.insts;
  nets = c.in_ok-after.ensures.follows;
  pins = subst (λ (z : Stored). Follows c.args.base.now.pins z.pins) (sym c.in_ok-after.ensures.changed) c.requires.follows.pins;
}
