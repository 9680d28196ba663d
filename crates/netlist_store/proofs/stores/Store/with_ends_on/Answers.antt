use Rattle.std.proofs.Common.{ap, sym, subst, ◌∙◌}
use Rattle.timing_defs.specs.declared.kinds.Dir.TheVariants.{Input, Output}
use Rattle.timing_defs.specs.declared.design.Design.{Design}
use Rattle.timing_defs.specs.Netlist.{is_listed}
use Rattle.netlist_store.specs.Numbering.{Stored}
use Rattle.netlist_store.specs.Drafts.{Follows, is_pin_word}
use Rattle.netlist_store.proofs.BufferSteps.{cell_there, pin_ready, buffer_design, follows_same}
use Rattle.netlist_store.proofs.stores.Store.with_ends_on.Goals as goal

pub with_gate-requires : goal.with_gate-requires
with_gate-requires c = record {
  cell = cell_there c.args.self.design c.args.cell.now c.requires.cell;
  fresh = c.requires.new;
  insts = c.requires.follows.insts;
  pins = c.requires.follows.pins;
}

pub with_pin_on-requires : goal.with_pin_on-requires
with_pin_on-requires c = record {
  word = pin_ready c.args.self c.in_ok-gate.gate c.laws.ensures.numbered c.laws.ensures.linked c.laws-2.ensures.numbered c.laws-2.ensures.linked c.args.inst.now c.args.cell.now c.requires.new c.requires.cell c.in_ok-gate.ensures.design Input c.args.ends.now.input c.requires.input;
  net = ap (λ (d : Design). is_listed d.nets c.args.net.now) c.in_ok-gate.ensures.design ∙ c.requires.net;
}

pub with_pin_on-requires-2 : goal.with_pin_on-requires-2
with_pin_on-requires-2 c = record {
  word =
      ap (λ (z : Stored). is_pin_word z.pins c.args.ends.now.output) c.in_ok-fed.ensures
      ∙ pin_ready c.args.self c.in_ok-gate.gate c.laws.ensures.numbered c.laws.ensures.linked c.laws-2.ensures.numbered c.laws-2.ensures.linked c.args.inst.now c.args.cell.now c.requires.new c.requires.cell c.in_ok-gate.ensures.design Output c.args.ends.now.output c.requires.output;
  net =
      ap (λ (z : Stored). is_listed z.design.nets c.args.fresh.now) c.in_ok-fed.ensures
      ∙ ap (λ (d : Design). is_listed d.nets c.args.fresh.now) c.in_ok-gate.ensures.design ∙ c.requires.fresh;
}

pub returns-clause-design : goal.returns-clause-design
returns-clause-design c =
    buffer_design c.args.self c.in_ok-gate.gate c.laws.ensures.numbered c.laws.ensures.linked c.laws-2.ensures.numbered c.laws-2.ensures.linked c.args.inst.now c.args.cell.now c.requires.new c.requires.cell c.in_ok-gate.ensures.design
    c.args.net.now c.args.fresh.now c.args.ends.now.input c.args.ends.now.output c.requires.input c.requires.output c.in_ok-fed.fed c.in_ok-done.done c.in_ok-fed.ensures c.in_ok-done.ensures

pub returns-clause-follows : goal.returns-clause-follows
returns-clause-follows c =
    follows_same c.args.base.now c.in_ok-gate.gate c.in_ok-done.done
    (ap (λ (z : Stored). z.insts) c.in_ok-done.ensures ∙ ap (λ (z : Stored). z.insts) c.in_ok-fed.ensures)
    (ap (λ (z : Stored). z.nets) c.in_ok-done.ensures ∙ ap (λ (z : Stored). z.nets) c.in_ok-fed.ensures)
    (ap (λ (z : Stored). z.pins) c.in_ok-done.ensures ∙ ap (λ (z : Stored). z.pins) c.in_ok-fed.ensures)
    (record {
      insts = c.in_ok-gate.ensures.insts;
      nets = subst (Follows c.args.base.now.nets) (sym c.in_ok-gate.ensures.nets) c.requires.follows.nets;
      pins = c.in_ok-gate.ensures.pins;
    })
