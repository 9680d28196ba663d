use Rattle.std.proofs.Common.{ap, sym, subst, ◌∙◌, List, ℕ, Option}
use Rattle.std.specs.Prelude.{is_some}
use Rattle.std.specs.List.{list_all}
use Rattle.netlist_store.specs.Numbering.{Stored, number_of}
use Rattle.netlist_store.specs.Drafts.{Follows, is_pin_word}
use Rattle.netlist_store.proofs.NamedLaws.{none_is}
use Rattle.netlist_store.proofs.BufferSteps.{buffer_facts, words_numbered, wide_has, moved_insts, moved_nets, moved_pins, net_stays, fresh_there, buffer_stays, whole_design}
use Rattle.netlist_store.proofs.stores.Store.insert_buffer.Goals as goal

pub known_net-number-requires : goal.known_net-number-requires
known_net-number-requires c = (buffer_facts c.args.self.design c.args.net.now c.args.inst.now c.args.fresh.now c.args.cell.now c.args.sinks.now c.requires.faults).there

pub with_net-requires : goal.with_net-requires
with_net-requires c = record {
  fresh =
      ap (λ (z : Stored). number_of z.nets c.args.fresh.now) c.in_ok-bare.ensures
      ∙ none_is (number_of c.args.self.nets c.args.fresh.now) (c.laws.ensures.numbered.net_names c.args.fresh.now ∙ (buffer_facts c.args.self.design c.args.net.now c.args.inst.now c.args.fresh.now c.args.cell.now c.args.sinks.now c.requires.faults).new_net);
  follows = subst (λ (z : Stored). Follows c.args.base.now.nets z.nets) (sym c.in_ok-bare.ensures) c.requires.follows.nets;
}

pub with_sinks_on-requires : goal.with_sinks_on-requires
with_sinks_on-requires c = record {
  words =
      ap (λ (ps : List (Option (List ℕ))). list_all (is_pin_word ps) c.args.sinks.now)
      (ap (λ (z : Stored). z.pins) c.in_ok-wide.ensures.changed ∙ ap (λ (z : Stored). z.pins) c.in_ok-bare.ensures)
      ∙ words_numbered c.args.self c.laws.ensures.numbered c.laws.ensures.linked c.args.sinks.now (buffer_facts c.args.self.design c.args.net.now c.args.inst.now c.args.fresh.now c.args.cell.now c.args.sinks.now c.requires.faults).words;
  net = wide_has c.args.self c.in_ok-bare.bare c.in_ok-wide.wide c.args.net.now c.args.fresh.now c.in_ok-bare.ensures c.in_ok-wide.ensures.changed;
}

pub with_buffer-requires : goal.with_buffer-requires
with_buffer-requires c = record {
  cell = buffer_stays c.args.self c.in_ok-bare.bare c.in_ok-wide.wide c.in_ok-moved.moved c.args.net.now c.args.fresh.now c.args.sinks.now c.in_ok-bare.ensures c.in_ok-wide.ensures.changed c.in_ok-moved.ensures c.args.cell.now (buffer_facts c.args.self.design c.args.net.now c.args.inst.now c.args.fresh.now c.args.cell.now c.args.sinks.now c.requires.faults).buffer;
  new =
      ap (λ (ns : List (Option (List ℕ))). number_of ns c.args.inst.now) (moved_insts c.args.self c.in_ok-bare.bare c.in_ok-wide.wide c.in_ok-moved.moved c.args.net.now c.args.fresh.now c.args.sinks.now c.in_ok-bare.ensures c.in_ok-wide.ensures.changed c.in_ok-moved.ensures)
      ∙ none_is (number_of c.args.self.insts c.args.inst.now) (c.laws.ensures.numbered.inst_names c.args.inst.now ∙ ap is_some (buffer_facts c.args.self.design c.args.net.now c.args.inst.now c.args.fresh.now c.args.cell.now c.args.sinks.now c.requires.faults).new_inst);
  net = net_stays c.args.self c.in_ok-bare.bare c.in_ok-wide.wide c.in_ok-moved.moved c.args.net.now c.args.fresh.now c.args.sinks.now c.in_ok-bare.ensures c.in_ok-wide.ensures.changed c.in_ok-moved.ensures (buffer_facts c.args.self.design c.args.net.now c.args.inst.now c.args.fresh.now c.args.cell.now c.args.sinks.now c.requires.faults).there;
  fresh = fresh_there c.args.self c.in_ok-bare.bare c.in_ok-wide.wide c.in_ok-moved.moved c.args.net.now c.args.fresh.now c.args.sinks.now c.in_ok-bare.ensures c.in_ok-wide.ensures.changed c.in_ok-moved.ensures;
  follows = record {
    insts = subst (Follows c.args.base.now.insts) (sym (moved_insts c.args.self c.in_ok-bare.bare c.in_ok-wide.wide c.in_ok-moved.moved c.args.net.now c.args.fresh.now c.args.sinks.now c.in_ok-bare.ensures c.in_ok-wide.ensures.changed c.in_ok-moved.ensures)) c.requires.follows.insts;
    nets = subst (Follows c.args.base.now.nets) (sym (moved_nets c.args.self c.in_ok-bare.bare c.in_ok-wide.wide c.in_ok-moved.moved c.args.net.now c.args.fresh.now c.args.sinks.now c.in_ok-bare.ensures c.in_ok-wide.ensures.changed c.in_ok-moved.ensures)) c.in_ok-wide.ensures.follows;
    pins = subst (Follows c.args.base.now.pins) (sym (moved_pins c.args.self c.in_ok-bare.bare c.in_ok-wide.wide c.in_ok-moved.moved c.args.net.now c.args.fresh.now c.args.sinks.now c.in_ok-bare.ensures c.in_ok-wide.ensures.changed c.in_ok-moved.ensures)) c.requires.follows.pins;
  };
}

pub returns-clause-design : goal.returns-clause-design
returns-clause-design c = whole_design c.args.self c.in_ok-bare.bare c.in_ok-wide.wide c.in_ok-moved.moved c.args.net.now c.args.fresh.now c.args.sinks.now c.in_ok-bare.ensures c.in_ok-wide.ensures.changed c.in_ok-moved.ensures c.args.inst.now c.args.cell.now c.in_ok-done.done.design c.in_ok-done.ensures.design
