use Rattle.std.proofs.Common.{ap, ◌∙◌}
use Rattle.timing_defs.specs.Edits.{before_last, after_last, on_inst, with_conns, connected}
use Rattle.netlist_store.specs.Numbering.{Stored, number_of}
use Rattle.netlist_store.proofs.EditFacts.{word_colon, joins_word, joins_listed}
use Rattle.netlist_store.proofs.BufferSteps.{follows_same}
use Rattle.netlist_store.proofs.stores.Store.connect.Goals as goal

pub known_pin-number-requires : goal.known_pin-number-requires
known_pin-number-requires c = joins_word c.args.self.design c.args.pin.now c.args.net.now c.requires.faults

pub known_net-to-requires : goal.known_net-to-requires
known_net-to-requires c = joins_listed c.args.self.design c.args.pin.now c.args.net.now c.requires.faults

pub with_join-requires : goal.with_join-requires
with_join-requires c = record {
  colon = word_colon c.args.self.design c.args.pin.now (joins_word c.args.self.design c.args.pin.now c.args.net.now c.requires.faults);
  pin = ap (λ (s : Stored). number_of s.pins c.args.pin.now) c.in_ok-bare.ensures ∙ c.known_pin-number.ensures;
  net = ap (λ (s : Stored). number_of s.nets c.args.net.now) c.in_ok-bare.ensures ∙ c.known_net-to.ensures;
}

pub returns-clause-design : goal.returns-clause-design
returns-clause-design c =
    ap (λ (z : Stored). z.design) c.in_ok-after.ensures
    ∙ ap (λ (z : Stored). record z.design { insts = on_inst (before_last c.args.pin.now) (with_conns (connected (after_last c.args.pin.now) c.args.net.now)) z.design.insts })
    c.in_ok-bare.ensures

pub returns-clause-follows : goal.returns-clause-follows
returns-clause-follows c =
    follows_same c.args.base.now c.args.self c.in_ok-after.after
    (ap (λ (z : Stored). z.insts) c.in_ok-after.ensures ∙ ap (λ (z : Stored). z.insts) c.in_ok-bare.ensures)
    (ap (λ (z : Stored). z.nets) c.in_ok-after.ensures ∙ ap (λ (z : Stored). z.nets) c.in_ok-bare.ensures)
    (ap (λ (z : Stored). z.pins) c.in_ok-after.ensures ∙ ap (λ (z : Stored). z.pins) c.in_ok-bare.ensures) c.requires.follows
