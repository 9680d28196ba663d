use Rattle.std.proofs.Common.{Option, List, ℕ, ap, sym, ◌∙◌, filter, not}
use Rattle.std.specs.Option.{option_map_or}
use Rattle.timing_defs.specs.Edits.{before_last, after_last, on_inst, with_conns, is_conn_of, without_rc}
use Rattle.netlist_store.specs.Numbering.{Stored, number_of}
use Rattle.netlist_store.proofs.EditFacts.{word_colon, leaves_word, leaves_on, word_listed}
use Rattle.netlist_store.proofs.BufferSteps.{follows_same}
use Rattle.netlist_store.proofs.stores.Store.disconnect.Goals as goal

pub known_pin-number-requires : goal.known_pin-number-requires
known_pin-number-requires c = leaves_word c.args.self.design c.args.pin.now c.requires.faults

pub known_net_of-requires : goal.known_net_of-requires
known_net_of-requires c = record {
  colon = word_colon c.args.self.design c.args.pin.now (leaves_word c.args.self.design c.args.pin.now c.requires.faults);
  number = c.known_pin-number.ensures;
  net = leaves_on c.args.self.design c.args.pin.now c.requires.faults;
}

pub known_net-from-requires : goal.known_net-from-requires
known_net-from-requires c = word_listed c.args.self.design c.laws.ensures.linked c.args.pin.now c.in-Ok.net c.in-Ok.ensures

pub with_leave-requires : goal.with_leave-requires
with_leave-requires c = record {
  colon = word_colon c.args.self.design c.args.pin.now (leaves_word c.args.self.design c.args.pin.now c.requires.faults);
  pin = ap (λ (s : Stored). number_of s.pins c.args.pin.now) c.in_ok-bare-in-Ok.ensures ∙ c.known_pin-number.ensures;
}

pub returns-in_ok-after-in-Ok-clause-design : goal.returns-in_ok-after-in-Ok-clause-design
returns-in_ok-after-in-Ok-clause-design c =
    ap (λ (z : Stored). z.design) c.in_ok-after-in-Ok.ensures
    ∙ ap (λ (z : Stored). record z.design { insts = on_inst (before_last c.args.pin.now) (with_conns (filter (λ conn. not (is_conn_of (after_last c.args.pin.now) conn)))) z.design.insts })
    c.in_ok-bare-in-Ok.ensures
    ∙ sym (ap (λ (o : Option (List ℕ)). record c.args.self.design {
      insts = on_inst (before_last c.args.pin.now) (with_conns (filter (λ conn. not (is_conn_of (after_last c.args.pin.now) conn)))) c.args.self.design.insts;
      rcs = option_map_or (λ net. without_rc net c.args.self.design.rcs) o c.args.self.design.rcs;
    }) c.in-Ok.ensures)

pub returns-in_ok-after-in-Ok-clause-follows : goal.returns-in_ok-after-in-Ok-clause-follows
returns-in_ok-after-in-Ok-clause-follows c =
    follows_same c.args.base.now c.args.self c.in_ok-after-in-Ok.after
    (ap (λ (z : Stored). z.insts) c.in_ok-after-in-Ok.ensures ∙ ap (λ (z : Stored). z.insts) c.in_ok-bare-in-Ok.ensures)
    (ap (λ (z : Stored). z.nets) c.in_ok-after-in-Ok.ensures ∙ ap (λ (z : Stored). z.nets) c.in_ok-bare-in-Ok.ensures)
    (ap (λ (z : Stored). z.pins) c.in_ok-after-in-Ok.ensures ∙ ap (λ (z : Stored). z.pins) c.in_ok-bare-in-Ok.ensures) c.requires.follows
