use Rattle.std.proofs.Common.{ap, subst, ◌∙◌, List, ℕ, [], None, set}
use Rattle.std.specs.List.{list_any}
use Rattle.netlist_store.specs.Numbering.{Stored, number_of, AreNumbers}
use Rattle.netlist_store.specs.Drafts.{IsPart, is_lost}
use Rattle.netlist_store.proofs.NamedLaws.{number_is}
use Rattle.netlist_store.proofs.PinsOfInst.{part_from, sub_from}
use Rattle.netlist_store.proofs.GoneSteps.{gone_design, gone_tables, gone_insts}
use Rattle.netlist_store.proofs.stores.Store.without_gate.Goals as goal

pub pins_of_inst-requires : goal.pins_of_inst-requires
pins_of_inst-requires c = number_is c.args.self.insts c.args.name.now c.args.inst c.requires.number

pub without_inst_names-requires : goal.without_inst_names-requires
without_inst_names-requires c =
    number_is c.self.inside.names.insts c.args.name.now c.args.inst (ap (λ (s : Stored). number_of s.insts c.args.name.now) c.self.view_is ∙ c.requires.number)

pub take_gate-requires : goal.take_gate-requires
take_gate-requires c =
    c.self.invariant.insts_ordered c.args.inst
    ∙ number_is c.self.inside.names.insts c.args.name.now c.args.inst (ap (λ (s : Stored). number_of s.insts c.args.name.now) c.self.view_is ∙ c.requires.number)

pub invariant_of-result : goal.invariant_of-result
invariant_of-result c =
    gone_tables c.self.inside.frame c.self.inside.names c.self.inside.rows c.self.inside.orders c.self.invariant c.args.self c.self.view_is c.args.name.now c.args.inst
    c.requires.number c.requires.opened c.as_slice-pins.result.now (c.as_slice-pins.ensures ∙ c.in-Ok.ensures) c.in-Ok-without_inst_names.names
    c.in-Ok-without_inst_names.ensures.insts c.in-Ok-without_inst_names.ensures.nets c.in-Ok-without_inst_names.ensures.pins
    (part_from c.self.inside.names.pins c.in-Ok-without_inst_names.names.pins c.laws.ensures.pins
    (sub_from c.self.inside.names.pins c.in-Ok-without_inst_names.names.pins (λ (q : List ℕ). list_any (is_lost c.args.name.now [] q) c.as_slice-pins.result.now) c.in-Ok-without_inst_names.ensures.pins) c.in-Ok-without_inst_names.ensures.longer)
    c.laws.ensures.insts c.laws.ensures.pins c.take_gate.new.rows c.in-Ok-take_gate.ensures.rows c.in-Ok-take_gate.orders c.in-Ok-take_gate.ensures.orders

pub returns-in-Ok-take_gate-clause-design : goal.returns-in-Ok-take_gate-clause-design
returns-in-Ok-take_gate-clause-design c =
    gone_design c.self.inside.frame c.self.inside.names c.self.inside.rows c.self.inside.orders c.self.invariant c.args.self c.self.view_is c.args.name.now c.args.inst
    c.requires.number c.requires.opened c.as_slice-pins.result.now (c.as_slice-pins.ensures ∙ c.in-Ok.ensures) c.in-Ok-without_inst_names.names
    c.in-Ok-without_inst_names.ensures.insts c.in-Ok-without_inst_names.ensures.nets c.in-Ok-without_inst_names.ensures.pins
    (part_from c.self.inside.names.pins c.in-Ok-without_inst_names.names.pins c.laws.ensures.pins
    (sub_from c.self.inside.names.pins c.in-Ok-without_inst_names.names.pins (λ (q : List ℕ). list_any (is_lost c.args.name.now [] q) c.as_slice-pins.result.now) c.in-Ok-without_inst_names.ensures.pins) c.in-Ok-without_inst_names.ensures.longer)
    c.laws.ensures.insts c.laws.ensures.pins c.take_gate.new.rows c.in-Ok-take_gate.ensures.rows c.in-Ok-take_gate.orders c.in-Ok-take_gate.ensures.orders

pub returns-in-Ok-take_gate-clause-nets : goal.returns-in-Ok-take_gate-clause-nets
returns-in-Ok-take_gate-clause-nets c = c.in-Ok-without_inst_names.ensures.nets ∙ ap (λ (s : Stored). s.nets) c.self.view_is

pub returns-in-Ok-take_gate-clause-insts : goal.returns-in-Ok-take_gate-clause-insts
returns-in-Ok-take_gate-clause-insts c =
    gone_insts c.args.self.insts c.in-Ok-without_inst_names.names.insts c.args.name.now c.args.inst c.requires.number
    (c.in-Ok-without_inst_names.ensures.insts ∙ ap (λ (s : Stored). set s.insts c.args.inst None) c.self.view_is) c.laws.ensures.insts
    (subst (λ (s : Stored). AreNumbers s.insts) c.self.view_is c.self.invariant.numbered.insts)

pub returns-in-Ok-take_gate-clause-pins : goal.returns-in-Ok-take_gate-clause-pins
returns-in-Ok-take_gate-clause-pins c =
    subst (λ (s : Stored). IsPart c.in-Ok-without_inst_names.names.pins s.pins) c.self.view_is
    (part_from c.self.inside.names.pins c.in-Ok-without_inst_names.names.pins c.laws.ensures.pins
    (sub_from c.self.inside.names.pins c.in-Ok-without_inst_names.names.pins (λ (q : List ℕ). list_any (is_lost c.args.name.now [] q) c.as_slice-pins.result.now) c.in-Ok-without_inst_names.ensures.pins) c.in-Ok-without_inst_names.ensures.longer)
