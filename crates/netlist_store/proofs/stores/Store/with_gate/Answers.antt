use Rattle.std.proofs.Common.{◌≤◌, ap, sym, subst, ◌∙◌, List, Option, ℕ, ◌∷◌, [], ◌++◌, length, arith}
use Rattle.std.specs.Prelude.{is_some}
use Rattle.timing_defs.specs.declared.netlist.Inst.{Inst}
use Rattle.timing_defs.specs.Netlist.{cell_pins, cell_named}
use Rattle.timing_defs.specs.Edits.{cell_for}
use Rattle.netlist_store.specs.Numbering.{Stored, number_of, with_name, AreKept}
use Rattle.netlist_store.specs.Linked.{IsLinked}
use Rattle.netlist_store.specs.Drafts.{Follows}
use Rattle.netlist_store.proofs.PinTables.{longer_with}
use Rattle.netlist_store.proofs.Sound.{tables_sound}
use Rattle.netlist_store.proofs.GateSteps.{late_there, distinct_of, gate_design, gate_tables}
use Rattle.netlist_store.proofs.stores.Store.with_gate.Goals as goal

pub open_gate-requires : goal.open_gate-requires
open_gate-requires c = late_there c.args.self.design c.args.cell.now c.requires.cell

pub with_inst_names-requires : goal.with_inst_names-requires
with_inst_names-requires c = record {
  fresh =
      ap (λ (i : Inst). number_of c.self.inside.names.insts i.name) c.in-Ok.ensures.gate
      ∙ ap (λ (s : Stored). number_of s.insts c.args.inst.now) c.self.view_is ∙ c.requires.fresh;
  insts =
      subst (λ (b : Stored). Follows b.insts c.self.inside.names.insts) (sym c.base.view_is)
      (subst (λ (s : Stored). Follows c.args.base.now.insts s.insts) (sym c.self.view_is) c.requires.insts);
  distinct =
      distinct_of c.args.self (subst (λ (s : Stored). IsLinked s.design) c.self.view_is c.self.invariant.linked) c.args.cell.now c.requires.cell
      c.as_slice-pins.result.now (c.as_slice-pins.ensures ∙ c.in-Ok.ensures.pins);
  pins =
      subst (λ (b : Stored). Follows b.pins c.self.inside.names.pins) (sym c.base.view_is)
      (subst (λ (s : Stored). Follows c.args.base.now.pins s.pins) (sym c.self.view_is) c.requires.pins);
  filled = (tables_sound c.self.inside.frame c.self.inside.names c.self.inside.rows c.self.inside.orders c.self.invariant).filled;
}

pub put_gate-requires : goal.put_gate-requires
put_gate-requires c = c.self.invariant.insts_ordered c.in-Ok-with_inst_names.made.1 ∙ ap is_some c.in-Ok-with_inst_names.ensures.gap

pub invariant_of-result : goal.invariant_of-result
invariant_of-result c =
    gate_tables c.self.inside.frame c.self.inside.names c.self.inside.rows c.self.inside.orders c.self.invariant c.args.inst.now c.args.cell.now
    (ap (λ (s : Stored). is_some (cell_for s.design c.args.cell.now)) c.self.view_is ∙ c.requires.cell)
    (ap (λ (s : Stored). number_of s.insts c.args.inst.now) c.self.view_is ∙ c.requires.fresh)
    c.in-Ok.open.0 c.in-Ok.ensures.gate c.as_slice-pins.result.now
    (c.as_slice-pins.ensures ∙ c.in-Ok.ensures.pins ∙ sym (ap (λ (s : Stored). cell_pins (cell_named s.design.late.cells c.args.cell.now)) c.self.view_is))
    c.in-Ok-with_inst_names.made.0 c.in-Ok-with_inst_names.made.1 c.in-Ok-with_inst_names.ensures.added c.in-Ok-with_inst_names.ensures.gap c.in-Ok-with_inst_names.ensures.within c.in-Ok-with_inst_names.ensures.nets
    c.laws.ensures.insts c.laws.ensures.pins c.in-Ok-with_inst_names.ensures.kept c.with_inst_names.new.rows c.in-Ok-with_inst_names.ensures.rows c.in-Ok-with_inst_names.ensures.filled
    c.put_gate.new.rows c.in-Ok-put_gate.ensures.rows c.in-Ok-put_gate.orders c.in-Ok-put_gate.ensures.orders

pub returns-in-Ok-put_gate-clause-design : goal.returns-in-Ok-put_gate-clause-design
returns-in-Ok-put_gate-clause-design c =
    gate_design c.self.inside.frame c.self.inside.names c.self.inside.rows c.self.inside.orders c.self.invariant c.args.inst.now c.args.cell.now
    (ap (λ (s : Stored). is_some (cell_for s.design c.args.cell.now)) c.self.view_is ∙ c.requires.cell)
    (ap (λ (s : Stored). number_of s.insts c.args.inst.now) c.self.view_is ∙ c.requires.fresh)
    c.in-Ok.open.0 c.in-Ok.ensures.gate c.as_slice-pins.result.now
    (c.as_slice-pins.ensures ∙ c.in-Ok.ensures.pins ∙ sym (ap (λ (s : Stored). cell_pins (cell_named s.design.late.cells c.args.cell.now)) c.self.view_is))
    c.in-Ok-with_inst_names.made.0 c.in-Ok-with_inst_names.made.1 c.in-Ok-with_inst_names.ensures.added c.in-Ok-with_inst_names.ensures.gap c.in-Ok-with_inst_names.ensures.within c.in-Ok-with_inst_names.ensures.nets
    c.laws.ensures.insts c.laws.ensures.pins c.in-Ok-with_inst_names.ensures.kept c.with_inst_names.new.rows c.in-Ok-with_inst_names.ensures.rows c.in-Ok-with_inst_names.ensures.filled
    c.put_gate.new.rows c.in-Ok-put_gate.ensures.rows c.in-Ok-put_gate.orders c.in-Ok-put_gate.ensures.orders
    ∙ ap (λ (s : Stored). record s.design { insts = s.design.insts ++ record { name = c.args.inst.now; cell = c.args.cell.now; conns = [] } ∷ [] }) c.self.view_is

pub returns-in-Ok-put_gate-clause-nets : goal.returns-in-Ok-put_gate-clause-nets
returns-in-Ok-put_gate-clause-nets c = c.in-Ok-with_inst_names.ensures.nets ∙ ap (λ (s : Stored). s.nets) c.self.view_is

pub returns-in-Ok-put_gate-clause-insts : goal.returns-in-Ok-put_gate-clause-insts
returns-in-Ok-put_gate-clause-insts c = record {
  kept = subst (λ (b : Stored). AreKept b.insts c.in-Ok-with_inst_names.made.0.insts) c.base.view_is c.in-Ok-with_inst_names.ensures.insts;
  longer =
      let one : length c.args.base.now.insts ≤ length c.self.inside.names.insts =
      subst (λ (s : Stored). length c.args.base.now.insts ≤ length s.insts) (sym c.self.view_is) c.requires.insts.longer in
      let two : length c.self.inside.names.insts ≤ length (with_name c.self.inside.names.insts c.in-Ok-with_inst_names.made.1 c.in-Ok.open.0.name) =
      longer_with c.self.inside.names.insts c.in-Ok-with_inst_names.made.1 c.in-Ok.open.0.name in
      let three : length c.args.base.now.insts ≤ length (with_name c.self.inside.names.insts c.in-Ok-with_inst_names.made.1 c.in-Ok.open.0.name) = omega (arith, one, two) in
      subst (λ (n : List (Option (List ℕ))). length c.args.base.now.insts ≤ length n) (sym c.in-Ok-with_inst_names.ensures.added) three;
}
