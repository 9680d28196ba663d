use Rattle.std.proofs.Common.{ap, refl, ◌∙◌}
use Rattle.timing_defs.specs.Edits.{before_last, after_last, connected}
use Rattle.netlist_store.specs.Numbering.{Stored, number_of}
use Rattle.netlist_store.proofs.NamedLaws.{number_is}
use Rattle.netlist_store.proofs.JoinSteps.{join_design, join_tables, pin_within}
use Rattle.netlist_store.proofs.stores.Store.with_join.Goals as goal

pub inst_at-inst-requires : goal.inst_at-inst-requires
inst_at-inst-requires c = number_is c.args.self.insts (before_last c.args.word.now) c.owner_there-owner.result c.owner_there-owner.ensures

pub move_rows-requires : goal.move_rows-requires
move_rows-requires c =
    pin_within c.self.inside.frame c.self.inside.names c.self.inside.rows c.self.inside.orders c.self.invariant c.args.word.now c.args.pin
    (ap (λ (s : Stored). number_of s.pins c.args.word.now) c.self.view_is ∙ c.requires.pin)

pub invariant_of-result : goal.invariant_of-result
invariant_of-result c =
    join_tables c.self.inside.frame c.self.inside.names c.self.inside.rows c.self.inside.orders c.self.invariant c.args.self c.self.view_is
    c.args.word.now c.requires.colon c.args.pin c.requires.pin c.owner_there-owner.result c.owner_there-owner.ensures c.inst_at-inst.result.now c.inst_at-inst.ensures.value
    (after_last c.args.word.now) refl (connected (after_last c.args.word.now) c.args.net.now c.inst_at-inst.result.now.conns) c.in-Ok.row c.in-Ok.ensures c.move_rows.new.rows
    c.in-Ok-move_rows.ensures.insts c.in-Ok-move_rows.ensures.rcs c.in-Ok-move_rows.ensures.pins c.args.net.now c.args.to c.requires.net refl
    c.in-Ok-move_rows.ensures.pin c.in-Ok-move_rows.ensures.nets

pub returns-in-Ok-move_rows : goal.returns-in-Ok-move_rows
returns-in-Ok-move_rows c =
    join_design c.self.inside.frame c.self.inside.names c.self.inside.rows c.self.inside.orders c.self.invariant c.args.self c.self.view_is
    c.args.word.now c.requires.colon c.args.pin c.requires.pin c.owner_there-owner.result c.owner_there-owner.ensures c.inst_at-inst.result.now c.inst_at-inst.ensures.value
    (after_last c.args.word.now) refl (connected (after_last c.args.word.now) c.args.net.now c.inst_at-inst.result.now.conns) c.in-Ok.row c.in-Ok.ensures c.move_rows.new.rows
    c.in-Ok-move_rows.ensures.insts c.in-Ok-move_rows.ensures.rcs c.in-Ok-move_rows.ensures.pins c.args.net.now c.args.to c.requires.net refl
    c.in-Ok-move_rows.ensures.pin c.in-Ok-move_rows.ensures.nets
