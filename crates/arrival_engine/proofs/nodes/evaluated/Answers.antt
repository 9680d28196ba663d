use Rattle.std.proofs.Common.{List, sym, subst, ◌∙◌}
use Rattle.level_workers.specs.Mapped.{IsMap}
use Rattle.node_rows.specs.declared.settings.Before.{Before}
use Rattle.node_rows.proofs.ResultLaws.{handed_up}
use Rattle.pin_graph.specs.Graphs.{fan_at}
use Rattle.arrival_engine.specs.Analysed.{IsBefore, IsNodeFault}
use Rattle.arrival_engine.proofs.BeforeLaws.{arcs_there, befores_told, none_into, as_many, delays_given, row_given, fault_given}
use Rattle.arrival_engine.proofs.nodes.evaluated.Goals as goal

pub returns-in_ok-no_answer-in-None-clause-delays : goal.returns-in_ok-no_answer-in-None-clause-delays
returns-in_ok-no_answer-in-None-clause-delays g c =
    none_into c.args.graph.now c.args.setting.now.store.now c.requires.plan.same c.laws.ensures.numbered c.laws.ensures.linked c.laws-2.ensures
    c.args.rows.now c.args.node c.requires.node c.requires.ready (sym c.place_of.ensures ∙ c.in-None.is) c.in_ok-no_answer-in-None.field-0.delays c.in_ok-no_answer-in-None.ensures.delays

pub befores-requires-clause-arcs : goal.befores-requires-clause-arcs
befores-requires-clause-arcs g c =
    arcs_there c.args.graph.now c.args.setting.now.store.now c.requires.plan.same c.laws.ensures.numbered c.laws.ensures.linked c.laws-2.ensures
    c.args.rows.now c.args.node c.requires.node c.requires.ready

pub node_row-requires-clause-before : goal.node_row-requires-clause-before
node_row-requires-clause-before g c =
    befores_told c.args.graph.now c.args.setting.now.store.now c.requires.plan.same c.laws.ensures.numbered c.laws.ensures.linked c.laws-2.ensures
    c.args.rows.now c.args.node c.requires.node c.requires.ready c.in-Some.to c.as_slice.result.now (sym c.place_of.ensures ∙ c.in-Some.is)
    (subst (λ (xs : List Before). IsMap (IsBefore c.args.graph.now c.args.rows.now) (fan_at c.args.graph.now.ins c.args.node) xs) (sym c.as_slice.ensures.value)
    c.in_ok-found-in-Some.ensures)

pub returns-in_err-told-in-Some-clause-err : goal.returns-in_err-told-in-Some-clause-err
returns-in_err-told-in-Some-clause-err g c =
    handed_up c.from_residual-in_err-told-in-Some.result c.in_err-told-in-Some.field-0.0 (IsNodeFault c.args.graph.now.stored c.args.node)
    c.from_residual-in_err-told-in-Some.ensures.1
    (fault_given c.args.graph.now c.args.setting.now.store.now c.requires.plan.same c.laws.ensures.numbered c.laws.ensures.linked c.laws-2.ensures
    c.args.rows.now c.args.node c.requires.node c.requires.ready c.in-Some.to c.as_slice.result.now (sym c.place_of.ensures ∙ c.in-Some.is)
    (subst (λ (xs : List Before). IsMap (IsBefore c.args.graph.now c.args.rows.now) (fan_at c.args.graph.now.ins c.args.node) xs) (sym c.as_slice.ensures.value)
    c.in_ok-found-in-Some.ensures) c.args.setting.now.wires.now c.requires.plan.tables.wires c.requires.plan.nets c.in_err-told-in-Some.field-0.0
    c.in_err-told-in-Some.ensures.err)

pub sourced-requires : goal.sourced-requires
sourced-requires g c =
    as_many c.args.graph.now c.args.setting.now.store.now c.requires.plan.same c.laws.ensures.numbered c.laws.ensures.linked c.laws-2.ensures
    c.args.rows.now c.args.node c.requires.node c.requires.ready c.in-Some.to c.as_slice.result.now (sym c.place_of.ensures ∙ c.in-Some.is)
    (subst (λ (xs : List Before). IsMap (IsBefore c.args.graph.now c.args.rows.now) (fan_at c.args.graph.now.ins c.args.node) xs) (sym c.as_slice.ensures.value)
    c.in_ok-found-in-Some.ensures) c.as_slice-in-Some.result.now c.arcs_in.result.now (c.as_slice-in-Some.ensures ∙ c.in_ok-told-in-Some.ensures.delays) c.arcs_in.ensures

pub returns-in_ok-delays-in-Some-clause-row : goal.returns-in_ok-delays-in-Some-clause-row
returns-in_ok-delays-in-Some-clause-row g c =
    row_given c.args.graph.now c.args.setting.now.store.now c.requires.plan.same c.laws.ensures.numbered c.laws.ensures.linked c.laws-2.ensures
    c.args.rows.now c.args.node c.requires.node c.requires.ready c.in-Some.to c.as_slice.result.now (sym c.place_of.ensures ∙ c.in-Some.is)
    (subst (λ (xs : List Before). IsMap (IsBefore c.args.graph.now c.args.rows.now) (fan_at c.args.graph.now.ins c.args.node) xs) (sym c.as_slice.ensures.value)
    c.in_ok-found-in-Some.ensures) c.args.setting.now.wires.now c.requires.plan.tables.wires c.requires.plan.nets c.in_ok-told-in-Some.told.row
    c.in_ok-told-in-Some.ensures.row

pub returns-in_ok-delays-in-Some-clause-delays : goal.returns-in_ok-delays-in-Some-clause-delays
returns-in_ok-delays-in-Some-clause-delays g c =
    delays_given c.args.graph.now c.args.setting.now.store.now c.requires.plan.same c.laws.ensures.numbered c.laws.ensures.linked c.laws-2.ensures
    c.args.rows.now c.args.node c.requires.node c.requires.ready c.in-Some.to c.as_slice.result.now (sym c.place_of.ensures ∙ c.in-Some.is)
    (subst (λ (xs : List Before). IsMap (IsBefore c.args.graph.now c.args.rows.now) (fan_at c.args.graph.now.ins c.args.node) xs) (sym c.as_slice.ensures.value)
    c.in_ok-found-in-Some.ensures) c.as_slice-in-Some.result.now c.arcs_in.result.now (c.as_slice-in-Some.ensures ∙ c.in_ok-told-in-Some.ensures.delays) c.arcs_in.ensures
    c.in_ok-delays-in-Some.delays c.in_ok-delays-in-Some.ensures
