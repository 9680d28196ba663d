use Rattle.std.proofs.Common.{ℕ, List, sym, subst}
use Rattle.arrival_engine.specs.Leveled.{AreLevels}
use Rattle.arrival_engine.proofs.PassLaws.{full_told, full_delays, full_ready, full_within}
use Rattle.arrival_engine.proofs.passes.full_rows.Goals as goal

pub returns-clause-delays : goal.returns-clause-delays
returns-clause-delays g c =
    full_delays c.args.graph.now c.all_levels.new.delays c.as_slice-nodes.result.now
    (subst (λ (xs : List (List ℕ)). AreLevels c.args.graph.now xs) (sym c.as_slice-nodes.ensures.value) c.in_ok-levels.ensures.levels)
    c.in_ok-all_levels.ensures.delayed

pub returns-clause-fine : goal.returns-clause-fine
returns-clause-fine g c =
    (full_told c.args.graph.now c.args.setting.now.store.now c.requires.plan.same c.laws.ensures.numbered c.laws.ensures.linked c.all_levels.new.rows
    c.as_slice-nodes.result.now
    (subst (λ (xs : List (List ℕ)). AreLevels c.args.graph.now xs) (sym c.as_slice-nodes.ensures.value) c.in_ok-levels.ensures.levels)
    c.in_ok-all_levels.ensures.done c.requires.plan.nets).1

pub returns-clause-within : goal.returns-clause-within
returns-clause-within g c =
    full_within c.args.graph.now c.args.setting.now.store.now c.requires.plan.same c.laws.ensures.numbered c.laws.ensures.linked c.laws-2.ensures
    c.args.setting.now.wires.now c.requires.plan.tables.wires
    (full_told c.args.graph.now c.args.setting.now.store.now c.requires.plan.same c.laws.ensures.numbered c.laws.ensures.linked c.all_levels.new.rows
    c.as_slice-nodes.result.now
    (subst (λ (xs : List (List ℕ)). AreLevels c.args.graph.now xs) (sym c.as_slice-nodes.ensures.value) c.in_ok-levels.ensures.levels)
    c.in_ok-all_levels.ensures.done c.requires.plan.nets).1

pub returns-clause-ready : goal.returns-clause-ready
returns-clause-ready g c =
    full_ready c.args.graph.now c.args.setting.now.store.now c.requires.plan.same c.laws.ensures.numbered c.laws.ensures.linked c.laws-2.ensures c.all_levels.new.rows
    c.as_slice-nodes.result.now
    (subst (λ (xs : List (List ℕ)). AreLevels c.args.graph.now xs) (sym c.as_slice-nodes.ensures.value) c.in_ok-levels.ensures.levels)
    c.in_ok-all_levels.ensures.done
