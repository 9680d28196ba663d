use Rattle.std.proofs.Common.{◌≡◌, ◌<◌, ◌==◌, ◌&&◌, ◌||◌, List, true, sym, ap, subst, ◌∙◌}
use Rattle.std.specs.Prelude.{All}
use Rattle.std.specs.List.{list_any}
use Rattle.level_cone.specs.Waiting.{waits}
use Rattle.level_cone.specs.Cone.{stands_in}
use Rattle.pin_graph.specs.declared.arcs.GraphArc.{GraphArc}
use Rattle.pin_graph.specs.Nodes.{node_bound}
use Rattle.pin_graph.specs.Graphs.{fan_at, level_at}
use Rattle.arrival_engine.specs.Updated.{is_moved, heads_of}
use Rattle.arrival_engine.proofs.TurnLaws.{on_ok, any_heads, heads_within}
use Rattle.arrival_engine.proofs.updates.wait_after.Goals as goal

pub wait_heads-requires : goal.wait_heads-requires
wait_heads-requires c =
    subst (λ (xs : List GraphArc). All (λ (a : GraphArc). a.to < node_bound c.args.graph.now.stored) xs) (sym c.arcs_out.ensures)
    (heads_within (node_bound c.args.graph.now.stored) (fan_at c.args.graph.now.outs c.args.node) c.requires.heads)

pub returns-then-is_moved : goal.returns-then-is_moved
returns-then-is_moved c =
    let moved : is_moved c.args.base.now.stored c.args.rows.now c.args.node c.args.row.now ≡ true = sym c.is_moved.ensures ∙ c.if-is_moved.true in
    on_ok c.wait_heads.result (λ h k n.
    h k n ∙ ap (λ b. waits c.args.waiting.now k n || b)
    (ap (λ (xs : List GraphArc). list_any (λ (a : GraphArc). (level_at c.args.graph.now a.to == k) && (a.to == n)) xs) c.arcs_out.ensures
    ∙ any_heads (λ y. (level_at c.args.graph.now y == k) && (y == n)) (fan_at c.args.graph.now.outs c.args.node)
    ∙ sym (ap (λ b. b && stands_in (level_at c.args.graph.now) (heads_of c.args.graph.now c.args.node) k n) moved))) c.wait_heads.ensures
