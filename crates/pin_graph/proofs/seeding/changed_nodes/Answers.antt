use Rattle.std.proofs.Common.{◌≡◌, ◌∙◌, ℕ, sym, ap}
use Rattle.std.specs.Prelude.{nat_eq, ◌||◌}
use Rattle.std.specs.List.{list_any, filter_map, range_with_len}
use Rattle.pin_graph.specs.Nodes.{node_bound, pin_under}
use Rattle.pin_graph.specs.Seeds.{is_touched_at, is_moved, turned_at}
use Rattle.pin_graph.proofs.SeedLaws.{turned_list}
use Rattle.pin_graph.proofs.SeedPins.{ok_each}
use Rattle.pin_graph.proofs.TurnedLaws.{or_none}
use Rattle.pin_graph.proofs.seeding.changed_nodes.Goals as goal

pub returns-then-branch : goal.returns-then-branch
returns-then-branch c = λ node.
    ap (λ xs. is_touched_at c.args.graph.now.stored (record { insts = c.args.touched.now.insts; nets = c.args.touched.now.nets }) (pin_under node) || list_any (nat_eq node) xs) c.new.ensures
    ∙ or_none (is_touched_at c.args.graph.now.stored (record { insts = c.args.touched.now.insts; nets = c.args.touched.now.nets }) (pin_under node))
    ∙ sym (c.in_ok-leaves_nodes.ensures c.if-branch.true node)

pub returns : goal.returns
returns c =
    ok_each (λ nodes. nodes ≡ filter_map (turned_at c.args.base.now c.args.graph.now) (range_with_len 0 (node_bound c.args.graph.now.stored)))
    (λ nodes. (node : ℕ) → (is_touched_at c.args.graph.now.stored (record { insts = c.args.touched.now.insts; nets = c.args.touched.now.nets }) (pin_under node) || list_any (nat_eq node) nodes) ≡ is_moved c.args.base.now c.args.graph.now (record { insts = c.args.touched.now.insts; nets = c.args.touched.now.nets }) node)
    c.turned_nodes.result
    (λ nodes is node.
    ap (λ b. is_touched_at c.args.graph.now.stored (record { insts = c.args.touched.now.insts; nets = c.args.touched.now.nets }) (pin_under node) || b)
    (ap (list_any (nat_eq node)) is
    ∙ turned_list c.args.base.now c.args.graph.now c.kept.ensures.numbered c.kept-2.ensures.numbered c.kept.ensures.linked c.kept-2.ensures.linked
    c.kept.ensures.graph c.kept-2.ensures.graph c.requires.made.1.numbers.pins node))
    c.turned_nodes.ensures
