use Rattle.std.proofs.Common.{◌≡◌, ◌∙◌, ℕ, ap, subst}
use Rattle.std.specs.Prelude.{◌||◌, IsTrue}
use Rattle.netlist_store.specs.Numbering.{Stored}
use Rattle.pin_graph.specs.Kept.{HaveSameLinks}
use Rattle.pin_graph.specs.Nodes.{pin_under}
use Rattle.pin_graph.specs.NodeArcs.{marked}
use Rattle.pin_graph.specs.Seeds.{is_touched_at, is_moved}
use Rattle.pin_graph.proofs.SeedLaws.{none_turned}
use Rattle.pin_graph.proofs.SeedPins.{ok_each}
use Rattle.pin_graph.proofs.TurnedLaws.{turned_touched, joined_in, or_none}
use Rattle.pin_graph.proofs.seeding.leaves_nodes.Goals as goal

pub returns-then-keeps_links : goal.returns-then-keeps_links
returns-then-keeps_links c = λ yes node.
    let same : HaveSameLinks c.args.base.now.stored c.args.graph.now.stored =
    subst (λ (s : Stored). HaveSameLinks s c.args.graph.now.stored) c.store.ensures
    (subst (λ (s : Stored). HaveSameLinks c.store.result.now s) c.store-2.ensures (c.keeps_links.ensures c.if-keeps_links.true)) in
    ap (λ b. is_touched_at c.args.graph.now.stored (record { insts = c.args.touched.now.insts; nets = c.args.touched.now.nets }) (pin_under node) || b)
    (none_turned c.args.base.now c.args.graph.now c.kept.ensures.numbered c.kept-2.ensures.numbered c.kept.ensures.linked c.kept-2.ensures.linked
    c.kept.ensures.graph c.kept-2.ensures.graph c.requires.made.1.numbers.pins c.kept-2.ensures.fault c.kept.ensures.kept same node)
    ∙ or_none (is_touched_at c.args.graph.now.stored (record { insts = c.args.touched.now.insts; nets = c.args.touched.now.nets }) (pin_under node))

pub returns : goal.returns
returns c =
    ok_each (λ left. IsTrue left → (pin : ℕ) → marked c.args.graph.now.network pin ≡ marked c.args.base.now.network pin)
    (λ left. IsTrue left → (node : ℕ) → is_moved c.args.base.now c.args.graph.now (record { insts = c.args.touched.now.insts; nets = c.args.touched.now.nets }) node ≡ is_touched_at c.args.graph.now.stored (record { insts = c.args.touched.now.insts; nets = c.args.touched.now.nets }) (pin_under node))
    c.leaves_marks.result
    (λ left same yes node.
    turned_touched c.args.base.now c.args.graph.now (record { insts = c.args.touched.now.insts; nets = c.args.touched.now.nets }) c.requires.made c.kept.ensures.numbered c.kept-2.ensures.numbered
    (joined_in c.args.base.now c.kept.ensures.kept) (joined_in c.args.graph.now c.kept-2.ensures.kept) (same yes) node)
    c.leaves_marks.ensures
