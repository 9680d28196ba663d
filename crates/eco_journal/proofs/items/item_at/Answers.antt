-- The item behind its first word, by the two places of the grammar that it passes.
use Rattle.std.proofs.Common.{arith}
use Rattle.eco_journal.specs.Items.{cut_items}
use Rattle.eco_journal.proofs.items.item_at.Goals as goal

pub returns-then-is_cap : goal.returns-then-is_cap
unfolding cut_items
returns-then-is_cap c = λ items. grind (arith, c.in_ok-item.ensures c.args.mixed items)

pub returns-then-is : goal.returns-then-is
unfolding cut_items
returns-then-is c = λ items. grind (arith, c.in_ok-item-2.ensures c.args.mixed items)
