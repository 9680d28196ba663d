use Rattle.std.proofs.Common.{◌≡◌, drop, map}
use Rattle.std.specs.Prelude.{Ok}
use Rattle.eco_journal.specs.Items.{item_of, with_items, bare}
use Rattle.eco_journal.proofs.items.with_items.Given as goal

abbrev pub invariant-loop-item : goal.invariant-loop-item
invariant-loop-item l =
    with_items (Ok l.rc) (map item_of (drop l.item-index l.items)) ≡ with_items (Ok (bare l.fn.net)) (map item_of l.items)
