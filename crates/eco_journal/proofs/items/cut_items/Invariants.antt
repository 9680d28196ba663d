use Rattle.std.proofs.Common.{◌≡◌, ◌≤◌, ◌-◌, [], drop, map, length}
use Rattle.std.specs.Prelude.{true}
use Rattle.eco_journal.specs.Lines.{part_of}
use Rattle.eco_journal.specs.Items.{item_of, item, cut_items}
use Rattle.eco_journal.proofs.items.cut_items.Given as goal

abbrev pub invariant-each : goal.invariant-each
invariant-each l =
    (cut_items l.mixed (item l.caps) (map item_of l.items) (drop l.k (map part_of l.words)) ≡ cut_items l.mixed (item true) [] (map part_of l.words))
    × (l.k ≤ length l.words)

abbrev pub decreases-each : goal.decreases-each
decreases-each l = length l.words - l.k
