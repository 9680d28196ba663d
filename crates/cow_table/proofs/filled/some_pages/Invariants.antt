use Rattle.std.proofs.Common.{◌≡◌, All, length, replicate}
use Rattle.std.specs.Arc.{arc_value}
use Rattle.cow_table.proofs.filled.some_pages.Given as goal

abbrev pub invariant-loop-at : goal.invariant-loop-at
invariant-loop-at g l = (length l.pages.items ≡ l.at) × All (λ page. arc_value page ≡ replicate 4096 l.item) l.pages.items
