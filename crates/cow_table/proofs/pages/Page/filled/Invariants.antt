use Rattle.std.proofs.Common.{◌≡◌, All, length, replicate}
use Rattle.std.specs.Arc.{arc_value}
use Rattle.cow_table.proofs.pages.Page.filled.Given as goal

abbrev pub invariant-loop-at : goal.invariant-loop-at
invariant-loop-at g l = (length l.chunks.items ≡ l.at) × All (λ chunk. arc_value chunk ≡ replicate 64 l.item) l.chunks.items
