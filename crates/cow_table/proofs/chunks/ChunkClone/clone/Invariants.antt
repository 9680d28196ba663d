use Rattle.std.proofs.Common.{◌≡◌, take}
use Rattle.cow_table.proofs.chunks.ChunkClone.clone.Given as goal

-- the items before the index are copied
abbrev pub invariant-loop-item : goal.invariant-loop-item
invariant-loop-item g l = l.items.items ≡ take l.item-index l.item-items
