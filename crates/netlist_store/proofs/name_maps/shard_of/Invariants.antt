use Rattle.std.proofs.Common.{◌≡◌, ◌<◌, ◌%◌, ◌^◌, drop}
use Rattle.netlist_store.specs.Shards.{shard_from}
use Rattle.netlist_store.proofs.name_maps.shard_of.Given as goal

abbrev pub invariant-loop-byte : goal.invariant-loop-byte
invariant-loop-byte l = (shard_from (l.place % 131101) (drop l.byte-index l.name) ≡ shard_from 0 l.name) × (l.place < 2 ^ 55)
