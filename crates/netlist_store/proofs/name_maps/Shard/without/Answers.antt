use Rattle.std.proofs.Common.{None, cond, ap, ◌∙◌}
use Rattle.std.specs.Map.{lookup}
use Rattle.std.specs.Str.{bytes_eq}
use Rattle.netlist_store.proofs.ShardLaws.{fewer_names}
use Rattle.netlist_store.proofs.name_maps.Shard.without.Goals as goal

pub invariant_of-result : goal.invariant_of-result
invariant_of-result c =
    fewer_names c.self.inside.numbers c.in_ok-numbers.numbers c.args.name.now
    (λ q. c.in_ok-numbers.ensures q ∙ ap (λ pairs. cond (bytes_eq c.args.name.now q) None (lookup (bytes_eq q) pairs)) c.as_slice.ensures)
    c.self.invariant
