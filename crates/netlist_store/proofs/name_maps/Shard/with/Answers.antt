use Rattle.std.proofs.Common.{Some, ◌∷◌, ap, ◌∙◌}
use Rattle.netlist_store.proofs.ShardLaws.{lookup_behind, still_names}
use Rattle.netlist_store.proofs.name_maps.Shard.with.Goals as goal

pub invariant_of-result : goal.invariant_of-result
invariant_of-result c =
    still_names c.self.inside.numbers c.in_ok-numbers.numbers c.args.name (Some c.args.number) c.requires
    (lookup_behind c.args.name c.args.number c.self.inside.numbers c.in_ok-numbers.numbers
    (c.in_ok-numbers.ensures ∙ ap (λ pairs. (c.args.name, c.args.number) ∷ pairs) c.as_slice.ensures))
    c.self.invariant
