use Rattle.std.proofs.Common.{ap, ◌∙◌, arith}
use Rattle.std.specs.Map.{lookup}
use Rattle.std.specs.Str.{bytes_eq}
use Rattle.std.proofs.lemmas.List.{take_all}
use Rattle.netlist_store.proofs.ShardLaws.{lookup_others, others}
use Rattle.netlist_store.proofs.name_maps.pairs_without.Goals as goal

pub returns : goal.returns
returns c = λ q.
    ap (lookup (bytes_eq q)) (c.loop-other.invariant ∙ ap (others c.args.name.now) (take_all c.loop-other.other-index c.args.pairs.now (omega arith)))
    ∙ lookup_others c.args.name.now c.args.pairs.now q
