use Rattle.std.proofs.Common.{ap, sym, set, ◌∙◌, Some}
use Rattle.std.proofs.lemmas.Result.{on_ok_weaker}
use Rattle.timing_defs.specs.Names.{is_name}
use Rattle.netlist_store.specs.Shards.{shard_of}
use Rattle.netlist_store.proofs.ShardLaws.{put_shard}
use Rattle.netlist_store.proofs.name_maps.NameMap.put.Goals as goal

pub returns-clause-ok : goal.returns-clause-ok
returns-clause-ok c =
    on_ok_weaker c.set.result
    (λ h. put_shard c.self.inside.shards c.args.self.now c.set.new.self c.args.name c.shard_of-place.result (Some c.args.number) c.get-3.result.now c.in_ok-shard.shard
    c.self.view_is c.self.invariant (c.shard_of-place.ensures.value ∙ ap shard_of (c.as_bytes.ensures.value ∙ c.get.ensures)) c.shard_of-place.ensures.within
    (c.get-2.ensures ∙ ap Some (sym c.get-3.ensures)) c.in_ok-shard.ensures (h ∙ ap (λ v. set c.self.inside.shards c.shard_of-place.result v) c.in_ok-of.ensures))
    c.set.ensures.ok

pub with-requires : goal.with-requires
with-requires c = ap is_name (sym (c.as_bytes.ensures.value ∙ c.get.ensures)) ∙ c.as_bytes.ensures.name
