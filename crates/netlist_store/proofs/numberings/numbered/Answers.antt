use Rattle.std.proofs.Common.{◌++◌, ap, ◌∙◌}
use Rattle.std.specs.Vec.Iter.{into_iter_items}
use Rattle.netlist_store.specs.Numbering.{number_of}
use Rattle.netlist_store.proofs.PlaceLaws.{fresh_behind}
use Rattle.netlist_store.proofs.numberings.numbered.Goals as goal

pub pushed-requires : goal.pushed-requires
pushed-requires c = record {
  fresh =
      ap (λ ns. number_of ns c.in-Some.name) c.loop-name.invariant.made
      ∙ fresh_behind c.args.names c.loop-name.yielded (into_iter_items c.next.new.self) c.in-Some.name c.requires
      (c.loop-name.invariant.all ∙ ap (λ ns. c.loop-name.yielded ++ ns) c.in-Some.ensures.steps.0);
}
