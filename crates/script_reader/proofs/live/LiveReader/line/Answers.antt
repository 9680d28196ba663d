use Rattle.std.proofs.Common.{◌+◌}
use Rattle.script_reader.specs.LivePlaces.{place_of}
use Rattle.script_reader.proofs.LiveKeptLaws.{place_kept, item_kept}
use Rattle.script_reader.proofs.live.LiveReader.line.Goals as goal

pub invariant_of-result : goal.invariant_of-result
invariant_of-result c =
    place_kept (place_of c.self.inside.place) (place_of c.in-Ok.field-0.place) c.in-Ok.field-0.item (c.self.inside.lines + 1) c.args.line.now
    c.in-Ok.ensures c.self.invariant

pub returns-in-Ok-clause-kept : goal.returns-in-Ok-clause-kept
returns-in-Ok-clause-kept c =
    item_kept (place_of c.self.inside.place) (place_of c.in-Ok.field-0.place) c.in-Ok.field-0.item (c.self.inside.lines + 1) c.args.line.now
    c.in-Ok.ensures c.self.invariant
