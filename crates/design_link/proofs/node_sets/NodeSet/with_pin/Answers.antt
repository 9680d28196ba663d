use Rattle.std.proofs.Common.{◌∙◌, ap}
use Rattle.std.specs.Str.{bytes_eq}
use Rattle.indexmap.specs.IndexSet.{insert_key}
use Rattle.design_link.proofs.NodeLaws.{pin_more}
use Rattle.design_link.proofs.node_sets.NodeSet.with_pin.Goals as goal

pub returns-in-Ok : goal.returns-in-Ok
returns-in-Ok c = pin_more c.args.self.pins.keys c.insert.new.self.keys c.args.self.inners.keys c.args.pin.now (c.in-Ok.ensures.keys ∙ ap (insert_key bytes_eq c.args.self.pins.keys) c.in_ok-copied.ensures)
