use Rattle.std.proofs.Common.{arith}
use Rattle.std.specs.Arc.{arc_value}
use Rattle.cow_table.proofs.Places.{copied}
use Rattle.cow_table.proofs.tables.shared.Goals as goal

pub returns : goal.returns
returns g c =
    let same = copied 4096 (omega arith) arc_value c.args.pages.now.items c.in_ok-copies.copies.items c.in_ok-copies.ensures.cases.0 c.requires in
    record { cut = same.0; items = same.1 }
