use Rattle.std.proofs.Common.{arith, ◌∙◌}
use Rattle.std.specs.Arc.{arc_value}
use Rattle.cow_table.proofs.Places.{copied}
use Rattle.cow_table.proofs.pages.PageClone.clone.Goals as goal

pub invariant_of-result : goal.invariant_of-result
invariant_of-result g c =
    (copied 64 (omega arith) arc_value c.self.inside.chunks.items c.in_ok-chunks.chunks.items c.in_ok-chunks.ensures.cases.0 c.self.invariant).0

pub returns : goal.returns
returns g c =
    record { cases = (copied 64 (omega arith) arc_value c.self.inside.chunks.items c.in_ok-chunks.chunks.items c.in_ok-chunks.ensures.cases.0 c.self.invariant).1 ∙ c.self.view_is }
