use Rattle.std.proofs.Common.{refl}
use Rattle.timed_paths.proofs.PartLaws.{parts_told}
use Rattle.timed_paths.proofs.parts.parts_by.Goals as goal

pub returns : goal.returns
returns c =
    parts_told c.args.store.now c.args.test.now c.args.kind c.args.margins.apart.0 c.args.margins.uncertainty.0 c.args.margins.credit.0 c.args.length.0 _
    refl c.capture_time-clock.ensures c.sort_of-sort.ensures c.against-need.ensures c.against-unsure.ensures c.along-credited.ensures c.required_by-required.ensures refl c.requires.slack
