use Rattle.std.proofs.Common.{arith, ap, slice_index_or, ◌/◌}
use Rattle.std.specs.Arc.{arc_value}
use Rattle.cow_table.proofs.Places.{grown_or_kept}
use Rattle.cow_table.proofs.pages.push_last.Goals as goal

pub returns : goal.returns
returns g c =
    let chunk = slice_index_or c.args.chunks.now (c.args.len / 64) c.index-chunks-len.result in
    let there = ap (λ d. slice_index_or c.args.chunks.now (c.args.len / 64) d) c.index-chunks-len.is in
    let written = grown_or_kept 64 (omega arith) arc_value c.push_in.result c.args.chunks.now c.args.len chunk c.push_in.new.chunk c.args.value c.requires.cut c.requires.counted c.requires.room there c.push_in.ensures.ok c.push_in.ensures.err in
    record { cut = written.cut; ok = written.ok; err = written.err }
