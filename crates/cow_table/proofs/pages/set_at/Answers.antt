use Rattle.std.proofs.Common.{arith, ap, slice_index_or, ◌/◌}
use Rattle.std.specs.Arc.{arc_value}
use Rattle.cow_table.proofs.Places.{in_bounds, in_piece, set_or_kept}
use Rattle.cow_table.proofs.pages.set_at.Goals as goal

pub bounds-chunks-at : goal.bounds-chunks-at
bounds-chunks-at g c = in_bounds 64 (omega arith) arc_value c.args.chunks.now c.args.at c.requires.cut c.requires.within

pub set_in-requires : goal.set_in-requires
set_in-requires g c =
    let chunk = slice_index_or c.args.chunks.now (c.args.at / 64) c.index-chunks-at.result in
    let there = ap (λ d. slice_index_or c.args.chunks.now (c.args.at / 64) d) c.index-chunks-at.is in
    in_piece 64 (omega arith) arc_value c.args.chunks.now c.args.at chunk c.requires.cut c.requires.within there

pub returns : goal.returns
returns g c =
    let chunk = slice_index_or c.args.chunks.now (c.args.at / 64) c.index-chunks-at.result in
    let there = ap (λ d. slice_index_or c.args.chunks.now (c.args.at / 64) d) c.index-chunks-at.is in
    let written = set_or_kept 64 (omega arith) arc_value c.set_in.result c.args.chunks.now c.args.at chunk c.set_in.new.chunk c.args.value c.requires.cut c.requires.within there c.set_in.ensures.ok c.set_in.ensures.err in
    record { cut = written.cut; ok = written.ok; err = written.err }
