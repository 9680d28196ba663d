use Rattle.std.proofs.Common.{arith, ap, slice_index_or, ◌/◌}
use Rattle.std.specs.Arc.{arc_value}
use Rattle.cow_table.proofs.Places.{in_bounds, in_piece, set_or_kept}
use Rattle.cow_table.proofs.tables.set_at.Goals as goal

pub bounds-pages-i : goal.bounds-pages-i
bounds-pages-i g c = in_bounds 4096 (omega arith) arc_value c.args.pages.now c.args.i c.requires.cut c.requires.within

pub set_in_page-requires : goal.set_in_page-requires
set_in_page-requires g c =
    let page = slice_index_or c.args.pages.now (c.args.i / 4096) c.index-pages-i.result in
    let there = ap (λ d. slice_index_or c.args.pages.now (c.args.i / 4096) d) c.index-pages-i.is in
    in_piece 4096 (omega arith) arc_value c.args.pages.now c.args.i page c.requires.cut c.requires.within there

pub returns : goal.returns
returns g c =
    let page = slice_index_or c.args.pages.now (c.args.i / 4096) c.index-pages-i.result in
    let there = ap (λ d. slice_index_or c.args.pages.now (c.args.i / 4096) d) c.index-pages-i.is in
    let written = set_or_kept 4096 (omega arith) arc_value c.set_in_page.result c.args.pages.now c.args.i page c.set_in_page.new.page c.args.value c.requires.cut c.requires.within there c.set_in_page.ensures.ok c.set_in_page.ensures.err in
    record { cut = written.cut; ok = written.ok; err = written.err }
