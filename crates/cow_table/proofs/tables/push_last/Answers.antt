use Rattle.std.proofs.Common.{arith, ap, slice_index_or, ◌/◌}
use Rattle.std.specs.Arc.{arc_value}
use Rattle.cow_table.proofs.Places.{grown_or_kept, last_at}
use Rattle.cow_table.proofs.tables.push_last.Goals as goal

pub push_in_page-requires : goal.push_in_page-requires
push_in_page-requires g c =
    let page = slice_index_or c.args.pages.now (c.args.len / 4096) c.index-pages-len.result in
    let there = ap (λ d. slice_index_or c.args.pages.now (c.args.len / 4096) d) c.index-pages-len.is in
    last_at 4096 (omega arith) arc_value c.args.pages.now c.args.len page c.requires.cut c.requires.counted c.requires.room there

pub returns : goal.returns
returns g c =
    let page = slice_index_or c.args.pages.now (c.args.len / 4096) c.index-pages-len.result in
    let there = ap (λ d. slice_index_or c.args.pages.now (c.args.len / 4096) d) c.index-pages-len.is in
    let written = grown_or_kept 4096 (omega arith) arc_value c.push_in_page.result c.args.pages.now c.args.len page c.push_in_page.new.page c.args.value c.requires.cut c.requires.counted c.requires.room there c.push_in_page.ensures.ok c.push_in_page.ensures.err in
    record { cut = written.cut; ok = written.ok; err = written.err }
