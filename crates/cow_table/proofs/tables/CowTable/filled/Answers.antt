use Rattle.std.proofs.Common.{arith, ◌/◌, length, sym, ap, ◌∙◌}
use Rattle.std.specs.Arc.{arc_value}
use Rattle.std.proofs.lemmas.List.{length-replicate}
use Rattle.cow_table.proofs.Full.{full_cut, full_items}
use Rattle.cow_table.proofs.tables.CowTable.filled.Goals as goal

pub invariant_of-table : goal.invariant_of-table
invariant_of-table g c =
    let pages = c.in_ok-pages in
    let items = full_items 4096 (omega arith) arc_value c.args.item.now pages.pages.items (c.args.count / 4096) pages.ensures.each pages.ensures.len in
    (full_cut 4096 (omega arith) arc_value c.args.item.now pages.pages.items pages.ensures.each, sym (ap length items ∙ length-replicate _ c.args.item.now))

pub loop-at-init : goal.loop-at-init
loop-at-init g c =
    full_items 4096 (omega arith) arc_value c.args.item.now c.in_ok-pages.pages.items (c.args.count / 4096) c.in_ok-pages.ensures.each c.in_ok-pages.ensures.len
