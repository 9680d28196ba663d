use Rattle.std.proofs.Common.{arith, ◌∙◌, sym}
use Rattle.std.specs.Arc.{arc_value}
use Rattle.cow_table.proofs.Places.{in_bounds, in_piece, item_at}
use Rattle.cow_table.proofs.tables.item_in.Goals as goal

pub bounds-pages-i : goal.bounds-pages-i
bounds-pages-i g c = in_bounds 4096 (omega arith) arc_value c.args.pages.now c.args.i c.requires.cut c.requires.within

pub get-requires : goal.get-requires
get-requires g c = rw c.deref.ensures (in_piece 4096 (omega arith) arc_value c.args.pages.now c.args.i c.index-pages-i.result c.requires.cut c.requires.within c.index-pages-i.is)

pub returns : goal.returns
returns g c =
    item_at 4096 (omega arith) arc_value c.args.pages.now c.args.i c.index-pages-i.result c.requires.cut c.requires.within c.index-pages-i.is
    ∙ rw (sym c.deref.ensures) c.get.ensures
