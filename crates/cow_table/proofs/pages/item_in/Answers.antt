use Rattle.std.proofs.Common.{arith, ◌∙◌, sym}
use Rattle.std.specs.Arc.{arc_value}
use Rattle.cow_table.proofs.Places.{in_bounds, in_piece, item_at}
use Rattle.cow_table.proofs.pages.item_in.Goals as goal

pub bounds-chunks-at : goal.bounds-chunks-at
bounds-chunks-at g c = in_bounds 64 (omega arith) arc_value c.args.chunks.now c.args.at c.requires.cut c.requires.within

pub get-requires : goal.get-requires
get-requires g c = rw c.deref.ensures (in_piece 64 (omega arith) arc_value c.args.chunks.now c.args.at c.index-chunks-at.result c.requires.cut c.requires.within c.index-chunks-at.is)

pub returns : goal.returns
returns g c =
    item_at 64 (omega arith) arc_value c.args.chunks.now c.args.at c.index-chunks-at.result c.requires.cut c.requires.within c.index-chunks-at.is
    ∙ rw (sym c.deref.ensures) c.get.ensures
