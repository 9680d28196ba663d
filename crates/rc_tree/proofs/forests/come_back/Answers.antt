use Rattle.std.proofs.Common.{length, refl, sym, ◌∙◌, inr}
use Rattle.rc_tree.proofs.Growing.{come_loop}
use Rattle.rc_tree.proofs.forests.come_back.Goals as goal

pub is_used-requires-clause-other : goal.is_used-requires-clause-other
is_used-requires-clause-other c = (c.requires.part.grown.back c.args.step.far c.args.there c.requires.there).0

pub returns-clause-looped : goal.returns-clause-looped
returns-clause-looped c =
    inr (
      refl,
      come_loop c.args.segments.now (length c.args.forest.places.items) c.args.step.place c.args.step.home c.args.forest c.requires.part c.requires.place
          c.args.step.index c.args.step.far c.args.there c.requires.index c.requires.ends c.requires.there (sym c.is_used.ensures ∙ c.if-is_used.false),
    )
