use Rattle.netlist_store.proofs.WordLaws.{colon_told}
use Rattle.netlist_store.proofs.words.last_colon.Goals as goal

pub returns : goal.returns
returns c = colon_told c.args.word.now c.loop-place.last c.loop-place.place c.loop-place-test.false c.loop-place.invariant
