use Rattle.std.proofs.Common.{◌++◌, false}
use Rattle.std.proofs.lemmas.List.{nil_from_length}
use Rattle.std.proofs.lemmas.Option.{MatchOption-at_none}
use Rattle.spef_reader.specs.Words.{spelled}
use Rattle.spef_reader.proofs.WordLemmas.{spelled_whole}
use Rattle.spef_reader.proofs.words.add_pieces.Goals as goal

pub returns : goal.returns
returns c =
    let none = nil_from_length c.pieces.rest.now (MatchOption-at_none _ _ c.in_default.is c.split_first.ensures.cases) in
    spelled_whole c.args.bus c.pieces.escaped c.pieces.rest.now c.pieces.name.items (c.args.name.now.items ++ spelled c.args.bus false c.args.word.now) none c.pieces.invariant
