use Rattle.std.proofs.Common.{◌≡◌, true, sym, ◌∙◌}
use Rattle.std.specs.Str.{bytes_eq}
use Rattle.spef_reader.proofs.NameMapLemmas.{told_there}
use Rattle.spef_reader.proofs.name_map.spelling_at.Goals as goal

pub returns-in-Some : goal.returns-in-Some
returns-in-Some c =
    let same : bytes_eq c.in-Some.key.now.now c.args.index.now ≡ true = sym c.is_text.ensures ∙ c.if-is_text.true in
    told_there c.args.rows.now.entries c.in-Some.key.now c.in-Some.spelling.now c.args.index.now c.in-Some.ensures.value same
