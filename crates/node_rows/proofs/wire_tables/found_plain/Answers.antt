use Rattle.std.specs.Option.{option_copied}
use Rattle.node_rows.proofs.FoundLaws.{plain_found}
use Rattle.node_rows.proofs.wire_tables.found_plain.Goals as goal

pub returns-clause-found : goal.returns-clause-found
returns-clause-found c =
    plain_found c.args.store.now c.args.net c.in_ok-load.load c.new.result c.new.ensures c.requires.net (option_copied c.args.rc) c.requires.rc c.requires.lumped
    c.in_ok-load.ensures.early c.in_ok-load.ensures.late c.in_ok-load.ensures.early_within c.in_ok-load.ensures.late_within
