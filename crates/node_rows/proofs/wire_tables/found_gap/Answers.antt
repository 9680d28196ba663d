use Rattle.std.proofs.Common.{pos}
use Rattle.node_rows.proofs.FoundLaws.{gap_found}
use Rattle.node_rows.proofs.wire_tables.found_gap.Goals as goal

pub returns : goal.returns
returns c =
    gap_found c.args.store.now c.args.net (record { early = record { 0 = pos 0 }; late = record { 0 = pos 0 } }) c.new.result c.new.ensures c.requires
