use Rattle.std.proofs.Common.{refl, arith}
use Rattle.eco_journal.specs.Journal.{journal, entries_of, Tells}
use Rattle.eco_journal.proofs.JournalLemmas.{tells_same}
use Rattle.eco_journal.proofs.KeptLaws.{entries_kept}
use Rattle.eco_journal.proofs.entries.read_entries.Goals as goal

pub returns : goal.returns
returns c =
    let read : Tells c.whole.result (entries_of c.args.bytes.now) =
    tells_same c.whole.result _ _ (grind (arith, c.new-lines.ensures)) (c.whole.ensures (journal c.args.bytes.now) (grind arith) refl refl) in
    record {
      value = read;
      kept = entries_kept c.whole.result c.args.bytes.now read;
    }
