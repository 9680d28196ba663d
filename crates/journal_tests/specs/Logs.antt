-- What contracts of the tests say of a board of notes and of a desk at it.
use Rattle.std.specs.Prelude.{ℕ, List, [], ◌∷◌}
use Rattle.std.specs.List.{flat_map}
use Rattle.std.specs.declared.option.Option.TheVariants.{Some}
use Rattle.timing_defs.specs.Documents.{no_derates}
use Rattle.version_board.specs.Callers.{Standing, meaning}
use Rattle.version_board.specs.History.{Meaning}
use Rattle.live_journal.specs.Desk.{Setting}
use Rattle.live_journal.specs.Receipts.{Knowing}
use Rattle.journal_tests.specs.declared.logs.Here.{Here}
use Rattle.journal_tests.specs.declared.logs.Log.{Log}
use Rattle.journal_tests.specs.declared.logs.Note.{Note}

-- what a log stands for
abbrev pub log_meaning : Meaning Log Note Here
log_meaning = meaning (λ (l : Log). l.notes.items) (λ (l : Log). l.first) (λ (l : Log). record {}) (λ (n : Note). n.seat)

-- a line for each note: the number of its seat as a byte, and a line feed (10)
abbrev pub lines_of : List Note → List ℕ
lines_of notes = flat_map (λ (note : Note). note.seat ∷ 10 ∷ []) notes

-- what a desk with the third seat of a new board is tied to, over an empty file that never failed; the keeper tells the cell
abbrev pub setting_of : Standing Log → Knowing → Setting Here
setting_of board keeper = record {
  table = board.id;
  first = 0;
  origin = Some (record {});
  number = 3;
  before = Some [];
  faults = 0;
  derates = no_derates;
  cell = keeper.cell;
}
