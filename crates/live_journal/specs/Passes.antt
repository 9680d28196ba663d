-- A pass that tells.

use Rattle.std.specs.Prelude.{◌≡◌, []}
use Rattle.atomic_table.specs.Seated.{TableId}
use Rattle.atomic_table.specs.declared.shared.Seat.{Seat}
use Rattle.crossbeam_utils.specs.declared.atomic.seq_cell.Doing.{Doing}
use Rattle.crossbeam_utils.specs.Seq.{cell_view}
use Rattle.live_journal.specs.declared.cells.Known.{Known}
use Rattle.live_journal.specs.declared.cells.View.{View}

-- the pass is of the cell, and tells this
abbrev pub IsTeller : TableId → Known → Seat Known (Doing Known View) → Type 0
IsTeller cell known pass = (pass.table_id ≡ cell) × (pass.me.1 ≡ []) × ((cell_view pass).told ≡ known)
