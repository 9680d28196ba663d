use Rattle.std.proofs.Common.{ap, ◌∙◌, map, List, None}
use Rattle.std.specs.Prelude.{if◌then◌else◌}
use Rattle.std.specs.List.{list_any}
use Rattle.std.specs.Option.{option_or}
use Rattle.timing_defs.specs.declared.library.CellPin.{CellPin}
use Rattle.timing_defs.specs.Netlist.{are_distinct}
use Rattle.netlist_store.specs.Drafts.{row_named, inst_row, row_among, is_lost}
use Rattle.netlist_store.proofs.cell_edits.put_other_cell.Goals as goal

pub put_other_pins-requires : goal.put_other_pins-requires
put_other_pins-requires c = record {
  distinct = ap (λ (ps : List CellPin). are_distinct (map (λ p. p.name) ps)) c.as_slice-new.ensures ∙ c.requires.distinct;
  follows = c.requires.follows;
  filled = c.requires.filled;
}

pub returns-in-Ok-put_inst-clause-rows : goal.returns-in-Ok-put_inst-clause-rows
returns-in-Ok-put_inst-clause-rows c = λ q.
    c.in-Ok.ensures.rows q
    ∙ ap (λ (old : List CellPin).
    option_or (row_among c.args.other.row.name (inst_row c.args.nets.now c.args.other.row c.args.inst) c.as_slice-new.result.now q)
    (if list_any (is_lost c.args.other.row.name c.as_slice-new.result.now q) old then None else row_named c.args.names c.args.rows.now q)) c.as_slice-old.ensures
    ∙ ap (λ (new : List CellPin).
    option_or (row_among c.args.other.row.name (inst_row c.args.nets.now c.args.other.row c.args.inst) new q)
    (if list_any (is_lost c.args.other.row.name new q) c.args.other.old then None else row_named c.args.names c.args.rows.now q)) c.as_slice-new.ensures

pub returns-in-Ok-put_inst-clause-kept : goal.returns-in-Ok-put_inst-clause-kept
returns-in-Ok-put_inst-clause-kept c = λ q n lost here.
    c.in-Ok.ensures.kept q n
    (ap (λ (old : List CellPin). list_any (is_lost c.args.other.row.name c.as_slice-new.result.now q) old) c.as_slice-old.ensures
    ∙ ap (λ (new : List CellPin). list_any (is_lost c.args.other.row.name new q) c.args.other.old) c.as_slice-new.ensures ∙ lost) here
