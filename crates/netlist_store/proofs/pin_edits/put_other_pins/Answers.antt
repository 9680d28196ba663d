use Rattle.std.proofs.Common.{ap, ◌∙◌, ℕ, List, None}
use Rattle.std.specs.Prelude.{if◌then◌else◌}
use Rattle.std.specs.List.{list_any}
use Rattle.std.specs.Option.{option_or}
use Rattle.netlist_store.specs.Numbering.{number_of}
use Rattle.netlist_store.specs.Drafts.{inst_row, row_among, is_lost}
use Rattle.netlist_store.proofs.PinsOfInst.{part_from, sub_from, part_follows, part_filled, row_left}
use Rattle.netlist_store.proofs.pin_edits.put_other_pins.Goals as goal

pub put_inst_pins-requires : goal.put_inst_pins-requires
put_inst_pins-requires c =
    let part =
    part_from c.args.names c.in_ok-left.left c.laws.ensures
    (sub_from c.args.names c.in_ok-left.left (λ (q : List ℕ). list_any (is_lost c.args.inst.now.name c.args.new.now q) c.args.old.now) c.in_ok-left.ensures.gone)
    c.in_ok-left.ensures.longer in
    record {
      distinct = c.requires.distinct;
      follows = part_follows c.args.names c.args.base.now c.in_ok-left.left c.requires.follows part;
      filled = part_filled c.args.names c.in_ok-left.left c.args.rows.now c.requires.filled part;
    }

pub returns-clause-rows : goal.returns-clause-rows
returns-clause-rows c = λ q.
    c.in_ok-after.ensures.rows q
    ∙ ap (option_or (row_among c.args.inst.now.name (inst_row c.args.nets.now c.args.inst.now c.args.owner) c.args.new.now q))
    (row_left c.args.names c.in_ok-left.left c.args.rows.now (list_any (is_lost c.args.inst.now.name c.args.new.now q) c.args.old.now) q (c.in_ok-left.ensures.gone q))

pub returns-clause-kept : goal.returns-clause-kept
returns-clause-kept c = λ q n h e.
    c.in_ok-after.ensures.kept q n (c.in_ok-left.ensures.gone q ∙ ap (λ b. if b then None else number_of c.args.names q) h ∙ e)
