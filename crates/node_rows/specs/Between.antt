-- The arcs of a cell from one of its nodes to another, and what their tables give at a slew and a
-- load (Liberty reference manual, timing groups).

use Rattle.std.specs.Prelude.{ℕ, ℤ, Bool, ◌&&◌, ◌||◌, List, Option, None, Some}
use Rattle.std.specs.Str.{bytes_eq}
use Rattle.sta_units.specs.Numbers.{is_within}
use Rattle.timing_defs.specs.declared.kinds.Split.{Split}
use Rattle.timing_defs.specs.declared.kinds.Tran.{Tran}
use Rattle.timing_defs.specs.declared.library.CellArc.{CellArc}
use Rattle.timing_defs.specs.Lookup.{look, is_well_formed}
use Rattle.timing_defs.specs.Netlist.{same_tran}
use Rattle.timing_defs.specs.Kinds.{is_comb}
use Rattle.timing_rules.specs.Rows.{outermost}
use Rattle.timing_rules.specs.Range.{within_some}
use Rattle.node_rows.specs.declared.arcs.ArcEnds.{ArcEnds}
use Rattle.node_rows.specs.declared.arcs.ArcValues.{ArcValues}

-- an arc leads from one node of its cell to another, by the names of their pins there; a register arc
-- only where it stands between them
abbrev pub leads : Bool → List ℕ → Tran → List ℕ → Tran → CellArc → Bool
leads registers from from_tran to to_tran arc =
    bytes_eq arc.from from && same_tran arc.from_tran from_tran
    && bytes_eq arc.to to && same_tran arc.to_tran to_tran && (is_comb arc || registers)

abbrev pub is_between : ArcEnds → CellArc → Bool
is_between ends arc = leads ends.registers ends.from.now ends.from_tran ends.to.now ends.to_tran arc

abbrev pub has_tables : CellArc → Bool
has_tables arc = is_well_formed arc.delay && is_well_formed arc.slew

-- the delay of an arc as looked up lies within the limit
abbrev pub is_delay_looked : ℤ → ℤ → CellArc → Bool
is_delay_looked slew load arc = is_within (look arc.delay slew load)

-- both values of an arc as looked up lie within the limit
abbrev pub is_looked : ℤ → ℤ → CellArc → Bool
is_looked slew load arc = is_within (look arc.slew slew load) && is_delay_looked slew load arc

-- the outermost delay of some arcs, after that so far
abbrev pub outer_delay : Split → ℤ → ℤ → Option ℤ → List CellArc → Option ℤ
outer_delay split slew load best arcs = outermost split (λ arc. Some (look arc.delay slew load)) best arcs

-- the outermost slew and the outermost delay of some arcs, after those so far
abbrev pub outer_values : Split → ℤ → ℤ → ArcValues → List CellArc → ArcValues
outer_values split slew load best arcs =
    record {
      slew = outermost split (λ arc. Some (look arc.slew slew load)) best.slew arcs;
      delay = outer_delay split slew load best.delay arcs;
    }

abbrev pub no_values : ArcValues
no_values = record { slew = None; delay = None }

abbrev pub are_within : ArcValues → Bool
are_within values = within_some values.slew && within_some values.delay
