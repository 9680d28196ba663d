-- How arcs enter the nodes of a pin, by the numbers of a store (Liberty reference manual, timing groups:
-- a cell's arcs end at its output pins).

use Rattle.std.specs.Prelude.{ℕ, ◌≡◌, ◌≤◌, true, false, Some, is_some, option_map, option_and_then, unsigned_abs}
use Rattle.sta_units.specs.Numbers.{limit}
use Rattle.timing_defs.specs.declared.kinds.Split.{Split}
use Rattle.timing_defs.specs.declared.library.Cell.{Cell}
use Rattle.timing_defs.specs.Netlist.{Pin, is_driver, cell_of}
use Rattle.timing_rules.specs.Rows.{load_at, factor_of}
use Rattle.netlist_store.specs.Numbering.{Stored, inst_numbered, pin_numbered, owner_number}
use Rattle.node_rows.specs.declared.entries.DrivingCell.{DrivingCell}
use Rattle.node_rows.specs.declared.entries.Entry.{Entry}
use Rattle.node_rows.specs.declared.entries.Entry.TheVariants.{Wire, Cell as by_cell, Port}

-- a pin drives its net
abbrev pub Drives : Stored → ℕ → Type 0
Drives s pin = option_map is_driver (pin_numbered s pin) ≡ Some true

-- the cell in a split of the instance that has a pin, the pin's name in it, the load of the pin's net, and the
-- factor of cell delays; load and factor lie within their limits
pub record IsDrivingCell (s : Stored) (split : Split) (pin : ℕ) (driving : DrivingCell) : Type 0 where
  pub inst : ℕ
  pub owner : owner_number s pin ≡ Some inst
  pub cell : Cell
  pub there : option_and_then (cell_of s.design split) (inst_numbered s inst) ≡ Some cell
  pub arcs : driving.arcs.now ≡ cell.arcs
  pub own : option_map (λ p. p.own) (pin_numbered s pin) ≡ Some driving.own.now
  pub load : option_map (load_at s.design split) (pin_numbered s pin) ≡ Some driving.load
  pub low_load : unsigned_abs driving.load ≤ limit
  pub factor : driving.factor ≡ factor_of s.design.constraints.derates split true
  pub low_factor : driving.factor ≤ 10000000

-- a pin that does not drive is entered by a wire, where its net has a driver; an output pin by the arcs of its
-- cell; an input port by nothing
abbrev pub IsEntry : Stored → Split → ℕ → Entry → Type 0
IsEntry s split pin Wire = option_map is_driver (pin_numbered s pin) ≡ Some false
IsEntry s split pin (by_cell driving) = Drives s pin × IsDrivingCell s split pin driving
IsEntry s split pin Port = Drives s pin × (is_some (option_and_then (λ (p : Pin). p.owner) (pin_numbered s pin)) ≡ false)
