-- Two stores whose pins, and the links between them, are alike: what edits leave that change no link, as those
-- of parasitics, and to cells with the same pins, arcs and tests.

use Rattle.std.specs.Prelude.{ℕ, ◌≡◌, ◌⊎◌, Bool, ◌&&◌, List, map, length, Option, Some, option_map}
use Rattle.std.specs.Cmp.Lexicographic.{pointwise}
use Rattle.timing_defs.specs.declared.kinds.Split.TheVariants.{Late}
use Rattle.timing_defs.specs.declared.kinds.Dir.{Dir}
use Rattle.timing_defs.specs.declared.kinds.Tran.{Tran}
use Rattle.timing_defs.specs.declared.kinds.ArcKind.{ArcKind}
use Rattle.timing_defs.specs.declared.library.Cell.{Cell}
use Rattle.timing_defs.specs.declared.library.CellPin.{CellPin}
use Rattle.timing_defs.specs.declared.library.CellArc.{CellArc}
use Rattle.timing_defs.specs.declared.netlist.Inst.{Inst}
use Rattle.timing_defs.specs.declared.design.Design.{Design}
use Rattle.timing_defs.specs.Netlist.{cell_of}
use Rattle.timing_defs.specs.Edits.{inst_named, same_cell_pin, same_arc, same_test}
use Rattle.netlist_store.specs.Numbering.{Stored, number_of, is_on_number, KeepsNumbers}
use Rattle.netlist_store.proofs.SeenPins.{seen_on}

-- what a graph needs of a cell: its pins, its arcs and the clock pins of its tests, in their order
pub record PinShape : Type 0 where
  pub name : List ℕ
  pub dir : Dir

pub record ArcShape : Type 0 where
  pub from : List ℕ
  pub from_tran : Tran
  pub to : List ℕ
  pub to_tran : Tran
  pub kind : ArcKind

pub record Shape : Type 0 where
  pub pins : List PinShape
  pub arcs : List ArcShape
  pub clocks : List (List ℕ)

abbrev pub pin_shape : CellPin → PinShape
pin_shape pin = record { name = pin.name; dir = pin.dir }

abbrev pub arc_shape : CellArc → ArcShape
arc_shape arc = record { from = arc.from; from_tran = arc.from_tran; to = arc.to; to_tran = arc.to_tran; kind = arc.kind }

abbrev pub shape_of : Cell → Shape
shape_of cell = record { pins = map pin_shape cell.pins; arcs = map arc_shape cell.arcs; clocks = map (λ test. test.clock) cell.tests }

-- the shape of an instance's cell, in the late library; of the instance of a name
abbrev pub shape_in : Design → Inst → Option Shape
shape_in d inst = option_map shape_of (cell_of d Late inst)

abbrev pub named_shape : Design → List ℕ → Option (Option Shape)
named_shape d name = option_map (shape_in d) (inst_named d.insts name)

-- two cells have the same pins with their directions, arc nodes with their kinds, and tests, in one order
abbrev pub same_shape : Cell → Cell → Bool
same_shape a b = pointwise same_cell_pin a.pins b.pins && pointwise same_arc a.arcs b.arcs && pointwise same_test a.tests b.tests

-- the instance of a name is there in both, and its cells have one shape
pub record IsSameInst (s s2 : Stored) (name : List ℕ) : Type 0 where
  pub shape : named_shape s2.design name ≡ named_shape s.design name

-- the net of a name is there in both, with the same pins by their numbers
pub record IsSameNet (s s2 : Stored) (name : List ℕ) : Type 0 where
  pub first : ℕ
  pub first_is : number_of s.nets name ≡ Some first
  pub second : ℕ
  pub second_is : number_of s2.nets name ≡ Some second
  pub pins : (pin : ℕ) → is_on_number s2 second pin ≡ is_on_number s first pin

pub record AreAlike (s s2 : Stored) : Type 0 where
  pub ports : s2.design.ports ≡ s.design.ports
  pub constraints : s2.design.constraints ≡ s.design.constraints
  pub insts : (name : List ℕ) → named_shape s2.design name ≡ named_shape s.design name
  pub nets : (name : List ℕ) → (seen_on s2.design name ≡ seen_on s.design name) ⊎ IsSameNet s s2 name
  pub numbers : KeepsNumbers s s2
  pub inst_bound : length s2.insts ≡ length s.insts
  pub pin_bound : length s2.pins ≡ length s.pins
