-- What the readers of documents keep of what they give: libraries, constraints and parasitics with tables and numbers
-- of their forms, and netlists with distinct names (Liberty reference manual, SDC, IEEE 1481, IEEE 1364). Of scripts the
-- counts that engines ask for (own); a script that is read keeps more.

use Rattle.std.specs.Prelude.{ℕ, ◌≡◌, ℤ, pos, ◌+ℤ◌, int_lt, nat_lt, Bool, true, false, not, List, [], ◌∷◌, map, length, ◌≤◌, int_le, nat_le, ◌&&◌}
use Rattle.std.specs.List.{list_all, list_any, filter_map}
use Rattle.std.specs.Option.{option_map_or}
use Rattle.std.specs.Str.{bytes_eq}
use Rattle.sta_units.specs.Numbers.{is_within}
use Rattle.timing_defs.specs.declared.reports.Query.{Query}
use Rattle.timing_defs.specs.declared.reports.Query.TheVariants.{Slew, At, Rat, Slack, Endpoint, WorstPath, Wns, Tns, Worst, Through, Paths, WhatIf', Advise, Closing}
use Rattle.timing_defs.specs.declared.closing.ClosingQuery.{ClosingQuery}
use Rattle.timing_defs.specs.declared.closing.ClosingQuery.TheVariants.{TimingThrough, WorstPaths, AdviseTns, AdviseSizes}
use Rattle.timing_defs.specs.declared.kinds.Dir.{Dir}
use Rattle.timing_defs.specs.declared.kinds.Dir.TheVariants.{Input, Output}
use Rattle.timing_defs.specs.declared.library.Cell.{Cell}
use Rattle.timing_defs.specs.declared.library.CellArc.{CellArc}
use Rattle.timing_defs.specs.declared.library.CellTest.{CellTest}
use Rattle.timing_defs.specs.declared.library.Library.{Library}
use Rattle.timing_defs.specs.declared.constraints.Clock.{Clock}
use Rattle.timing_defs.specs.declared.constraints.PortDelay.{PortDelay}
use Rattle.timing_defs.specs.declared.constraints.PortSlew.{PortSlew}
use Rattle.timing_defs.specs.declared.constraints.PortLoad.{PortLoad}
use Rattle.timing_defs.specs.declared.constraints.Effect.{Effect}
use Rattle.timing_defs.specs.declared.constraints.Effect.TheVariants.{FalseSetup, FalseHold, CyclesSetup, CyclesHold}
use Rattle.timing_defs.specs.declared.constraints.Derates.{Derates}
use Rattle.timing_defs.specs.declared.constraints.Constraints.{Constraints}
use Rattle.timing_defs.specs.declared.parasitics.NetRc.{NetRc}
use Rattle.timing_defs.specs.declared.netlist.Inst.{Inst}
use Rattle.timing_defs.specs.declared.netlist.Module.{Module}
use Rattle.timing_defs.specs.declared.edits.Edit.{Edit}
use Rattle.timing_defs.specs.declared.edits.Edit.TheVariants.{SetParasitics}
use Rattle.timing_defs.specs.declared.edits.Eco.{Eco}
use Rattle.timing_defs.specs.declared.reports.Trial.{Trial}
use Rattle.timing_defs.specs.declared.reports.Trial.TheVariants.{Try, Drop, Ask as ask_draft}
use Rattle.timing_defs.specs.declared.scripts.Command.{Command}
use Rattle.timing_defs.specs.declared.scripts.Command.TheVariants.{Take, Await, Ask, Change}
use Rattle.timing_defs.specs.declared.scripts.Script.{Script}
use Rattle.timing_defs.specs.Netlist.{pins, same_dir, same_split, same_tran, is_listed, are_distinct}
use Rattle.timing_defs.specs.Lookup.{is_well_formed}
use Rattle.timing_defs.specs.Edits.{direction_in, has_colon}
use Rattle.timing_defs.specs.Trials.{trials_in}

-- whether a question is plain
abbrev pub is_plain : Query → Bool
is_plain (Through pin kind pins) = false
is_plain (Paths pin kind count) = false
is_plain (WhatIf' shape trials) = false
is_plain (Advise kind candidates) = false
is_plain (Closing query) = false
is_plain (Slew pin split tran) = true
is_plain (At pin split tran) = true
is_plain (Rat pin split tran) = true
is_plain (Slack pin split tran) = true
is_plain (Endpoint pin kind) = true
is_plain (WorstPath pin kind) = true
is_plain (Wns kind) = true
is_plain (Tns kind) = true
is_plain (Worst kind count) = true

-- a whole number from 0 to 10^12, as capacitances and resistances are
abbrev pub is_amount : ℤ → Bool
is_amount x = int_le (pos 0) x && is_within x

-- a pin of the cell with this direction
abbrev pub has_pin : Cell → Dir → List ℕ → Bool
has_pin cell dir pin = option_map_or (same_dir dir) (direction_in cell pin) false

abbrev pub is_pin_of : Cell → List ℕ → Bool
is_pin_of cell pin = list_any (λ p. bytes_eq p.name pin) cell.pins

-- an arc leads from a pin of the cell to an output pin, a test stands between an input pin and a pin
abbrev pub is_cell_arc : Cell → CellArc → Bool
is_cell_arc cell arc =
    is_pin_of cell arc.from && has_pin cell Output arc.to && is_well_formed arc.delay && is_well_formed arc.slew

abbrev pub is_cell_test : Cell → CellTest → Bool
is_cell_test cell test = has_pin cell Input test.pin && is_pin_of cell test.clock && is_well_formed test.need

-- a cell: at most 10,000 pins of distinct names without a colon, and arcs, tests and tables of their forms
abbrev pub is_cell : Cell → Bool
is_cell cell =
    nat_le (length cell.pins) 10000 && are_distinct (map (λ p. p.name) cell.pins)
    && list_all (λ p. not (has_colon p.name) && is_amount p.cap.0) cell.pins
    && list_all (is_cell_arc cell) cell.arcs && list_all (is_cell_test cell) cell.tests

-- a library: at most 10,000 cells of distinct names
abbrev pub is_library : Library → Bool
is_library library =
    nat_le (length library.cells) 10000 && are_distinct (map (λ cell. cell.name) library.cells)
    && list_all is_cell library.cells

-- a clock: a period of 2 fs or more, and 0 <= rise < fall < rise + period
abbrev pub is_clock : Clock → Bool
is_clock clock =
    int_le (pos 2) clock.period.0 && is_within clock.period.0 && int_le (pos 0) clock.rise.0
    && int_lt clock.rise.0 clock.fall.0 && int_lt clock.fall.0 (clock.rise.0 +ℤ clock.period.0)
    && is_within clock.rise.0 && is_within clock.fall.0
    && is_within clock.unc_setup.0 && is_within clock.unc_hold.0

-- no two items of a list are the same
abbrev pub differ : {X : Type 0} → (X → X → Bool) → List X → Bool
differ same [] = true
differ same (x ∷ xs) = not (list_any (same x) xs) && differ same xs

-- a delay of a port names a clock that is there; a port, split and transition has one
abbrev pub is_port_delay : ℕ → PortDelay → Bool
is_port_delay clocks delay = nat_lt delay.clock clocks && is_within delay.delay.0

abbrev pub same_delay : PortDelay → PortDelay → Bool
same_delay a b = bytes_eq a.port b.port && same_split a.split b.split && same_tran a.tran b.tran

abbrev pub same_slew : PortSlew → PortSlew → Bool
same_slew a b = bytes_eq a.port b.port && same_split a.split b.split && same_tran a.tran b.tran

abbrev pub same_load : PortLoad → PortLoad → Bool
same_load a b = bytes_eq a.port b.port && same_split a.split b.split

-- cycles of setup from 1 to 1,000, of hold from 0 to 1,000
abbrev pub is_effect : Effect → Bool
is_effect FalseSetup = true
is_effect FalseHold = true
is_effect (CyclesSetup n) = nat_le 1 n && nat_le n 1000
is_effect (CyclesHold n) = nat_le n 1000

-- factors that change nothing, in millionths
abbrev pub no_derates : Derates
no_derates = record { early_cell = 1000000; late_cell = 1000000; early_net = 1000000; late_net = 1000000 }

-- factors up to 10, in millionths
abbrev pub are_derates : Derates → Bool
are_derates f =
    nat_le f.early_cell 10000000 && nat_le f.late_cell 10000000 && nat_le f.early_net 10000000 && nat_le f.late_net 10000000

-- at most 8 clocks of distinct names, at most one on a port, and one delay, slew and load for each key
abbrev pub are_constraints : Constraints → Bool
are_constraints c =
    nat_le (length c.clocks) 8 && are_distinct (map (λ clock. clock.name) c.clocks)
    && are_distinct (filter_map (λ clock. clock.port) c.clocks) && list_all is_clock c.clocks
    && list_all (is_port_delay (length c.clocks)) c.inputs && differ same_delay c.inputs
    && list_all (is_port_delay (length c.clocks)) c.outputs && differ same_delay c.outputs
    && list_all (λ s. is_amount s.slew.0) c.slews && differ same_slew c.slews
    && list_all (λ l. is_amount l.load.0) c.loads && differ same_load c.loads
    && list_all (λ e. is_effect e.effect) c.exceptions && are_derates c.derates

-- the parasitics of a net: all numbers from 0 to 10^12
abbrev pub is_net_rc : NetRc → Bool
is_net_rc rc =
    list_all (λ c. is_amount c.cap.0) rc.caps && list_all (λ r. is_amount r.res.0) rc.ress && is_amount rc.lump.0

-- parasitics: each net once
abbrev pub are_parasitics : List NetRc → Bool
are_parasitics rcs = are_distinct (map (λ rc. rc.net) rcs) && list_all is_net_rc rcs

-- each net that a connection names is in the list of nets
abbrev pub joins : List (List ℕ) → Inst → Bool
joins nets inst = list_all (λ conn. option_map_or (is_listed nets) conn.net true) inst.conns

-- a netlist: names of ports without a colon; the names of ports, of instances, of nets and of the pins in one list of
-- connections are distinct; each port and each connected net is in the list of nets; at most 200,000 instances and nets
pub record IsNetlist (m : Module) : Type 0 where
  pub ports : are_distinct (map (λ port. port.name) m.ports) ≡ true
  pub insts : are_distinct (map (λ inst. inst.name) m.insts) ≡ true
  pub nets : are_distinct m.nets ≡ true
  pub conns : list_all (λ inst. are_distinct (map (λ conn. conn.pin) inst.conns)) m.insts ≡ true
  pub plain : list_all (λ port. not (has_colon port.name)) m.ports ≡ true
  pub port_nets : list_all (λ port. is_listed m.nets port.name) m.ports ≡ true
  pub conn_nets : list_all (joins m.nets) m.insts ≡ true
  pub few_insts : length m.insts ≤ 200000
  pub few_nets : length m.nets ≤ 200000

-- new parasitics name the net of their edit, and their numbers are from 0 to 10^12
abbrev pub is_rc_for : List ℕ → NetRc → Bool
is_rc_for net rc = bytes_eq rc.net net && is_net_rc rc

abbrev pub is_edit : Edit → Bool
is_edit (SetParasitics net rc) = option_map_or (is_rc_for net) rc true
is_edit _ = true

-- an ECO: 1 to 1,000 edits
abbrev pub is_eco : Eco → Bool
is_eco eco = nat_le 1 (length eco.edits) && nat_le (length eco.edits) 1000 && list_all is_edit eco.edits

-- from one to so many
abbrev pub is_count : ℕ → ℕ → Bool
is_count most n = nat_le 1 n && nat_le n most

-- a question that closing timing needs: 1 to 16 pins, 1 to 100 paths and of each endpoint no more than these, 1 to 100
-- candidates, an instance at least
abbrev pub is_closing : ClosingQuery → Bool
is_closing (TimingThrough pin kind pins) = is_count 16 (length pins)
is_closing (WorstPaths kind count each) = is_count 100 count && is_count count each
is_closing (AdviseTns kind candidates) = is_count 100 (length candidates)
is_closing (AdviseSizes kind aim insts) = nat_le 1 (length insts)
is_closing q = true

-- a question that is no draft: 1 to 100 endpoints or paths, 1 to 16 pins, 1 to 100 candidates
abbrev pub is_single : Query → Bool
is_single (Worst kind count) = is_count 100 count
is_single (Through pin kind pins) = is_count 16 (length pins)
is_single (Paths pin kind count) = is_count 100 count
is_single (WhatIf' shape trials) = false
is_single (Advise kind candidates) = is_count 100 (length candidates)
is_single (Closing query) = is_closing query
is_single q = is_plain q

-- a trial of a draft that is asked any question but about a draft
abbrev pub is_draft_trial : Trial → Bool
is_draft_trial (Try eco) = is_eco eco
is_draft_trial Drop = true
is_draft_trial (ask_draft q) = is_single q

-- a question of a script: one that is no draft, or 1 to 100 trials
abbrev pub is_question : Query → Bool
is_question (WhatIf' shape trials) = is_count 100 (length (trials_in trials)) && list_all is_draft_trial (trials_in trials)
is_question q = is_single q

-- a command: 1 to 1,000 looks
abbrev pub is_command : Command → Bool
is_command Take = true
is_command (Await number looks) = is_count 1000 looks
is_command (Ask q) = is_question q
is_command (Change eco) = is_eco eco

-- a script: at most 10,000 commands
abbrev pub is_script : Script → Bool
is_script script = nat_le (length script.commands) 10000 && list_all is_command script.commands
