-- The sinks of a net by their names.

use Rattle.std.specs.Prelude.{ℕ, ◌≡◌, ◌<◌, ◌≤◌, false, not, List, [], map, filter, length, get_or, All, Contains}
use Rattle.std.specs.List.{IsDistinct}
use Rattle.std.specs.Option.{unwrap_or}
use Rattle.std.specs.Str.{bytes_eq}
use Rattle.timing_defs.specs.declared.closing.SinkReport.{SinkReport}
use Rattle.timing_defs.specs.declared.design.Design.{Design}
use Rattle.timing_defs.specs.NetChecks.{is_before}
use Rattle.timing_defs.specs.Netlist.{Pin, name_of, pin_named, sinks}
use Rattle.timing_rules.specs.Connections.{sink_report}
use Rattle.netlist_store.specs.Numbering.{Stored}
use Rattle.store_pins.specs.Drivers.{drives_at}
use Rattle.node_rows.specs.NetTrees.{pin_word}
use Rattle.net_reports.specs.Parasitics.{pin_called}

-- the names of those pins, by their numbers, that do not drive
abbrev pub sink_words : Stored → List ℕ → List (List ℕ)
sink_words s pins = map (pin_word s) (filter (λ pin. not (drives_at s pin)) pins)

-- the name of a sink of a net
abbrev pub IsSinkName : Design → List ℕ → List ℕ → Type 0
IsSinkName d net name = Contains (map name_of (sinks d net)) name

-- the report of the sink of a name
abbrev pub pin_under : Design → List ℕ → Pin
pin_under d name = unwrap_or (pin_named d name) (pin_called name)

abbrev pub report_under : Design → List ℕ → List ℕ → SinkReport
report_under d net name = sink_report d net (pin_under d name)

-- the names of all sinks of a net, each once, rising
pub record AreSinkNames (d : Design) (net : List ℕ) (names : List (List ℕ)) : Type 0 where
  pub each : All (IsSinkName d net) names
  pub all : (pin : Pin) → Contains (sinks d net) pin → Contains names (name_of pin)
  pub rising : (i j : ℕ) → i ≤ j → j < length names → is_before (get_or names j []) (get_or names i []) ≡ false
  pub once : IsDistinct bytes_eq names
