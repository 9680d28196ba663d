-- The tests of an output port: its output delays (SDC: set_output_delay).

use Rattle.std.specs.Prelude.{ℕ, pos, Bool, ◌&&◌, List, None}
use Rattle.std.specs.Str.{bytes_eq}
use Rattle.timing_defs.specs.declared.kinds.Split.{Split}
use Rattle.timing_defs.specs.declared.kinds.Tran.{Tran}
use Rattle.timing_defs.specs.declared.kinds.Tran.TheVariants.{Rise}
use Rattle.timing_defs.specs.declared.kinds.Kind.{Kind}
use Rattle.timing_defs.specs.declared.constraints.PortDelay.{PortDelay}
use Rattle.timing_defs.specs.Netlist.{same_split, same_tran}
use Rattle.timing_rules.specs.Tests.{output_need}
use Rattle.node_tests.specs.declared.node_test.NodeTest.{NodeTest}

-- the delay is written for this port, split and transition
abbrev pub is_delay_of : List ℕ → Split → Tran → PortDelay → Bool
is_delay_of port split tran delay = bytes_eq delay.port port && same_split delay.split split && same_tran delay.tran tran

-- the test of an output delay
abbrev pub delay_test : Kind → PortDelay → NodeTest
delay_test kind delay =
    record {
      clock = None;
      need = record { 0 = output_need kind delay.delay.0 };
      capture_clock = delay.clock;
      capture_tran = Rise;
      early = record { 0 = pos 0 };
      late = record { 0 = pos 0 };
    }
