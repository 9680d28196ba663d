-- What kinds of tests and arcs say by themselves: which split a test's data and clock have, which arcs are combinational
-- (Liberty reference manual), and a clock's uncertainty by the kind of the test (SDC).

use Rattle.std.specs.Prelude.{Bool, true, false, ℤ}
use Rattle.timing_defs.specs.declared.kinds.Split.TheVariants.{Late, Early}
use Rattle.timing_defs.specs.declared.kinds.ArcKind.{ArcKind}
use Rattle.timing_defs.specs.declared.kinds.ArcKind.TheVariants.{Comb, Edge}
use Rattle.timing_defs.specs.declared.library.CellArc.{CellArc}
use Rattle.timing_defs.specs.declared.constraints.Clock.{Clock}
use Rattle.timing_defs.specs.declared.kinds.Split.{Split}
use Rattle.timing_defs.specs.declared.kinds.Kind.{Kind}
use Rattle.timing_defs.specs.declared.kinds.Kind.TheVariants.{Setup, Hold}

abbrev pub comb_kind : ArcKind → Bool
comb_kind Comb = true
comb_kind Edge = false

abbrev pub is_comb : CellArc → Bool
is_comb arc = comb_kind arc.kind

-- late data is tested by setup, early data by hold
abbrev pub kind_of : Split → Kind
kind_of Late = Setup
kind_of Early = Hold

-- late required times are least, early ones greatest
abbrev pub other_split : Split → Split
other_split Late = Early
other_split Early = Late

-- setup compares late data with an early clock, hold early data with a late clock
abbrev pub data_split : Kind → Split
data_split Setup = Late
data_split Hold = Early

abbrev pub clock_split : Kind → Split
clock_split Setup = Early
clock_split Hold = Late

abbrev pub same_kind : Kind → Kind → Bool
same_kind Setup Setup = true
same_kind Setup Hold = false
same_kind Hold Setup = false
same_kind Hold Hold = true

abbrev pub uncertainty : Kind → Clock → ℤ
uncertainty Setup clock = clock.unc_setup.0
uncertainty Hold clock = clock.unc_hold.0
