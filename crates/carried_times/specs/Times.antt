-- Times by numbers of nodes that paths through a change are not beyond, in the base or in the edited design.

use Rattle.std.specs.Prelude.{ℕ, ◌≡◌, ◌+ℤ◌, ℤ, true, false, List, Contains, Option, Some, None}
use Rattle.std.specs.Option.{option_map_or}
use Rattle.timing_defs.specs.declared.edge_times.EdgeTime.{EdgeTime}
use Rattle.timing_defs.specs.declared.kinds.Split.{Split}
use Rattle.timing_defs.specs.declared.design.Design.{Design}
use Rattle.timing_rules.specs.Paths.{Named, node_named}
use Rattle.timing_rules.specs.Rows.{outermost, row}
use Rattle.timing_defs.specs.RowTimes.{times_in}
use Rattle.netlist_store.specs.Numbering.{Stored}
use Rattle.pin_graph.specs.declared.arcs.GraphArc.{GraphArc}
use Rattle.pin_graph.specs.Nodes.{number_at}
use Rattle.pin_graph.specs.Graphs.{IsArc}
use Rattle.pin_graph.specs.RowTables.{row_numbered}
use Rattle.arc_delays.specs.Delays.{delay_numbered}
use Rattle.edit_reach.specs.Reach.{is_in}
use Rattle.bounded_changes.specs.Carried.{IsBeyond}

-- an arrival in a list, and of a number
abbrev pub Arrives : List EdgeTime → ℤ → Type 0
Arrives times t = (e : EdgeTime) × Contains times e × (e.time.0 ≡ t)

abbrev pub ArrivesAt : Stored → Split → ℕ → ℤ → Type 0
ArrivesAt s split n t = Arrives (times_in split (row_numbered s n)) t

-- a step along an arc into a node that is no seed: with a delay of its own in one of the designs, from each arrival there; with one delay in
-- both, from the time of the node before it
pub record IsTimedStep (base s : Stored) (split : Split) (time : ℕ → Option ℤ) (from to : ℕ) : Type 0 where
  pub before : (t x : ℤ) → delay_numbered base split from to ≡ Some x → (delay_numbered s split from to ≡ Some x → ⊥) → ArrivesAt base split from t
      → IsBeyond split (time to) (t +ℤ x)
  pub after : (t x : ℤ) → delay_numbered s split from to ≡ Some x → (delay_numbered base split from to ≡ Some x → ⊥) → ArrivesAt s split from t
      → IsBeyond split (time to) (t +ℤ x)
  pub onward : (t x : ℤ) → delay_numbered base split from to ≡ Some x → delay_numbered s split from to ≡ Some x → time from ≡ Some t
      → IsBeyond split (time to) (t +ℤ x)

pub record AreTimes (base s : Stored) (seeds found : List ℕ) (split : Split) (time : ℕ → Option ℤ) : Type 0 where
  pub seeds_before : (n : ℕ) (t : ℤ) → is_in seeds n ≡ true → ArrivesAt base split n t → IsBeyond split (time n) t
  pub seeds_after : (n : ℕ) (t : ℤ) → is_in seeds n ≡ true → ArrivesAt s split n t → IsBeyond split (time n) t
  pub steps : (arc : GraphArc) → IsArc s arc → is_in found arc.to ≡ true → is_in seeds arc.to ≡ false → IsTimedStep base s split time arc.from arc.to
  pub found_only : (n : ℕ) (t : ℤ) → time n ≡ Some t → is_in found n ≡ true

-- the time of a node by its name; one that is gone is as late as it arrives in the base
abbrev pub outermost_time : Split → List EdgeTime → Option ℤ
outermost_time split times = outermost split (λ (t : EdgeTime). Some t.time.0) None times

abbrev pub gone_time : Design → Split → Named → Option ℤ
gone_time d split n = option_map_or (λ node. outermost_time split (times_in split (row d node))) (node_named d n) None

abbrev pub time_or : (ℕ → Option ℤ) → Option ℤ → Option ℕ → Option ℤ
time_or time before None = before
time_or time before (Some k) = time k

abbrev pub time_named : Stored → Stored → Split → (ℕ → Option ℤ) → Named → Option ℤ
time_named base s split time n = time_or time (gone_time base.design split n) (number_at s n.0 n.1)
