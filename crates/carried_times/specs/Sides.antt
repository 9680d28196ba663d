-- What two designs tell of steps, by tables of rows and of delays.

use Rattle.std.specs.Prelude.{ℕ, ◌≡◌, ◌≤◌, ℤ, nat_eq, nat_lt, position, slice_get, true, false, if◌then◌else◌, List, length, Option, Some, None, Result, Ok, Contains}
use Rattle.std.specs.Option.{option_map_or}
use Rattle.sta_units.specs.declared.units.Memory.{Memory}
use Rattle.timing_defs.specs.declared.kinds.Split.{Split}
use Rattle.timing_defs.specs.declared.kinds.Split.TheVariants.{Early, Late}
use Rattle.timing_defs.specs.declared.rows.NodeRow.{NodeRow}
use Rattle.timing_defs.specs.RowTimes.{times_in}
use Rattle.netlist_store.specs.Numbering.{Stored}
use Rattle.pin_graph.specs.declared.arcs.GraphArc.{GraphArc}
use Rattle.pin_graph.specs.Graphs.{Graphed, fan_at}
use Rattle.arc_delays.specs.declared.tables.ArcDelay.{ArcDelay}
use Rattle.arc_delays.specs.Delays.{delay_told}
use Rattle.bounded_changes.specs.Carried.{IsBeyond}
use Rattle.edit_reach.specs.Reach.{is_in}
use Rattle.carried_times.specs.declared.carried.Carried.{Carried}
use Rattle.carried_times.specs.declared.walking.CarriedTimes.{CarriedTimes}
use Rattle.carried_times.specs.Ordered.{AreSame}
use Rattle.carried_times.specs.Carry.{time_of, no_times, merged, step_of}
use Rattle.carried_times.specs.Times.{outermost_time, AreTimes}

-- the rows and the delays of so many nodes
pub record Sided : Type 0 where
  pub rows : List NodeRow
  pub delays : List (List ArcDelay)
  pub count : ℕ

abbrev pub arrival_told : Sided → Split → ℕ → Option ℤ
arrival_told s split n = (if nat_lt n s.count then option_map_or (λ row. outermost_time split (times_in split row)) (slice_get s.rows n) None else None)

abbrev pub delay_by : Sided → Split → ℕ → ℕ → Option ℤ
delay_by s split from to = (if nat_lt to s.count then delay_told s.delays split from to else None)

abbrev pub sided : List NodeRow → List (List ArcDelay) → ℕ → Sided
sided rows delays count = record { rows = rows; delays = delays; count = count }

abbrev pub IsSided : List NodeRow → List (List ArcDelay) → ℕ → Type 0
IsSided rows delays count = (count ≤ length rows) × (count ≤ length delays)

-- the time behind a step, by what both tell
abbrev pub step_told : Sided → Sided → Split → ℕ → ℕ → Option ℤ → Option ℤ
step_told a b split from to time =
    step_of split (delay_by a split from to) (delay_by b split from to) time (arrival_told a split from) (arrival_told b split from)

abbrev pub carried_step : Sided → Sided → ℕ → ℕ → Carried → Carried
carried_step a b from to times = record { early = step_told a b Early from to times.early; late = step_told a b Late from to times.late }

-- the times of a node among those found so far: none of one that is not behind the change, nothing where it is not found yet
abbrev pub found_at : List ℕ → List Carried → ℕ → Option Carried
found_at nodes times n = option_map_or (slice_get times) (position (λ m. nat_eq n m) nodes) (Some no_times)

abbrev pub time_at : List ℕ → List Carried → ℕ → Carried
time_at nodes times n = option_map_or (λ c. c) (found_at nodes times n) no_times

-- times beyond others, where these are there
abbrev pub Covers : Split → Option ℤ → Option ℤ → Type 0
Covers split o p = (v : ℤ) → p ≡ Some v → IsBeyond split o v

abbrev pub AreCovered : Carried → Carried → Type 0
AreCovered c other = (split : Split) → Covers split (time_of split c) (time_of split other)

-- times beyond those behind an arc
pub record IsPassed (a b : Sided) (nodes : List ℕ) (times : List Carried) (found : Carried) (arc : GraphArc) : Type 0 where
  pub before : Carried
  pub there : found_at nodes times arc.from ≡ Some before
  pub beyond : AreCovered found (carried_step a b arc.from arc.to before)

abbrev pub ArePassed : Sided → Sided → List ℕ → List Carried → Carried → List GraphArc → Type 0
ArePassed a b nodes times found arcs = (arc : GraphArc) → Contains arcs arc → IsPassed a b nodes times found arc

-- the times with those behind one arc more
pub record IsMore (a b : Sided) (nodes : List ℕ) (times : List Carried) (found : Carried) (arc : GraphArc) (more : Carried) : Type 0 where
  pub before : Carried
  pub there : found_at nodes times arc.from ≡ Some before
  pub is : more ≡ merged found (carried_step a b arc.from arc.to before)

-- the arrivals of a node in both splits
abbrev pub whole_told : Sided → ℕ → Carried
whole_told s n = record { early = arrival_told s Early n; late = arrival_told s Late n }

-- the times of a node: a seed's are beyond its arrivals in both, another's beyond those behind the arcs into it
pub record IsTold (a b : Sided) (g : Graphed) (seeds nodes : List ℕ) (times : List Carried) (n : ℕ) (found : Carried) : Type 0 where
  pub before : is_in seeds n ≡ true → AreCovered found (whole_told a n)
  pub after : is_in seeds n ≡ true → AreCovered found (whole_told b n)
  pub arcs : is_in seeds n ≡ false → (arc : GraphArc) → Contains (fan_at g.ins n) arc → IsPassed a b nodes times found arc

-- the first nodes have times
abbrev pub AreTold : Sided → Sided → Graphed → List ℕ → List ℕ → List Carried → Type 0
AreTold a b g seeds nodes times =
    (i n : ℕ) (found : Carried) → slice_get nodes i ≡ Some n → slice_get times i ≡ Some found → IsTold a b g seeds nodes times n found

-- all nodes have
pub record IsWalked (a b : Sided) (g : Graphed) (seeds nodes : List ℕ) (times : List Carried) : Type 0 where
  pub all : length times ≡ length nodes
  pub told : AreTold a b g seeds nodes times

-- the times that a walk found, with its seeds and nodes
pub record IsJoined (seeds nodes : List ℕ) (times : Result (Option (List Carried)) Memory) (c : CarriedTimes) : Type 0 where
  pub seeds_are : c.seeds.keys ≡ seeds
  pub nodes_are : c.nodes.keys ≡ nodes
  pub times_are : times ≡ Ok (Some c.times)

-- what is carried to each node behind the seeds of an edit
pub record AreCarriedTimes (base s : Stored) (seeds found : List ℕ) (c : CarriedTimes) : Type 0 where
  pub seeds_are : AreSame seeds c.seeds.keys
  pub nodes_are : AreSame found c.nodes.keys
  pub times : (split : Split) → AreTimes base s seeds found split (λ n. time_of split (time_at c.nodes.keys c.times n))
