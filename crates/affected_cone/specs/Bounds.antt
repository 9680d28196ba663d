-- Endpoints that keep their slacks, since paths through what an ECO changes leave more.

use Rattle.std.specs.Prelude.{ℕ, ◌≡◌, ◌+◌, ◌*◌, ◌<ℤ◌, ◌&&◌, ◌||◌, ℤ, nat_eq, not, Bool, true, false, IfSome, List, Option, Some}
use Rattle.timing_defs.specs.declared.kinds.Kind.{Kind}
use Rattle.timing_defs.specs.declared.kinds.Tran.{Tran}
use Rattle.timing_defs.specs.Touches.{Touch}
use Rattle.timing_rules.specs.Paths.{IsSlack}
use Rattle.timing_defs.specs.declared.kinds.Split.{Split}
use Rattle.timing_defs.specs.RowTimes.{slew_in, times_in}
use Rattle.timing_defs.specs.Kinds.{data_split}
use Rattle.netlist_store.specs.Numbering.{Stored, name_at, owner_number}
use Rattle.netlist_store.specs.Applying.{IsEditOf}
use Rattle.pin_graph.specs.RowTables.{row_numbered}
use Rattle.pin_graph.specs.Nodes.{node_number, pin_under}
use Rattle.pin_graph.specs.Graphs.{Graphed, network_at}
use Rattle.edit_reach.specs.Reach.{is_in, HasSeeds, AreBehind}
use Rattle.carried_times.specs.declared.walking.CarriedTimes.{CarriedTimes}
use Rattle.carried_times.specs.Carry.{time_of}
use Rattle.carried_times.specs.Sides.{time_at, AreCarriedTimes}
use Rattle.affected_cone.specs.declared.bounds.Weighed.{Weighed}
use Rattle.affected_cone.specs.Analysed.{IsSearch}
use Rattle.affected_cone.specs.Updated.{IsBase}
use Rattle.bounded_changes.specs.Carried.{room}
use Rattle.path_search.specs.EndLows.{IsEndLow}

-- paths that carry a time to a node leave more than a slack there
pub record IsRoom (base s : Stored) (kind : Kind) (node : ℕ) (slack c : ℤ) : Type 0 where
  pub low : Option ℤ
  pub before : IsEndLow s kind node (times_in (data_split kind) (row_numbered base node)) low
  pub after : IsEndLow s kind node (times_in (data_split kind) (row_numbered s node)) low
  pub more : IfSome low (λ l. slack <ℤ room kind l c)

abbrev pub HasRoom : Stored → Stored → Kind → ℕ → Option ℤ → ℤ → Type 0
HasRoom base s kind node time slack = (c : ℤ) → time ≡ Some c → IsRoom base s kind node slack c

-- the same of both nodes of a pin, with the times that are carried to them
abbrev pub HasRooms : Stored → Stored → CarriedTimes → Kind → ℕ → ℤ → Type 0
HasRooms base s c kind pin slack =
    (tran : Tran) → HasRoom base s kind (node_number pin tran) (time_of (data_split kind) (time_at c.nodes.keys c.times (node_number pin tran))) slack

-- the slack of an endpoint of a pin's number
abbrev pub IsSlackAt : Stored → Kind → ℕ → Option ℤ → Type 0
IsSlackAt s kind pin slack = (word : List ℕ) → name_at s.pins pin ≡ Some word → IsSlack s.design kind word slack

-- a slack of an endpoint of the base is one of the edited design
abbrev pub IsKeptSlack : Stored → Stored → Kind → ℕ → ℤ → Type 0
IsKeptSlack base s kind pin slack = IsSlackAt base kind pin (Some slack) → IsSlackAt s kind pin (Some slack)

-- a node of a pin is among some
abbrev pub is_reached : List ℕ → ℕ → Bool
is_reached nodes pin = is_in nodes (2 * pin) || is_in nodes (2 * pin + 1)

abbrev pub is_other_reached : List ℕ → ℕ → ℕ → Bool
is_other_reached nodes pin other = not (nat_eq other pin) && is_reached nodes other

-- no other pin of a pin's instance is one of a node behind a seed
abbrev pub IsAlone : Stored → List ℕ → ℕ → Type 0
IsAlone s nodes pin = (k inst : ℕ) → is_in nodes k ≡ true → owner_number s pin ≡ Some inst → owner_number s (pin_under k) ≡ Some inst → pin_under k ≡ pin

-- times are carried, and none to another pin of a pin's instance
abbrev pub StandsAlone : Weighed → ℕ → Type 0
StandsAlone w pin = IfSome w.carried (λ c. IsAlone w.search.now.store.now c.nodes.keys pin)

-- a node that is no seed and off the clock network, with the slew that it had in a split
pub record IsLeftNode (base : Stored) (g : Graphed) (seeds : List ℕ) (split : Split) (node : ℕ) : Type 0 where
  pub unseeded : is_in seeds node ≡ false
  pub off : network_at g node ≡ false
  pub slew : slew_in split (row_numbered g.stored node) ≡ slew_in split (row_numbered base node)

abbrev pub AreLeftNodes : Stored → Graphed → List ℕ → Split → ℕ → Type 0
AreLeftNodes base g seeds split pin = (tran : Tran) → IsLeftNode base g seeds split (node_number pin tran)

-- what is carried from the seeds of an edit of a base
pub record IsWeighed (w : Weighed) : Type 0 where
  pub touch : Touch
  pub seeds : List ℕ
  pub nodes : List ℕ
  pub base : IsBase w.base.now
  pub search : IsSearch w.search.now
  pub made : IsEditOf w.base.now.graph.now.stored touch w.search.now.store.now
  pub has : HasSeeds w.base.now.graph.now.stored w.search.now.store.now touch seeds
  pub behind : AreBehind w.search.now.graph.now seeds nodes
  pub carried : IfSome w.carried (AreCarriedTimes w.base.now.graph.now.stored w.search.now.store.now seeds nodes)
