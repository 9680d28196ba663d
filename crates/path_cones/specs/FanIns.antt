-- The fan-in cone of an endpoint, as a search for worst walks wants it (static timing analysis: the cone
-- of logic behind an endpoint).

use Rattle.std.specs.Prelude.{ℕ, ◌≡◌, ◌+◌, ◌^◌, ◌<◌, ◌≤◌, ℤ, true, List, All, length, slice_index, slice_range, Some}
use Rattle.sta_units.specs.Numbers.{Within}
use Rattle.timing_defs.specs.declared.kinds.Kind.{Kind}
use Rattle.pin_graph.specs.Nodes.{node_bound}
use Rattle.pin_graph.specs.Graphs.{Graphed}
use Rattle.worst_walks.specs.declared.cones.WalkArc.{WalkArc}
use Rattle.worst_walks.specs.Walks.{delay_in, AreApart}
use Rattle.path_cones.specs.declared.fans.FanIn.{FanIn}
use Rattle.path_cones.specs.Reaching.{is_among, AreOnce}
use Rattle.path_cones.specs.Delays.{followed_delay}

-- lists that stand side by side, the list of a place between two numbers of `starts`
abbrev pub part_at : {X : Type 0} → List ℕ → List X → ℕ → List X
part_at starts items n = slice_range items (slice_index starts n) (slice_index starts (n + 1))

pub record AreParts {X : Type 0} (count : ℕ) (part : ℕ → List X) (starts : List ℕ) (items : List X) : Type 0 where
  pub long : length starts ≡ count + 1
  pub last : slice_index starts count ≡ length items
  pub rising : (n : ℕ) → n < count → slice_index starts n ≤ slice_index starts (n + 1)
  pub stored : (n : ℕ) → n < count → slice_index starts (n + 1) ≤ length items
  pub each : (n : ℕ) → n < count → part_at starts items n ≡ part n

-- an arc leads to a place from a higher one, with a delay within its limit
abbrev pub IsFromAbove : ℕ → ℕ → WalkArc → Type 0
IsFromAbove count n arc = (n < arc.from) × (arc.from < count) × Within arc.delay

-- a part of a fan-in: less than 2^22 nodes, each once, the end nodes among them; arcs from higher places
-- to lower ones, at most one between two nodes: those with the delays of the definition
pub record IsFanPart (g : Graphed) (kind : Kind) (ends : List ℕ) (f : FanIn) : Type 0 where
  pub few : length f.nodes < 2 ^ 22
  pub once : AreOnce f.nodes
  pub below : (n : ℕ) → is_among f.nodes n ≡ true → n < node_bound g.stored
  pub targets : All (λ e. is_among f.nodes e ≡ true) ends
  pub starts : length f.starts ≡ length f.nodes + 1
  pub rising : (n : ℕ) → n < length f.nodes → slice_index f.starts n ≤ slice_index f.starts (n + 1)
  pub stored : (n : ℕ) → n < length f.nodes → slice_index f.starts (n + 1) ≤ length f.arcs
  pub above : (n : ℕ) → n < length f.nodes → All (IsFromAbove (length f.nodes) n) (part_at f.starts f.arcs n)
  pub apart : (n : ℕ) → n < length f.nodes → AreApart (part_at f.starts f.arcs n)
  pub delays : (a b : ℕ) → a < length f.nodes → b < length f.nodes
      → delay_in (part_at f.starts f.arcs b) a ≡ followed_delay g kind (slice_index f.nodes a) (slice_index f.nodes b)

-- the nodes from which arcs with delays lead to nodes of a cone are all there
abbrev pub IsWhole : Graphed → Kind → FanIn → Type 0
IsWhole g kind f =
    (x b : ℕ) (v : ℤ) → b < length f.nodes → followed_delay g kind x (slice_index f.nodes b) ≡ Some v → is_among f.nodes x ≡ true

pub record IsFanIn (g : Graphed) (kind : Kind) (ends : List ℕ) (f : FanIn) : Type 0 where
  pub part : IsFanPart g kind ends f
  pub closed : IsWhole g kind f
