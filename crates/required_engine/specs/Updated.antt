-- Required times of an edited store over those of its base: which nodes are evaluated of themselves, and the cone of those that
-- are affected, level by level from the highest down (incremental timing as in OpenTimer).

use Rattle.std.specs.Prelude.{ℕ, ◌≡◌, ◌==◌, ◌-◌, ◌+◌, ◌<◌, ◌&&◌, ◌||◌, Bool, true, false, not, if◌then◌else◌, List, map, length, nat_eq, nat_lt, slice_index_or, is_some, Some, option_and_then}
use Rattle.std.specs.List.{list_any}
use Rattle.std.specs.Option.{option_map_or}
use Rattle.timing_defs.specs.declared.design.Design.{Design}
use Rattle.timing_defs.specs.declared.rows.BackRow.{BackRow}
use Rattle.timing_defs.specs.declared.kinds.Split.TheVariants.{Late}
use Rattle.timing_defs.specs.declared.kinds.Tran.{Tran}
use Rattle.timing_defs.specs.declared.library.CellTest.{CellTest}
use Rattle.timing_defs.specs.declared.netlist.Inst.{Inst}
use Rattle.timing_defs.specs.Netlist.{Node, full_name, cell_of}
use Rattle.timing_rules.specs.Clocking.{cell_tests}
use Rattle.timing_rules.specs.Required.{empty_back}
use Rattle.timing_defs.specs.Touches.{Touch}
use Rattle.timing_rules.specs.Cones.{same_back, is_seed, row_differs, leads_to_seed, has_changed_clock, is_backward}
use Rattle.netlist_store.specs.declared.touched.Touched.{Touched}
use Rattle.netlist_store.specs.Numbering.{Stored, is_number, inst_numbered, owner_number, IsNumbered}
use Rattle.pin_graph.specs.declared.arcs.GraphArc.{GraphArc}
use Rattle.pin_graph.specs.Nodes.{node_at, node_bound, number_at, pin_under}
use Rattle.pin_graph.specs.Graphs.{Graphed, fan_at, level_at, to_of, of_node}
use Rattle.pin_graph.specs.RowTables.{AreRowsFine, AreBackRows, AreBacksFine, back_numbered}
use Rattle.level_cone.specs.Cone.{Cone, IsPass}
use Rattle.level_cone.specs.Waiting.{waits}
use Rattle.required_engine.specs.Worked.{IsFineBack}

-- what an ECO touched, as the store that made it tells it
abbrev pub touch_of : Touched → Touch
touch_of touched = record { insts = touched.insts; nets = touched.nets }

-- some numbers are those of the nodes of a store that pass a test, and no others
abbrev pub AreThose : Stored → (Node → Bool) → List ℕ → Type 0
AreThose s test numbers = (n : ℕ) → list_any (nat_eq n) numbers ≡ of_node s test n

-- the required times of a base, in which no quantity leaves its limit
pub record IsBackBase (s : Stored) (rows : List BackRow) : Type 0 where
  pub numbered : IsNumbered s
  pub fine : AreRowsFine s.design
  pub backs : AreBackRows s rows
  pub backs_fine : AreBacksFine s.design

-- the nodes that are evaluated whatever the required times of the nodes after them are
abbrev pub is_first : Design → Design → Touch → Node → Bool
is_first base edited touch node =
    is_seed base edited touch node || row_differs base edited node || leads_to_seed base edited touch node || has_changed_clock base edited touch node

-- the numbers of these, and of no node that is no backward one
pub record AreFirst (base s : Stored) (touch : Touch) (first : List ℕ) : Type 0 where
  pub sound : (n : ℕ) → list_any (λ y. y == n) first ≡ true → of_node s (is_backward base.design s.design touch) n ≡ true
  pub all : (n : ℕ) → of_node s (is_first base.design s.design touch) n ≡ true → list_any (λ y. y == n) first ≡ true

-- whether a number is among some
abbrev pub is_in : List ℕ → ℕ → Bool
is_in numbers n = list_any (λ y. y == n) numbers

-- a number is that of the node of a store at which an arc begins
abbrev pub is_tail : Stored → ℕ → GraphArc → Bool
is_tail s n arc = is_number s.pins (pin_under arc.from) && (arc.from == n)

-- a node of a store from which an arc of a graph leads to a number; to one of some
abbrev pub is_tail_at : Graphed → Stored → ℕ → ℕ → Bool
is_tail_at b s n m = nat_lt m (node_bound b.stored) && list_any (is_tail s n) (fan_at b.ins m)

abbrev pub is_tail_of : Graphed → Stored → List ℕ → ℕ → Bool
is_tail_of b s nodes n = list_any (is_tail_at b s n) nodes

-- a number is that of an instance's node, by the name of its pin in the cell
abbrev pub is_own : Stored → Inst → ℕ → List ℕ → Tran → Bool
is_own s inst n own tran = option_map_or (λ k. k == n) (number_at s (full_name (Some inst) own) tran) false

-- the data node of a test of an instance; the clock node is that of a number
abbrev pub is_data : Stored → Inst → ℕ → ℕ → CellTest → Bool
is_data s inst clock n test = is_own s inst clock test.clock test.active && is_own s inst n test.pin test.tran

abbrev pub is_data_by : Stored → ℕ → ℕ → Inst → Bool
is_data_by s clock n inst = list_any (is_data s inst clock n) (cell_tests (cell_of s.design Late inst))

-- of a test of the instance whose pin has the number of the clock node; of one of some
abbrev pub is_clocked_at : Stored → ℕ → ℕ → Bool
is_clocked_at s n clock = option_map_or (is_data_by s clock n) (option_and_then (inst_numbered s) (owner_number s (pin_under clock))) false

abbrev pub is_clocked_of : Stored → List ℕ → ℕ → Bool
is_clocked_of s nodes n = list_any (is_clocked_at s n) nodes

-- the first nodes by their numbers, over the seeds and the nodes whose row differs
abbrev pub is_first_of : Graphed → Graphed → List ℕ → List ℕ → ℕ → Bool
is_first_of b g seeds changed n =
    is_in seeds n || is_in changed n || is_tail_of g g.stored seeds n || is_tail_of b g.stored seeds n || is_clocked_of g.stored seeds n
    || is_clocked_of g.stored changed n

-- levels counted from the top, and back
abbrev pub from_top : ℕ → ℕ
from_top level = 4294967295 - level

abbrev pub top_level : Graphed → ℕ → ℕ
top_level g n = from_top (level_at g n)

-- the required times of a number, of a table; none past it
abbrev pub back_at : List BackRow → ℕ → BackRow
back_at rows n = slice_index_or rows n empty_back

-- those of the base; none of a number that stands for no node now
abbrev pub back_before : Stored → Stored → ℕ → BackRow
back_before base s n = (if is_some (node_at s n) then back_numbered base n else empty_back)

-- the cone of the nodes that are affected: the first, and what leads to a node whose required times differ
abbrev pub back_cone : Stored → Graphed → List ℕ → Cone BackRow
back_cone base g first =
    record {
      count = node_bound g.stored;
      level = top_level g;
      fan = λ n. map to_of (fan_at g.outs n);
      seed = λ n. list_any (λ y. y == n) first;
      differs = λ n. not (same_back (back_before base g.stored n) (back_numbered g.stored n));
      was = back_before base g.stored;
      now = back_numbered g.stored;
    }

-- a number waits at a level as the beginning of one of some arcs
abbrev pub tails_stand : Graphed → List GraphArc → ℕ → ℕ → Bool
tails_stand g arcs k n = list_any (λ arc. (top_level g arc.from == k) && (arc.from == n)) arcs

-- what the nodes of a level make wait: those before each whose required times are others than before
abbrev pub tails_of_changed : Graphed → List BackRow → List BackRow → List ℕ → ℕ → ℕ → Bool
tails_of_changed g before rows nodes k n =
    list_any (λ m. not (same_back (back_at before m) (back_at rows m)) && tails_stand g (fan_at g.ins m) k n) nodes

-- the node of a number is fine
abbrev pub IsFineAt : Stored → ℕ → Type 0
IsFineAt s n = (node : Node) → node_at s n ≡ Some node → IsFineBack s.design node

-- nodes of a level of a graph
abbrev pub IsAtLevel : Graphed → ℕ → ℕ → Type 0
IsAtLevel g level n = (n < node_bound g.stored) × (level_at g n ≡ level)

-- while the pass goes down: before the turn of a level, with how many steps were counted
pub record IsBackPass (base : Stored) (g : Graphed) (first : List ℕ) (rows : List BackRow) (keys : List ℕ) (start steps : ℕ) : Type 0 where
  pub count : length rows ≡ node_bound g.stored
  pub ticks : ℕ
  pub told : steps ≡ start + ticks
  pub pass : IsPass (back_cone base g first) (back_at rows) (waits keys) ticks
  pub fine : (n : ℕ) → n < node_bound g.stored → top_level g n < pass.0 → IsFineAt g.stored n
