-- What a full analysis finds is an analysis.

use Rattle.std.proofs.Common.{◌≡◌, ℕ, true, List, sym, ap, subst, ◌∙◌}
use Rattle.std.specs.Prelude.{slice_get, Some}
use Rattle.timing_defs.specs.declared.rows.NodeRow.{NodeRow}
use Rattle.timing_defs.specs.declared.rows.BackRow.{BackRow}
use Rattle.timing_rules.specs.Checks.{IsSound}
use Rattle.timing_rules.specs.Range.{NoOrigin}
use Rattle.netlist_store.specs.Numbering.{Stored, IsNumbered}
use Rattle.netlist_store.specs.Linked.{IsLinked}
use Rattle.pin_graph.specs.Graphs.{Graphed, IsGraph}
use Rattle.pin_graph.specs.RowTables.{AreRows}
use Rattle.arrival_engine.specs.declared.tables.Arrivals.{Arrivals}
use Rattle.arrival_engine.specs.Analysed.{AreTables}
use Rattle.arc_delays.specs.Delays.{AreDelays}
use Rattle.std.specs.Arc.{arc_value}
use Rattle.pessimism_credit.specs.declared.rows.TreeRow.{TreeRow}
use Rattle.required_engine.specs.Worked.{is_back_within}
use Rattle.path_search.specs.Trees.{IsClockTree}
use Rattle.affected_cone.specs.declared.ends.EndSlacks.{EndSlacks}
use Rattle.affected_cone.specs.declared.ends.Search.{Search}
use Rattle.affected_cone.specs.declared.found.Found.{Found}
use Rattle.affected_cone.specs.declared.asking.Known.{Known}
use Rattle.affected_cone.specs.Analysed.{IsAnalysis, IsKept, IsSearch}
use Rattle.affected_cone.specs.Found.{IsFound}
use Rattle.affected_cone.specs.Known.{IsKnown}

-- an analysis of a store that is the same
analysis_at : (t s : Stored) → s ≡ t → (rows : List NodeRow) (backs : List BackRow) (ends : List EndSlacks)
    → IsAnalysis (record { stored = s; rows = rows; backs = backs; ends = ends }) → IsAnalysis (record { stored = t; rows = rows; backs = backs; ends = ends })
analysis_at t s same rows backs ends a = subst (λ (x : Stored). IsAnalysis (record { stored = x; rows = rows; backs = backs; ends = ends })) same a

pub found_analysis : (s : Stored) (g : Graphed) (found : Found) → g.stored ≡ s → IsSound s.design → IsNumbered s → IsLinked s.design → IsGraph g → IsFound s g found
    → IsAnalysis (record { stored = g.stored; rows = found.arrivals.rows; backs = found.required.rows; ends = found.ends })
    × IsKept g found.arrivals found.required.rows found.tree
found_analysis s g found same sound num linked is f = (
  analysis_at g.stored s (sym same) found.arrivals.rows found.required.rows found.ends
      (record { sound = sound; fine = f.fine; rows = f.arrivals.rows; backs = f.required.rows; ends = f.ends }),
  record {
    numbered = subst (λ (x : Stored). IsNumbered x) (sym same) num;
    linked = subst (λ (x : Stored). IsLinked x.design) (sym same) linked;
    graph = is;
    tables = subst (λ (x : Stored). AreTables x found.arrivals) (sym same) f.arrivals.tables;
    delays = subst (λ (x : Stored). AreDelays x (arc_value found.arrivals.delays)) (sym same) f.arrivals.delays;
    within = f.required.within;
    tree = f.tree;
  },
)

-- the parts of an analysis, with its store
pub known_told : (k : Known) (arrivals : Arrivals) (backs : List BackRow) (ends : List EndSlacks) (g : Graphed) (tree : List TreeRow) → k.store.now ≡ g.stored → k.graph.now ≡ g
    → k.arrivals.now ≡ arrivals → k.required.now.rows ≡ backs → k.tree.now ≡ tree → k.ends.now ≡ ends
    → IsAnalysis (record { stored = g.stored; rows = arrivals.rows; backs = backs; ends = ends }) → IsKept g arrivals backs tree → IsKnown k
known_told k arrivals backs ends g tree store graph rows required trees list a kept = record {
  analysis =
      subst (λ (x : Stored). IsAnalysis (record { stored = x; rows = k.arrivals.now.rows; backs = k.required.now.rows; ends = k.ends.now })) (sym store)
      (subst (λ (x : Arrivals). IsAnalysis (record { stored = g.stored; rows = x.rows; backs = k.required.now.rows; ends = k.ends.now })) (sym rows)
      (subst (λ (x : List BackRow). IsAnalysis (record { stored = g.stored; rows = arrivals.rows; backs = x; ends = k.ends.now })) (sym required)
      (subst (λ (x : List EndSlacks). IsAnalysis (record { stored = g.stored; rows = arrivals.rows; backs = backs; ends = x })) (sym list) a)));
  graph = ap (λ (x : Graphed). x.stored) graph ∙ sym store;
  tables = subst (λ (x : Stored). AreTables x k.arrivals.now) (sym store) (subst (λ (x : Arrivals). AreTables g.stored x) (sym rows) kept.tables);
  delays =
      subst (λ (x : Stored). AreDelays x (arc_value k.arrivals.now.delays)) (sym store)
      (subst (λ (x : Arrivals). AreDelays g.stored (arc_value x.delays)) (sym rows) kept.delays);
  within = subst (λ (x : List BackRow). (node : ℕ) (row : BackRow) → slice_get x node ≡ Some row → is_back_within row ≡ true) (sym required) kept.within;
  tree = subst (λ (x : Graphed). IsClockTree x k.tree.now) (sym graph) (subst (λ (x : List TreeRow). IsClockTree g x) (sym trees) kept.tree);
}

-- what paths are searched over, of the parts of an analysis
pub search_told : (x : Search) (arrivals : Arrivals) (backs : List BackRow) (ends : List EndSlacks) (g : Graphed) (tree : List TreeRow) → x.store.now ≡ g.stored → x.graph.now ≡ g
    → x.arrivals.now ≡ arrivals → x.tree.now ≡ tree → IsAnalysis (record { stored = g.stored; rows = arrivals.rows; backs = backs; ends = ends }) → IsKept g arrivals backs tree → IsSearch x
search_told x arrivals backs ends g tree store graph rows trees a kept = record {
  sound = subst (λ (s : Stored). IsSound s.design) (sym store) a.sound;
  graph = ap (λ (y : Graphed). y.stored) graph ∙ sym store;
  fine = subst (λ (s : Stored). NoOrigin s.design) (sym store) a.fine;
  rows = subst (λ (s : Stored). AreRows s x.arrivals.now.rows) (sym store) (subst (λ (y : Arrivals). AreRows g.stored y.rows) (sym rows) a.rows);
  tables = subst (λ (s : Stored). AreTables s x.arrivals.now) (sym store) (subst (λ (y : Arrivals). AreTables g.stored y) (sym rows) kept.tables);
  delays =
      subst (λ (s : Stored). AreDelays s (arc_value x.arrivals.now.delays)) (sym store)
      (subst (λ (y : Arrivals). AreDelays g.stored (arc_value y.delays)) (sym rows) kept.delays);
  tree = subst (λ (y : Graphed). IsClockTree y x.tree.now) (sym graph) (subst (λ (y : List TreeRow). IsClockTree g y) (sym trees) kept.tree);
}
