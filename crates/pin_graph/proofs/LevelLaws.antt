-- Levels of nodes: no walk over arcs between nodes is cyclic, since pins rise in level along each.

use Rattle.std.proofs.Common.{◌≡◌, ℕ, ◌<◌, ◌==◌, Bool, List, [], ◌∷◌, ◌++◌, map, filter, length, get_or, refl, sym, ap, subst, ◌∙◌, inl, inr, arith}
use Rattle.std.specs.Prelude.{Contains}
use Rattle.std.proofs.lemmas.Bool.{cases_Bool, eqb-true, eq-eqb}
use Rattle.std.proofs.lemmas.List.Elements.{All-contains, Contains-get_or}
use Rattle.netlist_store.specs.Linked.{IsLinked}
use Rattle.netlist_store.specs.Numbering.{Stored, IsNumbered}
use Rattle.levelizer.specs.declared.links.Link.{Link}
use Rattle.levelizer.specs.Levels.{fan_in, AreWithin, AreLevels, IsWalk, HasNoCycle}
use Rattle.pin_graph.specs.declared.arcs.GraphArc.{GraphArc}
use Rattle.pin_graph.specs.Joins.{pin_links}
use Rattle.pin_graph.specs.Networks.{IsNetwork}
use Rattle.pin_graph.specs.Nodes.{pin_under, node_bound}
use Rattle.pin_graph.specs.NodeArcs.{node_arcs, node_link, AreNodes, AreMerged}
use Rattle.timing_defs.proofs.Members.{in_map_back, in_filter, passes_in, kept_in}
use Rattle.pin_graph.proofs.JoinLaws.{links_lead}
use Rattle.pin_graph.proofs.WalkLaws.{levels_rise}
use Rattle.pin_graph.proofs.NodeLaws.{raw_under}

-- a walk over arcs that rise ends higher than it begins
walk_rises : (links : List Link) (rank : ℕ → ℕ) → ((l : Link) → Contains links l → rank l.from < rank l.to)
    → (x : ℕ) (ys : List ℕ) (z : ℕ) → IsWalk links x (ys ++ z ∷ []) → rank x < rank z
walk_rises links rank rises x [] z w = rises (record { from = x; to = z }) w.0
walk_rises links rank rises x (y ∷ ys) z w =
    let here = rises (record { from = x; to = y }) w.0 in
    let rest = walk_rises links rank rises y ys z w.1 in
    omega arith

pub none_cyclic : (links : List Link) (rank : ℕ → ℕ) → ((l : Link) → Contains links l → rank l.from < rank l.to) → HasNoCycle links
none_cyclic links rank rises [] c = c
none_cyclic links rank rises (x ∷ xs) c = let up = walk_rises links rank rises x xs x c.1 in omega arith

-- the nodes before a node
pub before_node : (arcs : List GraphArc) (h : ℕ → ℕ) (node : ℕ) → map h (fan_in (map node_link arcs) node) ≡ map (λ (arc : GraphArc). h arc.from) (filter (λ arc. arc.to == node) arcs)
before_node [] h node = refl
before_node (a ∷ arcs) h node = elim (cases_Bool (a.to == node)) [
  | inl e ↦ rw e (ap (λ ys. h a.from ∷ ys) (before_node arcs h node))
  | inr e ↦ rw e (before_node arcs h node)
]

pub links_within : (n : ℕ) (arcs : List GraphArc) → AreNodes n arcs → AreWithin n (map node_link arcs)
links_within n arcs nodes = λ k d low.
    let m = in_map_back node_link arcs (get_or (map node_link arcs) k d) (Contains-get_or (map node_link arcs) k d low) in
    subst (λ (l : Link). (l.from < n) × (l.to < n)) m.same (All-contains (λ (arc : GraphArc). (arc.from < n) × (arc.to < n)) arcs m.item nodes m.within)

module _ (s : Stored) (num : IsNumbered s) (linked : IsLinked s.design) (network : List Bool) (net : IsNetwork s network)
    (levels : List ℕ) (are : AreLevels (length s.pins) (pin_links s) levels) (arcs : List GraphArc) (merged : AreMerged (node_bound s) (node_arcs s network) arcs) where
  arc_rises : (a : GraphArc) → Contains arcs a → get_or levels (pin_under a.from) 0 < get_or levels (pin_under a.to) 0
  arc_rises a c =
      let low = All-contains (λ (arc : GraphArc). (arc.from < node_bound s) × (arc.to < node_bound s)) arcs a merged.nodes c in
      let like = (merged.each a.to low.1).sound a (in_filter (λ (arc : GraphArc). arc.to == a.to) arcs a c (eq-eqb a.to a.to refl)) in
      let item_to : like.item.to ≡ a.to = eqb-true like.item.to a.to (passes_in (λ (arc : GraphArc). arc.to == a.to) (node_arcs s network) like.item like.within) in
      let link = raw_under s num linked network net like.item (kept_in (λ (arc : GraphArc). arc.to == a.to) (node_arcs s network) like.item like.within) in
      let l : Link = record { from = pin_under like.item.from; to = pin_under like.item.to } in
      let up = levels_rise (length s.pins) (pin_links s) levels are l link (links_lead s num linked l link).to_number.below in
      subst (λ (n : ℕ). get_or levels (pin_under a.from) 0 < get_or levels (pin_under n) 0) item_to
      (subst (λ (n : ℕ). get_or levels (pin_under n) 0 < get_or levels (pin_under like.item.to) 0) like.from up)

  pub no_cycle : HasNoCycle (map node_link arcs)
  no_cycle =
      none_cyclic (map node_link arcs) (λ n. get_or levels (pin_under n) 0)
      (λ l c.
      let m = in_map_back node_link arcs l c in
      subst (λ (k : Link). get_or levels (pin_under k.from) 0 < get_or levels (pin_under k.to) 0) m.same (arc_rises m.item m.within))

-- as calls have it
pub links_within_as : (n : ℕ) (arcs : List GraphArc) (links links2 : List Link) → AreNodes n arcs → links ≡ map node_link arcs → links2 ≡ links → AreWithin n links2
links_within_as n arcs links links2 nodes e f = subst (λ (ls : List Link). AreWithin n ls) (sym (f ∙ e)) (links_within n arcs nodes)
