-- What a path's tests are judged by, and the number of its last node, as they are told.

use Rattle.std.proofs.Common.{◌≡◌, ℕ, ◌+◌, ◌-◌, ◌<◌, ◌≤◌, List, [], ◌∷◌, map, length, get_or, Option, None, Some, refl, sym, ap, subst, ◌∙◌, arith}
use Rattle.timing_defs.specs.declared.kinds.Kind.{Kind}
use Rattle.timing_defs.specs.declared.rows.Path.{Path}
use Rattle.timing_defs.specs.declared.rows.PathNode.{PathNode}
use Rattle.timing_defs.specs.declared.design.Design.{Design}
use Rattle.timing_rules.specs.Paths.{Named, launch_of, last_of, path_named}
use Rattle.timing_rules.specs.Stages.{named_node}
use Rattle.netlist_store.specs.Numbering.{Stored, IsNumbered}
use Rattle.pin_graph.specs.Graphs.{Graphed}
use Rattle.timed_paths.specs.declared.choosing.Course.{Course}
use Rattle.timed_paths.specs.Choices.{IsCourse}
use Rattle.timed_paths.specs.Ends.{edge_of_path}
use Rattle.timed_paths.specs.Found.{IsHeld, IsEndNumber, IsEndOf}
use Rattle.timed_paths.specs.Numbers.{number_named}
use Rattle.timed_paths.proofs.PathLaws.{first, more, names, clock_low, last_name, last_long, nodes_some, end_there, end_same, end_none, length_some}

last_low : (n : ℕ) → 1 ≤ n → n - 1 + 1 ≡ n
last_low n low = omega (arith, low)

numbers_are : (s : Stored) (xs : List PathNode) → map (λ n. number_named s (n.pin, n.tran)) xs ≡ map (number_named s) (map (λ node. (node.pin, node.tran)) xs)
numbers_are s [] = refl
numbers_are s (x ∷ xs) = ap (λ ys. number_named s (x.pin, x.tran) ∷ ys) (numbers_are s xs)

module _ (s : Stored) (kind : Kind) (p : Path) (h : IsHeld s kind p) (xs : List PathNode) (same : xs ≡ p.nodes) where
  pub held_some : 1 ≤ length xs
  held_some = (let some = nodes_some s.design kind p h.test h.holds in let e : length xs ≡ length p.nodes = ap length same in omega (arith, some, e))

  module _ (x : PathNode) (at : x ≡ get_or xs (length xs - 1) x) where
    low : length xs - 1 + 1 ≡ length p.nodes
    low = last_low (length xs) held_some ∙ ap length same

    there : x ≡ get_or p.nodes (length xs - 1) x
    there = at ∙ ap (λ (ys : List PathNode). get_or ys (length xs - 1) x) same

    pub course_is : (g : Graphed) → g.stored ≡ s → (c : Course)
        → ((n : Named) (ms : List Named) → path_named p ≡ n ∷ ms → c.launch ≡ launch_of s.design n ms (edge_of_path p))
        → c.pin ≡ x.pin → c.length ≡ x.time → c.numbers ≡ map (λ n. number_named g.stored (n.pin, n.tran)) xs → IsCourse s kind p c
    course_is g graph c launch pin time numbers = record {
      first = first s.design kind p h.test h.holds;
      more = more s.design kind p h.test h.holds;
      names = names s.design kind p h.test h.holds;
      launch = launch;
      pin = λ n ms e. pin ∙ ap (λ (m : Named). m.0) (last_name p (length xs - 1) x low there n ms e);
      long = λ n ms e. last_long s.design kind p h.test h.holds (length xs - 1) x low there n ms e ∙ ap (λ t. Some t.0) (sym time);
      numbers = numbers ∙ (λ i. map (λ n. number_named (graph i) (n.pin, n.tran)) (same i)) ∙ numbers_are s p.nodes;
      clock = clock_low s.design kind p h.test h.holds;
    }

module _ (s : Stored) (p : Path) (its : IsEndNumber s p) (xs : List PathNode) (same : xs ≡ p.nodes) where
  pub end_some : 1 ≤ length xs
  end_some = (let some = length_some s p its in let e : length xs ≡ length p.nodes = ap length same in omega (arith, some, e))

  module _ (x : PathNode) (at : x ≡ get_or xs (length xs - 1) x) (g : Graphed) (graph : g.stored ≡ s) (o : Option ℕ) (found : o ≡ number_named g.stored (x.pin, x.tran)) where
    end_low : length xs - 1 + 1 ≡ length p.nodes
    end_low = last_low (length xs) end_some ∙ ap length same

    end_at : x ≡ get_or p.nodes (length xs - 1) x
    end_at = at ∙ ap (λ (ys : List PathNode). get_or ys (length xs - 1) x) same

    end_told : o ≡ number_named s (named_node x)
    end_told = found ∙ ap (λ (z : Stored). number_named z (x.pin, x.tran)) graph

    pub end_is : (k : ℕ) → o ≡ Some k → IsEndOf s p k
    end_is k e = λ n ms names. end_same s p (length xs - 1) x end_low end_at (Some k) (sym e ∙ end_told) n ms names

    pub end_gone : o ≡ None → ⊥
    end_gone e = end_none s p its (length xs - 1) x end_low end_at (sym e ∙ end_told)

pub held_end : (s : Stored) → IsNumbered s → (kind : Kind) (p : Path) → IsHeld s kind p → IsEndNumber s p
held_end s num kind p h = end_there s num kind p h.test h.holds
