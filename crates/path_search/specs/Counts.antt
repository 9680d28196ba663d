-- The test by which a launch node's paths to an end node count, and what a path holds of it.

use Rattle.std.specs.Prelude.{ℕ, ◌≡◌, ℤ, ◌≤ℤ◌, Bool, true, false, if◌then◌else◌, List, [], ◌∷◌, Contains, IfSome, ◌<◌, Option, None, Some, option_and_then}
use Rattle.std.specs.Option.{option_map_or}
use Rattle.std.specs.Ordering.{int_eq}
use Rattle.timing_defs.specs.declared.kinds.Tran.{Tran}
use Rattle.timing_defs.specs.declared.kinds.Kind.{Kind}
use Rattle.timing_defs.specs.declared.design.Design.{Design}
use Rattle.timing_defs.specs.Netlist.{Node}
use Rattle.timing_rules.specs.Tests.{Test}
use Rattle.timing_defs.specs.Kinds.{data_split}
use Rattle.timing_rules.specs.Paths.{Named, named, clock_not_after, credit}
use Rattle.netlist_store.specs.Numbering.{Stored, is_number}
use Rattle.pin_graph.specs.Nodes.{node_at, node_bound, pin_under}
use Rattle.pessimism_credit.specs.declared.rows.TreeRow.{TreeRow}
use Rattle.path_search.specs.declared.counted.Counted.{Counted}
use Rattle.path_search.specs.declared.counted.Chosen.{Chosen}
use Rattle.path_search.specs.declared.ends.EndTest.{EndTest}
use Rattle.path_search.specs.declared.launches.LaunchNode.{LaunchNode}
use Rattle.path_search.specs.Launches.{IsLaunched, launch_slacks, walk_names}
use Rattle.path_search.specs.Slacks.{slack_where}

abbrev pub counted_edge : Counted → ℕ × Tran
counted_edge c = (c.launch_clock, c.launch_tran)

-- of the tests that give the least slack the one of the lesser clock pin counts, rise before fall
pub record IsCounted (s : Stored) (kind : Kind) (launch end : Named) (offer : ℤ) (c : Counted) : Type 0 where
  pub launched : IsLaunched s.design (data_split kind) (counted_edge c) launch c.time.0
  pub test : Test
  pub within : Contains (launch_slacks s.design kind launch (counted_edge c) c.time.0 end) (test, offer)
  pub first : (other : Test) (t : ℤ) → Contains (launch_slacks s.design kind launch (counted_edge c) c.time.0 end) (other, t)
      → (offer ≤ℤ t) × (t ≡ offer → clock_not_after test.clock other.clock ≡ true)
  pub capture : (c.capture_clock, c.capture_tran) ≡ test.capture
  pub its_credit : c.credit.0 ≡ credit s.design (walk_names s.design launch) (counted_edge c) test

-- whether the clock pin's node of a number does not come after that of another
abbrev pub is_not_after : Stored → Option ℕ → Option ℕ → Bool
is_not_after s a b = clock_not_after (option_and_then (node_at s) a) (option_and_then (node_at s) b)

-- of a test that is chosen so far and a further one the first by their clock pins
abbrev pub chosen_of : EndTest → Chosen
chosen_of t = record { test = t.test; place = t.place }

abbrev pub first_chosen : Stored → Option Chosen → Chosen → Chosen
first_chosen s None next = next
first_chosen s (Some best) next = (if is_not_after s best.test.clock next.test.clock then best else next)

-- a further test, where it gives the wanted slack
abbrev pub gives : Design → Kind → List TreeRow → LaunchNode → ℤ → EndTest → Bool
gives d kind rows l offer t = option_map_or (λ slack. int_eq slack offer) (slack_where d kind rows l t) false

abbrev pub with_chosen : Stored → (EndTest → Bool) → Option Chosen → EndTest → Option Chosen
with_chosen s wanted best t = (if wanted t then Some (first_chosen s best (chosen_of t)) else best)

abbrev pub chosen_over : Stored → (EndTest → Bool) → Option Chosen → List EndTest → Option Chosen
chosen_over s wanted best [] = best
chosen_over s wanted best (t ∷ ts) = chosen_over s wanted (with_chosen s wanted best t) ts

-- the clock pin's node of a chosen test is there
pub record IsKnown (s : Stored) (c : Chosen) : Type 0 where
  pub low : IfSome c.test.clock (λ n. n < node_bound s)
  pub there : IfSome c.test.clock (λ n. is_number s.pins (pin_under n) ≡ true)

-- the test that counts between the nodes of two numbers
abbrev pub IsCountedAt : Stored → Kind → ℕ → ℕ → ℤ → Counted → Type 0
IsCountedAt s kind launch end offer c =
    (l e : Node) → node_at s launch ≡ Some l → node_at s end ≡ Some e → IsCounted s kind (named l) (named e) offer c
