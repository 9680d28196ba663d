-- The slacks of the paths to one node and to two, and of walks by the numbers of nodes.

use Rattle.std.specs.Prelude.{ℕ, ◌≡◌, ℤ, ◌+ℤ◌, ◌-ℤ◌, ◌==◌, ◌⊎◌, List, Option, Some, Contains}
use Rattle.timing_defs.specs.declared.kinds.Tran.{Tran}
use Rattle.timing_defs.specs.declared.kinds.Kind.{Kind}
use Rattle.timing_defs.specs.declared.design.Design.{Design}
use Rattle.timing_rules.specs.Tests.{Test}
use Rattle.timing_defs.specs.Kinds.{data_split}
use Rattle.timing_rules.specs.Paths.{Named, last_of}
use Rattle.worst_walks.specs.Walks.{walk_sum}
use Rattle.bounded_slack.specs.Nets.{IsAtMost}
use Rattle.path_search.specs.Launches.{IsLaunched, IsTail, launch_slacks}

-- a launch node and nodes after it that end at a node
pub record IsCourseTo (d : Design) (kind : Kind) (end : Named) (edge : ℕ × Tran) (launch : Named) (time : ℤ) (post : List Named) (rest : ℤ) : Type 0 where
  pub launched : IsLaunched d (data_split kind) edge launch time
  pub tail : IsTail d (data_split kind) launch post rest
  pub ends : last_of launch post ≡ end

pub record IsReachedAt (d : Design) (kind : Kind) (end : Named) (slack : ℤ) : Type 0 where
  pub edge : ℕ × Tran
  pub launch : Named
  pub time : ℤ
  pub post : List Named
  pub rest : ℤ
  pub course : IsCourseTo d kind end edge launch time post rest
  pub test : Test
  pub slack_in : Contains (launch_slacks d kind launch edge (time +ℤ rest) end) (test, slack)

-- all paths to a node have at least this slack; None: there is none
abbrev pub IsUnder : Design → Kind → Named → Option ℤ → Type 0
IsUnder d kind end least =
    (edge : ℕ × Tran) (launch : Named) (time : ℤ) (post : List Named) (rest : ℤ) → IsCourseTo d kind end edge launch time post rest
    → (test : Test) (t : ℤ) → Contains (launch_slacks d kind launch edge (time +ℤ rest) end) (test, t) → IsAtMost least t

-- the least slack of all paths to two nodes; None: there is no path to either
pub record IsEitherSlack (d : Design) (kind : Kind) (one other : Named) (least : Option ℤ) : Type 0 where
  pub its : (s : ℤ) → least ≡ Some s → IsReachedAt d kind one s ⊎ IsReachedAt d kind other s
  pub under_one : IsUnder d kind one least
  pub under_other : IsUnder d kind other least

-- slacks that stand for those of the paths to a node: each is one of a path, and what is at most all of them is at most those of all paths
pub record StandFor (Slack : ℤ → Type 0) (d : Design) (kind : Kind) (end : Named) : Type 0 where
  pub forth : (s : ℤ) → Slack s → IsReachedAt d kind end s
  pub under : (least : Option ℤ) → ((s : ℤ) → Slack s → IsAtMost least s) → IsUnder d kind end least

-- a walk by numbers to an end node, from a node that offers something
pub record IsNumberSlack (look : ℕ → ℕ → Option ℤ) (offer : ℕ → Option ℤ) (end : ℕ) (slack : ℤ) : Type 0 where
  pub first : ℕ
  pub more : List ℕ
  pub offered : ℤ
  pub offer_is : offer first ≡ Some offered
  pub sum : ℤ
  pub adds : walk_sum ◌==◌ look end first more ≡ Some sum
  pub is : offered -ℤ sum ≡ slack
