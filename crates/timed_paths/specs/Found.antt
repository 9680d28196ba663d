-- What is found of a path that counts by a test.

use Rattle.std.specs.Prelude.{ℕ, ◌≡◌, ◌∷◌, List, Some}
use Rattle.timing_defs.specs.declared.kinds.Kind.{Kind}
use Rattle.timing_defs.specs.declared.rows.Path.{Path}
use Rattle.timing_defs.specs.declared.closing.RequiredParts.{RequiredParts}
use Rattle.timing_defs.specs.Kinds.{data_split}
use Rattle.timing_rules.specs.Paths.{Named, path_named, last_of, Holds}
use Rattle.timing_rules.specs.Stages.{stages, capture_stages, ArePartsOf}
use Rattle.timing_rules.specs.Tests.{Test}
use Rattle.netlist_store.specs.Numbering.{Stored}
use Rattle.node_tests.specs.declared.node_test.NodeTest.{NodeTest}
use Rattle.timed_paths.specs.declared.timed.Found.{Found}
use Rattle.timed_paths.specs.Ends.{edge_of_path}
use Rattle.timed_paths.specs.Numbers.{number_named}
use Rattle.timed_paths.specs.TestNumbers.{test_of}

-- a path that holds what the definition says, by some test
pub record IsHeld (s : Stored) (kind : Kind) (p : Path) : Type 0 where
  pub test : Test
  pub holds : Holds s.design kind p test

-- the number of the last node
abbrev pub IsEndOf : Stored → Path → ℕ → Type 0
IsEndOf s p end = (n : Named) (ms : List Named) → path_named p ≡ n ∷ ms → number_named s (last_of n ms) ≡ Some end

pub record IsEndNumber (s : Stored) (p : Path) : Type 0 where
  pub first : Named
  pub more : List Named
  pub names : path_named p ≡ first ∷ more
  pub end : ℕ
  pub is : number_named s (last_of first more) ≡ Some end

abbrev pub ArePartsIn : Stored → Kind → Path → NodeTest → RequiredParts → Type 0
ArePartsIn s kind p t parts = ArePartsOf s.design kind (path_named p) (edge_of_path p) p.credit.0 (test_of s t) parts

pub record IsFound (s : Stored) (kind : Kind) (p : Path) (f : Found) : Type 0 where
  pub test : Test
  pub holds : Holds s.design kind p test
  pub stages_are : f.stages ≡ stages s.design (data_split kind) p.nodes
  pub capture_are : f.capture ≡ capture_stages s.design kind test
  pub parts_are : ArePartsOf s.design kind (path_named p) (edge_of_path p) p.credit.0 test f.parts
