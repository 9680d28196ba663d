-- The worst path to an endpoint through given pins (as `report_checks -through` of OpenSTA; slack and
-- order of paths as for the shown path). Nothing is free: nodes, slack, credit and edges of the path are fixed.

use Rattle.std.specs.Prelude.{ℕ, ◌≡◌, ℤ, ◌≤ℤ◌, Bool, true, false, ◌&&◌, ◌||◌, List, [], ◌∷◌, Option, Some, None}
use Rattle.std.specs.Ordering.{is_gt}
use Rattle.std.specs.Str.{bytes_eq}
use Rattle.std.specs.List.{Contains}
use Rattle.timing_defs.specs.declared.kinds.Kind.{Kind}
use Rattle.timing_defs.specs.declared.rows.Path.{Path}
use Rattle.timing_defs.specs.declared.design.Design.{Design}
use Rattle.timing_rules.specs.Paths.{Named, nodes_cmp, path_slacks, ends_at, path_named, Holds}
use Rattle.timing_rules.specs.Tests.{Test}

-- a path passes pins where these are the pins of some of its nodes, each behind the one before
abbrev pub passes : List (List ℕ) → List Named → Bool
passes [] path = true
passes (pin ∷ pins) [] = false
passes (pin ∷ pins) (n ∷ ms) = (bytes_eq pin n.0 && passes pins ms) || passes (pin ∷ pins) ms

-- the tested paths to an endpoint that pass the pins, each test of a path with its slack
abbrev pub LeadsThrough : Design → Kind → List ℕ → List (List ℕ) → List Named → Test → ℤ → Type 0
LeadsThrough d kind pin pins path test slack =
    (ends_at pin path ≡ true) × (passes pins path ≡ true) × Contains (path_slacks d kind path) (test, slack)

-- the worst of them: none where there is none; else no other has less slack, and of those of equal slack
-- it is the least by its nodes
abbrev pub IsThrough : Design → Kind → List ℕ → List (List ℕ) → Option Path → Type 0
IsThrough d kind pin pins None =
    (path : List Named) (test : Test) (s : ℤ) → LeadsThrough d kind pin pins path test s → ⊥
IsThrough d kind pin pins (Some p) =
    (ends_at pin (path_named p) ≡ true) × (passes pins (path_named p) ≡ true) × ((test : Test) × Holds d kind p test)
    × ((path : List Named) (test : Test) (s : ℤ) → LeadsThrough d kind pin pins path test s →
    (p.slack.0 ≤ℤ s) × (s ≡ p.slack.0 → is_gt (nodes_cmp (path_named p) path) ≡ false))
