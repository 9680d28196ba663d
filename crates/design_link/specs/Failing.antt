-- Nets that fail a test, and the least of them by bytes.

use Rattle.std.specs.Prelude.{ℕ, ◌≡◌, nat_lt, Bool, false, not, ◌&&◌, List, filter, length, Option, None, Some, option_and_then}
use Rattle.std.specs.Option.{option_map_or}
use Rattle.timing_defs.specs.declared.parasitics.NetRc.{NetRc}
use Rattle.timing_defs.specs.declared.design.Design.{Design}
use Rattle.timing_defs.specs.Netlist.{drivers, is_listed}
use Rattle.timing_defs.specs.Wires.{rc_of}
use Rattle.timing_defs.specs.NetChecks.{is_large_net, nets_where, least, many_drivers, is_tree, pins_agree, net_fault}
use Rattle.timing_rules.specs.Checks.{rc_not_tree, rc_pins_differ}
use Rattle.netlist_store.specs.Numbering.{Stored, name_at}
use Rattle.design_link.specs.declared.net_tests.NetTest.{NetTest}
use Rattle.design_link.specs.declared.net_tests.NetTest.TheVariants.{TooManyNodes, TooManyDrivers, NoTree, OtherPins}

-- the parasitics of a net fail a test, where it has some
abbrev pub rc_that : (NetRc → Bool) → Design → List ℕ → Bool
rc_that test d net = option_map_or test (rc_of d net) false

abbrev pub is_crowded : Design → List ℕ → Bool
is_crowded d net = nat_lt 1 (length (drivers d net))

-- which nets fail a test
abbrev pub fails : NetTest → Design → List ℕ → Bool
fails TooManyNodes d net = rc_that (is_large_net d) d net
fails TooManyDrivers d net = is_crowded d net
fails NoTree d net = rc_that (λ rc. not (is_tree d rc)) d net
fails OtherPins d net = rc_that (λ rc. not (pins_agree d rc)) d net

-- the least net that fails a test
abbrev pub least_failing : NetTest → Design → Option (List ℕ)
least_failing TooManyNodes d = least (nets_where (is_large_net d) d)
least_failing TooManyDrivers d = many_drivers d
least_failing NoTree d = rc_not_tree d
least_failing OtherPins d = rc_pins_differ d

-- a net that is there and fails a test
abbrev pub fails_here : NetTest → Design → List ℕ → Bool
fails_here test d net = is_listed d.nets net && fails test d net

-- the least net that fails a test, of all or of some
abbrev pub least_among : Option (List (List ℕ)) → NetTest → Design → Option (List ℕ)
least_among None test d = least_failing test d
least_among (Some nets) test d = least (filter (fails_here test d) nets)

-- whether a net is a tree is asked of a design of which no net has two drivers
abbrev pub IsReadyFor : NetTest → Design → Type 0
IsReadyFor TooManyNodes d = Unit {0}
IsReadyFor TooManyDrivers d = Unit {0}
IsReadyFor NoTree d = net_fault d ≡ None
IsReadyFor OtherPins d = Unit {0}

-- whether the net of a number fails a test; a gap does not
abbrev pub fails_at : NetTest → Stored → ℕ → Bool
fails_at test s net = option_map_or (fails test s.design) (name_at s.nets net) false

-- the parasitics of the net of a number
abbrev pub IsRcOf : Stored → ℕ → NetRc → Type 0
IsRcOf s net rc = option_and_then (rc_of s.design) (name_at s.nets net) ≡ Some rc
