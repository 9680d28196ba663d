-- The tests of an endpoint's node whose slew and whose clock nodes an edit leaves ask the same, and so does all that credit is found by.

use Rattle.std.proofs.Common.{◌≡◌, ℕ, ◌<◌, true, Bool, List, [], ◌∷◌, map, length, Some, sym, ap, subst}
use Rattle.std.specs.Prelude.{Contains}
use Rattle.std.specs.Option.{option_map_or}
use Rattle.timing_defs.specs.declared.kinds.Kind.{Kind}
use Rattle.timing_defs.specs.declared.design.Design.{Design}
use Rattle.timing_defs.specs.Netlist.{Node, nodes}
use Rattle.timing_rules.specs.Rows.{row}
use Rattle.timing_defs.specs.RowTimes.{slew_in}
use Rattle.timing_rules.specs.Tests.{Test, tests_at}
use Rattle.timing_defs.specs.Kinds.{data_split}
use Rattle.timing_rules.specs.Paths.{Named, named, node_named}
use Rattle.timing_defs.proofs.Members.{first_in, later_in}
use Rattle.calm_laws.specs.Quiet.{AreSameTests, AreQuiet}
use Rattle.calm_laws.proofs.Calm.{AreAlike}
use Rattle.calm_laws.proofs.QuietNodes.{Stands, AreQuietNodes, quiet_all}
use Rattle.calm_laws.proofs.TestsKept.{AreLeftClocks, tests_left}
use Rattle.calm_laws.proofs.QuietWalks.{tests_quiet}
use Rattle.bounded_changes.specs.Agreed.{tests_of, AreKeptTests}

module _ (d d2 : Design) (place place2 : Node → ℕ) (quiet : Named → Bool) (are : AreQuietNodes d d2 place place2 quiet)
    (short : (n : Node) → Stands d n → place n < length (nodes d)) (short2 : (n : Node) → Stands d2 n → place2 n < length (nodes d2)) where
  left : AreQuiet d d2 quiet
  left = quiet_all d d2 place place2 quiet are

  all_kept : (xs ys : List Test) → AreSameTests xs ys → ((a : Test) → Contains xs a → (m : Named) → Contains (map named a.walk) m → quiet m ≡ true) → AreKeptTests d d2 xs ys
  all_kept [] [] same walks = tt
  all_kept [] (y ∷ ys) same walks = absurd same
  all_kept (x ∷ xs) [] same walks = absurd same
  all_kept (x ∷ xs) (y ∷ ys) same walks = (
    record {
      need = same.0.need;
      capture = same.0.capture;
      early = same.0.early;
      late = same.0.late;
      walk = same.0.walk;
      starts = λ split m c. left.starts split m (walks x (first_in x xs) m c);
      spreads = λ edge m c. left.spreads edge m (walks x (first_in x xs) m c);
    },
    all_kept xs ys same.1 (λ a c. walks a (later_in x xs a c)),
  )

  module _ (n : Named) (x y : Node) (told : node_named d n ≡ Some x) (told2 : node_named d2 n ≡ Some y) (alike : AreAlike x y) (x_in : Stands d x) (y_in : Stands d2 y)
      (kind : Kind) (slews : slew_in (data_split kind) (row d2 y) ≡ slew_in (data_split kind) (row d x)) (clocks : AreLeftClocks d d2 place place2 quiet are short short2 x kind) where
    pub tests_kept : AreKeptTests d d2 (tests_of d kind n) (tests_of d2 kind n)
    tests_kept =
        subst (λ (xs : List Test). AreKeptTests d d2 xs (tests_of d2 kind n)) (sym (ap (λ o. option_map_or (tests_at d kind) o []) told))
        (subst (AreKeptTests d d2 (tests_at d kind x)) (sym (ap (λ o. option_map_or (tests_at d2 kind) o []) told2))
        (all_kept (tests_at d kind x) (tests_at d2 kind y) (tests_left d d2 place place2 quiet are short short2 x y alike x_in y_in kind slews clocks)
        (tests_quiet d d2 place place2 quiet are short short2 x x_in kind clocks)))
