-- Whether a test leaves a path its slack, as it is judged.

use Rattle.std.proofs.Common.{◌≡◌, ℕ, ◌<◌, ◌≤◌, ℤ, Bool, true, false, List, [], ◌∷◌, map, length, unsigned_abs, Option, None, Some, refl, sym, ap, subst, ◌∙◌}
use Rattle.std.specs.Prelude.{◌&&◌, if◌then◌else◌}
use Rattle.std.specs.Ordering.{int_eq}
use Rattle.std.proofs.lemmas.Bool.{leb-true}
use Rattle.sta_units.specs.Numbers.{limit, Within}
use Rattle.timing_defs.specs.declared.kinds.Tran.{Tran}
use Rattle.timing_defs.specs.declared.kinds.Kind.{Kind}
use Rattle.timing_defs.specs.declared.kinds.Kind.TheVariants.{Setup, Hold}
use Rattle.timing_defs.specs.declared.rows.Capture.{Capture}
use Rattle.timing_defs.specs.declared.rows.Launch.{Launch}
use Rattle.timing_defs.specs.declared.rows.Path.{Path}
use Rattle.timing_defs.specs.declared.design.Design.{Design}
use Rattle.timing_rules.specs.Paths.{Named, launch_of, capture_of, last_of, credit, moved, path_named}
use Rattle.timing_rules.specs.Rules.{is_tested}
use Rattle.timing_rules.specs.Tests.{Test, uncertainty_on}
use Rattle.netlist_store.specs.Numbering.{Stored}
use Rattle.node_tests.specs.declared.node_test.NodeTest.{NodeTest}
use Rattle.path_search.specs.Slacks.{test_told}
use Rattle.timed_paths.specs.declared.choosing.Course.{Course}
use Rattle.timed_paths.specs.Choices.{same_edge, required_by, required_where, required_of, leaves, is_wanted_by, is_wanted, IsCourse}
use Rattle.timed_paths.specs.Ends.{capture_named, edge_of_path, capture_of_path}
use Rattle.timed_paths.specs.TestNumbers.{test_of, IsKnownTest}

module _ (s : Stored) (kind : Kind) (p : Path) (c : Course) (course : IsCourse s kind p c) (t : NodeTest) where
  abbrev d : Design
  d = s.design

  abbrev n : Named
  n = course.first

  abbrev ms : List Named
  ms = course.more

  abbrev test : Test
  test = test_of s t

  abbrev needed : Option ℤ
  needed = required_of d kind p n ms test p.credit.0

  wanted_is : is_wanted s kind p c t
      ≡ (same_edge test.capture (capture_of_path p) && int_eq (credit d (n ∷ ms) (edge_of_path p) test) p.credit.0 && leaves kind needed c.length.0 p.slack.0)
  wanted_is = ap (λ (xs : List Named). is_wanted_by d kind p c.length.0 xs test) course.names

  pub not_captured : same_edge test.capture (capture_of_path p) ≡ false → false ≡ is_wanted s kind p c t
  not_captured e =
      sym (wanted_is ∙ ap (λ b. b && int_eq (credit d (n ∷ ms) (edge_of_path p) test) p.credit.0 && leaves kind needed c.length.0 p.slack.0) e)

  credit_as : (v : ℤ) → v ≡ credit d (path_named p) (edge_of_path p) test → v ≡ credit d (n ∷ ms) (edge_of_path p) test
  credit_as v e = e ∙ ap (λ (xs : List Named). credit d xs (edge_of_path p) test) course.names

  pub other_credit : (v : ℤ) → same_edge test.capture (capture_of_path p) ≡ true → v ≡ credit d (path_named p) (edge_of_path p) test → int_eq v p.credit.0 ≡ false → false ≡ is_wanted s kind p c t
  other_credit v same e f =
      sym (wanted_is ∙ ap (λ b. b && int_eq (credit d (n ∷ ms) (edge_of_path p) test) p.credit.0 && leaves kind needed c.length.0 p.slack.0) same
      ∙ ap (λ b. true && b && leaves kind needed c.length.0 p.slack.0) (ap (λ z. int_eq z p.credit.0) (sym (credit_as v e)) ∙ f))

  told_same : (k : Kind) (sep unc cr : ℤ) → required_by k (test_told t) sep unc cr ≡ required_by k test sep unc cr
  told_same Setup sep unc cr = refl
  told_same Hold sep unc cr = refl

  launch_is : c.launch ≡ launch_of d n ms (edge_of_path p)
  launch_is = course.launch n ms course.names

  capture_is : capture_named d c.pin t.capture_clock ≡ capture_of d (last_of n ms) test
  capture_is = ap (λ (pin : List ℕ). capture_named d pin t.capture_clock) (course.pin n ms course.names)

  pub launch_low : c.launch.clock < length d.constraints.clocks
  launch_low = subst (λ (l : Launch). l.clock < length d.constraints.clocks) (sym launch_is) course.clock

  required_is : (cr : ℤ) → required_where d kind c.launch p.launch_tran (capture_named d c.pin t.capture_clock) t cr ≡ required_of d kind p n ms test cr
  required_is cr =
      (λ i. if is_tested d.constraints kind (launch_is i) (capture_is i)
      then Some (required_by kind (test_told t) (moved d kind (launch_is i) (capture_is i) ((launch_is i).clock, p.launch_tran) (t.capture_clock, t.capture_tran)) (uncertainty_on d kind t.capture_clock) cr)
      else None)
      ∙ ap (λ z. if is_tested d.constraints kind (launch_of d n ms (edge_of_path p)) (capture_of d (last_of n ms) test) then Some z else None)
      (told_same kind (moved d kind (launch_of d n ms (edge_of_path p)) (capture_of d (last_of n ms) test) (edge_of_path p) test.capture) (uncertainty_on d kind t.capture_clock) cr)

  pub judged : (v : ℤ) → same_edge test.capture (capture_of_path p) ≡ true → v ≡ credit d (path_named p) (edge_of_path p) test → int_eq v p.credit.0 ≡ true → v ≡ p.credit.0
      → (capture : Capture) → capture ≡ capture_named d c.pin t.capture_clock → (o : Option ℤ) → o ≡ required_where d kind c.launch p.launch_tran capture t v
      → (b : Bool) → b ≡ leaves kind o c.length.0 p.slack.0 → b ≡ is_wanted s kind p c t
  judged v same e f g capture captures o r b left =
      left ∙ ap (λ q. leaves kind q c.length.0 p.slack.0)
      (r ∙ (λ i. required_where d kind c.launch p.launch_tran (captures i) t (g i)) ∙ required_is p.credit.0)
      ∙ sym (wanted_is ∙ ap (λ b. b && int_eq (credit d (n ∷ ms) (edge_of_path p) test) p.credit.0 && leaves kind needed c.length.0 p.slack.0) same
      ∙ ap (λ b. true && b && leaves kind needed c.length.0 p.slack.0) (ap (λ z. int_eq z p.credit.0) (sym (credit_as v e)) ∙ f))

-- the times of a known test are within their limits
pub need_fine : (s : Stored) (t : NodeTest) → IsKnownTest s t → Within t.need.0
need_fine s t k = leb-true (unsigned_abs t.need.0) limit k.fine.need

pub early_fine : (s : Stored) (t : NodeTest) → IsKnownTest s t → Within t.early.0
early_fine s t k = leb-true (unsigned_abs t.early.0) limit k.fine.early

pub late_fine : (s : Stored) (t : NodeTest) → IsKnownTest s t → Within t.late.0
late_fine s t k = leb-true (unsigned_abs t.late.0) limit k.fine.late
