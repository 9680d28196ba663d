-- Endpoints that have no slack, by the answer to the question for it.

use Rattle.std.proofs.Common.{◌≡◌, ℕ, ℤ, Bool, true, List, Option, None, Some, refl, sym, subst, ◌∙◌}
use Rattle.timing_defs.specs.declared.kinds.Kind.{Kind}
use Rattle.timing_defs.specs.declared.design.Design.{Design}
use Rattle.timing_defs.specs.declared.reports.Query.{Query}
use Rattle.timing_defs.specs.declared.reports.Query.TheVariants.{Endpoint}
use Rattle.timing_defs.specs.declared.reports.Report.{Report}
use Rattle.timing_defs.specs.declared.reports.Report.TheVariants.{Value}
use Rattle.timing_defs.proofs.Members.{some_is}
use Rattle.timing_rules.specs.Paths.{IsSlack}
use Rattle.timing_rules.specs.Questions.{Told}
use Rattle.timing_rules.specs.Reports.{fs_value}
use Rattle.netlist_store.specs.Numbering.{Stored, name_at}
use Rattle.clock_summaries.specs.Captures.{IsCapturedAt}

none_is : (o : Option ℤ) → Value None ≡ fs_value o → o ≡ None
none_is None e = refl
none_is (Some t) e = absurd (cc)

none_as : (d : Design) (kind : Kind) (pin : List ℕ) → Told d (Endpoint pin kind) (Value None) → IsSlack d kind pin None
none_as d kind pin told = subst (λ (o : Option ℤ). IsSlack d kind pin o) (none_is told.1.0 told.1.2) told.1.1

pub none_told : (d : Design) (kind : Kind) (pin : List ℕ) (q : Query) (r : Report) → q ≡ Endpoint pin kind → r ≡ Value None → Told d q r → IsSlack d kind pin None
none_told d kind pin q r asked is told =
    none_as d kind pin (subst (λ (x : Report). Told d (Endpoint pin kind) x) is (subst (λ (x : Query). Told d x r) asked told))

-- such an endpoint is not captured
pub none_captured : (s t : Stored) (kind : Kind) (pin : ℕ) (name : List ℕ) (lacks : Bool) → s ≡ t → name_at s.pins pin ≡ Some name → (lacks ≡ true → IsSlack t.design kind name None)
    → lacks ≡ true → IsCapturedAt s kind pin None
none_captured s t kind pin name lacks same at told is word there =
    subst (λ (w : List ℕ). IsSlack s.design kind w None) (some_is (sym at ∙ there)) (subst (λ (x : Stored). IsSlack x.design kind name None) (sym same) (told is))
