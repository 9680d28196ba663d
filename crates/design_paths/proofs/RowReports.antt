-- The rows of a report.

use Rattle.std.proofs.Common.{◌≡◌, ℕ, true, List, sym, ap, subst, ◌∙◌}
use Rattle.timing_defs.specs.declared.kinds.Kind.{Kind}
use Rattle.timing_defs.specs.declared.design.Design.{Design}
use Rattle.timing_defs.specs.declared.reports.EndRow.{EndRow}
use Rattle.timing_defs.specs.declared.reports.Query.TheVariants.{Worst}
use Rattle.timing_defs.specs.declared.reports.Report.{Report}
use Rattle.timing_defs.specs.declared.reports.Report.TheVariants.{Ends}
use Rattle.timing_rules.specs.Questions.{Told}
use Rattle.timing_defs.specs.declared.rows.Path.{Path}
use Rattle.timing_rules.specs.Reports.{AreWorst}
use Rattle.timing_rules.specs.Summaries.{AreDesignPaths}
use Rattle.design_paths.specs.Ends.{is_ends}

same_rows : (rows others : List EndRow) → Ends rows ≡ Ends others → rows ≡ others
same_rows rows others e = cc

-- the rows that answer the question for the worst endpoints
pub rows_told : (d : Design) (kind : Kind) (most : ℕ) (r : Report) (rows : List EndRow) → Told d (Worst kind most) r → r ≡ Ends rows
    → AreWorst d kind most rows
rows_told d kind most r rows (free, (others, worst, e)) same =
    subst (AreWorst d kind most) (same_rows others rows (sym e ∙ same)) worst

-- no other report answers it
pub told_ends : (d : Design) (kind : Kind) (most : ℕ) (r : Report) → Told d (Worst kind most) r → is_ends r ≡ true
told_ends d kind most r (free, (others, worst, e)) = ap is_ends e

-- of the same design and the same lists
pub rows_for : (d e : Design) (kind : Kind) (most : ℕ) (rows more : List EndRow) → d ≡ e → more ≡ rows → AreWorst e kind most rows → AreWorst d kind most more
rows_for d e kind most rows more same lists worst =
    subst (λ (x : Design). AreWorst x kind most more) (sym same) (subst (AreWorst e kind most) (sym lists) worst)

pub paths_for : (d e : Design) (kind : Kind) (count each : ℕ) (kept paths : List Path) → d ≡ e → paths ≡ kept → AreDesignPaths d kind count each kept
    → AreDesignPaths e kind count each paths
paths_for d e kind count each kept paths same lists are =
    subst (λ (x : Design). AreDesignPaths x kind count each paths) same (subst (AreDesignPaths d kind count each) (sym lists) are)

pub told_for : (d e : Design) (kind : Kind) (most : ℕ) (r : Report) → d ≡ e → Told e (Worst kind most) r → Told d (Worst kind most) r
told_for d e kind most r same told = subst (λ (x : Design). Told x (Worst kind most) r) (sym same) told
