-- Sessions that ended give the line of a generated run.
use Rattle.std.proofs.Common.{◌≡◌, ℕ, zero, suc, ◌+◌, ◌/◌, ◌≤◌, List, length, Result, Ok, Err, refl, ap, ◌∙◌, subst, arith}
use Rattle.std.specs.Prelude.{IfOk}
use Rattle.timing_defs.specs.declared.design.Design.{Design}
use Rattle.timing_defs.specs.declared.scripts.Script.{Script}
use Rattle.timing_defs.specs.declared.scripts.Transcript.{Transcript}
use Rattle.timing_rules.specs.Sessions.{DesignAfter, IsWhole}
use Rattle.eco_analysis.specs.Soundness.{IsFaultless}
use Rattle.session_engine.specs.Versions.{Versioned, IsVersion}
use Rattle.shell_core.specs.declared.documents.Documents.{Documents}
use Rattle.design_maker.specs.Draws.{drawn_on}
use Rattle.design_maker.specs.Insts.{behind_lanes}
use Rattle.design_maker.specs.Sessions.{scripts_from, scripts_of}
use Rattle.generated_runs.specs.Generated.{generated_documents}
use Rattle.order_laws.proofs.GeneratedOrder.{generated_order}
use Rattle.shell_session.specs.Generating.{IsLineLeft, IsWholeLine, IsDocumentsLine, IsSummary}

-- the line of sessions that left a version is that of all entries
pub whole_line : (origin : Design) (first : ℕ) (scripts : List Script) (last : Versioned) (ts : List Transcript) (gates edits : ℕ) (text : List ℕ)
    → first ≡ 0 → IsWhole origin first scripts last.journal ts → IsVersion last → last.first ≡ first → last.origin ≡ origin
    → IsLineLeft last gates edits text → IsWholeLine origin scripts gates edits text
whole_line origin first scripts last ts gates edits text none whole is begun from left =
    let many : last.number ≡ 0 + length last.journal = is.number ∙ ap (λ n. n + length last.journal) (begun ∙ none) in
    let entries : length last.journal ≡ edits = omega (arith, many, left.0) in (
      last.journal,
      ts,
      last.stored.design,
      subst (λ n. IsWhole origin n scripts last.journal ts) none whole,
      entries,
      subst (λ d. DesignAfter d last.journal (length last.journal) last.stored.design) from is.accepted,
      left.1,
    )

pub faultless : (origin : Design) (last : Versioned) → IsVersion last → last.origin ≡ origin → IsFaultless origin
faultless origin last is from = subst IsFaultless from is.origin

-- the line of the generated documents is that of the edits in their order
pub summary : (docs : Documents) (start gates edits : ℕ) (text : List ℕ) → docs ≡ generated_documents start gates edits
    → IsDocumentsLine docs gates edits text → IsSummary start gates edits text
summary docs start gates edits text is line =
    let made : IsDocumentsLine (generated_documents start gates edits) gates edits text = subst (λ d. IsDocumentsLine d gates edits text) is line in
    let whole : IsWholeLine made.0 (scripts_of start gates edits) gates edits text = made.3 in (
      made.0,
      whole.2,
      made.1,
      made.2,
      generated_order 0 made.0 start gates edits whole.0 whole.1 whole.2 whole.3 whole.4 whole.5,
      whole.6,
      whole,
    )

lanes_many : (lane more gates edits x : ℕ) → length (scripts_from lane more gates edits x) ≡ more
unfolding scripts_from
lanes_many lane zero gates edits x = refl
lanes_many lane (suc more) gates edits x = ap suc (lanes_many (lane + 1) more gates edits (drawn_on edits x))

-- a generated run has four scripts
pub four_scripts : (docs : Documents) (start gates edits : ℕ) → docs ≡ generated_documents start gates edits
    → (1 ≤ length docs.scripts) × (length docs.scripts ≤ 16)
four_scripts docs start gates edits is =
    let four : length docs.scripts ≡ 4 = ap (λ d. length d.scripts) is ∙ lanes_many 0 4 (gates / 4) (edits / 4) (behind_lanes 4 (gates / 4) start) in
    (omega (arith, four), omega (arith, four))

-- two facts of an answer that is there
pub both : {X E : Type 0} (r : Result X E) (P Q R : X → Type 0) → ((x : X) → P x → Q x → R x) → IfOk r P → IfOk r Q → IfOk r R
both (Ok x) P Q R more p q = more x p q
both (Err e) P Q R more p q = tt
