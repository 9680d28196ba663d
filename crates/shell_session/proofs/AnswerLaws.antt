-- Sessions that ended answer their run.
use Rattle.std.proofs.Common.{◌≡◌, ℕ, ◌+◌, ◌≤◌, List, length, inr, ap, ◌∙◌, subst}
use Rattle.std.specs.List.{All}
use Rattle.timing_defs.specs.declared.design.Design.{Design}
use Rattle.timing_defs.specs.declared.scripts.Script.{Script}
use Rattle.timing_defs.specs.declared.scripts.Transcript.{Transcript}
use Rattle.timing_rules.specs.Sessions.{DesignAfter, IsWhole, IsOutput}
use Rattle.timing_rules.specs.Reports.{AreTotals}
use Rattle.eco_analysis.specs.Soundness.{IsFaultless}
use Rattle.session_engine.specs.Versions.{Versioned, IsVersion}
use Rattle.shell_core.specs.Scripts.{IsScript}
use Rattle.shell_session.specs.Serving.{IsOutputOf, AreEnded, IsAnswer, DesignEnds}
use Rattle.shell_session.proofs.BackLaws.{read_back}

-- the output of sessions that left a version is that of its journal
output : (origin : Design) (last : Versioned) (ts : List Transcript) (text : List ℕ) → IsVersion last → last.first ≡ 0 → last.origin ≡ origin
    → IsOutputOf last ts text → IsOutput origin 0 last.journal ts text
output origin last ts text is zero from written = (
  last.stored.design,
  written.0,
  subst (λ d. DesignAfter d last.journal (length last.journal) last.stored.design) from is.accepted,
  subst (λ n. AreTotals last.stored.design n written.0) (is.number ∙ ap (λ n. n + length last.journal) zero) written.1,
  written.2,
)

-- how a run over a design ends whose sessions ended
pub answers : (origin : Design) (first : ℕ) (scripts : List Script) (last : Versioned) (ts : List Transcript) (status : ℕ) (text : List ℕ)
    → All IsScript scripts → length scripts ≤ 16 → first ≡ 0 → IsWhole origin first scripts last.journal ts → IsVersion last
    → last.first ≡ first → last.origin ≡ origin → AreEnded last ts status text → DesignEnds origin scripts status text
answers origin first scripts last ts status text kept few zero whole is begun from ended =
    let whole0 : IsWhole origin 0 scripts last.journal ts = subst (λ n. IsWhole origin n scripts last.journal ts) zero whole in
    let answer : IsAnswer origin scripts status text = (
      last.journal,
      ts,
      whole0,
      output origin last ts text is (begun ∙ zero) from ended.written,
      ended.counted,
      read_back origin last.journal 0 scripts ts whole0.0 kept few whole0.1 is.many,
    ) in
    inr (subst IsFaultless from is.origin, answer)
