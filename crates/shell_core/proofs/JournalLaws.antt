-- What a reader tells of a saved journal.
use Rattle.std.proofs.Common.{◌≡◌, ℕ, List, [], ◌∷◌, Some, None, refl, ap, ◌∙◌}
use Rattle.timing_defs.specs.declared.codes.ReadFault.{ReadFault}
use Rattle.timing_defs.specs.declared.codes.ReadFault.TheVariants.{At, Memory}
use Rattle.timing_defs.specs.declared.constraints.Derates.{Derates}
use Rattle.sta_text.specs.declared.faults.Wrong.{Wrong}
use Rattle.sta_text.specs.Faults.{least_from, Fails}
use Rattle.eco_journal.specs.Journal.{saved_of}
use Rattle.eco_journal.specs.Journal.{Fails as FailsBy}
use Rattle.shell_core.specs.Documents.{fault_told, journal_faults}

-- one fault is the least
least_one : (wrong : Wrong) → least_from None (wrong ∷ []) ≡ Some wrong
unfolding least_from
least_one wrong = refl

-- the fault that is told is the text's
pub journal_refused : (e : ReadFault) (text : List ℕ) (derates : Derates) → FailsBy e (saved_of text derates) → Fails e (journal_faults derates text)
journal_refused (At code place) text derates read =
    ap (λ told. least_from None (fault_told told)) read ∙ least_one (record { code = code; at = place })
journal_refused Memory text derates read = tt
