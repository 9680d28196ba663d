-- Where a text has no fault, none is told.
use Rattle.std.proofs.Common.{◌≡◌, ℕ, List, []}
use Rattle.std.specs.Prelude.{Some, None}
use Rattle.timing_defs.specs.declared.codes.Code.{Code}
use Rattle.timing_defs.specs.declared.codes.ReadFault.TheVariants.{At}
use Rattle.sta_text.specs.declared.faults.Wrong.{Wrong}
use Rattle.sta_text.specs.Faults.{least_from, Fails}

pub never_told : (code : Code) (at : ℕ) (faults : List Wrong) → faults ≡ [] → Fails (At code at) faults → ⊥
unfolding least_from
never_told code at faults none told = let e : None ≡ Some _ = rw none at told in cc
