-- Why a row is not evaluated: what follows of less follows of more.

use Rattle.std.proofs.Common.{◌≡◌, Bool, true, false, ◌||◌, refl}
use Rattle.node_rows.specs.declared.unfit.Unfit.{Unfit}
use Rattle.node_rows.specs.declared.unfit.Unfit.TheVariants.{Range, Memory}
use Rattle.node_rows.specs.Evaluation.{IsUnfit}

pub unfit_more : (a b : Bool) (u : Unfit) → (a ≡ true → b ≡ true) → IsUnfit a u → IsUnfit b u
unfit_more a b Range more h = more h
unfit_more a b Memory more h = tt

pub or_right : (a b : Bool) → b ≡ true → (a || b) ≡ true
or_right true b h = refl
or_right false b h = h
