-- The resistances of a net, as sums take them.

use Rattle.std.proofs.Common.{◌≡◌, ◌≤◌, ℤ, pos, negsuc, true, not, List, [], ◌∷◌, ap}
use Rattle.std.specs.Prelude.{int_le}
use Rattle.std.specs.List.{AllByRecursion, list_all}
use Rattle.std.proofs.lemmas.Bool.{false≢true, and_parts, leb-true, le-ltb}
use Rattle.sta_units.specs.Numbers.{limit, is_within}
use Rattle.timing_defs.specs.declared.parasitics.RcRes.{RcRes}
use Rattle.timing_defs.specs.Documents.{is_amount}
use Rattle.timing_defs.specs.Wires.{res_of}
use Rattle.rc_tree.specs.Trees.{is_amount as is_measure}

measure_of : (z : ℤ) → is_amount z ≡ true → is_measure z ≡ true
measure_of (pos n) h =
    let low : n ≤ limit = leb-true n limit (and_parts (int_le (pos 0) (pos n)) (is_within (pos n)) h).1 in
    ap not (le-ltb limit n low)
measure_of (negsuc n) h = absurd (false≢true h)

pub ress_measured : (ress : List RcRes) → list_all (λ r. is_amount r.res.0) ress ≡ true → AllByRecursion (λ r. is_measure (res_of r) ≡ true) ress
ress_measured [] h = tt
ress_measured (r ∷ rs) h =
    let parts = and_parts (is_amount r.res.0) (list_all (λ s. is_amount s.res.0) rs) h in
    (measure_of r.res.0 parts.0, ress_measured rs parts.1)
