-- What a result says, passed on.

use Rattle.std.proofs.Common.{◌≡◌, ◌⊎◌, Option, Some, Result, Ok, Err, sym, subst, IfOk, IfErr, OnOk}
use Rattle.std.specs.Result.{IsErrAnd}
use Rattle.timing_defs.specs.declared.faults.Fault.{Fault}
use Rattle.timing_defs.specs.declared.faults.Fault.TheVariants.{Memory}
use Rattle.netlist_store.specs.Applying.{IsChecked}

pub if_ok : {T E : Type 0} (r : Result T E) (P Q : T → Type 0) → ((x : T) → P x → Q x) → IfOk r P → IfOk r Q
if_ok (Ok x) P Q f p = f x p
if_ok (Err e) P Q f p = tt

pub on_ok : {T E : Type 0} (r : Result T E) (P Q : Type 0) → (P → Q) → OnOk r P → OnOk r Q
on_ok (Ok x) P Q f p = f p
on_ok (Err e) P Q f p = tt

-- an error that is handed on
pub handed_on : {T : Type 0} (r : Result T Fault) (e : Fault) (o : Option Fault) → IsErrAnd r (λ y. y ≡ e) → (e ≡ Memory) ⊎ (o ≡ Some e) → IsChecked r o
handed_on (Ok x) e o is p = absurd is
handed_on (Err y) e o is p = subst (λ z. (z ≡ Memory) ⊎ (o ≡ Some z)) (sym is) p

pub passed_up : {T E : Type 0} (r : Result T E) (e : E) (P : E → Type 0) → IsErrAnd r (λ y. y ≡ e) → P e → IfErr r P
passed_up (Ok x) e P is p = absurd is
passed_up (Err y) e P is p = subst P (sym is) p
