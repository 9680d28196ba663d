-- Clauses of results.

use Rattle.std.proofs.Common.{◌≡◌, sym, subst, Result, Ok, Err}
use Rattle.std.specs.Prelude.{IfOk, IfErr, MatchResult}
use Rattle.std.specs.Result.{IsErrAnd}

-- what is known holds of each error
pub any_err : {T E : Type 0} (r : Result T E) (A : Type 0) → A → IfErr r (λ _. A)
any_err (Ok x) A a = tt
any_err (Err e) A a = a

pub mapped : {T E : Type 0} (r : Result T E) (P Both : T → Type 0) (Q Bad : E → Type 0) → ((x : T) → P x → Both x) → ((e : E) → Q e → Bad e) → MatchResult r P Q → MatchResult r Both Bad
mapped (Ok x) P Both Q Bad f g h = f x h
mapped (Err e) P Both Q Bad f g h = g e h

pub joined : {T E : Type 0} (r : Result T E) (P Q : T → Type 0) (R : E → Type 0) → IfOk r P → IfOk r Q → IfErr r R → MatchResult r (λ x. P x × Q x) R
joined (Ok x) P Q R a b c = (a, b)
joined (Err e) P Q R a b c = c

-- an error that `?` passes on
pub passed_wrong : {T E : Type 0} (r : Result T E) (e : E) (P : T → Type 0) (Q : E → Type 0) → IsErrAnd r (λ y. y ≡ e) → Q e → MatchResult r P Q
passed_wrong (Ok x) e P Q is h = absurd is
passed_wrong (Err y) e P Q is h = subst Q (sym is) h

-- what two clauses of a value and one of an error give
pub carried : {T E : Type 0} (r : Result T E) (P Q Both : T → Type 0) (Bad Worse : E → Type 0) → ((x : T) → P x → Q x → Both x) → ((e : E) → Bad e → Worse e)
    → IfOk r P → IfOk r Q → IfErr r Bad → MatchResult r Both Worse
carried (Ok x) P Q Both Bad Worse f g a b c = f x a b
carried (Err e) P Q Both Bad Worse f g a b c = g e c

-- an error that is handed on keeps what is known of it
pub handed_up : {T E : Type 0} (r : Result T E) (e : E) (P : E → Type 0) → IsErrAnd r (λ y. y ≡ e) → P e → IfErr r P
handed_up (Ok x) e P is h = absurd is
handed_up (Err y) e P is h = subst P (sym is) h

pub ok_more : {T E : Type 0} (r : Result T E) (P Q : T → Type 0) → ((x : T) → P x → Q x) → IfOk r P → IfOk r Q
ok_more (Ok x) P Q f h = f x h
ok_more (Err e) P Q f h = tt

pub err_more : {T E : Type 0} (r : Result T E) (P Q : E → Type 0) → ((e : E) → P e → Q e) → IfErr r P → IfErr r Q
err_more (Ok x) P Q f h = tt
err_more (Err e) P Q f h = f e h
