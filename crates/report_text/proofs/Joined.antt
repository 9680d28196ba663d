-- Pieces that are added one behind the other.
use Rattle.std.proofs.Common.{◌≡◌, ℕ, List, ◌++◌, ap, ◌∙◌}
use Rattle.std.specs.Prelude.{OnOk, Result, Ok, Err}
use Rattle.std.proofs.lemmas.List.{append_assoc}

pub on_ok : {X E P Q : Type 0} (r : Result X E) → (P → Q) → OnOk r P → OnOk r Q
on_ok (Ok x) f h = f h
on_ok (Err e) f h = tt

pub two : (o a b xs ys : List ℕ) → xs ≡ o ++ a → ys ≡ xs ++ b → ys ≡ o ++ (a ++ b)
two o a b xs ys h k = k ∙ ap (λ zs. zs ++ b) h ∙ append_assoc o a b

pub three : (o a b c xs ys zs : List ℕ) → xs ≡ o ++ a → ys ≡ xs ++ b → zs ≡ ys ++ c → zs ≡ o ++ (a ++ b ++ c)
three o a b c xs ys zs h k l = two o (a ++ b) c ys zs (two o a b xs ys h k) l

pub four : (o a b c d ws xs ys zs : List ℕ) → ws ≡ o ++ a → xs ≡ ws ++ b → ys ≡ xs ++ c → zs ≡ ys ++ d → zs ≡ o ++ (a ++ b ++ c ++ d)
four o a b c d ws xs ys zs h k l m = two o (a ++ b ++ c) d ys zs (three o a b c ws xs ys h k l) m

pub five : (o a b c d e vs ws xs ys zs : List ℕ) → vs ≡ o ++ a → ws ≡ vs ++ b → xs ≡ ws ++ c → ys ≡ xs ++ d → zs ≡ ys ++ e
    → zs ≡ o ++ (a ++ b ++ c ++ d ++ e)
five o a b c d e vs ws xs ys zs h k l m n = two o (a ++ b ++ c ++ d) e ys zs (four o a b c d vs ws xs ys h k l m) n
