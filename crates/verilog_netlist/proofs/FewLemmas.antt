-- Names of which the first are looked through.
use Rattle.std.proofs.Common.{◌≡◌, ℕ, ◌<◌, List, [], ◌∷◌, ◌++◌, Bool, false, ◌||◌, cond, refl, ap, sym, ◌∙◌}
use Rattle.std.specs.List.{list_any}
use Rattle.std.specs.Str.{bytes_eq}
use Rattle.std.proofs.lemmas.List.Folds.{list_any-append}
use denote.Ref.{Bor}
use Rattle.sta_text.specs.Names.{stands, texts}
use Rattle.sta_text.proofs.NamesLemmas.{texts_push}

-- a name stands in two lists where it stands in one of them
pub first_or_behind : (first : List (Bor (List ℕ))) (behind : List (List ℕ)) (q : List ℕ)
    → stands (texts first ++ behind) q ≡ (stands (texts first) q || stands behind q)
first_or_behind first behind q = list_any-append (bytes_eq q) (texts first) behind

last_false : (a b : Bool) → (a || b) ≡ false → b ≡ false
last_false Bool.true b h = cc
last_false Bool.false b h = h

-- a name that stands in neither list is none of the second
pub is_behind : (first : List (Bor (List ℕ))) (behind : List (List ℕ)) (q : List ℕ)
    → stands (texts first ++ behind) q ≡ false → stands behind q ≡ false
is_behind first behind q h =
    last_false (stands (texts first) q) (stands behind q) (sym (first_or_behind first behind q) ∙ h)

append_none : (xs : List (List ℕ)) → xs ++ [] ≡ xs
append_none [] = refl
append_none (x ∷ xs) = ap (λ more. x ∷ more) (append_none xs)

-- one more among the first ones, where none stands behind them
pub one_first : (first : List (Bor (List ℕ))) (behind : List (List ℕ)) (t : Bor (List ℕ))
    → behind ≡ [] → texts (first ++ t ∷ []) ++ behind ≡ (texts first ++ behind) ++ t.now ∷ []
one_first first [] t h =
    append_none (texts (first ++ t ∷ [])) ∙ (texts_push first t ∙ ap (λ xs. xs ++ t.now ∷ []) (sym (append_none (texts first))))
one_first first (b ∷ bs) t h = cc
