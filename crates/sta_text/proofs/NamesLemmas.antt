use Rattle.std.proofs.Common.{◌≡◌, ℕ, List, [], ◌∷◌, ◌++◌, Bool, true, false, Result, Ok, Err, IfOk, ◌||◌, not, cond, refl, ap, sym, subst, ◌∙◌}
use Rattle.std.specs.List.{list_any}
use Rattle.std.specs.Str.{bytes_eq}
use Rattle.std.proofs.lemmas.Slice.Eq.{bytes_eq-Decides}
use denote.Ref.{Bor}
use Rattle.sta_text.specs.Names.{stands, texts}

-- a name stands among the texts of keys where it equals a key
pub any_texts : (keys : List (Bor (List ℕ))) (name : List ℕ) → list_any (λ (k : Bor (List ℕ)). bytes_eq name k.now) keys ≡ stands (texts keys) name
any_texts [] name = refl
any_texts (k ∷ keys) name = ap (λ rest. bytes_eq name k.now || rest) (any_texts keys name)

-- the texts of a list with one more behind it
pub texts_push : (found : List (Bor (List ℕ))) (t : Bor (List ℕ)) → texts (found ++ t ∷ []) ≡ texts found ++ t.now ∷ []
texts_push [] t = refl
texts_push (f ∷ found) t = ap (λ rest. f.now ∷ rest) (texts_push found t)

or_move : (a b c : Bool) → (a || (b || c)) ≡ (b || (a || c))
or_move true true c = refl
or_move true false c = refl
or_move false b c = refl

-- a name stands in a list with one more behind it where it is that one or stands before
pub stands_push : (names : List (List ℕ)) (name q : List ℕ) → stands (names ++ name ∷ []) q ≡ (bytes_eq q name || stands names q)
stands_push [] name q = refl
stands_push (n ∷ names) name q =
    ap (λ rest. bytes_eq q n || rest) (stands_push names name q)
    ∙ or_move (bytes_eq q n) (bytes_eq q name) (stands names q)

-- a name that stands already changes nothing where it is added
stands_again : (names : List (List ℕ)) (name q : List ℕ) → stands names name ≡ true → stands names q ≡ (bytes_eq q name || stands names q)
stands_again names name q h = by_cases (bytes_eq q name) refl
  where
    by_cases : (b : Bool) → bytes_eq q name ≡ b → stands names q ≡ (b || stands names q)
    by_cases true e = let same : q ≡ name = (bytes_eq-Decides q name).0 e in subst (λ x. stands names x ≡ true) (sym same) h
    by_cases false e = refl

back : (v : Bool) → false ≡ not v → v ≡ true
back true h = refl
back false h = cc

-- which names stand once a name was added, where it was new
stands_added : (old new : List (List ℕ)) (name q : List ℕ) (b : Bool) → b ≡ not (stands old name) → new ≡ cond b (old ++ name ∷ []) old → stands new q ≡ (bytes_eq q name || stands old q)
stands_added old new name q b e list = subst (λ xs. stands xs q ≡ (bytes_eq q name || stands old q)) (sym list) (by_cases b e)
  where
    by_cases : (v : Bool) → v ≡ not (stands old name) → stands (cond v (old ++ name ∷ []) old) q ≡ (bytes_eq q name || stands old q)
    by_cases true h = stands_push old name q
    by_cases false h = stands_again old name q (back (stands old name) h)

pub stands_ok : {E : Type 0} → (r : Result Bool E) (old new : List (List ℕ)) (name : List ℕ) → IfOk r (λ b. b ≡ not (stands old name)) → IfOk r (λ b. new ≡ cond b (old ++ name ∷ []) old) → IfOk r (λ b. (q : List ℕ) → stands new q ≡ (bytes_eq q name || stands old q))
stands_ok (Ok b) old new name found list = λ q. stands_added old new name q b found list
stands_ok (Err e) old new name found list = tt
