use Rattle.std.proofs.Common.{◌≡◌, ℕ, suc, ◌+◌, List, [], ◌∷◌, Bool, true, false, Option, Some, None, cond, refl, ap, sym, arith, ◌∙◌, ◌≤◌, length, drop}
use Rattle.std.proofs.lemmas.List.{drop_all}
use denote.Ref.{Bor}
use Rattle.std.specs.Str.{bytes_eq}
use Rattle.std.proofs.lemmas.Slice.Eq.{bytes_eq-Decides}
use Rattle.timing_defs.specs.declared.liberty_tree.Tree.{Tree}
use Rattle.timing_defs.specs.declared.liberty_tree.Item.{Item}
use Rattle.sta_text.specs.Names.{said}
use Rattle.liberty_cells.specs.Tables.{called, place_of, template_of}
use Rattle.liberty_cells.specs.Statements.{told}
use Rattle.liberty_cells.specs.Places.{place_or, items_at, Finds}

-- equal names have one number
said_same : (pairs : List (List ℕ × ℕ)) (q name : List ℕ) → bytes_eq q name ≡ true → said pairs q ≡ said pairs name
said_same pairs q name h = ap (said pairs) ((bytes_eq-Decides q name).0 h)

some_or : (found a b : Option ℕ) (k : ℕ) → found ≡ Some k → place_or found a ≡ place_or found b
some_or found a b k h = rw h refl

-- a name that has a place keeps it
pub kept : (pairs : List (List ℕ × ℕ)) (q name : List ℕ) (at k : ℕ) (other : Option ℕ) → said pairs name ≡ Some k → place_or (said pairs q) other ≡ place_or (said pairs q) (cond (bytes_eq q name) (Some at) other)
kept pairs q name at k other h = by_cases (bytes_eq q name) refl
  where
    by_cases : (b : Bool) → bytes_eq q name ≡ b → place_or (said pairs q) other ≡ place_or (said pairs q) (cond b (Some at) other)
    by_cases true e = some_or (said pairs q) other (Some at) k (said_same pairs q name e ∙ h)
    by_cases false e = refl

-- a name that has none gets this one
pub added : (old new : List (List ℕ × ℕ)) (q name : List ℕ) (at : ℕ) (other : Option ℕ) → said old name ≡ None → said new q ≡ cond (bytes_eq q name) (Some at) (said old q) → place_or (said new q) other ≡ place_or (said old q) (cond (bytes_eq q name) (Some at) other)
added old new q name at other h e = rw e (by_cases (bytes_eq q name) refl)
  where
    by_cases : (b : Bool) → bytes_eq q name ≡ b → place_or (cond b (Some at) (said old q)) other ≡ place_or (said old q) (cond b (Some at) other)
    by_cases true f = let n : said old q ≡ None = said_same old q name f ∙ h in rw n refl
    by_cases false f = refl

abbrev At : ℕ → List (Bor Tree) → Option (List Item) → ℕ → Type 0
At at ts found k = (j : ℕ) × (k ≡ at + j) × (items_at ts j ≡ found)

-- where a template stands its statements are found
stands_at : (at : ℕ) (name : List ℕ) (ts : List (Bor Tree)) (k : ℕ) → place_of at name (told ts) ≡ Some k → At at ts (template_of name (told ts)) k
unfolding place_of template_of
stands_at at name [] k h = cc
stands_at at name (t ∷ ts) k h =
    elim (called name t.now.args) as
    (λ b. cond b (Some at) (place_of (at + 1) name (told ts)) ≡ Some k → At at (t ∷ ts) (cond b (Some t.now.items) (template_of name (told ts))) k) [
      | true ↦ λ e. (0, grind arith, refl)
      | false ↦ λ e. let p = stands_at (at + 1) name ts k e in (suc p.0, omega (arith, p.1), p.2)
    ]
    h

stands_nowhere : (at : ℕ) (name : List ℕ) (ts : List Tree) → place_of at name ts ≡ None → template_of name ts ≡ None
unfolding place_of template_of
stands_nowhere at name [] h = refl
stands_nowhere at name (t ∷ ts) h =
    elim (called name t.args) as
    (λ b. cond b (Some at) (place_of (at + 1) name ts) ≡ None → cond b (Some t.items) (template_of name ts) ≡ None)
    [ true ↦ λ e. cc | false ↦ λ e. stands_nowhere (at + 1) name ts e ] h

-- a name without a place has no template
pub found_none : (places : List (List ℕ × ℕ)) (ts : List Tree) (name : List ℕ) → Finds places ts → said places name ≡ None → None ≡ template_of name ts
found_none places ts name finds h = sym (stands_nowhere 0 name ts (sym (finds name) ∙ h))

-- at the place of a name its template stands
pub found_some : (places : List (List ℕ × ℕ)) (ts : List (Bor Tree)) (name : List ℕ) (k : ℕ) → Finds places (told ts) → said places name ≡ Some k → items_at ts k ≡ template_of name (told ts)
found_some places ts name k finds h =
    let p = stands_at 0 name ts k (sym (finds name) ∙ h) in
    let same : k ≡ p.0 = omega (arith, p.1) in
    rw same p.2

-- behind the last template none is left
pub none_left : (found : Option ℕ) (q : List ℕ) (at : ℕ) (trees : List (Bor Tree)) → length trees ≤ at → place_or found (place_of at q (told (drop at trees))) ≡ found
unfolding place_of
none_left None q at trees h = let e : drop at trees ≡ [] = drop_all at trees h in rw e refl
none_left (Some k) q at trees h = refl
