-- Climbing from a place to its parent keeps what two paths share.
use Rattle.std.proofs.Common.{◌≡◌, ℕ, zero, suc, ◌+◌, ◌<◌, ◌-ℤ◌, pos, true, false, ◌==◌, if◌then◌else◌, List, [], ◌∷◌, ◌++◌, reverse, Option, None, Some, refl, ap, sym, subst, ◌∙◌, arith}
use Rattle.std.specs.List.{slice_get}
use Rattle.std.specs.Option.{option_map_or}
use Rattle.std.proofs.lemmas.Bool.{ne_eqb, eq-eqb}
use Rattle.std.proofs.lemmas.List.{append_assoc, reverse-append}
use Rattle.std.proofs.lemmas.Option.{none-some}
use Rattle.sta_units.specs.Numbers.{Within}
use Rattle.pessimism_credit.specs.declared.rows.TreeRow.{TreeRow}
use Rattle.pessimism_credit.specs.Credit.{parent_of, IsBefore, IsTreeFrom, IsTree, path_end, root_path, last_common, pessimism_at}

-- what the row at a place says
pub parent_there : (rows : List TreeRow) (n : ℕ) (row : TreeRow) → slice_get rows n ≡ Some row → parent_of rows n ≡ row.parent
parent_there [] n row e = absurd (none-some row e)
parent_there (first ∷ rows) zero row e = ap (λ o. option_map_or (λ (r : TreeRow). r.parent) o None) e
parent_there (first ∷ rows) (suc n) row e = parent_there rows n row e

pub parent_past : (rows : List TreeRow) (n : ℕ) → slice_get rows n ≡ None → parent_of rows n ≡ None
parent_past [] n e = refl
parent_past (first ∷ rows) zero e = absurd (none-some first (sym e))
parent_past (first ∷ rows) (suc n) e = parent_past rows n e

pub pessimism_there : (rows : List TreeRow) (n : ℕ) (row : TreeRow) → slice_get rows n ≡ Some row → pessimism_at rows n ≡ row.late.0 -ℤ row.early.0
pessimism_there [] n row e = absurd (none-some row e)
pessimism_there (first ∷ rows) zero row e = ap (λ o. option_map_or (λ (r : TreeRow). r.late.0 -ℤ r.early.0) o (pos 0)) e
pessimism_there (first ∷ rows) (suc n) row e = pessimism_there rows n row e

pub pessimism_past : (rows : List TreeRow) (n : ℕ) → slice_get rows n ≡ None → pessimism_at rows n ≡ pos 0
pessimism_past [] n e = refl
pessimism_past (first ∷ rows) zero e = absurd (none-some first (sym e))
pessimism_past (first ∷ rows) (suc n) e = pessimism_past rows n e

-- both arrivals of a row, where there is one, are within the limit
abbrev AreWithin : Option TreeRow → Type 0
AreWithin None = Unit {0}
AreWithin (Some row) = Within row.early.0 × Within row.late.0

arrivals_from : (rows : List TreeRow) (k n : ℕ) (row : TreeRow) → IsTreeFrom k rows → slice_get rows n ≡ Some row → AreWithin (Some row)
arrivals_from [] k n row t e = absurd (none-some row e)
arrivals_from (first ∷ rows) k zero row t e = subst AreWithin e (t.1, t.2)
arrivals_from (first ∷ rows) k (suc n) row t e = arrivals_from rows (suc k) n row t.3 e

pub early_there : (rows : List TreeRow) (n : ℕ) (row : TreeRow) → IsTree rows → slice_get rows n ≡ Some row → Within row.early.0
early_there rows n row t e = (arrivals_from rows 0 n row t e).0

pub late_there : (rows : List TreeRow) (n : ℕ) (row : TreeRow) → IsTree rows → slice_get rows n ≡ Some row → Within row.late.0
late_there rows n row t e = (arrivals_from rows 0 n row t e).1

pub ruleset row_reads = (parent_there, parent_past, pessimism_there, pessimism_past, early_there, late_there)

-- a parent stands before its child
before_more : (o : Option ℕ) (n p : ℕ) → IsBefore o n → o ≡ Some p → p < n
before_more o n p b e = subst (λ (q : Option ℕ). IsBefore q n) e b

lower_from : (rows : List TreeRow) (k n p : ℕ) → IsTreeFrom k rows → parent_of rows n ≡ Some p → p < k + n
lower_from [] k n p t e = absurd (none-some p e)
lower_from (row ∷ rows) k zero p t e = let low = before_more row.parent k p t.0 e in omega arith
lower_from (row ∷ rows) k (suc n) p t e = let low = lower_from rows (suc k) n p t.3 e in omega arith

pub lower : (rows : List TreeRow) (n p : ℕ) → IsTree rows → parent_of rows n ≡ Some p → p < n
lower rows n p t e = let low = lower_from rows 0 n p t e in omega arith

-- more room than there are places changes nothing
enough-by : (rows : List TreeRow) (j k n : ℕ) → IsTree rows → ((p : ℕ) → p < n → path_end j rows p ≡ path_end k rows p)
    → (o : Option ℕ) → parent_of rows n ≡ o
    → option_map_or (path_end j rows) o [] ++ n ∷ [] ≡ option_map_or (path_end k rows) o [] ++ n ∷ []
enough-by rows j k n t h None e = refl
enough-by rows j k n t h (Some p) e = ap (λ ps. ps ++ n ∷ []) (h p (lower rows n p t e))

enough : (rows : List TreeRow) (j k n : ℕ) → IsTree rows → n < j → n < k → path_end j rows n ≡ path_end k rows n
enough rows zero k n t a b = absurd (omega arith)
enough rows (suc j) zero n t a b = absurd (omega arith)
enough rows (suc j) (suc k) n t a b =
    enough-by rows j k n t (λ p l. enough rows j k p t (omega arith) (omega arith)) (parent_of rows n) refl

-- the path above a place, where there is one
abbrev pub above : List TreeRow → Option ℕ → List ℕ
above rows o = option_map_or (root_path rows) o []

step-by : (rows : List TreeRow) (n : ℕ) → IsTree rows → (o : Option ℕ) → parent_of rows n ≡ o
    → option_map_or (path_end n rows) o [] ++ n ∷ [] ≡ above rows o ++ n ∷ []
step-by rows n t None e = refl
step-by rows n t (Some p) e =
    let low = lower rows n p t e in
    ap (λ ps. ps ++ n ∷ []) (enough rows n (suc p) p t low (omega arith))

pub root_path-step : (rows : List TreeRow) (n : ℕ) (o : Option ℕ) → IsTree rows → parent_of rows n ≡ o → root_path rows n ≡ above rows o ++ n ∷ []
root_path-step rows n o t e =
    subst (λ (q : Option ℕ). root_path rows n ≡ above rows q ++ n ∷ []) e (step-by rows n t (parent_of rows n) refl)

-- each place of a list stands before `n`
abbrev Under : ℕ → List ℕ → Type 0
Under n [] = Unit {0}
Under n (m ∷ ms) = (m < n) × Under n ms

under-snoc : (n m : ℕ) (ms : List ℕ) → Under n ms → m < n → Under n (ms ++ m ∷ [])
under-snoc n m [] u l = (l, tt)
under-snoc n m (x ∷ ms) u l = (u.0, under-snoc n m ms u.1 l)

under-by : (rows : List TreeRow) (k n m : ℕ) → IsTree rows → ((p : ℕ) → p < n → Under m (path_end k rows p))
    → (o : Option ℕ) → parent_of rows n ≡ o → Under m (option_map_or (path_end k rows) o [])
under-by rows k n m t h None e = tt
under-by rows k n m t h (Some p) e = h p (lower rows n p t e)

under : (rows : List TreeRow) (k n m : ℕ) → IsTree rows → n < m → Under m (path_end k rows n)
under rows zero n m t l = tt
under rows (suc k) n m t l =
    under-snoc m n (option_map_or (path_end k rows) (parent_of rows n) [])
    (under-by rows k n m t (λ p low. under rows k p m t (omega arith)) (parent_of rows n) refl) l

-- a place above all of the other path is not shared
snoc_left : (last : Option ℕ) (xs ys : List ℕ) (n : ℕ) → Under n ys → last_common last (xs ++ n ∷ []) ys ≡ last_common last xs ys
snoc_left last [] [] n u = refl
snoc_left last [] (y ∷ ys) n u = let low = u.0 in let no : (n == y) ≡ false = ne_eqb n y (omega arith) in rw no refl
snoc_left last (x ∷ xs) [] n u = refl
snoc_left last (x ∷ xs) (y ∷ ys) n u = ap (λ o. if x == y then o else last) (snoc_left (Some x) xs ys n u.1)

snoc_right : (last : Option ℕ) (xs ys : List ℕ) (n : ℕ) → Under n xs → last_common last xs (ys ++ n ∷ []) ≡ last_common last xs ys
snoc_right last [] ys n u = refl
snoc_right last (x ∷ xs) [] n u = let low = u.0 in let no : (x == n) ≡ false = ne_eqb x n (omega arith) in rw no refl
snoc_right last (x ∷ xs) (y ∷ ys) n u = ap (λ o. if x == y then o else last) (snoc_right (Some x) xs ys n u.1)

none_right : (last : Option ℕ) (xs : List ℕ) → last_common last xs [] ≡ last
none_right last [] = refl
none_right last (x ∷ xs) = refl

same : (last : Option ℕ) (xs : List ℕ) (n : ℕ) → last_common last (xs ++ n ∷ []) (xs ++ n ∷ []) ≡ Some n
same last [] n = let yes : (n == n) ≡ true = eq-eqb n n refl in rw yes refl
same last (x ∷ xs) n = let yes : (x == x) ≡ true = eq-eqb x x refl in rw yes (same (Some x) xs n)

abbrev pub shared : List TreeRow → ℕ → ℕ → Option ℕ
shared rows a b = last_common None (root_path rows a) (root_path rows b)

-- what is above the farther place, against the whole path of the other
pub climb_left : (rows : List TreeRow) (a b p : ℕ) → IsTree rows → b < a → parent_of rows a ≡ Some p → shared rows p b ≡ shared rows a b
climb_left rows a b p t l e =
    sym (ap (λ ps. last_common None ps (root_path rows b)) (root_path-step rows a (Some p) t e)
    ∙ snoc_left None (root_path rows p) (root_path rows b) a (under rows (suc b) b a t l))

pub stop_left : (rows : List TreeRow) (a b : ℕ) → IsTree rows → b < a → parent_of rows a ≡ None → None ≡ shared rows a b
stop_left rows a b t l e =
    sym (ap (λ ps. last_common None ps (root_path rows b)) (root_path-step rows a None t e)
    ∙ snoc_left None [] (root_path rows b) a (under rows (suc b) b a t l))

pub climb_right : (rows : List TreeRow) (a b p : ℕ) → IsTree rows → a < b → parent_of rows b ≡ Some p → shared rows a p ≡ shared rows a b
climb_right rows a b p t l e =
    sym (ap (λ ps. last_common None (root_path rows a) ps) (root_path-step rows b (Some p) t e)
    ∙ snoc_right None (root_path rows a) (root_path rows p) b (under rows (suc a) a b t l))

pub stop_right : (rows : List TreeRow) (a b : ℕ) → IsTree rows → a < b → parent_of rows b ≡ None → None ≡ shared rows a b
stop_right rows a b t l e =
    sym (ap (λ ps. last_common None (root_path rows a) ps) (root_path-step rows b None t e)
    ∙ snoc_right None (root_path rows a) [] b (under rows (suc a) a b t l)
    ∙ none_right None (root_path rows a))

pub meets : (rows : List TreeRow) (n : ℕ) → IsTree rows → Some n ≡ shared rows n n
meets rows n t =
    sym (ap (λ ps. last_common None ps ps) (root_path-step rows n (parent_of rows n) t refl)
    ∙ same None (above rows (parent_of rows n)) n)

-- one place more of a path that is taken from its end
pub path-more : (rows : List TreeRow) (n : ℕ) (o : Option ℕ) (below : List ℕ) → IsTree rows → parent_of rows n ≡ o
    → above rows o ++ reverse (below ++ n ∷ []) ≡ root_path rows n ++ reverse below
path-more rows n o below t e =
    ap (λ ps. above rows o ++ ps) (reverse-append below (n ∷ []))
    ∙ sym (append_assoc (above rows o) (n ∷ []) (reverse below))
    ∙ sym (ap (λ ps. ps ++ reverse below) (root_path-step rows n o t e))

-- the number of places that are still above, at most
abbrev pub room : Option ℕ → ℕ
room None = 0
room (Some n) = suc n

pub ruleset climbs = (lower, stop_left, stop_right, meets)
