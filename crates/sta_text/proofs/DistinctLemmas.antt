-- Names of which none stands twice.
use Rattle.std.proofs.Common.{◌≡◌, ℕ, List, [], ◌∷◌, ◌++◌, Bool, true, false, ◌||◌, not, refl, ap, sym, subst, ◌∙◌}
use Rattle.std.specs.Str.{bytes_eq}
use Rattle.std.proofs.lemmas.Bool.{and_from, false≢true}
use Rattle.std.proofs.lemmas.Slice.Eq.{bytes_eq-Decides}
use Rattle.timing_defs.specs.Netlist.{is_listed, are_distinct}
use Rattle.sta_text.specs.Names.{stands}
use Rattle.sta_text.proofs.NamesLemmas.{stands_push}

-- none of the names stands before, or twice
abbrev pub Lone : List (List ℕ) → List (List ℕ) → Type 0
Lone before [] = Unit {0}
Lone before (name ∷ names) = (stands before name ≡ false) × Lone (before ++ name ∷ []) names

or_true : (b : Bool) → (b || true) ≡ true
or_true true = refl
or_true false = refl

same_name : (name : List ℕ) → bytes_eq name name ≡ true
same_name name = (bytes_eq-Decides name name).1 refl

-- a name that stood before still stands, and so does the next
pub stands_still : (before : List (List ℕ)) (name q : List ℕ) → stands before q ≡ true → stands (before ++ name ∷ []) q ≡ true
stands_still before name q h = stands_push before name q ∙ ap (λ b. bytes_eq q name || b) h ∙ or_true (bytes_eq q name)

pub stands_now : (before : List (List ℕ)) (name : List ℕ) → stands (before ++ name ∷ []) name ≡ true
stands_now before name = stands_push before name name ∙ ap (λ b. b || stands before name) (same_name name)

-- what stands before is none of the names
pub lone_apart : (before names : List (List ℕ)) → Lone before names → (q : List ℕ) → stands before q ≡ true → is_listed names q ≡ false
lone_apart before [] h q there = refl
lone_apart before (name ∷ names) h q there = by_cases (bytes_eq q name) refl (lone_apart (before ++ name ∷ []) names h.1 q (stands_still before name q there))
  where
    by_cases : (b : Bool) → bytes_eq q name ≡ b → is_listed names q ≡ false → (b || is_listed names q) ≡ false
    by_cases true e rest =
        let same : q ≡ name = (bytes_eq-Decides q name).0 e in
        absurd (false≢true (sym h.0 ∙ subst (λ n. stands before n ≡ true) same there))
    by_cases false e rest = rest

pub lone_distinct : (before names : List (List ℕ)) → Lone before names → are_distinct names ≡ true
lone_distinct before [] h = refl
lone_distinct before (name ∷ names) h =
    and_from (not (is_listed names name)) (are_distinct names)
    (ap not (lone_apart (before ++ name ∷ []) names h.1 name (stands_now before name)))
    (lone_distinct (before ++ name ∷ []) names h.1)

-- the same where less stands before
pub lone_less : (less before names : List (List ℕ)) → ((q : List ℕ) → stands less q ≡ true → stands before q ≡ true) → Lone before names → Lone less names
lone_less less before [] sub h = tt
lone_less less before (name ∷ names) sub h =
    (absent (stands less name) refl, lone_less (less ++ name ∷ []) (before ++ name ∷ []) names more h.1)
  where
    absent : (b : Bool) → stands less name ≡ b → b ≡ false
    absent true e = absurd (false≢true (sym h.0 ∙ sub name e))
    absent false e = refl

    more : (q : List ℕ) → stands (less ++ name ∷ []) q ≡ true → stands (before ++ name ∷ []) q ≡ true
    more q there = by_cases (bytes_eq q name) refl
      where
        by_cases : (b : Bool) → bytes_eq q name ≡ b → stands (before ++ name ∷ []) q ≡ true
        by_cases true e = stands_push before name q ∙ ap (λ b. b || stands before q) e
        by_cases false e =
            let old : stands less q ≡ true = ap (λ b. b || stands less q) (sym e) ∙ sym (stands_push less name q) ∙ there in
            stands_still before name q (sub q old)
