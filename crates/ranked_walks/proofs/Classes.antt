-- Lists of classes that share no walk.

use Rattle.std.proofs.Common.{◌⊎◌, inl, inr, List, [], ◌∷◌, ◌++◌, Option, Some, None, sym, subst, ℕ}
use Rattle.std.specs.List.{AllByRecursion}
use Rattle.std.proofs.lemmas.List.{append-nil}
use Rattle.worst_walks.specs.declared.cones.Cone.{Cone}
use Rattle.worst_walks.specs.declared.cones.Walk.{Walk}
use Rattle.ranked_walks.specs.declared.branches.Branch.{Branch}
use Rattle.ranked_walks.specs.declared.branches.Tables.{Tables}
use Rattle.ranked_walks.specs.Branches.{InBranch}
use Rattle.ranked_walks.specs.Searching.{made_list, AreDisjoint, HasOne, IsLeft, IsOpen, IsSearched}

pub has_left : {X : Type 0} (P : X → Type 0) (xs ys : List X) → HasOne P xs → HasOne P (xs ++ ys)
has_left P [] ys h = absurd h
has_left P (x ∷ xs) ys h = elim h [ inl here ↦ inl here | inr later ↦ inr (has_left P xs ys later) ]

pub has_right : {X : Type 0} (P : X → Type 0) (xs ys : List X) → HasOne P ys → HasOne P (xs ++ ys)
has_right P [] ys h = h
has_right P (x ∷ xs) ys h = inr (has_right P xs ys h)

pub has_parts : {X : Type 0} (P : X → Type 0) (xs ys : List X) → HasOne P (xs ++ ys) → HasOne P xs ⊎ HasOne P ys
has_parts P [] ys h = inr h
has_parts P (x ∷ xs) ys h = elim h [
  | inl here ↦ inl (inl here)
  | inr later ↦ elim (has_parts P xs ys later) [ inl l ↦ inl (inr l) | inr r ↦ inr r ]
]

pub all_more : {X : Type 0} (P : X → Type 0) (xs ys : List X) → AllByRecursion P xs → AllByRecursion P ys → AllByRecursion P (xs ++ ys)
all_more P [] ys f g = g
all_more P (x ∷ xs) ys f g = (f.0, all_more P xs ys f.1 g)

disjoint_one : (In : Branch → Walk → Type 0) (bs : List Branch) (b : Branch) → AreDisjoint In bs → ((w : Walk) → HasOne (λ c. In c w) bs → In b w → ⊥) → AreDisjoint In (bs ++ b ∷ [])
disjoint_one In [] b h off = (λ w i none. none, tt)
disjoint_one In (c ∷ bs) b h off = (
  λ w i more. elim (has_parts (λ (d : Branch). In d w) bs (b ∷ []) more) [
    | inl old ↦ h.0 w i old
    | inr new ↦ elim new [ inl here ↦ off w (inl i) here | inr none ↦ none ]
  ],
  disjoint_one In bs b h.1 (λ w one. off w (inr one)),
)

disjoint_more : (In : Branch → Walk → Type 0) (bs : List Branch) (made : Option Branch) → AreDisjoint In bs → ((w : Walk) → HasOne (λ c. In c w) bs → HasOne (λ c. In c w) (made_list made) → ⊥)
    → AreDisjoint In (bs ++ made_list made)
disjoint_more In bs None h off = subst (AreDisjoint In) (sym (append-nil bs)) h
disjoint_more In bs (Some b) h off = disjoint_one In bs b h (λ w one i. off w one (inl i))

-- a class that waits becomes a branch
module _ (rank : ℕ → ℕ) (before : ℕ → List ℕ) (cone : Cone) (tables : Tables) (given : List Walk) (bs : List Branch) where
  pub record IsAdded (made : Option Branch) (C waits next : Walk → Type 0) : Type 0 where
    pub opens : AllByRecursion (IsOpen rank before cone tables given) (made_list made)
    pub into : (w : Walk) → C w → HasOne (λ b. InBranch cone given b w) (made_list made)
    pub back : (w : Walk) → HasOne (λ b. InBranch cone given b w) (made_list made) → C w
    pub parts : (w : Walk) → waits w → C w ⊎ next w
    pub of_class : (w : Walk) → C w → waits w
    pub of_next : (w : Walk) → next w → waits w
    pub apart : (w : Walk) → C w → next w → ⊥
    pub left : (w : Walk) → C w → IsLeft given w

  pub added : (made : Option Branch) (C waits next : Walk → Type 0) → IsAdded made C waits next → IsSearched rank before cone tables given bs waits
      → IsSearched rank before cone tables given (bs ++ made_list made) next
  added made C waits next a s = record {
    first = s.first;
    each = all_more (IsOpen rank before cone tables given) bs (made_list made) s.each a.opens;
    apart = disjoint_more (InBranch cone given) bs made s.apart (λ w one new. s.alone w one (a.of_class w (a.back w new)));
    left = λ w one. elim (has_parts (λ (b : Branch). InBranch cone given b w) bs (made_list made) one) [
      | inl old ↦ s.left w old
      | inr new ↦ a.left w (a.back w new)
    ];
    alone = λ w one waiting. elim (has_parts (λ (b : Branch). InBranch cone given b w) bs (made_list made) one) [
      | inl old ↦ s.alone w old (a.of_next w waiting)
      | inr new ↦ a.apart w (a.back w new) waiting
    ];
    covers = λ w is left. elim (s.covers w is left) [
      | inl old ↦ inl (has_left (λ (b : Branch). InBranch cone given b w) bs (made_list made) old)
      | inr waiting ↦ elim (a.parts w waiting) [
        | inl c ↦ inl (has_right (λ (b : Branch). InBranch cone given b w) bs (made_list made) (a.into w c))
        | inr later ↦ inr later
      ]
    ];
  }
