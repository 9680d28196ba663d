-- The branch whose walk comes first, taken out.

use Rattle.std.proofs.Common.{◌≡◌, ℕ, zero, suc, ◌+◌, ◌-◌, ◌<◌, true, false, ◌⊎◌, inl, inr, List, [], ◌∷◌, ◌++◌, length, take, drop, Some, refl, sym, ap, subst, ◌∙◌, arith}
use Rattle.std.specs.Prelude.{slice_get, slice_index_or, slice_set, swap_remove}
use Rattle.std.specs.List.{AllByRecursion}
use Rattle.std.proofs.lemmas.Bool.{cases_eq}
use Rattle.std.proofs.lemmas.Option.{same_Some}
use Rattle.worst_walks.specs.declared.cones.Cone.{Cone}
use Rattle.worst_walks.specs.declared.cones.Walk.{Walk}
use Rattle.worst_walks.specs.Walks.{comes_before, IsCone}
use Rattle.worst_walks.proofs.BestLaws.{alone}
use Rattle.worst_walks.proofs.Ties.{walks}
use Rattle.ranked_walks.specs.declared.branches.Branch.{Branch}
use Rattle.ranked_walks.specs.declared.branches.Tables.{Tables}
use Rattle.ranked_walks.specs.Branches.{kept_of, InBranch, IsShown}
use Rattle.ranked_walks.specs.Outs.{rows_at, AreTables}
use Rattle.ranked_walks.specs.Searching.{AreDisjoint, HasOne, IsFront, IsOpen, IsTold, IsWalkOf, Nothing, IsSearched, IsTaken}
use Rattle.ranked_walks.proofs.Leading.{open_walk}

pub all_at : {X : Type 0} (P : X → Type 0) (xs : List X) (i : ℕ) (x : X) → AllByRecursion P xs → slice_get xs i ≡ Some x → P x
all_at P [] i x all e = absurd (cc)
all_at P (y ∷ ys) zero x all e = subst P (same_Some y x e) all.0
all_at P (y ∷ ys) (suc i) x all e = all_at P ys i x all.1 e

has_at : {X : Type 0} (P : X → Type 0) (xs : List X) → HasOne P xs → (i : ℕ) × (x : X) × (i < length xs) × (slice_get xs i ≡ Some x) × P x
has_at P [] h = absurd h
has_at P (x ∷ xs) h = elim h [
  | inl here ↦ (0, x, omega arith, refl, here)
  | inr later ↦ let r = has_at P xs later in let low = r.2 in (suc r.0, r.1, omega arith, r.3, r.4)
]

at_has : {X : Type 0} (P : X → Type 0) (xs : List X) (i : ℕ) (x : X) → slice_get xs i ≡ Some x → P x → HasOne P xs
at_has P [] i x e p = absurd (cc)
at_has P (y ∷ ys) zero x e p = inl (subst P (sym (same_Some y x e)) p)
at_has P (y ∷ ys) (suc i) x e p = inr (at_has P ys i x e p)

-- without one
all_out : {X : Type 0} (P : X → Type 0) (xs : List X) (i : ℕ) → AllByRecursion P xs → AllByRecursion P (take i xs ++ drop (suc i) xs)
all_out P [] zero all = tt
all_out P [] (suc i) all = tt
all_out P (x ∷ xs) zero all = all.1
all_out P (x ∷ xs) (suc i) all = (all.0, all_out P xs i all.1)

has_less : {X : Type 0} (P : X → Type 0) (xs : List X) (i : ℕ) → HasOne P (take i xs ++ drop (suc i) xs) → HasOne P xs
has_less P [] zero h = h
has_less P [] (suc i) h = h
has_less P (x ∷ xs) zero h = inr h
has_less P (x ∷ xs) (suc i) h = elim h [ inl here ↦ inl here | inr later ↦ inr (has_less P xs i later) ]

has_out : {X : Type 0} (P : X → Type 0) (xs : List X) (i : ℕ) (x : X) → slice_get xs i ≡ Some x → HasOne P xs → HasOne P (take i xs ++ drop (suc i) xs) ⊎ P x
has_out P [] i x e h = absurd h
has_out P (y ∷ ys) zero x e h = elim h [ inl here ↦ inr (subst P (same_Some y x e) here) | inr later ↦ inl later ]
has_out P (y ∷ ys) (suc i) x e h = elim h [
  | inl here ↦ inl (inl here)
  | inr later ↦ elim (has_out P ys i x e later) [ inl l ↦ inl (inr l) | inr r ↦ inr r ]
]

disjoint_out : (In : Branch → Walk → Type 0) (bs : List Branch) (i : ℕ) → AreDisjoint In bs → AreDisjoint In (take i bs ++ drop (suc i) bs)
disjoint_out In [] zero h = tt
disjoint_out In [] (suc i) h = tt
disjoint_out In (b ∷ bs) zero h = h.1
disjoint_out In (b ∷ bs) (suc i) h = (λ w in_b one. h.0 w in_b (has_less (λ c. In c w) bs i one), disjoint_out In bs i h.1)

apart_out : (In : Branch → Walk → Type 0) (bs : List Branch) (i : ℕ) (b : Branch) → AreDisjoint In bs → slice_get bs i ≡ Some b → (w : Walk) → HasOne (λ c. In c w) (take i bs ++ drop (suc i) bs) → In b w → ⊥
apart_out In [] i b h e w one in_b = absurd (cc)
apart_out In (c ∷ bs) zero b h e w one in_b = h.0 w (subst (λ x. In x w) (sym (same_Some c b e)) in_b) one
apart_out In (c ∷ bs) (suc i) b h e w one in_b = elim one [
  | inl here ↦ h.0 w here (at_has (λ x. In x w) bs i b e in_b)
  | inr later ↦ apart_out In bs i b h.1 e w later in_b
]

module _ (rank : ℕ → ℕ) (before : ℕ → List ℕ) (cone : Cone) (tables : Tables) (given : List Walk) (good : IsCone cone) (t : AreTables rank cone tables) (bs : List Branch)
    (each : AllByRecursion (IsOpen rank before cone tables given) bs) where
  open_at : (i : ℕ) (b : Branch) → slice_get bs i ≡ Some b → IsOpen rank before cone tables given b
  open_at i b e = all_at (IsOpen rank before cone tables given) bs i b each e

  itself : (b c : Branch) → IsOpen rank before cone tables given b → b ≡ c → IsTold rank before cone tables given b c false
  itself b c o e = λ v w f g.
      let h : IsWalkOf cone tables given b w = subst (λ x. IsWalkOf cone tables given x w) (sym e) g in
      let same = open_walk rank before cone tables given good t b o v f ∙ sym (open_walk rank before cone tables given good t b o w h) in
      ap (λ x. comes_before rank before x w) same ∙ alone (comes_before rank before) (walks rank before) w

  shown_of : (b : Branch) (o : IsOpen rank before cone tables given b) → IsWalkOf cone tables given b o.walk
  shown_of b o = λ end there. subst (λ e. IsShown (rows_at tables b.end) e (kept_of given b) b o.walk) (ap (λ e. e.node) (same_Some o.end end (sym o.there ∙ there))) o.shown

  pub front_first : 0 < length bs → IsFront rank before cone tables given bs 1 0
  front_first some = record {
    low = some;
    front = λ i b c low e f. (let zero_is : i ≡ 0 = omega arith in
        itself b c (open_at i b e) (same_Some b c (sym e ∙ ap (slice_get bs) zero_is ∙ f)));
  }

  pub front_stays : (k at : ℕ) (d c : Branch) → slice_get bs k ≡ Some d → slice_get bs at ≡ Some c → IsFront rank before cone tables given bs k at → IsTold rank before cone tables given d c false
      → IsFront rank before cone tables given bs (k + 1) at
  front_stays k at d c e f h told = record {
    low = h.low;
    front = λ i b x low g j. elim (cases_eq i k) [
      | inl same ↦
          let one : d ≡ b = same_Some d b (sym e ∙ ap (slice_get bs) (sym same) ∙ g) in
          let two : c ≡ x = same_Some c x (sym f ∙ j) in
          subst (λ y. IsTold rank before cone tables given y x false) one (subst (λ y. IsTold rank before cone tables given d y false) two told)
      | inr other ↦ h.front i b x (omega arith) g j
    ];
  }

  pub front_moves : (k at : ℕ) (d c : Branch) → k < length bs → slice_get bs k ≡ Some d → slice_get bs at ≡ Some c → IsFront rank before cone tables given bs k at → IsTold rank before cone tables given d c true
      → IsFront rank before cone tables given bs (k + 1) k
  front_moves k at d c under e f h told = record {
    low = under;
    front = λ i b x low g j. elim (cases_eq i k) [
      | inl same ↦ itself b x (open_at i b g) (same_Some b x (sym g ∙ ap (slice_get bs) same ∙ j))
      | inr other ↦ λ v w p q.
          (let o = open_at at c f in
          let m = shown_of c o in
          let one = h.front i b c (omega arith) g f v o.walk p m in
          let two = told w o.walk (subst (λ y. IsWalkOf cone tables given y w) (sym (same_Some d x (sym e ∙ j))) q) m in
          (walks rank before).chain v o.walk w one ((walks rank before).one_way w o.walk two))
    ];
  }

  -- the first is taken out
  pub taken_out : IsSearched rank before cone tables given bs Nothing → (at : ℕ) (b : Branch) (walk : Walk) → slice_get bs at ≡ Some b → IsFront rank before cone tables given bs (length bs) at
      → IsWalkOf cone tables given b walk → IsTaken rank before cone tables given (take at bs ++ drop (suc at) bs) b walk
  taken_out s at b walk e h of =
      let o = open_at at b e in
      let same = open_walk rank before cone tables given good t b o walk of in
      record {
        open_is = o;
        shown = of o.end o.there;
        in_class = subst (InBranch cone given b) (sym same) o.best.0;
        left = λ w i. s.left w (at_has (λ c. InBranch cone given c w) bs at b e i);
        best = λ w is left. elim (s.covers w is left) [
          | inl one ↦
              let r = has_at (λ c. InBranch cone given c w) bs one in
              let p = open_at r.0 r.1 r.3 in
              (walks rank before).chain w p.walk walk (p.best.1 w r.4) (h.front r.0 r.1 b r.2 r.3 e p.walk walk (shown_of r.1 p) of)
          | inr none ↦ absurd none
        ];
        searched = record {
          first = s.first;
          each = all_out (IsOpen rank before cone tables given) bs at s.each;
          apart = disjoint_out (InBranch cone given) bs at s.apart;
          left = λ w one. s.left w (has_less (λ c. InBranch cone given c w) bs at one);
          alone = λ w one i. apart_out (InBranch cone given) bs at b s.apart e w one i;
          covers = λ w is left. elim (s.covers w is left) [
            | inl one ↦ has_out (λ c. InBranch cone given c w) bs at b e one
            | inr none ↦ absurd none
          ];
        };
      }

-- a list without one, in whose place the last one stands
abbrev second : {X : Type 0} → X → List X → List X
second x [] = x ∷ []
second x (y ∷ ys) = y ∷ (x ∷ ys)

abbrev last_first : {X : Type 0} → X → List X → List X
last_first x [] = x ∷ []
last_first x (y ∷ ys) = second x (last_first y ys)

abbrev moved_up : {X : Type 0} → List X → List X
moved_up [] = []
moved_up (x ∷ xs) = last_first x xs

abbrev swapped : {X : Type 0} → List X → ℕ → List X
swapped [] i = []
swapped (x ∷ xs) zero = moved_up xs
swapped (x ∷ xs) (suc i) = x ∷ swapped xs i

last_first_is : {X : Type 0} (x : X) (xs : List X) (d : X) → slice_index_or (x ∷ xs) (length xs) d ∷ take (length xs) (x ∷ xs) ≡ last_first x xs
last_first_is x [] d = refl
last_first_is x (y ∷ ys) d = ap (second x) (last_first_is y ys d)

swapped_is : {X : Type 0} (xs : List X) (i : ℕ) (d : X) → i < length xs → swap_remove xs i d ≡ swapped xs i
swapped_is [] i d low = absurd (omega arith)
swapped_is (x ∷ []) zero d low = refl
swapped_is (x ∷ (y ∷ ys)) zero d low =
    let n : length (x ∷ (y ∷ ys)) - 1 ≡ suc (length ys) = omega arith in
    ap (λ (m : ℕ). take m (slice_set (x ∷ (y ∷ ys)) zero (slice_index_or (x ∷ (y ∷ ys)) m d))) n ∙ last_first_is y ys d
swapped_is (x ∷ []) (suc i) d low = absurd (omega arith)
swapped_is (x ∷ (y ∷ ys)) (suc i) d low =
    let n : length (x ∷ (y ∷ ys)) - 1 ≡ suc (length ys) = omega arith in
    let k : length ys ≡ length (y ∷ ys) - 1 = omega arith in
    ap (λ (m : ℕ). take m (slice_set (x ∷ (y ∷ ys)) (suc i) (slice_index_or (x ∷ (y ∷ ys)) m d))) n
    ∙ ap (λ (m : ℕ). x ∷ take m (slice_set (y ∷ ys) i (slice_index_or (y ∷ ys) m d))) k
    ∙ ap (λ zs. x ∷ zs) (swapped_is (y ∷ ys) i d (omega arith))

second_all : {X : Type 0} (P : X → Type 0) (x : X) (xs : List X) → P x → AllByRecursion P xs → AllByRecursion P (second x xs)
second_all P x [] p all = (p, tt)
second_all P x (y ∷ ys) p all = (all.0, (p, all.1))

first_all : {X : Type 0} (P : X → Type 0) (x : X) (xs : List X) → P x → AllByRecursion P xs → AllByRecursion P (last_first x xs)
first_all P x [] p all = (p, tt)
first_all P x (y ∷ ys) p all = second_all P x (last_first y ys) p (first_all P y ys all.0 all.1)

second_has : {X : Type 0} (P : X → Type 0) (x : X) (xs : List X) → P x ⊎ HasOne P xs → HasOne P (second x xs)
second_has P x [] h = h
second_has P x (y ∷ ys) h = elim h [
  | inl it ↦ inr (inl it)
  | inr more ↦ elim more [ inl here ↦ inl here | inr later ↦ inr (inr later) ]
]

has_second : {X : Type 0} (P : X → Type 0) (x : X) (xs : List X) → HasOne P (second x xs) → P x ⊎ HasOne P xs
has_second P x [] h = h
has_second P x (y ∷ ys) h = elim h [
  | inl here ↦ inr (inl here)
  | inr more ↦ elim more [ inl it ↦ inl it | inr later ↦ inr (inr later) ]
]

first_has : {X : Type 0} (P : X → Type 0) (x : X) (xs : List X) → P x ⊎ HasOne P xs → HasOne P (last_first x xs)
first_has P x [] h = h
first_has P x (y ∷ ys) h = second_has P x (last_first y ys) (elim h [ inl it ↦ inl it | inr more ↦ inr (first_has P y ys more) ])

has_first : {X : Type 0} (P : X → Type 0) (x : X) (xs : List X) → HasOne P (last_first x xs) → P x ⊎ HasOne P xs
has_first P x [] h = h
has_first P x (y ∷ ys) h = elim (has_second P x (last_first y ys) h) [ inl it ↦ inl it | inr more ↦ inr (has_first P y ys more) ]

head_apart : (In : Branch → Walk → Type 0) (b : Branch) (bs : List Branch) → AreDisjoint In (b ∷ bs) → (w : Walk) → In b w → HasOne (λ c. In c w) bs → ⊥
head_apart In b bs h w in_b one = h.0 w in_b one

tail_apart : (In : Branch → Walk → Type 0) (b : Branch) (bs : List Branch) → AreDisjoint In (b ∷ bs) → AreDisjoint In bs
tail_apart In b bs h = h.1

both_apart : (In : Branch → Walk → Type 0) (b : Branch) (bs : List Branch) → ((w : Walk) → In b w → HasOne (λ c. In c w) bs → ⊥) → AreDisjoint In bs → AreDisjoint In (b ∷ bs)
both_apart In b bs f h = (f, h)

second_apart : (In : Branch → Walk → Type 0) (b : Branch) (bs : List Branch) → AreDisjoint In (b ∷ bs) → AreDisjoint In (second b bs)
second_apart In b [] h = h
second_apart In b (c ∷ cs) h =
    let rest : AreDisjoint In (c ∷ cs) = tail_apart In b (c ∷ cs) h in
    both_apart In c (b ∷ cs)
    (λ w in_c one. elim one [ inl it ↦ head_apart In b (c ∷ cs) h w it (inl in_c) | inr later ↦ head_apart In c cs rest w in_c later ])
    (both_apart In b cs (λ w in_b one. head_apart In b (c ∷ cs) h w in_b (inr one)) (tail_apart In c cs rest))

first_apart : (In : Branch → Walk → Type 0) (b : Branch) (bs : List Branch) → AreDisjoint In (b ∷ bs) → AreDisjoint In (last_first b bs)
first_apart In b [] h = h
first_apart In b (c ∷ cs) h =
    second_apart In b (last_first c cs)
    (both_apart In b (last_first c cs) (λ w in_b one. head_apart In b (c ∷ cs) h w in_b (has_first (λ x. In x w) c cs one)) (first_apart In c cs (tail_apart In b (c ∷ cs) h)))

swapped_all : {X : Type 0} (P : X → Type 0) (xs : List X) (i : ℕ) → AllByRecursion P (take i xs ++ drop (suc i) xs) → AllByRecursion P (swapped xs i)
swapped_all P [] i all = tt
swapped_all P (x ∷ []) zero all = tt
swapped_all P (x ∷ (y ∷ ys)) zero all = first_all P y ys all.0 all.1
swapped_all P (x ∷ xs) (suc i) all = (all.0, swapped_all P xs i all.1)

swapped_has : {X : Type 0} (P : X → Type 0) (xs : List X) (i : ℕ) → HasOne P (take i xs ++ drop (suc i) xs) → HasOne P (swapped xs i)
swapped_has P [] zero h = h
swapped_has P [] (suc i) h = h
swapped_has P (x ∷ []) zero h = h
swapped_has P (x ∷ (y ∷ ys)) zero h = first_has P y ys h
swapped_has P (x ∷ xs) (suc i) h = elim h [ inl here ↦ inl here | inr later ↦ inr (swapped_has P xs i later) ]

has_swapped : {X : Type 0} (P : X → Type 0) (xs : List X) (i : ℕ) → HasOne P (swapped xs i) → HasOne P (take i xs ++ drop (suc i) xs)
has_swapped P [] i h = absurd h
has_swapped P (x ∷ []) zero h = h
has_swapped P (x ∷ (y ∷ ys)) zero h = has_first P y ys h
has_swapped P (x ∷ xs) (suc i) h = elim h [ inl here ↦ inl here | inr later ↦ inr (has_swapped P xs i later) ]

swapped_apart : (In : Branch → Walk → Type 0) (bs : List Branch) (i : ℕ) → AreDisjoint In (take i bs ++ drop (suc i) bs) → AreDisjoint In (swapped bs i)
swapped_apart In [] i h = tt
swapped_apart In (b ∷ []) zero h = tt
swapped_apart In (b ∷ (c ∷ cs)) zero h = first_apart In c cs h
swapped_apart In (b ∷ bs) (suc i) h = (λ w in_b one. h.0 w in_b (has_swapped (λ c. In c w) bs i one), swapped_apart In bs i h.1)

moved : (rank : ℕ → ℕ) (before : ℕ → List ℕ) (cone : Cone) (tables : Tables) (given : List Walk) (bs : List Branch) (at : ℕ) (b : Branch) (walk : Walk)
    → IsTaken rank before cone tables given (take at bs ++ drop (suc at) bs) b walk → IsTaken rank before cone tables given (swapped bs at) b walk
moved rank before cone tables given bs at b walk t =
    let s = t.searched in
    record {
      open_is = t.open_is;
      shown = t.shown;
      in_class = t.in_class;
      left = t.left;
      best = t.best;
      searched = record {
        first = s.first;
        each = swapped_all (IsOpen rank before cone tables given) bs at s.each;
        apart = swapped_apart (InBranch cone given) bs at s.apart;
        left = λ w one. s.left w (has_swapped (λ c. InBranch cone given c w) bs at one);
        alone = λ w one i. s.alone w (has_swapped (λ c. InBranch cone given c w) bs at one) i;
        covers = λ w is left. elim (s.covers w is left) [
          | inl one ↦ inl (swapped_has (λ c. InBranch cone given c w) bs at one)
          | inr waits ↦ inr waits
        ];
      };
    }

-- the same by lists that are equal, the last branch in the place of the first
pub turned : (rank : ℕ → ℕ) (before : ℕ → List ℕ) (cone : Cone) (tables : Tables) (given one two three : List Walk) (bs four five after : List Branch) (at : ℕ) (n b : Branch) (walk : Walk)
    → IsCone cone → AreTables rank cone tables → IsSearched rank before cone tables given bs Nothing → one ≡ given → two ≡ given → three ≡ given → four ≡ bs → five ≡ bs
    → IsFront rank before cone tables one four (length four) at → slice_get five at ≡ Some n → IsWalkOf cone tables two n walk → n ≡ b → at < length bs → after ≡ swap_remove bs at b
    → IsTaken rank before cone tables three after b walk
turned rank before cone tables given one two three bs four five after at n b walk good t s e1 e2 e3 e4 e5 front there of same low out =
    let f : IsFront rank before cone tables given bs (length bs) at =
    subst (λ g. IsFront rank before cone tables g bs (length bs) at) e1 (subst (λ xs. IsFront rank before cone tables one xs (length xs) at) e4 front) in
    let w : IsWalkOf cone tables given b walk = subst (λ x. IsWalkOf cone tables given x walk) same (subst (λ g. IsWalkOf cone tables g n walk) e2 of) in
    let told = taken_out rank before cone tables given good t bs s.each s at b walk (sym (ap (λ xs. slice_get xs at) e5) ∙ there ∙ ap Some same) f w in
    subst (λ g. IsTaken rank before cone tables g after b walk) (sym e3)
    (subst (λ xs. IsTaken rank before cone tables given xs b walk) (sym (out ∙ swapped_is bs at b low))
    (moved rank before cone tables given bs at b walk told))
