-- The plain map of lists end to end.
use Rattle.std.proofs.Common.{◌≡◌, ℕ, ◌+◌, ◌-◌, ◌<◌, ◌≤◌, List, [], ◌∷◌, ◌++◌, length, get_or, take, drop, refl, ap, sym, subst, ◌∙◌}
use Rattle.std.proofs.Common.{Result, Ok, Err}
use Rattle.std.proofs.Common.{Bor, arith}
use Rattle.std.specs.Fn.{Shared, FnReturnsAt}
use Rattle.std.specs.Result.{IfOk}
use Rattle.std.proofs.Math.Seq.{take-add}
use Rattle.std.proofs.lemmas.List.{take-append-drop, take_more, drop-drop, append_assoc, append-nil}
use Rattle.std.specs.List.{slice_range}
use Rattle.level_workers.specs.Mapped.{IsMap}
use Rattle.level_workers.specs.Parts.{IsMapOnto, IsMapOf}

-- the items before a place, and those from it to another
pub take-range : {X : Type 0} (xs : List X) (at to : ℕ) → at ≤ to → take at xs ++ slice_range xs at to ≡ take to xs
take-range xs at to low =
    let sum : to ≡ at + (to - at) = omega arith in
    sym (ap (λ n. take n xs) sum ∙ take-add at (to - at) xs)

-- two ranges of items that follow each other
pub range-join : {X : Type 0} (xs : List X) (a b c : ℕ) → a ≤ b → b ≤ c
    → slice_range xs a b ++ slice_range xs b c ≡ slice_range xs a c
range-join xs a b c low high =
    let sum : c - a ≡ (b - a) + (c - b) = omega arith in
    let back : a + (b - a) ≡ b = omega arith in
    let rest : drop (b - a) (drop a xs) ≡ drop b xs = drop-drop (b - a) a xs ∙ ap (λ n. drop n xs) back in
    let cut = take-add (b - a) (c - b) (drop a xs) in
    sym (ap (λ n. take n (drop a xs)) sum ∙ (cut ∙ ap (λ ys. take (b - a) (drop a xs) ++ take (c - b) ys) rest))

module _ {I R : Type 0} (gives : I → R → Type 0) where
  -- two parts of a list and of its results
  pub map-append : (xs ys : List I) (rs ss : List R) → IsMap gives xs rs → IsMap gives ys ss → IsMap gives (xs ++ ys) (rs ++ ss)
  map-append [] ys [] ss p q = q
  map-append [] ys (r ∷ rs) ss p q = absurd p
  map-append (x ∷ xs) ys [] ss p q = absurd p
  map-append (x ∷ xs) ys (r ∷ rs) ss p q = (p.0, map-append xs ys rs ss p.1 q)

  -- one item and its result more
  pub map-more : (items : List I) (i : ℕ) (x : I) (rs rs' : List R) (r : R) → i < length items → x ≡ get_or items i x
      → IsMap gives (take i items) rs → gives x r → rs' ≡ rs ++ r ∷ [] → IsMap gives (take (i + 1) items) rs'
  map-more items i x rs rs' r low is p q e =
      rw e (subst (λ (xs : List I). IsMap gives xs (rs ++ r ∷ [])) (sym (take_more items i x low ∙ ap (λ y. take i items ++ y ∷ []) (sym is)))
      (map-append (take i items) (x ∷ []) rs (r ∷ []) p (q, tt)))

  -- the parts of a list that is cut at a place
  pub map-cut : (items front back : List I) (rs ss : List R) (mid : ℕ) → front ≡ take mid items → back ≡ drop mid items
      → IsMap gives front rs → IsMap gives back ss → IsMap gives items (rs ++ ss)
  map-cut items front back rs ss mid e d p q =
      subst (λ (xs : List I). IsMap gives xs (rs ++ ss)) ((ap (λ ys. ys ++ back) e ∙ ap (λ ys. take mid items ++ ys) d) ∙ take-append-drop mid items)
      (map-append front back rs ss p q)

  -- one item and its result more, after those of others
  pub onto-more : (items : List I) (i : ℕ) (x : I) (before rs rs' : List R) (r : R) → i < length items → x ≡ get_or items i x
      → IsMapOnto gives before (take i items) rs → gives x r → rs' ≡ rs ++ r ∷ [] → IsMapOnto gives before (take (i + 1) items) rs'
  onto-more items i x before rs rs' r low is q g e =
      let after : rs' ≡ before ++ (q.0 ++ r ∷ []) = e ∙ (ap (λ ys. ys ++ r ∷ []) q.1 ∙ append_assoc before q.0 (r ∷ [])) in
      (q.0 ++ r ∷ [], after, map-more items i x q.0 (q.0 ++ r ∷ []) r low is q.2 g refl)

  -- no items, after others
  pub onto-start : (before : List R) → IsMapOnto gives before [] before
  onto-start before = ([], sym (append-nil before), tt)

  -- after no others
  pub onto-none : (items : List I) (rs : List R) → IsMapOnto gives [] items rs → IsMap gives items rs
  onto-none items rs q = subst (λ (ys : List R). IsMap gives items ys) (sym q.1) q.2

  -- the items from a place on, after those before it
  pub onto-rest : (items : List I) (at : ℕ) (rs all : List R) → IsMap gives (take at items) rs
      → IsMapOnto gives rs (drop at items) all → IsMap gives items all
  onto-rest items at rs all p q =
      subst (λ (ys : List R). IsMap gives items ys) (sym q.1) (map-cut items (take at items) (drop at items) rs q.0 at refl refl p q.2)

  -- the same, of equal lists
  pub onto-end : (items part : List I) (at : ℕ) (rs before all : List R) → before ≡ rs → part ≡ drop at items
      → IsMap gives (take at items) rs
      → IsMapOnto gives before part all → IsMap gives items all
  onto-end items part at rs before all e d p q =
      let same : IsMapOnto gives rs part all = subst (λ (ys : List R). IsMapOnto gives ys part all) e q in
      onto-rest items at rs all p (subst (λ (xs : List I). IsMapOnto gives rs xs all) d same)

  -- the items from a place to another, after those before it
  pub of-next : (items : List I) (at to : ℕ) (rs more all : List R) → IsMap gives (take at items) rs
      → IsMapOf gives items at to more → all ≡ rs ++ more
      → IsMap gives (take to items) all
  of-next items at to rs more all p q e =
      rw e (subst (λ (xs : List I). IsMap gives xs (rs ++ more)) (take-range items at to q.0)
      (map-append (take at items) (slice_range items at to) rs more p q.2))

  -- a run that goes on to another place
  pub of-longer : (items : List I) (from at to : ℕ) (rs all : List R) → IsMapOf gives items from at rs → at ≤ to → to ≤ length items
      → IsMapOnto gives rs (slice_range items at to) all → IsMapOf gives items from to all
  of-longer items from at to rs all p more within q =
      let low : from ≤ at = p.0 in
      let both = map-append (slice_range items from at) (slice_range items at to) rs q.0 p.2 q.2 in
      let join = range-join items from at to low more in
      let parts : IsMap gives (slice_range items from to) (rs ++ q.0) = subst (λ (xs : List I). IsMap gives xs (rs ++ q.0)) join both in
      (omega arith, within, subst (λ (ys : List R). IsMap gives (slice_range items from to) ys) (sym q.1) parts)

-- what holds of an answer's value holds of what follows from it
pub ok_more : {X E : Type 0} {P Q : X → Type 0} (r : Result X E) → ((x : X) → P x → Q x) → IfOk r P → IfOk r Q
ok_more (Ok x) h p = h x p
ok_more (Err e) h p = p

-- a call at a reference is a call at what it shows
pub returned_at : {F T R : Type 0} (g : Shared F (Bor T × Unit {0}) R) (f : F) (p : Bor T) (r : R) → g.post f (p, tt) r → FnReturnsAt g f p.now r
returned_at g f p r k = record { shown = p; shows = refl; says = record { met = k } }
