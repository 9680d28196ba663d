-- The lists of the segments at each node, segment by segment.
use Rattle.std.proofs.Common.{◌≡◌, ℕ, zero, suc, ◌+◌, ◌<◌, ◌≤◌, List, [], ◌∷◌, ◌++◌, length, get_or, set, replicate, refl, ap, sym, subst, ◌∙◌, arith, inl, inr, ◌⊎◌}
use Rattle.std.specs.List.{AllByRecursion}
use Rattle.std.proofs.lemmas.Bool.{cases_lt, cases_eq}
use Rattle.std.proofs.lemmas.List.{length-set, get_or-set_same, get_or-set_other, get_or-replicate}
use Rattle.rc_tree.specs.declared.segments.Segment.{Segment}
use Rattle.rc_tree.specs.Growth.{segment_at, Touches}
use Rattle.rc_tree.specs.Loops.{IsAmong, AreIndexes, AreIndexed, IsReady}
use Rattle.rc_tree.specs.Listing.{listed, listed_at_both, AreListed, AreAllBelow}
use Rattle.rc_tree.proofs.Routes.{all_append, all_more}
use Rattle.rc_tree.proofs.Growing.{ready_at}

among_keep : (k : ℕ) (ks : List ℕ) (j : ℕ) → IsAmong k ks → IsAmong k (ks ++ j ∷ [])
among_keep k [] j a = absurd a
among_keep k (i ∷ ks) j (inl e) = inl e
among_keep k (i ∷ ks) j (inr a) = inr (among_keep k ks j a)

among_new : (k : ℕ) (ks : List ℕ) → IsAmong k (ks ++ k ∷ [])
among_new k [] = inl refl
among_new k (i ∷ ks) = inr (among_new k ks)

past : (ls : List (List ℕ)) (u : ℕ) → length ls ≤ u → get_or ls u [] ≡ []
past [] u l = refl
past (x ∷ ls) zero l = absurd (omega arith)
past (x ∷ ls) (suc u) l = past ls u (omega arith)

keeps : (ls : List (List ℕ)) (u j k v : ℕ) → u < length ls → IsAmong k (get_or ls v []) → IsAmong k (get_or (listed ls u j) v [])
keeps ls u j k v l a = elim (cases_eq v u) [
  | inl e ↦
      subst (IsAmong k) (sym (ap (λ x. get_or (listed ls u j) x []) e ∙ get_or-set_same ls u (get_or ls u [] ++ j ∷ []) [] l))
      (among_keep k (get_or ls u []) j (subst (λ x. IsAmong k (get_or ls x [])) e a))
  | inr un ↦ subst (IsAmong k) (sym (get_or-set_other ls u v (get_or ls u [] ++ j ∷ []) [] un)) a
]

has : (ls : List (List ℕ)) (u j : ℕ) → u < length ls → IsAmong j (get_or (listed ls u j) u [])
has ls u j l = subst (IsAmong j) (sym (get_or-set_same ls u (get_or ls u [] ++ j ∷ []) [] l)) (among_new j (get_or ls u []))

all_set : {X : Type 0} (P : X → Type 0) (xs : List X) (i : ℕ) (x : X) → AllByRecursion P xs → P x → AllByRecursion P (set xs i x)
all_set P [] i x a p = tt
all_set P (y ∷ xs) zero x a p = (p, a.1)
all_set P (y ∷ xs) (suc i) x a p = (a.0, all_set P xs i x a.1 p)

at : (segments : List Segment) (ls : List (List ℕ)) (u : ℕ) → AllByRecursion (AreIndexes segments) ls → AreIndexes segments (get_or ls u [])
at segments [] u a = tt
at segments (l ∷ ls) zero a = a.0
at segments (l ∷ ls) (suc u) a = at segments ls u a.1

inside_more : (segments : List Segment) (ls : List (List ℕ)) (u j : ℕ) → j < length segments → AllByRecursion (AreIndexes segments) ls → AllByRecursion (AreIndexes segments) (listed ls u j)
inside_more segments ls u j l a =
    all_set (AreIndexes segments) ls u (get_or ls u [] ++ j ∷ []) a (all_append (λ k. k < length segments) (get_or ls u []) (j ∷ []) (at segments ls u a) (l, tt))

pub listed_none : (segments : List Segment) (count : ℕ) (ls : List (List ℕ)) → length ls ≡ count → AllByRecursion (λ l. l ≡ []) ls → AreListed segments count 0 ls
listed_none segments count ls e a = record {
  size = e;
  inside = all_more (λ l. l ≡ []) (AreIndexes segments) (λ l q. subst (AreIndexes segments) (sym q) tt) ls a;
  all = λ k u l. absurd (omega arith);
}

pub listed_more : (segments : List Segment) (count i : ℕ) (ls ls' : List (List ℕ)) (s : Segment) → IsReady segments count → i < length segments → AreListed segments count i ls → s ≡ segment_at segments i
    → ls' ≡ listed_at_both ls s i → AreListed segments count (i + 1) ls'
listed_more segments count i ls ls' s r l a e q =
    subst (AreListed segments count (i + 1)) (sym (q ∙ ap (λ (x : Segment). listed_at_both ls x i) e)) made
  where
    one : Segment
    one = segment_at segments i

    la : one.a < length ls
    la = (let b = (ready_at segments count i r l).0 in let z = a.size in omega arith)

    lb : one.b < length (listed ls one.a i)
    lb = (let b = (ready_at segments count i r l).1 in let z = a.size in let y = length-set ls one.a (get_or ls one.a [] ++ i ∷ []) in omega arith)

    made : AreListed segments count (i + 1) (listed_at_both ls one i)
    made = record {
      size = length-set (listed ls one.a i) one.b (get_or (listed ls one.a i) one.b [] ++ i ∷ []) ∙ length-set ls one.a (get_or ls one.a [] ++ i ∷ []) ∙ a.size;
      inside = inside_more segments (listed ls one.a i) one.b i l (inside_more segments ls one.a i l a.inside);
      all = λ k u lk t. by k u (cases_lt k i) lk t;
    }
      where
        now : (u : ℕ) → Touches one u → IsAmong i (get_or (listed_at_both ls one i) u [])
        now u (inl x) = subst (λ v. IsAmong i (get_or (listed_at_both ls one i) v [])) x (keeps (listed ls one.a i) one.b i i one.a lb (has ls one.a i la))
        now u (inr x) = subst (λ v. IsAmong i (get_or (listed_at_both ls one i) v [])) x (has (listed ls one.a i) one.b i lb)

        by : (k u : ℕ) → (k < i) ⊎ (i ≤ k) → k < i + 1 → Touches (segment_at segments k) u → IsAmong k (get_or (listed_at_both ls one i) u [])
        by k u (inl less) lk t = keeps (listed ls one.a i) one.b i k u lb (keeps ls one.a i k u la (a.all k u less t))
        by k u (inr more) lk t =
            let same : i ≡ k = omega arith in
            subst (λ x. IsAmong x (get_or (listed_at_both ls one i) u [])) same (now u (subst (λ x. Touches (segment_at segments x) u) (sym same) t))

pub all_listed : (segments : List Segment) (count : ℕ) (ls : List (List ℕ)) → AreListed segments count (length segments) ls → AreIndexed segments ls
all_listed segments count ls a = record { inside = a.inside; all = a.all }

pub listed_a : (segments : List Segment) (count i : ℕ) (ls : List (List ℕ)) (s : Segment) → IsReady segments count → i < length segments → AreListed segments count i ls → s ≡ segment_at segments i → s.a < length ls
listed_a segments count i ls s r l a e = subst (λ (x : Segment). x.a < length ls) (sym e) (let b = (ready_at segments count i r l).0 in let z = a.size in omega arith)

pub listed_b : (segments : List Segment) (count i : ℕ) (ls : List (List ℕ)) (s : Segment) → IsReady segments count → i < length segments → AreListed segments count i ls → s ≡ segment_at segments i → s.b < length ls
listed_b segments count i ls s r l a e = subst (λ (x : Segment). x.b < length ls) (sym e) (let b = (ready_at segments count i r l).1 in let z = a.size in omega arith)

pub ruleset linking = (listed_none, listed_more, all_listed, listed_a, listed_b)

-- one list of all segments for each node
pub below_none : AreAllBelow 0 []
below_none = (tt, λ k l. absurd (omega arith))

pub below_more : (n : ℕ) (ks ks' : List ℕ) → AreAllBelow n ks → ks' ≡ ks ++ n ∷ [] → AreAllBelow (n + 1) ks'
below_more n ks ks' a e = subst (AreAllBelow (n + 1)) (sym e) (
  all_append (λ k. k < n + 1) ks (n ∷ []) (all_more (λ k. k < n) (λ k. k < n + 1) (λ k l. omega arith) ks a.0) (let l : n < n + 1 = omega arith in (l, tt)),
  λ k l. by k (cases_lt k n) l,
)
  where
    by : (k : ℕ) → (k < n) ⊎ (n ≤ k) → k < n + 1 → IsAmong k (ks ++ n ∷ [])
    by k (inl less) l = among_keep k ks n (a.1 k less)
    by k (inr more) l = (let same : n ≡ k = omega arith in subst (λ j. IsAmong j (ks ++ n ∷ [])) same (among_new n ks))

pub indexed_all : (segments : List Segment) (count n : ℕ) (ks : List ℕ) → IsReady segments count → n ≡ length segments → AreAllBelow n ks → AreIndexed segments (replicate count ks)
indexed_all segments count n ks r e a = record {
  inside = all_same count;
  all = λ k u l t. subst (IsAmong k) (sym (get_or-replicate count u ks [] (low k u l t))) (below.1 k l);
}
  where
    below : AreAllBelow (length segments) ks
    below = subst (λ m. AreAllBelow m ks) e a

    all_same : (m : ℕ) → AllByRecursion (AreIndexes segments) (replicate m ks)
    all_same zero = tt
    all_same (suc m) = (below.0, all_same m)

    low : (k u : ℕ) → k < length segments → Touches (segment_at segments k) u → u < count
    low k u l (inl x) = subst (λ v. v < count) x (ready_at segments count k r l).0
    low k u l (inr x) = subst (λ v. v < count) x (ready_at segments count k r l).1

-- lists that are all empty
pub none_more : (ls : List (List ℕ)) (l : List ℕ) → AllByRecursion (λ x. x ≡ []) ls → l ≡ [] → AllByRecursion (λ x. x ≡ []) (ls ++ l ∷ [])
none_more ls l a e = all_append (λ x. x ≡ []) ls (l ∷ []) a (e, tt)
