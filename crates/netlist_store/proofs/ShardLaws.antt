-- What a write of one shard does to the numbers of names.

use Rattle.std.proofs.Common.{◌≡◌, ◌≢◌, ◌⊎◌, ℕ, zero, suc, ◌<◌, Bool, true, false, not, cond, List, [], ◌∷◌, length, set, get_or, replicate, Option, None, Some, refl, sym, ap, ◌∙◌, inl, inr, arith}
use Rattle.std.specs.List.{slice_get, filter}
use Rattle.std.specs.Map.{lookup}
use Rattle.std.specs.Str.{bytes_eq}
use Rattle.std.proofs.lemmas.Bool.{cases_Bool, cases_eq, false≢true}
use Rattle.std.proofs.lemmas.List.{get_or-set_same, get_or-set_other}
use Rattle.std.proofs.lemmas.Map.Entries.{lookup-filter-keys}
use Rattle.std.proofs.lemmas.Option.{get_or_from_slice_get}
use Rattle.std.proofs.lemmas.Slice.Eq.{bytes_eq-Decides}
use Rattle.timing_defs.specs.Names.{is_name}
use Rattle.timing_defs.proofs.SameNames.{same-sym}
use Rattle.netlist_store.specs.Shards.{shard_of, number_under, HasNames}

pub same_is : (a b : List ℕ) → bytes_eq a b ≡ true → a ≡ b
same_is a b = (bytes_eq-Decides a b).0

pub same_self : (a : List ℕ) → bytes_eq a a ≡ true
same_self a = (bytes_eq-Decides a a).1 refl

pub put_shard : (inside now after : List (List (List ℕ × ℕ))) (name : List ℕ) (place : ℕ) (w : Option ℕ) (old new : List (List ℕ × ℕ))
    → inside ≡ now → length inside ≡ 131101 → place ≡ shard_of name → place < 131101 → slice_get inside place ≡ Some old
    → ((q : List ℕ) → lookup (bytes_eq q) new ≡ cond (bytes_eq name q) w (lookup (bytes_eq q) old))
    → after ≡ set inside place new → (q : List ℕ) → number_under after q ≡ cond (bytes_eq name q) w (number_under now q)
put_shard inside now after name place w old new view long here low held put written q =
    ap (λ m. number_under m q) written ∙ by (cases_eq (shard_of q) place) ∙ ap (λ m. cond (bytes_eq name q) w (number_under m q)) view
  where
    inner : place < length inside
    inner = omega (arith, long)

    by : ((shard_of q ≡ place) ⊎ (shard_of q ≢ place)) → number_under (set inside place new) q ≡ cond (bytes_eq name q) w (number_under inside q)
    by (inl same) =
        ap (λ n. lookup (bytes_eq q) (get_or (set inside place new) n [])) same
        ∙ ap (lookup (bytes_eq q)) (get_or-set_same inside place new [] inner)
        ∙ put q
        ∙ ap (λ m. cond (bytes_eq name q) w (lookup (bytes_eq q) m)) (sym (get_or_from_slice_get inside place old [] held))
        ∙ ap (λ n. cond (bytes_eq name q) w (lookup (bytes_eq q) (get_or inside n []))) (sym same)
    by (inr other) =
        let apart : bytes_eq name q ≡ false = elim (cases_Bool (bytes_eq name q)) [
          | inl e ↦ absurd (other (ap shard_of (sym (same_is name q e)) ∙ sym here))
          | inr e ↦ e
        ] in
        ap (lookup (bytes_eq q)) (get_or-set_other inside place (shard_of q) new [] other)
        ∙ ap (λ b. cond b w (number_under inside q)) (sym apart)

pub none_under : (n : ℕ) (shards : List (List (List ℕ × ℕ))) → shards ≡ replicate n [] → (q : List ℕ) → number_under shards q ≡ None
none_under n shards e q = ap (λ m. number_under m q) e ∙ ap (lookup (bytes_eq q)) (empty n (shard_of q))
  where
    empty : (n i : ℕ) → get_or (replicate {A = List (List ℕ × ℕ)} n []) i [] ≡ []
    empty zero i = refl
    empty (suc n) zero = refl
    empty (suc n) (suc i) = empty n i

pub lookup_behind : (name : List ℕ) (number : ℕ) (old new : List (List ℕ × ℕ)) → new ≡ (name, number) ∷ old → (q : List ℕ)
    → lookup (bytes_eq q) new ≡ cond (bytes_eq name q) (Some number) (lookup (bytes_eq q) old)
lookup_behind name number old new e q =
    ap (lookup (bytes_eq q)) e ∙ ap (λ b. cond b (Some number) (lookup (bytes_eq q) old)) (same-sym q name)

-- the pairs of other names
abbrev pub others : List ℕ → List (List ℕ × ℕ) → List (List ℕ × ℕ)
others name pairs = filter (λ p. not (bytes_eq name p.0)) pairs

pub lookup_others : (name : List ℕ) (pairs : List (List ℕ × ℕ)) (q : List ℕ)
    → lookup (bytes_eq q) (others name pairs) ≡ cond (bytes_eq name q) None (lookup (bytes_eq q) pairs)
lookup_others name pairs q =
    lookup-filter-keys (bytes_eq q) (λ k. not (bytes_eq name k)) (not (bytes_eq name q)) (λ k h. ap (λ n. not (bytes_eq name n)) (sym (same_is q k h))) pairs
    ∙ turned (bytes_eq name q) (lookup (bytes_eq q) pairs)
  where
    turned : (b : Bool) (o : Option ℕ) → cond (not b) o None ≡ cond b None o
    turned true o = refl
    turned false o = refl

-- only names have numbers, as the number of a name is written or goes
pub still_names : (old new : List (List ℕ × ℕ)) (name : List ℕ) (v : Option ℕ) → is_name name ≡ true
    → ((q : List ℕ) → lookup (bytes_eq q) new ≡ cond (bytes_eq name q) v (lookup (bytes_eq q) old)) → HasNames old → HasNames new
still_names old new name v named updates has = record {
  none = λ q h.
      let apart : bytes_eq name q ≡ false = elim (cases_Bool (bytes_eq name q)) [
        | inl e ↦ absurd (false≢true (sym h ∙ ap is_name (sym (same_is name q e)) ∙ named))
        | inr e ↦ e
      ] in
      updates q ∙ ap (λ b. cond b v (lookup (bytes_eq q) old)) apart ∙ has.none q h;
}

pub fewer_names : (old new : List (List ℕ × ℕ)) (name : List ℕ)
    → ((q : List ℕ) → lookup (bytes_eq q) new ≡ cond (bytes_eq name q) None (lookup (bytes_eq q) old)) → HasNames old → HasNames new
fewer_names old new name updates has = record {
  none = λ q h. updates q ∙ either (bytes_eq name q) (lookup (bytes_eq q) old) (has.none q h);
}
  where
    either : (b : Bool) (o : Option ℕ) → o ≡ None → cond b None o ≡ None
    either true o e = refl
    either false o e = e
