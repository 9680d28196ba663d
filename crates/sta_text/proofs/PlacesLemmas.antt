use Rattle.std.proofs.Common.{◌≡◌, ℕ, List, [], ◌∷◌, ◌++◌, Bool, true, false, Option, Some, None, Result, Ok, Err, OnOk, cond, refl, ap, sym, subst, ◌∙◌}
use Rattle.std.specs.Str.{bytes_eq}
use Rattle.std.proofs.lemmas.Slice.Eq.{bytes_eq-Decides}
use denote.Ref.{Bor}
use Rattle.std.specs.Map.{lookup}
use Rattle.indexmap.specs.IndexMap.{insert_entry}
use Rattle.sta_text.specs.Names.{pairs, said}

-- a name's number is the one that stands beside the key that equals it
pub said_pairs : (es : List (Bor (List ℕ) × ℕ)) (name : List ℕ) → lookup (λ (k : Bor (List ℕ)). bytes_eq name k.now) es ≡ said (pairs es) name
said_pairs [] name = refl
said_pairs (e ∷ es) name = ap (λ rest. cond (bytes_eq name e.0.now) (Some e.1) rest) (said_pairs es name)

abbrev key_eq : Bor (List ℕ) → Bor (List ℕ) → Bool
key_eq a b = bytes_eq a.now b.now

-- a number that is set is that of its name, and every other name keeps its own
pub said_set : (es : List (Bor (List ℕ) × ℕ)) (k : Bor (List ℕ)) (v : ℕ) (q : List ℕ) → said (pairs (insert_entry key_eq es k v)) q ≡ cond (bytes_eq q k.now) (Some v) (said (pairs es) q)
said_set [] k v q = refl
said_set (e ∷ es) k v q = at_key (bytes_eq k.now e.0.now) refl (said_set es k v q)
  where
    same_key : bytes_eq k.now e.0.now ≡ true → bytes_eq q e.0.now ≡ bytes_eq q k.now
    same_key h = ap (λ x. bytes_eq q x) (sym ((bytes_eq-Decides k.now e.0.now).0 h))

    turn : (a b : Bool) (x y z : Option ℕ) → (a ≡ true → b ≡ true → ⊥) → cond a x (cond b y z) ≡ cond b y (cond a x z)
    turn true true x y z h = absurd (h refl refl)
    turn true false x y z h = refl
    turn false b x y z h = refl

    both : bytes_eq k.now e.0.now ≡ false → bytes_eq q e.0.now ≡ true → bytes_eq q k.now ≡ true → ⊥
    both h a b =
        let one : q ≡ e.0.now = (bytes_eq-Decides q e.0.now).0 a in
        let two : q ≡ k.now = (bytes_eq-Decides q k.now).0 b in
        let yes : bytes_eq k.now e.0.now ≡ true = (bytes_eq-Decides k.now e.0.now).1 (sym two ∙ one) in
        cc

    twice : (b : Bool) (x y z : Option ℕ) → cond b x z ≡ cond b x (cond b y z)
    twice true x y z = refl
    twice false x y z = refl

    at_key : (b : Bool) → bytes_eq k.now e.0.now ≡ b → said (pairs (insert_entry key_eq es k v)) q ≡ cond (bytes_eq q k.now) (Some v) (said (pairs es) q) → said (pairs (cond b ((e.0, v) ∷ es) (e ∷ insert_entry key_eq es k v))) q ≡ cond (bytes_eq q k.now) (Some v) (said (pairs (e ∷ es)) q)
    at_key true h more =
        rw (same_key h) (twice (bytes_eq q k.now) (Some v) (Some e.1) (said (pairs es) q))
    at_key false h more =
        ap (λ rest. cond (bytes_eq q e.0.now) (Some e.1) rest) more
        ∙ turn (bytes_eq q e.0.now) (bytes_eq q k.now) (Some e.1) (Some v) (said (pairs es) q) (both h)

-- a new name goes last
pub pairs_new : (es : List (Bor (List ℕ) × ℕ)) (k : Bor (List ℕ)) (v : ℕ) → said (pairs es) k.now ≡ None → pairs (insert_entry key_eq es k v) ≡ pairs es ++ (k.now, v) ∷ []
pairs_new [] k v h = refl
pairs_new (e ∷ es) k v h = at_key (bytes_eq k.now e.0.now) refl (λ g. pairs_new es k v g)
  where
    at_key : (b : Bool) → bytes_eq k.now e.0.now ≡ b → (said (pairs es) k.now ≡ None → pairs (insert_entry key_eq es k v) ≡ pairs es ++ (k.now, v) ∷ []) → pairs (cond b ((e.0, v) ∷ es) (e ∷ insert_entry key_eq es k v)) ≡ pairs (e ∷ es) ++ (k.now, v) ∷ []
    at_key true eq more = let bad : Some e.1 ≡ None = subst (λ b. cond b (Some e.1) (said (pairs es) k.now) ≡ None) eq h in absurd (cc)
    at_key false eq more =
        ap (λ rest. (e.0.now, e.1) ∷ rest)
        (more (subst (λ b. cond b (Some e.1) (said (pairs es) k.now) ≡ None) eq h))

-- what follows from a fact of success follows on success
pub on_ok : {T E : Type 0} → (r : Result T E) {A B : Type 0} → (A → B) → OnOk r A → OnOk r B
on_ok (Ok x) f h = f h
on_ok (Err e) f h = tt
