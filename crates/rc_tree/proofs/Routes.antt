-- Simple paths as lists of places of resistors: what `route` finds is one, and it finds one where there is one.
use Rattle.std.proofs.Common.{◌≡◌, ℕ, zero, suc, ◌≤◌, Bool, true, false, ◌||◌, if◌then◌else◌, List, [], ◌∷◌, ◌++◌, map, length, Option, None, Some, is_some, refl, ap, sym, subst, ◌∙◌, arith, inl, inr, append_assoc, ◌⊎◌}
use Rattle.std.specs.List.{AllByRecursion, list_any}
use Rattle.std.specs.Option.{option_map_or}
use Rattle.std.specs.Prelude.{option_map}
use Rattle.std.proofs.lemmas.Bool.{false≢true, eqb-true, eq-eqb}
use Rattle.std.proofs.lemmas.List.{map-append, length-map}
use Rattle.std.proofs.lemmas.Option.{none-some}
use Rattle.std.proofs.lemmas.Slice.Eq.{bytes_eq-Decides}
use Rattle.timing_defs.specs.declared.parasitics.RcNode.{RcNode}
use Rattle.timing_defs.specs.declared.parasitics.RcNode.TheVariants.{Pin as rc_pin, Inner as rc_inner}
use Rattle.timing_defs.specs.declared.parasitics.RcRes.{RcRes}
use Rattle.timing_defs.specs.Wires.{same_rc, touches, far_end, each_with_rest, first_some, route, path_between}

-- a place of a list
abbrev pub Among : ℕ → List ℕ → Type 0
Among k [] = ⊥
Among k (j ∷ js) = (k ≡ j) ⊎ Among k js

abbrev pub Lacks : ℕ → List ℕ → Type 0
Lacks k js = AllByRecursion (λ j. k ≡ j → ⊥) js

abbrev pub Differ : List ℕ → Type 0
Differ [] = Unit {0}
Differ (j ∷ js) = Lacks j js × Differ js

-- what holds of one element
abbrev pub AnyOf : {X : Type 0} → (X → Type 0) → List X → Type 0
AnyOf Q [] = ⊥
AnyOf Q (x ∷ xs) = Q x ⊎ AnyOf Q xs

pub all_append : {X : Type 0} (P : X → Type 0) (xs ys : List X) → AllByRecursion P xs → AllByRecursion P ys → AllByRecursion P (xs ++ ys)
all_append P [] ys a b = b
all_append P (x ∷ xs) ys a b = (a.0, all_append P xs ys a.1 b)

pub all_left : {X : Type 0} (P : X → Type 0) (xs ys : List X) → AllByRecursion P (xs ++ ys) → AllByRecursion P xs
all_left P [] ys a = tt
all_left P (x ∷ xs) ys a = (a.0, all_left P xs ys a.1)

pub all_right : {X : Type 0} (P : X → Type 0) (xs ys : List X) → AllByRecursion P (xs ++ ys) → AllByRecursion P ys
all_right P [] ys a = a
all_right P (x ∷ xs) ys a = all_right P xs ys a.1

pub all_more : {X : Type 0} (P Q : X → Type 0) → ((x : X) → P x → Q x) → (xs : List X) → AllByRecursion P xs → AllByRecursion Q xs
all_more P Q h [] a = tt
all_more P Q h (x ∷ xs) a = (h x a.0, all_more P Q h xs a.1)

pub all_both : {X : Type 0} (P Q : X → Type 0) (xs : List X) → AllByRecursion P xs → AllByRecursion Q xs → AllByRecursion (λ x. P x × Q x) xs
all_both P Q [] a b = tt
all_both P Q (x ∷ xs) a b = ((a.0, b.0), all_both P Q xs a.1 b.1)

pub any_more : {X : Type 0} (P Q : X → Type 0) → ((x : X) → P x → Q x) → (xs : List X) → AnyOf P xs → AnyOf Q xs
any_more P Q h [] a = a
any_more P Q h (x ∷ xs) (inl p) = inl (h x p)
any_more P Q h (x ∷ xs) (inr a) = inr (any_more P Q h xs a)

pub among_all : (P : ℕ → Type 0) (k : ℕ) (js : List ℕ) → Among k js → AllByRecursion P js → P k
among_all P k [] i a = absurd i
among_all P k (j ∷ js) (inl e) a = subst P (sym e) a.0
among_all P k (j ∷ js) (inr i) a = among_all P k js i a.1

-- elements of a list with each left out in turn
abbrev pub Rest : (ℕ → Type 0) → ℕ → (ℕ × List ℕ) → Type 0
Rest P n e = P e.0 × AllByRecursion P e.1 × Lacks e.0 e.1 × Differ e.1 × (suc (length e.1) ≡ n)

lacks_middle : (k : ℕ) (before : List ℕ) (x : ℕ) (after : List ℕ) → Lacks k (before ++ x ∷ after) → Lacks k (before ++ after)
lacks_middle k [] x after l = l.1
lacks_middle k (b ∷ before) x after l = (l.0, lacks_middle k before x after l.1)

differ_middle : (before : List ℕ) (x : ℕ) (after : List ℕ) → Differ (before ++ x ∷ after) → Differ (before ++ after)
differ_middle [] x after d = d.1
differ_middle (b ∷ before) x after d = (lacks_middle b before x after d.0, differ_middle before x after d.1)

lacks_front : (b : ℕ) (before : List ℕ) (x : ℕ) (after : List ℕ) → Lacks b (before ++ x ∷ after) → b ≡ x → ⊥
lacks_front b [] x after l = l.0
lacks_front b (c ∷ before) x after l = lacks_front b before x after l.1

apart : (before : List ℕ) (x : ℕ) (after : List ℕ) → Differ (before ++ x ∷ after) → Lacks x (before ++ after)
apart [] x after d = d.0
apart (b ∷ before) x after d = ((λ e. lacks_front b before x after d.0 (sym e)), apart before x after d.1)

length_middle : (before : List ℕ) (x : ℕ) (after : List ℕ) → suc (length (before ++ after)) ≡ length (before ++ x ∷ after)
length_middle [] x after = refl
length_middle (b ∷ before) x after = ap suc (length_middle before x after)

rests_from : (P : ℕ → Type 0) (n : ℕ) (before after : List ℕ) → AllByRecursion P (before ++ after) → Differ (before ++ after) → length (before ++ after) ≡ n → AllByRecursion (Rest P n) (each_with_rest before after)
rests_from P n before [] a d l = tt
rests_from P n before (x ∷ after) a d l =
    let more : (before ++ x ∷ []) ++ after ≡ before ++ x ∷ after = append_assoc before (x ∷ []) after in (
      (
        (all_right P before (x ∷ after) a).0,
        all_append P before after (all_left P before (x ∷ after) a) (all_right P before (x ∷ after) a).1,
        apart before x after d,
        differ_middle before x after d,
        length_middle before x after ∙ l,
      ),
      rests_from P n (before ++ x ∷ []) after (subst (AllByRecursion P) (sym more) a) (subst Differ (sym more) d) (ap length more ∙ l),
    )

pub rests : (P : ℕ → Type 0) (js : List ℕ) → AllByRecursion P js → Differ js → AllByRecursion (Rest P (length js)) (each_with_rest [] js)
rests P js a d = rests_from P (length js) [] js a d refl

-- one of them leaves out `k`
abbrev pub LeftOut : ℕ → List ℕ → (ℕ × List ℕ) → Type 0
LeftOut k js e = (e.0 ≡ k) × ((j : ℕ) → Among j js → (k ≡ j → ⊥) → Among j e.1) × (suc (length e.1) ≡ length js)

among_middle : (j : ℕ) (before : List ℕ) (x : ℕ) (after : List ℕ) → Among j (before ++ x ∷ after) → (x ≡ j → ⊥) → Among j (before ++ after)
among_middle j [] x after (inl e) n = absurd (n (sym e))
among_middle j [] x after (inr i) n = i
among_middle j (b ∷ before) x after (inl e) n = inl e
among_middle j (b ∷ before) x after (inr i) n = inr (among_middle j before x after i n)

left_out_from : (k : ℕ) (before after : List ℕ) → Among k after → AnyOf (LeftOut k (before ++ after)) (each_with_rest before after)
left_out_from k before [] i = absurd i
left_out_from k before (x ∷ after) (inl e) =
    inl (sym e, (λ j there other. among_middle j before x after there (λ same. other (e ∙ same))), length_middle before x after)
left_out_from k before (x ∷ after) (inr i) =
    let more : (before ++ x ∷ []) ++ after ≡ before ++ x ∷ after = append_assoc before (x ∷ []) after in
    inr (subst (λ js. AnyOf (LeftOut k js) (each_with_rest (before ++ x ∷ []) after)) more (left_out_from k (before ++ x ∷ []) after i))

pub left_out : (k : ℕ) (js : List ℕ) → Among k js → AnyOf (LeftOut k js) (each_with_rest [] js)
left_out k js i = left_out_from k [] js i

-- nodes
pub same_rc_is : (a b : RcNode) → same_rc a b ≡ true → a ≡ b
same_rc_is (rc_pin a) (rc_pin b) h = ap rc_pin ((bytes_eq-Decides a b).0 h)
same_rc_is (rc_inner a) (rc_inner b) h = ap rc_inner (eqb-true a b h)
same_rc_is (rc_pin a) (rc_inner b) h = absurd (false≢true h)
same_rc_is (rc_inner a) (rc_pin b) h = absurd (false≢true h)

pub same_rc_self : (a : RcNode) → same_rc a a ≡ true
same_rc_self (rc_pin a) = (bytes_eq-Decides a a).1 refl
same_rc_self (rc_inner a) = eq-eqb a a refl

some-injective : {X : Type 0} (a b : X) → Some a ≡ Some b → a ≡ b
some-injective a b e = cc

-- first_some and list_any
first_some_map : {X Y Z : Type 0} (f : Y → Option Z) (g : X → Y) (xs : List X) → first_some f (map g xs) ≡ first_some (λ x. f (g x)) xs
first_some_map f g [] = refl
first_some_map f g (x ∷ xs) = ap (λ o. option_map_or Some (f (g x)) o) (first_some_map f g xs)

any_map : {X Y : Type 0} (f : Y → Bool) (g : X → Y) (xs : List X) → list_any f (map g xs) ≡ list_any (λ x. f (g x)) xs
any_map f g [] = refl
any_map f g (x ∷ xs) = ap (λ b. f (g x) || b) (any_map f g xs)

first_some_from : {X Y : Type 0} (f : X → Option Y) (Q : X → Type 0) (xs : List X) (y : Y) → AllByRecursion Q xs → first_some f xs ≡ Some y → (x : X) × Q x × (f x ≡ Some y)
first_some_from f Q [] y a e = absurd (none-some y e)
first_some_from {X} {Y} f Q (x ∷ xs) y a e = by (f x) refl (first_some_from f Q xs y a.1)
  where
    by : (o : Option Y) → f x ≡ o → (first_some f xs ≡ Some y → (z : X) × Q z × (f z ≡ Some y)) → (z : X) × Q z × (f z ≡ Some y)
    by None o rest = rest (rw o at e)
    by (Some z) o rest = (x, a.0, o ∙ (rw o at e))

first_some_any : {X Y : Type 0} (f : X → Option Y) (xs : List X) → AnyOf (λ x. is_some (f x) ≡ true) xs → is_some (first_some f xs) ≡ true
first_some_any f [] i = absurd i
first_some_any {X} {Y} f (x ∷ xs) i = by (f x) refl i (first_some_any f xs)
  where
    by : (o : Option Y) → f x ≡ o → (is_some (f x) ≡ true) ⊎ AnyOf (λ x. is_some (f x) ≡ true) xs → (AnyOf (λ x. is_some (f x) ≡ true) xs → is_some (first_some f xs) ≡ true) → is_some (option_map_or Some (f x) (first_some f xs)) ≡ true
    by None o (inl s) rest = absurd (false≢true (ap is_some (sym o) ∙ s))
    by None o (inr i) rest = rw o (rest i)
    by (Some z) o i rest = rw o refl

any_found : {X : Type 0} (f : X → Bool) (xs : List X) → AnyOf (λ x. f x ≡ true) xs → list_any f xs ≡ true
any_found f [] i = absurd i
any_found f (x ∷ xs) (inl e) = rw e refl
any_found f (x ∷ xs) (inr i) = or_true (f x) (list_any f xs) (any_found f xs i)
  where
    or_true : (a b : Bool) → b ≡ true → (a || b) ≡ true
    or_true true b h = refl
    or_true false b h = h

none_found : {X : Type 0} (f : X → Bool) (xs : List X) → AllByRecursion (λ x. f x ≡ false) xs → list_any f xs ≡ false
none_found f [] a = refl
none_found f (x ∷ xs) a = rw (a.0, none_found f xs a.1)

module _ (at : ℕ → RcRes) where
  abbrev pub with_rest : (ℕ × List ℕ) → RcRes × List RcRes
  with_rest e = (at e.0, map at e.1)

  rests_map : (before after : List ℕ) → each_with_rest (map at before) (map at after) ≡ map with_rest (each_with_rest before after)
  rests_map before [] = refl
  rests_map before (x ∷ after) =
      let here : map at before ++ map at after ≡ map at (before ++ after) = sym (map-append at before after) in
      let next : map at before ++ at x ∷ [] ≡ map at (before ++ x ∷ []) = sym (map-append at before (x ∷ [])) in
      rw (here, next, rests_map (before ++ x ∷ []) after)

  -- a walk over resistors by their places
  abbrev pub Walk : RcNode → List ℕ → RcNode → Type 0
  Walk from [] to = from ≡ to
  Walk from (k ∷ ks) to = (touches (at k) from ≡ true) × Walk (far_end (at k) from) ks to

  abbrev pub Found : (ℕ → Type 0) → RcNode → RcNode → List RcRes → Type 0
  Found P from to p = (ks : List ℕ) × (p ≡ map at ks) × Walk from ks to × Differ ks × AllByRecursion P ks

  abbrev step : ℕ → RcNode → RcNode → (RcRes × List RcRes) → Option (List RcRes)
  step n from to = (λ (r, rest). if touches r from then option_map (λ rs. r ∷ rs) (route n rest (far_end r from) to) else None)

  same_case : (P : ℕ → Type 0) (from to : RcNode) (p : List RcRes) → same_rc from to ≡ true → Some [] ≡ Some p → Found P from to p
  same_case P from to p s e = ([], sym (some-injective [] p e), same_rc_is from to s, tt, tt)

  taken : (n : ℕ) (from to : RcNode) (k : ℕ) (rest : List ℕ) (p : List RcRes) → step n from to (with_rest (k, rest)) ≡ Some p
      → (touches (at k) from ≡ true) × ((q : List RcRes) × (p ≡ at k ∷ q) × (route n (map at rest) (far_end (at k) from) to ≡ Some q))
  taken n from to k rest p e = by (touches (at k) from) refl (route n (map at rest) (far_end (at k) from) to) refl
    where
      by : (b : Bool) → touches (at k) from ≡ b → (o : Option (List RcRes)) → route n (map at rest) (far_end (at k) from) to ≡ o
          → (touches (at k) from ≡ true) × ((q : List RcRes) × (p ≡ at k ∷ q) × (route n (map at rest) (far_end (at k) from) to ≡ Some q))
      by false b o r = absurd (none-some p (rw b at e))
      by true b None r = absurd (none-some p (rw (b, r) at e))
      by true b (Some q) r =
          let g : Some (at k ∷ q) ≡ Some p = rw (b, r) at e in
          (b, (q, sym (some-injective (at k ∷ q) p g), r))

  abbrev Sound : ℕ → Type 1
  Sound n = (P : ℕ → Type 0) (js : List ℕ) (from to : RcNode) (p : List RcRes) → AllByRecursion P js → Differ js → route n (map at js) from to ≡ Some p → Found P from to p

  sound_step : (n : ℕ) → Sound n → Sound (suc n)
  sound_step n ih P js from to p a d e = by (same_rc from to) refl
    where
      go : (k : ℕ) (rest : List ℕ) → Rest P (length js) (k, rest) → step n from to (with_rest (k, rest)) ≡ Some p → Found P from to p
      go k rest r s =
          let t = taken n from to k rest p s in
          let g = ih (λ j. P j × (k ≡ j → ⊥)) rest (far_end (at k) from) to t.1.0 (all_both P (λ j. k ≡ j → ⊥) rest r.1 r.2) r.3 t.1.2 in (
            k ∷ g.0,
            t.1.1 ∙ ap (λ ps. at k ∷ ps) g.1,
            (t.0, g.2),
            (all_more (λ j. P j × (k ≡ j → ⊥)) (λ j. k ≡ j → ⊥) (λ j q. q.1) g.0 g.4, g.3),
            (r.0, all_more (λ j. P j × (k ≡ j → ⊥)) P (λ j q. q.0) g.0 g.4),
          )

      found : first_some (step n from to) (each_with_rest [] (map at js)) ≡ Some p → Found P from to p
      found f =
          let f' : first_some (λ e. step n from to (with_rest e)) (each_with_rest [] js) ≡ Some p =
          sym (first_some_map (step n from to) with_rest (each_with_rest [] js)) ∙ ap (first_some (step n from to)) (sym (rests_map [] js)) ∙ f in
          let x = first_some_from (λ e. step n from to (with_rest e)) (Rest P (length js)) (each_with_rest [] js) p (rests P js a d) f' in
          go x.0.0 x.0.1 x.1 x.2

      by : (b : Bool) → same_rc from to ≡ b → Found P from to p
      by true b = same_case P from to p b (rw b at e)
      by false b = found (rw b at e)

  sound_zero : Sound zero
  sound_zero P js from to p a d e = by (same_rc from to) refl
    where
      by : (b : Bool) → same_rc from to ≡ b → Found P from to p
      by true b = same_case P from to p b (rw b at e)
      by false b = absurd (none-some p (rw b at e))

  -- what is found is a walk over different resistors
  pub sound : (n : ℕ) → Sound n
  sound zero = sound_zero
  sound (suc n) = sound_step n (sound n)

  abbrev Complete : ℕ → Type 0
  Complete n = (js : List ℕ) (from : RcNode) (ks : List ℕ) (to : RcNode) → length js ≤ n → Walk from ks to → Differ ks → AllByRecursion (λ k. Among k js) ks → is_some (route n (map at js) from to) ≡ true

  stays : (n : ℕ) (js : List ℕ) (from to : RcNode) → from ≡ to → is_some (route n (map at js) from to) ≡ true
  stays zero js from to e = let same : same_rc from to ≡ true = subst (λ t. same_rc from t ≡ true) e (same_rc_self from) in rw same refl
  stays (suc n) js from to e = let same : same_rc from to ≡ true = subst (λ t. same_rc from t ≡ true) e (same_rc_self from) in rw same refl

  still : (k : ℕ) (js : List ℕ) (rest : List ℕ) (ks : List ℕ) → ((j : ℕ) → Among j js → (k ≡ j → ⊥) → Among j rest) → Lacks k ks → AllByRecursion (λ j. Among j js) ks → AllByRecursion (λ j. Among j rest) ks
  still k js rest [] h l a = tt
  still k js rest (x ∷ ks) h l a = (h x a.0 l.0, still k js rest ks h l.1 a.1)

  complete_step : (n : ℕ) → Complete n → (js : List ℕ) (from : RcNode) (k : ℕ) (ks : List ℕ) (to : RcNode) → length js ≤ suc n → Walk from (k ∷ ks) to → Differ (k ∷ ks) → AllByRecursion (λ j. Among j js) (k ∷ ks) → is_some (route (suc n) (map at js) from to) ≡ true
  complete_step n ih js from k ks to l w d a = by (same_rc from to) refl
    where
      goes : (e : ℕ × List ℕ) → LeftOut k js e → is_some (step n from to (with_rest e)) ≡ true
      goes e out =
          let here : e.0 ≡ k = out.0 in
          let short : length e.1 ≤ n = (let s = out.2 in omega arith) in
          let r : is_some (route n (map at e.1) (far_end (at e.0) from) to) ≡ true =
          ih e.1 (far_end (at e.0) from) ks to short
          (subst (λ j. Walk (far_end (at j) from) ks to) (sym here) w.1) d.1 (still k js e.1 ks out.1 d.0 a.1) in
          let t : touches (at e.0) from ≡ true = subst (λ j. touches (at j) from ≡ true) (sym here) w.0 in
          rw t (mapped (route n (map at e.1) (far_end (at e.0) from) to) r)
        where
          mapped : (o : Option (List RcRes)) → is_some o ≡ true → is_some (option_map (λ rs. at e.0 ∷ rs) o) ≡ true
          mapped None h = h
          mapped (Some x) h = refl

      some : is_some (first_some (step n from to) (each_with_rest [] (map at js))) ≡ true
      some =
          ap (λ es. is_some (first_some (step n from to) es)) (rests_map [] js)
          ∙ ap is_some (first_some_map (step n from to) with_rest (each_with_rest [] js))
          ∙ first_some_any (λ e. step n from to (with_rest e)) (each_with_rest [] js)
          (any_more (LeftOut k js) (λ e. is_some (step n from to (with_rest e)) ≡ true) goes (each_with_rest [] js) (left_out k js a.0))

      by : (b : Bool) → same_rc from to ≡ b → is_some (route (suc n) (map at js) from to) ≡ true
      by true b = rw b refl
      by false b = rw b some

  no_room : (k : ℕ) (js : List ℕ) → length js ≤ 0 → Among k js → ⊥
  no_room k [] l i = i
  no_room k (j ∷ js) l i = omega arith

  -- where there is a walk over different resistors, one is found
  pub complete : (n : ℕ) → Complete n
  complete n js from [] to l w d a = stays n js from to w
  complete zero js from (k ∷ ks) to l w d a = absurd (no_room k js l a.0)
  complete (suc n) js from (k ∷ ks) to l w d a = complete_step n (complete n) js from k ks to l w d a

  abbrev closes : (RcRes × List RcRes) → Bool
  closes = (λ (r, rest). is_some (path_between rest r.a r.b))

  -- a walk between the ends of a resistor that does not use it is a cycle
  pub cycle_found : (js : List ℕ) (k : ℕ) (ks : List ℕ) → Among k js → Walk (at k).a ks (at k).b → Differ ks → AllByRecursion (λ j. Among j js) ks → Lacks k ks
      → list_any (λ (r, rest). is_some (path_between rest r.a r.b)) (each_with_rest [] (map at js)) ≡ true
  cycle_found js k ks i w d a l =
      ap (list_any closes) (rests_map [] js)
      ∙ any_map closes with_rest (each_with_rest [] js)
      ∙ any_found (λ e. closes (with_rest e)) (each_with_rest [] js)
      (any_more (LeftOut k js) (λ e. closes (with_rest e) ≡ true) goes (each_with_rest [] js) (left_out k js i))
    where
      goes : (e : ℕ × List ℕ) → LeftOut k js e → closes (with_rest e) ≡ true
      goes e out =
          let many : length (map at e.1) ≡ length e.1 = length-map e.1 at in
          let w' : Walk (at e.0).a ks (at e.0).b = subst (λ j. Walk (at j).a ks (at j).b) (sym out.0) w in
          complete (length (map at e.1)) e.1 (at e.0).a ks (at e.0).b (omega arith) w' d (still k js e.1 ks out.1 l a)

  -- where no such walk is, there is no cycle
  pub no_cycle : (P : ℕ → Type 0) (js : List ℕ) → AllByRecursion P js → Differ js
      → ((k : ℕ) (ks : List ℕ) → P k → Walk (at k).a ks (at k).b → Differ ks → AllByRecursion (λ j. P j × (k ≡ j → ⊥)) ks → ⊥)
      → list_any (λ (r, rest). is_some (path_between rest r.a r.b)) (each_with_rest [] (map at js)) ≡ false
  no_cycle P js a d h =
      ap (list_any closes) (rests_map [] js)
      ∙ any_map closes with_rest (each_with_rest [] js)
      ∙ none_found (λ e. closes (with_rest e)) (each_with_rest [] js)
      (all_more (Rest P (length js)) (λ e. closes (with_rest e) ≡ false) goes (each_with_rest [] js) (rests P js a d))
    where
      goes : (e : ℕ × List ℕ) → Rest P (length js) e → closes (with_rest e) ≡ false
      goes e r = by (path_between (map at e.1) (at e.0).a (at e.0).b) refl
        where
          by : (o : Option (List RcRes)) → path_between (map at e.1) (at e.0).a (at e.0).b ≡ o → closes (with_rest e) ≡ false
          by None o = rw o refl
          by (Some p) o =
              let f = sound (length (map at e.1)) (λ j. P j × (e.0 ≡ j → ⊥)) e.1 (at e.0).a (at e.0).b p (all_both P (λ j. e.0 ≡ j → ⊥) e.1 r.1 r.2) r.3 o in
              absurd (h e.0 f.0 r.0 f.2 f.3 f.4)
