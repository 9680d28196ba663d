-- What waits, by keys.

use Rattle.std.proofs.Common.{◌≡◌, ℕ, ◌+◌, ◌-◌, ◌<◌, ◌≤◌, ◌==◌, Bool, true, false, cond, ◌&&◌, ◌||◌, List, [], ◌∷◌, ◌++◌, map, length, get_or, refl, ap, sym, subst, ◌∙◌, inl, inr, arith}
use Rattle.std.specs.Prelude.{All, Option, Some, None, Result, Ok, Err, OnOk, OnErr, IfSome, IsSome, is_some, ◌↔◌}
use Rattle.std.specs.declared.cmp.Ordering.{Ordering}
use Rattle.std.specs.declared.cmp.Ordering.TheVariants.{Less, Equal, Greater}
use Rattle.std.specs.List.{list_any, dedup}
use Rattle.std.specs.List.Retain.{IsFiltered, DiffersFromLast}
use Rattle.std.specs.List.Sorted.{IsPermutation, IsSorted, IsStrictlyIncreasing}
use Rattle.std.specs.Option.{unwrap_or}
use Rattle.std.specs.Ordering.{is_eq, nat_cmp, match_ordering}
use Rattle.std.specs.Map.{keys_of, values_of, lookup, set_value}
use Rattle.std.specs.BTreeMap.{is_at, insert_entry}
use Rattle.std.proofs.lemmas.Bool.{cases_Bool, cases_eq, eq-eqb, ne_eqb, eqb-true, and_left, and_right, and_parts, and_from, or_cases, false≢true}
use Rattle.std.proofs.lemmas.Bool.Decides.{nat_tests}
use Rattle.std.proofs.lemmas.List.{get_or-map, get_or_append_left, length-map, length-append, map_push, append_assoc}
use Rattle.std.proofs.lemmas.List.Folds.{list_any_none, list_any_at, list_any-append}
use Rattle.std.proofs.lemmas.List.Elements.{All-head, All-tail, All-nil, All-cons, All-append, All-map, Contains-get_or}
use Rattle.std.proofs.lemmas.List.Kept.{Contains-dedup_nat, Contains-from_dedup}
use Rattle.std.proofs.lemmas.List.Filters.{dedup_is}
use Rattle.std.proofs.lemmas.List.Sorted.{list_any-IsPermutation}
use Rattle.std.proofs.lemmas.Map.Steps.{set_value_same}
use Rattle.std.proofs.lemmas.Map.Keys.{IsStrictlyIncreasing-dedup}
use Rattle.std.proofs.lemmas.Map.Views.{All-values-set_value, All-values-insert_entry, IfSome-lookup_from_All}
use Rattle.std.proofs.Math.Nat.{le-max_left, le-max_right, max-le}
use Rattle.timing_defs.proofs.ListLemmas.{list_any_agree, list_any_map}
use Rattle.timing_defs.proofs.Members.{any_in, any_back}
use Rattle.level_cone.specs.Waiting.{key_level, key_node, key_of, waits, listed_keys, AreLists, IsRisingOf, ArePast, IsTurn, room}

pub waits_by : (keys : List ℕ) (l n : ℕ) → waits keys l n ≡ list_any (λ key. (key_level key == l) && (key_node key == n)) keys
unfolding waits
waits_by keys l n = refl

both_ways : (a b : Bool) → (a ≡ true → b ≡ true) → (b ≡ true → a ≡ true) → a ≡ b
both_ways true b forth back = sym (forth refl)
both_ways false true forth back = back refl
both_ways false false forth back = refl

or_false : (b : Bool) → (b || false) ≡ b
or_false true = refl
or_false false = refl

key_parts : (l n : ℕ) → n < 4294967296 → (key_level (key_of l n) ≡ l) × (key_node (key_of l n) ≡ n)
key_parts l n low = (omega arith, omega arith)

key_whole : (k l n : ℕ) → key_level k ≡ l → key_node k ≡ n → key_of l n ≡ k
key_whole k l n level node = omega arith

key_test : (k l n : ℕ) → n < 4294967296 → ((key_level k == l) && (key_node k == n)) ≡ (key_of l n == k)
key_test k l n low = elim (cases_eq (key_of l n) k) [
  | inl same ↦
      let parts = key_parts l n low in
      let level : key_level k ≡ l = ap key_level (sym same) ∙ parts.0 in
      let node : key_node k ≡ n = ap key_node (sym same) ∙ parts.1 in
      rw (eq-eqb (key_level k) l level, eq-eqb (key_node k) n node, eq-eqb (key_of l n) k same) refl
  | inr other ↦ elim (cases_eq (key_level k) l) [
    | inl level ↦ rw (eq-eqb (key_level k) l level, ne_eqb (key_node k) n (λ node. other (key_whole k l n level node)), ne_eqb (key_of l n) k other) refl
    | inr none ↦ rw (ne_eqb (key_level k) l none, ne_eqb (key_of l n) k other) refl
  ]
]

cond_or : (a b : Bool) → cond a true b ≡ (b || a)
cond_or true true = refl
cond_or true false = refl
cond_or false true = refl
cond_or false false = refl

at_test : (a b : ℕ) → is_at (nat_cmp a) b ≡ (a == b)
at_test a b = grind (arith, nat_tests)

less_told : (a b : ℕ) → nat_cmp a b ≡ Less → a < b
less_told a b less = grind (arith, nat_tests)

or_last : (a b c : Bool) → ((a || (b || false)) || c) ≡ ((a || c) || b)
or_last true b c = refl
or_last false true true = refl
or_last false true false = refl
or_last false false true = refl
or_last false false false = refl

or_front : (a b c : Bool) → (a || (b || c)) ≡ ((a || b) || c)
or_front true b c = refl
or_front false b c = refl

or_nil : (a b : Bool) → ((a || false) || b) ≡ (b || a)
or_nil true true = refl
or_nil true false = refl
or_nil false true = refl
or_nil false false = refl

abbrev test_key : ℕ → ℕ → ℕ → Bool
test_key l n key = (key_level key == l) && (key_node key == n)

key_told : (level node l n : ℕ) → node < 4294967296 → test_key l n (key_of level node) ≡ ((level == l) && (node == n))
key_told level node l n low = let told = key_parts level node low in rw (told.0, told.1) refl

some_same : {X : Type 0} (a b : X) → Some a ≡ Some b → a ≡ b
some_same a b same = ap (λ o. unwrap_or o b) same

-- a test of the keys of lists, the first and the others
any_first : (p : ℕ → Bool) (e : ℕ × List ℕ) (es : List (ℕ × List ℕ))
    → list_any p (listed_keys (e ∷ es)) ≡ (list_any p (map (key_of e.0) e.1) || list_any p (listed_keys es))
any_first p e es = list_any-append p (map (key_of e.0) e.1) (listed_keys es)

any_push : (p : ℕ → Bool) (level node : ℕ) (nodes : List ℕ)
    → list_any p (map (key_of level) (nodes ++ node ∷ [])) ≡ (list_any p (map (key_of level) nodes) || (p (key_of level node) || false))
any_push p level node nodes =
    ap (list_any p) (map_push (key_of level) nodes node) ∙ list_any-append p (map (key_of level) nodes) (key_of level node ∷ [])

-- one node more in the list of a level
any_set : (p : ℕ → Bool) (level node : ℕ) (nodes : List ℕ) (lists : List (ℕ × List ℕ)) → lookup (is_at (nat_cmp level)) lists ≡ Some nodes
    → list_any p (listed_keys (set_value (is_at (nat_cmp level)) lists (nodes ++ node ∷ []))) ≡ (list_any p (listed_keys lists) || p (key_of level node))
any_set p level node nodes [] found = absurd (false≢true (ap is_some found))
any_set p level node nodes (e ∷ es) found = elim (cases_Bool (is_at (nat_cmp level) e.0)) [
  | inl here ↦
      let same : level ≡ e.0 = eqb-true level e.0 (sym (at_test level e.0) ∙ here) in
      let list : e.1 ≡ nodes = some_same e.1 nodes (sym (ap (λ b. cond b (Some e.1) (lookup (is_at (nat_cmp level)) es)) here) ∙ found) in
      ap (λ b. list_any p (listed_keys (cond b ((e.0, nodes ++ node ∷ []) ∷ es) (e ∷ set_value (is_at (nat_cmp level)) es (nodes ++ node ∷ []))))) here
      ∙ any_first p (e.0, nodes ++ node ∷ []) es
      ∙ ap (λ b. b || list_any p (listed_keys es)) (any_push p e.0 node nodes)
      ∙ or_last (list_any p (map (key_of e.0) nodes)) (p (key_of e.0 node)) (list_any p (listed_keys es))
      ∙ ap (λ (xs : List ℕ). (list_any p (map (key_of e.0) xs) || list_any p (listed_keys es)) || p (key_of e.0 node)) (sym list)
      ∙ ap (λ (k : ℕ). (list_any p (map (key_of e.0) e.1) || list_any p (listed_keys es)) || p (key_of k node)) (sym same)
      ∙ ap (λ b. b || p (key_of level node)) (sym (any_first p e es))
  | inr other ↦
      let more = any_set p level node nodes es (sym (ap (λ b. cond b (Some e.1) (lookup (is_at (nat_cmp level)) es)) other) ∙ found) in
      ap (λ b. list_any p (listed_keys (cond b ((e.0, nodes ++ node ∷ []) ∷ es) (e ∷ set_value (is_at (nat_cmp level)) es (nodes ++ node ∷ []))))) other
      ∙ any_first p e (set_value (is_at (nat_cmp level)) es (nodes ++ node ∷ []))
      ∙ ap (λ b. list_any p (map (key_of e.0) e.1) || b) more
      ∙ or_front (list_any p (map (key_of e.0) e.1)) (list_any p (listed_keys es)) (p (key_of level node))
      ∙ ap (λ b. b || p (key_of level node)) (sym (any_first p e es))
]

-- a list for a level that has none
module _ (p : ℕ → Bool) (level node : ℕ) where
  -- what a list for a level that has none tells of a test
  abbrev IsInserted : List (ℕ × List ℕ) → Type 0
  IsInserted lists = list_any p (listed_keys (insert_entry nat_cmp lists level (node ∷ []))) ≡ (list_any p (listed_keys lists) || p (key_of level node))

  insert_by : (e : ℕ × List ℕ) (es : List (ℕ × List ℕ)) → lookup (is_at (nat_cmp level)) (e ∷ es) ≡ None
      → (lookup (is_at (nat_cmp level)) es ≡ None → IsInserted es) → (o : Ordering) → nat_cmp level e.0 ≡ o
      → list_any p (listed_keys (match_ordering o ((level, node ∷ []) ∷ e ∷ es) ((e.0, node ∷ []) ∷ es) (e ∷ insert_entry nat_cmp es level (node ∷ []))))
      ≡ (list_any p (listed_keys (e ∷ es)) || p (key_of level node))
  insert_by e es none more Less is = any_first p (level, node ∷ []) (e ∷ es) ∙ or_nil (p (key_of level node)) (list_any p (listed_keys (e ∷ es)))
  insert_by e es none more Equal is =
      absurd (false≢true (sym (sym (ap (λ o. is_some (cond (is_eq o) (Some e.1) (lookup (is_at (nat_cmp level)) es))) is) ∙ ap is_some none)))
  insert_by e es none more Greater is =
      any_first p e (insert_entry nat_cmp es level (node ∷ []))
      ∙ ap (λ b. list_any p (map (key_of e.0) e.1) || b) (more (sym (ap (λ o. cond (is_eq o) (Some e.1) (lookup (is_at (nat_cmp level)) es)) is) ∙ none))
      ∙ or_front (list_any p (map (key_of e.0) e.1)) (list_any p (listed_keys es)) (p (key_of level node))
      ∙ ap (λ b. b || p (key_of level node)) (sym (any_first p e es))

  any_insert : (lists : List (ℕ × List ℕ)) → lookup (is_at (nat_cmp level)) lists ≡ None → IsInserted lists
  any_insert [] none = or_false (p (key_of level node))
  any_insert (e ∷ es) none = insert_by e es none (any_insert es) (nat_cmp level e.0) refl

module _ (level node : ℕ) (low : node < 4294967296) (old new : List (ℕ × List ℕ)) where
  -- where any test of the keys tells of one key more, a node more waits
  by_keys : ((p : ℕ → Bool) → list_any p (listed_keys new) ≡ (list_any p (listed_keys old) || p (key_of level node)))
      → (l n : ℕ) → waits (listed_keys new) l n ≡ (waits (listed_keys old) l n || ((level == l) && (node == n)))
  by_keys told l n =
      waits_by (listed_keys new) l n
      ∙ told (test_key l n)
      ∙ ap (λ b. list_any (test_key l n) (listed_keys old) || b) (key_told level node l n low)
      ∙ ap (λ b. b || ((level == l) && (node == n))) (sym (waits_by (listed_keys old) l n))

  -- one node more in the list of a level
  added : (nodes : List ℕ) → lookup (is_at (nat_cmp level)) old ≡ Some nodes → new ≡ set_value (is_at (nat_cmp level)) old (nodes ++ node ∷ [])
      → (l n : ℕ) → waits (listed_keys new) l n ≡ (waits (listed_keys old) l n || ((level == l) && (node == n)))
  added nodes found is = by_keys (λ p. ap (λ es. list_any p (listed_keys es)) is ∙ any_set p level node nodes old found)

  -- a list for a level that had none
  opened : lookup (is_at (nat_cmp level)) old ≡ None → new ≡ insert_entry nat_cmp old level (node ∷ [])
      → (l n : ℕ) → waits (listed_keys new) l n ≡ (waits (listed_keys old) l n || ((level == l) && (node == n)))
  opened none is = by_keys (λ p. ap (λ es. list_any p (listed_keys es)) is ∙ any_insert p level node old none)

abbrev IsListed : List ℕ → Type 0
IsListed nodes = (0 < length nodes) × All (λ node. node < 4294967296) nodes

-- what waits by lists of levels above one, waits above it
pub past_lists : (level : ℕ) (lists : List (ℕ × List ℕ)) → All (λ l. level < l) (keys_of lists) → AreLists lists → ArePast level (listed_keys lists)
past_lists level [] above are = All-nil (λ key. level < key_level key)
past_lists level (e ∷ es) above are =
    let over : level < e.0 = All-head (λ l. level < l) e.0 (keys_of es) above in
    let listed = All-head IsListed e.1 (values_of es) are in
    All-append (λ key. level < key_level key) (map (key_of e.0) e.1) (listed_keys es)
    (All-map (λ key. level < key_level key) (key_of e.0) e.1 (λ k d within.
    let told = (key_parts e.0 (get_or e.1 k d) (listed.1 k d within)).0 in
    subst (λ (l : ℕ). level < l) (sym told) over))
    (past_lists level es (All-tail (λ l. level < l) e.0 (keys_of es) above) (All-tail IsListed e.1 (values_of es) are))

-- lists with one node more are lists
lists_set : (level node : ℕ) (nodes : List ℕ) (old : List (ℕ × List ℕ)) → node < 4294967296 → lookup (is_at (nat_cmp level)) old ≡ Some nodes
    → AreLists old → AreLists (set_value (is_at (nat_cmp level)) old (nodes ++ node ∷ []))
lists_set level node nodes old low found are =
    let there : IsListed nodes = subst (λ o. IfSome o IsListed) found (IfSome-lookup_from_All IsListed (is_at (nat_cmp level)) old are) in
    All-values-set_value (is_at (nat_cmp level)) IsListed old (nodes ++ node ∷ []) are
    (omega (arith, length-append nodes (node ∷ [])), All-append (λ n. n < 4294967296) nodes (node ∷ []) there.1 (All-cons (λ n. n < 4294967296) node [] low (All-nil (λ n. n < 4294967296))))

lists_insert : (level node : ℕ) (old : List (ℕ × List ℕ)) → node < 4294967296 → AreLists old → AreLists (insert_entry nat_cmp old level (node ∷ []))
lists_insert level node old low are =
    All-values-insert_entry nat_cmp level (node ∷ []) IsListed old are
    (omega arith, All-cons (λ n. n < 4294967296) node [] low (All-nil (λ n. n < 4294967296)))

-- what is written through the list of a level: one node more, or nothing
module _ (level node : ℕ) (nodes last : List ℕ) (old new : List (ℕ × List ℕ)) (low : node < 4294967296)
    (found : lookup (is_at (nat_cmp level)) old ≡ Some nodes) (written : new ≡ set_value (is_at (nat_cmp level)) old last) where
  as_pushed : last ≡ nodes ++ node ∷ [] → new ≡ set_value (is_at (nat_cmp level)) old (nodes ++ node ∷ [])
  as_pushed ok = written ∙ ap (set_value (is_at (nat_cmp level)) old) ok

  as_before : last ≡ nodes → new ≡ old
  as_before err = written ∙ ap (set_value (is_at (nat_cmp level)) old) err ∙ set_value_same (is_at (nat_cmp level)) old nodes found

  pub written_lists : {A B : Type 0} (r : Result A B) → OnOk r (last ≡ nodes ++ node ∷ []) → OnErr r (last ≡ nodes) → AreLists old → AreLists new
  written_lists (Ok x) ok err are = subst AreLists (sym (as_pushed ok)) (lists_set level node nodes old low found are)
  written_lists (Err e) ok err are = subst AreLists (sym (as_before err)) are

  pub written_ok : {A B : Type 0} (r : Result A B) → OnOk r (last ≡ nodes ++ node ∷ [])
      → OnOk r ((l n : ℕ) → waits (listed_keys new) l n ≡ (waits (listed_keys old) l n || ((level == l) && (node == n))))
  written_ok (Ok x) ok = added level node low old new nodes found (as_pushed ok)
  written_ok (Err e) ok = tt

  pub written_err : {A B : Type 0} (r : Result A B) → OnErr r (last ≡ nodes) → OnErr r (listed_keys new ≡ listed_keys old)
  written_err (Ok x) err = tt
  written_err (Err e) err = ap listed_keys (as_before err)

-- what is put in as the list of a level that had none: one node, or nothing
module _ (level node : ℕ) (last : List ℕ) (old before new : List (ℕ × List ℕ)) (low : node < 4294967296)
    (none : lookup (is_at (nat_cmp level)) old ≡ None) (same : before ≡ old) (one : last ≡ node ∷ []) where
  as_opened : new ≡ insert_entry nat_cmp before level last → new ≡ insert_entry nat_cmp old level (node ∷ [])
  as_opened ok = ok ∙ ap (λ es. insert_entry nat_cmp es level last) same ∙ ap (insert_entry nat_cmp old level) one

  pub opened_lists : {A B : Type 0} (r : Result A B) → OnOk r (new ≡ insert_entry nat_cmp before level last) → OnErr r (new ≡ before) → AreLists old → AreLists new
  opened_lists (Ok x) ok err are = subst AreLists (sym (as_opened ok)) (lists_insert level node old low are)
  opened_lists (Err e) ok err are = subst AreLists (sym (err ∙ same)) are

  pub opened_ok : {A B : Type 0} (r : Result A B) → OnOk r (new ≡ insert_entry nat_cmp before level last)
      → OnOk r ((l n : ℕ) → waits (listed_keys new) l n ≡ (waits (listed_keys old) l n || ((level == l) && (node == n))))
  opened_ok (Ok x) ok = opened level node low old new none (as_opened ok)
  opened_ok (Err e) ok = tt

module _ (level : ℕ) where
  past_none : (keys : List ℕ) (l n : ℕ) → l ≤ level → ArePast level keys → waits keys l n ≡ false
  past_none keys l n under past = waits_by keys l n ∙ list_any_none (λ key. (key_level key == l) && (key_node key == n)) keys
      (λ k d within.
      let above = past k d within in
      and_left (key_level (get_or keys k d) == l) (key_node (get_or keys k d) == n) (ne_eqb (key_level (get_or keys k d)) l (λ e. omega arith)))

  module _ (old new nodes : List ℕ) (parts : old ≡ map (key_of level) nodes ++ new) (low : All (λ n. n < 4294967296) nodes) where
    -- what waited is what is taken, and what still waits
    waited : (l n : ℕ) → waits old l n ≡ (list_any (λ node. (level == l) && (node == n)) nodes || waits new l n)
    waited l n =
        waits_by old l n
        ∙ ap (list_any (λ key. (key_level key == l) && (key_node key == n))) parts
        ∙ list_any-append (λ key. (key_level key == l) && (key_node key == n)) (map (key_of level) nodes) new
        ∙ ap (λ (b : Bool). b || list_any (λ key. (key_level key == l) && (key_node key == n)) new)
        (list_any_map (λ key. (key_level key == l) && (key_node key == n)) (key_of level) nodes
        ∙ list_any_agree (λ node. (key_level (key_of level node) == l) && (key_node (key_of level node) == n)) (λ node. (level == l) && (node == n)) nodes
        (λ k d within.
        let told = key_parts level (get_or nodes k d) (low k d within) in
        rw (told.0, told.1) refl))
        ∙ ap (λ (b : Bool). list_any (λ node. (level == l) && (node == n)) nodes || b) (sym (waits_by new l n))

    module _ (turn : List ℕ) (some : 0 < length nodes) (fits : level < 4294967296) (is : IsRisingOf nodes turn) (past : ArePast level new) where
      some_taken : (xs ys : List ℕ) → xs ≡ turn → ys ≡ nodes → 0 < length xs
      some_taken [] [] is_turn is_nodes = absurd (let none : length nodes ≡ 0 = ap length (sym is_nodes) in omega arith)
      some_taken [] (y ∷ ys) is_turn is_nodes =
          let there : list_any (λ node. node == y) nodes ≡ true =
          ap (list_any (λ node. node == y)) (sym is_nodes) ∙ ap (λ b. b || list_any (λ node. node == y) ys) (eq-eqb y y refl) in
          let none : list_any (λ node. node == y) turn ≡ false = ap (list_any (λ node. node == y)) (sym is_turn) in
          absurd (false≢true (sym none ∙ is.same y ∙ there))
      some_taken (x ∷ xs) ys is_turn is_nodes = omega arith

      -- all that waits at the least level is taken
      pub turn_is : IsTurn old new level turn
      turn_is = record {
        low = fits;
        some = some_taken turn nodes refl refl;
        rising = is.rising;
        each = λ n. is.same n ∙ sym (waited level n ∙ rw (eq-eqb level level refl, past_none new level n (omega arith) past) (or_false (list_any (λ node. node == n) nodes)));
        least = λ l n under. waited l n ∙ rw (ne_eqb level l (λ e. omega arith), past_none new l n (omega arith) past)
            (or_false (list_any (λ (node : ℕ). false) nodes) ∙ list_any_none (λ (node : ℕ). false) nodes (λ k d within. refl));
        rest = λ l n. elim (cases_eq l level) [
          | inl here ↦ past_none new l n (omega arith) past ∙ rw (eq-eqb l level here) refl
          | inr other ↦ sym (rw (ne_eqb l level other) (waited l n
              ∙ rw (ne_eqb level l (λ e. other (sym e))) (ap (λ (b : Bool). b || waits new l n) (list_any_none (λ (node : ℕ). false) nodes (λ k d within. refl)))))
        ];
      }

-- sorted numbers without those that stand there before
module _ (xs ys zs : List ℕ) (perm : IsPermutation xs ys) (sorted : IsSorted nat_cmp ys) (filtered : IsFiltered (DiffersFromLast ◌==◌) [] ys zs) where
  same_numbers : (p : ℕ → Bool) → list_any p (dedup ◌==◌ ys) ≡ list_any p ys
  same_numbers p = both_ways (list_any p (dedup ◌==◌ ys)) (list_any p ys)
      (λ e. let r = any_back p (dedup ◌==◌ ys) e in any_in p ys r.item (Contains-from_dedup ◌==◌ ys r.item r.within) r.passes)
      (λ e. let r = any_back p ys e in any_in p (dedup ◌==◌ ys) r.item (Contains-dedup_nat ys r.item r.within) r.passes)

  pub rising_of : IsRisingOf xs zs
  rising_of = record {
    rising = subst IsStrictlyIncreasing (sym (dedup_is ◌==◌ ys zs filtered)) (IsStrictlyIncreasing-dedup ys sorted);
    same = λ n. ap (list_any (λ node. node == n)) (dedup_is ◌==◌ ys zs filtered) ∙ same_numbers (λ node. node == n) ∙ sym (list_any-IsPermutation (λ node. node == n) xs ys perm);
  }

-- where no key is left no node waits
pub none_waits : (keys : List ℕ) → keys ≡ [] → (l n : ℕ) → waits keys l n ≡ false
none_waits keys none l n = waits_by keys l n ∙ ap (list_any (λ key. (key_level key == l) && (key_node key == n))) none

-- where there is no list no node waits
pub no_lists : {Y : Type 0} (o : Option Y) (lists : List (ℕ × List ℕ)) → IsSome o ↔ (0 < length lists) → o ≡ None → (l n : ℕ) → waits (listed_keys lists) l n ≡ false
no_lists o [] some none = none_waits [] refl
no_lists o (e ∷ es) some none = absurd (false≢true (ap is_some (sym none) ∙ some.1 (omega arith)))

-- the lists of the levels above the first
pub lists_rest : (level : ℕ) (nodes : List ℕ) (old new : List (ℕ × List ℕ)) → old ≡ (level, nodes) ∷ new → AreLists old → AreLists new
lists_rest level nodes old new is are = All-tail IsListed nodes (values_of new) (subst AreLists is are)

-- the first list is what a turn takes
pub turn_of : (level : ℕ) (nodes turn : List ℕ) (old new : List (ℕ × List ℕ)) → level < 4294967296 → old ≡ (level, nodes) ∷ new → AreLists old
    → All (λ l. nat_cmp level l ≡ Less) (keys_of new) → IsRisingOf nodes turn → IsTurn (listed_keys old) (listed_keys new) level turn
turn_of level nodes turn old new fits is are above rising =
    let listed : IsListed nodes = All-head IsListed nodes (values_of new) (subst AreLists is are) in
    turn_is level (listed_keys old) (listed_keys new) nodes (ap listed_keys is) listed.1 turn listed.0 fits rising
    (past_lists level new (λ k d within. less_told level (get_or (keys_of new) k d) (above k d within)) (lists_rest level nodes old new is are))

-- what waits at a level is within the room
room_least : (keys : List ℕ) (l n : ℕ) → list_any (λ key. (key_level key == l) && (key_node key == n)) keys ≡ true → 4294967296 - l ≤ room keys
room_least [] l n some = absurd (false≢true some)
room_least (key ∷ keys) l n some = elim (or_cases ((key_level key == l) && (key_node key == n)) (list_any (λ k. (key_level k == l) && (key_node k == n)) keys) some) [
  | inl here ↦
      let level : key_level key ≡ l = eqb-true (key_level key) l (and_parts (key_level key == l) (key_node key == n) here).0 in
      let most = le-max_left (4294967296 - key_level key) (room keys) in
      subst (λ (m : ℕ). 4294967296 - m ≤ room (key ∷ keys)) level most
  | inr there ↦
      let more = room_least keys l n there in
      let most = le-max_right (4294967296 - key_level key) (room keys) in
      omega arith
]

room_most : (keys : List ℕ) (b : ℕ) → All (λ key. 4294967296 - key_level key ≤ b) keys → room keys ≤ b
room_most [] b all = omega arith
room_most (key ∷ keys) b all =
    let here = All-head (λ (k : ℕ). 4294967296 - key_level k ≤ b) key keys all in
    let more = room_most keys b (All-tail (λ (k : ℕ). 4294967296 - key_level k ≤ b) key keys all) in
    max-le here more

-- where all that waited at a level or below it is gone, the room is less
pub room_less : (old last : List ℕ) (level n : ℕ) → level < 4294967296 → waits old level n ≡ true
    → ((l m : ℕ) → waits last l m ≡ true → level < l) → room last < room old
room_less old last level n low some above =
    let from = room_least old level n (sym (waits_by old level n) ∙ some) in
    let most = room_most last (4294967296 - (level + 1)) (λ k d within.
    let there : waits last (key_level (get_or last k d)) (key_node (get_or last k d)) ≡ true =
    waits_by last (key_level (get_or last k d)) (key_node (get_or last k d))
    ∙ list_any_at (λ key. (key_level key == key_level (get_or last k d)) && (key_node key == key_node (get_or last k d))) last k d within
    (and_from (key_level (get_or last k d) == key_level (get_or last k d)) (key_node (get_or last k d) == key_node (get_or last k d))
    (eq-eqb (key_level (get_or last k d)) (key_level (get_or last k d)) refl) (eq-eqb (key_node (get_or last k d)) (key_node (get_or last k d)) refl)) in
    let less = above (key_level (get_or last k d)) (key_node (get_or last k d)) there in
    omega arith) in
    omega arith
