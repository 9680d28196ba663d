-- Sets of nodes, and how many different nodes a list has.

use Rattle.std.proofs.Common.{◌≡◌, ℕ, suc, ◌+◌, ◌*◌, ◌<◌, ◌≤◌, Bool, true, false, not, List, [], ◌∷◌, ◌++◌, map, length, get_or, take, refl, sym, ap, subst, ◌∙◌, inl, inr, arith, append_assoc, append-nil}
use Rattle.std.specs.Prelude.{nat_eq, ◌||◌, if◌then◌else◌}
use Rattle.std.specs.List.{list_any, IsDistinct, flat_map}
use Rattle.std.specs.Str.{bytes_eq}
use Rattle.std.proofs.lemmas.Bool.{cases_Bool, false≢true, and_from, eqb-true, eq-eqb, not_from_false}
use Rattle.std.proofs.lemmas.List.{take_more, map-append, length-map, length-append}
use Rattle.std.proofs.lemmas.List.Folds.{list_any-append}
use Rattle.indexmap.specs.IndexSet.{insert_key}
use Rattle.timing_defs.specs.declared.parasitics.RcNode.{RcNode}
use Rattle.timing_defs.specs.declared.parasitics.RcNode.TheVariants.{Pin as rc_pin, Inner as rc_inner}
use Rattle.timing_defs.specs.declared.parasitics.RcRes.{RcRes}
use Rattle.timing_defs.specs.declared.parasitics.NetRc.{NetRc}
use Rattle.timing_defs.specs.Wires.{same_rc}
use Rattle.timing_defs.specs.NetChecks.{named_nodes, different}
use Rattle.timing_defs.specs.Documents.{differ}
use Rattle.rc_tree.specs.Numbering.{node_at, AreApart}
use Rattle.rc_tree.proofs.Listing.{joined, pin_added, inner_added, apart}
use Rattle.design_link.specs.Nodes.{is_node, HaveSameNodes}
use Rattle.timing_defs.proofs.SameNames.{same_is, same_self}
use Rattle.design_link.proofs.Lists.{same_length}

-- nodes that are the same
pub node_is : (a b : RcNode) → same_rc a b ≡ true → a ≡ b
node_is (rc_pin a) (rc_pin b) e = ap rc_pin (same_is a b e)
node_is (rc_inner a) (rc_inner b) e = ap rc_inner (eqb-true a b e)
node_is (rc_pin a) (rc_inner b) e = absurd (false≢true e)
node_is (rc_inner a) (rc_pin b) e = absurd (false≢true e)

pub node_self : (a : RcNode) → same_rc a a ≡ true
node_self (rc_pin a) = same_self a
node_self (rc_inner a) = eq-eqb a a refl

or_none : (b : Bool) → (b || false) ≡ b
or_none true = refl
or_none false = refl

pub nodes_append : (xs ys : List RcNode) (q : RcNode) → is_node (xs ++ ys) q ≡ (is_node xs q || is_node ys q)
nodes_append xs ys q = list_any-append (same_rc q) xs ys

-- a set with one node more
pub pin_more : (ps ps2 : List (List ℕ)) (is : List ℕ) (k : List ℕ) → ps2 ≡ insert_key bytes_eq ps k → HaveSameNodes (joined ps2 is) (joined ps is ++ rc_pin k ∷ [])
pin_more ps ps2 is k e q =
    pin_added ps ps2 is k e q ∙ ap (λ b. is_node (joined ps is) q || b) (sym (or_none (same_rc q (rc_pin k)))) ∙ sym (nodes_append (joined ps is) (rc_pin k ∷ []) q)

pub inner_more : (ps : List (List ℕ)) (is is2 : List ℕ) (k : ℕ) → is2 ≡ insert_key nat_eq is k → HaveSameNodes (joined ps is2) (joined ps is ++ rc_inner k ∷ [])
inner_more ps is is2 k e q =
    inner_added ps is is2 k e q ∙ ap (λ b. is_node (joined ps is) q || b) (sym (or_none (same_rc q (rc_inner k)))) ∙ sym (nodes_append (joined ps is) (rc_inner k ∷ []) q)

-- one list after another
pub then_more : (old mid new xs ys : List RcNode) → HaveSameNodes mid (old ++ xs) → HaveSameNodes new (mid ++ ys) → HaveSameNodes new (old ++ (xs ++ ys))
then_more old mid new xs ys a b q =
    b q ∙ nodes_append mid ys q ∙ ap (λ t. t || is_node ys q) (a q) ∙ sym (nodes_append (old ++ xs) ys q) ∙ ap (λ ns. is_node ns q) (append_assoc old xs ys)

pub none_more : (old : List RcNode) → HaveSameNodes old (old ++ [])
none_more old q = ap (λ ns. is_node ns q) (sym (append-nil old))

pub mapped_more : {X : Type 0} (f : X → RcNode) (old mid new : List RcNode) (xs : List X) (i : ℕ) (x : X) → i < length xs → x ≡ get_or xs i x
    → HaveSameNodes mid (old ++ map f (take i xs)) → HaveSameNodes new (mid ++ f x ∷ []) → HaveSameNodes new (old ++ map f (take (i + 1) xs))
mapped_more f old mid new xs i x low here a b =
    subst (λ ys. HaveSameNodes new (old ++ ys))
    (sym (ap (map f) (take_more xs i x low ∙ ap (λ y. take i xs ++ y ∷ []) (sym here)) ∙ map-append f (take i xs) (x ∷ [])))
    (then_more old mid new (map f (take i xs)) (f x ∷ []) a b)

flat_append : {X Y : Type 0} (f : X → List Y) (xs : List X) (x : X) → flat_map f (xs ++ x ∷ []) ≡ flat_map f xs ++ f x
flat_append f [] x = append-nil (f x)
flat_append f (y ∷ xs) x = ap (λ ys. f y ++ ys) (flat_append f xs x) ∙ sym (append_assoc (f y) (flat_map f xs) (f x))

pub flat_more : {X : Type 0} (f : X → List RcNode) (old mid new : List RcNode) (xs : List X) (i : ℕ) (x : X) → i < length xs → x ≡ get_or xs i x
    → HaveSameNodes mid (old ++ flat_map f (take i xs)) → HaveSameNodes new (mid ++ f x) → HaveSameNodes new (old ++ flat_map f (take (i + 1) xs))
flat_more f old mid new xs i x low here a b =
    subst (λ ys. HaveSameNodes new (old ++ ys))
    (sym (ap (flat_map f) (take_more xs i x low ∙ ap (λ y. take i xs ++ y ∷ []) (sym here)) ∙ flat_append f (take i xs) x))
    (then_more old mid new (flat_map f (take i xs)) (f x) a b)

-- the different nodes of a list, onto those that were there before
abbrev gathered : List RcNode → List RcNode → List RcNode
gathered before [] = before
gathered before (n ∷ ns) = (if is_node before n then gathered before ns else gathered (n ∷ before) ns)

gathered_length : (before ns : List RcNode) → different before ns ≡ length (gathered before ns)
gathered_length before [] = refl
gathered_length before (n ∷ ns) = elim (cases_Bool (is_node before n)) [
  | inl e ↦ rw e (gathered_length before ns)
  | inr e ↦ rw e (gathered_length (n ∷ before) ns)
]

gathered_apart : (before ns : List RcNode) → differ same_rc before ≡ true → differ same_rc (gathered before ns) ≡ true
gathered_apart before [] d = d
gathered_apart before (n ∷ ns) d = elim (cases_Bool (is_node before n)) [
  | inl e ↦ rw e (gathered_apart before ns d)
  | inr e ↦ rw e (gathered_apart (n ∷ before) ns (and_from (not (is_node before n)) (differ same_rc before) (not_from_false (is_node before n) e) d))
]

gathered_nodes : (before ns : List RcNode) (q : RcNode) → is_node (gathered before ns) q ≡ (is_node before q || is_node ns q)
gathered_nodes before [] q = sym (or_none (is_node before q))
gathered_nodes before (n ∷ ns) q = by (is_node before n) refl (gathered_nodes before ns q) (gathered_nodes (n ∷ before) ns q)
  where
    there : (b : Bool) → same_rc q n ≡ b → is_node before n ≡ true → (is_node before q || is_node ns q) ≡ (is_node before q || (same_rc q n || is_node ns q))
    there true e h = let f : is_node before q ≡ true = ap (is_node before) (node_is q n e) ∙ h in rw f refl
    there false e h = rw e refl

    swapped : (a b c : Bool) → ((a || b) || c) ≡ (b || (a || c))
    swapped true true c = refl
    swapped true false c = refl
    swapped false true c = refl
    swapped false false c = refl

    by : (b : Bool) → is_node before n ≡ b → is_node (gathered before ns) q ≡ (is_node before q || is_node ns q)
        → is_node (gathered (n ∷ before) ns) q ≡ (is_node (n ∷ before) q || is_node ns q)
        → is_node (gathered before (n ∷ ns)) q ≡ (is_node before q || is_node (n ∷ ns) q)
    by true e old new = rw e (old ∙ there (same_rc q n) refl e)
    by false e old new = rw e (new ∙ swapped (same_rc q n) (is_node before q) (is_node ns q))

-- how many different nodes a list has
pub different_is : (xs ys : List RcNode) → differ same_rc ys ≡ true → HaveSameNodes xs ys → different [] xs ≡ length ys
different_is xs ys d same =
    gathered_length [] xs
    ∙ same_length same_rc node_is node_self (gathered [] xs) ys (gathered_apart [] xs refl) d (λ q. gathered_nodes [] xs q ∙ same q)

pub different_same : (xs ys : List RcNode) → HaveSameNodes xs ys → different [] xs ≡ different [] ys
different_same xs ys same =
    different_is xs (gathered [] ys) (gathered_apart [] ys refl) (λ q. same q ∙ sym (gathered_nodes [] ys q)) ∙ sym (gathered_length [] ys)

pub different_few : (before ns : List RcNode) → different before ns ≤ length before + length ns
different_few before [] = omega arith
different_few before (n ∷ ns) = elim (cases_Bool (is_node before n)) [
  | inl e ↦ rw e (let rest = different_few before ns in omega arith)
  | inr e ↦ rw e (let rest = different_few (n ∷ before) ns in omega arith)
]

-- nodes at different places differ
apart_head : (x : RcNode) (xs : List RcNode) → AreApart (x ∷ xs) → is_node xs x ≡ false
apart_head x xs a = away xs (λ j low same. let e = a 0 (suc j) (omega arith) (omega arith) (sym same) in omega arith)
  where
    away : (ys : List RcNode) → ((j : ℕ) → j < length ys → node_at ys j ≡ x → ⊥) → is_node ys x ≡ false
    away [] f = refl
    away (y ∷ ys) f = elim (cases_Bool (same_rc x y)) [
      | inl e ↦ absurd (f 0 (omega arith) (sym (node_is x y e)))
      | inr e ↦ rw e (away ys (λ j low same. f (suc j) (omega arith) same))
    ]

apart_differ : (xs : List RcNode) → AreApart xs → differ same_rc xs ≡ true
apart_differ [] a = refl
apart_differ (x ∷ xs) a =
    and_from (not (is_node xs x)) (differ same_rc xs) (not_from_false (is_node xs x) (apart_head x xs a))
    (apart_differ xs (λ i j li lj same. let e = a (suc i) (suc j) (omega arith) (omega arith) same in omega arith))

pub set_count : (ps : List (List ℕ)) (is : List ℕ) (count : ℕ) → IsDistinct bytes_eq ps → IsDistinct nat_eq is → count ≡ length ps + length is
    → count ≡ different [] (map rc_pin ps ++ map rc_inner is)
set_count ps is count d e had =
    had ∙ ap (λ n. length ps + n) (sym (length-map is rc_inner)) ∙ ap (λ n. n + length (map rc_inner is)) (sym (length-map ps rc_pin))
    ∙ sym (length-append (map rc_pin ps) (map rc_inner is))
    ∙ sym (different_is (joined ps is) (joined ps is) (apart_differ (joined ps is) (apart ps is d e)) (λ q. refl))

-- a pin in a set
any_map : {X Y : Type 0} (f : Y → Bool) (g : X → Y) (xs : List X) → list_any f (map g xs) ≡ list_any (λ x. f (g x)) xs
any_map f g [] = refl
any_map f g (x ∷ xs) = ap (λ b. f (g x) || b) (any_map f g xs)

any_never : {X : Type 0} (xs : List X) → list_any (λ x. false) xs ≡ false
any_never [] = refl
any_never (x ∷ xs) = any_never xs

pub pin_there : (ps : List (List ℕ)) (is : List ℕ) (name : List ℕ) → list_any (bytes_eq name) ps ≡ is_node (map rc_pin ps ++ map rc_inner is) (rc_pin name)
pin_there ps is name =
    sym (nodes_append (map rc_pin ps) (map rc_inner is) (rc_pin name)
    ∙ ap (λ b. b || is_node (map rc_inner is) (rc_pin name)) (any_map (same_rc (rc_pin name)) rc_pin ps)
    ∙ ap (λ b. list_any (bytes_eq name) ps || b) (any_map (same_rc (rc_pin name)) rc_inner is ∙ any_never is)
    ∙ or_none (list_any (bytes_eq name) ps))

-- the nodes of a net with parasitics, part by part
pub all_nodes : (rc : NetRc) (first ends all lead : List RcNode) → HaveSameNodes first lead
    → HaveSameNodes ends (first ++ flat_map (λ r. r.a ∷ r.b ∷ []) rc.ress) → HaveSameNodes all (ends ++ map (λ c. c.node) rc.caps) → HaveSameNodes all (lead ++ named_nodes rc)
all_nodes rc first ends all lead a b c q =
    then_more first ends all (flat_map (λ r. r.a ∷ r.b ∷ []) rc.ress) (map (λ c. c.node) rc.caps) b c q
    ∙ nodes_append first (named_nodes rc) q ∙ ap (λ t. t || is_node (named_nodes rc) q) (a q) ∙ sym (nodes_append lead (named_nodes rc) q)

named_length : (rc : NetRc) → length (named_nodes rc) ≡ 2 * length rc.ress + length rc.caps
named_length rc =
    length-append (flat_map (λ r. r.a ∷ r.b ∷ []) rc.ress) (map (λ c. c.node) rc.caps)
    ∙ ap (λ n. n + length (map (λ c. c.node) rc.caps)) (twice rc.ress) ∙ ap (λ n. 2 * length rc.ress + n) (length-map rc.caps (λ c. c.node))
  where
    twice : (rs : List RcRes) → length (flat_map (λ r. r.a ∷ r.b ∷ []) rs) ≡ 2 * length rs
    twice [] = refl
    twice (r ∷ rs) = let rest = twice rs in omega arith

-- little of all is few nodes
pub few_nodes : (rc : NetRc) (lead other : List RcNode) (most : ℕ) → HaveSameNodes lead other → length other ≤ most → length rc.ress ≤ most → length rc.caps ≤ most
    → different [] (lead ++ named_nodes rc) ≤ 4 * most
few_nodes rc lead other most same a b c =
    let few = different_few [] (other ++ named_nodes rc) in
    let all = length-append other (named_nodes rc) in
    let named = named_length rc in
    let is : different [] (lead ++ named_nodes rc) ≡ different [] (other ++ named_nodes rc) =
    different_same (lead ++ named_nodes rc) (other ++ named_nodes rc) (λ q.
    nodes_append lead (named_nodes rc) q ∙ ap (λ t. t || is_node (named_nodes rc) q) (same q) ∙ sym (nodes_append other (named_nodes rc) q)) in
    omega arith
