-- Nodes by their numbers: what an insertion adds, what a look-up finds, and that no node has two numbers.
use Rattle.std.proofs.Common.{Result, Ok, Err, ◌≡◌, ℕ, zero, suc, ◌+◌, ◌<◌, ◌≤◌, ◌-◌, ◌==◌, nat_eq, Bool, true, false, ◌||◌, if◌then◌else◌, List, [], ◌∷◌, ◌++◌, map, length, get_or, position, take, Option, None, Some, is_some, refl, ap, sym, subst, ◌∙◌, arith, inl, inr, append_assoc, append-nil, ◌⊎◌}
use Rattle.std.specs.List.{AllByRecursion, list_any, IsDistinct, flat_map}
use Rattle.std.specs.Result.{OnOk}
use Rattle.std.specs.Str.{bytes_eq}
use Rattle.std.proofs.lemmas.Bool.{false≢true, cases_lt, eqb-true, eq-eqb}
use Rattle.std.proofs.lemmas.List.{take_more, map-append, length-map, length-append, get_or_append_left, get_or-append_right, get_or-map}
use Rattle.std.proofs.lemmas.List.Folds.{list_any-append}
use Rattle.std.proofs.lemmas.List.Quantifiers.{position-Some}
use Rattle.std.proofs.lemmas.Map.Keys.{IsDistinct-head, IsDistinct-tail}
use Rattle.std.proofs.lemmas.Slice.Eq.{bytes_eq-Decides}
use Rattle.indexmap.specs.IndexSet.{insert_key}
use Rattle.timing_defs.specs.declared.parasitics.RcNode.{RcNode}
use Rattle.timing_defs.specs.declared.parasitics.RcNode.TheVariants.{Pin as rc_pin, Inner as rc_inner}
use Rattle.timing_defs.specs.declared.parasitics.NetRc.{NetRc}
use Rattle.timing_defs.specs.declared.rows.PinCap.{PinCap}
use Rattle.timing_defs.specs.Wires.{same_rc, is_lumped}
use Rattle.rc_tree.specs.Trees.{is_node, tree_nodes}
use Rattle.timing_defs.specs.NetChecks.{different, named_nodes}
use Rattle.rc_tree.specs.Numbering.{node_at, AreApart, IsNumberOf, IsJoined}
use Rattle.rc_tree.proofs.Routes.{same_rc_is, same_rc_self}

abbrev pub joined : List (List ℕ) → List ℕ → List RcNode
joined ps is = map rc_pin ps ++ map rc_inner is

any_map : {X Y : Type 0} (f : Y → Bool) (g : X → Y) (xs : List X) → list_any f (map g xs) ≡ list_any (λ x. f (g x)) xs
any_map f g [] = refl
any_map f g (x ∷ xs) = ap (λ b. f (g x) || b) (any_map f g xs)

any_never : {X : Type 0} (xs : List X) → list_any (λ x. false) xs ≡ false
any_never [] = refl
any_never (x ∷ xs) = any_never xs

or_none : (b : Bool) → (b || false) ≡ b
or_none true = refl
or_none false = refl

pin_in : (ps : List (List ℕ)) (is : List ℕ) (name : List ℕ) → is_node (joined ps is) (rc_pin name) ≡ list_any (bytes_eq name) ps
pin_in ps is name =
    list_any-append (same_rc (rc_pin name)) (map rc_pin ps) (map rc_inner is)
    ∙ ap (λ b. b || list_any (same_rc (rc_pin name)) (map rc_inner is)) (any_map (same_rc (rc_pin name)) rc_pin ps)
    ∙ ap (λ b. list_any (bytes_eq name) ps || b) (any_map (same_rc (rc_pin name)) rc_inner is ∙ any_never is)
    ∙ or_none (list_any (bytes_eq name) ps)

inner_in : (ps : List (List ℕ)) (is : List ℕ) (k : ℕ) → is_node (joined ps is) (rc_inner k) ≡ list_any (nat_eq k) is
inner_in ps is k =
    list_any-append (same_rc (rc_inner k)) (map rc_pin ps) (map rc_inner is)
    ∙ ap (λ b. b || list_any (same_rc (rc_inner k)) (map rc_inner is)) (any_map (same_rc (rc_inner k)) rc_pin ps ∙ any_never ps)
    ∙ any_map (same_rc (rc_inner k)) rc_inner is

any_snoc : {X : Type 0} (f : X → Bool) (xs : List X) (x : X) → list_any f (xs ++ x ∷ []) ≡ (list_any f xs || f x)
any_snoc f xs x = list_any-append f xs (x ∷ []) ∙ ap (λ b. list_any f xs || b) (or_none (f x))

-- a key that is inserted
key_in : {X : Type 0} (eq : X → X → Bool) → ((x y : X) → eq x y ≡ true → x ≡ y) → (ks : List X) (k q : X) → list_any (eq q) (insert_key eq ks k) ≡ (list_any (eq q) ks || eq q k)
key_in {X} eq same ks k q = by (list_any (eq k) ks) refl
  where
    absorbed : (a b : Bool) → (b ≡ true → a ≡ true) → a ≡ (a || b)
    absorbed true b h = refl
    absorbed false true h = h refl
    absorbed false false h = refl

    by : (b : Bool) → list_any (eq k) ks ≡ b → list_any (eq q) (insert_key eq ks k) ≡ (list_any (eq q) ks || eq q k)
    by true e = rw e (absorbed (list_any (eq q) ks) (eq q k) (λ h. subst (λ x. list_any (eq x) ks ≡ true) (sym (same q k h)) e))
    by false e = rw e (any_snoc (eq q) ks k)

bytes_same : (a b : List ℕ) → bytes_eq a b ≡ true → a ≡ b
bytes_same a b = (bytes_eq-Decides a b).0

pub pin_added : (ps ps' : List (List ℕ)) (is : List ℕ) (k : List ℕ) → ps' ≡ insert_key bytes_eq ps k → (q : RcNode) → is_node (joined ps' is) q ≡ (is_node (joined ps is) q || same_rc q (rc_pin k))
pin_added ps ps' is k e (rc_pin name) =
    pin_in ps' is name ∙ ap (list_any (bytes_eq name)) e ∙ key_in bytes_eq bytes_same ps k name ∙ ap (λ b. b || bytes_eq name k) (sym (pin_in ps is name))
pin_added ps ps' is k e (rc_inner j) =
    inner_in ps' is j ∙ sym (inner_in ps is j) ∙ sym (or_none (is_node (joined ps is) (rc_inner j)))

pub inner_added : (ps : List (List ℕ)) (is is' : List ℕ) (k : ℕ) → is' ≡ insert_key nat_eq is k → (q : RcNode) → is_node (joined ps is') q ≡ (is_node (joined ps is) q || same_rc q (rc_inner k))
inner_added ps is is' k e (rc_pin name) =
    pin_in ps is' name ∙ sym (pin_in ps is name) ∙ sym (or_none (is_node (joined ps is) (rc_pin name)))
inner_added ps is is' k e (rc_inner j) =
    inner_in ps is' j ∙ ap (list_any (nat_eq j)) e ∙ key_in nat_eq (λ x y h. eqb-true x y h) is k j ∙ ap (λ b. b || nat_eq j k) (sym (inner_in ps is j))

length_joined : (ps : List (List ℕ)) (is : List ℕ) → length (joined ps is) ≡ length ps + length is
length_joined ps is =
    length-append (map rc_pin ps) (map rc_inner is) ∙ ap (λ n. n + length (map rc_inner is)) (length-map ps rc_pin) ∙ ap (λ n. length ps + n) (length-map is rc_inner)

pin_at : (ps : List (List ℕ)) (is : List ℕ) (i : ℕ) → i < length ps → node_at (joined ps is) i ≡ rc_pin (get_or ps i [])
pin_at ps is i l =
    get_or_append_left (map rc_pin ps) (map rc_inner is) (rc_inner 0) i (let m = length-map ps rc_pin in omega arith)
    ∙ get_or-map rc_pin ps i [] (rc_inner 0) l

inner_at : (ps : List (List ℕ)) (is : List ℕ) (i : ℕ) → i < length is → node_at (joined ps is) (length ps + i) ≡ rc_inner (get_or is i 0)
inner_at ps is i l =
    get_or-append_right (map rc_pin ps) (map rc_inner is) (length ps) (length ps + i) (rc_inner 0) (length-map ps rc_pin) (omega arith)
    ∙ ap (λ k. get_or (map rc_inner is) k (rc_inner 0)) (let e : length ps + i - length ps ≡ i = omega arith in e)
    ∙ get_or-map rc_inner is i 0 (rc_inner 0) l

pub pin_number_is : (ps : List (List ℕ)) (is : List ℕ) (name : List ℕ) (o : Option ℕ) → o ≡ position (bytes_eq name) ps → is_some o ≡ list_any (bytes_eq name) ps → IsNumberOf (joined ps is) (rc_pin name) o
pin_number_is ps is name None e s = pin_in ps is name ∙ sym s
pin_number_is ps is name (Some i) e s =
    let p = position-Some (bytes_eq name) ps i [] (sym e) in
    let l : i < length ps = p.0 in
    let m = length_joined ps is in
    (omega arith, pin_at ps is i l ∙ ap rc_pin (sym (bytes_same name (get_or ps i []) p.1)))

pub inner_none : (ps : List (List ℕ)) (is : List ℕ) (k : ℕ) → false ≡ list_any (nat_eq k) is → is_node (joined ps is) (rc_inner k) ≡ false
inner_none ps is k s = inner_in ps is k ∙ sym s

pub inner_some : (ps : List (List ℕ)) (is : List ℕ) (k i : ℕ) → Some i ≡ position (nat_eq k) is → (length ps + i < length (joined ps is)) × (node_at (joined ps is) (length ps + i) ≡ rc_inner k)
inner_some ps is k i e =
    let p = position-Some (nat_eq k) is i 0 (sym e) in
    let l : i < length is = p.0 in
    let m = length_joined ps is in
    (omega arith, inner_at ps is i l ∙ ap rc_inner (sym (eqb-true k (get_or is i 0) p.1)))

-- keys that are distinct
all_at : {X : Type 0} (P : X → Type 0) (xs : List X) (i : ℕ) (d : X) → i < length xs → AllByRecursion P xs → P (get_or xs i d)
all_at P [] i d l a = absurd (omega arith)
all_at P (x ∷ xs) zero d l a = a.0
all_at P (x ∷ xs) (suc i) d l a = all_at P xs i d (omega arith) a.1

distinct_get : {X : Type 0} (eq : X → X → Bool) → ((x : X) → eq x x ≡ true) → (xs : List X) (i j : ℕ) (d : X) → IsDistinct eq xs → i < length xs → j < length xs → get_or xs i d ≡ get_or xs j d → i ≡ j
distinct_get eq own [] i j d u li lj e = absurd (omega arith)
distinct_get eq own (x ∷ xs) zero zero d u li lj e = refl
distinct_get eq own (x ∷ xs) zero (suc j) d u li lj e =
    let f : eq x (get_or xs j d) ≡ false = all_at (λ y. eq x y ≡ false) xs j d (omega arith) (IsDistinct-head eq x xs u) in
    absurd (false≢true (sym f ∙ ap (eq x) (sym e) ∙ own x))
distinct_get eq own (x ∷ xs) (suc i) zero d u li lj e =
    let f : eq x (get_or xs i d) ≡ false = all_at (λ y. eq x y ≡ false) xs i d (omega arith) (IsDistinct-head eq x xs u) in
    absurd (false≢true (sym f ∙ ap (eq x) e ∙ own x))
distinct_get eq own (x ∷ xs) (suc i) (suc j) d u li lj e = ap suc (distinct_get eq own xs i j d (IsDistinct-tail eq x xs u) (omega arith) (omega arith) e)

pub apart : (ps : List (List ℕ)) (is : List ℕ) → IsDistinct bytes_eq ps → IsDistinct nat_eq is → AreApart (joined ps is)
apart ps is dp di i j li lj e = by (cases_lt i (length ps)) (cases_lt j (length ps))
  where
    back : (x : ℕ) → length ps ≤ x → x < length (joined ps is) → (x - length ps < length is) × (x ≡ length ps + (x - length ps))
    back x l m = (let s = length_joined ps is in omega arith, omega arith)

    unlike : (x y : ℕ) → x < length ps → length ps ≤ y → y < length (joined ps is) → node_at (joined ps is) x ≡ node_at (joined ps is) y → ⊥
    unlike x y lx ly my q =
        let b = back y ly my in
        let ey : node_at (joined ps is) y ≡ rc_inner (get_or is (y - length ps) 0) = ap (node_at (joined ps is)) b.1 ∙ inner_at ps is (y - length ps) b.0 in
        let both : rc_pin (get_or ps x []) ≡ rc_inner (get_or is (y - length ps) 0) = sym (pin_at ps is x lx) ∙ q ∙ ey in
        false≢true (ap (same_rc (rc_pin (get_or ps x []))) (sym both) ∙ same_rc_self (rc_pin (get_or ps x [])))

    by : (i < length ps) ⊎ (length ps ≤ i) → (j < length ps) ⊎ (length ps ≤ j) → i ≡ j
    by (inl a) (inl b) =
        distinct_get bytes_eq (λ x. (bytes_eq-Decides x x).1 refl) ps i j [] dp a b (bytes_same (get_or ps i []) (get_or ps j [])
        (let q : rc_pin (get_or ps i []) ≡ rc_pin (get_or ps j []) = sym (pin_at ps is i a) ∙ e ∙ pin_at ps is j b in
        ap (same_rc (rc_pin (get_or ps i []))) (sym q) ∙ same_rc_self (rc_pin (get_or ps i []))))
    by (inl a) (inr b) = absurd (unlike i j a b lj e)
    by (inr a) (inl b) = absurd (unlike j i b a li (sym e))
    by (inr a) (inr b) =
        let x = back i a li in
        let y = back j b lj in
        let ex : node_at (joined ps is) i ≡ rc_inner (get_or is (i - length ps) 0) = ap (node_at (joined ps is)) x.1 ∙ inner_at ps is (i - length ps) x.0 in
        let ey : node_at (joined ps is) j ≡ rc_inner (get_or is (j - length ps) 0) = ap (node_at (joined ps is)) y.1 ∙ inner_at ps is (j - length ps) y.0 in
        let q : rc_inner (get_or is (i - length ps) 0) ≡ rc_inner (get_or is (j - length ps) 0) = sym ex ∙ e ∙ ey in
        let n : get_or is (i - length ps) 0 ≡ get_or is (j - length ps) 0 =
        eqb-true (get_or is (i - length ps) 0) (get_or is (j - length ps) 0) (ap (same_rc (rc_inner (get_or is (i - length ps) 0))) (sym q) ∙ same_rc_self (rc_inner (get_or is (i - length ps) 0))) in
        let s : i - length ps ≡ j - length ps = distinct_get nat_eq (λ z. eq-eqb z z refl) is (i - length ps) (j - length ps) 0 di x.0 y.0 n in
        omega arith

-- how many different nodes there are depends on members and their number alone
different_agree : (xs ys : List RcNode) → ((q : RcNode) → is_node xs q ≡ is_node ys q) → length xs ≡ length ys → (ns : List RcNode) → different xs ns ≡ different ys ns
different_agree xs ys h l [] = l
different_agree xs ys h l (n ∷ ns) = by (is_node xs n) refl (different_agree xs ys h l ns) (different_agree (n ∷ xs) (n ∷ ys) (λ q. ap (λ b. same_rc q n || b) (h q)) (ap suc l) ns)
  where
    by : (b : Bool) → is_node xs n ≡ b → different xs ns ≡ different ys ns → different (n ∷ xs) ns ≡ different (n ∷ ys) ns → different xs (n ∷ ns) ≡ different ys (n ∷ ns)
    by true e rest more = rw (e, sym (h n) ∙ e) rest
    by false e rest more = rw (e, sym (h n) ∙ e) more

or_swap : (a b : Bool) → (a || b) ≡ (b || a)
or_swap true b = (let e : true ≡ (b || true) = yes b in e)
  where
    yes : (b : Bool) → true ≡ (b || true)
    yes true = refl
    yes false = refl
or_swap false b = sym (or_none b)

-- a node that is added
added : (old new : List RcNode) (node : RcNode) → ((q : RcNode) → is_node new q ≡ (is_node old q || same_rc q node)) → length new ≡ (if is_node old node then length old else suc (length old))
    → ((name : List ℕ) → node_at old 0 ≡ rc_pin name → node_at new 0 ≡ rc_pin name) → IsJoined old (node ∷ []) new
added old new node m l stays = record {
  members = λ q. m q ∙ ap (λ b. is_node old q || b) (sym (or_none (same_rc q node)));
  counted = λ rest. by (is_node old node) refl rest;
  kept = stays;
}
  where
    absorbed : (b : Bool) (q : RcNode) → is_node old node ≡ true → same_rc q node ≡ b → (is_node old q || b) ≡ is_node old q
    absorbed true q t e = (let there : is_node old q ≡ true = subst (λ x. is_node old x ≡ true) (sym (same_rc_is q node e)) t in rw there refl)
    absorbed false q t e = or_none (is_node old q)

    by : (b : Bool) → is_node old node ≡ b → (rest : List RcNode) → different new rest ≡ different old (node ∷ rest)
    by true e rest =
        different_agree new old (λ q. m q ∙ ap (λ b. is_node old q || b) refl ∙ absorbed (same_rc q node) q e refl) (l ∙ (rw e refl)) rest ∙ sym (ap (λ b. if b then different old rest else different (node ∷ old) rest) e)
    by false e rest =
        different_agree new (node ∷ old) (λ q. m q ∙ or_swap (is_node old q) (same_rc q node)) (l ∙ (rw e refl)) rest ∙ sym (ap (λ b. if b then different old rest else different (node ∷ old) rest) e)

key_count : {X : Type 0} (eq : X → X → Bool) (ks : List X) (k : X) → length (insert_key eq ks k) ≡ (if list_any (eq k) ks then length ks else suc (length ks))
key_count {X} eq ks k = by (list_any (eq k) ks) refl
  where
    by : (b : Bool) → list_any (eq k) ks ≡ b → length (insert_key eq ks k) ≡ (if list_any (eq k) ks then length ks else suc (length ks))
    by true e = rw e refl
    by false e = rw e (length-append ks (k ∷ []) ∙ (let o : length ks + 1 ≡ suc (length ks) = omega arith in o))

no_pin_first : (is : List ℕ) (name : List ℕ) → node_at (map rc_inner is) 0 ≡ rc_pin name → ⊥
no_pin_first [] name e = false≢true (ap (same_rc (rc_pin name)) e ∙ same_rc_self (rc_pin name))
no_pin_first (i ∷ is) name e = false≢true (ap (same_rc (rc_pin name)) e ∙ same_rc_self (rc_pin name))

pin_keeps : (ps ps' : List (List ℕ)) (is : List ℕ) (k : List ℕ) → ps' ≡ insert_key bytes_eq ps k → (name : List ℕ) → node_at (joined ps is) 0 ≡ rc_pin name → node_at (joined ps' is) 0 ≡ rc_pin name
pin_keeps [] ps' is k e name h = absurd (no_pin_first is name h)
pin_keeps (p ∷ ps) ps' is k e name h = subst (λ xs. node_at (joined xs is) 0 ≡ rc_pin name) (sym e) (by (list_any (bytes_eq k) (p ∷ ps)))
  where
    by : (b : Bool) → node_at (joined (if b then p ∷ ps else (p ∷ ps) ++ k ∷ []) is) 0 ≡ rc_pin name
    by true = h
    by false = h

inner_keeps : (ps : List (List ℕ)) (is is' : List ℕ) (name : List ℕ) → node_at (joined ps is) 0 ≡ rc_pin name → node_at (joined ps is') 0 ≡ rc_pin name
inner_keeps [] is is' name h = absurd (no_pin_first is name h)
inner_keeps (p ∷ ps) is is' name h = h

pub pin_joined : (ps ps' : List (List ℕ)) (is : List ℕ) (k : List ℕ) → ps' ≡ insert_key bytes_eq ps k → IsJoined (joined ps is) (rc_pin k ∷ []) (joined ps' is)
pin_joined ps ps' is k e =
    added (joined ps is) (joined ps' is) (rc_pin k) (pin_added ps ps' is k e)
    (length_joined ps' is ∙ ap (λ n. n + length is) (ap length e ∙ key_count bytes_eq ps k) ∙ by (list_any (bytes_eq k) ps) refl) (pin_keeps ps ps' is k e)
  where
    by : (b : Bool) → list_any (bytes_eq k) ps ≡ b → (if list_any (bytes_eq k) ps then length ps else suc (length ps)) + length is ≡ (if is_node (joined ps is) (rc_pin k) then length (joined ps is) else suc (length (joined ps is)))
    by true b = (let h : is_node (joined ps is) (rc_pin k) ≡ true = pin_in ps is k ∙ b in rw (b, h) (sym (length_joined ps is)))
    by false b = (let h : is_node (joined ps is) (rc_pin k) ≡ false = pin_in ps is k ∙ b in let l = length_joined ps is in rw (b, h) (omega arith))

pub inner_joined : (ps : List (List ℕ)) (is is' : List ℕ) (k : ℕ) → is' ≡ insert_key nat_eq is k → IsJoined (joined ps is) (rc_inner k ∷ []) (joined ps is')
inner_joined ps is is' k e =
    added (joined ps is) (joined ps is') (rc_inner k) (inner_added ps is is' k e)
    (length_joined ps is' ∙ ap (λ n. length ps + n) (ap length e ∙ key_count nat_eq is k) ∙ by (list_any (nat_eq k) is) refl) (inner_keeps ps is is')
  where
    by : (b : Bool) → list_any (nat_eq k) is ≡ b → length ps + (if list_any (nat_eq k) is then length is else suc (length is)) ≡ (if is_node (joined ps is) (rc_inner k) then length (joined ps is) else suc (length (joined ps is)))
    by true b = (let h : is_node (joined ps is) (rc_inner k) ≡ true = inner_in ps is k ∙ b in rw (b, h) (sym (length_joined ps is)))
    by false b = (let h : is_node (joined ps is) (rc_inner k) ≡ false = inner_in ps is k ∙ b in let l = length_joined ps is in rw (b, h) (omega arith))

-- a node that is there, and one that is added
pub pin_there : (ps : List (List ℕ)) (is : List ℕ) (k : List ℕ) → list_any (bytes_eq k) ps ≡ true → IsJoined (joined ps is) (rc_pin k ∷ []) (joined ps is)
pin_there ps is k e = pin_joined ps ps is k (sym (ap (λ b. if b then ps else ps ++ k ∷ []) e))

pub pin_new : {E : Type 0} (ps ps' : List (List ℕ)) (is : List ℕ) (k copy : List ℕ) (r : Result (Unit {0}) E) → copy ≡ k → list_any (bytes_eq k) ps ≡ false → OnOk r (ps' ≡ ps ++ copy ∷ []) → OnOk r (IsJoined (joined ps is) (rc_pin k ∷ []) (joined ps' is))
pin_new ps ps' is k copy (Ok x) q e h = pin_joined ps ps' is k (h ∙ ap (λ n. ps ++ n ∷ []) q ∙ sym (ap (λ b. if b then ps else ps ++ k ∷ []) e))
pin_new ps ps' is k copy (Err x) q e h = h

pub inner_there : (ps : List (List ℕ)) (is : List ℕ) (k : ℕ) → list_any (nat_eq k) is ≡ true → IsJoined (joined ps is) (rc_inner k ∷ []) (joined ps is)
inner_there ps is k e = inner_joined ps is is k (sym (ap (λ b. if b then is else is ++ k ∷ []) e))

pub inner_new : {E : Type 0} (ps : List (List ℕ)) (is is' : List ℕ) (k : ℕ) (r : Result (Unit {0}) E) → list_any (nat_eq k) is ≡ false → OnOk r (is' ≡ is ++ k ∷ []) → OnOk r (IsJoined (joined ps is) (rc_inner k ∷ []) (joined ps is'))
inner_new ps is is' k (Ok x) e h = inner_joined ps is is' k (h ∙ sym (ap (λ b. if b then is else is ++ k ∷ []) e))
inner_new ps is is' k (Err x) e h = h

-- one list after another
pub joined_none : (old : List RcNode) → IsJoined old [] old
joined_none old = record { members = λ q. sym (or_none (is_node old q)); counted = λ rest. refl; kept = λ name e. e }

pub joined_both : (old xs mid ys new : List RcNode) → IsJoined old xs mid → IsJoined mid ys new → IsJoined old (xs ++ ys) new
joined_both old xs mid ys new a b = record {
  members = λ q. b.members q ∙ ap (λ t. t || is_node ys q) (a.members q) ∙ grouped (is_node old q) (is_node xs q) (is_node ys q) ∙ ap (λ t. is_node old q || t) (sym (list_any-append (same_rc q) xs ys));
  counted = λ rest. b.counted rest ∙ a.counted (ys ++ rest) ∙ ap (different old) (sym (append_assoc xs ys rest));
  kept = λ name e. b.kept name (a.kept name e);
}
  where
    grouped : (x y z : Bool) → ((x || y) || z) ≡ (x || (y || z))
    grouped true y z = refl
    grouped false y z = refl

pub joined_map : {X : Type 0} (f : X → RcNode) (old mid new : List RcNode) (xs : List X) (i : ℕ) (x : X) → i < length xs → x ≡ get_or xs i x → IsJoined old (map f (take i xs)) mid → IsJoined mid (f x ∷ []) new → IsJoined old (map f (take (i + 1) xs)) new
joined_map f old mid new xs i x l e a b =
    subst (λ ys. IsJoined old ys new)
    (sym (ap (map f) (take_more xs i x l ∙ ap (λ y. take i xs ++ y ∷ []) (sym e)) ∙ map-append f (take i xs) (x ∷ [])))
    (joined_both old (map f (take i xs)) mid (f x ∷ []) new a b)

flat_append : {X Y : Type 0} (f : X → List Y) (xs : List X) (x : X) → flat_map f (xs ++ x ∷ []) ≡ flat_map f xs ++ f x
flat_append f [] x = append-nil (f x)
flat_append f (y ∷ xs) x = ap (λ ys. f y ++ ys) (flat_append f xs x) ∙ sym (append_assoc (f y) (flat_map f xs) (f x))

pub joined_flat : {X : Type 0} (f : X → List RcNode) (old mid new : List RcNode) (xs : List X) (i : ℕ) (x : X) → i < length xs → x ≡ get_or xs i x → IsJoined old (flat_map f (take i xs)) mid → IsJoined mid (f x) new → IsJoined old (flat_map f (take (i + 1) xs)) new
joined_flat f old mid new xs i x l e a b =
    subst (λ ys. IsJoined old ys new)
    (sym (ap (flat_map f) (take_more xs i x l ∙ ap (λ y. take i xs ++ y ∷ []) (sym e)) ∙ flat_append f (take i xs) x))
    (joined_both old (flat_map f (take i xs)) mid (f x) new a b)

-- the nodes of a tree, part by part
pub joined_tree : (net : NetRc) (root : List ℕ) (pins : List PinCap) (none first lumped ends all : List RcNode) → none ≡ [] → IsJoined none (rc_pin root ∷ []) first
    → IsJoined first (if is_lumped net then map (λ p. rc_pin p.pin) pins else []) lumped
    → IsJoined lumped (flat_map (λ r. r.a ∷ r.b ∷ []) net.ress) ends → IsJoined ends (map (λ c. c.node) net.caps) all → IsJoined [] (tree_nodes net root pins) all
joined_tree net root pins none first lumped ends all e a b c d =
    let tail : IsJoined lumped (named_nodes net) all = joined_both lumped (flat_map (λ r. r.a ∷ r.b ∷ []) net.ress) ends (map (λ c. c.node) net.caps) all c d in
    let more : IsJoined first ((if is_lumped net then map (λ p. rc_pin p.pin) pins else []) ++ named_nodes net) all =
    joined_both first (if is_lumped net then map (λ p. rc_pin p.pin) pins else []) lumped (named_nodes net) all b tail in
    joined_both [] (rc_pin root ∷ []) first ((if is_lumped net then map (λ p. rc_pin p.pin) pins else []) ++ named_nodes net) all (subst (λ xs. IsJoined xs (rc_pin root ∷ []) first) e a) more

-- the root is first
pub root_first : (root : List ℕ) (xs ys none first lumped ends all : List RcNode) (zs : List RcNode) → none ≡ [] → IsJoined none (rc_pin root ∷ []) first → IsJoined first xs lumped → IsJoined lumped ys ends → IsJoined ends zs all
    → node_at all 0 ≡ rc_pin root
root_first root xs ys none first lumped ends all zs e a b c d =
    let one : IsJoined [] (rc_pin root ∷ []) first = subst (λ ns. IsJoined ns (rc_pin root ∷ []) first) e a in
    d.kept root (c.kept root (b.kept root (only first (one.counted []) (one.members (rc_pin root) ∙ ap (λ t. t || false) (same_rc_self (rc_pin root))))))
  where
    only : (ns : List RcNode) → length ns ≡ 1 → is_node ns (rc_pin root) ≡ true → node_at ns 0 ≡ rc_pin root
    only [] l h = absurd (false≢true h)
    only (n ∷ []) l h = sym (same_rc_is (rc_pin root) n (sym (or_none (same_rc (rc_pin root) n)) ∙ h))
    only (n ∷ m ∷ ns) l h = absurd (omega arith)

pub lumped_yes : (net : NetRc) (pins : List PinCap) (old new : List RcNode) → (length net.ress == 0) ≡ true → IsJoined old (map (λ p. rc_pin p.pin) pins) new → IsJoined old (if is_lumped net then map (λ p. rc_pin p.pin) pins else []) new
lumped_yes net pins old new e a = subst (λ b. IsJoined old (if b then map (λ p. rc_pin p.pin) pins else []) new) (sym e) a

pub lumped_no : (net : NetRc) (pins : List PinCap) (old : List RcNode) → (length net.ress == 0) ≡ false → IsJoined old (if is_lumped net then map (λ p. rc_pin p.pin) pins else []) old
lumped_no net pins old e = subst (λ b. IsJoined old (if b then map (λ p. rc_pin p.pin) pins else []) old) (sym e) (joined_none old)
