-- Cycles of numbers are loops of names.

use Rattle.std.proofs.Common.{◌≡◌, ℕ, ◌+◌, ◌<◌, Bool, true, false, not, List, [], ◌∷◌, ◌++◌, map, length, get_or, take, drop, Option, None, Some, Result, Ok, Err, refl, sym, ap, subst, ◌∙◌, inl, inr, arith, append_assoc, rules}
use Rattle.std.specs.Prelude.{is_some, nat_eq, ◌&&◌, if◌then◌else◌, Contains, All, IfOk}
use Rattle.std.specs.List.{list_any, list_all, IsDistinct}
use Rattle.std.specs.Option.{option_map_or, unwrap_or}
use Rattle.std.specs.declared.cmp.Ordering.{Ordering}
use Rattle.std.specs.declared.cmp.Ordering.TheVariants.{Less, Equal, Greater}
use Rattle.std.specs.Ordering.{ordering_reverse, is_lt, is_gt, nat_cmp}
use Rattle.std.specs.Cmp.{IsTotalOrder}
use Rattle.std.specs.Cmp.Lexicographic.{slice_cmp}
use Rattle.std.specs.Cmp.Rules.{comparing}
use Rattle.std.specs.Str.{bytes_eq}
use Rattle.std.proofs.lemmas.Bool.{cases_Bool, cases_eq, false≢true, and_parts, and_from, not-true, not_from_false, ne_eqb, false_from_ne_true}
use Rattle.std.proofs.lemmas.Cmp.{upto, nat_eq_equiv}
use Rattle.std.proofs.lemmas.List.{append-nil, map-append, take-map, drop-map, drop_more, take-append-drop, take_at, length-map, get_or-map}
use Rattle.std.proofs.lemmas.List.Elements.{All-append, All-contains, All-cons, All-drop, All-head, All-tail, All-take, All-map, Contains-push, Contains-get_or, recursion_from_All, All-from_recursion}
use Rattle.std.proofs.lemmas.List.Sorted.{IsPermutation-append_comm}
use Rattle.std.proofs.lemmas.Map.Keys.{IsDistinct-head, IsDistinct-tail, IsDistinct-cons, IsDistinct-from_apart, IsDistinct-IsPermutation}
use Rattle.timing_defs.specs.declared.design.Design.{Design}
use Rattle.timing_defs.specs.Netlist.{Pin, name_of, pins, pin_named, is_listed, are_distinct}
use Rattle.timing_defs.specs.NetChecks.{net_fault, is_before}
use Rattle.timing_rules.specs.Checks.{walks_to, leads, leads_along, is_loop, HasNoLoop}
use Rattle.netlist_store.specs.Linked.{IsLinked}
use Rattle.netlist_store.specs.Numbering.{Stored, name_at, number_of, is_number, IsNumbered}
use Rattle.levelizer.specs.declared.links.Link.{Link}
use Rattle.levelizer.specs.Levels.{IsJoined, IsWalk, IsCycle, HasNoCycle, AreWithin}
use Rattle.pin_graph.specs.Joins.{pin_links}
use Rattle.pin_graph.specs.Loops.{number_name}
use Rattle.timing_defs.proofs.SameNames.{same_is, same_self}
use Rattle.timing_defs.proofs.Members.{some_is, any_in, any_back, in_map_back, found_in, found_passes}
use Rattle.store_pins.proofs.PinLaws.{HasNumber, told_at, there, pin_found, pin_told, pin_at_number}
use Rattle.pin_graph.proofs.JoinLaws.{links_lead, lead_links, walks_in}

-- names in order
total : IsTotalOrder (slice_cmp nat_cmp)
total = search (comparing, rules)

pub flipped : (a b : List ℕ) → is_gt (slice_cmp nat_cmp a b) ≡ is_before b a
flipped a b = by (slice_cmp nat_cmp b a) (slice_cmp nat_cmp a b) (total.antisymm a b)
  where
    by : (o p : Ordering) → p ≡ ordering_reverse o → is_gt p ≡ is_lt o
    by Less p e = ap is_gt e
    by Equal p e = ap is_gt e
    by Greater p e = ap is_gt e

-- no name comes before a best that none before it came before
not_before : (a b c : List ℕ) → is_before b a ≡ false → is_before c b ≡ false → is_before c a ≡ false
not_before a b c h k = sym (flipped a c) ∙ upto total a b c (flipped a b ∙ h) (flipped b c ∙ k)

before_flips : (a b : List ℕ) → is_before b a ≡ true → is_before a b ≡ false
before_flips a b h = by (slice_cmp nat_cmp b a) (slice_cmp nat_cmp a b) (total.antisymm a b) h
  where
    by : (o p : Ordering) → p ≡ ordering_reverse o → is_lt o ≡ true → is_lt p ≡ false
    by Less p e g = ap is_lt e
    by Equal p e g = absurd (false≢true g)
    by Greater p e g = absurd (false≢true g)

not_itself : (a : List ℕ) → is_before a a ≡ false
not_itself a = false_from_ne_true (is_before a a) (λ h. false≢true (sym (before_flips a a h) ∙ h))

pub turned_ok : {E : Type 0} (r : Result (List (List ℕ)) E) (d : Design) (turned : List (List ℕ)) → is_loop d turned ≡ true → IfOk r (λ names. names ≡ turned)
    → IfOk r (λ names. is_loop d names ≡ true)
turned_ok (Ok names) d turned e h = ap (is_loop d) h ∙ e
turned_ok (Err f) d turned e h = tt

-- the best place so far
pub record IsBest (names : List (List ℕ)) (place i : ℕ) : Type 0 where
  pub within : place < length names
  pub least : (k : ℕ) → k < i → is_before (get_or names k []) (get_or names place []) ≡ false

pub best_none : (names : List (List ℕ)) → 0 < length names → IsBest names 0 0
best_none names some = record { within = some; least = λ k h. absurd (omega arith) }

pub best_more : (names : List (List ℕ)) (place place' i : ℕ) → IsBest names place i → i < length names
    → place' ≡ (if is_before (get_or names i []) (get_or names place []) then i else place) → IsBest names place' (i + 1)
best_more names place place' i had low e = elim (cases_Bool (is_before (get_or names i []) (get_or names place []))) [
  | inl h ↦
      let is : place' ≡ i = e ∙ ap (λ b. if b then i else place) h in
      rw is (record {
        within = low;
        least = λ k l. elim (cases_eq k i) [
          | inl same ↦ rw same (not_itself (get_or names i []))
          | inr other ↦
              not_before (get_or names i []) (get_or names place []) (get_or names k []) (before_flips (get_or names place []) (get_or names i []) h)
              (had.least k (omega arith))
        ];
      })
  | inr h ↦
      let is : place' ≡ place = e ∙ ap (λ b. if b then i else place) h in
      rw is (record {
        within = had.within;
        least = λ k l. elim (cases_eq k i) [ inl same ↦ rw same h | inr other ↦ had.least k (omega arith) ];
      })
]

-- a walk in two parts
walk_split : (arcs : List Link) (x : ℕ) (xs : List ℕ) (y : ℕ) (zs : List ℕ) → IsWalk arcs x (xs ++ y ∷ zs) → IsWalk arcs x (xs ++ y ∷ []) × IsWalk arcs y zs
walk_split arcs x [] y zs w = ((w.0, tt), w.1)
walk_split arcs x (z ∷ xs) y zs w = let r = walk_split arcs z xs y zs w.1 in ((w.0, r.0), r.1)

walk_join : (arcs : List Link) (y : ℕ) (ys : List ℕ) (x : ℕ) (us : List ℕ) → IsWalk arcs y (ys ++ x ∷ []) → IsWalk arcs x us → IsWalk arcs y (ys ++ x ∷ us)
walk_join arcs y [] x us w v = (w.0, v)
walk_join arcs y (z ∷ ys) x us w v = (w.0, walk_join arcs z ys x us w.1 v)

same_flips : (a b : ℕ) → nat_eq a b ≡ nat_eq b a
same_flips a b = nat_eq_equiv.symm a b

-- a cycle from another of its nodes on
turn : (arcs : List Link) (xs ys : List ℕ) → IsCycle arcs (xs ++ ys) → IsCycle arcs (ys ++ xs)
turn arcs [] ys c = subst (λ (ns : List ℕ). IsCycle arcs ns) (sym (append-nil ys)) c
turn arcs (x ∷ xs) [] c = subst (λ (ns : List ℕ). IsCycle arcs ns) (append-nil (x ∷ xs)) c
turn arcs (x ∷ xs) (y ∷ ys) c =
    let walk : IsWalk arcs x (xs ++ y ∷ (ys ++ x ∷ [])) = subst (λ (ns : List ℕ). IsWalk arcs x ns) (append_assoc xs (y ∷ ys) (x ∷ [])) c.1 in
    let parts = walk_split arcs x xs y (ys ++ x ∷ []) walk in
    let joined : IsWalk arcs y (ys ++ x ∷ (xs ++ y ∷ [])) = walk_join arcs y ys x (xs ++ y ∷ []) parts.1 parts.0 in (
      IsDistinct-IsPermutation nat_eq same_flips ((x ∷ xs) ++ y ∷ ys) ((y ∷ ys) ++ x ∷ xs) (IsPermutation-append_comm (x ∷ xs) (y ∷ ys)) c.0,
      subst (λ (ns : List ℕ). IsWalk arcs y ns) (sym (append_assoc ys (x ∷ xs) (y ∷ []))) joined,
    )

all_of : {X : Type 0} (p : X → Bool) (xs : List X) → All (λ x. p x ≡ true) xs → list_all p xs ≡ true
all_of p [] h = refl
all_of p (x ∷ xs) h = and_from (p x) (list_all p xs) (All-head (λ y. p y ≡ true) x xs h) (all_of p xs (All-tail (λ y. p y ≡ true) x xs h))

module _ (s : Stored) (num : IsNumbered s) (linked : IsLinked s.design) where
  pub number_has_name : (p : Pin) (n : ℕ) → HasNumber s p n → number_name s n ≡ name_of p
  number_has_name p n h = ap (λ o. unwrap_or o []) h.name

  pub within : (l : Link) → Contains (pin_links s) l → (l.from < length s.pins) × (l.to < length s.pins)
  within l c = let k = links_lead s num linked l c in (k.from_number.below, k.to_number.below)

  pub all_within : AreWithin (length s.pins) (pin_links s)
  all_within = λ k d low. within (get_or (pin_links s) k d) (Contains-get_or (pin_links s) k d low)

  -- each node of a cycle is a pin's number
  ends : (from : ℕ) (xs : List ℕ) → IsWalk (pin_links s) from xs → All (λ n. is_number s.pins n ≡ true) xs
  ends from [] w = λ k d l. absurd (omega arith)
  ends from (x ∷ xs) w =
      let k = links_lead s num linked (record { from = from; to = x }) w.0 in
      All-cons (λ n. is_number s.pins n ≡ true) x xs (ap is_some k.to_number.name) (ends x xs w.1)

  pub nodes_are : (nodes : List ℕ) → IsCycle (pin_links s) nodes → All (λ n. is_number s.pins n ≡ true) nodes
  nodes_are [] c = absurd c
  nodes_are (x ∷ xs) c =
      let all = ends x (xs ++ x ∷ []) c.1 in
      All-cons (λ n. is_number s.pins n ≡ true) x xs
      (All-contains (λ n. is_number s.pins n ≡ true) (xs ++ x ∷ []) x all (Contains-push xs x))
      (subst (λ (ns : List ℕ). All (λ n. is_number s.pins n ≡ true) ns) (take_at xs (x ∷ []) (length xs) refl) (All-take (λ n. is_number s.pins n ≡ true) (length xs) (xs ++ x ∷ []) all))

  -- numbers have names of their own
  same_number : (a b : ℕ) → is_number s.pins a ≡ true → is_number s.pins b ≡ true → bytes_eq (number_name s a) (number_name s b) ≡ true → a ≡ b
  same_number a b ha hb e =
      let p = pin_at_number s num linked a ha in
      let q = pin_at_number s num linked b hb in
      let names : name_of p.0 ≡ name_of q.0 = sym (number_has_name p.0 a p.1) ∙ same_is (number_name s a) (number_name s b) e ∙ number_has_name q.0 b q.1 in
      some_is (sym p.1.number ∙ ap (number_of s.pins) names ∙ q.1.number)

  unlisted : (x : ℕ) (xs : List ℕ) → is_number s.pins x ≡ true → All (λ n. is_number s.pins n ≡ true) xs → All (λ y. nat_eq x y ≡ false) xs
      → is_listed (map (number_name s) xs) (number_name s x) ≡ false
  unlisted x xs h all apart = false_from_ne_true (is_listed (map (number_name s) xs) (number_name s x)) (λ e.
      let r = any_back (bytes_eq (number_name s x)) (map (number_name s) xs) e in
      let m = in_map_back (number_name s) xs r.item r.within in
      let same : x ≡ m.item = same_number x m.item h (All-contains (λ n. is_number s.pins n ≡ true) xs m.item all m.within) (ap (bytes_eq (number_name s x)) m.same ∙ r.passes) in
      let other : nat_eq x m.item ≡ false = All-contains (λ y. nat_eq x y ≡ false) xs m.item apart m.within in
      eqb_apart x m.item same other)
    where
      eqb_apart : (a b : ℕ) → a ≡ b → nat_eq a b ≡ false → ⊥
      eqb_apart a b e h = false≢true (sym h ∙ ap (nat_eq a) (sym e) ∙ nat_eq_equiv.refl a)

  names_distinct : (xs : List ℕ) → IsDistinct nat_eq xs → All (λ n. is_number s.pins n ≡ true) xs → are_distinct (map (number_name s) xs) ≡ true
  names_distinct [] d all = refl
  names_distinct (x ∷ xs) d all =
      let rest = All-tail (λ n. is_number s.pins n ≡ true) x xs all in
      and_from (not (is_listed (map (number_name s) xs) (number_name s x))) (are_distinct (map (number_name s) xs))
      (not_from_false _ (unlisted x xs (All-head (λ n. is_number s.pins n ≡ true) x xs all) rest (All-from_recursion (λ y. nat_eq x y ≡ false) xs (IsDistinct-head nat_eq x xs d))))
      (names_distinct xs (IsDistinct-tail nat_eq x xs d) rest)

  joined_leads : (a b : ℕ) → IsJoined (pin_links s) a b → leads s.design (number_name s a) (number_name s b) ≡ true
  joined_leads a b j =
      let k = links_lead s num linked (record { from = a; to = b }) j in
      let named : pin_named s.design (number_name s a) ≡ Some k.from =
      ap (pin_named s.design) (number_has_name k.from a k.from_number) ∙ pin_found s num linked k.from k.from_number.within in
      ap (λ o. option_map_or (λ pin. list_any (λ next. bytes_eq (name_of next) (number_name s b)) (walks_to s.design pin)) o false) named
      ∙ any_in (λ next. bytes_eq (name_of next) (number_name s b)) (walks_to s.design k.from) k.to k.walks
      (ap (bytes_eq (name_of k.to)) (number_has_name k.to b k.to_number) ∙ same_self (name_of k.to))

  walk_leads : (first from : ℕ) (more : List ℕ) → IsWalk (pin_links s) from (more ++ first ∷ [])
      → leads_along s.design (number_name s first) (number_name s from) (map (number_name s) more) ≡ true
  walk_leads first from [] w = joined_leads from first w.0
  walk_leads first from (to ∷ more) w =
      and_from (leads s.design (number_name s from) (number_name s to)) _ (joined_leads from to w.0) (walk_leads first to more w.1)

  cycle_is_loop : (nodes : List ℕ) → IsCycle (pin_links s) nodes → (first : ℕ) (more : List ℕ) → nodes ≡ first ∷ more
      → list_all (λ name. not (is_before name (number_name s first))) (map (number_name s) more) ≡ true
      → is_loop s.design (map (number_name s) nodes) ≡ true
  cycle_is_loop nodes c first more e least =
      let c' : IsCycle (pin_links s) (first ∷ more) = subst (λ (ns : List ℕ). IsCycle (pin_links s) ns) e c in
      ap (λ ns. is_loop s.design (map (number_name s) ns)) e
      ∙ and_from (are_distinct (map (number_name s) (first ∷ more)) && leads_along s.design (number_name s first) (number_name s first) (map (number_name s) more)) _
      (and_from (are_distinct (map (number_name s) (first ∷ more))) _ (names_distinct (first ∷ more) c'.0 (nodes_are (first ∷ more) c')) (walk_leads first first more c'.1))
      least

  abbrev is_best : List ℕ → ℕ → ℕ → Type 0
  is_best nodes place n = not (is_before (number_name s n) (number_name s (get_or nodes place 0))) ≡ true

  -- the names of a cycle from the least on
  pub turned_loop : (nodes : List ℕ) (names : List (List ℕ)) (place : ℕ) → IsCycle (pin_links s) nodes → names ≡ map (number_name s) nodes → place < length names
      → ((k : ℕ) → k < length names → is_before (get_or names k []) (get_or names place []) ≡ false)
      → is_loop s.design (drop place names ++ take place names) ≡ true
  turned_loop nodes names place c e low least =
      ap (is_loop s.design) (ap (λ ns. drop place ns ++ take place ns) e
      ∙ ap (λ ns. ns ++ take place (map (number_name s) nodes)) (drop-map (number_name s) place nodes)
      ∙ ap (λ ns. map (number_name s) (drop place nodes) ++ ns) (take-map (number_name s) place nodes)
      ∙ sym (map-append (number_name s) (drop place nodes) (take place nodes)))
      ∙ cycle_is_loop (drop place nodes ++ take place nodes)
      (turn (pin_links s) (take place nodes) (drop place nodes) (subst (λ (ns : List ℕ). IsCycle (pin_links s) ns) (sym (take-append-drop place nodes)) c))
      (get_or nodes place 0) (drop (place + 1) nodes ++ take place nodes)
      (ap (λ ns. ns ++ take place nodes) (drop_more nodes place 0 inside))
      (all_of (λ name. not (is_before name (number_name s (get_or nodes place 0)))) (map (number_name s) (drop (place + 1) nodes ++ take place nodes))
      (All-map (λ name. not (is_before name (number_name s (get_or nodes place 0))) ≡ true) (number_name s) (drop (place + 1) nodes ++ take place nodes)
      (All-append (is_best nodes place) (drop (place + 1) nodes) (take place nodes) (All-drop (is_best nodes place) (place + 1) nodes each) (All-take (is_best nodes place) place nodes each))))
    where
      inside : place < length nodes
      inside = omega (arith, ap length e, length-map nodes (number_name s))

      each : All (is_best nodes place) nodes
      each = λ k d l.
          let here : get_or names k [] ≡ number_name s (get_or nodes k d) = ap (λ ns. get_or ns k []) e ∙ get_or-map (number_name s) nodes k d [] l in
          let there : get_or names place [] ≡ number_name s (get_or nodes place 0) = ap (λ ns. get_or ns place []) e ∙ get_or-map (number_name s) nodes place 0 [] inside in
          not_from_false (is_before (number_name s (get_or nodes k d)) (number_name s (get_or nodes place 0)))
          (sym (ap (λ n. is_before n (get_or names place [])) here ∙ ap (is_before (number_name s (get_or nodes k d))) there)
          ∙ least k (omega (arith, ap length e, length-map nodes (number_name s))))

  -- a loop of names is a cycle of numbers
  module _ (fault : net_fault s.design ≡ None) where
    record IsStep (x y : List ℕ) : Type 0 where
      from : is_some (number_of s.pins x) ≡ true
      joined : IsJoined (pin_links s) (unwrap_or (number_of s.pins x) 0) (unwrap_or (number_of s.pins y) 0)

    step : (x y : List ℕ) → leads s.design x y ≡ true → IsStep x y
    step x y e = by (pin_named s.design x) refl e
      where
        by : (o : Option Pin) → pin_named s.design x ≡ o
            → option_map_or (λ pin. list_any (λ next. bytes_eq (name_of next) y) (walks_to s.design pin)) o false ≡ true → IsStep x y
        by None h g = absurd (false≢true g)
        by (Some p) h g =
            let c = found_in (λ q. bytes_eq (name_of q) x) (pins s.design) p h in
            let px : name_of p ≡ x = same_is (name_of p) x (found_passes (λ q. bytes_eq (name_of q) x) (pins s.design) p h) in
            let r = any_back (λ next. bytes_eq (name_of next) y) (walks_to s.design p) g in
            let qy : name_of r.item ≡ y = same_is (name_of r.item) y r.passes in
            let a = pin_told s num linked p c in
            let b = pin_told s num linked r.item (walks_in s num linked p r.item c r.within) in
            let na : number_of s.pins x ≡ Some a.0 = ap (number_of s.pins) (sym px) ∙ a.1.number in
            let nb : number_of s.pins y ≡ Some b.0 = ap (number_of s.pins) (sym qy) ∙ b.1.number in
            let link = lead_links s num linked fault p r.item a.0 b.0 a.1 b.1 r.within in
            record {
              from = ap is_some na;
              joined =
                  subst (λ (o : Option ℕ). IsJoined (pin_links s) (unwrap_or o 0) (unwrap_or (number_of s.pins y) 0)) (sym na)
                  (subst (λ (o : Option ℕ). IsJoined (pin_links s) a.0 (unwrap_or o 0)) (sym nb) link);
            }

    along : (first from : List ℕ) (more : List (List ℕ)) → leads_along s.design first from more ≡ true
        → All (λ x. is_some (number_of s.pins x) ≡ true) (from ∷ more)
        × IsWalk (pin_links s) (unwrap_or (number_of s.pins from) 0) (map (λ x. unwrap_or (number_of s.pins x) 0) more ++ (unwrap_or (number_of s.pins first) 0) ∷ [])
    along first from [] e =
        let k = step from first e in
        (All-cons (λ x. is_some (number_of s.pins x) ≡ true) from [] k.from (λ i d l. absurd (omega arith)), (k.joined, tt))
    along first from (to ∷ more) e =
        let parts = and_parts (leads s.design from to) (leads_along s.design first to more) e in
        let k = step from to parts.0 in
        let rest = along first to more parts.1 in
        (All-cons (λ x. is_some (number_of s.pins x) ≡ true) from (to ∷ more) k.from rest.0, (k.joined, rest.1))

    numbers_apart : (xs : List (List ℕ)) → are_distinct xs ≡ true → All (λ x. is_some (number_of s.pins x) ≡ true) xs
        → IsDistinct nat_eq (map (λ x. unwrap_or (number_of s.pins x) 0) xs)
    numbers_apart [] d all = IsDistinct-from_apart nat_eq [] (λ i j e a b. absurd (omega arith))
    numbers_apart (x ∷ xs) d all =
        let parts = and_parts (not (is_listed xs x)) (are_distinct xs) d in
        let rest = All-tail (λ y. is_some (number_of s.pins y) ≡ true) x xs all in
        let here = there (number_of s.pins x) (All-head (λ y. is_some (number_of s.pins y) ≡ true) x xs all) in
        IsDistinct-cons nat_eq (unwrap_or (number_of s.pins x) 0) (map (λ y. unwrap_or (number_of s.pins y) 0) xs)
        (recursion_from_All (λ m. nat_eq (unwrap_or (number_of s.pins x) 0) m ≡ false) (map (λ y. unwrap_or (number_of s.pins y) 0) xs)
        (All-map (λ m. nat_eq (unwrap_or (number_of s.pins x) 0) m ≡ false) (λ y. unwrap_or (number_of s.pins y) 0) xs
        (λ k d l. other here.0 here.1 (get_or xs k d) (rest k d l) (not-true (is_listed xs x) parts.0) (Contains-get_or xs k d l))))
        (numbers_apart xs parts.1 rest)
      where
        other : (a : ℕ) → number_of s.pins x ≡ Some a → (y : List ℕ) → is_some (number_of s.pins y) ≡ true → is_listed xs x ≡ false → Contains xs y
            → nat_eq (unwrap_or (number_of s.pins x) 0) (unwrap_or (number_of s.pins y) 0) ≡ false
        other a ex y hy free c =
            let b = there (number_of s.pins y) hy in
            ap (λ o. nat_eq (unwrap_or o 0) (unwrap_or (number_of s.pins y) 0)) ex ∙ ap (λ o. nat_eq a (unwrap_or o 0)) b.1
            ∙ ne_eqb a b.0 (λ same.
            let names : Some x ≡ Some y = sym (told_at s.pins x a ex) ∙ ap (name_at s.pins) same ∙ told_at s.pins y b.0 b.1 in
            false≢true (sym free ∙ any_in (bytes_eq x) xs y c (ap (bytes_eq x) (sym (some_is names)) ∙ same_self x)))

    pub no_loop : HasNoCycle (pin_links s) → HasNoLoop s.design
    no_loop none [] = refl
    no_loop none (first ∷ more) = false_from_ne_true (is_loop s.design (first ∷ more)) (λ e.
        let one = and_parts (are_distinct (first ∷ more) && leads_along s.design first first more) (list_all (λ name. not (is_before name first)) more) e in
        let two = and_parts (are_distinct (first ∷ more)) (leads_along s.design first first more) one.0 in
        let walk = along first first more two.1 in
        none (map (λ x. unwrap_or (number_of s.pins x) 0) (first ∷ more)) (numbers_apart (first ∷ more) two.0 walk.0, walk.1))
