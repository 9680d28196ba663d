-- A clock network is no tree just where two of its arcs enter a pin in different ways.

use Rattle.std.proofs.Common.{◌≡◌, ◌⊎◌, ℕ, suc, ◌<◌, ◌≤◌, Bool, true, false, not, List, [], ◌∷◌, ◌++◌, map, filter, length, get_or, set, Option, None, Some, refl, sym, ap, subst, ◌∙◌, inl, inr, arith, lt-ltb, length-set}
use Rattle.std.specs.Prelude.{is_some, nat_eq, ◌&&◌, ◌||◌, if◌then◌else◌, Contains, All}
use Rattle.std.specs.List.{list_all, filter_map}
use Rattle.std.specs.Option.{option_map_or, option_to_list, unwrap_or}
use Rattle.std.specs.declared.cmp.Ordering.{Ordering}
use Rattle.std.specs.declared.cmp.Ordering.TheVariants.{Less, Equal, Greater}
use Rattle.std.specs.Ordering.{is_lt, is_gt, nat_cmp}
use Rattle.std.specs.Cmp.Lexicographic.{slice_cmp}
use Rattle.std.specs.Str.{bytes_eq}
use Rattle.std.proofs.lemmas.Bool.{cases_Bool, cases_eq, cases_lt, false≢true, true≢false, and_parts, and_cases, and_from, or_parts, or_cases, or_from, or_left, not-true, not-false, not_from_false, false_from_ne_true, eqb-true, eq-eqb, ne_eqb, le-ltb}
use Rattle.std.proofs.lemmas.Cmp.{nat_eq_equiv}
use Rattle.std.proofs.lemmas.List.{get_or-set_same, get_or-set_other, get_or-map, length-map, get_or_default}
use Rattle.std.proofs.lemmas.List.Elements.{Contains-append_left, Contains-append_right, Contains-push, Contains-push_cases, Contains-get_or}
use Rattle.timing_defs.specs.declared.kinds.Split.TheVariants.{Late}
use Rattle.timing_defs.specs.declared.kinds.Dir.TheVariants.{Output}
use Rattle.timing_defs.specs.declared.library.Cell.{Cell}
use Rattle.timing_defs.specs.declared.library.CellArc.{CellArc}
use Rattle.timing_defs.specs.declared.netlist.Inst.{Inst}
use Rattle.timing_defs.specs.Netlist.{Pin, name_of, cell_pin, cell_of, inst_pins, pins, net_of, is_driver, driver, same_tran, is_listed, are_distinct}
use Rattle.timing_defs.specs.Kinds.{is_comb}
use Rattle.timing_rules.specs.Clocking.{cell_arcs, port_has_clock, is_clock_port, driver_on, comb_joins, has_comb, comb_before, pins_before, is_network}
use Rattle.timing_defs.specs.NetChecks.{net_fault, is_before, least_from, least}
use Rattle.timing_rules.specs.Checks.{network_before, keeps, arcs_between, one_sense, enters_well, breaks_network, clock_not_tree}
use Rattle.netlist_store.specs.Linked.{IsLinked}
use Rattle.netlist_store.specs.Numbering.{Stored, name_at, number_of, is_number, IsNumbered}
use Rattle.pin_graph.specs.declared.pin_arcs.PinArc.{PinArc}
use Rattle.pin_graph.specs.declared.trees.Entry.{Entry}
use Rattle.pin_graph.specs.Joins.{own_number, pin_arc, arc_between, pin_arcs, net_links, link_of}
use Rattle.pin_graph.specs.Loops.{number_name}
use Rattle.pin_graph.specs.Networks.{is_comb_arc, comb_link, network_links, IsNetwork}
use Rattle.pin_graph.specs.Trees.{enters, entry_of, same_flag, same_entry, AreApart, first_entry, noted_entries, noted_apart, AreAllApart}
use Rattle.timing_defs.proofs.SameNames.{same_is, same_self}
use Rattle.store_pins.proofs.PinNames.{inst_pins_apart}
use Rattle.timing_defs.proofs.Members.{some_is, none_in, first_in, later_in, in_cases, in_map, in_map_back, in_filter, in_filter_map, passes_in, kept_in, any_back, all_in}
use Rattle.store_pins.proofs.PinLaws.{HasNumber, IsOwn, pin_told, own_back, own_pins}
use Rattle.pin_graph.proofs.JoinLaws.{IsPlaced, placed_back, placed_in}
use Rattle.pin_graph.proofs.NetworkLaws.{same_pin_at, moved, dir_flips, back_before, owned_number, joins_comb}
use Rattle.pin_graph.proofs.LoopLaws.{flipped, number_has_name}

-- entries
flag_is : (a b : Bool) → same_flag a b ≡ true → a ≡ b
flag_is true b h = sym h
flag_is false true h = absurd (false≢true h)
flag_is false false h = refl

flag_self : (a : Bool) → same_flag a a ≡ true
flag_self true = refl
flag_self false = refl

entry_is : (e f : Entry) → same_entry e f ≡ true → e ≡ f
entry_is e f h =
    let parts = and_parts (nat_eq e.from f.from) (same_flag e.keeps f.keeps) h in
    let one : ◌≡◌ {A = Entry} e (record { from = f.from; keeps = e.keeps }) = ap (λ n. record { from = n; keeps = e.keeps }) (eqb-true e.from f.from parts.0) in
    one ∙ ap (λ b. record { from = f.from; keeps = b }) (flag_is e.keeps f.keeps parts.1)

entry_self : (e : Entry) → same_entry e e ≡ true
entry_self e = and_from (nat_eq e.from e.from) (same_flag e.keeps e.keeps) (nat_eq_equiv.refl e.from) (flag_self e.keeps)

-- what the first arcs leave
pub record IsEntered (network : List Bool) (arcs : List PinArc) (pin : ℕ) (e : Entry) : Type 0 where
  pub arc : PinArc
  pub within : Contains arcs arc
  pub to : arc.to ≡ pin
  pub inside : enters network arc ≡ true
  pub entry : entry_of arc ≡ e

pub record IsKnown (entries : List (Option Entry)) (apart : List ℕ) (arc : PinArc) : Type 0 where
  pub entry : Entry
  pub first : get_or entries arc.to None ≡ Some entry
  pub agrees : (entry ≡ entry_of arc) ⊎ Contains apart arc.to

pub record AreNoted (network : List Bool) (arcs : List PinArc) (entries : List (Option Entry)) (apart : List ℕ) : Type 0 where
  pub long : length entries ≡ length network
  pub held : (m : ℕ) (e : Entry) → get_or entries m None ≡ Some e → IsEntered network arcs m e
  pub all : (a : PinArc) → Contains arcs a → enters network a ≡ true → IsKnown entries apart a
  pub split : (m : ℕ) → Contains apart m → AreApart network arcs m

pub noted_none : (network : List Bool) (entries : List (Option Entry)) (apart : List ℕ) → length entries ≡ length network
    → ((m : ℕ) → get_or entries m None ≡ None) → apart ≡ [] → AreNoted network [] entries apart
noted_none network entries apart long blank none = record {
  long = long;
  held = λ m e h. let f = blank m in absurd (cc);
  all = λ a c h. absurd (none_in a c);
  split = λ m c. absurd (none_in m (subst (λ (xs : List ℕ). Contains xs m) none c));
}

wider_apart : (network : List Bool) (arcs more : List PinArc) (m : ℕ) → AreApart network arcs m → AreApart network (arcs ++ more) m
wider_apart network arcs more m h = record {
  one = h.one;
  one_in = Contains-append_left arcs more h.one h.one_in;
  one_to = h.one_to;
  one_enters = h.one_enters;
  two = h.two;
  two_in = Contains-append_left arcs more h.two h.two_in;
  two_to = h.two_to;
  two_enters = h.two_enters;
  differ = h.differ;
}

wider_entered : (network : List Bool) (arcs more : List PinArc) (m : ℕ) (e : Entry) → IsEntered network arcs m e → IsEntered network (arcs ++ more) m e
wider_entered network arcs more m e h = record { arc = h.arc; within = Contains-append_left arcs more h.arc h.within; to = h.to; inside = h.inside; entry = h.entry }

module _ (network : List Bool) (arcs : List PinArc) (x : PinArc) (entries : List (Option Entry)) (apart : List ℕ) (had : AreNoted network arcs entries apart) where
  skipped : enters network x ≡ false → AreNoted network (arcs ++ x ∷ []) entries apart
  skipped out = record {
    long = had.long;
    held = λ m e h. wider_entered network arcs (x ∷ []) m e (had.held m e h);
    all = λ a c h. elim (Contains-push_cases arcs x a c) [
      | inl old ↦ had.all a old h
      | inr same ↦ absurd (false≢true (sym out ∙ ap (enters network) same ∙ h))
    ];
    split = λ m c. wider_apart network arcs (x ∷ []) m (had.split m c);
  }

  wider_list : (t : Bool) (m : ℕ) → Contains apart m → Contains (if t then apart ++ x.to ∷ [] else apart) m
  wider_list true m c = Contains-append_left apart (x.to ∷ []) m c
  wider_list false m c = c

  first_cases : (o : Option Entry) → get_or entries x.to None ≡ o → (first_entry entries x ≡ entry_of x) ⊎ (get_or entries x.to None ≡ Some (first_entry entries x))
  first_cases None e = inl (ap (λ w. unwrap_or w (entry_of x)) e)
  first_cases (Some f) e = inr (e ∙ ap Some (sym (ap (λ w. unwrap_or w (entry_of x)) e)))

  first_entered : enters network x ≡ true → IsEntered network (arcs ++ x ∷ []) x.to (first_entry entries x)
  first_entered inside = elim (first_cases (get_or entries x.to None) refl) [
    | inl e ↦ record { arc = x; within = Contains-push arcs x; to = refl; inside = inside; entry = sym e }
    | inr e ↦ wider_entered network arcs (x ∷ []) x.to (first_entry entries x) (had.held x.to (first_entry entries x) e)
  ]

  added : x.to < length entries → enters network x ≡ true
      → AreNoted network (arcs ++ x ∷ []) (set entries x.to (Some (first_entry entries x)))
      (if not (same_entry (first_entry entries x) (entry_of x)) then apart ++ x.to ∷ [] else apart)
  added low inside = record {
    long = length-set entries x.to (Some (first_entry entries x)) ∙ had.long;
    held = λ m e h. elim (cases_eq m x.to) [
      | inl same ↦
          let here : get_or (set entries x.to (Some (first_entry entries x))) m None ≡ Some (first_entry entries x) =
          ap (λ k. get_or (set entries x.to (Some (first_entry entries x))) k None) same ∙ get_or-set_same entries x.to (Some (first_entry entries x)) None low in
          let is : first_entry entries x ≡ e = some_is (sym here ∙ h) in
          subst (λ (k : ℕ). IsEntered network (arcs ++ x ∷ []) k e) (sym same) (subst (λ (f : Entry). IsEntered network (arcs ++ x ∷ []) x.to f) is (first_entered inside))
      | inr other ↦
          wider_entered network arcs (x ∷ []) m e (had.held m e (sym (get_or-set_other entries x.to m (Some (first_entry entries x)) None other) ∙ h))
    ];
    all = λ a c h. elim (Contains-push_cases arcs x a c) [
      | inl old ↦ keeps_known a (had.all a old h)
      | inr same ↦ subst (λ (b : PinArc). IsKnown (set entries x.to (Some (first_entry entries x))) (if not (same_entry (first_entry entries x) (entry_of x)) then apart ++ x.to ∷ [] else apart) b) same own_known
    ];
    split = λ m c. newly (not (same_entry (first_entry entries x) (entry_of x))) refl m c;
  }
    where
      stays : (m : ℕ) (e : Entry) → get_or entries m None ≡ Some e → get_or (set entries x.to (Some (first_entry entries x))) m None ≡ Some e
      stays m e h = elim (cases_eq m x.to) [
        | inl same ↦
            let f : first_entry entries x ≡ e = ap (λ w. unwrap_or w (entry_of x)) (ap (λ k. get_or entries k None) (sym same) ∙ h) in
            ap (λ k. get_or (set entries x.to (Some (first_entry entries x))) k None) same ∙ get_or-set_same entries x.to (Some (first_entry entries x)) None low ∙ ap Some f
        | inr other ↦ get_or-set_other entries x.to m (Some (first_entry entries x)) None other ∙ h
      ]

      keeps_known : (a : PinArc) → IsKnown entries apart a
          → IsKnown (set entries x.to (Some (first_entry entries x))) (if not (same_entry (first_entry entries x) (entry_of x)) then apart ++ x.to ∷ [] else apart) a
      keeps_known a k = record {
        entry = k.entry;
        first = stays a.to k.entry k.first;
        agrees = elim k.agrees [ inl e ↦ inl e | inr c ↦ inr (wider_list (not (same_entry (first_entry entries x) (entry_of x))) a.to c) ];
      }

      agree : (t : Bool) → same_entry (first_entry entries x) (entry_of x) ≡ t → (first_entry entries x ≡ entry_of x) ⊎ Contains (if not t then apart ++ x.to ∷ [] else apart) x.to
      agree true e = inl (entry_is (first_entry entries x) (entry_of x) e)
      agree false e = inr (Contains-push apart x.to)

      own_known : IsKnown (set entries x.to (Some (first_entry entries x))) (if not (same_entry (first_entry entries x) (entry_of x)) then apart ++ x.to ∷ [] else apart) x
      own_known = record {
        entry = first_entry entries x;
        first = get_or-set_same entries x.to (Some (first_entry entries x)) None low;
        agrees = agree (same_entry (first_entry entries x) (entry_of x)) refl;
      }

      two_ways : same_entry (first_entry entries x) (entry_of x) ≡ false → AreApart network (arcs ++ x ∷ []) x.to
      two_ways e =
          let f = first_entered inside in
          record {
            one = f.arc;
            one_in = f.within;
            one_to = f.to;
            one_enters = f.inside;
            two = x;
            two_in = Contains-push arcs x;
            two_to = refl;
            two_enters = inside;
            differ = ap (λ g. same_entry g (entry_of x)) f.entry ∙ e;
          }

      newly : (t : Bool) → not (same_entry (first_entry entries x) (entry_of x)) ≡ t → (m : ℕ) → Contains (if t then apart ++ x.to ∷ [] else apart) m → AreApart network (arcs ++ x ∷ []) m
      newly false e m c = wider_apart network arcs (x ∷ []) m (had.split m c)
      newly true e m c = elim (Contains-push_cases apart x.to m c) [
        | inl old ↦ wider_apart network arcs (x ∷ []) m (had.split m old)
        | inr same ↦ subst (λ (k : ℕ). AreApart network (arcs ++ x ∷ []) k) same (two_ways (not-true (same_entry (first_entry entries x) (entry_of x)) e))
      ]

  pub noted_more : (entries2 : List (Option Entry)) (apart2 : List ℕ) → x.to < length entries → entries2 ≡ noted_entries network x entries
      → apart2 ≡ noted_apart network x entries apart → AreNoted network (arcs ++ x ∷ []) entries2 apart2
  noted_more entries2 apart2 low e f = by (enters network x) refl
    where
      by : (t : Bool) → enters network x ≡ t → AreNoted network (arcs ++ x ∷ []) entries2 apart2
      by true h =
          let e2 : entries2 ≡ set entries x.to (Some (first_entry entries x)) = e ∙ ap (λ t. if t then set entries x.to (Some (first_entry entries x)) else entries) h in
          let f2 : apart2 ≡ (if not (same_entry (first_entry entries x) (entry_of x)) then apart ++ x.to ∷ [] else apart) =
          f ∙ ap (λ t. if t && not (same_entry (first_entry entries x) (entry_of x)) then apart ++ x.to ∷ [] else apart) h in
          rw (e2, f2) (added low h)
      by false h =
          let e2 : entries2 ≡ entries = e ∙ ap (λ t. if t then set entries x.to (Some (first_entry entries x)) else entries) h in
          let f2 : apart2 ≡ apart = f ∙ ap (λ t. if t && not (same_entry (first_entry entries x) (entry_of x)) then apart ++ x.to ∷ [] else apart) h in
          rw (e2, f2) (skipped h)

pub noted_all : (network : List Bool) (arcs : List PinArc) (entries : List (Option Entry)) (apart : List ℕ) → AreNoted network arcs entries apart → AreAllApart network arcs apart
noted_all network arcs entries apart h = record {
  sound = h.split;
  all = λ m a.
      let one = h.all a.one a.one_in a.one_enters in
      let two = h.all a.two a.two_in a.two_enters in
      let same : one.entry ≡ two.entry = some_is (sym one.first ∙ ap (λ k. get_or entries k None) (a.one_to ∙ sym a.two_to) ∙ two.first) in
      elim one.agrees [
        | inr c ↦ subst (λ (k : ℕ). Contains apart k) a.one_to c
        | inl e ↦ elim two.agrees [
          | inr c ↦ subst (λ (k : ℕ). Contains apart k) a.two_to c
          | inl f ↦ absurd (false≢true (sym a.differ ∙ ap (λ g. same_entry g (entry_of a.two)) (sym e ∙ same ∙ f) ∙ entry_self (entry_of a.two)))
        ]
      ];
}

-- lists
all_back : {X : Type 0} (p : X → Bool) (xs : List X) → list_all p xs ≡ false → (x : X) × Contains xs x × (p x ≡ false)
all_back p [] h = absurd (true≢false h)
all_back p (x ∷ xs) h = elim (and_cases (p x) (list_all p xs) h) [
  | inl e ↦ (x, first_in x xs, e)
  | inr e ↦ let r = all_back p xs e in (r.0, later_in x xs r.0 r.1, r.2)
]

all_true : {X : Type 0} (p : X → Bool) (xs : List X) → ((x : X) → Contains xs x → p x ≡ true) → list_all p xs ≡ true
all_true p [] f = refl
all_true p (x ∷ xs) f = and_from (p x) (list_all p xs) (f x (first_in x xs)) (all_true p xs (λ y c. f y (later_in x xs y c)))

module _ {X : Type 0} (name : X → List ℕ) (keep : X → Bool) where
  unlisted_filter : (xs : List X) (q : List ℕ) → is_listed (map name xs) q ≡ false → is_listed (map name (filter keep xs)) q ≡ false
  unlisted_filter [] q h = refl
  unlisted_filter (x ∷ xs) q h =
      let k = or_parts (bytes_eq q (name x)) (is_listed (map name xs) q) h in
      let rest = unlisted_filter xs q k.1 in
      elim (cases_Bool (keep x)) [
        | inl e ↦ rw e (or_from (bytes_eq q (name x)) (is_listed (map name (filter keep xs)) q) k.0 rest)
        | inr e ↦ rw e rest
      ]

  distinct_filter : (xs : List X) → are_distinct (map name xs) ≡ true → are_distinct (map name (filter keep xs)) ≡ true
  distinct_filter [] h = refl
  distinct_filter (x ∷ xs) h =
      let k = and_parts (not (is_listed (map name xs) (name x))) (are_distinct (map name xs)) h in
      let rest = distinct_filter xs k.1 in
      let once = unlisted_filter xs (name x) (not-true (is_listed (map name xs) (name x)) k.0) in
      elim (cases_Bool (keep x)) [
        | inl e ↦ rw e (and_from (not (is_listed (map name (filter keep xs)) (name x))) (are_distinct (map name (filter keep xs))) (not_from_false _ once) rest)
        | inr e ↦ rw e rest
      ]

pair : (xs : List Pin) → 0 < length xs → nat_eq (length xs) 1 ≡ false → are_distinct (map name_of xs) ≡ true
    → (a : Pin) × (b : Pin) × Contains xs a × Contains xs b × (bytes_eq (name_of a) (name_of b) ≡ false)
pair [] some one d = absurd (omega arith)
pair (x ∷ []) some one d = absurd (true≢false one)
pair (x ∷ y ∷ rest) some one d =
    let k = and_parts (not (is_listed (map name_of (y ∷ rest)) (name_of x))) (are_distinct (map name_of (y ∷ rest))) d in
    let apart = or_parts (bytes_eq (name_of x) (name_of y)) (is_listed (map name_of rest) (name_of x)) (not-true (is_listed (map name_of (y ∷ rest)) (name_of x)) k.0) in
    (x, y, first_in x (y ∷ rest), later_in x (y ∷ rest) y (first_in y rest), apart.0)

module _ {X : Type 0} (p : X → Bool) where
  none_left : (xs : List X) → length xs ≤ 0 → length (filter p xs) ≡ 0
  none_left [] l = refl
  none_left (x ∷ xs) l = absurd (omega arith)

  short_filter : (xs : List X) → length xs ≤ 1 → length (filter p xs) ≤ 1
  short_filter [] h = omega arith
  short_filter (x ∷ xs) h = elim (cases_Bool (p x)) [
    | inl e ↦ rw e (let rest = none_left xs (omega arith) in omega arith)
    | inr e ↦ rw e (let rest = none_left xs (omega arith) in omega arith)
  ]

the_one : {X : Type 0} (xs : List X) (a b : X) → nat_eq (length xs) 1 ≡ true → Contains xs a → Contains xs b → a ≡ b
the_one [] a b h c d = absurd (none_in a c)
the_one (x ∷ []) a b h c d = elim (in_cases x [] a c) [
  | inr n ↦ absurd (none_in a n)
  | inl e ↦ elim (in_cases x [] b d) [
    | inr n ↦ absurd (none_in b n)
    | inl f ↦ sym e ∙ f
  ]
]
the_one (x ∷ y ∷ rest) a b h c d = absurd (long (length rest) h)
  where
    long : (n : ℕ) → nat_eq (suc (suc n)) 1 ≡ true → ⊥
    long n e = let f = eqb-true (suc (suc n)) 1 e in omega arith

-- the clock network by its marks
module _ (s : Stored) (num : IsNumbered s) (linked : IsLinked s.design) (fault : net_fault s.design ≡ None) (marks : List Bool) (net : IsNetwork s marks) where
  mark_is : (p : Pin) (m : ℕ) → HasNumber s p m → get_or marks m false ≡ is_network s.design p
  mark_is p m h = net.each m h.below ∙ ap (λ o. option_map_or (is_network s.design) o false) h.pin

  -- a pin of the network before a pin of the same instance
  record IsEntering (i : Inst) (p q : Pin) : Type 0 where
    number : ℕ
    has : HasNumber s q number
    own : IsOwn s.design i q
    comb : has_comb s.design i q p ≡ true
    inside : is_network s.design q ≡ true

  arc_of : (i : Inst) (q p : Pin) (a m : ℕ) (c : CellArc) → HasNumber s q a → HasNumber s p m → IsOwn s.design i q → IsOwn s.design i p
      → Contains (cell_arcs (cell_of s.design Late i)) c → comb_joins q p c ≡ true → Contains (pin_arcs s) (pin_arc c a m)
  arc_of i q p a m c ha hm own_q own_p within joins =
      let one = and_parts (is_comb c && bytes_eq c.from q.own) (bytes_eq c.to p.own) joins in
      let two = and_parts (is_comb c) (bytes_eq c.from q.own) one.0 in
      let na : own_number s i c.from ≡ Some a =
      ap (own_number s i) (same_is c.from q.own two.1) ∙ ap (λ (x : Pin). own_number s i x.own) own_q.same
      ∙ sym (ap (λ (x : Pin). number_of s.pins (name_of x)) own_q.same) ∙ ha.number in
      let nb : own_number s i c.to ≡ Some m =
      ap (own_number s i) (same_is c.to p.own one.1) ∙ ap (λ (x : Pin). own_number s i x.own) own_p.same
      ∙ sym (ap (λ (x : Pin). number_of s.pins (name_of x)) own_p.same) ∙ hm.number in
      placed_in s num linked i c (pin_arc c a m) own_q.inst within
      (ap (λ n. arc_between c n (own_number s i c.to)) na ∙ ap (arc_between c (Some a)) nb)

  enters_is : (q p : Pin) (a m : ℕ) (c : CellArc) → HasNumber s q a → HasNumber s p m → comb_joins q p c ≡ true → is_network s.design q ≡ true → is_network s.design p ≡ true
      → enters marks (pin_arc c a m) ≡ true
  enters_is q p a m c ha hm joins nq np =
      let one = and_parts (is_comb c && bytes_eq c.from q.own) (bytes_eq c.to p.own) joins in
      let two = and_parts (is_comb c) (bytes_eq c.from q.own) one.0 in
      and_from (is_comb c && get_or marks a false) (get_or marks m false)
      (and_from (is_comb c) (get_or marks a false) two.0 (mark_is q a ha ∙ nq)) (mark_is p m hm ∙ np)

  apart_by : (i : Inst) (p q r : Pin) (m : ℕ) (c d : CellArc) → HasNumber s p m → IsOwn s.design i p → is_network s.design p ≡ true → (one : IsEntering i p q) (two : IsEntering i p r)
      → Contains (cell_arcs (cell_of s.design Late i)) c → Contains (cell_arcs (cell_of s.design Late i)) d → comb_joins q p c ≡ true → comb_joins r p d ≡ true
      → same_entry (entry_of (pin_arc c one.number m)) (entry_of (pin_arc d two.number m)) ≡ false → AreApart marks (pin_arcs s) m
  apart_by i p q r m c d h own np one two cw dw cj dj differ = record {
    one = pin_arc c one.number m;
    one_in = arc_of i q p one.number m c one.has h one.own own cw cj;
    one_to = refl;
    one_enters = enters_is q p one.number m c one.has h cj one.inside np;
    two = pin_arc d two.number m;
    two_in = arc_of i r p two.number m d two.has h two.own own dw dj;
    two_to = refl;
    two_enters = enters_is r p two.number m d two.has h dj two.inside np;
    differ = differ;
  }

  entering : (i : Inst) (p q : Pin) (m : ℕ) → HasNumber s p m → IsOwn s.design i p → is_driver p ≡ true → p.owner ≡ Some i → Contains (network_before s.design p) q → IsEntering i p q
  entering i p q m h own drives owner c =
      let e : pins_before s.design p ≡ comb_before s.design p i =
      ap (λ b. if b then option_map_or (comb_before s.design p) p.owner [] else driver_on s.design (net_of p)) drives
      ∙ ap (λ o. option_map_or (comb_before s.design p) o []) owner in
      let d : Contains (comb_before s.design p i) q = subst (λ (ps : List Pin). Contains ps q) e (kept_in (is_network s.design) (pins_before s.design p) q c) in
      let its = own_pins s.design linked i q own.inst (kept_in (λ from. has_comb s.design i from p) (inst_pins s.design i) q d) in
      let n = owned_number s num linked fault i q its in
      record {
        number = n.0;
        has = n.1;
        own = its;
        comb = passes_in (λ from. has_comb s.design i from p) (inst_pins s.design i) q d;
        inside = passes_in (is_network s.design) (pins_before s.design p) q c;
      }

  by_pair : (i : Inst) (p : Pin) (m : ℕ) → HasNumber s p m → IsOwn s.design i p → is_driver p ≡ true → p.owner ≡ Some i → is_network s.design p ≡ true
      → 0 < length (network_before s.design p) → nat_eq (length (network_before s.design p)) 1 ≡ false → AreApart marks (pin_arcs s) m
  by_pair i p m h own drives owner np some one =
      let e : pins_before s.design p ≡ comb_before s.design p i =
      ap (λ b. if b then option_map_or (comb_before s.design p) p.owner [] else driver_on s.design (net_of p)) drives
      ∙ ap (λ o. option_map_or (comb_before s.design p) o []) owner in
      let distinct : are_distinct (map name_of (network_before s.design p)) ≡ true =
      distinct_filter name_of (is_network s.design) (pins_before s.design p)
      (ap (λ ps. are_distinct (map name_of ps)) e
      ∙ distinct_filter name_of (λ from. has_comb s.design i from p) (inst_pins s.design i) (inst_pins_apart s.design linked i)) in
      let two = pair (network_before s.design p) some one distinct in
      let a = entering i p two.0 m h own drives owner two.2 in
      let b = entering i p two.1 m h own drives owner two.3 in
      let c = any_back (comb_joins two.0 p) (cell_arcs (cell_of s.design Late i)) a.comb in
      let d = any_back (comb_joins two.1 p) (cell_arcs (cell_of s.design Late i)) b.comb in
      let numbers : nat_eq a.number b.number ≡ false = ne_eqb a.number b.number (λ same.
      let names : Some (name_of two.0) ≡ Some (name_of two.1) = sym a.has.name ∙ ap (name_at s.pins) same ∙ b.has.name in
      false≢true (sym two.4 ∙ ap (bytes_eq (name_of two.0)) (sym (some_is names)) ∙ same_self (name_of two.0))) in
      apart_by i p two.0 two.1 m c.item d.item h own np a b c.within d.within c.passes d.passes
      (ap (λ t. t && same_flag (keeps c.item) (keeps d.item)) numbers)

  by_sense : (i : Inst) (p q : Pin) (m : ℕ) → HasNumber s p m → IsOwn s.design i p → is_driver p ≡ true → p.owner ≡ Some i → is_network s.design p ≡ true
      → Contains (network_before s.design p) q → (not (is_driver p) || one_sense (arcs_between s.design q p)) ≡ false → AreApart marks (pin_arcs s) m
  by_sense i p q m h own drives owner np c bad =
      let a = entering i p q m h own drives owner c in
      let between : arcs_between s.design q p ≡ filter (comb_joins q p) (cell_arcs (cell_of s.design Late i)) =
      ap (λ o. option_map_or (λ inst. filter (comb_joins q p) (cell_arcs (cell_of s.design Late inst))) o []) owner in
      let sense : one_sense (filter (comb_joins q p) (cell_arcs (cell_of s.design Late i))) ≡ false =
      sym (ap one_sense between) ∙ (or_parts (not (is_driver p)) (one_sense (arcs_between s.design q p)) bad).1 in
      let ways = or_parts (list_all keeps (filter (comb_joins q p) (cell_arcs (cell_of s.design Late i))))
      (list_all (λ arc. not (keeps arc)) (filter (comb_joins q p) (cell_arcs (cell_of s.design Late i)))) sense in
      let turns = all_back keeps (filter (comb_joins q p) (cell_arcs (cell_of s.design Late i))) ways.0 in
      let kept = all_back (λ arc. not (keeps arc)) (filter (comb_joins q p) (cell_arcs (cell_of s.design Late i))) ways.1 in
      let is_kept : keeps kept.0 ≡ true = not-false (keeps kept.0) kept.2 in
      apart_by i p q q m turns.0 kept.0 h own np a a
      (kept_in (comb_joins q p) (cell_arcs (cell_of s.design Late i)) turns.0 turns.1) (kept_in (comb_joins q p) (cell_arcs (cell_of s.design Late i)) kept.0 kept.1)
      (passes_in (comb_joins q p) (cell_arcs (cell_of s.design Late i)) turns.0 turns.1) (passes_in (comb_joins q p) (cell_arcs (cell_of s.design Late i)) kept.0 kept.1)
      (ap (λ t. t && same_flag (keeps turns.0) (keeps kept.0)) (nat_eq_equiv.refl a.number)
      ∙ ap (λ t. same_flag t (keeps kept.0)) turns.2 ∙ ap not is_kept)

  -- a pin that is not driven by a cell is entered well
  one_driver : (p : Pin) → is_driver p ≡ false → length (pins_before s.design p) ≤ 1
  one_driver p e =
      subst (λ (ps : List Pin). length ps ≤ 1) (sym (ap (λ b. if b then option_map_or (comb_before s.design p) p.owner [] else driver_on s.design (net_of p)) e)) (by (net_of p))
    where
      few : (o : Option Pin) → length (option_to_list o) ≤ 1
      few None = omega arith
      few (Some q) = omega arith

      by : (o : Option (List ℕ)) → length (driver_on s.design o) ≤ 1
      by None = omega arith
      by (Some name) = few (driver s.design name)

  pub breaks_apart : (p : Pin) (m : ℕ) → HasNumber s p m → breaks_network s.design p ≡ true → AreApart marks (pin_arcs s) m
  breaks_apart p m h breaks = by (is_driver p) refl p.owner refl
    where
      one : ((is_network s.design p && not (is_clock_port s.design p)) ≡ true) × (not (enters_well s.design p) ≡ true)
      one = and_parts (is_network s.design p && not (is_clock_port s.design p)) (not (enters_well s.design p)) breaks

      two : (is_network s.design p ≡ true) × (not (is_clock_port s.design p) ≡ true)
      two = and_parts (is_network s.design p) (not (is_clock_port s.design p)) one.0

      some : 0 < length (network_before s.design p)
      some = net.entered p h.within two.0 (not-true (is_clock_port s.design p) two.1)

      ill : enters_well s.design p ≡ false
      ill = not-true (enters_well s.design p) one.1

      by : (t : Bool) → is_driver p ≡ t → (o : Option Inst) → p.owner ≡ o → AreApart marks (pin_arcs s) m
      by false e o owner =
          let few = short_filter (is_network s.design) (pins_before s.design p) (one_driver p e) in
          let there = some in
          let single : nat_eq (length (network_before s.design p)) 1 ≡ true = eq-eqb (length (network_before s.design p)) 1 (omega arith) in
          let every = all_true (λ from. not (is_driver p) || one_sense (arcs_between s.design from p)) (network_before s.design p)
          (λ q c. or_left (not (is_driver p)) (one_sense (arcs_between s.design q p)) (ap not e)) in
          absurd (false≢true (sym ill ∙ and_from (nat_eq (length (network_before s.design p)) 1) _ single every))
      by true e None owner =
          let none : pins_before s.design p ≡ [] =
          ap (λ b. if b then option_map_or (comb_before s.design p) p.owner [] else driver_on s.design (net_of p)) e
          ∙ ap (λ o. option_map_or (comb_before s.design p) o []) owner in
          let empty : length (network_before s.design p) ≡ 0 = ap (λ ps. length (filter (is_network s.design) ps)) none in
          let there = some in
          absurd (omega arith)
      by true e (Some i) owner =
          let own = own_back s.design linked p i h.within owner in
          elim (and_cases (nat_eq (length (network_before s.design p)) 1) (list_all (λ from. not (is_driver p) || one_sense (arcs_between s.design from p)) (network_before s.design p)) ill) [
            | inl many ↦ by_pair i p m h own e owner two.0 some many
            | inr bad ↦
                let q = all_back (λ from. not (is_driver p) || one_sense (arcs_between s.design from p)) (network_before s.design p) bad in
                by_sense i p q.0 m h own e owner two.0 q.1 q.2
          ]

  -- two arcs that enter in different ways break the network
  record IsEnd (a : PinArc) (p : Pin) (m : ℕ) : Type 0 where
    before : Pin
    has : HasNumber s before a.from
    within : Contains (network_before s.design p) before
    inst : Inst
    owner : p.owner ≡ Some inst
    cell_arc : CellArc
    arc_in : Contains (cell_arcs (cell_of s.design Late inst)) cell_arc
    joins : comb_joins before p cell_arc ≡ true
    keeping : keeps cell_arc ≡ same_tran a.from_tran a.to_tran

  end_of : (a : PinArc) (p : Pin) (m : ℕ) → HasNumber s p m → Contains (pin_arcs s) a → a.to ≡ m → enters marks a ≡ true → IsEnd a p m
  end_of a p m h c to inside =
      let k = placed_back s num linked a c in
      let one = and_parts (is_comb_arc a && get_or marks a.from false) (get_or marks a.to false) inside in
      let two = and_parts (is_comb_arc a) (get_or marks a.from false) one.0 in
      let same : cell_pin k.inst k.to ≡ p = same_pin_at s (cell_pin k.inst k.to) p m (moved s (cell_pin k.inst k.to) a.to m to k.to_number) h in
      let link : Contains (network_links s) (link_of a) =
      Contains-append_right (net_links s) (filter_map comb_link (pin_arcs s)) (link_of a)
      (in_filter_map comb_link (pin_arcs s) a (link_of a) c (ap (λ t. if t then Some (link_of a) else None) two.0)) in
      let q = back_before s num linked fault p m (link_of a) h link to in
      let is : q.pin ≡ cell_pin k.inst k.from = same_pin_at s q.pin (cell_pin k.inst k.from) a.from q.has k.from_number in
      record {
        before = cell_pin k.inst k.from;
        has = k.from_number;
        within =
            in_filter (is_network s.design) (pins_before s.design p) (cell_pin k.inst k.from)
            (subst (λ (x : Pin). Contains (pins_before s.design p) x) is q.within)
            (sym (mark_is (cell_pin k.inst k.from) a.from k.from_number) ∙ two.1);
        inst = k.inst;
        owner = ap (λ (x : Pin). x.owner) (sym same);
        cell_arc = k.arc;
        arc_in = subst (λ (o : Option Cell). Contains (cell_arcs o) k.arc) (sym k.cell_is) k.arc_in;
        joins = ap (λ (x : Pin). comb_joins (cell_pin k.inst k.from) x k.arc) (sym same) ∙ joins_comb s num linked fault a k two.0;
        keeping = ap (λ (x : PinArc). same_tran x.from_tran x.to_tran) k.same;
      }

  pub apart_breaks : (p : Pin) (m : ℕ) → HasNumber s p m → AreApart marks (pin_arcs s) m → breaks_network s.design p ≡ true
  apart_breaks p m h a =
      and_from (is_network s.design p && not (is_clock_port s.design p)) (not (enters_well s.design p))
      (and_from (is_network s.design p) (not (is_clock_port s.design p)) inside (ap not port))
      (not_from_false (enters_well s.design p) (false_from_ne_true (enters_well s.design p) well))
    where
      one : IsEnd a.one p m
      one = end_of a.one p m h a.one_in a.one_to a.one_enters

      two : IsEnd a.two p m
      two = end_of a.two p m h a.two_in a.two_to a.two_enters

      k : IsPlaced s a.one
      k = placed_back s num linked a.one a.one_in

      same : cell_pin k.inst k.to ≡ p
      same = same_pin_at s (cell_pin k.inst k.to) p m (moved s (cell_pin k.inst k.to) a.one.to m a.one_to k.to_number) h

      inside : is_network s.design p ≡ true
      inside =
          sym (mark_is p m h) ∙ ap (λ n. get_or marks n false) (sym a.one_to)
          ∙ (and_parts (is_comb_arc a.one && get_or marks a.one.from false) (get_or marks a.one.to false) a.one_enters).1

      port : is_clock_port s.design p ≡ false
      port = ap (λ o. port_has_clock s.design.constraints.clocks o p) one.owner

      drives : is_driver p ≡ true
      drives = ap is_driver (sym same) ∙ dir_flips Output k.to.dir k.to_dir

      well : enters_well s.design p ≡ true → ⊥
      well e =
          let parts = and_parts (nat_eq (length (network_before s.design p)) 1) (list_all (λ from. not (is_driver p) || one_sense (arcs_between s.design from p)) (network_before s.design p)) e in
          let pins_same : one.before ≡ two.before = the_one (network_before s.design p) one.before two.before parts.0 one.within two.within in
          let numbers : a.one.from ≡ a.two.from =
          some_is (sym one.has.number ∙ ap (λ (x : Pin). number_of s.pins (name_of x)) pins_same ∙ two.has.number) in
          let insts : one.inst ≡ two.inst = some_is (sym one.owner ∙ two.owner) in
          let sense : (not (is_driver p) || one_sense (arcs_between s.design one.before p)) ≡ true =
          all_in (λ from. not (is_driver p) || one_sense (arcs_between s.design from p)) (network_before s.design p) one.before parts.1 one.within in
          let single : one_sense (arcs_between s.design one.before p) ≡ true =
          sym (ap (λ t. not t || one_sense (arcs_between s.design one.before p)) drives) ∙ sense in
          let between : arcs_between s.design one.before p ≡ filter (comb_joins one.before p) (cell_arcs (cell_of s.design Late one.inst)) =
          ap (λ o. option_map_or (λ inst. filter (comb_joins one.before p) (cell_arcs (cell_of s.design Late inst))) o []) one.owner in
          let first : Contains (arcs_between s.design one.before p) one.cell_arc =
          subst (λ (cs : List CellArc). Contains cs one.cell_arc) (sym between)
          (in_filter (comb_joins one.before p) (cell_arcs (cell_of s.design Late one.inst)) one.cell_arc one.arc_in one.joins) in
          let second : Contains (arcs_between s.design one.before p) two.cell_arc =
          subst (λ (cs : List CellArc). Contains cs two.cell_arc) (sym between)
          (in_filter (comb_joins one.before p) (cell_arcs (cell_of s.design Late one.inst)) two.cell_arc
          (subst (λ (i : Inst). Contains (cell_arcs (cell_of s.design Late i)) two.cell_arc) (sym insts) two.arc_in)
          (ap (λ (x : Pin). comb_joins x p two.cell_arc) pins_same ∙ two.joins)) in
          let flags : same_tran a.one.from_tran a.one.to_tran ≡ same_tran a.two.from_tran a.two.to_tran =
          sym one.keeping ∙ alike (arcs_between s.design one.before p) one.cell_arc two.cell_arc single first second ∙ two.keeping in
          false≢true (sym a.differ ∙ and_from (nat_eq a.one.from a.two.from) _ (eq-eqb a.one.from a.two.from numbers)
          (ap (λ t. same_flag t (same_tran a.two.from_tran a.two.to_tran)) flags ∙ flag_self (same_tran a.two.from_tran a.two.to_tran)))
        where
          alike : (cs : List CellArc) (x y : CellArc) → one_sense cs ≡ true → Contains cs x → Contains cs y → keeps x ≡ keeps y
          alike cs x y g c d = elim (or_cases (list_all keeps cs) (list_all (λ arc. not (keeps arc)) cs) g) [
            | inl all ↦ all_in keeps cs x all c ∙ sym (all_in keeps cs y all d)
            | inr all ↦
                not-true (keeps x) (all_in (λ arc. not (keeps arc)) cs x all c)
                ∙ sym (not-true (keeps y) (all_in (λ arc. not (keeps arc)) cs y all d))
          ]

  pub arcs_within : All (λ a. (a.from < length marks) × (a.to < length marks)) (pin_arcs s)
  arcs_within = λ k d low.
      let p = placed_back s num linked (get_or (pin_arcs s) k d) (Contains-get_or (pin_arcs s) k d low) in
      (omega (arith, p.from_number.below, net.count), omega (arith, p.to_number.below, net.count))

  -- a pin that is entered in different ways is there
  pub pin_of : (m : ℕ) → AreApart marks (pin_arcs s) m → (p : Pin) × HasNumber s p m
  pin_of m a =
      let k = placed_back s num linked a.one a.one_in in
      (cell_pin k.inst k.to, moved s (cell_pin k.inst k.to) a.one.to m a.one_to k.to_number)

-- the least name
cmp_equal : (a b : List ℕ) → slice_cmp nat_cmp a b ≡ Equal → a ≡ b
cmp_equal [] [] e = refl
cmp_equal [] (y ∷ ys) e = absurd (cc)
cmp_equal (x ∷ xs) [] e = absurd (cc)
cmp_equal (x ∷ xs) (y ∷ ys) e = elim (cases_lt x y) [
  | inl low ↦ let f : Less ≡ Equal = rw (lt-ltb x y low) at e in absurd (cc)
  | inr high ↦ elim (cases_eq x y) [
    | inl same ↦
        let f : slice_cmp nat_cmp xs ys ≡ Equal = rw (le-ltb x y high, eq-eqb x y same) at e in
        ap (λ n. n ∷ xs) same ∙ ap (λ ns. y ∷ ns) (cmp_equal xs ys f)
    | inr other ↦ let f : Greater ≡ Equal = rw (le-ltb x y high, ne_eqb x y other) at e in absurd (cc)
  ]
]

neither_before : (a b : List ℕ) → is_before a b ≡ false → is_before b a ≡ false → a ≡ b
neither_before a b h k = by (slice_cmp nat_cmp a b) refl
  where
    by : (o : Ordering) → slice_cmp nat_cmp a b ≡ o → a ≡ b
    by Less e = absurd (false≢true (sym h ∙ ap is_lt e))
    by Equal e = cmp_equal a b e
    by Greater e = absurd (false≢true (sym k ∙ sym (flipped a b) ∙ ap is_gt e))

least_at : (xs : List (List ℕ)) (b a : List ℕ) → (b ≡ a) ⊎ Contains xs a → is_before b a ≡ false → ((x : List ℕ) → Contains xs x → is_before x a ≡ false)
    → least_from (Some b) xs ≡ Some a
least_at [] b a (inl e) h f = ap Some e
least_at [] b a (inr c) h f = absurd (none_in a c)
least_at (x ∷ xs) b a w h f = elim (cases_Bool (is_before x b)) [
  | inl e ↦ rw e (least_at xs x a (taken w e) (f x (first_in x xs)) (λ y c. f y (later_in x xs y c)))
  | inr e ↦ rw e (least_at xs b a (left w e) h (λ y c. f y (later_in x xs y c)))
]
  where
    split : Contains (x ∷ xs) a → (x ≡ a) ⊎ Contains xs a
    split c = in_cases x xs a c

    taken : (b ≡ a) ⊎ Contains (x ∷ xs) a → is_before x b ≡ true → (x ≡ a) ⊎ Contains xs a
    taken (inl same) e = absurd (false≢true (sym (f x (first_in x xs)) ∙ ap (is_before x) (sym same) ∙ e))
    taken (inr c) e = split c

    left : (b ≡ a) ⊎ Contains (x ∷ xs) a → is_before x b ≡ false → (b ≡ a) ⊎ Contains xs a
    left (inl same) e = inl same
    left (inr c) e = elim (split c) [
      | inl same ↦ inl (neither_before b a h (ap (λ n. is_before n b) (sym same) ∙ e))
      | inr d ↦ inr d
    ]

least_is : (xs : List (List ℕ)) (a : List ℕ) → Contains xs a → ((x : List ℕ) → Contains xs x → is_before x a ≡ false) → least xs ≡ Some a
least_is [] a c f = absurd (none_in a c)
least_is (x ∷ xs) a c f = least_at xs x a (in_cases x xs a c) (f x (first_in x xs)) (λ y d. f y (later_in x xs y d))

least_nothing : (xs : List (List ℕ)) → ((x : List ℕ) → Contains xs x → ⊥) → least xs ≡ None
least_nothing [] f = refl
least_nothing (x ∷ xs) f = absurd (f x (first_in x xs))

module _ (s : Stored) (num : IsNumbered s) (linked : IsLinked s.design) (fault : net_fault s.design ≡ None) (marks : List Bool) (net : IsNetwork s marks)
    (apart : List ℕ) (all : AreAllApart marks (pin_arcs s) apart) where
  -- a name of a pin that breaks the network
  pub record IsBreaking (name : List ℕ) : Type 0 where
    pub number : ℕ
    pub within : Contains apart number
    pub same : number_name s number ≡ name

  breaking : (name : List ℕ) → Contains (map name_of (filter (breaks_network s.design) (pins s.design))) name → IsBreaking name
  breaking name c =
      let m = in_map_back name_of (filter (breaks_network s.design) (pins s.design)) name c in
      let h = pin_told s num linked m.item (kept_in (breaks_network s.design) (pins s.design) m.item m.within) in
      record {
        number = h.0;
        within = all.all h.0 (breaks_apart s num linked fault marks net m.item h.0 h.1 (passes_in (breaks_network s.design) (pins s.design) m.item m.within));
        same = number_has_name s num linked m.item h.0 h.1 ∙ m.same;
      }

  pub tree_none : (names : List (List ℕ)) → names ≡ map (number_name s) apart → names ≡ [] → clock_not_tree s.design ≡ None
  tree_none names e none = least_nothing (map name_of (filter (breaks_network s.design) (pins s.design))) (λ name c.
      let b = breaking name c in
      none_in (number_name s b.number)
      (subst (λ (ns : List (List ℕ)). Contains ns (number_name s b.number)) (sym e ∙ none) (in_map (number_name s) apart b.number b.within)))

  pub tree_least : (names : List (List ℕ)) (place : ℕ) → names ≡ map (number_name s) apart → place < length names
      → ((k : ℕ) → k < length names → is_before (get_or names k []) (get_or names place []) ≡ false) → clock_not_tree s.design ≡ Some (get_or names place [])
  tree_least names place e low best =
      least_is (map name_of (filter (breaks_network s.design) (pins s.design))) (get_or names place [])
      (subst (λ (n : List ℕ). Contains (map name_of (filter (breaks_network s.design) (pins s.design))) n) (sym (number_has_name s num linked p.0 m p.1) ∙ sym here)
      (in_map name_of (filter (breaks_network s.design) (pins s.design)) p.0
      (in_filter (breaks_network s.design) (pins s.design) p.0 p.1.within (apart_breaks s num linked fault marks net p.0 m p.1 (all.sound m member)))))
      (λ name c.
      let b = breaking name c in
      let k = in_map (number_name s) apart b.number b.within in
      let inside : k.0 < length names = omega (arith, k.1, ap length e) in
      let is : get_or names k.0 [] ≡ name =
      ap (λ ns. get_or ns k.0 []) e ∙ get_or_default (map (number_name s) apart) k.0 [] (number_name s b.number) k.1 ∙ k.2 ∙ b.same in
      ap (λ n. is_before n (get_or names place [])) (sym is) ∙ best k.0 inside)
    where
      m : ℕ
      m = get_or apart place 0

      inner : place < length apart
      inner = omega (arith, ap length e, length-map apart (number_name s))

      member : Contains apart (get_or apart place 0)
      member = Contains-get_or apart place 0 inner

      here : get_or names place [] ≡ number_name s (get_or apart place 0)
      here = ap (λ ns. get_or ns place []) e ∙ get_or-map (number_name s) apart place 0 [] inner

      p : (p : Pin) × HasNumber s p (get_or apart place 0)
      p = pin_of s num linked fault marks net (get_or apart place 0) (all.sound (get_or apart place 0) member)

  pub apart_numbers : All (λ n. is_number s.pins n ≡ true) apart
  apart_numbers = λ k d low.
      let p = pin_of s num linked fault marks net (get_or apart k d) (all.sound (get_or apart k d) (Contains-get_or apart k d low)) in
      ap is_some p.1.name
