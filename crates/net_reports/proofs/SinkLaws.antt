-- The names of a net's sinks, by the numbers of a store.

use Rattle.std.proofs.Common.{◌≡◌, ℕ, suc, ◌+◌, ◌<◌, ◌≤◌, Bool, true, false, not, cond, List, [], ◌∷◌, ◌++◌, map, filter, length, drop, get_or, Some, refl, sym, ap, subst, ◌∙◌, inl, inr, arith, append_assoc}
use Rattle.std.specs.Prelude.{nat_eq, count_by, ◌&&◌, if◌then◌else◌, All, Contains}
use Rattle.std.specs.List.{IsDistinct}
use Rattle.std.specs.List.Sorted.{IsPermutation, IsSorted}
use Rattle.std.specs.Cmp.Lexicographic.{slice_cmp}
use Rattle.std.specs.Option.{option_map_or, unwrap_or}
use Rattle.std.specs.Ordering.{nat_cmp}
use Rattle.std.specs.Str.{bytes_eq}
use Rattle.std.proofs.Math.Seq.{drop-cons}
use Rattle.std.proofs.lemmas.Bool.{cases_Bool, and_parts, and_from, eq-eqb, false_from_ne_true}
use Rattle.std.proofs.lemmas.List.{map-append}
use Rattle.std.proofs.lemmas.List.Elements.{All-contains, All-contains_itself, All-weaker, recursion_from_All}
use Rattle.std.proofs.lemmas.List.Sorted.{IsPermutation-map, All-permutation, Contains-permutation}
use Rattle.std.proofs.lemmas.Map.Keys.{IsDistinct-cons, IsDistinct-IsPermutation}
use denote.Ref.{Bor}
use Rattle.timing_defs.specs.Netlist.{Pin, name_of, pins, is_on, is_driver, sinks}
use Rattle.timing_defs.proofs.Members.{some_is, none_in, in_cases, first_in, later_in, in_map, in_map_back, in_filter, passes_in, kept_in}
use Rattle.timing_defs.proofs.SameNames.{same_is, same-sym}
use Rattle.netlist_store.specs.Linked.{IsLinked}
use Rattle.netlist_store.specs.Numbering.{Stored, name_at, is_number, is_on_number, IsNumbered}
use Rattle.store_pins.specs.Drivers.{drives_at}
use Rattle.store_pins.proofs.PinLaws.{pin_at_number}
use Rattle.store_pins.proofs.DriverLaws.{on_all}
use Rattle.node_rows.specs.NetPins.{IsOnNet}
use Rattle.node_rows.specs.NetTrees.{pin_word}
use Rattle.node_rows.proofs.CountLaws.{count_cons}
use Rattle.node_rows.proofs.PinSums.{number, numbered, on_number, number_on}
use Rattle.node_rows.proofs.TreeNets.{counted_on}
use Rattle.net_reports.specs.Sinks.{sink_words, IsSinkName, AreSinkNames}
use Rattle.net_reports.proofs.OrderLaws.{sorted_rise}

-- the names so far, and those that are left
module _ (s : Stored) (pins : List ℕ) (i pin : ℕ) (low : i < length pins) (is : pin ≡ get_or pins i pin) (all : List (List ℕ)) where
  cut : drop i pins ≡ pin ∷ drop (i + 1) pins
  cut =
      let one : i + 1 ≡ suc i = omega arith in
      drop-cons pins i pin low ∙ ap (λ e. e ∷ drop (suc i) pins) (sym is) ∙ ap (λ n. pin ∷ drop n pins) (sym one)

  one_more : (b : Bool) → drives_at s pin ≡ b → sink_words s (drop i pins) ≡ cond (not b) (pin_word s pin ∷ sink_words s (drop (i + 1) pins)) (sink_words s (drop (i + 1) pins))
  one_more true e = ap (sink_words s) cut ∙ rw e refl
  one_more false e = ap (sink_words s) cut ∙ rw e refl

  pub words_more : (names more : List (Bor (List ℕ))) (name : Bor (List ℕ)) → drives_at s pin ≡ false → name_at s.pins pin ≡ Some name.now → more ≡ names ++ name ∷ []
      → map (λ n. n.now) names ++ sink_words s (drop i pins) ≡ all → map (λ n. n.now) more ++ sink_words s (drop (i + 1) pins) ≡ all
  words_more names more name sinks named e before =
      ap (λ (ns : List (Bor (List ℕ))). map (λ n. n.now) ns ++ sink_words s (drop (i + 1) pins)) e
      ∙ ap (λ ns. ns ++ sink_words s (drop (i + 1) pins)) (map-append (λ (n : Bor (List ℕ)). n.now) names (name ∷ []))
      ∙ append_assoc (map (λ n. n.now) names) (name.now ∷ []) (sink_words s (drop (i + 1) pins))
      ∙ ap (λ o. map (λ n. n.now) names ++ unwrap_or o [] ∷ sink_words s (drop (i + 1) pins)) (sym named)
      ∙ sym (ap (λ ns. map (λ n. n.now) names ++ ns) (one_more false sinks))
      ∙ before

  pub words_same : (names : List (Bor (List ℕ))) → drives_at s pin ≡ true
      → map (λ n. n.now) names ++ sink_words s (drop i pins) ≡ all → map (λ n. n.now) names ++ sink_words s (drop (i + 1) pins) ≡ all
  words_same names drives before = sym (ap (λ ns. map (λ n. n.now) names ++ ns) (one_more true drives)) ∙ before

-- what stands in a list is counted
counted : (n : ℕ) (xs : List ℕ) → Contains xs n → 1 ≤ count_by (nat_eq n) xs
counted n [] c = absurd (none_in n c)
counted n (x ∷ xs) c =
    let parts = count_cons n x xs in
    elim (in_cases x xs n c) [
      | inl same ↦
          let one : cond {A = ℕ} (nat_eq n x) 1 0 ≡ 1 = ap (λ b. cond {A = ℕ} b 1 0) (eq-eqb n x (sym same)) in
          omega arith
      | inr d ↦ let more = counted n xs d in omega arith
    ]

module _ (s : Stored) (num : IsNumbered s) (linked : IsLinked s.design) where
  word_is : (n : ℕ) → is_number s.pins n ≡ true → name_at s.pins n ≡ Some (pin_word s n)
  word_is n is = let p = pin_at_number s num linked n is in p.1.name ∙ ap Some (sym (ap (λ o. unwrap_or o []) p.1.name))

  -- numbers of one name are the same
  same_word : (m n : ℕ) → is_number s.pins m ≡ true → is_number s.pins n ≡ true → pin_word s m ≡ pin_word s n → m ≡ n
  same_word m n a b e = some_is (sym (num.pins.distinct m (pin_word s m) (word_is m a)) ∙ num.pins.distinct n (pin_word s m) (word_is n b ∙ ap Some (sym e)))

  -- the names of numbers that stand once each
  words_once : (xs : List ℕ) → ((n : ℕ) → count_by (nat_eq n) xs ≤ 1) → ((n : ℕ) → Contains xs n → is_number s.pins n ≡ true) → IsDistinct bytes_eq (sink_words s xs)
  unfolding IsDistinct
  words_once [] once are = tt
  words_once (x ∷ xs) once are = longer (words_once xs fewer (λ n c. are n (later_in x xs n c)))
    where
      fewer : (n : ℕ) → count_by (nat_eq n) xs ≤ 1
      fewer n = let parts = count_cons n x xs in let most = once n in omega arith

      other : (w : List ℕ) → Contains (sink_words s xs) w → bytes_eq (pin_word s x) w ≡ false
      other w c = false_from_ne_true (bytes_eq (pin_word s x) w) (λ e.
          let m = in_map_back (pin_word s) (filter (λ pin. not (drives_at s pin)) xs) w c in
          let within = kept_in (λ pin. not (drives_at s pin)) xs m.item m.within in
          let same : x ≡ m.item = same_word x m.item (are x (first_in x xs)) (are m.item (later_in x xs m.item within)) (same_is (pin_word s x) w e ∙ sym m.same) in
          let parts = count_cons x x xs in
          let one : cond {A = ℕ} (nat_eq x x) 1 0 ≡ 1 = ap (λ b. cond {A = ℕ} b 1 0) (eq-eqb x x refl) in
          let again = counted x xs (subst (λ (n : ℕ). Contains xs n) (sym same) within) in
          let most = once x in
          absurd (omega arith))

      longer : IsDistinct bytes_eq (sink_words s xs) → IsDistinct bytes_eq (sink_words s (x ∷ xs))
      longer rest = elim (cases_Bool (drives_at s x)) [
        | inl h ↦ rw h rest
        | inr h ↦ rw h (IsDistinct-cons bytes_eq (pin_word s x) (sink_words s xs)
            (recursion_from_All (λ w. bytes_eq (pin_word s x) w ≡ false) (sink_words s xs)
            (All-weaker (Contains (sink_words s xs)) (λ w. bytes_eq (pin_word s x) w ≡ false) other (sink_words s xs) (All-contains_itself (sink_words s xs)))) rest)
      ]

  module _ (net : ℕ) (name : List ℕ) (is : name_at s.nets net ≡ Some name) (items : List ℕ) (each : IsOnNet s net items) where
    word_of_sink : (w : List ℕ) → Contains (sink_words s items) w → IsSinkName s.design name w
    word_of_sink w c =
        let m = in_map_back (pin_word s) (filter (λ pin. not (drives_at s pin)) items) w c in
        let within = kept_in (λ pin. not (drives_at s pin)) items m.item m.within in
        let p = on_number s num linked net name is m.item (counted_on s net items each m.item within) in
        let drives : drives_at s m.item ≡ is_driver p.0 = ap (λ o. option_map_or is_driver o false) p.1.pin in
        let sinks_it : not (is_driver p.0) ≡ true = sym (ap not drives) ∙ passes_in (λ pin. not (drives_at s pin)) items m.item m.within in
        let sits = passes_in (is_on name) (pins s.design) p.0 p.3 in
        let called : name_of p.0 ≡ w = sym (ap (λ o. unwrap_or o []) p.1.name) ∙ m.same in
        subst (λ (n : List ℕ). IsSinkName s.design name n) called
        (in_map name_of (sinks s.design name) p.0
        (in_filter (λ pin. not (is_driver pin) && is_on name pin) (pins s.design) p.0 p.1.within (and_from (not (is_driver p.0)) (is_on name p.0) sinks_it sits)))

    sink_has_word : (p : Pin) → Contains (sinks s.design name) p → Contains (sink_words s items) (name_of p)
    sink_has_word p c =
        let within = kept_in (λ pin. not (is_driver pin) && is_on name pin) (pins s.design) p c in
        let passes = and_parts (not (is_driver p)) (is_on name p) (passes_in (λ pin. not (is_driver pin) && is_on name pin) (pins s.design) p c) in
        let there = numbered s num linked p within in
        let on = number_on s num linked net name is p (in_filter (is_on name) (pins s.design) p within passes.1) in
        let listed = on_all s net items each (number s num linked p) on.1 in
        let drives : not (drives_at s (number s num linked p)) ≡ true = ap (λ o. not (option_map_or is_driver o false)) there.pin ∙ passes.0 in
        subst (λ (n : List ℕ). Contains (sink_words s items) n) (ap (λ o. unwrap_or o []) there.name)
        (in_map (pin_word s) (filter (λ pin. not (drives_at s pin)) items) (number s num linked p)
        (in_filter (λ pin. not (drives_at s pin)) items (number s num linked p) listed drives))

    at_most : (n : ℕ) → count_by (nat_eq n) items ≤ 1
    at_most n = by (is_on_number s net n) (each n)
      where
        by : (b : Bool) → count_by (nat_eq n) items ≡ (if b then 1 else 0) → count_by (nat_eq n) items ≤ 1
        by true e = omega arith
        by false e = omega arith

    pub sinks_sorted : (found sorted : List (Bor (List ℕ))) → All (λ n. is_number s.pins n ≡ true) items → map (λ n. n.now) found ≡ sink_words s items → IsPermutation found sorted
        → IsSorted (λ a b. slice_cmp nat_cmp a.now b.now) sorted → AreSinkNames s.design name (map (λ n. n.now) sorted)
    sinks_sorted found sorted are told moved rises =
        record {
          each = All-permutation (IsSinkName s.design name) (sink_words s items) (map (λ n. n.now) sorted) same
              (All-weaker (Contains (sink_words s items)) (IsSinkName s.design name) word_of_sink (sink_words s items) (All-contains_itself (sink_words s items)));
          all = λ p c. Contains-permutation (sink_words s items) (map (λ n. n.now) sorted) (name_of p) same (sink_has_word p c);
          rising = sorted_rise sorted rises;
          once = IsDistinct-IsPermutation bytes_eq same-sym (sink_words s items) (map (λ n. n.now) sorted) same
              (words_once items at_most (λ n c. All-contains (λ m. is_number s.pins m ≡ true) items n are c));
        }
      where
        same : IsPermutation (sink_words s items) (map (λ n. n.now) sorted)
        same = subst (λ (ws : List (List ℕ)). IsPermutation ws (map (λ n. n.now) sorted)) told (IsPermutation-map (λ (n : Bor (List ℕ)). n.now) found sorted moved)
