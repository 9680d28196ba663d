-- The rows of the endpoints of a store are those of the endpoints of its design.

use Rattle.std.proofs.Common.{◌≡◌, ℕ, ◌<◌, ℤ, true, false, List, [], ◌∷◌, length, get_or, Option, None, Some, refl, sym, ap, subst, ◌∙◌, inl, inr, arith}
use Rattle.std.specs.Prelude.{Contains, All, is_some, option_map}
use Rattle.std.specs.List.{IsDistinct, AllByRecursion, cons_option}
use Rattle.std.specs.Option.{unwrap_or}
use Rattle.std.proofs.lemmas.Bool.{cases_Bool}
use Rattle.std.proofs.lemmas.List.{get_or_default}
use Rattle.timing_defs.specs.Netlist.{name_of}
use Rattle.timing_defs.specs.declared.kinds.Kind.{Kind}
use Rattle.timing_defs.specs.declared.reports.EndRow.{EndRow}
use Rattle.timing_rules.specs.Paths.{IsSlack}
use Rattle.timing_rules.specs.Reports.{goes_before, IsEndRow, AreWorst}
use Rattle.netlist_store.specs.Linked.{IsLinked}
use Rattle.netlist_store.specs.Numbering.{Stored, name_at, is_number, IsNumbered}
use Rattle.itertools.specs.Extremes.{IsKLeast}
use Rattle.level_workers.specs.Mapped.{IsMap}
use Rattle.timing_defs.proofs.Members.{some_is, first_in, later_in, in_filter_map, in_filter_map_back}
use Rattle.affected_cone.specs.declared.ends.EndSlacks.{EndSlacks}
use Rattle.affected_cone.specs.Analysed.{is_end, ends_of, slack_in, IsEnd}
use Rattle.affected_cone.specs.Ranks.{row_with, row_of, rows_of}
use Rattle.affected_cone.proofs.EndNumbers.{end_pin, end_listed, listed_end, end_named, name_end}
use Rattle.affected_cone.proofs.MapLaws.{item_of, result_of}
use Rattle.affected_cone.proofs.OrderLaws.{ties, ties_same, worst_told}
use Rattle.affected_cone.proofs.RisingLists.{Rises, rises}
use Rattle.affected_cone.proofs.SlackLaws.{slack_one}

all_by : {X : Type 0} (P : X → Type 0) (xs : List X) → ((x : X) → Contains xs x → P x) → AllByRecursion P xs
all_by P [] each = tt
all_by P (x ∷ xs) each = (each x (first_in x xs), all_by P xs (λ y c. each y (later_in x xs y c)))

module _ (s : Stored) (num : IsNumbered s) (linked : IsLinked s.design) (kind : Kind) where
  -- the row of an endpoint
  record IsRowOf (n : ℕ) (r : EndRow) : Type 0 where
    name : name_at s.pins n ≡ Some r.pin
    slack : IsSlack s.design kind r.pin (Some r.slack.0)

  row_told : (n : ℕ) (e : EndSlacks) (r : EndRow) (name : List ℕ) → name_at s.pins n ≡ Some name → IsEnd s n e → row_of s kind e ≡ Some r → IsRowOf n r
  row_told n e r name at is same = by (slack_in kind e) refl
    where
      word : unwrap_or (name_at s.pins e.pin) [] ≡ name
      word = ap (λ m. unwrap_or (name_at s.pins m) []) is.number ∙ ap (λ o. unwrap_or o []) at

      by : (o : Option ℤ) → slack_in kind e ≡ o → IsRowOf n r
      by None h =
          let f : None ≡ Some r = sym (ap (option_map (row_with (unwrap_or (name_at s.pins e.pin) []))) h) ∙ same in
          absurd (cc)
      by (Some x) h =
          let f : Some (row_with (unwrap_or (name_at s.pins e.pin) []) x) ≡ Some r =
          sym (ap (option_map (row_with (unwrap_or (name_at s.pins e.pin) []))) h) ∙ same in
          let is_row : row_with name x ≡ r = sym (ap (λ w. row_with w x) word) ∙ some_is f in
          subst (λ (row : EndRow). IsRowOf n row) is_row
          (record { name = at; slack = subst (λ (o : Option ℤ). IsSlack s.design kind name o) h (is.slack kind name at) })

  end_name : (n : ℕ) → is_end s n ≡ true → (name : List ℕ) × (name_at s.pins n ≡ Some name)
  end_name n end = let p = end_pin s num linked n end in (name_of p.pin, p.has.name)

  rows_sound : (ends : List EndSlacks) → IsMap (IsEnd s) (ends_of s) ends → (r : EndRow) → Contains (rows_of s kind ends) r → IsEndRow s.design kind r
  rows_sound ends m r c =
      let found = in_filter_map_back (row_of s kind) ends r c in
      let o = item_of (IsEnd s) (ends_of s) ends m found.item found.within in
      let end = listed_end s num linked o.item o.within in
      let named = end_name o.item end in
      let told = row_told o.item found.item r named.0 named.1 o.gives found.same in
      (end_named s num linked o.item r.pin end told.name, told.slack)

  rows_all : (ends : List EndSlacks) → IsMap (IsEnd s) (ends_of s) ends → (r : EndRow) → IsEndRow s.design kind r → Contains (rows_of s kind ends) r
  rows_all ends m r is =
      let named = name_end s num linked r.pin is.0 in
      let result = result_of (IsEnd s) (ends_of s) ends m named.number (end_listed s num linked named.number named.end) in
      let slack = slack_one s.design kind r.pin (slack_in kind result.result) (Some r.slack.0) (result.gives.slack kind r.pin named.told) is.1 in
      let word : unwrap_or (name_at s.pins result.result.pin) [] ≡ r.pin =
      ap (λ k. unwrap_or (name_at s.pins k) []) result.gives.number ∙ ap (λ o. unwrap_or o []) named.told in
      in_filter_map (row_of s kind) ends result.result r result.within
      (ap (option_map (row_with (unwrap_or (name_at s.pins result.result.pin) []))) slack ∙ ap (λ w. Some (row_with w r.slack.0)) word)

  -- no two rows tie
  rows_apart : (ns : List ℕ) (ends : List EndSlacks) → Rises ns → ((n : ℕ) → Contains ns n → is_end s n ≡ true) → IsMap (IsEnd s) ns ends
      → IsDistinct ties (rows_of s kind ends)
  unfolding IsDistinct
  rows_apart [] [] up each m = tt
  rows_apart [] (e ∷ ends) up each m = absurd m
  rows_apart (n ∷ ns) [] up each m = absurd m
  rows_apart (n ∷ ns) (e ∷ ends) up each m = by (row_of s kind e) refl (rows_apart ns ends up.1 (λ k c. each k (later_in n ns k c)) m.1)
    where
      other : (r y : EndRow) → row_of s kind e ≡ Some r → Contains (rows_of s kind ends) y → ties r y ≡ true → ⊥
      other r y same c tie =
          let found = in_filter_map_back (row_of s kind) ends y c in
          let o = item_of (IsEnd s) ns ends m.1 found.item found.within in
          let mine = end_name n (each n (first_in n ns)) in
          let theirs = end_name o.item (each o.item (later_in n ns o.item o.within)) in
          let a = row_told n e r mine.0 mine.1 m.0 same in
          let b = row_told o.item found.item y theirs.0 theirs.1 o.gives found.same in
          let pins : y.pin ≡ r.pin = ap (λ (row : EndRow). row.pin) (sym (ties_same r y tie)) in
          let one = num.pins.distinct n r.pin a.name in
          let two = num.pins.distinct o.item r.pin (b.name ∙ ap Some pins) in
          let numbers : n ≡ o.item = some_is (sym one ∙ two) in
          let low = up.0 o.item o.within in
          omega arith

      by : (o : Option EndRow) → row_of s kind e ≡ o → IsDistinct ties (rows_of s kind ends) → IsDistinct ties (cons_option (row_of s kind e) (rows_of s kind ends))
      by None h rest = subst (λ (o : Option EndRow). IsDistinct ties (cons_option o (rows_of s kind ends))) (sym h) rest
      by (Some r) h rest =
          subst (λ (o : Option EndRow). IsDistinct ties (cons_option o (rows_of s kind ends))) (sym h) (
            all_by (λ (y : EndRow). ties r y ≡ false) (rows_of s kind ends)
                (λ y c. elim (cases_Bool (ties r y)) [ inl tie ↦ absurd (other r y h c tie) | inr t ↦ t ]),
            rest,
          )

  pub worst_rows_told : (count : ℕ) (ends : List EndSlacks) (worst : List EndRow) → IsMap (IsEnd s) (ends_of s) ends
      → IsKLeast goes_before count (rows_of s kind ends) worst → AreWorst s.design kind count worst
  worst_rows_told count ends worst m least =
      worst_told s.design kind count (rows_of s kind ends) worst least (rows_sound ends m) (rows_all ends m)
      (rows_apart (ends_of s) ends (rises (is_end s) 0 (length s.pins)) (λ n c. listed_end s num linked n c) m)

  -- the pins of endpoints have numbers
  pub numbers_there : (ends : List EndSlacks) → IsMap (IsEnd s) (ends_of s) ends → All (λ e. is_number s.pins e.pin ≡ true) ends
  numbers_there ends m = λ i d low. at (get_or ends i d) (i, low, same i d low)
    where
      same : (i : ℕ) (d : EndSlacks) → i < length ends → get_or ends i (get_or ends i d) ≡ get_or ends i d
      same i d low = get_or_default ends i (get_or ends i d) d low

      at : (e : EndSlacks) → Contains ends e → is_number s.pins e.pin ≡ true
      at e c =
          let o = item_of (IsEnd s) (ends_of s) ends m e c in
          let named = end_name o.item (listed_end s num linked o.item o.within) in
          ap (λ k. is_some (name_at s.pins k)) o.gives.number ∙ ap is_some named.1
