-- Endpoints in the order of their slacks: one more, the first that is above all that are kept, and the last.

use Rattle.std.proofs.Common.{◌≡◌, ◌⊎◌, ℕ, ◌+◌, ◌<◌, ◌≤◌, ℤ, ◌<ℤ◌, ◌≤ℤ◌, true, false, List, [], ◌∷◌, ◌++◌, map, take, drop, length, get_or, Some, sym, ap, subst, ◌∙◌, inl, inr, arith}
use Rattle.std.specs.Prelude.{All, nat_lt}
use Rattle.std.specs.List.{Contains}
use Rattle.std.proofs.lemmas.Bool.{true≢false}
use Rattle.std.proofs.lemmas.Bool.Decides.{nat_tests}
use Rattle.std.proofs.lemmas.Int.{ints}
use Rattle.std.proofs.lemmas.List.{length-map, map_more, take-append-drop, drop_more, take_all}
use Rattle.std.proofs.lemmas.List.Elements.{Contains-append_left, Contains-append_right, Contains-append_cases, All-contains}
use Rattle.std.specs.Cmp.Lexicographic.{slice_cmp}
use Rattle.std.specs.Ordering.{nat_cmp}
use Rattle.timing_defs.specs.declared.kinds.Kind.{Kind}
use Rattle.timing_defs.specs.declared.design.Design.{Design}
use Rattle.timing_defs.specs.declared.rows.Path.{Path}
use Rattle.timing_defs.specs.declared.reports.EndRow.{EndRow}
use Rattle.timing_defs.specs.Firsts.{AreFirst}
use Rattle.timing_defs.proofs.Members.{first_in, in_cases, in_map, in_map_back}
use Rattle.timing_rules.specs.Paths.{nodes_cmp, IsSlack}
use Rattle.timing_rules.specs.Ranking.{Ranked, ranked, comes_before, IsRanked}
use Rattle.timing_rules.specs.Reports.{endpoints, goes_before, AreInOrder, AreWorst}
use Rattle.timing_rules.specs.Summaries.{IsEligible, AreDesignPaths}
use Rattle.design_paths.specs.Seen.{IsOf, AreOf, AreAdded}
use Rattle.design_paths.proofs.FirstLists.{same_first, wider_first}
use Rattle.design_paths.proofs.PathOrder.{up_to, not_before}
use Rattle.design_paths.proofs.EndLists.{HasRow, has_row, row_from, row_order, rows_before, rows_after, one_slack, path_slack}
use Rattle.design_paths.proofs.Adding.{added}

abbrev pub pin_of : EndRow → List ℕ
pin_of row = row.pin

not_after : (a b : EndRow) → goes_before a b ≡ true → a.slack.0 ≤ℤ b.slack.0
not_after a b h = up_to a.slack.0 b.slack.0 (slice_cmp nat_cmp a.pin b.pin) h

pins_in : (rows : List EndRow) (pin : List ℕ) → HasRow rows pin → Contains (map pin_of rows) pin
pins_in rows pin h = subst (λ (w : List ℕ). Contains (map pin_of rows) w) h.2 (in_map pin_of rows h.0 h.1)

module _ (d : Design) (kind : Kind) (count each most : ℕ) (rows : List EndRow) (worst : AreWorst d kind most rows) where
  -- a row is an endpoint's
  pub row_end : (i : ℕ) (row : EndRow) → i < length rows → row ≡ get_or rows i row → Contains (endpoints d) row.pin
  row_end i row low here = (worst.0 row (i, low, sym here)).0

  split : (i : ℕ) (row : EndRow) → i < length rows → row ≡ get_or rows i row → rows ≡ take i rows ++ row ∷ drop (i + 1) rows
  split i row low here =
      sym (take-append-drop i rows) ∙ ap (λ xs. take i rows ++ xs) (drop_more rows i row low)
      ∙ ap (λ (r : EndRow). take i rows ++ r ∷ drop (i + 1) rows) (sym here)

  module _ (i : ℕ) (row : EndRow) (low : i < length rows) (here : row ≡ get_or rows i row) where
    abbrev front : List EndRow
    front = take i rows

    abbrev rest : List EndRow
    rest = drop (i + 1) rows

    parted : AreInOrder (front ++ row ∷ rest)
    parted = subst AreInOrder (split i row low here) worst.1

    in_front : (r : EndRow) → Contains front r → Contains rows r
    in_front r c = subst (λ xs. Contains xs r) (sym (split i row low here)) (Contains-append_left front (row ∷ rest) r c)

    in_rest : (r : EndRow) → Contains (row ∷ rest) r → Contains rows r
    in_rest r c = subst (λ xs. Contains xs r) (sym (split i row low here)) (Contains-append_right front (row ∷ rest) r c)

    -- its pin has no row before
    fresh : Contains (map pin_of front) row.pin → ⊥
    fresh c =
        let m = in_map_back pin_of front row.pin c in
        let one = (worst.0 m.item (in_front m.item m.within)).1 in
        let mine = (worst.0 row (in_rest row (first_in row rest))).1 in
        let moved = subst (λ (w : List ℕ). IsSlack d kind w (Some m.item.slack.0)) m.same one in
        let same = row_from m.item row m.same (one_slack d kind row.pin m.item.slack.0 row.slack.0 moved mine) in
        let ahead = rows_before front row rest parted m.item m.within in
        true≢false (sym (subst (λ (w : EndRow). goes_before w row ≡ true) same ahead) ∙ row_order.itself row)

    -- one endpoint more
    pub row_added : (kept after : List Path) → AreOf d kind count each (map pin_of (take i rows)) kept → AreAdded d kind count each row.pin kept after
        → AreOf d kind count each (map pin_of (take (i + 1) rows)) after
    row_added kept after of add =
        subst (λ (pins : List (List ℕ)). AreOf d kind count each pins after)
        (sym (map_more pin_of rows i row low ∙ ap (λ (r : EndRow). map pin_of front ++ r.pin ∷ []) (sym here)))
        (added d kind count each (map pin_of front) row.pin kept after of fresh add)

    -- an endpoint that has no row before has a slack that is not less
    slack_from : (pin : List ℕ) (s : ℤ) → Contains (endpoints d) pin → IsSlack d kind pin (Some s) → (HasRow front pin → ⊥) → row.slack.0 ≤ℤ s
    slack_from pin s end is never = elim (has_row (row ∷ rest) pin) [ inl h ↦ listed h | inr none ↦ left_out none ]
      where
        listed : HasRow (row ∷ rest) pin → row.slack.0 ≤ℤ s
        listed h =
            let its = subst (λ (w : List ℕ). IsSlack d kind w (Some h.0.slack.0)) h.2 (worst.0 h.0 (in_rest h.0 h.1)).1 in
            let same = one_slack d kind pin h.0.slack.0 s its is in
            elim (in_cases row rest h.0 h.1) [
              | inl e ↦ let slack : row.slack.0 ≡ h.0.slack.0 = ap (λ (r : EndRow). r.slack.0) e in omega (arith, ints)
              | inr c ↦ let more = not_after row h.0 (rows_after front row rest parted h.0 c) in omega (arith, ints)
            ]

        its_row : EndRow
        its_row = record { pin = pin; slack = record { 0 = s } }

        lacking : (HasRow (row ∷ rest) pin → ⊥) → Contains rows its_row → ⊥
        lacking none c = elim (Contains-append_cases front (row ∷ rest) its_row (subst (λ xs. Contains xs its_row) (split i row low here) c)) [
          | inl f ↦ never (its_row, f, λ k. pin)
          | inr r ↦ none (its_row, r, λ k. pin)
        ]

        left_out : (HasRow (row ∷ rest) pin → ⊥) → row.slack.0 ≤ℤ s
        left_out none = not_after row its_row ((worst.3 its_row (end, is) (lacking none)).1 row (in_rest row (first_in row rest)))

    -- all that are kept have less than its slack
    pub stopped : (kept : List Path) → AreOf d kind count each (map pin_of (take i rows)) kept → length kept ≡ count
        → All (λ (p : Path). p.slack.0 <ℤ row.slack.0) kept → AreDesignPaths d kind count each kept
    stopped kept of full less = (
      of.0,
      wider_first comes_before count (IsOf d kind each (map pin_of front)) (IsEligible d kind each) (map ranked kept)
          (length-map kept ranked ∙ full) narrow cover of.1,
    )
      where
        narrow : (r : Ranked) → IsOf d kind each (map pin_of front) r → IsEligible d kind each r
        narrow r (pin, ends, c, f, k) =
            let m = in_map_back pin_of front pin c in
            (pin, ends, subst (λ (w : List ℕ). Contains (endpoints d) w) m.same (worst.0 m.item (in_front m.item m.within)).0, f, k)

        above : (r x : Ranked) → row.slack.0 ≤ℤ r.0 → Contains (map ranked kept) x → comes_before r x ≡ false
        above r x high c =
            let m = in_map_back ranked kept x c in
            let under : m.item.slack.0 <ℤ row.slack.0 = All-contains (λ (p : Path). p.slack.0 <ℤ row.slack.0) kept m.item less m.within in
            let same : m.item.slack.0 ≡ x.0 = ap (λ (q : Ranked). q.0) m.same in
            not_before r.0 x.0 (nodes_cmp r.1 x.1) (omega (arith, ints))

        later : (r : Ranked) (pin : List ℕ) (ends : List Ranked) → Contains (endpoints d) pin → AreFirst comes_before each (IsRanked d kind pin) ends
            → Contains ends r → (HasRow front pin → ⊥) → (x : Ranked) → Contains (map ranked kept) x → comes_before r x ≡ false
        later r pin ends end f k never x c =
            let found = path_slack d kind pin each ends r f k in
            let high = slack_from pin found.0 end found.1 never in
            let low_slack = found.2 in
            above r x (omega (arith, ints)) c

        cover : (r : Ranked) → IsEligible d kind each r → IsOf d kind each (map pin_of front) r ⊎ ((x : Ranked) → Contains (map ranked kept) x → comes_before r x ≡ false)
        cover r (pin, ends, c, f, k) = elim (has_row front pin) [
          | inl h ↦ inl (pin, ends, pins_in front pin h, f, k)
          | inr never ↦ inr (later r pin ends c f k never)
        ]

    pub stopped_at : (now kept : List Path) → now ≡ kept → AreOf d kind count each (map pin_of (take i rows)) kept → length now ≡ count
        → All (λ (p : Path). p.slack.0 <ℤ row.slack.0) now → AreDesignPaths d kind count each kept
    stopped_at now kept same of full less =
        subst (AreDesignPaths d kind count each) same
        (stopped now (subst (AreOf d kind count each (map pin_of front)) (sym same) of) full less)

  -- all endpoints that have a slack are there
  pub ended : (i : ℕ) (kept : List Path) → length rows ≤ i → AreOf d kind count each (map pin_of (take i rows)) kept → length rows < most
      → AreDesignPaths d kind count each kept
  ended i kept last of few = (
    of.0,
    same_first comes_before count (IsOf d kind each (map pin_of rows)) (IsEligible d kind each) (map ranked kept) narrow back
        (subst (λ (xs : List EndRow). AreFirst comes_before count (IsOf d kind each (map pin_of xs)) (map ranked kept)) (take_all i rows last) of.1),
  )
    where
      narrow : (r : Ranked) → IsOf d kind each (map pin_of rows) r → IsEligible d kind each r
      narrow r (pin, ends, c, f, k) =
          let m = in_map_back pin_of rows pin c in
          (pin, ends, subst (λ (w : List ℕ). Contains (endpoints d) w) m.same (worst.0 m.item m.within).0, f, k)

      gone : (r : Ranked) (pin : List ℕ) (ends : List Ranked) → Contains (endpoints d) pin → AreFirst comes_before each (IsRanked d kind pin) ends
          → Contains ends r → (HasRow rows pin → ⊥) → ⊥
      gone r pin ends end f k never =
          let found = path_slack d kind pin each ends r f k in
          let left : length rows ≡ most =
          (worst.3 (record { pin = pin; slack = record { 0 = found.0 } }) (end, found.1)
          (λ c. never (record { pin = pin; slack = record { 0 = found.0 } }, c, λ k. pin))).0 in
          omega arith

      back : (r : Ranked) → IsEligible d kind each r → IsOf d kind each (map pin_of rows) r
      back r (pin, ends, c, f, k) = elim (has_row rows pin) [
        | inl h ↦ (pin, ends, pins_in rows pin h, f, k)
        | inr never ↦ absurd (gone r pin ends c f k never)
      ]

  lt_told : (a b : ℕ) → nat_lt a b ≡ true → a < b
  lt_told a b h = grind (arith, nat_tests)

  pub ended_at : (i : ℕ) (kept : List Path) → length rows ≤ i → AreOf d kind count each (map pin_of (take i rows)) kept
      → nat_lt (length rows) most ≡ true → AreDesignPaths d kind count each kept
  ended_at i kept past of few = ended i kept past of (lt_told (length rows) most few)
