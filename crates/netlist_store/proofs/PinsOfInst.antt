-- The rows and the numbers of an instance's pins, as they are written and go one by one.

use Rattle.std.proofs.Common.{◌≡◌, ℕ, zero, suc, ◌+◌, ◌<◌, ◌≤◌, Bool, true, false, List, [], ◌∷◌, ◌++◌, map, drop, length, set, get_or, Option, None, Some, refl, sym, ap, subst, ◌∙◌, inl, inr, not, arith}
use Rattle.std.specs.Prelude.{find, option_map, option_and_then, is_some, slice_get, if◌then◌else◌, ◌&&◌, ◌||◌}
use Rattle.std.specs.List.{list_all, list_any}
use Rattle.std.specs.Option.{option_or}
use Rattle.std.specs.Str.{bytes_eq}
use Rattle.std.proofs.Math.ListN.{length-set}
use Rattle.std.proofs.lemmas.List.{drop_more}
use Rattle.std.proofs.lemmas.Option.{slice_get_within}
use Rattle.std.proofs.lemmas.Bool.{cases_Bool, false≢true, true≢false, and_parts, or_parts, not-true}
use Rattle.timing_defs.specs.declared.library.CellPin.{CellPin}
use Rattle.timing_defs.specs.Netlist.{is_listed, are_distinct}
use Rattle.timing_defs.specs.Edits.{has_colon, before_last, after_last}
use Rattle.netlist_store.specs.declared.tables.PinRow.{PinRow}
use Rattle.netlist_store.specs.Numbering.{name_at, number_of, AreNumbers}
use Rattle.netlist_store.specs.Drafts.{Follows, IsFilled, IsPart, row_named, row_among, is_lost}
use Rattle.netlist_store.proofs.ShardLaws.{same_is, same_self}
use Rattle.netlist_store.proofs.NumberLaws.{number_at}
use Rattle.netlist_store.proofs.NumberEdits.{number_gone, at_gone}
use Rattle.netlist_store.proofs.InUse.{then_some}
use Rattle.netlist_store.proofs.ListLaws.{apart_sym}
use Rattle.netlist_store.proofs.PinsByWord.{is_plain, colon_in, other_inst, same_inst}
use Rattle.netlist_store.proofs.InstEdits.{of_inst}

-- each row is written over what stands there
abbrev pub rows_over : List ℕ → (CellPin → PinRow) → List CellPin → List ℕ → Option PinRow → Option PinRow
rows_over inst row [] q old = old
rows_over inst row (p ∷ ps) q old = rows_over inst row ps q (if bytes_eq q (inst ++ 58 ∷ p.name) then Some (row p) else old)

-- each name goes
abbrev pub lost_over : List ℕ → List CellPin → List CellPin → List ℕ → Option ℕ → Option ℕ
lost_over inst stay [] q old = old
lost_over inst stay (p ∷ ps) q old = lost_over inst stay ps q (if is_lost inst stay q p then None else old)

pub lost_are : (inst : List ℕ) (stay ps : List CellPin) (q : List ℕ) (old : Option ℕ)
    → lost_over inst stay ps q old ≡ (if list_any (is_lost inst stay q) ps then None else old)
lost_are inst stay [] q old = refl
lost_are inst stay (p ∷ ps) q old = by (is_lost inst stay q p) refl (lost_are inst stay ps q None) (lost_are inst stay ps q old)
  where
    none : (b : Bool) (o : Option ℕ) → o ≡ None → (if b then None else o) ≡ None
    none true o e = refl
    none false o e = e

    by : (b : Bool) → is_lost inst stay q p ≡ b → lost_over inst stay ps q None ≡ (if list_any (is_lost inst stay q) ps then None else None)
        → lost_over inst stay ps q old ≡ (if list_any (is_lost inst stay q) ps then None else old)
        → lost_over inst stay (p ∷ ps) q old ≡ (if list_any (is_lost inst stay q) (p ∷ ps) then None else old)
    by true e gone rest = rw e (gone ∙ none (list_any (is_lost inst stay q) ps) None refl)
    by false e gone rest = rw e rest

module _ (inst : List ℕ) (row : CellPin → PinRow) where
  same_tail : (a b : List ℕ) → inst ++ 58 ∷ a ≡ inst ++ 58 ∷ b → a ≡ b
  same_tail a b e = by inst e
    where
      tail : {x : ℕ} {y : ℕ} {xs ys : List ℕ} → x ∷ xs ≡ y ∷ ys → xs ≡ ys
      tail f = cc

      by : (xs : List ℕ) → xs ++ 58 ∷ a ≡ xs ++ 58 ∷ b → a ≡ b
      by [] f = tail f
      by (x ∷ xs) f = by xs (tail f)

  -- another pin's name is not among those that follow
  none_after : (q : List ℕ) (p : CellPin) (ps : List CellPin) → q ≡ inst ++ 58 ∷ p.name → is_listed (map (λ p. p.name) ps) p.name ≡ false
      → (old : Option PinRow) → rows_over inst row ps q old ≡ old
  none_after q p [] e h old = refl
  none_after q p (r ∷ rs) e h old = elim (cases_Bool (bytes_eq q (inst ++ 58 ∷ r.name))) [
    | inl f ↦
        let same : p.name ≡ r.name = same_tail p.name r.name (sym e ∙ same_is q (inst ++ 58 ∷ r.name) f) in
        let k : is_listed (map (λ p. p.name) (r ∷ rs)) p.name ≡ true = rw (ap (bytes_eq p.name) (sym same) ∙ same_self p.name) refl in
        absurd (true≢false (sym k ∙ h))
    | inr f ↦ rw f (none_after q p rs e (or_parts (bytes_eq p.name r.name) (is_listed (map (λ p. p.name) rs) p.name) h).1 old)
  ]

  pub rows_are : (ps : List CellPin) → are_distinct (map (λ p. p.name) ps) ≡ true → (q : List ℕ) (old : Option PinRow)
      → rows_over inst row ps q old ≡ option_or (row_among inst row ps q) old
  rows_are [] distinct q old = refl
  rows_are (p ∷ ps) distinct q old =
      let k = and_parts (not (is_listed (map (λ p. p.name) ps) p.name)) (are_distinct (map (λ p. p.name) ps)) distinct in
      elim (cases_Bool (bytes_eq q (inst ++ 58 ∷ p.name))) [
        | inl e ↦
            let same = same_is q (inst ++ 58 ∷ p.name) e in
            rw e (none_after q p ps same (not-true (is_listed (map (λ p. p.name) ps) p.name) k.0) (Some (row p)))
        | inr e ↦ rw e (rows_are ps k.1 q old)
      ]

-- the pin of a name, by the parts of the name
pub found_by_parts : (inst : List ℕ) (ps : List CellPin) → list_all is_plain ps ≡ true → (q : List ℕ) → find (λ p. bytes_eq q (inst ++ 58 ∷ p.name)) ps
    ≡ (if of_inst inst q then find (λ p. bytes_eq p.name (after_last q)) ps else None)
found_by_parts inst [] plain q = elim (cases_Bool (of_inst inst q)) [ inl h ↦ rw h refl | inr h ↦ rw h refl ]
found_by_parts inst (p ∷ ps) plain q =
    let k = and_parts (is_plain p) (list_all is_plain ps) plain in
    let rest = found_by_parts inst ps k.1 q in
    elim (cases_Bool (has_colon q)) [
      | inl colon ↦ elim (cases_Bool (bytes_eq (before_last q) inst)) [
        | inl e ↦
            let f : bytes_eq (inst ++ 58 ∷ p.name) q ≡ bytes_eq p.name (after_last q) =
            same_inst inst p.name q (not-true (has_colon p.name) k.0) colon (sym (same_is (before_last q) inst e)) in
            elim (cases_Bool (bytes_eq p.name (after_last q))) [
              | inl g ↦
                  let here : bytes_eq q (inst ++ 58 ∷ p.name) ≡ true =
                  ap (bytes_eq q) (same_is (inst ++ 58 ∷ p.name) q (f ∙ g)) ∙ same_self q in
                  rw here (rw colon (rw e (rw g refl)))
              | inr g ↦
                  let other : bytes_eq q (inst ++ 58 ∷ p.name) ≡ false = apart_sym (inst ++ 58 ∷ p.name) q (f ∙ g) in
                  rw other (rest ∙ rw colon (rw e (rw g refl)))
            ]
        | inr e ↦
            let other : bytes_eq q (inst ++ 58 ∷ p.name) ≡ false =
            apart_sym (inst ++ 58 ∷ p.name) q (other_inst inst p.name q (not-true (has_colon p.name) k.0) colon (apart_sym (before_last q) inst e)) in
            rw other (rest ∙ rw colon (rw e refl))
      ]
      | inr bare ↦
          let other : bytes_eq q (inst ++ 58 ∷ p.name) ≡ false = elim (cases_Bool (bytes_eq q (inst ++ 58 ∷ p.name))) [
            | inl f ↦ absurd (true≢false (sym (colon_in inst p.name) ∙ ap has_colon (sym (same_is q (inst ++ 58 ∷ p.name) f)) ∙ bare))
            | inr f ↦ f
          ] in
          rw other (rest ∙ rw bare refl)
    ]

pub row_by_parts : (inst : List ℕ) (row : CellPin → PinRow) (ps : List CellPin) → list_all is_plain ps ≡ true → (q : List ℕ) → row_among inst row ps q
    ≡ (if of_inst inst q then option_map row (find (λ p. bytes_eq p.name (after_last q)) ps) else None)
row_by_parts inst row ps plain q = ap (option_map row) (found_by_parts inst ps plain q) ∙ by (of_inst inst q)
  where
    by : (b : Bool) → option_map row (if b then find (λ p. bytes_eq p.name (after_last q)) ps else None)
        ≡ (if b then option_map row (find (λ p. bytes_eq p.name (after_last q)) ps) else None)
    by true = refl
    by false = refl

-- the rows of a new gate, whose pins are open
abbrev pub gate_row : List ℕ → ℕ → List CellPin → List ℕ → Option PinRow
gate_row inst owner ps q = row_among inst (λ p. record { owner = Some owner; net = None; dir = p.dir }) ps q

pub gate_by_parts : (inst : List ℕ) (owner : ℕ) (ps : List CellPin) → list_all is_plain ps ≡ true → (q : List ℕ) → gate_row inst owner ps q
    ≡ (if of_inst inst q then option_map (λ p. record { owner = Some owner; net = None; dir = p.dir }) (find (λ p. bytes_eq p.name (after_last q)) ps) else None)
gate_by_parts inst owner ps plain q = row_by_parts inst (λ p. record { owner = Some owner; net = None; dir = p.dir }) ps plain q

-- a pin of a name that goes
abbrev pub has_own : List ℕ → List CellPin → Bool
has_own own ps = is_some (find (λ p. bytes_eq p.name own) ps)

any_own : (own : List ℕ) (ps : List CellPin) → list_any (λ p. bytes_eq p.name own) ps ≡ has_own own ps
any_own own [] = refl
any_own own (p ∷ ps) = elim (cases_Bool (bytes_eq p.name own)) [ inl e ↦ rw e refl | inr e ↦ rw e (any_own own ps) ]

pub lost_by_parts : (inst : List ℕ) (stay ps : List CellPin) → list_all is_plain ps ≡ true → (q : List ℕ) → list_any (is_lost inst stay q) ps
    ≡ (of_inst inst q && (not (has_own (after_last q) stay) && has_own (after_last q) ps))
lost_by_parts inst stay [] plain q = by (of_inst inst q) (not (has_own (after_last q) stay))
  where
    by : (a b : Bool) → false ≡ (a && (b && false))
    by true true = refl
    by true false = refl
    by false b = refl
lost_by_parts inst stay (p ∷ ps) plain q =
    let k = and_parts (is_plain p) (list_all is_plain ps) plain in
    let rest = lost_by_parts inst stay ps k.1 q in
    elim (cases_Bool (has_colon q)) [
      | inl colon ↦ elim (cases_Bool (bytes_eq (before_last q) inst)) [
        | inl e ↦
            let f : bytes_eq (inst ++ 58 ∷ p.name) q ≡ bytes_eq p.name (after_last q) =
            same_inst inst p.name q (not-true (has_colon p.name) k.0) colon (sym (same_is (before_last q) inst e)) in
            elim (cases_Bool (bytes_eq p.name (after_last q))) [
              | inl g ↦
                  let here : bytes_eq q (inst ++ 58 ∷ p.name) ≡ true =
                  ap (bytes_eq q) (same_is (inst ++ 58 ∷ p.name) q (f ∙ g)) ∙ same_self q in
                  let stays : list_any (λ s. bytes_eq s.name p.name) stay ≡ has_own (after_last q) stay =
                  ap (λ own. list_any (λ s. bytes_eq s.name own) stay) (same_is p.name (after_last q) g) ∙ any_own (after_last q) stay in
                  step (is_lost inst stay q p) (list_any (is_lost inst stay q) ps) (not (has_own (after_last q) stay)) (has_own (after_last q) ps)
                  (here_lost (list_any (λ s. bytes_eq s.name p.name) stay) (bytes_eq q (inst ++ 58 ∷ p.name)) (has_own (after_last q) stay) here stays)
                  (rest ∙ rw colon (rw e refl))
                  ∙ rw colon (rw e (rw g refl))
              | inr g ↦
                  let other : bytes_eq q (inst ++ 58 ∷ p.name) ≡ false = apart_sym (inst ++ 58 ∷ p.name) q (f ∙ g) in
                  not_this (list_any (λ s. bytes_eq s.name p.name) stay) (bytes_eq q (inst ++ 58 ∷ p.name)) (list_any (is_lost inst stay q) ps) other
                  ∙ rest ∙ rw colon (rw e (rw g refl))
            ]
        | inr e ↦
            let other : bytes_eq q (inst ++ 58 ∷ p.name) ≡ false =
            apart_sym (inst ++ 58 ∷ p.name) q (other_inst inst p.name q (not-true (has_colon p.name) k.0) colon (apart_sym (before_last q) inst e)) in
            not_this (list_any (λ s. bytes_eq s.name p.name) stay) (bytes_eq q (inst ++ 58 ∷ p.name)) (list_any (is_lost inst stay q) ps) other
            ∙ rest ∙ rw colon (rw e refl)
      ]
      | inr bare ↦
          let other : bytes_eq q (inst ++ 58 ∷ p.name) ≡ false = elim (cases_Bool (bytes_eq q (inst ++ 58 ∷ p.name))) [
            | inl f ↦ absurd (true≢false (sym (colon_in inst p.name) ∙ ap has_colon (sym (same_is q (inst ++ 58 ∷ p.name) f)) ∙ bare))
            | inr f ↦ f
          ] in
          not_this (list_any (λ s. bytes_eq s.name p.name) stay) (bytes_eq q (inst ++ 58 ∷ p.name)) (list_any (is_lost inst stay q) ps) other
          ∙ rest ∙ rw bare refl
    ]
  where
    here_lost : (a b h : Bool) → b ≡ true → a ≡ h → (not a && b) ≡ not h
    here_lost true b h e f = ap not f
    here_lost false b h e f = e ∙ ap not f

    step : (x rest s r : Bool) → x ≡ s → rest ≡ (s && r) → (x || rest) ≡ (s && true)
    step x rest true r e f = rw e refl
    step x rest false r e f = rw e f

    not_this : (a b rest : Bool) → b ≡ false → ((not a && b) || rest) ≡ rest
    not_this true b rest e = refl
    not_this false b rest e = rw e refl

-- at the end of the loops
drop_past : {X : Type 0} (xs : List X) (i : ℕ) → length xs ≤ i → drop i xs ≡ []
drop_past [] zero low = refl
drop_past [] (suc i) low = refl
drop_past (x ∷ xs) zero low = absurd (omega arith)
drop_past (x ∷ xs) (suc i) low = drop_past xs i (omega arith)

pub rows_more : (inst : List ℕ) (row : CellPin → PinRow) (ps : List CellPin) (i : ℕ) (p : CellPin) → i < length ps → p ≡ get_or ps i p
    → (now after old : List ℕ → Option PinRow) → ((q : List ℕ) → rows_over inst row (drop i ps) q (now q) ≡ rows_over inst row ps q (old q))
    → ((q : List ℕ) → after q ≡ (if bytes_eq q (inst ++ 58 ∷ p.name) then Some (row p) else now q))
    → (q : List ℕ) → rows_over inst row (drop (i + 1) ps) q (after q) ≡ rows_over inst row ps q (old q)
rows_more inst row ps i p low is now after old over step q =
    ap (rows_over inst row (drop (i + 1) ps) q) (step q)
    ∙ sym (ap (λ zs. rows_over inst row zs q (now q)) (drop_more ps i p low ∙ ap (λ z. z ∷ drop (i + 1) ps) (sym is))) ∙ over q

pub rows_end : (inst : List ℕ) (row : CellPin → PinRow) (ps : List CellPin) (i : ℕ) → length ps ≤ i → are_distinct (map (λ p. p.name) ps) ≡ true
    → (now old : List ℕ → Option PinRow) → ((q : List ℕ) → rows_over inst row (drop i ps) q (now q) ≡ rows_over inst row ps q (old q))
    → (q : List ℕ) → now q ≡ option_or (row_among inst row ps q) (old q)
rows_end inst row ps i low distinct now old over q =
    sym (ap (λ zs. rows_over inst row zs q (now q)) (drop_past ps i low)) ∙ over q ∙ rows_are inst row ps distinct q (old q)

pub lost_end : (inst : List ℕ) (stay ps : List CellPin) (i : ℕ) → length ps ≤ i
    → (now old : List ℕ → Option ℕ) → ((q : List ℕ) → lost_over inst stay (drop i ps) q (now q) ≡ lost_over inst stay ps q (old q))
    → (q : List ℕ) → now q ≡ (if list_any (is_lost inst stay q) ps then None else old q)
lost_end inst stay ps i low now old over q =
    sym (ap (λ zs. lost_over inst stay zs q (now q)) (drop_past ps i low)) ∙ over q ∙ lost_are inst stay ps q (old q)

-- a numbering that lost names
module _ (names : List (Option (List ℕ))) where
  -- one name
  module _ (after : List (Option (List ℕ))) (are : AreNumbers names) (still : AreNumbers after) (name : List ℕ) (n : ℕ) (here : number_of names name ≡ Some n)
      (gone : after ≡ set names n None) where
    stands_at : name_at names n ≡ Some name
    stands_at = number_at names name n here

    low_at : n < length names
    low_at = let q = then_some (λ name. name) (slice_get names n) name stands_at in slice_get_within names n q.0 q.1

    pub name_gone : (q : List ℕ) → number_of after q ≡ (if bytes_eq q name then None else number_of names q)
    name_gone = number_gone names after are still n name (λ k. ap (λ ns. name_at ns k) gone ∙ at_gone names n low_at k) stands_at

    pub name_longer : length names ≤ length after
    name_longer = subst (λ (ns : List (Option (List ℕ))). length names ≤ length ns) (sym gone) (omega (arith, length-set {A = Option (List ℕ)} names n None))

  pub part_from : (after : List (Option (List ℕ))) → AreNumbers after → ((q : List ℕ) (n : ℕ) → number_of after q ≡ Some n → number_of names q ≡ Some n)
      → length names ≤ length after → IsPart after names
  part_from after still sub longer = record { at = λ n q e. number_at names q n (sub q n (still.distinct n q e)); number = sub; longer = longer }

  -- those of which a test says so
  pub sub_from : (after : List (Option (List ℕ))) (lost : List ℕ → Bool) → ((q : List ℕ) → number_of after q ≡ (if lost q then None else number_of names q))
      → (q : List ℕ) (n : ℕ) → number_of after q ≡ Some n → number_of names q ≡ Some n
  sub_from after lost gone q n e = by (lost q) (sym (gone q) ∙ e)
    where
      by : (b : Bool) → (if b then None else number_of names q) ≡ Some n → number_of names q ≡ Some n
      by true f = absurd (cc)
      by false f = f

  pub part_follows : (base after : List (Option (List ℕ))) → Follows base names → IsPart after names → Follows base after
  part_follows base after f p = record {
    kept = record {
      numbers = λ q m n e g. f.kept.numbers q m n e (p.number q n g);
      names = λ n a b e g. f.kept.names n a b e (p.at n b g);
    };
    longer = let a = f.longer in let b = p.longer in omega arith;
  }

  pub part_filled : (after : List (Option (List ℕ))) (rows : List PinRow) → IsFilled names rows → IsPart after names → IsFilled after rows
  part_filled after rows filled p n there = by (name_at after n) refl there
    where
      by : (o : Option (List ℕ)) → name_at after n ≡ o → is_some o ≡ true → is_some (slice_get rows n) ≡ true
      by None e h = absurd (false≢true h)
      by (Some q) e h = filled n (ap is_some (p.at n q e))

  pub row_left : (after : List (Option (List ℕ))) (rows : List PinRow) (gone : Bool) (q : List ℕ) → number_of after q ≡ (if gone then None else number_of names q)
      → row_named after rows q ≡ (if gone then None else row_named names rows q)
  row_left after rows gone q e = ap (option_and_then (slice_get rows)) e ∙ by gone
    where
      by : (b : Bool) → option_and_then (slice_get rows) (if b then None else number_of names q) ≡ (if b then None else option_and_then (slice_get rows) (number_of names q))
      by true = refl
      by false = refl
