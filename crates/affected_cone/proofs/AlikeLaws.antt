-- Two analyses of one store are the same.

use Rattle.std.proofs.Common.{◌≡◌, ℕ, suc, ◌<◌, List, [], ◌∷◌, length, Option, None, Some, refl, sym, ap, subst, ◌∙◌, arith}
use Rattle.std.specs.Prelude.{slice_get, option_map, Contains, true}
use Rattle.sta_units.specs.declared.units.Fs.{Fs}
use Rattle.timing_defs.specs.declared.kinds.Kind.TheVariants.{Setup, Hold}
use Rattle.timing_defs.specs.declared.rows.NodeRow.{NodeRow}
use Rattle.timing_defs.specs.declared.rows.BackRow.{BackRow}
use Rattle.netlist_store.specs.Linked.{IsLinked}
use Rattle.netlist_store.specs.Numbering.{Stored, IsNumbered}
use Rattle.level_workers.specs.Mapped.{IsMap}
use Rattle.pin_graph.specs.Nodes.{node_bound}
use Rattle.pin_graph.specs.RowTables.{AreRows, AreBackRows}
use Rattle.timing_defs.proofs.Members.{some_is, first_in, later_in}
use Rattle.timing_defs.specs.Netlist.{name_of}
use Rattle.affected_cone.specs.declared.ends.EndSlacks.{EndSlacks}
use Rattle.affected_cone.specs.Analysed.{Analysed, IsAnalysis, is_end, ends_of, slack_in, IsEnd}
use Rattle.affected_cone.proofs.EndNumbers.{end_pin, listed_end}
use Rattle.affected_cone.proofs.SlackLaws.{slack_one}

-- lists with the same items are the same
same_lists : {X : Type 0} (xs ys : List X) → length xs ≡ length ys → ((i : ℕ) → i < length xs → slice_get xs i ≡ slice_get ys i) → xs ≡ ys
same_lists [] [] long each = refl
same_lists [] (y ∷ ys) long each = absurd (omega (arith, long))
same_lists (x ∷ xs) [] long each = absurd (omega (arith, long))
same_lists (x ∷ xs) (y ∷ ys) long each =
    let first : Some x ≡ Some y = each 0 (omega arith) in
    ap (λ z. z ∷ xs) (some_is first) ∙ ap (λ zs. y ∷ zs) (same_lists xs ys (omega (arith, long)) (λ i low. each (suc i) (omega (arith, low))))

same_fs : (a b : Option Fs) → option_map (λ t. t.0) a ≡ option_map (λ t. t.0) b → a ≡ b
same_fs None None e = refl
same_fs None (Some y) e = absurd (cc)
same_fs (Some x) None e = absurd (cc)
same_fs (Some x) (Some y) e = let time : x.0 ≡ y.0 = some_is e in ap Some (λ k. record { 0 = time k })

module _ (s : Stored) (num : IsNumbered s) (linked : IsLinked s.design) where
  one_end : (n : ℕ) (a b : EndSlacks) → is_end s n ≡ true → IsEnd s n a → IsEnd s n b → a ≡ b
  one_end n a b end p q =
      let pin = end_pin s num linked n end in
      let name = name_of pin.pin in
      let setup = same_fs a.setup b.setup (slack_one s.design Setup name (slack_in Setup a) (slack_in Setup b) (p.slack Setup name pin.has.name) (q.slack Setup name pin.has.name)) in
      let hold = same_fs a.hold b.hold (slack_one s.design Hold name (slack_in Hold a) (slack_in Hold b) (p.slack Hold name pin.has.name) (q.slack Hold name pin.has.name)) in
      let number : a.pin ≡ b.pin = p.number ∙ sym q.number in
      λ k. record { pin = number k; setup = setup k; hold = hold k }

  same_ends : (ns : List ℕ) (xs ys : List EndSlacks) → ((n : ℕ) → Contains ns n → is_end s n ≡ true) → IsMap (IsEnd s) ns xs → IsMap (IsEnd s) ns ys → xs ≡ ys
  same_ends [] [] [] each m k = refl
  same_ends [] [] (b ∷ ys) each m k = absurd k
  same_ends [] (a ∷ xs) ys each m k = absurd m
  same_ends (n ∷ ns) [] ys each m k = absurd m
  same_ends (n ∷ ns) (a ∷ xs) [] each m k = absurd k
  same_ends (n ∷ ns) (a ∷ xs) (b ∷ ys) each m k =
      ap (λ x. x ∷ xs) (one_end n a b (each n (first_in n ns)) m.0 k.0) ∙ ap (λ xs. b ∷ xs) (same_ends ns xs ys (λ i c. each i (later_in n ns i c)) m.1 k.1)

  same_rows : (xs ys : List NodeRow) → AreRows s xs → AreRows s ys → xs ≡ ys
  same_rows xs ys a b =
      same_lists xs ys (a.count ∙ sym b.count) (λ i low. (let here : i < node_bound s = subst (λ (n : ℕ). i < n) a.count low in a.row i here ∙ sym (b.row i here)))

  same_backs : (xs ys : List BackRow) → AreBackRows s xs → AreBackRows s ys → xs ≡ ys
  same_backs xs ys a b =
      same_lists xs ys (a.count ∙ sym b.count) (λ i low. (let here : i < node_bound s = subst (λ (n : ℕ). i < n) a.count low in a.row i here ∙ sym (b.row i here)))

-- the rows and slacks are those of the store
pub analyses_alike : (a b : Analysed) → IsNumbered a.stored → IsLinked a.stored.design → IsAnalysis a → IsAnalysis b → a.stored ≡ b.stored → a ≡ b
analyses_alike a b num linked p q same =
    let rows = same_rows a.stored num linked a.rows b.rows p.rows (subst (λ (s : Stored). AreRows s b.rows) (sym same) q.rows) in
    let backs = same_backs a.stored num linked a.backs b.backs p.backs (subst (λ (s : Stored). AreBackRows s b.backs) (sym same) q.backs) in
    let ends =
    same_ends a.stored num linked (ends_of a.stored) a.ends b.ends (λ n c. listed_end a.stored num linked n c) p.ends
    (subst (λ (s : Stored). IsMap (IsEnd s) (ends_of s) b.ends) (sym same) q.ends) in
    λ k. record { stored = same k; rows = rows k; backs = backs k; ends = ends k }
