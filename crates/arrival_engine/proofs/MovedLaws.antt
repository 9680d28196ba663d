-- The nodes whose row is another than the base's, by numbers.

use Rattle.std.proofs.Common.{◌≡◌, ℕ, ◌<◌, ◌≤◌, Bool, true, false, not, ◌&&◌, ◌||◌, List, [], ◌∷◌, length, get_or, filter, Option, None, Some, refl, sym, ap, subst, ◌∙◌, inl, inr, arith}
use Rattle.std.specs.Prelude.{is_some, nat_le, if◌then◌else◌, IfOk, Result, Ok, Err}
use Rattle.std.specs.Option.{option_map_or}
use Rattle.std.proofs.lemmas.Bool.{cases_lt, le-leb, lt-leb}
use Rattle.timing_defs.specs.declared.rows.NodeRow.{NodeRow}
use Rattle.timing_defs.specs.Netlist.{Node}
use Rattle.timing_rules.specs.Rows.{empty_row}
use Rattle.timing_defs.specs.Touches.{Touch}
use Rattle.timing_rules.specs.Cones.{same_row, row_differs}
use Rattle.netlist_store.specs.Linked.{IsLinked}
use Rattle.netlist_store.specs.Numbering.{Stored, is_number, IsNumbered}
use Rattle.eco_laws.proofs.EditOf.{base_linked, edited_linked}
use Rattle.pin_graph.specs.Nodes.{node_at, node_bound, pin_under}
use Rattle.pin_graph.specs.Graphs.{Graphed, of_node}
use Rattle.pin_graph.specs.RowTables.{row_numbered, AreRows}
use Rattle.pin_graph.proofs.NodeLaws.{has_node, node_below}
use Rattle.arrival_engine.specs.Updated.{row_before, is_moved, is_other, AreOther}
use Rattle.arrival_engine.proofs.RenewLaws.{IsEdit}
use Rattle.arrival_engine.proofs.UpdateLaws.{moved_at}
use Rattle.arrival_engine.proofs.UpdatedLaws.{node_there, row_at}

module _ (base g : Graphed) (touch : Touch) (edit : IsEdit base g touch) (rows : List NodeRow) (are : AreRows base.stored rows) where
  abbrev s : Stored
  s = base.stored

  abbrev s2 : Stored
  s2 = g.stored

  linked : IsLinked s.design
  linked = base_linked s touch s2 edit.made

  linked2 : IsLinked s2.design
  linked2 = edited_linked s touch s2 edit.made

  abbrev rest : ℕ → Bool
  rest k = nat_le (length rows) k || is_moved s rows k (row_numbered s2 k)

  -- past the table the base has no node
  past_number : (k : ℕ) → length rows ≤ k → is_number s.pins (pin_under k) ≡ false
  past_number k over = sym (node_there s edit.num linked k) ∙ by (node_at s k) refl
    where
      by : (o : Option Node) → node_at s k ≡ o → is_some (node_at s k) ≡ false
      by None e = ap is_some e
      by (Some n) e = (let low = node_below s n k (has_node s edit.num linked k n e) in absurd (omega (arith, low, over, are.count)))

  there : (k : ℕ) (n : Node) → node_at s2 k ≡ Some n → rest k ≡ of_node s2 (row_differs s.design s2.design) k
  there k n e = elim (cases_lt k (length rows)) [
    | inl low ↦ ap (λ b. b || is_moved s rows k (row_numbered s2 k)) (lt-leb (length rows) k low) ∙ told
    | inr over ↦
        ap (λ b. b || is_moved s rows k (row_numbered s2 k)) (le-leb (length rows) k over)
        ∙ sym (ap (λ b. not b || not (same_row (get_or rows k empty_row) (row_numbered s2 k))) (past_number k over))
        ∙ told
  ]
    where
      was : get_or rows k empty_row ≡ row_before s s2 k
      was = row_at s edit.num linked rows are k ∙ sym (ap (λ o. if is_some o then row_numbered s k else empty_row) e)

      told : is_moved s rows k (row_numbered s2 k) ≡ of_node s2 (row_differs s.design s2.design) k
      told = moved_at base g touch edit k n e rows was

  pub other_is : (k : ℕ) → is_other s s2 rows k ≡ of_node s2 (row_differs s.design s2.design) k
  other_is k = by (node_at s2 k) refl
    where
      by : (o : Option Node) → node_at s2 k ≡ o → is_other s s2 rows k ≡ of_node s2 (row_differs s.design s2.design) k
      by None e =
          ap (λ b. b && rest k) (sym (node_there s2 edit.num2 linked2 k) ∙ ap is_some e)
          ∙ sym (ap (λ o. option_map_or (row_differs s.design s2.design) o false) e)
      by (Some n) e =
          ap (λ b. b && rest k) (sym (node_there s2 edit.num2 linked2 k) ∙ ap is_some e) ∙ there k n e

same_filter : (p q : ℕ → Bool) (xs : List ℕ) → ((n : ℕ) → p n ≡ q n) → filter p xs ≡ filter q xs
same_filter p q [] each = refl
same_filter p q (x ∷ xs) each =
    ap (λ (l : List ℕ). if p x then x ∷ l else l) (same_filter p q xs each)
    ∙ ap (λ (b : Bool). if b then x ∷ filter q xs else filter q xs) (each x)

pub others_are : (base g : Graphed) (touch : Touch) → IsEdit base g touch → (rows : List NodeRow) → AreRows base.stored rows → (nodes found : List ℕ)
    → found ≡ filter (is_other base.stored g.stored rows) nodes → AreOther base.stored g.stored nodes found
others_are base g touch edit rows are nodes found e =
    e ∙ same_filter (is_other base.stored g.stored rows) (of_node g.stored (row_differs base.stored.design g.stored.design)) nodes
    (other_is base g touch edit rows are)

pub ok_more : {T E : Type 0} {P Q : T → Type 0} (r : Result T E) → ((x : T) → P x → Q x) → IfOk r P → IfOk r Q
ok_more (Ok x) f h = f x h
ok_more (Err e) f h = tt
