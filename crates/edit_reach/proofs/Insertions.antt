-- Lists of numbers that grow by insertions.

use Rattle.std.proofs.Common.{◌≡◌, ℕ, suc, ◌<◌, Bool, true, false, ◌||◌, if◌then◌else◌, List, [], ◌∷◌, ◌++◌, length, Option, Some, None, refl, sym, ap, subst, ◌∙◌, inl, inr, arith}
use Rattle.std.specs.Prelude.{nat_eq, All, slice_index, option_map, option_and_then}
use Rattle.std.specs.List.{list_any}
use Rattle.std.proofs.lemmas.Bool.{eqb-true, eq-eqb, or_cases, or_right, false≢true}
use Rattle.std.proofs.lemmas.List.{append_assoc, append-nil}
use Rattle.std.proofs.lemmas.List.Elements.{All-append, All-cons, All-nil, All-head, All-tail}
use Rattle.std.proofs.lemmas.List.Folds.{list_any-append}
use Rattle.std.proofs.lemmas.Option.{none-some}
use Rattle.indexmap.specs.IndexSet.{insert_key, insert_all}
use Rattle.timing_defs.specs.Netlist.{Node, pin_named}
use Rattle.netlist_store.specs.Numbering.{Stored, name_at}
use Rattle.pin_graph.specs.Nodes.{node_at, node_bound, pin_under, tran_under}
use Rattle.store_pins.proofs.PinLaws.{below_bound}
use Rattle.edit_reach.specs.Reach.{is_in}

-- a list after some insertions begins as it was, and has no others than those inserted
pub record IsGrown (P : ℕ → Type 0) (old new xs : List ℕ) : Type 0 where
  pub more : List ℕ
  pub is : new ≡ old ++ more
  pub kept : All P more
  pub there : All (λ x. is_in new x ≡ true) xs

among_left : (old more : List ℕ) (n : ℕ) → is_in old n ≡ true → is_in (old ++ more) n ≡ true
among_left old more n h = list_any-append (nat_eq n) old more ∙ ap (λ b. b || list_any (nat_eq n) more) h

among_last : (old : List ℕ) (n : ℕ) → is_in (old ++ n ∷ []) n ≡ true
among_last old n =
    list_any-append (nat_eq n) old (n ∷ [])
    ∙ or_right (list_any (nat_eq n) old) (list_any (nat_eq n) (n ∷ [])) (ap (λ b. b || false) (eq-eqb n n refl))

module _ (P : ℕ → Type 0) where
  grown_one : (old : List ℕ) (x : ℕ) (b : Bool) → P x → is_in old x ≡ b → IsGrown P old (if b then old else old ++ x ∷ []) (x ∷ [])
  grown_one old x true p e = record {
    more = [];
    is = sym (append-nil old);
    kept = All-nil P;
    there = All-cons (λ y. is_in old y ≡ true) x [] e (All-nil (λ y. is_in old y ≡ true));
  }
  grown_one old x false p e = record {
    more = x ∷ [];
    is = refl;
    kept = All-cons P x [] p (All-nil P);
    there = All-cons (λ y. is_in (old ++ x ∷ []) y ≡ true) x [] (among_last old x) (All-nil (λ y. is_in (old ++ x ∷ []) y ≡ true));
  }

  pub grown : (xs old : List ℕ) → All P xs → IsGrown P old (insert_all nat_eq old xs) xs
  grown [] old p = record { more = []; is = sym (append-nil old); kept = All-nil P; there = All-nil (λ x. is_in old x ≡ true) }
  grown (x ∷ xs) old p =
      let one = grown_one old x (is_in old x) (All-head P x xs p) refl in
      let rest = grown xs (insert_key nat_eq old x) (All-tail P x xs p) in
      let here : is_in (insert_key nat_eq old x) x ≡ true = All-head (λ y. is_in (insert_key nat_eq old x) y ≡ true) x [] one.there in
      record {
        more = one.more ++ rest.more;
        is = rest.is ∙ ap (λ ys. ys ++ rest.more) one.is ∙ append_assoc old one.more rest.more;
        kept = All-append P one.more rest.more one.kept rest.kept;
        there = All-cons (λ y. is_in (insert_all nat_eq old (x ∷ xs)) y ≡ true) x xs
            (subst (λ ys. is_in ys x ≡ true) (sym rest.is) (among_left (insert_key nat_eq old x) rest.more x here)) rest.there;
      }

-- the number of a node is below the bound
number_low : (s : Stored) (n : ℕ) (node : Node) (o : Option (List ℕ)) → name_at s.pins (pin_under n) ≡ o → node_at s n ≡ Some node → pin_under n < length s.pins
number_low s n node None e at =
    absurd (none-some node (sym (ap (λ p. option_map (λ pin. record { pin = pin; tran = tran_under n }) (option_and_then (pin_named s.design) p)) e) ∙ at))
number_low s n node (Some name) e at = below_bound s.pins name (pin_under n) e

pub from_low : (s : Stored) (n : ℕ) (node : Node) → node_at s n ≡ Some node → n < node_bound s
from_low s n node at =
    let low = number_low s n node (name_at s.pins (pin_under n)) refl at in
    omega arith

-- each node that is among a list has a place in it
pub place_of : (nodes : List ℕ) (n : ℕ) → is_in nodes n ≡ true → (i : ℕ) × (i < length nodes) × (slice_index nodes i ≡ n)
place_of [] n h = absurd (false≢true h)
place_of (x ∷ xs) n h = elim (or_cases (nat_eq n x) (is_in xs n) h) [
  | inl same ↦ (0, omega arith, sym (eqb-true n x same))
  | inr later ↦ let r = place_of xs n later in let low = r.1 in (suc r.0, omega arith, r.2)
]
