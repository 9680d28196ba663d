-- The endpoints of an edited store: those to which the edit does not lead keep their slacks.

use Rattle.std.proofs.Common.{◌≡◌, ℕ, zero, suc, ◌+◌, ◌<◌, ◌≤◌, Bool, true, false, not, List, [], ◌∷◌, ◌++◌, length, get_or, take, Some, None, refl, sym, ap, subst, ◌∙◌, inl, inr, arith}
use Rattle.std.specs.Prelude.{nat_eq, All, Contains, ◌&&◌, ◌||◌, if◌then◌else◌}
use Rattle.std.specs.List.{filter_map, IsDistinct}
use Rattle.std.specs.List.Sorted.{IsPermutation, IsNonDecreasingBy}
use Rattle.std.proofs.lemmas.Bool.{cases_Bool, false≢true, and_from}
use Rattle.std.proofs.lemmas.List.{take_all}
use Rattle.std.proofs.lemmas.List.Elements.{All-contains_itself}
use Rattle.std.proofs.lemmas.List.Folds.{list_any-append}
use Rattle.timing_defs.specs.Touches.{Touch}
use Rattle.netlist_store.specs.Numbering.{Stored, name_at, is_number, IsNumbered}
use Rattle.netlist_store.specs.Applying.{IsEditOf}
use Rattle.level_workers.specs.Mapped.{IsMap}
use Rattle.pin_graph.specs.Graphs.{Graphed, IsGraph}
use Rattle.timing_defs.proofs.Members.{some_is, in_filter_map_back}
use Rattle.store_pins.proofs.PinLaws.{there, below_bound}
use Rattle.edit_reach.specs.Reach.{is_in, HasSeeds, AreBehind, HasDirty}
use Rattle.edit_reach.proofs.CleanPins.{IsKeptPin, same_end, clean_pin}
use Rattle.affected_cone.specs.declared.ends.EndSlacks.{EndSlacks}
use Rattle.affected_cone.specs.Analysed.{is_end, ends_of, slack_in, IsEnd}
use Rattle.affected_cone.specs.Renewed.{kept_end, end_number, pin_of, AreKeptEnds}
use Rattle.affected_cone.proofs.EndNumbers.{gap_no_end}
use Rattle.affected_cone.proofs.SearchLaws.{is_listed_end}
use Rattle.affected_cone.proofs.RenewedLists.{AreNumbered, renewed_all}

-- the number of an endpoint is that of a pin
pub end_known : (s : Stored) (n : ℕ) → is_end s n ≡ true → is_number s.pins n ≡ true
end_known s n h = elim (cases_Bool (is_number s.pins n)) [ inl e ↦ e | inr e ↦ absurd (false≢true (sym (gap_no_end s n e) ∙ h)) ]

-- pins to which the edit does not lead, and that are not gone
module _ (g g2 : Graphed) (touch : Touch) (made : IsEditOf g.stored touch g2.stored) (num : IsNumbered g.stored) (num2 : IsNumbered g2.stored) (is : IsGraph g) (is2 : IsGraph g2)
    (seeds nodes : List ℕ) (all : HasSeeds g.stored g2.stored touch seeds) (behind : AreBehind g2 seeds nodes) (dirty : List ℕ) (beside : HasDirty g2.stored seeds nodes dirty)
    (gone pins : List ℕ) (left : (pin : ℕ) → is_in gone pin ≡ (is_number g.stored.pins pin && not (is_number g2.stored.pins pin))) (put : pins ≡ gone ++ dirty) where
  none_of : (a b : Bool) → (a || b) ≡ false → (a ≡ false) × (b ≡ false)
  none_of true b h = absurd (false≢true (sym h))
  none_of false b h = (refl, h)

  off_both : (pin : ℕ) → is_in pins pin ≡ false → (is_in gone pin ≡ false) × (is_in dirty pin ≡ false)
  off_both pin off = none_of (is_in gone pin) (is_in dirty pin) (sym (ap (λ (xs : List ℕ). is_in xs pin) put ∙ list_any-append (nat_eq pin) gone dirty) ∙ off)

  still_there : (pin : ℕ) → is_end g.stored pin ≡ true → is_in pins pin ≡ false → is_number g2.stored.pins pin ≡ true
  still_there pin end off = elim (cases_Bool (is_number g2.stored.pins pin)) [
    | inl e ↦ e
    | inr e ↦
        absurd (false≢true (sym (off_both pin off).0 ∙ left pin
        ∙ and_from (is_number g.stored.pins pin) (not (is_number g2.stored.pins pin)) (end_known g.stored pin end) (ap not e)))
  ]

  kept : (pin : ℕ) (end : is_end g2.stored pin ≡ true) (off : is_in pins pin ≡ false)
      → IsKeptPin g g2 touch made num num2 is is2 seeds nodes all behind dirty beside pin (end_known g2.stored pin end) (off_both pin off).1 end
  kept pin end off =
      clean_pin g g2 touch made num num2 is is2 seeds nodes all behind dirty beside pin (end_known g2.stored pin end) (off_both pin off).1 end

  clean_ends : AreKeptEnds g.stored g2.stored pins
  clean_ends = record {
    there = still_there;
    end = λ pin at off. same_end g g2 touch made num num2 is is2 seeds nodes all behind dirty beside pin at (off_both pin off).1;
    slacks = λ pin end is_one off e.
        (let k = kept pin is_one off in
        record { number = e.number; slack = λ kind name told. k.slack name told kind (slack_in kind end) (e.slack kind name (k.name ∙ told)) });
  }

pub clean_at : (g g2 : Graphed) (s2 : Stored) (same : g2.stored ≡ s2) (touch : Touch) → IsEditOf g.stored touch s2 → IsNumbered g.stored → IsNumbered s2 → IsGraph g → IsGraph g2
    → (seeds nodes dirty : List ℕ) → HasSeeds g.stored s2 touch seeds → AreBehind g2 seeds nodes → HasDirty s2 seeds nodes dirty
    → (gone pins : List ℕ) → ((pin : ℕ) → is_in gone pin ≡ (is_number g.stored.pins pin && not (is_number g2.stored.pins pin))) → pins ≡ gone ++ dirty → AreKeptEnds g.stored s2 pins
clean_at g g2 s2 same touch made num num2 is is2 seeds nodes dirty all behind beside gone pins left put =
    subst (λ (s : Stored). AreKeptEnds g.stored s pins) same
    (clean_ends g g2 touch (subst (IsEditOf g.stored touch) (sym same) made) num (subst IsNumbered (sym same) num2) is is2 seeds nodes
    (subst (λ (s : Stored). HasSeeds g.stored s touch seeds) (sym same) all) behind dirty (subst (λ (s : Stored). HasDirty s seeds nodes dirty) (sym same) beside) gone pins left put)

ends_numbered : (s : Stored) → AreNumbered pin_of (IsEnd s) (is_end s) (length s.pins)
ends_numbered s = record {
  keyed = λ k e h. h.number;
  low = λ k h. (let name = there (name_at s.pins k) (end_known s k h) in below_bound s.pins name.0 k name.1);
}

-- all endpoints, as they are put together
pub renewed_ends : (base edited : Stored) (keys dirty : List ℕ) → keys ≡ dirty → AreKeptEnds base edited dirty → IsDistinct nat_eq dirty
    → (ends : List EndSlacks) → IsMap (IsEnd base) (ends_of base) ends
    → (kept : List EndSlacks) → kept ≡ filter_map (kept_end dirty) ends
    → (again : List ℕ) → again ≡ filter_map (end_number edited) keys
    → (found : List EndSlacks) → IsMap (IsEnd edited) again found
    → (all : List EndSlacks) → all ≡ kept ++ found
    → (result : List EndSlacks) → IsPermutation all result → IsNonDecreasingBy pin_of result
    → IsMap (IsEnd edited) (ends_of edited) result
renewed_ends base edited keys dirty same h d ends m kept k again a found m2 all put result perm up =
    renewed_all pin_of (IsEnd base) (IsEnd edited) (is_end base) (is_end edited) (length base.pins) (length edited.pins) (ends_numbered base) (ends_numbered edited)
    (is_number edited.pins) (end_known edited) dirty h.there h.end h.slacks ends m found
    (subst (λ (ns : List ℕ). IsMap (IsEnd edited) ns found) (a ∙ ap (filter_map (end_number edited)) same) m2) d result
    (subst (λ (es : List EndSlacks). IsPermutation es result) (put ∙ ap (λ es. es ++ found) k) perm) up

-- numbers that are picked out are endpoints
choice : (s : Stored) (x n : ℕ) → end_number s x ≡ Some n → is_end s n ≡ true
choice s x n h = by (is_end s x) refl h
  where
    by : (b : Bool) → is_end s x ≡ b → (if b then Some x else None) ≡ Some n → is_end s n ≡ true
    by true e f = ap (is_end s) (sym (some_is f)) ∙ e
    by false e f = absurd (cc)

pub among_ends : (s : Stored) (keys again : List ℕ) → again ≡ filter_map (end_number s) keys → All (λ pin. is_end s pin ≡ true) again
among_ends s keys again e = λ i d l.
    let c = subst (λ (xs : List ℕ). Contains xs (get_or again i d)) e (All-contains_itself again i d l) in
    let m = in_filter_map_back (end_number s) keys (get_or again i d) c in
    choice s m.item (get_or again i d) m.same

pub listed_ends : (s : Stored) (ends : List ℕ) → ends ≡ ends_of s → All (λ pin. is_end s pin ≡ true) ends
listed_ends s ends e = λ i d l. is_listed_end s ends e (get_or ends i d) (All-contains_itself ends i d l)

-- one result more
module _ {I R : Type 0} (P : I → R → Type 0) where
  pub map_put : (xs : List I) (rs new : List R) (i : ℕ) (x : I) (r : R) → i < length xs → x ≡ get_or xs i x → IsMap P (take i xs) rs → P x r → new ≡ rs ++ r ∷ [] → IsMap P (take (i + 1) xs) new
  map_put xs rs new i x r low here m one put =
      let next : suc i ≡ i + 1 = omega arith in
      subst (λ (k : ℕ). IsMap P (take k xs) new) next (subst (IsMap P (take (suc i) xs)) (sym put) (by xs rs i low here m))
    where
      by : (ys : List I) (ss : List R) (k : ℕ) → k < length ys → x ≡ get_or ys k x → IsMap P (take k ys) ss → IsMap P (take (suc k) ys) (ss ++ r ∷ [])
      by [] ss k l e h = absurd (omega (arith, l))
      by (y ∷ ys) [] zero l e h = (subst (λ (z : I). P z r) e one, tt)
      by (y ∷ ys) (s ∷ ss) zero l e h = absurd h
      by (y ∷ ys) [] (suc k) l e h = absurd h
      by (y ∷ ys) (s ∷ ss) (suc k) l e h = (h.0, by ys ss k (omega (arith, l)) e h.1)

  pub map_all : (xs : List I) (rs : List R) (i : ℕ) → IsMap P (take i xs) rs → length xs ≤ i → IsMap P xs rs
  map_all xs rs i m high = subst (λ (ys : List I). IsMap P ys rs) (take_all i xs high) m
