-- Pins after an ECO that left the clock network: what is settled but at dirty pins, and what each table keeps.

use Rattle.std.proofs.Common.{◌≡◌, ℕ, zero, suc, ◌+◌, ◌<◌, ◌≤◌, Bool, true, false, not, ◌||◌, List, [], ◌∷◌, ◌++◌, map, take, length, get_or, Option, None, Some, Result, Ok, Err, refl, sym, ap, subst, ◌∙◌, arith}
use Rattle.std.specs.Prelude.{All, slice_index, IsTrue, IfOk, IfSome, nat_eq}
use Rattle.std.proofs.lemmas.Bool.{true≢false, eqb-true}
use Rattle.std.proofs.lemmas.List.{take_all, take_more, length-append, length-map}
use Rattle.std.proofs.lemmas.List.Elements.{All-push, All-contains}
use Rattle.timing_defs.specs.Touches.{Touch}
use Rattle.levelizer.specs.Levels.{AreLevels}
use Rattle.levelizer.specs.Reaching.{AreReached}
use Rattle.netlist_store.specs.Numbering.{Stored}
use Rattle.settling.specs.Settled.{is_among, IsRule, IsSettled}
use Rattle.pin_graph.specs.declared.tables.Tables.{Tables}
use Rattle.pin_graph.specs.declared.updates.Resettled.{Resettled}
use Rattle.pin_graph.specs.declared.updates.PinsAfter.{PinsAfter}
use Rattle.pin_graph.specs.Joins.{pin_links}
use Rattle.pin_graph.specs.Marks.{is_one}
use Rattle.pin_graph.specs.Networks.{clock_ports, clock_pins, network_links, turned}
use Rattle.pin_graph.specs.Pulls.{is_left, pins_behind, network_heads, network_tails}
use Rattle.pin_graph.specs.PinValues.{IsLonger, pin_level, fed_flag, feeds_flag}
use Rattle.pin_graph.specs.Renewed.{IsEdited, AreDirty, AreResettled, AreFlagged, IsOff, is_noted}
use Rattle.pin_graph.proofs.LinksLeft.{ports_left, pins_before_same, tails_same, clock_same, heads_same}
use Rattle.timing_defs.proofs.Members.{any_back}
use Rattle.pin_graph.proofs.PinRules.{levels_rule, fed_rule, feeds_rule, levels_settled, levels_kept, fed_kept, feeds_kept, fed_settled, feeds_settled, fed_low, feeds_low}

-- one default more at the end reads as before
pub push_same : {X : Type 0} (d : X) (xs : List X) (k : ℕ) → get_or (xs ++ d ∷ []) k d ≡ get_or xs k d
push_same d [] zero = refl
push_same d [] (suc k) = refl
push_same d (x ∷ xs) zero = refl
push_same d (x ∷ xs) (suc k) = push_same d xs k

long_push : {X : Type 0} (d : X) (xs : List X) (n : ℕ) → length xs ≡ n → length (xs ++ d ∷ []) ≡ n + 1
long_push d xs n e = length-append xs (d ∷ []) ∙ ap (λ k. k + 1) e

pub longer_start : (base table : List ℕ) (n : ℕ) → table ≡ base → n ≡ length table → IsLonger n base table
longer_start base table n same long = record { count = sym long; same = λ k. ap (λ (xs : List ℕ). slice_index xs k) same }

pub longer_more : (base table table2 : List ℕ) (n : ℕ) → IsLonger n base table → table2 ≡ table ++ 0 ∷ [] → IsLonger (n + 1) base table2
longer_more base table table2 n had put = record {
  count = ap length put ∙ long_push 0 table n had.count;
  same = λ k. ap (λ (xs : List ℕ). slice_index xs k) put ∙ push_same 0 table k ∙ had.same k;
}

pub longer_end : (base table : List ℕ) (n at : ℕ) → IsLonger at base table → at ≡ n → IsLonger n base table
longer_end base table n at had e = subst (λ (m : ℕ). IsLonger m base table) e had

-- tables of other entries
pub record ReadsAs {X : Type 0} (d : X) (n : ℕ) (base table : List X) : Type 0 where
  pub count : length table ≡ n
  pub same : (k : ℕ) → get_or table k d ≡ get_or base k d

pub reads_start : {X : Type 0} (d : X) (base table : List X) (n : ℕ) → table ≡ base → n ≡ length table → ReadsAs d n base table
reads_start d base table n same long = record { count = sym long; same = λ k. ap (λ xs. get_or xs k d) same }

pub reads_more : {X : Type 0} (d : X) (base table table2 : List X) (n : ℕ) → ReadsAs d n base table → table2 ≡ table ++ d ∷ [] → ReadsAs d (n + 1) base table2
reads_more d base table table2 n had put = record {
  count = ap length put ∙ long_push d table n had.count;
  same = λ k. ap (λ xs. get_or xs k d) put ∙ push_same d table k ∙ had.same k;
}

pub reads_end : {X : Type 0} (d : X) (base table : List X) (n at : ℕ) → ReadsAs d at base table → at ≡ n → ReadsAs d n base table
reads_end d base table n at had e = subst (λ (m : ℕ). ReadsAs d m base table) e had

-- what is asked of each number of a list
pub each_more : (P : ℕ → Type 0) (xs : List ℕ) (i d : ℕ) → All P (take i xs) → i < length xs → P (get_or xs i d) → All P (take (i + 1) xs)
each_more P xs i d had low here = subst (λ (ys : List ℕ). All P ys) (sym (take_more xs i d low)) (All-push P (take i xs) (get_or xs i d) had here)

pub each_all : (P : ℕ → Type 0) (xs : List ℕ) (i : ℕ) → All P (take i xs) → length xs ≤ i → All P xs
each_all P xs i had high = subst (λ (ys : List ℕ). All P ys) (take_all i xs high) had

module _ (s s2 : Stored) (touch : Touch) (t : Tables) (e : IsEdited s s2 touch t) (dirty : List ℕ) (d : AreDirty s s2 touch dirty) where
  pub left_of : (pin : ℕ) → is_among dirty pin ≡ false → is_left s s2 touch pin ≡ true
  left_of pin out = by (is_left s s2 touch pin) (sym (d.each pin) ∙ out)
    where
      by : (b : Bool) → not b ≡ false → b ≡ true
      by true f = refl
      by false f = absurd (true≢false f)

  pub levels_wrong : (table : List ℕ) → IsLonger (length s2.pins) t.pin_levels table → IsSettled (length s2.pins) (pin_level s2) table (is_among dirty)
  levels_wrong table longer =
      let few = e.numbered.pins.below in
      levels_kept s e.numbered e.linked e.kept.tables.fault s2 t.pin_levels table longer (is_among dirty) e.kept.tables.rising (omega (arith, few))
      (λ pin low out. pins_before_same s touch s2 e.made e.numbered e.numbered2 pin (left_of pin out))

  pub fed_wrong : (table : List ℕ) → IsLonger (length s2.pins) t.fed table → IsSettled (length s2.pins) (fed_flag s2) table (is_among dirty)
  fed_wrong table longer =
      fed_kept s e.numbered e.linked e.kept.tables.fault s2 t.fed table longer (is_among dirty) e.kept.tables.flags.clocked.forth e.kept.tables.flags.fed
      (ports_left s touch s2 e.made e.numbered e.numbered2)
      (λ pin low out. tails_same s touch s2 e.made e.numbered e.numbered2 pin (left_of pin out))

  pub feeds_wrong : (table : List ℕ) → IsLonger (length s2.pins) t.feeds table → IsSettled (length s2.pins) (feeds_flag s2) table (is_among dirty)
  feeds_wrong table longer =
      feeds_kept s e.numbered e.linked e.kept.tables.fault s2 t.feeds table longer (is_among dirty) e.kept.tables.flags.clocked.back e.kept.tables.flags.feeds
      (λ pin low out. clock_same s touch s2 e.made e.numbered e.numbered2 pin (left_of pin out))
      (λ pin low out. heads_same s touch s2 e.made e.numbered e.numbered2 pin (left_of pin out))

  -- a base's tables are no longer
  pub grown : length s.pins ≤ length s2.pins
  grown = e.grown

  pub levels_few : length t.pin_levels ≤ length s2.pins
  levels_few = let c = e.kept.tables.rising.count in omega (arith, c, grown)

  pub fed_few : length t.fed ≤ length s2.pins
  fed_few = let c = e.kept.tables.flags.clocked.forth.count in let m = length-map t.fed is_one in omega (arith, c, m, grown)

  pub feeds_few : length t.feeds ≤ length s2.pins
  feeds_few = let c = e.kept.tables.flags.clocked.back.count in let m = length-map t.feeds is_one in omega (arith, c, m, grown)

  pub levels_rule2 : IsRule (length s2.pins) (pin_level s2) (pins_behind s2)
  levels_rule2 = levels_rule s2 e.numbered2 e.linked2

  pub fed_rule2 : IsRule (length s2.pins) (fed_flag s2) (network_heads s2)
  fed_rule2 = fed_rule s2 e.numbered2 e.linked2

  pub feeds_rule2 : IsRule (length s2.pins) (feeds_flag s2) (network_tails s2)
  feeds_rule2 = feeds_rule s2 e.numbered2 e.linked2

  pub levels_found : (found : Resettled) → AreResettled (length s2.pins) (pin_level s2) t.pin_levels found → AreLevels (length s2.pins) (pin_links s2) found.values
  levels_found found are = levels_settled s2 e.numbered2 e.linked2 found.values are.settled

  -- flags that are settled
  pub fed_flagged : (found : Resettled) → AreResettled (length s2.pins) (fed_flag s2) t.fed found
      → AreFlagged (length s2.pins) (AreReached (length s2.pins) (network_links s2) (clock_ports s2)) t.fed found
  fed_flagged found are = record {
    reached = fed_settled s2 e.numbered2 e.linked2 found.values are.settled;
    count = are.settled.count;
    few = fed_low s2 e.numbered2 e.linked2 found.values are.settled;
    kept = are.kept;
    within = are.within;
  }

  pub feeds_flagged : (found : Resettled) → AreResettled (length s2.pins) (feeds_flag s2) t.feeds found
      → AreFlagged (length s2.pins) (AreReached (length s2.pins) (map turned (network_links s2)) (clock_pins s2)) t.feeds found
  feeds_flagged found are = record {
    reached = feeds_settled s2 e.numbered2 e.linked2 found.values are.settled;
    count = are.settled.count;
    few = feeds_low s2 e.numbered2 e.linked2 found.values are.settled;
    kept = are.kept;
    within = are.within;
  }

-- values that are settled again, from a table that reads as the base's
pub resettled_from : (n : ℕ) (value : List ℕ → ℕ → ℕ) (base longer : List ℕ) (found : Resettled) → IsLonger n base longer
    → IsSettled n value found.values (λ a. false) → ((a : ℕ) → is_among found.changed a ≡ false → slice_index found.values a ≡ slice_index longer a)
    → All (λ a. a < n) found.changed → AreResettled n value base found
resettled_from n value base longer found is settled kept within = record {
  settled = settled;
  kept = λ a out. kept a out ∙ is.same a;
  within = within;
}

-- pins that are noted are off
noted_in : (P : ℕ → Type 0) (xs : List ℕ) → All P xs → (pin : ℕ) → is_among xs pin ≡ true → P pin
noted_in P xs all pin e =
    let r = any_back (nat_eq pin) xs e in
    subst P (sym (eqb-true pin r.item r.passes)) (All-contains P xs r.item all r.within)

pub off_all : (network : List Bool) (pins : PinsAfter) (dirty : List ℕ) → All (IsOff network pins) dirty → All (IsOff network pins) pins.fed.changed → All (IsOff network pins) pins.feeds.changed
    → (pin : ℕ) → IsTrue (is_noted dirty pins pin) → IsOff network pins pin
off_all network pins dirty a b c pin h = by (is_among dirty pin) (is_among pins.fed.changed pin) (is_among pins.feeds.changed pin) refl refl refl h
  where
    by : (x y z : Bool) → is_among dirty pin ≡ x → is_among pins.fed.changed pin ≡ y → is_among pins.feeds.changed pin ≡ z → IsTrue ((x || y) || z) → IsOff network pins pin
    by true y z p q r h = noted_in (IsOff network pins) dirty a pin p
    by false true z p q r h = noted_in (IsOff network pins) pins.fed.changed b pin q
    by false false true p q r h = noted_in (IsOff network pins) pins.feeds.changed c pin r
    by false false false p q r h = absurd (true≢false (sym h))

-- what holds of what is there
pub ok_some : {X E : Type 0} {P Q : X → Type 0} (r : Result (Option X) E) → ((x : X) → P x → Q x) → IfOk r (λ o. IfSome o P) → IfOk r (λ o. IfSome o Q)
ok_some (Ok None) f h = tt
ok_some (Ok (Some x)) f h = f x h
ok_some (Err e) f h = tt

pub some_in : {X : Type 0} (o : Option X) (x : X) (P : X → Type 0) → o ≡ Some x → IfSome o P → P x
some_in o x P e h = subst (λ q. IfSome q P) e h
