-- The pins of a net with resistors: their capacitances, and what its trees tell of each.

use Rattle.std.proofs.Common.{◌≡◌, ℕ, zero, suc, ◌+◌, ◌<◌, ℤ, pos, Bool, true, false, ◌||◌, List, [], ◌∷◌, ◌++◌, map, length, get_or, set, take, Option, None, Some, refl, sym, ap, subst, ◌∙◌, inl, inr, arith}
use Rattle.std.specs.Prelude.{nat_eq, option_map, option_and_then, slice_get, slice_set}
use Rattle.std.specs.List.{list_any, list_all}
use Rattle.std.specs.Option.{option_map_or, unwrap_or}
use Rattle.std.specs.Ordering.{int_eq}
use Rattle.std.proofs.lemmas.Bool.{cases_Bool, false≢true, and_parts, eqb-true, eq-eqb}
use Rattle.std.proofs.lemmas.Bool.Decides.{Decides-int_eq}
use Rattle.std.proofs.lemmas.List.{get_or-map, length-map, length-set, take_more}
use Rattle.std.proofs.lemmas.List.Elements.{All-nil, All-push, Contains-append_cases}
use Rattle.timing_defs.specs.declared.kinds.Split.{Split}
use Rattle.timing_defs.specs.declared.kinds.Split.TheVariants.{Early, Late}
use Rattle.timing_defs.specs.declared.parasitics.RcNode.TheVariants.{Pin as rc_pin, Inner as rc_inner}
use Rattle.timing_defs.specs.declared.parasitics.NetRc.{NetRc}
use Rattle.timing_defs.specs.declared.rows.PinCap.{PinCap}
use Rattle.timing_defs.specs.Netlist.{Pin}
use Rattle.timing_defs.specs.Wires.{pin_cap}
use Rattle.netlist_store.specs.Numbering.{Stored, name_at, is_number, pin_numbered}
use Rattle.rc_tree.specs.Trees.{Told, IsTreeOf, delay_of, impulse_of}
use Rattle.rc_tree.specs.Numbering.{node_at}
use Rattle.node_rows.specs.declared.pin_wires.SinkWire.{SinkWire}
use Rattle.node_rows.specs.declared.pin_wires.PinWire.{PinWire}
use Rattle.node_rows.specs.declared.net_trees.NetTrees.{NetTrees}
use Rattle.node_rows.specs.declared.found_nets.WireTo.{WireTo}
use Rattle.node_rows.specs.WireTables.{wire_at, split_wire}
use Rattle.node_rows.specs.NetPins.{counted, cap_at, pin_cap_at, has_one_cap}
use Rattle.node_rows.specs.NetTrees.{IsSink, HasWire, late_of, pin_word}
use Rattle.node_rows.specs.FoundNets.{with_wires, ArePut, AreWiresTo}
use Rattle.node_rows.proofs.LoadLaws.{number_low}
use Rattle.timing_defs.proofs.Members.{some_is, in_cases, none_in}

-- a pin with its capacitance
counted_all : (s : Stored) (split : Split) (o : Option Pin) (x : ℤ) → option_map (pin_cap s.design split) o ≡ Some x → x ≡ option_map_or (counted s.design split true) o (pos 0)
counted_all s split None x e = absurd (cc)
counted_all s split (Some p) x e = sym (some_is e)

pub cap_told : (s : Stored) (split : Split) (pin : ℕ) (name : List ℕ) (x : ℤ) → name_at s.pins pin ≡ Some name → option_map (pin_cap s.design split) (pin_numbered s pin) ≡ Some x
    → ◌≡◌ {A = PinCap} (record { pin = name; cap = record { 0 = x } }) (pin_cap_at s split pin)
cap_told s split pin name x named e =
    ap (λ (w : List ℕ). record { pin = w; cap = record { 0 = x } }) (sym (ap (λ o. unwrap_or o []) named))
    ∙ ap (λ (z : ℤ). record { pin = pin_word s pin; cap = record { 0 = z } }) (counted_all s split (pin_numbered s pin) x e)

-- a pin whose capacitance is the same in both splits
pub one_cap_told : (s : Stored) (pin : ℕ) (early late : ℤ) → option_map (pin_cap s.design Early) (pin_numbered s pin) ≡ Some early
    → option_map (pin_cap s.design Late) (pin_numbered s pin) ≡ Some late → int_eq early late ≡ has_one_cap s pin
one_cap_told s pin early late e f =
    ap (λ z. int_eq z late) (counted_all s Early (pin_numbered s pin) early e)
    ∙ ap (λ z. int_eq (cap_at s Early true pin) z) (counted_all s Late (pin_numbered s pin) late f)

pub caps_alike : (s : Stored) (pins : List ℕ) → list_all (has_one_cap s) pins ≡ true → map (pin_cap_at s Early) pins ≡ map (pin_cap_at s Late) pins
caps_alike s [] h = refl
caps_alike s (pin ∷ pins) h =
    let parts = and_parts (has_one_cap s pin) (list_all (has_one_cap s) pins) h in
    let same : cap_at s Early true pin ≡ cap_at s Late true pin = (Decides-int_eq (cap_at s Early true pin) (cap_at s Late true pin)).0 parts.0 in
    ap (λ (z : ℤ). record { pin = pin_word s pin; cap = record { 0 = z } } ∷ map (pin_cap_at s Early) pins) same
    ∙ ap (λ (rest : List PinCap). pin_cap_at s Late pin ∷ rest) (caps_alike s pins parts.1)

-- what a tree tells of a pin that is one of its nodes
pub sink_told : (net : NetRc) (root : List ℕ) (caps : List PinCap) (told : Told) → IsTreeOf net root caps told → (name : List ℕ) (n : ℕ) → n < length told.nodes
    → node_at told.nodes n ≡ rc_pin name → (wire : SinkWire) → wire.delay.0 ≡ get_or told.delays n wire.delay.0 → wire.impulse ≡ get_or told.impulses n wire.impulse
    → IsSink net root caps name wire
sink_told net root caps told is name n low at wire d i =
    record {
      delay = d ∙ ap (λ xs. get_or xs n wire.delay.0) is.delays
          ∙ get_or-map (delay_of net root caps) told.nodes n (rc_inner 0) wire.delay.0 low ∙ ap (delay_of net root caps) at;
      impulse = ap pos i ∙ sym (get_or-map pos told.impulses n wire.impulse (pos wire.impulse) below)
          ∙ ap (λ xs. get_or xs n (pos wire.impulse)) is.impulses
          ∙ get_or-map (impulse_of net root caps) told.nodes n (rc_inner 0) (pos wire.impulse) low ∙ ap (impulse_of net root caps) at;
    }
  where
    below : n < length told.impulses
    below =
        let a = length-map told.impulses pos in
        let b = length-map told.nodes (impulse_of net root caps) in
        let c = ap length is.impulses in
        omega (arith, a, b, c, low)

-- reads of a list after a write
pub get_same : {X : Type 0} (xs : List X) (i : ℕ) (x : X) → i < length xs → slice_get (set xs i x) i ≡ Some x
get_same [] i x low = absurd (omega arith)
get_same (y ∷ ys) zero x low = refl
get_same (y ∷ ys) (suc i) x low = get_same ys i x (omega arith)

pub get_other : {X : Type 0} (xs : List X) (i k : ℕ) (x : X) → (k ≡ i → ⊥) → slice_get (set xs i x) k ≡ slice_get xs k
get_other [] i k x apart = refl
get_other (y ∷ ys) zero zero x apart = absurd (apart refl)
get_other (y ∷ ys) zero (suc k) x apart = refl
get_other (y ∷ ys) (suc i) zero x apart = refl
get_other (y ∷ ys) (suc i) (suc k) x apart = get_other ys i k x (λ e. apart (ap suc e))

pub wire_kept : (wires : List (Option PinWire)) (pin other : ℕ) (wire : Option PinWire) → nat_eq other pin ≡ false → wire_at (slice_set wires pin wire) other ≡ wire_at wires other
wire_kept wires pin other wire apart =
    ap (option_and_then (λ (w : Option PinWire). w)) (get_other wires pin other wire (λ e. absurd (false≢true (sym apart ∙ eq-eqb other pin e))))

wire_put : (s : Stored) (net : NetRc) (root : List ℕ) (caps : Split → List PinCap) (wires : List (Option PinWire)) (pin : ℕ) (wire : PinWire)
    → pin < length wires → IsSink net root (caps Early) (pin_word s pin) wire.early → IsSink net root (caps Late) (pin_word s pin) wire.late
    → HasWire s net root caps (slice_set wires pin (Some wire)) pin
wire_put s net root caps wires pin wire low early late =
    record {
      wire = wire;
      there = ap (option_and_then (λ (w : Option PinWire). w)) (get_same wires pin (Some wire) low);
      sinks = by;
    }
  where
    by : (split : Split) → IsSink net root (caps split) (unwrap_or (name_at s.pins pin) []) (split_wire split wire)
    by Early = early
    by Late = late

-- a wire that is kept is still there
moved : (s : Stored) (net : NetRc) (root : List ℕ) (caps : Split → List PinCap) (wires new : List (Option PinWire)) (pin : ℕ) → wire_at new pin ≡ wire_at wires pin
    → HasWire s net root caps wires pin → HasWire s net root caps new pin
moved s net root caps wires new pin e h = record { wire = h.wire; there = e ∙ h.there; sinks = h.sinks }

none_put : (s : Stored) (trees : NetTrees) (old : List (Option PinWire)) → ArePut s trees old old []
none_put s trees old = record { len = refl; there = λ net root caps early late pin c. absurd (none_in pin c); kept = λ other apart. refl }

last_of : (pins : List ℕ) (pin other : ℕ) → list_any (nat_eq other) (pins ++ pin ∷ []) ≡ false → (list_any (nat_eq other) pins ≡ false) × (nat_eq other pin ≡ false)
last_of [] pin other h = (refl, one (nat_eq other pin) h)
  where
    one : (b : Bool) → (b || false) ≡ false → b ≡ false
    one true h = absurd (false≢true (sym h))
    one false h = refl
last_of (p ∷ ps) pin other h = elim (cases_Bool (nat_eq other p)) [
  | inl e ↦
      let bad : true ≡ false = rw e at h in
      absurd (false≢true (sym bad))
  | inr e ↦
      let rest : list_any (nat_eq other) (ps ++ pin ∷ []) ≡ false = rw e at h in
      let r = last_of ps pin other rest in
      (rw e r.0, r.1)
]

put_more : (s : Stored) (trees : NetTrees) (old wires new : List (Option PinWire)) (pins : List ℕ) (i pin : ℕ) → i < length pins → pin ≡ get_or pins i pin
    → length new ≡ length wires
    → ((net : NetRc) (root : List ℕ) (caps : Split → List PinCap) → IsTreeOf net root (caps Early) trees.early → IsTreeOf net root (caps Late) (late_of trees) → HasWire s net root caps new pin)
    → ((other : ℕ) → nat_eq other pin ≡ false → wire_at new other ≡ wire_at wires other)
    → ArePut s trees old wires (take i pins) → ArePut s trees old new (take (i + 1) pins)
put_more s trees old wires new pins i pin low here len there kept had =
    subst (λ (ps : List ℕ). ArePut s trees old new ps) (sym (take_more pins i pin low ∙ ap (λ y. take i pins ++ y ∷ []) (sym here)))
    (record {
      len = len ∙ had.len;
      there = λ net root caps early late p c. elim (Contains-append_cases (take i pins) (pin ∷ []) p c) [
        | inl before ↦ elim (cases_Bool (nat_eq p pin)) [
          | inl same ↦ subst (λ (q : ℕ). HasWire s net root caps new q) (sym (eqb-true p pin same)) (there net root caps early late)
          | inr apart ↦ moved s net root caps wires new p (kept p apart) (had.there net root caps early late p before)
        ]
        | inr last ↦ elim (in_cases pin [] p last) [
          | inl same ↦ subst (λ (q : ℕ). HasWire s net root caps new q) same (there net root caps early late)
          | inr none ↦ absurd (none_in p none)
        ]
      ];
      kept = λ other apart. let parts = last_of (take i pins) pin other apart in kept other parts.1 ∙ had.kept other parts.0;
    })

-- one more wire
with_more : (table : List (Option PinWire)) (found : List WireTo) (to : WireTo) → with_wires table (found ++ to ∷ []) ≡ slice_set (with_wires table found) to.pin (Some to.wire)
with_more table [] to = refl
with_more table (first ∷ rest) to = with_more (slice_set table first.pin (Some first.wire)) rest to

pub none_to : (s : Stored) (trees : NetTrees) → AreWiresTo s trees [] []
none_to s trees = record { within = All-nil (λ (to : WireTo). to.pin < length s.pins); put = λ old len. none_put s trees old }

pub wires_more : (s : Stored) (trees : NetTrees) (pins : List ℕ) (i pin : ℕ) (found new : List WireTo) (to : WireTo) → i < length pins → pin ≡ get_or pins i pin
    → is_number s.pins pin ≡ true → new ≡ found ++ to ∷ [] → to.pin ≡ pin
    → ((net : NetRc) (root : List ℕ) (caps : List PinCap) → IsTreeOf net root caps trees.early → IsSink net root caps (pin_word s pin) to.wire.early)
    → ((net : NetRc) (root : List ℕ) (caps : List PinCap) → IsTreeOf net root caps (late_of trees) → IsSink net root caps (pin_word s pin) to.wire.late)
    → AreWiresTo s trees (take i pins) found → AreWiresTo s trees (take (i + 1) pins) new
wires_more s trees pins i pin found new to low here number pushed its early late had =
    subst (λ (xs : List WireTo). AreWiresTo s trees (take (i + 1) pins) xs) (sym pushed)
    (record {
      within = All-push (λ (t : WireTo). t.pin < length s.pins) found to had.within below;
      put = λ old len.
          (let before = had.put old len in
          let one : with_wires old (found ++ to ∷ []) ≡ slice_set (with_wires old found) pin (Some to.wire) =
          with_more old found to ∙ ap (λ n. slice_set (with_wires old found) n (Some to.wire)) its in
          let inside : pin < length (with_wires old found) = (let a = number_low s.pins pin number in let b = before.len in omega (arith, a, b, len)) in
          subst (λ (xs : List (Option PinWire)). ArePut s trees old xs (take (i + 1) pins)) (sym one)
          (put_more s trees old (with_wires old found) (slice_set (with_wires old found) pin (Some to.wire)) pins i pin low here
          (length-set (with_wires old found) pin (Some to.wire))
          (λ net root caps e l. wire_put s net root caps (with_wires old found) pin to.wire inside (early net root (caps Early) e) (late net root (caps Late) l))
          (λ other apart. wire_kept (with_wires old found) pin other (Some to.wire) apart)
          before));
    })
  where
    below : to.pin < length s.pins
    below = let a = number_low s.pins pin number in omega (arith, a, its)
