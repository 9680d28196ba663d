-- An ECO that keeps the shapes of its instances' cells and the pins of its nets leaves stores alike.

use Rattle.std.proofs.Common.{◌≡◌, ℕ, ◌+◌, ◌<◌, ◌≤◌, Bool, true, false, not, List, [], ◌∷◌, map, take, get_or, length, Option, Some, None, refl, sym, ap, subst, ◌∙◌, inl, inr, arith}
use Rattle.std.specs.Prelude.{nat_eq, ◌&&◌, ◌||◌, All, count_by, option_and_then, option_map, if◌then◌else◌}
use Rattle.std.specs.Cmp.Lexicographic.{pointwise, same_text}
use Rattle.std.specs.Str.{bytes_eq}
use Rattle.std.proofs.lemmas.Bool.{cases_Bool, false≢true, and_parts}
use Rattle.std.proofs.lemmas.List.{take_more, take_all}
use Rattle.std.proofs.lemmas.List.Elements.{All-contains, All-push}
use Rattle.timing_defs.specs.declared.kinds.Split.TheVariants.{Late}
use Rattle.timing_defs.specs.declared.kinds.Dir.{Dir}
use Rattle.timing_defs.specs.declared.kinds.Dir.TheVariants.{Input, Output}
use Rattle.timing_defs.specs.declared.kinds.Tran.{Tran}
use Rattle.timing_defs.specs.declared.kinds.Tran.TheVariants.{Rise, Fall}
use Rattle.timing_defs.specs.declared.kinds.ArcKind.{ArcKind}
use Rattle.timing_defs.specs.declared.kinds.ArcKind.TheVariants.{Comb, Edge}
use Rattle.timing_defs.specs.declared.library.Cell.{Cell}
use Rattle.timing_defs.specs.declared.library.CellPin.{CellPin}
use Rattle.timing_defs.specs.declared.library.CellArc.{CellArc}
use Rattle.timing_defs.specs.declared.library.CellTest.{CellTest}
use Rattle.timing_defs.specs.declared.netlist.Inst.{Inst}
use Rattle.timing_defs.specs.declared.design.Design.{Design}
use Rattle.timing_defs.specs.Netlist.{cell_named, cell_of, is_listed, same_dir, same_tran}
use Rattle.timing_defs.specs.Kinds.{comb_kind}
use Rattle.timing_defs.specs.Kinds.{same_kind}
use Rattle.timing_defs.specs.NetChecks.{net_fault}
use Rattle.timing_defs.specs.Touches.{Touch}
use Rattle.timing_defs.specs.Edits.{inst_named, same_cell_pin, same_arc, same_test}
use Rattle.netlist_store.specs.Applying.{IsEditOf}
use Rattle.netlist_store.specs.Linked.{IsLinked}
use Rattle.netlist_store.specs.Numbering.{Stored, number_of, is_on_number, inst_numbered, IsNumbered}
use Rattle.netlist_store.proofs.Untouched.{IsFramed, left_by_eco, framed_by_eco}
use Rattle.eco_laws.specs.Kept.{IsInstKept}
use Rattle.eco_laws.proofs.EditOf.{inst_kept_of}
use Rattle.pin_graph.specs.Alike.{pin_shape, arc_shape, shape_of, shape_in, named_shape, same_shape, IsSameInst, IsSameNet, AreAlike}
use Rattle.pin_graph.specs.Kept.{HaveSameLinks}
use Rattle.pin_graph.proofs.AlikeLaws.{same_links}
use Rattle.timing_defs.proofs.SameNames.{same_is}
use Rattle.timing_defs.proofs.Members.{any_back}
use Rattle.store_pins.proofs.PinLaws.{told_at}
use Rattle.pin_graph.proofs.JoinLaws.{then_back}

-- cells of one shape
dirs_same : (a b : Dir) → same_dir a b ≡ true → b ≡ a
dirs_same Input Input e = refl
dirs_same Input Output e = absurd (false≢true e)
dirs_same Output Input e = absurd (false≢true e)
dirs_same Output Output e = refl

trans_same : (a b : Tran) → same_tran a b ≡ true → b ≡ a
trans_same Rise Rise e = refl
trans_same Rise Fall e = absurd (false≢true e)
trans_same Fall Rise e = absurd (false≢true e)
trans_same Fall Fall e = refl

kinds_same : (a b : ArcKind) → ((comb_kind a && comb_kind b) || (not (comb_kind a) && not (comb_kind b))) ≡ true → b ≡ a
kinds_same Comb Comb e = refl
kinds_same Comb Edge e = absurd (false≢true e)
kinds_same Edge Comb e = absurd (false≢true e)
kinds_same Edge Edge e = refl

pin_same : (a b : CellPin) → same_cell_pin a b ≡ true → pin_shape b ≡ pin_shape a
pin_same a b e =
    let parts = and_parts (bytes_eq a.name b.name) (same_dir a.dir b.dir) e in
    λ k. record { name = sym (same_is a.name b.name parts.0) k; dir = dirs_same a.dir b.dir parts.1 k }

arc_same : (a b : CellArc) → same_arc a b ≡ true → arc_shape b ≡ arc_shape a
arc_same a b e =
    let p1 = and_parts (bytes_eq a.from b.from && same_tran a.from_tran b.from_tran && bytes_eq a.to b.to && same_tran a.to_tran b.to_tran)
    ((comb_kind a.kind && comb_kind b.kind) || (not (comb_kind a.kind) && not (comb_kind b.kind))) e in
    let p2 = and_parts (bytes_eq a.from b.from && same_tran a.from_tran b.from_tran && bytes_eq a.to b.to) (same_tran a.to_tran b.to_tran) p1.0 in
    let p3 = and_parts (bytes_eq a.from b.from && same_tran a.from_tran b.from_tran) (bytes_eq a.to b.to) p2.0 in
    let p4 = and_parts (bytes_eq a.from b.from) (same_tran a.from_tran b.from_tran) p3.0 in
    λ k. record {
      from = sym (same_is a.from b.from p4.0) k;
      from_tran = trans_same a.from_tran b.from_tran p4.1 k;
      to = sym (same_is a.to b.to p3.1) k;
      to_tran = trans_same a.to_tran b.to_tran p2.1 k;
      kind = kinds_same a.kind b.kind p1.1 k;
    }

test_same : (a b : CellTest) → same_test a b ≡ true → b.clock ≡ a.clock
test_same a b e =
    let p1 = and_parts (bytes_eq a.pin b.pin && same_tran a.tran b.tran && bytes_eq a.clock b.clock && same_tran a.active b.active) (same_kind a.kind b.kind) e in
    let p2 = and_parts (bytes_eq a.pin b.pin && same_tran a.tran b.tran && bytes_eq a.clock b.clock) (same_tran a.active b.active) p1.0 in
    let p3 = and_parts (bytes_eq a.pin b.pin && same_tran a.tran b.tran) (bytes_eq a.clock b.clock) p2.0 in
    sym (same_is a.clock b.clock p3.1)

all_same : {X Y : Type 0} (same : X → X → Bool) (f : X → Y) → ((a b : X) → same a b ≡ true → f b ≡ f a) → (xs ys : List X) → pointwise same xs ys ≡ true → map f ys ≡ map f xs
all_same same f each [] [] e = refl
all_same same f each [] (y ∷ ys) e = absurd (false≢true e)
all_same same f each (x ∷ xs) [] e = absurd (false≢true e)
all_same same f each (x ∷ xs) (y ∷ ys) e =
    let parts = and_parts (same x y) (pointwise same xs ys) e in
    λ k. each x y parts.0 k ∷ all_same same f each xs ys parts.1 k

shapes_same : (a b : Cell) → same_shape a b ≡ true → shape_of b ≡ shape_of a
shapes_same a b e =
    let p1 = and_parts (pointwise same_cell_pin a.pins b.pins && pointwise same_arc a.arcs b.arcs) (pointwise same_test a.tests b.tests) e in
    let p2 = and_parts (pointwise same_cell_pin a.pins b.pins) (pointwise same_arc a.arcs b.arcs) p1.0 in
    λ k. record {
      pins = all_same same_cell_pin pin_shape pin_same a.pins b.pins p2.0 k;
      arcs = all_same same_arc arc_shape arc_same a.arcs b.arcs p2.1 k;
      clocks = all_same same_test (λ test. test.clock) test_same a.tests b.tests p1.1 k;
    }

shape_told : (s : Stored) (name : List ℕ) (n : ℕ) (cell : Cell) → number_of s.insts name ≡ Some n → option_and_then (cell_of s.design Late) (inst_numbered s n) ≡ Some cell
    → named_shape s.design name ≡ Some (Some (shape_of cell))
shape_told s name n cell number is =
    let i = then_back (cell_of s.design Late) (inst_named s.design.insts name) cell
    (sym (ap (λ o. option_and_then (cell_of s.design Late) (option_and_then (inst_named s.design.insts) o)) (told_at s.insts name n number)) ∙ is) in
    ap (option_map (shape_in s.design)) i.1 ∙ ap (λ o. Some (option_map shape_of o)) i.2

pub same_inst : (s s2 : Stored) (name : List ℕ) (a b : ℕ) (x y : Cell) → Some a ≡ number_of s.insts name → Some b ≡ number_of s2.insts name
    → option_and_then (cell_of s.design Late) (inst_numbered s a) ≡ Some x → option_and_then (cell_of s2.design Late) (inst_numbered s2 b) ≡ Some y
    → same_shape x y ≡ true → IsSameInst s s2 name
same_inst s s2 name a b x y na nb xa yb same = record {
  shape = shape_told s2 name b y (sym nb) yb ∙ ap (λ t. Some (Some t)) (shapes_same x y same) ∙ sym (shape_told s name a x (sym na) xa);
}

one_or_none : (p q : Bool) (n : ℕ) → n ≡ (if p then 1 else 0) → n ≡ (if q then 1 else 0) → p ≡ q
one_or_none true true n e f = refl
one_or_none true false n e f = absurd (omega (arith, e, f))
one_or_none false true n e f = absurd (omega (arith, e, f))
one_or_none false false n e f = refl

pub same_net : (s s2 : Stored) (name : List ℕ) (a b : ℕ) (xs ys : List ℕ) → Some a ≡ number_of s.nets name → Some b ≡ number_of s2.nets name
    → ((pin : ℕ) → count_by (nat_eq pin) xs ≡ (if is_on_number s a pin then 1 else 0))
    → ((pin : ℕ) → count_by (nat_eq pin) ys ≡ (if is_on_number s2 b pin then 1 else 0))
    → pointwise nat_eq xs ys ≡ true → IsSameNet s s2 name
same_net s s2 name a b xs ys na nb xa yb same = record {
  first = a;
  first_is = sym na;
  second = b;
  second_is = sym nb;
  pins = λ pin.
      one_or_none (is_on_number s2 b pin) (is_on_number s a pin) (count_by (nat_eq pin) ys) (yb pin)
      (ap (count_by (nat_eq pin)) (sym (same_text xs ys (sym same))) ∙ xa pin);
}

-- what is asked of each name, one more
pub kept_more : (P : List ℕ → Type 0) (names : List (List ℕ)) (i : ℕ) (item : List ℕ) → All P (take i names) → i < length names → item ≡ get_or names i item → P item
    → All P (take (i + 1) names)
kept_more P names i item had low is here =
    subst (λ (xs : List (List ℕ)). All P xs) (sym (take_more names i item low)) (All-push P (take i names) (get_or names i item) had (subst P is here))

pub kept_all : (P : List ℕ → Type 0) (names : List (List ℕ)) (i : ℕ) → All P (take i names) → length names ≤ i → All P names
kept_all P names i had high = subst (λ (xs : List (List ℕ)). All P xs) (take_all i names high) had

-- what is asked of each name that is listed
listed_in : (P : List ℕ → Type 0) (names : List (List ℕ)) (name : List ℕ) → All P names → is_listed names name ≡ true → P name
listed_in P names name all e =
    let r = any_back (bytes_eq name) names e in
    subst P (sym (same_is name r.item r.passes)) (All-contains P names r.item all r.within)

shape_by_cell : (d : Design) (o : Option Inst) → option_map (shape_in d) o ≡ option_map (λ cell. option_map shape_of (cell_named d.late.cells cell)) (option_map (λ (i : Inst). i.cell) o)
shape_by_cell d None = refl
shape_by_cell d (Some i) = refl

pub alike_after : (s s2 : Stored) (touch : Touch) → IsEditOf s touch s2 → length s2.insts ≡ length s.insts → length s2.pins ≡ length s.pins
    → ((name : List ℕ) → is_listed touch.insts name ≡ false → option_map (λ (i : Inst). i.cell) (inst_named s2.design.insts name) ≡ option_map (λ (i : Inst). i.cell) (inst_named s.design.insts name))
    → All (λ name. IsSameInst s s2 name) touch.insts → All (λ name. IsSameNet s s2 name) touch.nets → AreAlike s s2
alike_after s s2 touch made insts_long pins_long left insts nets = record {
  ports = framed.ports;
  constraints = framed.constraints;
  insts = λ name. elim (cases_Bool (is_listed touch.insts name)) [
    | inl e ↦ (listed_in (λ n. IsSameInst s s2 n) touch.insts name insts e).shape
    | inr e ↦
        shape_by_cell s2.design (inst_named s2.design.insts name)
        ∙ (λ k. option_map (λ cell. option_map shape_of (cell_named (framed.late k).cells cell)) (left name e k))
        ∙ sym (shape_by_cell s.design (inst_named s.design.insts name))
  ];
  nets = λ name. elim (cases_Bool (is_listed touch.nets name)) [
    | inl e ↦ inr (listed_in (λ n. IsSameNet s s2 n) touch.nets name nets e)
    | inr e ↦
        inl (left_by_eco name s.design made.0 made.1.linked made.1.is_eco s2.design made.1.made
        (sym (ap (λ names. is_listed names name) made.1.nets) ∙ e)).seen
  ];
  numbers = made.1.numbers;
  inst_bound = insts_long;
  pin_bound = pins_long;
}
  where
    framed : IsFramed s.design s2.design
    framed = framed_by_eco s.design made.0 s2.design made.1.made

cell_kept : (nets : List (List ℕ)) (o o2 : Option Inst) → IsInstKept nets o o2 → option_map (λ (i : Inst). i.cell) o2 ≡ option_map (λ (i : Inst). i.cell) o
cell_kept nets None o2 e = ap (option_map (λ (i : Inst). i.cell)) e
cell_kept nets (Some i) None e = absurd e
cell_kept nets (Some i) (Some j) e = ap Some e.cell

pub links_kept : (s s2 : Stored) (touch : Touch) → IsNumbered s → IsNumbered s2 → IsLinked s.design → IsLinked s2.design → net_fault s2.design ≡ None → IsEditOf s touch s2
    → length s2.pins ≡ length s.pins → length s2.insts ≡ length s.insts → All (λ name. IsSameInst s s2 name) touch.insts → All (λ name. IsSameNet s s2 name) touch.nets
    → HaveSameLinks s s2
links_kept s s2 touch num num2 linked linked2 fault made pins insts same_insts same_nets =
    same_links s s2 num num2 linked linked2 fault
    (alike_after s s2 touch made insts pins (λ name off. cell_kept touch.nets (inst_named s.design.insts name) (inst_named s2.design.insts name) (inst_kept_of s touch s2 made name off))
    same_insts same_nets)
