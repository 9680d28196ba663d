-- Capacitances that are added at their places, one by one.
use Rattle.std.proofs.Common.{◌≡◌, ℕ, zero, suc, ◌+◌, ◌*◌, ◌^◌, ◌<◌, ◌≤◌, Bool, true, false, List, [], ◌∷◌, ◌++◌, length, get_or, set, take, replicate, map, ◌+ℤ◌, Option, None, Some, IfSome, is_some, not, ℤ, pos, negsuc, nat_abs, refl, ap, sym, subst, ◌∙◌, arith, inl, inr, append_assoc, append-nil}
use Rattle.std.proofs.lemmas.List.{length-set, get_or-set_same, get_or-set_other, take_more, map-append}
use Rattle.std.proofs.Math.IntN.{+ℤ_assoc, +ℤ_idl, +ℤ_idr}
use Rattle.timing_defs.specs.declared.parasitics.RcNode.{RcNode}
use Rattle.timing_defs.specs.declared.parasitics.RcCap.{RcCap}
use Rattle.timing_defs.specs.declared.parasitics.RcNode.TheVariants.{Pin as rc_pin}
use Rattle.timing_defs.specs.declared.rows.PinCap.{PinCap}
use Rattle.timing_defs.specs.declared.parasitics.NetRc.{NetRc}
use Rattle.timing_defs.specs.Wires.{sum_of}
use Rattle.rc_tree.specs.declared.forests.Forest.{Forest}
use Rattle.std.specs.Prelude.{option_and_then}
use Rattle.std.proofs.lemmas.Bool.{false≢true, cases_eq, cases_lt, lt-ltb}
use Rattle.std.specs.List.{AllByRecursion}
use Rattle.sta_units.specs.Numbers.{limit}
use Rattle.rc_tree.specs.Trees.{is_node, is_amount, total_load}
use Rattle.rc_tree.specs.Numbering.{node_at, IsNumberOf}
use Rattle.rc_tree.specs.Growth.{place_of}
use Rattle.rc_tree.specs.Loops.{IsFound}
use Rattle.rc_tree.specs.declared.segments.Segment.{Segment}
use Rattle.rc_tree.specs.Moments.{sum_below, weight_at}
use Rattle.rc_tree.specs.Weights.{placed_node, cap_of, charge_of, sum_nat, IsWeighed, IsPlaceOf, heavier, AreAdded, IsPlacing, AreUnder}
use Rattle.rc_tree.proofs.Bridge.{weighed_none, weighed_more, weighed_skip}
use Rattle.rc_tree.proofs.Moments.{sum_agree}

pub none_added : (nodes : List RcNode) (f : Forest) (weights : List ℕ) → AreAdded nodes f [] weights weights
none_added nodes f weights = record { size = refl; weighed = λ before w. subst (λ cs. IsWeighed nodes f cs (weight_at weights)) (sym (append-nil before)) w }

pub one_added : (nodes : List RcNode) (f : Forest) (charges : List RcCap) (c : RcCap) (found : Option ℕ) (old mid new : List ℕ) → length old ≡ length f.rows.items → IsPlaceOf nodes f c.node found → new ≡ heavier mid found (cap_of c)
    → AreAdded nodes f charges old mid → AreAdded nodes f (charges ++ c ∷ []) old new
one_added nodes f charges c None old mid new size place e a = record {
  size = ap length e ∙ a.size;
  weighed = λ before w.
      subst (λ cs. IsWeighed nodes f cs (weight_at new)) (append_assoc before charges (c ∷ []))
      (subst (λ ws. IsWeighed nodes f ((before ++ charges) ++ c ∷ []) (weight_at ws)) (sym e) (weighed_skip nodes f (before ++ charges) c (weight_at mid) place (a.weighed before w)));
}
one_added nodes f charges c (Some p) old mid new size place e a = record {
  size = ap length e ∙ length-set mid p (weight_at mid p + cap_of c) ∙ a.size;
  weighed = λ before w.
      (let l : p < length mid = (let x : p < length f.rows.items = place.0 in let y = a.size in omega arith) in
      subst (λ cs. IsWeighed nodes f cs (weight_at new)) (append_assoc before charges (c ∷ []))
      (subst (λ ws. IsWeighed nodes f ((before ++ charges) ++ c ∷ []) (weight_at ws)) (sym e)
      (weighed_more nodes f (before ++ charges) c (weight_at mid) (weight_at (set mid p (weight_at mid p + cap_of c))) p place.0 place.1
      (get_or-set_same mid p (weight_at mid p + cap_of c) 0 l) (λ i li un. get_or-set_other mid p i (weight_at mid p + cap_of c) 0 un) (a.weighed before w))));
}

-- all weights together are no more than all capacitance
pub weights_total : (nodes : List RcNode) (f : Forest) (charges : List RcCap) (w : ℕ → ℕ) → ((i : ℕ) → i < length f.rows.items → is_node nodes (placed_node nodes f i) ≡ true) → IsWeighed nodes f charges w → sum_below w (length f.rows.items) ≤ sum_nat cap_of charges
weights_total nodes f charges w there weighed =
    let e : sum_nat (λ c. one (is_node nodes c.node) * cap_of c) charges ≡ sum_below (λ i. one (is_node nodes (placed_node nodes f i)) * w i) (length f.rows.items) =
    weighed (λ x. one (is_node nodes x)) (λ x h. ap one h) in
    let s : sum_below (λ i. one (is_node nodes (placed_node nodes f i)) * w i) (length f.rows.items) ≡ sum_below w (length f.rows.items) =
    sum_agree (λ i. one (is_node nodes (placed_node nodes f i)) * w i) w (length f.rows.items) (λ i l. ap (λ b. one b * w i) (there i l) ∙ (let z : 1 * w i ≡ w i = omega arith in z)) in
    let m = less charges in
    omega arith
  where
    one : Bool → ℕ
    one true = 1
    one false = 0

    at_most : (b : Bool) (x : ℕ) → one b * x ≤ x
    at_most true x = omega arith
    at_most false x = omega arith

    less : (cs : List RcCap) → sum_nat (λ c. one (is_node nodes c.node) * cap_of c) cs ≤ sum_nat cap_of cs
    less [] = omega arith
    less (c ∷ cs) = (let a = at_most (is_node nodes c.node) (cap_of c) in let b = less cs in omega arith)

pub placing : (segments : List Segment) (nodes : List RcNode) (f : Forest) → IsFound segments (length nodes) f → IsPlacing nodes f
placing segments nodes f found = record { sized = found.grown.sized; back = found.grown.back; all = found.all }

pub number_inside : (nodes : List RcNode) (f : Forest) (node : RcNode) (o : Option ℕ) → IsPlacing nodes f → IsNumberOf nodes node o → IfSome o (λ n. n < length f.places.items)
number_inside nodes f node None p h = tt
number_inside nodes f node (Some n) p h = (let l : n < length nodes = h.0 in let s = p.sized in omega arith)

pub place_is : (nodes : List RcNode) (f : Forest) (node : RcNode) (o found : Option ℕ) → IsPlacing nodes f → IsNumberOf nodes node o → found ≡ option_and_then (place_of f) o → IsPlaceOf nodes f node found
place_is nodes f node None found p h e = subst (IsPlaceOf nodes f node) (sym e) h
place_is nodes f node (Some n) found p h e = subst (IsPlaceOf nodes f node) (sym e) (by (place_of f n) refl)
  where
    by : (q : Option ℕ) → place_of f n ≡ q → IsPlaceOf nodes f node q
    by None q = absurd (false≢true (ap is_some (sym q) ∙ p.all n h.0))
    by (Some j) q = (let b = p.back n j q in (b.0, ap (node_at nodes) b.1 ∙ h.1))

pub heavier_under : (bound x : ℕ) (weights : List ℕ) (found : Option ℕ) → x ≤ 2 ^ 40 → IfSome found (λ p. p < length weights) → AreUnder bound weights → AreUnder (bound + 2 ^ 40) (heavier weights found x)
heavier_under bound x weights None l w u i = (let a = u i in omega arith)
heavier_under bound x weights (Some p) l w u i = elim (cases_eq i p) [
  | inl e ↦
      let s : weight_at (set weights p (weight_at weights p + x)) i ≡ weight_at weights p + x = ap (weight_at (set weights p (weight_at weights p + x))) e ∙ get_or-set_same weights p (weight_at weights p + x) 0 w in
      let a = u p in
      omega arith
  | inr un ↦
      let s : weight_at (set weights p (weight_at weights p + x)) i ≡ weight_at weights i = get_or-set_other weights p i (weight_at weights p + x) 0 un in
      let a = u i in
      omega arith
]

amount_small : (z : ℤ) → is_amount z ≡ true → nat_abs z ≤ 2 ^ 40
amount_small (pos n) h = elim (cases_lt limit n) [
  | inl more ↦ absurd (false≢true (sym (ap not (lt-ltb limit n more)) ∙ h))
  | inr less ↦ omega arith
]
amount_small (negsuc n) h = absurd (false≢true h)

all_at : (P : RcCap → Type 0) (xs : List RcCap) (i : ℕ) (d : RcCap) → i < length xs → AllByRecursion P xs → P (get_or xs i d)
all_at P [] i d l a = absurd (omega arith)
all_at P (x ∷ xs) zero d l a = a.0
all_at P (x ∷ xs) (suc i) d l a = all_at P xs i d (omega arith) a.1

pub cap_more : (nodes : List RcNode) (f : Forest) (caps : List RcCap) (i : ℕ) (c : RcCap) (found : Option ℕ) (amount : ℕ) (old mid new : List ℕ) → i < length caps → c ≡ get_or caps i c → length old ≡ length f.rows.items
    → AllByRecursion (λ x. is_amount x.cap.0 ≡ true) caps → IsPlaceOf nodes f c.node found → amount ≡ cap_of c → new ≡ heavier mid found amount
    → AreAdded nodes f (take i caps) old mid × AreUnder (i * 2 ^ 40) mid → AreAdded nodes f (take (i + 1) caps) old new × AreUnder ((i + 1) * 2 ^ 40) new
cap_more nodes f caps i c found amount old mid new l e size amounts place n q a =
    let q' : new ≡ heavier mid found (cap_of c) = q ∙ ap (heavier mid found) n in
    let more : take (i + 1) caps ≡ take i caps ++ c ∷ [] = take_more caps i c l ∙ ap (λ y. take i caps ++ y ∷ []) (sym e) in
    let fine : is_amount c.cap.0 ≡ true = subst (λ (x : RcCap). is_amount x.cap.0 ≡ true) (sym e) (all_at (λ x. is_amount x.cap.0 ≡ true) caps i c l amounts) in
    let bound : AreUnder (i * 2 ^ 40 + 2 ^ 40) new =
    subst (AreUnder (i * 2 ^ 40 + 2 ^ 40)) (sym q') (heavier_under (i * 2 ^ 40) (cap_of c) mid found (amount_small c.cap.0 fine) (inside found place) a.1) in (
      subst (λ cs. AreAdded nodes f cs old new) (sym more) (one_added nodes f (take i caps) c found old mid new size place q' a.0),
      λ k. (let b = bound k in omega arith),
    )
  where
    inside : (o : Option ℕ) → IsPlaceOf nodes f c.node o → IfSome o (λ p. p < length mid)
    inside None h = tt
    inside (Some p) h = (let x : p < length f.rows.items = h.0 in let y = a.0.size in omega arith)

charges_at : (pins : List PinCap) (i : ℕ) (d : PinCap) → i < length pins → AllByRecursion (λ c. is_amount c.cap.0 ≡ true) (map charge_of pins) → is_amount (get_or pins i d).cap.0 ≡ true
charges_at [] i d l a = absurd (omega arith)
charges_at (p ∷ pins) zero d l a = a.0
charges_at (p ∷ pins) (suc i) d l a = charges_at pins i d (omega arith) a.1

pub pin_more : (nodes : List RcNode) (f : Forest) (pins : List PinCap) (i : ℕ) (p : PinCap) (found : Option ℕ) (amount : ℕ) (old mid new : List ℕ) → i < length pins → p ≡ get_or pins i p → length old ≡ length f.rows.items
    → AllByRecursion (λ x. is_amount x.cap.0 ≡ true) (map charge_of pins) → IsPlaceOf nodes f (rc_pin p.pin) found → amount ≡ nat_abs p.cap.0 → new ≡ heavier mid found amount
    → AreAdded nodes f (map charge_of (take i pins)) old mid × AreUnder (2 ^ 104 + i * 2 ^ 40) mid → AreAdded nodes f (map charge_of (take (i + 1) pins)) old new × AreUnder (2 ^ 104 + (i + 1) * 2 ^ 40) new
pin_more nodes f pins i p found amount old mid new l e size amounts place n q a =
    let q' : new ≡ heavier mid found (nat_abs p.cap.0) = q ∙ ap (heavier mid found) n in
    let more : map charge_of (take (i + 1) pins) ≡ map charge_of (take i pins) ++ charge_of p ∷ [] =
    ap (map charge_of) (take_more pins i p l ∙ ap (λ y. take i pins ++ y ∷ []) (sym e)) ∙ map-append charge_of (take i pins) (p ∷ []) in
    let fine : is_amount p.cap.0 ≡ true = subst (λ (x : PinCap). is_amount x.cap.0 ≡ true) (sym e) (charges_at pins i p l amounts) in
    let bound : AreUnder (2 ^ 104 + i * 2 ^ 40 + 2 ^ 40) new =
    subst (AreUnder (2 ^ 104 + i * 2 ^ 40 + 2 ^ 40)) (sym q') (heavier_under (2 ^ 104 + i * 2 ^ 40) (nat_abs p.cap.0) mid found (amount_small p.cap.0 fine) (inside found place) a.1) in (
      subst (λ cs. AreAdded nodes f cs old new) (sym more) (one_added nodes f (map charge_of (take i pins)) (charge_of p) found old mid new size place q' a.0),
      λ k. (let b = bound k in omega arith),
    )
  where
    inside : (o : Option ℕ) → IsPlaceOf nodes f (rc_pin p.pin) o → IfSome o (λ p. p < length mid)
    inside None h = tt
    inside (Some p) h = (let x : p < length f.rows.items = h.0 in let y = a.0.size in omega arith)

no_weight : (n i : ℕ) → weight_at (replicate n 0) i ≡ 0
no_weight zero i = refl
no_weight (suc n) zero = refl
no_weight (suc n) (suc i) = no_weight n i

pub nothing_under : (n : ℕ) (weights : List ℕ) → weights ≡ replicate n 0 → AreUnder 0 weights
nothing_under n weights e i = (let z : weight_at weights i ≡ 0 = ap (λ ws. weight_at ws i) e ∙ no_weight n i in omega arith)

pub wide_under : (count : ℕ) (weights : List ℕ) → count ≤ 2 ^ 64 → AreUnder (count * 2 ^ 40) weights → AreUnder (2 ^ 104) weights
wide_under count weights l u i = (let a = u i in omega arith)

pub all_weighed : (nodes : List RcNode) (f : Forest) (caps : List RcCap) (pins : List PinCap) (none some all : List ℕ) (n : ℕ) → none ≡ replicate n 0 → AreAdded nodes f caps none some → AreAdded nodes f (map charge_of pins) some all
    → IsWeighed nodes f (caps ++ map charge_of pins) (weight_at all)
all_weighed nodes f caps pins none some all n e a b =
    b.weighed caps (a.weighed [] (weighed_none nodes f (weight_at none) (λ i. ap (λ ws. weight_at ws i) e ∙ no_weight n i)))

-- totals
sum_snoc : {X : Type 0} (f : X → ℤ) (xs : List X) (x : X) → sum_of f (xs ++ x ∷ []) ≡ sum_of f xs +ℤ f x
sum_snoc f [] x = +ℤ_idr (f x) ∙ sym (+ℤ_idl (f x))
sum_snoc f (y ∷ ys) x = ap (λ z. f y +ℤ z) (sum_snoc f ys x) ∙ sym (+ℤ_assoc (f y) (sum_of f ys) (f x))

pub amount_is : (z : ℤ) → is_amount z ≡ true → z ≡ pos (nat_abs z)
amount_is (pos n) h = refl
amount_is (negsuc n) h = absurd (false≢true h)

amount_at : {X : Type 0} (f : X → ℤ) (xs : List X) (i : ℕ) (d : X) → i < length xs → AllByRecursion (λ y. is_amount (f y) ≡ true) xs → is_amount (f (get_or xs i d)) ≡ true
amount_at f [] i d l a = absurd (omega arith)
amount_at f (x ∷ xs) zero d l a = a.0
amount_at f (x ∷ xs) (suc i) d l a = amount_at f xs i d (omega arith) a.1

pub total_more : {X : Type 0} (f : X → ℤ) (xs : List X) (i : ℕ) (x : X) (total amount : ℕ) → AllByRecursion (λ y. is_amount (f y) ≡ true) xs → i < length xs → x ≡ get_or xs i x → amount ≡ nat_abs (f x)
    → (pos total ≡ sum_of f (take i xs)) × (total ≤ i * 2 ^ 40) → (pos (total + amount) ≡ sum_of f (take (i + 1) xs)) × (total + amount ≤ (i + 1) * 2 ^ 40)
total_more f xs i x total amount a l e n t =
    let fine : is_amount (f x) ≡ true = ap (λ y. is_amount (f y)) e ∙ amount_at f xs i x l a in
    let small = amount_small (f x) fine in
    let low : total ≤ i * 2 ^ 40 = t.1 in (
      ap (λ z. z +ℤ pos amount) t.0 ∙ ap (λ z. sum_of f (take i xs) +ℤ z) (ap pos n ∙ sym (amount_is (f x) fine))
          ∙ sym (sum_snoc f (take i xs) x) ∙ ap (sum_of f) (sym (take_more xs i x l ∙ ap (λ y. take i xs ++ y ∷ []) (sym e))),
      omega arith,
    )

pub pins_amounts : (caps : List RcCap) (pins : List PinCap) → AllByRecursion (λ c. is_amount c.cap.0 ≡ true) (caps ++ map charge_of pins) → AllByRecursion (λ p. is_amount p.cap.0 ≡ true) pins
pins_amounts [] [] a = tt
pins_amounts [] (p ∷ pins) a = (a.0, pins_amounts [] pins a.1)
pins_amounts (c ∷ caps) pins a = pins_amounts caps pins a.1

sum_append : {X : Type 0} (f : X → ℤ) (xs ys : List X) → sum_of f (xs ++ ys) ≡ sum_of f xs +ℤ sum_of f ys
sum_append f [] ys = sym (+ℤ_idl (sum_of f ys))
sum_append f (x ∷ xs) ys = ap (λ z. f x +ℤ z) (sum_append f xs ys) ∙ sym (+ℤ_assoc (f x) (sum_of f xs) (sum_of f ys))

sum_charges : (pins : List PinCap) → sum_of (λ c. c.cap.0) (map charge_of pins) ≡ sum_of (λ p. p.cap.0) pins
sum_charges [] = refl
sum_charges (p ∷ pins) = ap (λ z. p.cap.0 +ℤ z) (sum_charges pins)

pub load_is : (net : NetRc) (pins : List PinCap) (lump a b : ℕ) → is_amount net.lump.0 ≡ true → lump ≡ nat_abs net.lump.0 → pos a ≡ sum_of (λ c. c.cap.0) net.caps → pos b ≡ sum_of (λ p. p.cap.0) pins → pos (lump + a + b) ≡ total_load net pins
load_is net pins lump a b fine l x y =
    ap (λ z. z +ℤ pos a +ℤ pos b) (ap pos l ∙ sym (amount_is net.lump.0 fine))
    ∙ ap (λ z. net.lump.0 +ℤ z +ℤ pos b) x ∙ ap (λ z. net.lump.0 +ℤ sum_of (λ c. c.cap.0) net.caps +ℤ z) (y ∙ sym (sum_charges pins))
    ∙ +ℤ_assoc net.lump.0 (sum_of (λ c. c.cap.0) net.caps) (sum_of (λ c. c.cap.0) (map charge_of pins))
    ∙ ap (λ z. net.lump.0 +ℤ z) (sym (sum_append (λ c. c.cap.0) net.caps (map charge_of pins)))

pub ruleset place_finding = (number_inside, place_is)
