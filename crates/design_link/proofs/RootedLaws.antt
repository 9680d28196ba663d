-- Trees of resistors from a root, by what a tree of the net tells.

use Rattle.std.proofs.Common.{◌≡◌, ℕ, ◌<◌, ℤ, pos, negsuc, Bool, true, false, not, ◌&&◌, ◌||◌, List, [], ◌∷◌, ◌++◌, map, length, Option, None, Some, refl, sym, ap, ◌∙◌, inl, inr, append_assoc, append-nil}
use Rattle.std.specs.Prelude.{is_some, int_le, if◌then◌else◌}
use Rattle.std.specs.List.{AllByRecursion, list_any, list_all, filter_map, flat_map}
use Rattle.std.proofs.lemmas.Bool.{cases_lt, false≢true, true≢false, and_parts, or_left, or_right, le-ltb, lt-leb, eq-eqb, ne_eqb}
use Rattle.std.proofs.lemmas.List.{map-append}
use Rattle.std.proofs.lemmas.List.Elements.{filter_map-append}
use Rattle.std.proofs.lemmas.Grind.{flat_map-append}
use Rattle.sta_units.specs.Numbers.{limit}
use Rattle.timing_defs.specs.declared.parasitics.RcNode.{RcNode}
use Rattle.timing_defs.specs.declared.parasitics.RcNode.TheVariants.{Pin as rc_pin, Inner as rc_inner}
use Rattle.timing_defs.specs.declared.parasitics.RcCap.{RcCap}
use Rattle.timing_defs.specs.declared.parasitics.RcRes.{RcRes}
use Rattle.timing_defs.specs.declared.parasitics.NetRc.{NetRc}
use Rattle.timing_defs.specs.declared.rows.PinCap.{PinCap}
use Rattle.timing_defs.specs.Wires.{same_rc, path_between, is_lumped}
use Rattle.timing_defs.specs.NetChecks.{named_nodes, has_cycle}
use Rattle.timing_defs.specs.Documents.{is_amount as is_told_amount, is_net_rc}
use Rattle.rc_tree.specs.declared.faults.RcFault.{RcFault}
use Rattle.rc_tree.specs.declared.faults.RcFault.TheVariants.{Loop, Unreached, TooLarge, OutOfRange}
use Rattle.rc_tree.specs.Trees.{is_amount, is_listed_pin, is_too_large, is_out_of_range, rc_fault, IsFaultOf, IsMeasured}
use Rattle.rc_tree.proofs.Routes.{all_append, all_more}
use Rattle.design_link.specs.Rooted.{bare, bare_pin, bare_pins, is_rooted, rooted_by}
use Rattle.timing_defs.proofs.SameNames.{same_self}

-- amounts
amount_is : (x : ℤ) → is_told_amount x ≡ true → is_amount x ≡ true
amount_is (negsuc n) e = absurd (false≢true e)
amount_is (pos n) e = elim (cases_lt limit n) [
  | inl more ↦ absurd (false≢true (sym (high n more) ∙ e))
  | inr less ↦ ap not (le-ltb limit n less)
]
  where
    -- beyond the limit
    high : (m : ℕ) → limit < m → is_told_amount (pos m) ≡ false
    high m more = ap (λ t. int_le (pos 0) (pos m) && t) (lt-leb m limit more) ∙ none (int_le (pos 0) (pos m))
      where
        none : (b : Bool) → (b && false) ≡ false
        none true = refl
        none false = refl

amounts : {X : Type 0} (of : X → ℤ) (xs : List X) → list_all (λ x. is_told_amount (of x)) xs ≡ true → AllByRecursion (λ x. is_amount (of x) ≡ true) xs
amounts of [] e = tt
amounts of (x ∷ xs) e =
    let parts = and_parts (is_told_amount (of x)) (list_all (λ y. is_told_amount (of y)) xs) e in
    (amount_is (of x) parts.0, amounts of xs parts.1)

-- the pins that a net names are in the list
listed_later : (p : PinCap) (ps : List PinCap) (node : RcNode) → is_listed_pin ps node ≡ true → is_listed_pin (p ∷ ps) node ≡ true
listed_later p ps (rc_pin name) e = or_right (same_rc (rc_pin name) (rc_pin p.pin)) (list_any (λ q. same_rc (rc_pin name) (rc_pin q.pin)) ps) e
listed_later p ps (rc_inner k) e = refl

all_listed : (ns : List RcNode) → AllByRecursion (λ node. is_listed_pin (filter_map bare_pin ns) node ≡ true) ns
all_listed [] = tt
all_listed (rc_pin name ∷ ns) = (
  or_left (same_rc (rc_pin name) (rc_pin name)) _ (same_self name),
  all_more (λ node. is_listed_pin (filter_map bare_pin ns) node ≡ true) (λ node. is_listed_pin (bare name ∷ filter_map bare_pin ns) node ≡ true)
      (λ node e. listed_later (bare name) (filter_map bare_pin ns) node e) ns (all_listed ns),
)
all_listed (rc_inner k ∷ ns) = (refl, all_listed ns)

no_amounts : (ps : List PinCap) → AllByRecursion (λ (p : PinCap). p.cap.0 ≡ pos 0) ps
    → AllByRecursion (λ (c : RcCap). is_amount c.cap.0 ≡ true) (map (λ (p : PinCap). record { node = rc_pin p.pin; cap = p.cap }) ps)
no_amounts [] e = tt
no_amounts (p ∷ ps) e = (ap is_amount e.0, no_amounts ps e.1)

bare_zero : (ns : List RcNode) → AllByRecursion (λ (p : PinCap). p.cap.0 ≡ pos 0) (filter_map bare_pin ns)
bare_zero [] = tt
bare_zero (rc_pin name ∷ ns) = (refl, bare_zero ns)
bare_zero (rc_inner k ∷ ns) = bare_zero ns

module _ (rc : NetRc) (root : List ℕ) where
  pub measured : is_net_rc rc ≡ true → IsMeasured rc root (bare_pins rc root)
  measured e =
      let one = and_parts (list_all (λ c. is_told_amount c.cap.0) rc.caps && list_all (λ r. is_told_amount r.res.0) rc.ress) (is_told_amount rc.lump.0) e in
      let two = and_parts (list_all (λ c. is_told_amount c.cap.0) rc.caps) (list_all (λ r. is_told_amount r.res.0) rc.ress) one.0 in
      record {
        named =
            all_more (λ node. is_listed_pin (filter_map bare_pin (named_nodes rc)) node ≡ true) (λ node. is_listed_pin (bare_pins rc root) node ≡ true)
            (λ node h. listed_later (bare root) (filter_map bare_pin (named_nodes rc)) node h) (named_nodes rc) (all_listed (named_nodes rc));
        rooted = or_left (same_rc (rc_pin root) (rc_pin root)) _ (same_self root);
        resistances = amounts (λ (r : RcRes). r.res.0) rc.ress two.1;
        caps =
            all_append (λ (c : RcCap). is_amount c.cap.0 ≡ true) rc.caps (map (λ (p : PinCap). record { node = rc_pin p.pin; cap = p.cap }) (bare_pins rc root))
            (amounts (λ (c : RcCap). c.cap.0) rc.caps two.0) (no_amounts (bare_pins rc root) (refl, bare_zero (named_nodes rc)));
        lump = amount_is rc.lump.0 one.1;
      }

-- the first fault, by whether the net is lumped, has a cycle, reaches all, has many nodes, and is out of range
abbrev late : Bool → Bool → Option RcFault
late c d = (if c then Some TooLarge else (if d then Some OutOfRange else None))

abbrev told_by : Bool → Bool → Bool → Option RcFault → Option RcFault
told_by l a b rest = (if a then Some Loop else (if not l && not b then Some Unreached else rest))

told_none : (a b : Bool) (rest : Option RcFault) → told_by false a b rest ≡ None → true ≡ (not a && b)
told_none true b rest e = absurd (true≢false (ap is_some e))
told_none false true rest e = refl
told_none false false rest e = absurd (true≢false (ap is_some e))

one_is : {X : Type 0} {x y : X} → Some x ≡ Some y → x ≡ y
one_is e = cc

told_some : (a b c d : Bool) (fault : RcFault) (r : Bool) → told_by false a b (late c d) ≡ Some fault → Some r ≡ rooted_by fault → r ≡ (not a && b)
told_some true b c d fault r e h = one_is (h ∙ ap rooted_by (sym (one_is e)))
told_some false false c d fault r e h = one_is (h ∙ ap rooted_by (sym (one_is e)))
told_some false true true d fault r e h = one_is (h ∙ ap rooted_by (sym (one_is e)))
told_some false true false true fault r e h = one_is (h ∙ ap rooted_by (sym (one_is e)))
told_some false true false false fault r e h = absurd (false≢true (ap is_some e))

module _ (rc : NetRc) (root : List ℕ) (pins : List PinCap) (lumped : is_lumped rc ≡ false) where
  abbrev reaches : Bool
  reaches = list_all (λ node. is_some (path_between rc.ress (rc_pin root) node)) (named_nodes rc)

  fault_is : rc_fault rc root pins ≡ told_by false (has_cycle rc) reaches (late (is_too_large rc root pins) (is_out_of_range rc root pins))
  fault_is = ap (λ l. told_by l (has_cycle rc) reaches (late (is_too_large rc root pins) (is_out_of_range rc root pins))) lumped

  rooted_is : is_rooted rc root ≡ (not (has_cycle rc) && reaches)
  rooted_is = ap (λ l. l || (not (has_cycle rc) && reaches)) lumped

  -- a tree that is made, and one that is not
  pub made_rooted : rc_fault rc root pins ≡ None → true ≡ is_rooted rc root
  made_rooted e = told_none (has_cycle rc) reaches (late (is_too_large rc root pins) (is_out_of_range rc root pins)) (sym fault_is ∙ e) ∙ sym rooted_is

  pub refused_rooted : (fault : RcFault) (r : Bool) → IsFaultOf rc root pins fault → Some r ≡ rooted_by fault → r ≡ is_rooted rc root
  refused_rooted fault r (inl e) h = let f : Some r ≡ None = h ∙ ap rooted_by e in absurd (true≢false (ap is_some f))
  refused_rooted fault r (inr e) h =
      told_some (has_cycle rc) reaches (is_too_large rc root pins) (is_out_of_range rc root pins) fault r (sym fault_is ∙ e) h ∙ sym rooted_is

-- lumped or not, by the count of resistors
pub few_rooted : (rc : NetRc) (root : List ℕ) → length rc.ress ≡ 0 → true ≡ is_rooted rc root
few_rooted rc root e = sym (or_left (is_lumped rc) _ (eq-eqb (length rc.ress) 0 e))

pub some_lumped : (rc : NetRc) → (length rc.ress ≡ 0 → ⊥) → is_lumped rc ≡ false
some_lumped rc e = ne_eqb (length rc.ress) 0 e

-- the pins of nodes, as they are added
pub inner_added : (node : RcNode) (pins : List PinCap) → bare_pin node ≡ None → pins ≡ pins ++ filter_map bare_pin (node ∷ [])
inner_added node pins e = sym (append-nil pins) ∙ ap (λ xs. pins ++ xs) (sym none)
  where
    none : filter_map bare_pin (node ∷ []) ≡ []
    none = rw e refl

pub both_added : (a b : RcNode) (n0 n1 n2 : List PinCap) → n1 ≡ n0 ++ filter_map bare_pin (a ∷ []) → n2 ≡ n1 ++ filter_map bare_pin (b ∷ []) → n2 ≡ n0 ++ filter_map bare_pin (a ∷ b ∷ [])
both_added a b n0 n1 n2 e f =
    f ∙ ap (λ xs. xs ++ filter_map bare_pin (b ∷ [])) e ∙ append_assoc n0 (filter_map bare_pin (a ∷ [])) (filter_map bare_pin (b ∷ []))
    ∙ ap (λ xs. n0 ++ xs) (sym (filter_map-append bare_pin (a ∷ []) (b ∷ [])))

pub ends_both : (xs ys : List RcRes) → filter_map bare_pin (flat_map (λ r. r.a ∷ r.b ∷ []) (xs ++ ys))
    ≡ filter_map bare_pin (flat_map (λ r. r.a ∷ r.b ∷ []) xs) ++ filter_map bare_pin (flat_map (λ r. r.a ∷ r.b ∷ []) ys)
ends_both xs ys =
    ap (filter_map bare_pin) (flat_map-append (λ (r : RcRes). r.a ∷ r.b ∷ []) xs ys)
    ∙ filter_map-append bare_pin (flat_map (λ (r : RcRes). r.a ∷ r.b ∷ []) xs) (flat_map (λ (r : RcRes). r.a ∷ r.b ∷ []) ys)

pub caps_both : (xs ys : List RcCap) → filter_map bare_pin (map (λ c. c.node) (xs ++ ys)) ≡ filter_map bare_pin (map (λ c. c.node) xs) ++ filter_map bare_pin (map (λ c. c.node) ys)
caps_both xs ys =
    ap (filter_map bare_pin) (map-append (λ (c : RcCap). c.node) xs ys)
    ∙ filter_map-append bare_pin (map (λ (c : RcCap). c.node) xs) (map (λ (c : RcCap). c.node) ys)

pub all_bare : (rc : NetRc) (root : List ℕ) (n0 n1 n2 n3 : List PinCap) → n0 ≡ [] → n1 ≡ n0 ++ bare root ∷ [] → n2 ≡ n1 ++ filter_map bare_pin (flat_map (λ r. r.a ∷ r.b ∷ []) rc.ress)
    → n3 ≡ n2 ++ filter_map bare_pin (map (λ c. c.node) rc.caps) → n3 ≡ bare_pins rc root
all_bare rc root n0 n1 n2 n3 a b c d =
    d ∙ ap (λ xs. xs ++ filter_map bare_pin (map (λ x. x.node) rc.caps))
    (c ∙ ap (λ xs. xs ++ filter_map bare_pin (flat_map (λ r. r.a ∷ r.b ∷ []) rc.ress)) (b ∙ ap (λ xs. xs ++ bare root ∷ []) a))
    ∙ ap (λ xs. bare root ∷ xs) (sym (filter_map-append bare_pin (flat_map (λ r. r.a ∷ r.b ∷ []) rc.ress) (map (λ x. x.node) rc.caps)))
