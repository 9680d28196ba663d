-- The nodes of a net with parasitics, over the pins on it by their numbers.

use Rattle.std.proofs.Common.{◌≡◌, ℕ, ◌+◌, ◌*◌, ◌<◌, ◌≤◌, Bool, true, false, List, [], ◌∷◌, ◌++◌, map, filter, length, get_or, take, Option, None, Some, refl, sym, ap, ◌∙◌, arith}
use Rattle.std.specs.Prelude.{is_some, option_and_then, ◌||◌, Contains, if◌then◌else◌}
use Rattle.std.specs.Option.{option_map_or, unwrap_or}
use Rattle.std.specs.Str.{bytes_eq}
use Rattle.std.proofs.lemmas.Bool.{false≢true, ne_eqb, eq-eqb}
use Rattle.std.proofs.lemmas.List.{length-map, map-append, take_more}
use Rattle.timing_defs.specs.declared.parasitics.RcNode.{RcNode}
use Rattle.timing_defs.specs.declared.parasitics.RcNode.TheVariants.{Pin as rc_pin, Inner as rc_inner}
use Rattle.timing_defs.specs.declared.parasitics.NetRc.{NetRc}
use Rattle.timing_defs.specs.Netlist.{Pin, name_of, pins, is_on, is_listed}
use Rattle.timing_defs.specs.Wires.{rc_of, is_lumped, root_node}
use Rattle.timing_defs.specs.NetChecks.{nodes_of_rc, different}
use Rattle.netlist_store.specs.Linked.{IsLinked}
use Rattle.netlist_store.specs.Numbering.{Stored, name_at, pin_numbered, IsNumbered}
use Rattle.design_link.specs.Failing.{IsRcOf, rc_that}
use Rattle.design_link.specs.Nodes.{is_node, HaveSameNodes}
use Rattle.timing_defs.proofs.SameNames.{same_is}
use Rattle.timing_defs.proofs.Members.{first_in, later_in, found_passes}
use Rattle.store_pins.proofs.PinLaws.{pin_at_number}
use Rattle.design_link.proofs.NetPinLaws.{called, ArePinsOn, on_listed}
use Rattle.design_link.proofs.NodeLaws.{nodes_append, few_nodes}

-- a pin as a node
abbrev pub pin_node : Stored → ℕ → RcNode
pin_node s n = rc_pin (called s n)

pub node_at_number : (s : Stored) (n : ℕ) (name : List ℕ) → name_at s.pins n ≡ Some name → rc_pin name ≡ pin_node s n
node_at_number s n name e = ap rc_pin (sym (ap (λ o. unwrap_or o []) e))

-- one pin of a net more
pub pin_nodes_more : (s : Stored) (items : List ℕ) (i : ℕ) (name : List ℕ) (mid new : List RcNode) → i < length items → name_at s.pins (get_or items i 0) ≡ Some name
    → HaveSameNodes mid (map (pin_node s) (take i items)) → HaveSameNodes new (mid ++ rc_pin name ∷ []) → HaveSameNodes new (map (pin_node s) (take (i + 1) items))
pin_nodes_more s items i name mid new low here had put q =
    put q ∙ nodes_append mid (rc_pin name ∷ []) q ∙ ap (λ b. b || is_node (rc_pin name ∷ []) q) (had q)
    ∙ sym (nodes_append (map (pin_node s) (take i items)) (rc_pin name ∷ []) q)
    ∙ ap (λ ns. is_node ns q) (ap (λ n. map (pin_node s) (take i items) ++ n ∷ []) (node_at_number s (get_or items i 0) name here)
    ∙ sym (map-append (pin_node s) (take i items) (get_or items i 0 ∷ [])) ∙ ap (map (pin_node s)) (sym (take_more items i 0 low)))

-- whether a net is lumped, by the count of its resistors
pub not_lumped : (rc : NetRc) (xs : List RcNode) → 0 < length rc.ress → [] ≡ (if is_lumped rc then xs else [])
not_lumped rc xs some = sym (ap (λ b. if b then xs else []) (ne_eqb (length rc.ress) 0 (λ e. omega (arith, e, some))))

pub lumped_nodes : (rc : NetRc) (xs : List RcNode) → length rc.ress ≤ 0 → xs ≡ (if is_lumped rc then xs else [])
lumped_nodes rc xs none = sym (ap (λ b. if b then xs else []) (eq-eqb (length rc.ress) 0 (omega arith)))

pub lumped_or : (rc : NetRc) (xs ys : List RcNode) → (if is_lumped rc then xs ++ ys else ys) ≡ (if is_lumped rc then xs else []) ++ ys
lumped_or rc xs ys = by (is_lumped rc)
  where
    by : (b : Bool) → (if b then xs ++ ys else ys) ≡ (if b then xs else []) ++ ys
    by true = refl
    by false = refl

-- the net of a number has these parasitics
pub record IsRcNet (s : Stored) (net : ℕ) (rc : NetRc) : Type 0 where
  pub here : name_at s.nets net ≡ Some rc.net
  pub found : rc_of s.design rc.net ≡ Some rc

pub rc_net : (s : Stored) (net : ℕ) (rc : NetRc) → IsRcOf s net rc → IsRcNet s net rc
rc_net s net rc e = by (name_at s.nets net) refl
  where
    by : (o : Option (List ℕ)) → name_at s.nets net ≡ o → IsRcNet s net rc
    by None h = absurd (false≢true (ap is_some (sym (ap (option_and_then (rc_of s.design)) h) ∙ e)))
    by (Some name) h =
        let f : rc_of s.design name ≡ Some rc = sym (ap (option_and_then (rc_of s.design)) h) ∙ e in
        let same : rc.net ≡ name = same_is rc.net name (found_passes (λ (r : NetRc). bytes_eq r.net name) s.design.rcs rc f) in
        record { here = h ∙ ap Some (sym same); found = ap (rc_of s.design) same ∙ f }

pin_in : (names : List (List ℕ)) (name : List ℕ) → is_node (map rc_pin names) (rc_pin name) ≡ is_listed names name
pin_in [] name = refl
pin_in (n ∷ ns) name = ap (λ b. bytes_eq name n || b) (pin_in ns name)

no_inner : (names : List (List ℕ)) (k : ℕ) → is_node (map rc_pin names) (rc_inner k) ≡ false
no_inner [] k = refl
no_inner (n ∷ ns) k = no_inner ns k

same_pin_nodes : (xs ys : List (List ℕ)) → ((q : List ℕ) → is_listed xs q ≡ is_listed ys q) → HaveSameNodes (map rc_pin xs) (map rc_pin ys)
same_pin_nodes xs ys h (rc_pin name) = pin_in xs name ∙ h name ∙ sym (pin_in ys name)
same_pin_nodes xs ys h (rc_inner k) = no_inner xs k ∙ sym (no_inner ys k)

map_both : {X Y Z : Type 0} (g : Y → Z) (f : X → Y) (xs : List X) → map (λ x. g (f x)) xs ≡ map g (map f xs)
map_both g f [] = refl
map_both g f (x ∷ xs) = ap (λ zs. g (f x) ∷ zs) (map_both g f xs)

all_kept : {X : Type 0} (p : X → Bool) (xs : List X) → ((x : X) → Contains xs x → p x ≡ true) → filter p xs ≡ xs
all_kept p [] h = refl
all_kept p (x ∷ xs) h = let e = h x (first_in x xs) in rw e (ap (λ ys. x ∷ ys) (all_kept p xs (λ y c. h y (later_in x xs y c))))

module _ (s : Stored) (num : IsNumbered s) (linked : IsLinked s.design) where
  -- the pins on a net by their numbers are those of the design
  pub on_nodes : (net : ℕ) (name : List ℕ) (items : List ℕ) → name_at s.nets net ≡ Some name → ArePinsOn s net items
      → HaveSameNodes (map (pin_node s) items) (map root_node (filter (is_on name) (pins s.design)))
  on_nodes net name items here on q =
      ap (λ ns. is_node ns q) (map_both rc_pin (called s) items)
      ∙ same_pin_nodes (map (called s) items) (map name_of (filter (is_on name) (pins s.design)))
      (λ n. ap (λ xs. is_listed (map (called s) xs) n) (sym (all_kept (λ m. option_map_or (λ (p : Pin). true) (pin_numbered s m) false) items each))
      ∙ on_listed s num linked net name items here on (λ (p : Pin). true) n) q
      ∙ ap (λ ns. is_node ns q) (sym (map_both rc_pin name_of (filter (is_on name) (pins s.design))))
    where
      each : (m : ℕ) → Contains items m → option_map_or (λ (p : Pin). true) (pin_numbered s m) false ≡ true
      each m c = let h = pin_at_number s num linked m (on.numbers m c) in ap (λ o. option_map_or (λ (p : Pin). true) o false) h.1.pin

  -- where there is little of all there are few nodes
  pub few_on_net : (net most : ℕ) (rc : NetRc) (items : List ℕ) → IsRcOf s net rc → ArePinsOn s net items → length items ≤ most → length rc.ress ≤ most
      → length rc.caps ≤ most → different [] (nodes_of_rc s.design rc) ≤ 4 * most
  few_on_net net most rc items e on a b c = by (is_lumped rc) refl
    where
      r : IsRcNet s net rc
      r = rc_net s net rc e

      by : (t : Bool) → is_lumped rc ≡ t → different [] (nodes_of_rc s.design rc) ≤ 4 * most
      by true h =
          rw h (few_nodes rc (map root_node (filter (is_on rc.net) (pins s.design))) (map (pin_node s) items) most
          (λ q. sym (on_nodes net rc.net items r.here on q)) (let l = length-map items (pin_node s) in omega arith) b c)
      by false h = rw h (few_nodes rc [] [] most (λ q. refl) (omega arith) b c)

-- the parasitics of a net pass a test or not
pub rc_test : (s : Stored) (test : NetRc → Bool) (net : ℕ) (rc : NetRc) → IsRcOf s net rc → test rc ≡ option_map_or (rc_that test s.design) (name_at s.nets net) false
rc_test s test net rc e =
    let r = rc_net s net rc e in
    sym (ap (λ o. option_map_or (rc_that test s.design) o false) r.here ∙ ap (λ o. option_map_or test o false) r.found)

pub no_rc_test : (s : Stored) (test : NetRc → Bool) (net : ℕ) → option_and_then (rc_of s.design) (name_at s.nets net) ≡ None
    → false ≡ option_map_or (rc_that test s.design) (name_at s.nets net) false
no_rc_test s test net e = by (name_at s.nets net) e
  where
    by : (o : Option (List ℕ)) → option_and_then (rc_of s.design) o ≡ None → false ≡ option_map_or (rc_that test s.design) o false
    by None h = refl
    by (Some name) h = sym (ap (λ o. option_map_or test o false) h)
