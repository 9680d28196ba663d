-- Nets whose pins are listed and whose numbers are within the limit are measured.

use Rattle.std.proofs.Common.{◌≡◌, ℕ, Bool, true, ◌&&◌, List, [], ◌∷◌, ◌++◌, map}
use Rattle.std.specs.List.{AllByRecursion, list_all, flat_map}
use Rattle.std.proofs.lemmas.Bool.{and_parts}
use Rattle.timing_defs.specs.declared.parasitics.RcNode.{RcNode}
use Rattle.timing_defs.specs.declared.parasitics.RcNode.TheVariants.{Pin as rc_pin}
use Rattle.timing_defs.specs.declared.parasitics.RcRes.{RcRes}
use Rattle.timing_defs.specs.declared.parasitics.RcCap.{RcCap}
use Rattle.timing_defs.specs.declared.parasitics.NetRc.{NetRc}
use Rattle.timing_defs.specs.declared.rows.PinCap.{PinCap}
use Rattle.rc_tree.specs.Trees.{is_amount, is_listed_pin, IsMeasured}
use Rattle.kernel_rows.specs.Measures.{are_ends_listed, are_nodes_listed, are_resistances, are_capacitances, are_pins_light, is_named, is_limited}

each : {X : Type 0} (p : X → Bool) (xs : List X) → list_all p xs ≡ true → AllByRecursion (λ x. p x ≡ true) xs
each p [] h = tt
each p (x ∷ xs) h = let s = and_parts (p x) (list_all p xs) h in (s.0, each p xs s.1)

ends_listed : (pins : List PinCap) (ress : List RcRes) (rest : List RcNode) → are_ends_listed pins ress ≡ true → AllByRecursion (λ node. is_listed_pin pins node ≡ true) rest
    → AllByRecursion (λ node. is_listed_pin pins node ≡ true) (flat_map (λ r. r.a ∷ r.b ∷ []) ress ++ rest)
ends_listed pins [] rest h more = more
ends_listed pins (r ∷ ress) rest h more =
    let s = and_parts (is_listed_pin pins r.a && is_listed_pin pins r.b) (are_ends_listed pins ress) h in
    let e = and_parts (is_listed_pin pins r.a) (is_listed_pin pins r.b) s.0 in
    (e.0, (e.1, ends_listed pins ress rest s.1 more))

nodes_listed : (pins : List PinCap) (caps : List RcCap) → are_nodes_listed pins caps ≡ true → AllByRecursion (λ node. is_listed_pin pins node ≡ true) (map (λ c. c.node) caps)
nodes_listed pins [] h = tt
nodes_listed pins (c ∷ caps) h =
    let s = and_parts (is_listed_pin pins c.node) (are_nodes_listed pins caps) h in
    (s.0, nodes_listed pins caps s.1)

pins_light : (pins : List PinCap) → are_pins_light pins ≡ true → AllByRecursion (λ (c : RcCap). is_amount c.cap.0 ≡ true) (map (λ p. record { node = rc_pin p.pin; cap = p.cap }) pins)
pins_light [] h = tt
pins_light (p ∷ pins) h =
    let s = and_parts (is_amount p.cap.0) (are_pins_light pins) h in
    (s.0, pins_light pins s.1)

both : {X : Type 0} (P : X → Type 0) (xs ys : List X) → AllByRecursion P xs → AllByRecursion P ys → AllByRecursion P (xs ++ ys)
both P [] ys a b = b
both P (x ∷ xs) ys a b = (a.0, both P xs ys a.1 b)

pub measured : (net : NetRc) (root : List ℕ) (pins : List PinCap) → is_named net root pins ≡ true → is_limited net pins ≡ true → IsMeasured net root pins
measured net root pins named limited =
    let n = and_parts (are_ends_listed pins net.ress && are_nodes_listed pins net.caps) (is_listed_pin pins (rc_pin root)) named in
    let l = and_parts (are_ends_listed pins net.ress) (are_nodes_listed pins net.caps) n.0 in
    let w = and_parts (are_resistances net.ress && are_capacitances net.caps) (are_pins_light pins && is_amount net.lump.0) limited in
    let r = and_parts (are_resistances net.ress) (are_capacitances net.caps) w.0 in
    let p = and_parts (are_pins_light pins) (is_amount net.lump.0) w.1 in
    record {
      named = ends_listed pins net.ress (map (λ c. c.node) net.caps) l.0 (nodes_listed pins net.caps l.1);
      rooted = n.1;
      resistances = each (λ (r : RcRes). is_amount r.res.0) net.ress r.0;
      caps = both (λ (c : RcCap). is_amount c.cap.0 ≡ true) net.caps (map (λ p. record { node = rc_pin p.pin; cap = p.cap }) pins) (each (λ (c : RcCap). is_amount c.cap.0) net.caps r.1) (pins_light pins p.0);
      lump = p.1;
    }
