-- The launch edge of a clock's port: that of the first clock there, with the port's own transition.

use Rattle.std.proofs.Common.{◌≡◌, ℕ, suc, ◌+◌, Bool, true, false, cond, List, [], ◌∷◌, length, not, Option, None, Some, refl, sym, ap, ◌∙◌, inl, inr, arith}
use Rattle.std.specs.Prelude.{find, slice_get, option_map, ◌&&◌, nat_lt}
use Rattle.std.specs.List.{position, prefix_len, list_any}
use Rattle.std.specs.Option.{option_map_or}
use Rattle.std.proofs.lemmas.Bool.{cases_lt, lt-ltb, le-ltb, or_parts}
use Rattle.timing_defs.specs.declared.kinds.Tran.{Tran}
use Rattle.timing_defs.specs.declared.kinds.Tran.TheVariants.{Rise, Fall}
use Rattle.timing_defs.specs.declared.constraints.Clock.{Clock}
use Rattle.timing_defs.specs.declared.design.Design.{Design}
use Rattle.timing_defs.specs.Netlist.{Node, same_tran}
use Rattle.timing_rules.specs.Rows.{clock_edges, is_clock_at}
use Rattle.timing_rules.specs.Tests.{edge_of_port}
use Rattle.node_tests.specs.Walks.{has_clock}

-- the first place in a list
position_cons : {X : Type 0} (p : X → Bool) (x : X) (xs : List X) → position p (x ∷ xs) ≡ cond (p x) (Some 0) (option_map suc (position p xs))
position_cons p x xs = by (p x) refl
  where
    next : (k n : ℕ) → cond (nat_lt (1 + k) (suc n)) (Some (1 + k)) None ≡ option_map suc (cond (nat_lt k n) (Some k) None)
    next k n = elim (cases_lt k n) [
      | inl low ↦ rw (lt-ltb k n low, lt-ltb (1 + k) (suc n) (omega arith)) (ap Some (let z : 1 + k ≡ suc k = omega arith in z))
      | inr high ↦ rw (le-ltb k n high, le-ltb (1 + k) (suc n) (omega arith)) refl
    ]

    by : (b : Bool) → p x ≡ b → position p (x ∷ xs) ≡ cond b (Some 0) (option_map suc (position p xs))
    by true h = rw h (rw (lt-ltb 0 (length (x ∷ xs)) (omega arith)) refl)
    by false h = rw h (next (prefix_len (λ y. not (p y)) xs) (length xs))

abbrev on_edge : (ℕ → Bool) → Tran → ℕ × Tran → Bool
on_edge at tran edge = at edge.0 && same_tran edge.1 tran

either_edge : (b : Bool) (n : ℕ) (tran : Tran) (at : ℕ → Bool) (edges : List (ℕ × Tran)) → at n ≡ b
    → find (on_edge at tran) ((n, Rise) ∷ (n, Fall) ∷ edges) ≡ cond b (Some (n, tran)) (find (on_edge at tran) edges)
either_edge true n Rise at edges e = rw e refl
either_edge true n Fall at edges e = rw e refl
either_edge false n tran at edges e = rw e refl

found_from : (port : List ℕ) (tran : Tran) (at : ℕ → Bool) (clocks : List Clock) (n : ℕ)
    → ((i : ℕ) → at (n + i) ≡ option_map_or (has_clock port) (slice_get clocks i) false)
    → find (on_edge at tran) (clock_edges n clocks) ≡ option_map {U = ℕ × Tran} (λ i. (n + i, tran)) (position (has_clock port) clocks)
found_from port tran at [] n same = refl
found_from port tran at (c ∷ cs) n same =
    let here : at n ≡ has_clock port c = ap at (let z : n ≡ n + 0 = omega arith in z) ∙ same 0 in
    let rest = found_from port tran at cs (n + 1) (λ i. ap at (let z : n + 1 + i ≡ n + suc i = omega arith in z) ∙ same (suc i)) in
    either_edge (has_clock port c) n tran at (clock_edges (n + 1) cs) here ∙ ap (λ (o : Option (ℕ × Tran)). cond (has_clock port c) (Some (n, tran)) o) rest
    ∙ by (has_clock port c) (position (has_clock port) cs) ∙ ap (option_map {U = ℕ × Tran} (λ i. (n + i, tran))) (sym (position_cons (has_clock port) c cs))
  where
    by : (b : Bool) (o : Option ℕ) → cond {A = Option (ℕ × Tran)} b (Some (n, tran)) (option_map {U = ℕ × Tran} (λ i. (n + 1 + i, tran)) o) ≡ option_map {U = ℕ × Tran} (λ i. (n + i, tran)) (cond b (Some 0) (option_map suc o))
    by true o = let z : n ≡ n + 0 = omega arith in λ k. Some (z k, tran)
    by false None = refl
    by false (Some i) = let z : n + 1 + i ≡ n + suc i = omega arith in λ k. Some (z k, tran)

pub edge_is : (d : Design) (node : Node) → edge_of_port d node ≡ option_map {U = ℕ × Tran} (λ i. (i, node.tran)) (position (has_clock node.pin.own) d.constraints.clocks)
edge_is d node =
    found_from node.pin.own node.tran (λ n. is_clock_at d.constraints.clocks n node.pin.own) d.constraints.clocks 0
    (λ i. ap (λ m. is_clock_at d.constraints.clocks m node.pin.own) (let z : 0 + i ≡ i = omega arith in z))
    ∙ by (position (has_clock node.pin.own) d.constraints.clocks)
  where
    by : (o : Option ℕ) → option_map {U = ℕ × Tran} (λ i. (0 + i, node.tran)) o ≡ option_map {U = ℕ × Tran} (λ i. (i, node.tran)) o
    by None = refl
    by (Some i) = let z : 0 + i ≡ i = omega arith in λ k. Some (z k, node.tran)

pub none_has : {X : Type 0} (p : X → Bool) (xs : List X) → position p xs ≡ None → list_any p xs ≡ false
none_has p [] e = refl
none_has p (x ∷ xs) e = by (p x) refl (sym (position_cons p x xs) ∙ e) (none_has p xs)
  where
    some : (o : Option ℕ) → option_map suc o ≡ None → o ≡ None
    some None f = refl
    some (Some i) f = absurd (cc)

    by : (b : Bool) → p x ≡ b → cond b (Some 0) (option_map suc (position p xs)) ≡ None
        → (position p xs ≡ None → list_any p xs ≡ false) → list_any p (x ∷ xs) ≡ false
    by true h f again = absurd (cc)
    by false h f again = rw h (again (some (position p xs) f))

pub no_place : {X : Type 0} (p : X → Bool) (xs : List X) → list_any p xs ≡ false → position p xs ≡ None
no_place p [] e = refl
no_place p (x ∷ xs) e =
    let parts = or_parts (p x) (list_any p xs) e in
    position_cons p x xs ∙ ap (λ b. cond b (Some 0) (option_map suc (position p xs))) parts.0 ∙ ap (option_map suc) (no_place p xs parts.1)
