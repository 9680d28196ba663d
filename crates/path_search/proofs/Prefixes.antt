-- A timing path goes over the clock network first: its network nodes are the one walk to the last of them.

use Rattle.std.proofs.Common.{◌≡◌, ℕ, zero, suc, Bool, true, false, List, [], ◌∷◌, ◌++◌, length, Option, None, Some, refl, sym, ap, subst, ◌∙◌, inl, inr}
use Rattle.std.specs.Prelude.{Contains, ◌||◌, if◌then◌else◌}
use Rattle.std.specs.List.{list_any}
use Rattle.std.specs.Option.{option_map_or}
use Rattle.std.proofs.lemmas.Bool.{cases_Bool, false≢true, and_parts}
use Rattle.std.proofs.lemmas.List.{append_assoc, append-nil}
use Rattle.timing_defs.specs.declared.kinds.Dir.{Dir}
use Rattle.timing_defs.specs.declared.kinds.Dir.TheVariants.{Input, Output}
use Rattle.timing_defs.specs.declared.design.Design.{Design}
use Rattle.timing_defs.specs.Netlist.{Pin, Node, pins, nodes, net_of, is_driver, drives_as}
use Rattle.timing_defs.specs.Wires.{first_some}
use Rattle.timing_rules.specs.Clocking.{is_network, is_clock_port, is_clock_pin, clocks_cell, driver_on, sinks_on, comb_before, comb_after, pins_before, pins_after, from_clock, to_register}
use Rattle.timing_rules.specs.Rows.{arcs_in}
use Rattle.timing_rules.specs.Tests.{walk_within, network_walk}
use Rattle.timing_rules.proofs.RowLaws.{first_in, later_in}
use Rattle.timing_defs.proofs.Members.{some_is, none_in}
use Rattle.pin_graph.proofs.JoinLaws.{mapped_back}
use Rattle.node_tests.proofs.OneBefore.{port_first, one_before, before_network}
use Rattle.path_search.specs.Runs.{IsNext, AreSteps, end_of, longer, IsTimed, IsNetworkWalk}

module _ {X Y : Type 0} (f : X → Option Y) where
  first_none : (a : X) (xs : List X) → ((x : X) → Contains xs x → x ≡ a) → f a ≡ None → first_some f xs ≡ None
  first_none a [] all e = refl
  first_none a (x ∷ xs) all e =
      ap (λ o. option_map_or Some o (first_some f xs)) (ap f (all x (first_in x xs)) ∙ e) ∙ first_none a xs (λ y c. all y (later_in x xs y c)) e

  first_same : (a : X) (xs : List X) → Contains xs a → ((x : X) → Contains xs x → x ≡ a) → first_some f xs ≡ f a
  first_same a [] c all = absurd (none_in a c)
  first_same a (x ∷ xs) c all = by (f a) refl
    where
      by : (o : Option Y) → f a ≡ o → first_some f (x ∷ xs) ≡ f a
      by None e = first_none a (x ∷ xs) all e ∙ sym e
      by (Some y) e = ap (λ o. option_map_or Some o (first_some f xs)) (ap f (all x (first_in x xs)) ∙ e) ∙ sym e

  -- the first value is that of an item
  pub first_back : (xs : List X) (y : Y) → first_some f xs ≡ Some y → (x : X) × Contains xs x × (f x ≡ Some y)
  first_back [] y e = absurd (cc)
  first_back (x ∷ xs) y e = by (f x) refl e (first_back xs y)
    where
      by : (o : Option Y) → f x ≡ o → option_map_or Some o (first_some f xs) ≡ Some y → (first_some f xs ≡ Some y → (z : X) × Contains xs z × (f z ≡ Some y))
          → (z : X) × Contains (x ∷ xs) z × (f z ≡ Some y)
      by None h g again = let r = again g in (r.0, later_in x xs r.0 r.1, r.2)
      by (Some w) h g again = (x, first_in x xs, h ∙ g)

-- a network pin that is a port is a clock's port
never : (d : Design) (n : ℕ) (p : Pin) → is_clock_port d p ≡ false → pins_before d p ≡ [] → from_clock d n p ≡ false
never d zero p e none = e
never d (suc n) p e none = (λ k. e k || list_any (from_clock d n) (none k))

never_out : (d : Design) (n : ℕ) (p : Pin) → is_clock_pin d p ≡ false → pins_after d p ≡ [] → to_register d n p ≡ false
never_out d zero p e none = e
never_out d (suc n) p e none = (λ k. e k || list_any (to_register d n) (none k))

network_both : (d : Design) (p : Pin) → is_network d p ≡ true → (from_clock d (length (pins d)) p ≡ true) × (to_register d (length (pins d)) p ≡ true)
unfolding is_network
network_both d p net = and_parts (from_clock d (length (pins d)) p) (to_register d (length (pins d)) p) net

pub network_port : (d : Design) (p : Pin) → is_network d p ≡ true → p.owner ≡ None → is_clock_port d p ≡ true
network_port d p net own = elim (cases_Bool (is_clock_port d p)) [
  | inl e ↦ e
  | inr e ↦ absurd (by p.dir refl e)
]
  where
    both : (from_clock d (length (pins d)) p ≡ true) × (to_register d (length (pins d)) p ≡ true)
    both = network_both d p net

    by : (dir : Dir) → p.dir ≡ dir → is_clock_port d p ≡ false → ⊥
    by Input at e =
        let drives : is_driver p ≡ true = λ k. drives_as (own k) (at k) in
        let none : pins_before d p ≡ [] = ap (λ (b : Bool). if b then option_map_or (comb_before d p) p.owner [] else driver_on d (net_of p)) drives
        ∙ ap (λ o. option_map_or (comb_before d p) o []) own in
        false≢true (sym (never d (length (pins d)) p e none) ∙ both.0)
    by Output at e =
        let drives : is_driver p ≡ false = λ k. drives_as (own k) (at k) in
        let none : pins_after d p ≡ [] = λ k. (if drives k then sinks_on d (net_of p) else []) ++ option_map_or (comb_after d p) (own k) [] in
        let pin : is_clock_pin d p ≡ false = ap (λ o. option_map_or (clocks_cell d p.own) o false) own in
        false≢true (sym (never_out d (length (pins d)) p pin none) ∙ both.1)

pub end_more : (n : Node) (ms : List Node) (m : Node) → end_of n (ms ++ m ∷ []) ≡ m
end_more n [] m = refl
end_more n (x ∷ xs) m = end_more x xs m

pub steps_more : (d : Design) (n : Node) (ms : List Node) (m : Node) → AreSteps d n ms → IsNext d (end_of n ms) m → AreSteps d n (ms ++ m ∷ [])
steps_more d n [] m s e = (e, tt)
steps_more d n (x ∷ xs) m s e = (s.0, steps_more d x xs m s.1 e)

network_only : (d : Design) (n : Node) (w : List Node) → network_walk d n ≡ Some w → (is_network d n.pin ≡ true) × (walk_within d (length (nodes d)) n ≡ Some w)
unfolding network_walk
network_only d n w e = by (is_network d n.pin) e
  where
    by : (b : Bool) → (if b then walk_within d (length (nodes d)) n else None) ≡ Some w → (b ≡ true) × (walk_within d (length (nodes d)) n ≡ Some w)
    by true h = (refl, h)
    by false h = absurd (cc)

pub off_walk : (d : Design) (n : Node) → is_network d n.pin ≡ false → network_walk d n ≡ None
unfolding network_walk
off_walk d n e = ap (λ (b : Bool). if b then walk_within d (length (nodes d)) n else None) e

module _ (d : Design) (t : IsTimed d) where
  -- nothing leads to a clock's port
  pub later_port : (n from : Node) → Contains (arcs_in d n) from → is_clock_port d n.pin ≡ false
  later_port n from c = elim (cases_Bool (is_clock_port d n.pin)) [
    | inr e ↦ e
    | inl e ↦ absurd (none_in from (subst (λ (xs : List Node). Contains xs from) (port_first d n e) c))
  ]

  -- an arc into the network comes from the network, and from one node alone
  pub from_network : (n from : Node) → Contains (pins d) n.pin → is_network d n.pin ≡ true → Contains (arcs_in d n) from → is_network d from.pin ≡ true
  from_network n from there net c = before_network d t.tree n there net (later_port n from c) from c

  pub from_one : (n from : Node) → Contains (pins d) n.pin → is_network d n.pin ≡ true → Contains (arcs_in d n) from → (x : Node) → Contains (arcs_in d n) x → x ≡ from
  from_one n from there net c x e = one_before d t.tree n there net (later_port n from c) x from e c

  walk_within_is : (n : Node) → is_network d n.pin ≡ true → network_walk d n ≡ walk_within d (length (nodes d)) n
  unfolding network_walk
  walk_within_is n net = ap (λ (b : Bool). if b then walk_within d (length (nodes d)) n else None) net

  module _ (n : Node) (there : Contains (pins d) n.pin) (net : is_network d n.pin ≡ true) where
    pub walk_starts : is_clock_port d n.pin ≡ true → network_walk d n ≡ Some (n ∷ [])
    walk_starts e =
        walk_within_is n net ∙ t.walked n there
        ∙ ap (λ (b : Bool). if b then Some (n ∷ []) else first_some (λ from. longer n (walk_within d (length (nodes d)) from)) (arcs_in d n)) e

    -- the walk to a network node is that to the node before it, and the node
    pub walk_more : (from : Node) → Contains (arcs_in d n) from → network_walk d n ≡ longer n (network_walk d from)
    walk_more from c =
        walk_within_is n net ∙ t.walked n there
        ∙ ap (λ (b : Bool). if b then Some (n ∷ []) else first_some (λ f. longer n (walk_within d (length (nodes d)) f)) (arcs_in d n)) (later_port n from c)
        ∙ first_same (λ f. longer n (walk_within d (length (nodes d)) f)) from (arcs_in d n) c (from_one n from there net c)
        ∙ ap (longer n) (sym (walk_within_is from (from_network n from there net c)))

  within_told : (k : ℕ) (n : Node) → Contains (pins d) n.pin → is_network d n.pin ≡ true → (w : List Node) → walk_within d k n ≡ Some w → IsNetworkWalk d w n
  within_told zero n there net w e = absurd (cc)
  within_told (suc k) n there net w e =
      by (λ x inside its v f. within_told k x inside its v f) (is_clock_port d n.pin) refl e
    where
      by : ((x : Node) → Contains (pins d) x.pin → is_network d x.pin ≡ true → (v : List Node) → walk_within d k x ≡ Some v → IsNetworkWalk d v x) → (b : Bool) → is_clock_port d n.pin ≡ b → (if b then Some (n ∷ []) else first_some (λ from. longer n (walk_within d k from)) (arcs_in d n)) ≡ Some w → IsNetworkWalk d w n
      by again true port h = record { first = n; rest = []; begins = sym (some_is h); port = port; network = net; within = there; steps = tt; ends = refl }
      by again false port h =
          let x = first_back (λ from. longer n (walk_within d k from)) (arcs_in d n) w h in
          let m = mapped_back (λ v. v ++ n ∷ []) (walk_within d k x.0) w x.2 in
          let r = again x.0 (t.before n there x.0 x.1) (from_network n x.0 there net x.1) m.0 m.1 in
          let arc : IsNext d (end_of r.first r.rest) n = record { within = there; network = net; arc = subst (λ (y : Node). Contains (arcs_in d n) y) (sym r.ends) x.1 } in
          record {
            first = r.first;
            rest = r.rest ++ n ∷ [];
            begins = sym m.2 ∙ ap (λ (xs : List Node). xs ++ n ∷ []) r.begins;
            port = r.port;
            network = r.network;
            within = r.within;
            steps = steps_more d r.first r.rest n r.steps arc;
            ends = end_more r.first r.rest n;
          }

  -- the walk to a network node goes from a clock port's node over nodes of the network, each joined to the next
  pub walk_is_told : (n : Node) → Contains (pins d) n.pin → (w : List Node) → network_walk d n ≡ Some w → IsNetworkWalk d w n
  walk_is_told n there w e = let h = network_only d n w e in within_told (length (nodes d)) n there h.0 w h.1

  pub walk_on : (n : Node) (w : List Node) → network_walk d n ≡ Some w → is_network d n.pin ≡ true
  walk_on n w e = (network_only d n w e).0

  -- and each such list is the walk
  steps_walk : (n : Node) (ms w : List Node) → AreSteps d n ms → network_walk d n ≡ Some w → network_walk d (end_of n ms) ≡ Some (w ++ ms)
  steps_walk n [] w s e = e ∙ ap Some (sym (append-nil w))
  steps_walk n (m ∷ ms) w s e =
      steps_walk m ms (w ++ m ∷ []) s.1 (walk_more m s.0.within s.0.network n s.0.arc ∙ ap (longer m) e) ∙ ap Some (append_assoc w (m ∷ []) ms)

  pub walk_of_steps : (n : Node) (ms : List Node) → Contains (pins d) n.pin → is_network d n.pin ≡ true → is_clock_port d n.pin ≡ true → AreSteps d n ms
      → network_walk d (end_of n ms) ≡ Some (n ∷ ms)
  walk_of_steps n ms there net port s = steps_walk n ms (n ∷ []) s (walk_starts n there net port)

  pub walk_unique : (n : Node) (ms w : List Node) → Contains (pins d) n.pin → is_network d n.pin ≡ true → is_clock_port d n.pin ≡ true → AreSteps d n ms
      → network_walk d (end_of n ms) ≡ Some w → w ≡ n ∷ ms
  walk_unique n ms w there net port s e = some_is (sym e ∙ walk_of_steps n ms there net port s)
