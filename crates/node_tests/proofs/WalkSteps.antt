-- The walk to a network node is that to the node before it, and the node.

use Rattle.std.proofs.Common.{◌≡◌, ℕ, ◌<◌, Bool, true, false, List, [], ◌∷◌, ◌++◌, length, Option, None, Some, refl, sym, ap, ◌∙◌, arith}
use Rattle.std.specs.Prelude.{Contains, option_map, if◌then◌else◌}
use Rattle.std.specs.Option.{option_map_or}
use Rattle.timing_defs.specs.declared.design.Design.{Design}
use Rattle.timing_defs.specs.Netlist.{Node, nodes}
use Rattle.timing_defs.specs.Wires.{first_some}
use Rattle.timing_rules.specs.Clocking.{is_network, is_clock_port}
use Rattle.timing_rules.specs.Rows.{arcs_in}
use Rattle.timing_rules.specs.Tests.{walk_within, network_walk}
use Rattle.node_tests.specs.Walks.{IsBehind}
use Rattle.timing_rules.proofs.RowLaws.{first_in, later_in, stable, ArePlacedNodes}

-- the first value over a list looks at its items alone
first_agree : {X Y : Type 0} (f g : X → Option Y) (xs : List X) → ((x : X) → Contains xs x → f x ≡ g x) → first_some f xs ≡ first_some g xs
first_agree f g [] same = refl
first_agree f g (x ∷ xs) same = λ k. option_map_or Some (same x (first_in x xs) k) (first_agree f g xs (λ y c. same y (later_in x xs y c)) k)

module _ {X Y : Type 0} (f : X → Option Y) (a : X) where
  first_none : (xs : List X) → ((x : X) → Contains xs x → x ≡ a) → f a ≡ None → first_some f xs ≡ None
  first_none [] all e = refl
  first_none (x ∷ xs) all e =
      ap (λ o. option_map_or Some o (first_some f xs)) (ap f (all x (first_in x xs)) ∙ e) ∙ first_none xs (λ y c. all y (later_in x xs y c)) e

  first_same : (xs : List X) → Contains xs a → ((x : X) → Contains xs x → x ≡ a) → first_some f xs ≡ f a
  first_same [] (i, low, is) all = absurd (omega (arith, low))
  first_same (x ∷ xs) c all = by (f a) refl
    where
      by : (o : Option Y) → f a ≡ o → first_some f (x ∷ xs) ≡ f a
      by None e = first_none (x ∷ xs) all e ∙ sym e
      by (Some y) e = ap (λ o. option_map_or Some o (first_some f xs)) (ap f (all x (first_in x xs)) ∙ e) ∙ sym e

-- one node more at the end of a walk
abbrev pub longer : Node → Option (List Node) → Option (List Node)
longer node walk = option_map (λ w. w ++ node ∷ []) walk

abbrev next : Design → (Node → Option (List Node)) → Node → Option (List Node)
next d f node = (if is_clock_port d node.pin then Some (node ∷ []) else first_some (λ from. longer node (f from)) (arcs_in d node))

next_agree : (d : Design) (f g : Node → Option (List Node)) (to : Node) → ((from : Node) → Contains (arcs_in d to) from → f from ≡ g from) → next d f to ≡ next d g to
next_agree d f g to same =
    ap (λ o. if is_clock_port d to.pin then Some (to ∷ []) else o)
    (first_agree (λ from. longer to (f from)) (λ from. longer to (g from)) (arcs_in d to) (λ from c. ap (longer to) (same from c)))

pub behind_self : (d : Design) (node : Node) → IsBehind d node node
behind_self d node = record { some = λ first rest e. (rest, e); none = λ e. e }

pub behind_more : (d : Design) (a b c : Node) → IsBehind d a b → IsBehind d b c → IsBehind d a c
behind_more d a b c h k = record { some = λ first rest e. (let r = h.some first rest e in k.some first r.0 r.1); none = λ e. k.none (h.none e) }

pub off_network : (d : Design) (n : Node) → is_network d n.pin ≡ false → network_walk d n ≡ None
unfolding network_walk
off_network d n e = rw e refl

module _ (d : Design) (Stands : Node → Type 0) (place : Node → ℕ) (placed : ArePlacedNodes d Stands place) (short : (n : Node) → Stands n → place n < length (nodes d)) where
  walk_is : (n : Node) → Stands n → walk_within d (length (nodes d)) n ≡ next d (walk_within d (length (nodes d))) n
  walk_is n s =
      stable (next d) (arcs_in d) Stands place (λ f g to same. next_agree d f g to same) placed.closed placed.rising (walk_within d) (λ k m. refl)
      (length (nodes d)) n s (short n s)

  module _ (n : Node) (s : Stands n) (here : is_network d n.pin ≡ true) where
    walked : network_walk d n ≡ next d (walk_within d (length (nodes d))) n
    unfolding network_walk
    walked = ap (λ (b : Bool). if b then walk_within d (length (nodes d)) n else None) here ∙ walk_is n s

    pub walk_starts : is_clock_port d n.pin ≡ true → network_walk d n ≡ Some (n ∷ [])
    walk_starts e = walked ∙ ap (λ (b : Bool). if b then Some (n ∷ []) else first_some (λ from. longer n (walk_within d (length (nodes d)) from)) (arcs_in d n)) e

    module _ (later : is_clock_port d n.pin ≡ false) where
      over : network_walk d n ≡ first_some (λ from. longer n (walk_within d (length (nodes d)) from)) (arcs_in d n)
      over = walked ∙ ap (λ (b : Bool). if b then Some (n ∷ []) else first_some (λ from. longer n (walk_within d (length (nodes d)) from)) (arcs_in d n)) later

      pub walk_ends : arcs_in d n ≡ [] → network_walk d n ≡ None
      walk_ends e = over ∙ ap (first_some (λ from. longer n (walk_within d (length (nodes d)) from))) e

      module _ (from : Node) (c : Contains (arcs_in d n) from) (all : (x : Node) → Contains (arcs_in d n) x → x ≡ from) (its : is_network d from.pin ≡ true) where
        before_is : network_walk d from ≡ walk_within d (length (nodes d)) from
        unfolding network_walk
        before_is = ap (λ (b : Bool). if b then walk_within d (length (nodes d)) from else None) its

        walk_more : network_walk d n ≡ longer n (network_walk d from)
        walk_more = over ∙ first_same (λ f. longer n (walk_within d (length (nodes d)) f)) from (arcs_in d n) c all ∙ ap (longer n) (sym before_is)

        pub behind_one : IsBehind d from n
        behind_one = record {
          some = λ first rest e. (rest ++ n ∷ [], walk_more ∙ ap (longer n) e);
          none = λ e. walk_more ∙ ap (longer n) e;
        }
