-- The launch node of a path by its place, and what launches the path.

use Rattle.std.proofs.Common.{◌≡◌, ℕ, zero, suc, ◌+◌, ◌<◌, ◌≤◌, Bool, true, false, List, [], ◌∷◌, ◌++◌, map, length, take, get_or, Option, None, Some, refl, sym, ap, subst, ◌∙◌, arith}
use Rattle.std.specs.Prelude.{slice_get, option_map, option_and_then, if◌then◌else◌}
use Rattle.std.specs.Option.{option_map_or}
use Rattle.std.proofs.lemmas.List.{take_more}
use Rattle.std.proofs.lemmas.Option.{slice_get_read}
use Rattle.timing_defs.specs.declared.kinds.Split.TheVariants.{Late}
use Rattle.timing_defs.specs.declared.rows.Launch.{Launch}
use Rattle.timing_defs.specs.declared.rows.Path.{Path}
use Rattle.timing_defs.specs.declared.rows.PathNode.{PathNode}
use Rattle.timing_defs.specs.declared.design.Design.{Design}
use Rattle.timing_defs.specs.Netlist.{Pin, Node, pin_named}
use Rattle.timing_defs.proofs.Members.{some_is}
use Rattle.timing_rules.specs.Clocking.{is_network}
use Rattle.timing_rules.specs.Paths.{Named, node_named, is_network_named, launch_node, launch_of, owner_named, path_named}
use Rattle.timing_rules.specs.Stages.{named_node}
use Rattle.netlist_store.specs.Linked.{IsLinked}
use Rattle.netlist_store.specs.Numbering.{Stored, number_of, IsNumbered}
use Rattle.pin_graph.specs.Nodes.{node_at}
use Rattle.pin_graph.specs.Graphs.{Graphed, IsGraph, network_at}
use Rattle.path_search.proofs.LaunchLaws.{network_is}
use Rattle.timed_paths.specs.Ends.{launch_over, edge_of_path}
use Rattle.timed_paths.specs.Numbers.{number_named}
use Rattle.timed_paths.proofs.NumberLaws.{node_there, numbered_node, unnumbered_node, unnumbered_pin}

-- whether a node is of the clock network, by its number
pub network_there : (g : Graphed) (s : Stored) → g.stored ≡ s → IsNumbered s → IsLinked s.design → IsGraph g → (n : Named) (k : ℕ) → Some k ≡ number_named g.stored n
    → (node : Node) → node_named s.design n ≡ Some node → network_at g k ≡ is_network_named s.design n
network_there g s same num linked is n k e node =
    subst
    (λ (z : Stored). IsNumbered z → IsLinked z.design → node_named z.design n ≡ Some node → network_at g k ≡ is_network_named z.design n) same
    (λ numbered joined its. network_is g numbered joined is Late k node (numbered_node g.stored n k (sym e) ∙ its)
    ∙ sym (ap (λ o. option_map_or (λ (m : Node). is_network g.stored.design m.pin) o false) its)) num linked

pub network_known : (g : Graphed) (s : Stored) → g.stored ≡ s → IsNumbered s → IsLinked s.design → IsGraph g → (n : Named) (k : ℕ) → Some k ≡ number_named g.stored n
    → network_at g k ≡ is_network_named s.design n
network_known g s same num linked is n k e =
    let at : number_named s n ≡ Some k = ap (λ (z : Stored). number_named z n) (sym same) ∙ sym e in
    let node = node_there s num n k at in
    network_there g s same num linked is n k e node.0 node.1

pub network_unknown : (g : Graphed) (s : Stored) → g.stored ≡ s → IsNumbered s → (n : Named) → None ≡ number_named g.stored n → false ≡ is_network_named s.design n
network_unknown g s same num n e =
    sym (ap (λ o. option_map_or (λ (m : Node). is_network s.design m.pin) o false)
    (unnumbered_node s num n (ap (λ (z : Stored). number_named z n) (sym same) ∙ sym e)))

launch_snoc : (d : Design) (n : Named) (ms : List Named) (m : Named) → launch_node d n (ms ++ m ∷ []) ≡ (if is_network_named d m then m else launch_node d n ms)
launch_snoc d n [] m = refl
launch_snoc d n (k ∷ ks) m = launch_snoc d (if is_network_named d k then k else n) ks m

map_snoc : {X Y : Type 0} (f : X → Y) (xs : List X) (x : X) → map f (xs ++ x ∷ []) ≡ map f xs ++ f x ∷ []
map_snoc f [] x = refl
map_snoc f (y ∷ ys) x = ap (λ zs. f y ∷ zs) (map_snoc f ys x)

over_snoc : (d : Design) (xs : List PathNode) (x : PathNode) → 0 < length xs
    → launch_over d (map named_node (xs ++ x ∷ [])) ≡ (if is_network_named d (named_node x) then Some (named_node x) else launch_over d (map named_node xs))
over_snoc d [] x some = absurd (omega (arith, some))
over_snoc d (y ∷ ys) x some =
    ap (λ zs. Some (launch_node d (named_node y) zs)) (map_snoc named_node ys x)
    ∙ ap Some (launch_snoc d (named_node y) (map named_node ys) (named_node x))
    ∙ by (is_network_named d (named_node x))
  where
    by : (b : Bool) → Some (if b then named_node x else launch_node d (named_node y) (map named_node ys)) ≡ (if b then Some (named_node x) else Some (launch_node d (named_node y) (map named_node ys)))
    by true = refl
    by false = refl

-- the place of the launch node of some nodes
abbrev pub IsPlace : Design → List PathNode → List PathNode → ℕ → Type 0
IsPlace d nodes first place = option_map named_node (slice_get nodes place) ≡ launch_over d (map named_node first)

take_length : {X : Type 0} (xs : List X) (i : ℕ) → i ≤ length xs → length (take i xs) ≡ i
take_length xs zero low = refl
take_length [] (suc i) low = absurd (omega (arith, low))
take_length (x ∷ xs) (suc i) low = ap suc (take_length xs i (omega (arith, low)))

pub place_first : (d : Design) (nodes : List PathNode) → 0 < length nodes → IsPlace d nodes (take 1 nodes) 0
place_first d [] some = absurd (omega (arith, some))
place_first d (n ∷ ns) some = refl

pub place_more : (d : Design) (nodes : List PathNode) (i : ℕ) (x : PathNode) (launch new : ℕ) → 1 ≤ i → i < length nodes → x ≡ get_or nodes i x
    → new ≡ (if is_network_named d (named_node x) then i else launch) → IsPlace d nodes (take i nodes) launch × (launch < i) → IsPlace d nodes (take (i + 1) nodes) new × (new < i + 1)
place_more d nodes i x launch new some low at put had = by (is_network_named d (named_node x)) refl
  where
    longer : launch_over d (map named_node (take (i + 1) nodes)) ≡ (if is_network_named d (named_node x) then Some (named_node x) else launch_over d (map named_node (take i nodes)))
    longer =
        ap (λ (xs : List PathNode). launch_over d (map named_node xs)) (take_more nodes i x low ∙ ap (λ (y : PathNode). take i nodes ++ y ∷ []) (sym at))
        ∙ over_snoc d (take i nodes) x (let l = take_length nodes i (omega (arith, low)) in omega (arith, l, some))

    by : (b : Bool) → is_network_named d (named_node x) ≡ b → IsPlace d nodes (take (i + 1) nodes) new × (new < i + 1)
    by true e =
        let n : new ≡ i = put ∙ ap (λ b. if b then i else launch) e in (
          ap (λ k. option_map named_node (slice_get nodes k)) n ∙ ap (option_map named_node) (slice_get_read nodes (length nodes) i x refl low at)
              ∙ sym (longer ∙ ap (λ b. if b then Some (named_node x) else launch_over d (map named_node (take i nodes))) e),
          omega (arith, n),
        )
    by false e =
        let n : new ≡ launch = put ∙ ap (λ b. if b then i else launch) e in
        let l = had.1 in (
          ap (λ k. option_map named_node (slice_get nodes k)) n ∙ had.0
              ∙ sym (longer ∙ ap (λ b. if b then Some (named_node x) else launch_over d (map named_node (take i nodes))) e),
          omega (arith, n, l),
        )

take_whole : {X : Type 0} (xs : List X) → take (length xs) xs ≡ xs
take_whole [] = refl
take_whole (x ∷ xs) = ap (λ ys. x ∷ ys) (take_whole xs)

pub place_last : (d : Design) (nodes : List PathNode) (i launch : ℕ) → i ≡ length nodes → IsPlace d nodes (take i nodes) launch → IsPlace d nodes nodes launch
place_last d nodes i launch e had = had ∙ ap (λ (xs : List PathNode). launch_over d (map named_node xs)) (ap (λ k. take k nodes) e ∙ take_whole nodes)

-- what launches a path, by its launch node
pub launch_told : (d : Design) (p : Path) (place : ℕ) (x : PathNode) → place < length p.nodes → x ≡ get_or p.nodes place x → IsPlace d p.nodes p.nodes place
    → (made : Launch) → made.pin ≡ x.pin → made.cell ≡ owner_named d x.pin → made.clock ≡ p.launch_clock
    → (n : Named) (ms : List Named) → path_named p ≡ n ∷ ms → made ≡ launch_of d n ms (edge_of_path p)
launch_told d p place x low at is made pin cell clock n ms e =
    let its : named_node x ≡ launch_node d n ms =
    some_is (sym (ap (option_map named_node) (slice_get_read p.nodes (length p.nodes) place x refl low at)) ∙ is ∙ ap (launch_over d) e) in
    let name : x.pin ≡ (launch_node d n ms).0 = ap (λ (m : Named). m.0) its in
    λ i. record { pin = (pin ∙ name) i; cell = (cell ∙ ap (owner_named d) name) i; clock = clock i }

pub launch_as : (d : Design) (p : Path) (xs : List PathNode) → xs ≡ p.nodes → (place : ℕ) (x : PathNode) → place < length xs → x ≡ get_or xs place x → IsPlace d xs xs place
    → (made : Launch) → made.pin ≡ x.pin → made.cell ≡ owner_named d x.pin → made.clock ≡ p.launch_clock
    → (n : Named) (ms : List Named) → path_named p ≡ n ∷ ms → made ≡ launch_of d n ms (edge_of_path p)
launch_as d p xs same place x low at is =
    launch_told d p place x (subst (λ (ys : List PathNode). place < length ys) same low) (subst (λ (ys : List PathNode). x ≡ get_or ys place x) same at)
    (subst (λ (ys : List PathNode). IsPlace d ys ys place) same is)

-- the instance of a pin that is not there
pub no_owner_named : (s : Stored) → IsNumbered s → (name : List ℕ) → None ≡ number_of s.pins name → None ≡ owner_named s.design name
no_owner_named s num name e =
    sym (ap (option_and_then (λ (pin : Pin). option_map (λ inst. inst.name) pin.owner)) (unnumbered_pin s num name (sym e)))
