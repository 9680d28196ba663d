-- A path is the walk over the clock network to its launch node, and nodes outside the network.

use Rattle.std.proofs.Common.{◌≡◌, ℕ, ℤ, ◌+ℤ◌, Bool, true, false, List, [], ◌∷◌, ◌++◌, map, Some, refl, sym, ap, subst, ◌∙◌, inl, inr, arith}
use Rattle.std.specs.Prelude.{Contains, ◌||◌, if◌then◌else◌}
use Rattle.std.specs.List.{list_any}
use Rattle.std.proofs.lemmas.Bool.{cases_Bool, true≢false}
use Rattle.std.proofs.lemmas.Int.{ints}
use Rattle.std.proofs.lemmas.List.{append_assoc}
use Rattle.timing_defs.specs.declared.kinds.Split.{Split}
use Rattle.timing_defs.specs.declared.kinds.Tran.{Tran}
use Rattle.timing_defs.specs.declared.design.Design.{Design}
use Rattle.timing_defs.specs.Netlist.{Node}
use Rattle.timing_rules.specs.Clocking.{is_network, is_clock_port}
use Rattle.timing_rules.specs.Rows.{arcs_in, delay, arrival, launch_edges}
use Rattle.timing_defs.specs.RowTimes.{plus_some}
use Rattle.timing_rules.specs.Tests.{network_walk, first_edge}
use Rattle.timing_rules.specs.Paths.{Named, named, node_named, delay_between, walk_delay, start_of, is_network_named, launch_node}
use Rattle.timing_defs.proofs.Members.{some_is}
use Rattle.path_search.specs.Runs.{longer, IsTimed}
use Rattle.path_search.specs.Launches.{IsWhole, IsByWalk, IsParted}
use Rattle.path_search.proofs.Prefixes.{network_port, from_network, from_one, walk_more, walk_starts}
use Rattle.path_search.proofs.NodeNames.{name_told, network_named, joined_back}
use Rattle.path_search.proofs.PrefixSums.{sum_back, arrival_starts, arrival_more}
use Rattle.path_search.proofs.Starts.{started, starts_in, input_owner, port_started}

either_none : (a b : Bool) → (a || b) ≡ false → (a ≡ false) × (b ≡ false)
either_none false b h = (refl, h)
either_none true b h = absurd (true≢false h)

pub map_append : {X Y : Type 0} (f : X → Y) (xs ys : List X) → map f (xs ++ ys) ≡ map f xs ++ map f ys
map_append f [] ys = refl
map_append {Y = Y} f (x ∷ xs) ys = ap (λ (zs : List Y). f x ∷ zs) (map_append f xs ys)

-- the launch node of a list whose later nodes are outside the network
pub launch_out : (d : Design) (n : Named) (ms : List Named) → list_any (is_network_named d) ms ≡ false → launch_node d n ms ≡ n
launch_out d n [] e = refl
launch_out d n (m ∷ ms) e =
    let h = either_none (is_network_named d m) (list_any (is_network_named d) ms) e in
    ap (λ (b : Bool). launch_node d (if b then m else n) ms) h.0 ∙ launch_out d n ms h.1

first_edge_more : (d : Design) (w more : List Node) (edge : ℕ × Tran) → first_edge d w ≡ Some edge → first_edge d (w ++ more) ≡ Some edge
first_edge_more d [] more edge e = absurd (cc)
first_edge_more d (x ∷ xs) more edge e = e

module _ (d : Design) (t : IsTimed d) (split : Split) where
  -- nothing leads from outside the network into it
  pub walk_out : (n : Named) (a : Node) → node_named d n ≡ Some a → is_network d a.pin ≡ false → (ms : List Named) (sum : ℤ) → walk_delay d split n ms ≡ Some sum
      → list_any (is_network_named d) ms ≡ false
  walk_out n a its out [] sum e = refl
  walk_out n a its out (m ∷ ms) sum e =
      let s = sum_back (delay_between d split n m) (walk_delay d split m ms) sum e in
      let j = joined_back d t split n m s.left s.left_is in
      let from : j.from ≡ a = some_is (sym j.from_named ∙ its) in
      let beyond : is_network d j.to.pin ≡ false = elim (cases_Bool (is_network d j.to.pin)) [
        | inr f ↦ f
        | inl f ↦ absurd (true≢false (sym (from_network d t j.to j.from (name_told d t m j.to j.to_named).0 f j.arc) ∙ ap (λ (x : Node). is_network d x.pin) from ∙ out))
      ] in
      let more = walk_out m j.to j.to_named beyond ms s.right s.right_is in
      let here : is_network_named d m ≡ false = network_named d t m j.to j.to_named ∙ beyond in
      rw here more

  module _ (edge : ℕ × Tran) (launched : Contains (launch_edges d) edge) where
    parted : (pre : List Named) (l : Named) (node : Node) → node_named d l ≡ Some node → IsByWalk d edge node pre l
        → (time : ℤ) → arrival d split node edge ≡ Some time → (ms : List Named) (sum : ℤ) → walk_delay d split l ms ≡ Some sum
        → IsParted d split edge (pre ++ l ∷ ms) (launch_node d l ms) (time +ℤ sum)
    parted pre l node its by time arrives [] sum e = record {
      pre = pre;
      post = [];
      nodes = refl;
      outside = refl;
      node = node;
      its = its;
      time = time;
      arrives = arrives;
      begins = inl by;
      rest = sum;
      walks = e;
      total = refl;
    }
    parted pre l node its by time arrives (m ∷ ms) sum e =
        let s = sum_back (delay_between d split l m) (walk_delay d split m ms) sum e in
        let j = joined_back d t split l m s.left s.left_is in
        let to = name_told d t m j.to j.to_named in
        let from : j.from ≡ node = some_is (sym j.from_named ∙ its) in
        let inside = network_named d t m j.to j.to_named in
        elim (cases_Bool (is_network d j.to.pin)) [
          | inl net ↦
              let arc : Contains (arcs_in d j.to) node = subst (λ (x : Node). Contains (arcs_in d j.to) x) from j.arc in
              let told : network_walk d j.to ≡ Some (by.walk ++ j.to ∷ []) = walk_more d t j.to to.0 net node arc ∙ ap (longer j.to) by.told in
              let names : map named (by.walk ++ j.to ∷ []) ≡ pre ++ l ∷ [] ++ m ∷ [] =
              map_append named by.walk (j.to ∷ []) ∙ ap (λ (xs : List Named). xs ++ named j.to ∷ []) by.names ∙ ap (λ (x : Named). pre ++ l ∷ [] ++ x ∷ []) to.1 in
              let next : IsByWalk d edge j.to (pre ++ l ∷ []) m =
              record { network = net; walk = by.walk ++ j.to ∷ []; told = told; names = names; edge_is = first_edge_more d by.walk (j.to ∷ []) edge by.edge_is } in
              let takes : delay d split node j.to ≡ Some s.left = ap (λ (x : Node). delay d split x j.to) (sym from) ∙ j.takes in
              let later : arrival d split j.to edge ≡ Some (time +ℤ s.left) =
              arrival_more d t split edge launched j.to node to.0 net arc (from_one d t j.to node to.0 net arc) ∙ (λ k. plus_some (arrives k) (takes k)) in
              let r = parted (pre ++ l ∷ []) m j.to j.to_named next (time +ℤ s.left) later ms s.right s.right_is in
              let whole = append_assoc pre (l ∷ []) (m ∷ ms) in
              let launch : launch_node d m ms ≡ launch_node d l (m ∷ ms) = ap (λ (b : Bool). launch_node d (if b then m else l) ms) (sym (inside ∙ net)) in
              let x = s.left in
              let y = s.right in
              let both : x +ℤ y ≡ sum = s.both in
              let total : (time +ℤ x) +ℤ y ≡ time +ℤ sum = omega (arith, ints, both) in
              subst (λ (v : ℤ). IsParted d split edge (pre ++ l ∷ m ∷ ms) (launch_node d l (m ∷ ms)) v) total
              (subst (λ (v : Named). IsParted d split edge (pre ++ l ∷ m ∷ ms) v ((time +ℤ x) +ℤ y)) launch
              (subst (λ (v : List Named). IsParted d split edge v (launch_node d m ms) ((time +ℤ x) +ℤ y)) whole r))
          | inr out ↦
              let outside : list_any (is_network_named d) (m ∷ ms) ≡ false =
              (let here = inside ∙ out in let more = walk_out m j.to j.to_named out ms s.right s.right_is in rw here more) in
              let r : IsParted d split edge (pre ++ l ∷ m ∷ ms) l (time +ℤ sum) = record {
                pre = pre;
                post = m ∷ ms;
                nodes = refl;
                outside = outside;
                node = node;
                its = its;
                time = time;
                arrives = arrives;
                begins = inl by;
                rest = sum;
                walks = e;
                total = refl;
              } in
              subst (λ (v : Named). IsParted d split edge (pre ++ l ∷ m ∷ ms) v (time +ℤ sum)) (sym (launch_out d l (m ∷ ms) outside)) r
        ]

  parts_from : (n : Named) (ms : List Named) (edge : ℕ × Tran) (time sum : ℤ) → start_of d split n ≡ Some (edge, time) → walk_delay d split n ms ≡ Some sum
      → IsParted d split edge (n ∷ ms) (launch_node d n ms) (time +ℤ sum)
  parts_from n ms edge time sum e f =
      let s = started d split n edge time e in
      let its = name_told d t n s.node s.its in
      let arrives = arrival_starts d t split edge s.launched s.node its.0 time s.start in
      elim (cases_Bool (is_network d s.node.pin)) [
        | inl net ↦
            let port : is_clock_port d s.node.pin ≡ true = network_port d s.node.pin net (input_owner s.node.pin (starts_in d split s.node edge time s.start)) in
            let by : IsByWalk d edge s.node [] n = record {
              network = net;
              walk = s.node ∷ [];
              told = walk_starts d t s.node its.0 net port;
              names = ap (λ (x : Named). x ∷ []) its.1;
              edge_is = port_started d split n s.node edge time s.its port e;
            } in
            parted edge s.launched [] n s.node s.its by time arrives ms sum f
        | inr out ↦
            let outside = walk_out n s.node s.its out ms sum f in
            let r : IsParted d split edge (n ∷ ms) n (time +ℤ sum) = record {
              pre = [];
              post = ms;
              nodes = refl;
              outside = outside;
              node = s.node;
              its = s.its;
              time = time;
              arrives = arrives;
              begins = inr (record { outside = out; none = refl; start = e });
              rest = sum;
              walks = f;
              total = refl;
            } in
            subst (λ (v : Named). IsParted d split edge (n ∷ ms) v (time +ℤ sum)) (sym (launch_out d n ms outside)) r
      ]

  -- each path is in parts
  pub parts : (edge : ℕ × Tran) (path : List Named) (launch : Named) (length : ℤ) → IsWhole d split edge path launch length → IsParted d split edge path launch length
  parts edge path launch length w =
      subst (λ (v : ℤ). IsParted d split edge path launch v) w.total
      (subst (λ (v : Named). IsParted d split edge path v (w.time +ℤ w.sum)) w.last
      (subst (λ (v : List Named). IsParted d split edge v (launch_node d w.first w.more) (w.time +ℤ w.sum)) (sym w.nodes)
      (parts_from w.first w.more edge w.time w.sum w.starts w.walks)))
