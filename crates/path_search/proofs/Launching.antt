-- Timing paths are the launch nodes that arrive on their launch edge, each with nodes outside the clock network after it.

use Rattle.std.proofs.Common.{◌≡◌, ◌⊎◌, ℕ, ℤ, ◌+ℤ◌, Bool, true, false, List, [], ◌∷◌, ◌++◌, map, Some, refl, sym, ap, subst, ◌∙◌, inl, inr}
use Rattle.std.specs.Prelude.{Contains, if◌then◌else◌, option_map, option_and_then}
use Rattle.std.specs.Option.{option_map_or}
use Rattle.std.proofs.lemmas.Bool.{cases_Bool}
use Rattle.std.proofs.lemmas.List.{append_assoc}
use Rattle.timing_defs.specs.declared.kinds.Split.{Split}
use Rattle.timing_defs.specs.declared.kinds.Tran.{Tran}
use Rattle.timing_defs.specs.declared.kinds.Kind.{Kind}
use Rattle.timing_defs.specs.declared.design.Design.{Design}
use Rattle.timing_defs.specs.Netlist.{Node}
use Rattle.timing_rules.specs.Clocking.{is_network}
use Rattle.timing_rules.specs.Rows.{arrival}
use Rattle.timing_rules.specs.Tests.{Test, network_walk, first_edge}
use Rattle.timing_defs.specs.Kinds.{data_split}
use Rattle.timing_rules.specs.Paths.{Named, named, node_named, last_of, start_of, path_slacks}
use Rattle.timing_defs.proofs.Members.{some_is}
use Rattle.pin_graph.proofs.JoinLaws.{then_back, mapped_back}
use Rattle.path_search.specs.Runs.{end_of, IsTimed}
use Rattle.path_search.specs.Launches.{IsWhole, IsByWalk, IsAlone, IsParted, IsLaunched, IsTail, IsFound, before_end, begin_names, edge_of_launch, edge_of_start, launch_slacks}
use Rattle.path_search.proofs.Prefixes.{walk_is_told, off_walk}
use Rattle.path_search.proofs.NodeNames.{name_told}
use Rattle.path_search.proofs.PrefixSums.{arrival_starts}
use Rattle.path_search.proofs.Starts.{started}
use Rattle.path_search.proofs.PathParts.{parts}
use Rattle.path_search.proofs.Joins.{joins}
use Rattle.path_search.proofs.Slacks.{slacks_in_parts, whole_of}

-- a list of nodes, and its nodes before the last
pub ends_with : (n : Node) (ms : List Node) → map named (n ∷ ms) ≡ map named (before_end n ms) ++ named (end_of n ms) ∷ []
ends_with n [] = refl
ends_with n (m ∷ ms) = ap (λ (xs : List Named). named n ∷ xs) (ends_with m ms)

-- where a launch node has a walk, and where it has none
names_walked : (d : Design) (launch : Named) (node : Node) (w : List Node) → node_named d launch ≡ Some node → network_walk d node ≡ Some w → begin_names d launch ≡ map named w
names_walked d launch node w e f =
    ap (λ o. option_map_or (λ n. option_map_or (map named) (network_walk d n) (launch ∷ [])) o (launch ∷ [])) e
    ∙ ap (λ o. option_map_or (map named) o (launch ∷ [])) f

names_alone : (d : Design) (launch : Named) (node : Node) → node_named d launch ≡ Some node → is_network d node.pin ≡ false → begin_names d launch ≡ launch ∷ []
names_alone d launch node e out =
    ap (λ o. option_map_or (λ n. option_map_or (map named) (network_walk d n) (launch ∷ [])) o (launch ∷ [])) e
    ∙ ap (λ o. option_map_or (map named) o (launch ∷ [])) (off_walk d node out)

pub edge_walked : (d : Design) (split : Split) (launch : Named) (node : Node) → is_network d node.pin ≡ true → edge_of_launch d split launch node ≡ option_and_then (first_edge d) (network_walk d node)
edge_walked d split launch node net =
    ap (λ (b : Bool). if b then option_and_then (first_edge d) (network_walk d node) else option_map edge_of_start (start_of d split launch)) net

pub edge_alone : (d : Design) (split : Split) (launch : Named) (node : Node) → is_network d node.pin ≡ false → edge_of_launch d split launch node ≡ option_map edge_of_start (start_of d split launch)
edge_alone d split launch node out =
    ap (λ (b : Bool). if b then option_and_then (first_edge d) (network_walk d node) else option_map edge_of_start (start_of d split launch)) out

module _ (d : Design) (t : IsTimed d) (split : Split) (edge : ℕ × Tran) (launch : Named) where
  -- the parts of a path
  module _ (path : List Named) (length : ℤ) (p : IsParted d split edge path launch length) where
    pub launched_in : IsLaunched d split edge launch p.time
    launched_in = record { node = p.node; its = p.its; edge_is = by p.begins; arrives = p.arrives }
      where
        by : IsByWalk d edge p.node p.pre launch ⊎ IsAlone d split edge p.time p.node p.pre launch → edge_of_launch d split launch p.node ≡ Some edge
        by (inl walk) = edge_walked d split launch p.node walk.network ∙ ap (option_and_then (first_edge d)) walk.told ∙ walk.edge_is
        by (inr alone) = edge_alone d split launch p.node alone.outside ∙ ap (option_map edge_of_start) alone.start

    pub tail_in : IsTail d split launch p.post p.rest
    tail_in = record { outside = p.outside; walks = p.walks }

    pub nodes_in : path ≡ begin_names d launch ++ p.post
    nodes_in = p.nodes ∙ by p.begins
      where
        by : IsByWalk d edge p.node p.pre launch ⊎ IsAlone d split edge p.time p.node p.pre launch → p.pre ++ launch ∷ p.post ≡ begin_names d launch ++ p.post
        by (inl walk) =
            sym (append_assoc p.pre (launch ∷ []) p.post)
            ∙ ap (λ (xs : List Named). xs ++ p.post) (sym walk.names ∙ sym (names_walked d launch p.node walk.walk p.its walk.told))
        by (inr alone) =
            ap (λ (xs : List Named). xs ++ launch ∷ p.post) alone.none ∙ ap (λ (xs : List Named). xs ++ p.post) (sym (names_alone d launch p.node p.its alone.outside))

  -- parts that make a path
  module _ (time : ℤ) (l : IsLaunched d split edge launch time) (post : List Named) (rest : ℤ) (tail : IsTail d split launch post rest) where
    pub parts_of : IsParted d split edge (begin_names d launch ++ post) launch (time +ℤ rest)
    parts_of = elim (cases_Bool (is_network d l.node.pin)) [
      | inl net ↦
          let w = then_back (first_edge d) (network_walk d l.node) edge (sym (edge_walked d split launch l.node net) ∙ l.edge_is) in
          let its = name_told d t launch l.node l.its in
          let r = walk_is_told d t l.node its.0 w.0 w.1 in
          let names : map named w.0 ≡ map named (before_end r.first r.rest) ++ launch ∷ [] =
          ap (map named) r.begins ∙ ends_with r.first r.rest
          ∙ ap (λ (n : Named). map named (before_end r.first r.rest) ++ n ∷ []) (ap named r.ends ∙ its.1) in
          record {
            pre = map named (before_end r.first r.rest);
            post = post;
            nodes =
                ap (λ (xs : List Named). xs ++ post) (names_walked d launch l.node w.0 l.its w.1 ∙ names)
                ∙ append_assoc (map named (before_end r.first r.rest)) (launch ∷ []) post;
            outside = tail.outside;
            node = l.node;
            its = l.its;
            time = time;
            arrives = l.arrives;
            begins = inl (record { network = net; walk = w.0; told = w.1; names = names; edge_is = w.2 });
            rest = rest;
            walks = tail.walks;
            total = refl;
          }
      | inr out ↦
          let m = mapped_back edge_of_start (start_of d split launch) edge (sym (edge_alone d split launch l.node out) ∙ l.edge_is) in
          let at : ℤ = m.0.1 in
          let begin : start_of d split launch ≡ Some (edge, at) = m.1 ∙ ap (λ (g : ℕ × Tran). Some (g, at)) m.2 in
          let s = started d split launch edge at begin in
          let node : s.node ≡ l.node = some_is (sym s.its ∙ l.its) in
          let its = name_told d t launch s.node s.its in
          let same : at ≡ time =
          some_is (sym (arrival_starts d t split edge s.launched s.node its.0 at s.start) ∙ ap (λ (n : Node). arrival d split n edge) node ∙ l.arrives) in
          record {
            pre = [];
            post = post;
            nodes = ap (λ (xs : List Named). xs ++ post) (names_alone d launch l.node l.its out);
            outside = tail.outside;
            node = l.node;
            its = l.its;
            time = time;
            arrives = l.arrives;
            begins = inr (record { outside = out; none = refl; start = begin ∙ ap (λ (v : ℤ). Some (edge, v)) same });
            rest = rest;
            walks = tail.walks;
            total = refl;
          }
    ]

    pub path_of : IsWhole d split edge (begin_names d launch ++ post) launch (time +ℤ rest)
    path_of = joins d t split edge (begin_names d launch ++ post) launch (time +ℤ rest) parts_of

tail_same : {X : Type 0} (x y : X) (xs ys : List X) → x ∷ xs ≡ y ∷ ys → xs ≡ ys
tail_same x y xs ys e = cc

pub append_same : {X : Type 0} (xs ys zs : List X) → xs ++ ys ≡ xs ++ zs → ys ≡ zs
append_same [] ys zs e = e
append_same (x ∷ xs) ys zs e = append_same xs ys zs (tail_same x x (xs ++ ys) (xs ++ zs) e)

-- the nodes after a launch node are told by the path
pub tail_told : (d : Design) (t : IsTimed d) (split : Split) (edge : ℕ × Tran) (launch : Named) (time rest : ℤ) (post : List Named)
    (p : IsParted d split edge (begin_names d launch ++ post) launch (time +ℤ rest)) → p.post ≡ post
tail_told d t split edge launch time rest post p =
    append_same (begin_names d launch) p.post post (sym (nodes_in d t split edge launch (begin_names d launch ++ post) (time +ℤ rest) p))

-- the slacks of the path of a launch node and the nodes after it
pub slacks_of_launch : (d : Design) (t : IsTimed d) (kind : Kind) (edge : ℕ × Tran) (launch : Named) (time : ℤ) → IsLaunched d (data_split kind) edge launch time
    → (post : List Named) (rest : ℤ) → IsTail d (data_split kind) launch post rest
    → path_slacks d kind (begin_names d launch ++ post) ≡ launch_slacks d kind launch edge (time +ℤ rest) (last_of launch post)
slacks_of_launch d t kind edge launch time l post rest tail =
    let path = begin_names d launch ++ post in
    let p = parts_of d t (data_split kind) edge launch time l post rest tail in
    slacks_in_parts d t kind edge path launch (time +ℤ rest) (joins d t (data_split kind) edge path launch (time +ℤ rest) p) p ∙ ends p
  where
    ends : (p : IsParted d (data_split kind) edge (begin_names d launch ++ post) launch (time +ℤ rest))
        → launch_slacks d kind launch edge (time +ℤ rest) (last_of launch p.post) ≡ launch_slacks d kind launch edge (time +ℤ rest) (last_of launch post)
    ends p = ap (λ (xs : List Named). launch_slacks d kind launch edge (time +ℤ rest) (last_of launch xs)) (tail_told d t (data_split kind) edge launch time rest post p)

-- each slack of a list of nodes is that of a launch node and nodes after it
pub found_of : (d : Design) (t : IsTimed d) (kind : Kind) (path : List Named) (slack : Test × ℤ) → Contains (path_slacks d kind path) slack → IsFound d kind path slack
found_of d t kind path slack c =
    let w = whole_of d kind path slack c in
    let p = parts d t (data_split kind) w.edge path w.launch w.length w.whole in
    record {
      edge = w.edge;
      launch = w.launch;
      time = p.time;
      launched = launched_in d t (data_split kind) w.edge w.launch path w.length p;
      post = p.post;
      rest = p.rest;
      tail = tail_in d t (data_split kind) w.edge w.launch path w.length p;
      nodes = nodes_in d t (data_split kind) w.edge w.launch path w.length p;
      slack_in =
          subst (λ (v : ℤ). Contains (launch_slacks d kind w.launch w.edge v (last_of w.launch p.post)) slack) (sym p.total)
          (subst (λ (xs : List (Test × ℤ)). Contains xs slack) (slacks_in_parts d t kind w.edge path w.launch w.length w.whole p) c);
    }
