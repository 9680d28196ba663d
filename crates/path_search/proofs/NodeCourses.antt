-- The walks by numbers to an end node are the courses of paths to it: the slacks of the ones stand for those of the others.

use Rattle.std.proofs.Common.{◌≡◌, ℕ, ℤ, ◌+ℤ◌, ◌-ℤ◌, ◌≤ℤ◌, pos, Bool, true, false, List, [], ◌∷◌, map, Option, Some, None, refl, sym, ap, subst, ◌∙◌, inl, inr, arith}
use Rattle.std.specs.Prelude.{◌==◌, ◌||◌, int_lt, if◌then◌else◌, Contains, option_map, option_and_then}
use Rattle.std.specs.List.{list_any}
use Rattle.std.specs.Str.{bytes_eq}
use Rattle.std.proofs.lemmas.Bool.{cases_Bool, or_parts, eq-eqb}
use Rattle.std.proofs.lemmas.Int.{ints}
use borrow.Author.Differences.{lt-true, lt-false}
use Rattle.timing_defs.specs.declared.kinds.Kind.{Kind}
use Rattle.timing_defs.specs.declared.kinds.Split.{Split}
use Rattle.timing_defs.specs.declared.kinds.Tran.{Tran}
use Rattle.timing_defs.specs.declared.kinds.Tran.TheVariants.{Rise, Fall}
use Rattle.timing_defs.specs.declared.design.Design.{Design}
use Rattle.timing_defs.specs.Netlist.{Node, pins}
use Rattle.timing_defs.specs.RowTimes.{plus_some}
use Rattle.timing_rules.specs.Tests.{Test}
use Rattle.timing_defs.specs.Kinds.{data_split}
use Rattle.timing_rules.specs.Paths.{Named, named, is_network_named, arc_delay, delay_between as named_delay, last_of, walk_delay}
use Rattle.netlist_store.specs.Linked.{IsLinked}
use Rattle.netlist_store.specs.Numbering.{Stored, IsNumbered}
use Rattle.pin_graph.specs.Nodes.{node_at, node_number}
use Rattle.pin_graph.specs.Graphs.{Graphed, IsGraph, network_at}
use Rattle.store_pins.proofs.PinLaws.{pin_told}
use Rattle.pin_graph.proofs.NodeLaws.{node_told}
use Rattle.timing_defs.proofs.Members.{some_is}
use Rattle.pin_graph.proofs.JoinLaws.{then_back, mapped_back, unless_some}
use Rattle.timing_defs.proofs.SameNames.{same_is, same_self}
use Rattle.worst_walks.specs.Walks.{walk_sum}
use Rattle.bounded_slack.specs.Nets.{IsAtMost}
use Rattle.path_cones.specs.Delays.{arc_numbered, followed_delay, signed as turned}
use Rattle.path_search.specs.Launches.{IsCourse, IsLaunched, IsLaunchSlack, IsReached, IsTail, launch_slacks, signed}
use Rattle.path_search.specs.NodeSlacks.{IsCourseTo, IsReachedAt, IsUnder, IsEitherSlack, StandFor, IsNumberSlack}
use Rattle.path_search.specs.Offers.{IsOffer}
use Rattle.path_search.specs.PinCones.{name_told}
use Rattle.path_search.specs.Runs.{IsTimed}
use Rattle.path_search.specs.Slacks.{IsNodeOffer}
use Rattle.path_search.proofs.PrefixSums.{sum_back}
use Rattle.path_search.proofs.NodeNames.{name_told as node_of_name, network_of, joined_back}
use Rattle.path_search.proofs.NumberNames.{name_here, IsNodeNumber}
use Rattle.path_search.proofs.RankLaws.{Each}
use Rattle.path_search.proofs.ConeTails.{IsStep, signed_plus, signed_none, stays}
use Rattle.path_search.proofs.ConeCourses.{launched_once, lower, lowest, no_items, nothing_in, unshifted, shifted}
use Rattle.path_search.proofs.FanCones.{turned_same, network_here, inside, delay_named}

at_most_more : (least : Option ℤ) (w t : ℤ) → IsAtMost least w → w ≤ℤ t → IsAtMost least t
at_most_more None w t h low = absurd h
at_most_more (Some s) w t h low = lowest s w t h low

-- the number of a node before another
pub record IsBefore (kind : Kind) (look : ℕ → ℕ → Option ℤ) (Near : ℕ → Type 0) (name : ℕ → Named) (n : Named) (b : ℕ) (delay : ℤ) : Type 0 where
  pub number : ℕ
  pub near : Near number
  pub its : name number ≡ n
  pub arc : look number b ≡ Some (signed kind delay)

-- numbers have names, those near are of nodes of the design, and the arcs that are followed are those outside the clock network
pub record AreNumbers (d : Design) (kind : Kind) (look : ℕ → ℕ → Option ℤ) (Near : ℕ → Type 0) (name : ℕ → Named) : Type 0 where
  pub forth : (a b : ℕ) (value : ℤ) → look a b ≡ Some value → IsStep d kind (name a) (name b) value
  pub back : (b : ℕ) → Near b → is_network_named d (name b) ≡ false → (n : Named) (delay : ℤ) → named_delay d (data_split kind) n (name b) ≡ Some delay
      → IsBefore kind look Near name n b delay

-- the tail of a walk by numbers
pub record IsTailOf (d : Design) (kind : Kind) (name : ℕ → Named) (e n : ℕ) (ms : List ℕ) (sum : ℤ) : Type 0 where
  pub rest : ℤ
  pub tail : IsTail d (data_split kind) (name n) (map name ms) rest
  pub sign : signed kind rest ≡ sum
  pub last : last_of (name n) (map name ms) ≡ name e

-- the walk by numbers of a tail
pub record IsWalkOf (kind : Kind) (look : ℕ → ℕ → Option ℤ) (Near : ℕ → Type 0) (name : ℕ → Named) (e : ℕ) (n : Named) (post : List Named) (rest : ℤ) : Type 0 where
  pub number : ℕ
  pub near : Near number
  pub its : name number ≡ n
  pub more : List ℕ
  pub names : map name more ≡ post
  pub known : Each Near more
  pub adds : walk_sum ◌==◌ look e number more ≡ Some (signed kind rest)

-- the walk by numbers of a course, of a slack that is at most that of the course
pub record IsBelow (kind : Kind) (look : ℕ → ℕ → Option ℤ) (Near : ℕ → Type 0) (name : ℕ → Named) (e : ℕ) (offer : ℕ → Option ℤ) (launch : Named) (post : List Named) (rest t : ℤ) : Type 0 where
  pub tail : IsWalkOf kind look Near name e launch post rest
  pub slack : ℤ
  pub walk : IsNumberSlack look offer e slack
  pub first_is : walk.first ≡ tail.number
  pub more_is : walk.more ≡ tail.more
  pub low : slack ≤ℤ t

module _ (d : Design) (kind : Kind) (look : ℕ → ℕ → Option ℤ) (Near : ℕ → Type 0) (name : ℕ → Named) (numbers : AreNumbers d kind look Near name) (e : ℕ) where
  tail_of : (n : ℕ) (ms : List ℕ) (sum : ℤ) → walk_sum ◌==◌ look e n ms ≡ Some sum → IsTailOf d kind name e n ms sum
  tail_of n [] sum f =
      let here = stays n e sum f in
      record {
        rest = pos 0;
        tail = record { outside = refl; walks = refl };
        sign = signed_none kind ∙ here.1;
        last = ap name here.0;
      }
  tail_of n (m ∷ ms) sum f =
      let z = sum_back (look n m) (walk_sum ◌==◌ look e m ms) sum f in
      let r = tail_of m ms z.right z.right_is in
      let step = numbers.forth n m z.left z.left_is in
      let takes = step.takes in
      let walks = r.tail.walks in
      record {
        rest = step.delay +ℤ r.rest;
        tail = record {
          outside = ap (λ (b : Bool). b || list_any (is_network_named d) (map name ms)) step.outside ∙ r.tail.outside;
          walks = λ k. plus_some (takes k) (walks k);
        };
        sign = signed_plus kind step.delay r.rest ∙ (let a = step.sign in let b = r.sign in λ k. a k +ℤ b k) ∙ z.both;
        last = r.last;
      }

  walk_of : Near e → (n : Named) (post : List Named) (rest : ℤ) → last_of n post ≡ name e → IsTail d (data_split kind) n post rest → IsWalkOf kind look Near name e n post rest
  walk_of near n [] rest last tail =
      let zero_is : pos 0 ≡ rest = some_is tail.walks in
      record {
        number = e;
        near = near;
        its = sym last;
        more = [];
        names = refl;
        known = tt;
        adds = ap (λ (b : Bool). if b then Some (pos 0) else None) (eq-eqb e e refl) ∙ ap Some (sym (signed_none kind) ∙ ap (signed kind) zero_is);
      }
  walk_of near n (m ∷ ms) rest last tail =
      let out = or_parts (is_network_named d m) (list_any (is_network_named d) ms) tail.outside in
      let z = sum_back (named_delay d (data_split kind) n m) (walk_delay d (data_split kind) m ms) rest tail.walks in
      let r = walk_of near m ms z.right last (record { outside = out.1; walks = z.right_is }) in
      let b = numbers.back r.number r.near (ap (is_network_named d) r.its ∙ out.0) n z.left (ap (named_delay d (data_split kind) n) r.its ∙ z.left_is) in
      let its = r.its in
      let names = r.names in
      let arc = b.arc in
      let adds = r.adds in
      record {
        number = b.number;
        near = b.near;
        its = b.its;
        more = r.number ∷ r.more;
        names = λ k. its k ∷ names k;
        known = (r.near, r.known);
        adds = (λ k. plus_some (arc k) (adds k)) ∙ ap Some (sym (signed_plus kind z.left z.right) ∙ ap (signed kind) z.both);
      }

  -- what each number offers for the end node
  module _ (offer : ℕ → Option ℤ) (near : Near e)
      (none : (n : ℕ) → Near n → offer n ≡ None → (edge : ℕ × Tran) (time : ℤ) → IsLaunched d (data_split kind) edge (name n) time → launch_slacks d kind (name n) edge time (name e) ≡ [])
      (some : (n : ℕ) (o : ℤ) → offer n ≡ Some o → IsOffer d kind (name n) (name e) o) where
    -- the slack of a walk is that of a course
    reached : (s : ℤ) → IsNumberSlack look offer e s → IsReachedAt d kind (name e) s
    reached s w =
        let o = some w.first w.offered w.offer_is in
        let t = tail_of w.first w.more w.sum w.adds in
        let at = shifted d kind (name w.first) o.edge o.time t.rest (name e) o.test w.offered o.within in
        record {
          edge = o.edge;
          launch = name w.first;
          time = o.time;
          post = map name w.more;
          rest = t.rest;
          course = record { launched = o.launched; tail = t.tail; ends = t.last };
          test = o.test;
          slack_in =
              subst (λ (x : ℤ). Contains (launch_slacks d kind (name w.first) o.edge (o.time +ℤ t.rest) (name e)) (o.test, x))
              (ap (λ (x : ℤ). w.offered -ℤ x) t.sign ∙ w.is) at;
        }

    pub below : (edge : ℕ × Tran) (launch : Named) (time : ℤ) (post : List Named) (rest : ℤ) → IsCourseTo d kind (name e) edge launch time post rest
        → (test : Test) (t : ℤ) → Contains (launch_slacks d kind launch edge (time +ℤ rest) (name e)) (test, t)
        → IsBelow kind look Near name e offer launch post rest t
    below edge launch time post rest c test t within =
        let p = walk_of near launch post rest c.ends c.tail in
        let u = unshifted d kind launch edge time rest (name e) test t within in
        let launched : IsLaunched d (data_split kind) edge (name p.number) time = subst (λ (n : Named). IsLaunched d (data_split kind) edge n time) (sym p.its) c.launched in
        let first : Contains (launch_slacks d kind (name p.number) edge time (name e)) (test, u.first) =
        subst (λ (n : Named). Contains (launch_slacks d kind n edge time (name e)) (test, u.first)) (sym p.its) u.within in
        by p u.first u.is launched first (offer p.number) refl
      where
        by : (p : IsWalkOf kind look Near name e launch post rest) (first : ℤ) → first -ℤ signed kind rest ≡ t → IsLaunched d (data_split kind) edge (name p.number) time
            → Contains (launch_slacks d kind (name p.number) edge time (name e)) (test, first) → (o : Option ℤ) → offer p.number ≡ o → IsBelow kind look Near name e offer launch post rest t
        by p first is launched inside None f =
            absurd (nothing_in (launch_slacks d kind (name p.number) edge time (name e)) (test, first) inside (none p.number p.near f edge time launched))
        by p first is launched inside (Some o) f =
            let offered = some p.number o f in
            let once = launched_once d (data_split kind) edge offered.edge (name p.number) time offered.time launched offered.launched in
            let low : o ≤ℤ first =
            offered.least test first
            (subst (λ (x : ℕ × Tran). Contains (launch_slacks d kind (name p.number) x offered.time (name e)) (test, first)) once.0
            (subst (λ (x : ℤ). Contains (launch_slacks d kind (name p.number) edge x (name e)) (test, first)) once.1 inside)) in
            record {
              tail = p;
              slack = o -ℤ signed kind rest;
              walk = record {
                first = p.number;
                more = p.more;
                offered = o;
                offer_is = f;
                sum = signed kind rest;
                adds = p.adds;
                is = refl;
              };
              first_is = refl;
              more_is = refl;
              low = lower o first (signed kind rest) t low is;
            }

    under : (least : Option ℤ) → ((s : ℤ) → IsNumberSlack look offer e s → IsAtMost least s) → IsUnder d kind (name e) least
    under least all edge launch time post rest c test t within =
        let v = below edge launch time post rest c test t within in at_most_more least v.slack t (all v.slack v.walk) v.low

    -- the slacks of the walks stand for those of the paths to the node
    pub slacks_told : StandFor (IsNumberSlack look offer e) d kind (name e)
    slacks_told = record { forth = reached; under = under }

-- a pin's slack is the least of those of its two nodes
module _ (d : Design) (kind : Kind) (pin : List ℕ) where
  -- the course of a node is one of the pin
  course_up : (tran : Tran) (edge : ℕ × Tran) (launch : Named) (time : ℤ) (post : List Named) (rest : ℤ)
      → IsCourseTo d kind (pin, tran) edge launch time post rest → IsCourse d kind pin edge launch time post rest
  course_up tran edge launch time post rest c = record {
    launched = c.launched;
    tail = c.tail;
    ends = ap (λ (n : Named). bytes_eq n.0 pin) c.ends ∙ same_self pin;
  }

  course_down : (edge : ℕ × Tran) (launch : Named) (time : ℤ) (post : List Named) (rest : ℤ) → IsCourse d kind pin edge launch time post rest
      → (tran : Tran) → (last_of launch post).1 ≡ tran → IsCourseTo d kind (pin, tran) edge launch time post rest
  course_down edge launch time post rest c tran f = record {
    launched = c.launched;
    tail = c.tail;
    ends = (let name = same_is (last_of launch post).0 pin c.ends in λ k. (name k, f k));
  }

  reached_up : (tran : Tran) (s : ℤ) → IsReachedAt d kind (pin, tran) s → IsReached d kind pin s
  reached_up tran s r = record {
    edge = r.edge;
    launch = r.launch;
    time = r.time;
    post = r.post;
    rest = r.rest;
    course = course_up tran r.edge r.launch r.time r.post r.rest r.course;
    test = r.test;
    slack_in = subst (λ (n : Named). Contains (launch_slacks d kind r.launch r.edge (r.time +ℤ r.rest) n) (r.test, s)) (sym r.course.ends) r.slack_in;
  }

  module _ (edge : ℕ × Tran) (launch : Named) (time : ℤ) (post : List Named) (rest : ℤ) (c : IsCourse d kind pin edge launch time post rest) where
    under_at : (tran : Tran) (least : Option ℤ) → IsUnder d kind (pin, tran) least → (last_of launch post).1 ≡ tran
        → (test : Test) (t : ℤ) → Contains (launch_slacks d kind launch edge (time +ℤ rest) (last_of launch post)) (test, t) → IsAtMost least t
    under_at tran least under f test t within =
        let down = course_down edge launch time post rest c tran f in
        under edge launch time post rest down test t
        (subst (λ (n : Named). Contains (launch_slacks d kind launch edge (time +ℤ rest) n) (test, t)) down.ends within)

    -- what is known of each node, of the last of a course
    either : (P : Type 0) → ((last_of launch post).1 ≡ Rise → P) → ((last_of launch post).1 ≡ Fall → P) → P
    either P rise fall = by (last_of launch post).1 refl
      where
        by : (tran : Tran) → (last_of launch post).1 ≡ tran → P
        by Rise f = rise f
        by Fall f = fall f

    -- what is at most the slacks of both nodes is at most those of the pin
    under_pin : (least : Option ℤ) → IsUnder d kind (pin, Rise) least → IsUnder d kind (pin, Fall) least
        → (test : Test) (t : ℤ) → Contains (launch_slacks d kind launch edge (time +ℤ rest) (last_of launch post)) (test, t) → IsAtMost least t
    under_pin least rise fall test t within =
        either (IsAtMost least t) (λ f. under_at Rise least rise f test t within) (λ f. under_at Fall least fall f test t within)

  pub pin_slack_told : (least : Option ℤ) → IsEitherSlack d kind (pin, Rise) (pin, Fall) least → IsLaunchSlack d kind pin least
  pin_slack_told None h = λ edge launch time post rest c.
      no_items (launch_slacks d kind launch edge (time +ℤ rest) (last_of launch post)) (λ slack within.
      under_pin edge launch time post rest c None h.under_one h.under_other slack.0 slack.1 within)
  pin_slack_told (Some s) h = (
    elim (h.its s refl) [ inl r ↦ reached_up Rise s r | inr r ↦ reached_up Fall s r ],
    λ edge launch time post rest c test t within. under_pin edge launch time post rest c (Some s) h.under_one h.under_other test t within,
  )

-- the graph's numbers, with the delays of the arcs that are followed
module _ (g : Graphed) (num : IsNumbered g.stored) (linked : IsLinked g.stored.design) (is : IsGraph g) (t : IsTimed g.stored.design) (kind : Kind) where
  abbrev pub Near_in : ℕ → Type 0
  Near_in n = IsNodeNumber g.stored n

  abbrev pub look_in : ℕ → ℕ → Option ℤ
  look_in a b = followed_delay g kind a b

  steps_forth : (a b : ℕ) (v : ℤ) → followed_delay g kind a b ≡ Some v → IsStep g.stored.design kind (name_told g.stored a) (name_told g.stored b) v
  steps_forth a b v e =
      let u = unless_some (network_at g b) (option_map (turned kind) (arc_numbered g.stored (data_split kind) a b)) v e in
      let k = mapped_back (turned kind) (arc_numbered g.stored (data_split kind) a b) v u.1 in
      let x = then_back (λ n. option_and_then (arc_delay g.stored.design (data_split kind) n) (node_at g.stored b)) (node_at g.stored a) k.0 k.1 in
      let y = then_back (arc_delay g.stored.design (data_split kind) x.0) (node_at g.stored b) k.0 x.2 in
      let one = name_here g.stored a x.0 x.1 in
      let two = name_here g.stored b y.0 y.1 in
      record {
        outside =
            ap (is_network_named g.stored.design) two ∙ network_of g.stored.design t y.0 (inside g num linked is t b y.0 y.1)
            ∙ sym (network_here g num linked is t b y.0 y.1) ∙ u.0;
        delay = k.0;
        takes =
            (λ i. named_delay g.stored.design (data_split kind) (one i) (two i))
            ∙ delay_named g num linked is t (data_split kind) a b x.0 y.0 x.1 y.1 ∙ y.2;
        sign = sym (turned_same kind k.0) ∙ k.2;
      }

  steps_back : (b : ℕ) → Near_in b → is_network_named g.stored.design (name_told g.stored b) ≡ false → (n : Named) (time : ℤ)
      → named_delay g.stored.design (data_split kind) n (name_told g.stored b) ≡ Some time → IsBefore kind look_in Near_in (name_told g.stored) n b time
  steps_back b near out n time e =
      let y = near.its in
      let two = name_here g.stored b near.node y in
      let j = joined_back g.stored.design t (data_split kind) n (name_told g.stored b) time e in
      let from = node_of_name g.stored.design t n j.from j.from_named in
      let p = pin_told g.stored num linked j.from.pin from.0 in
      let k : ℕ = node_number p.0 j.from.tran in
      let x : node_at g.stored k ≡ Some j.from = node_told g.stored j.from k (record { pin = p.0; has = p.1; number = refl }) in
      let name = from.1 in
      let arc : arc_delay g.stored.design (data_split kind) j.from near.node ≡ Some time =
      sym (delay_named g num linked is t (data_split kind) k b j.from near.node x y)
      ∙ (λ i. named_delay g.stored.design (data_split kind) (name i) (sym two i)) ∙ e in
      let off : network_at g b ≡ false =
      network_here g num linked is t b near.node y ∙ sym (network_of g.stored.design t near.node (inside g num linked is t b near.node y))
      ∙ ap (is_network_named g.stored.design) (sym two) ∙ out in
      record {
        number = k;
        near = record { node = j.from; its = x };
        its = name_here g.stored k j.from x ∙ name;
        arc =
            ap (λ (c : Bool). if c then None else option_map (turned kind) (arc_numbered g.stored (data_split kind) k b)) off
            ∙ ap (λ o. option_map (turned kind) (option_and_then (λ a. option_and_then (arc_delay g.stored.design (data_split kind) a) (node_at g.stored b)) o)) x
            ∙ ap (λ o. option_map (turned kind) (option_and_then (arc_delay g.stored.design (data_split kind) j.from) o)) y
            ∙ ap (option_map (turned kind)) arc
            ∙ ap Some (turned_same kind time);
      }

  pub numbers_told : AreNumbers g.stored.design kind look_in Near_in (name_told g.stored)
  numbers_told = record { forth = steps_forth; back = steps_back }

  -- what each node offers for a number
  module _ (offer : ℕ → Option ℤ) (e : ℕ) (end : Node) (its : node_at g.stored e ≡ Some end) (offers : (n : ℕ) → IsNodeOffer g.stored kind n (named end) (offer n)) where
    to : named end ≡ name_told g.stored e
    to = sym (name_here g.stored e end its)

    none : (n : ℕ) → Near_in n → offer n ≡ None → (edge : ℕ × Tran) (time : ℤ) → IsLaunched g.stored.design (data_split kind) edge (name_told g.stored n) time
        → launch_slacks g.stored.design kind (name_told g.stored n) edge time (name_told g.stored e) ≡ []
    none n near f edge time l =
        let here = name_here g.stored n near.node near.its in
        let all = subst (λ (x : Option ℤ). IsNodeOffer g.stored kind n (named end) x) f (offers n) in
        (λ i. launch_slacks g.stored.design kind (here i) edge time (sym to i))
        ∙ all near.node near.its edge time (subst (λ (m : Named). IsLaunched g.stored.design (data_split kind) edge m time) here l)

    some : (n : ℕ) (x : ℤ) → offer n ≡ Some x → IsOffer g.stored.design kind (name_told g.stored n) (name_told g.stored e) x
    some n x f =
        let one = subst (λ (y : Option ℤ). IsNodeOffer g.stored kind n (named end) y) f (offers n) in
        subst (λ (m : Named). IsOffer g.stored.design kind m (name_told g.stored e) x) (sym (name_here g.stored n one.0 one.1))
        (subst (λ (m : Named). IsOffer g.stored.design kind (named one.0) m x) to one.2)

    -- the walks to a number, with what each node offers for it, stand for the paths to its node
    pub slacks_of_node : StandFor (IsNumberSlack look_in offer e) g.stored.design kind (named end)
    slacks_of_node =
        subst (λ (n : Named). StandFor (IsNumberSlack look_in offer e) g.stored.design kind n) (name_here g.stored e end its)
        (slacks_told g.stored.design kind look_in Near_in (name_told g.stored) numbers_told e offer (record { node = end; its = its }) none some)

    -- the walk by numbers of a course to its node
    pub below_node : (edge : ℕ × Tran) (launch : Named) (time : ℤ) (post : List Named) (rest : ℤ) → IsCourseTo g.stored.design kind (name_told g.stored e) edge launch time post rest
        → (test : Test) (t : ℤ) → Contains (launch_slacks g.stored.design kind launch edge (time +ℤ rest) (name_told g.stored e)) (test, t)
        → IsBelow kind look_in Near_in (name_told g.stored) e offer launch post rest t
    below_node = below g.stored.design kind look_in Near_in (name_told g.stored) numbers_told e offer (record { node = end; its = its }) none some
