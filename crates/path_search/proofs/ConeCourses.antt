-- The walks of a cone are the courses of paths to a pin: the least slack of the one is that of the others.

use Rattle.std.proofs.Common.{◌≡◌, ℕ, zero, suc, ◌^◌, ◌<◌, ◌≤◌, ℤ, unsigned_abs, ◌+ℤ◌, ◌-ℤ◌, ◌≤ℤ◌, true, false, List, [], ◌∷◌, ◌++◌, map, length, Option, Some, None, refl, sym, ap, subst, ◌∙◌, arith}
use Rattle.std.specs.Prelude.{◌==◌, Contains, slice_get}
use Rattle.std.specs.Str.{bytes_eq}
use Rattle.std.specs.Ordering.{nat_cmp, is_gt}
use Rattle.std.specs.Cmp.Lexicographic.{slice_cmp}
use Rattle.std.proofs.lemmas.Int.{ints}
use Rattle.std.proofs.lemmas.List.{append_assoc}
use Rattle.timing_defs.specs.declared.kinds.Split.{Split}
use Rattle.timing_defs.specs.declared.kinds.Kind.{Kind}
use Rattle.timing_defs.specs.declared.kinds.Tran.{Tran}
use Rattle.timing_defs.specs.declared.design.Design.{Design}
use Rattle.timing_defs.specs.Netlist.{Node}
use Rattle.timing_rules.specs.Rows.{arrival}
use Rattle.timing_rules.specs.Tests.{Test}
use Rattle.timing_defs.specs.Kinds.{data_split}
use Rattle.timing_rules.specs.Paths.{Named, named_cmp, nodes_cmp, last_of}
use Rattle.worst_walks.specs.declared.cones.Launch.{Launch}
use Rattle.worst_walks.specs.declared.cones.WalkEnd.{WalkEnd}
use Rattle.worst_walks.specs.declared.cones.Cone.{Cone}
use Rattle.worst_walks.specs.declared.cones.Walk.{Walk}
use Rattle.worst_walks.specs.Walks.{count_of, delay_between, walk_sum, whole_list, ranks_along, IsWalk, IsWorst}
use Rattle.worst_walks.proofs.Offers.{walked, joined, end_within}
use Rattle.path_search.specs.Launches.{IsLaunched, IsCourse, begin_names, edge_of_launch, launch_slacks, signed}
use Rattle.path_search.specs.Offers.{IsOffer}
use Rattle.path_search.proofs.PathParts.{map_append}
use Rattle.timing_defs.proofs.Members.{first_in, none_in, in_map, in_map_back}
use Rattle.path_search.proofs.RankLaws.{Each, each_more, each_append, lists_agree}
use Rattle.path_search.proofs.Shifts.{less, slacks_shift}
use Rattle.path_search.proofs.ConeTails.{AreBack, AreSteps, IsPlace, IsPlacedTail, tail_of, walk_of}

-- a launch of paths to an end node, at a place of the cone
pub record IsLaunchPlace (d : Design) (kind : Kind) (cone : Cone) (Near : ℕ → Type 0) (name : ℕ → Named) (end : Named) (launch : Launch) : Type 0 where
  pub low : launch.node < count_of cone
  pub near : Near launch.node
  pub offer : IsOffer d kind (name launch.node) end launch.offer
  pub bounded : unsigned_abs launch.offer ≤ 10 ^ 18

pub record IsOffered (end : WalkEnd) (place : ℕ) : Type 0 where
  pub at : ℕ
  pub launch : Launch
  pub there : slice_get end.launches at ≡ Some launch
  pub node : launch.node ≡ place

-- an end of a cone is a node of the pin, with its launches
pub record IsPinEnd (d : Design) (kind : Kind) (pin : List ℕ) (cone : Cone) (Near : ℕ → Type 0) (name : ℕ → Named) (end : WalkEnd) : Type 0 where
  pub low : end.node < count_of cone
  pub near : Near end.node
  pub aims : bytes_eq (name end.node).0 pin ≡ true
  pub sound : (i : ℕ) (launch : Launch) → slice_get end.launches i ≡ Some launch → IsLaunchPlace d kind cone Near name (name end.node) launch
  pub all : (place : ℕ) → place < count_of cone → Near place → (edge : ℕ × Tran) (time : ℤ) → IsLaunched d (data_split kind) edge (name place) time
      → (launch_slacks d kind (name place) edge time (name end.node) ≡ [] → ⊥) → IsOffered end place

pub record IsEndAt (cone : Cone) (name : ℕ → Named) (n : Named) : Type 0 where
  pub at : ℕ
  pub end : WalkEnd
  pub there : slice_get cone.ends at ≡ Some end
  pub its : name end.node ≡ n

-- a cone of paths to a pin
pub record IsPinCone (d : Design) (kind : Kind) (pin : List ℕ) (cone : Cone) (Near : ℕ → Type 0) (name : ℕ → Named) : Type 0 where
  pub nodes : AreSteps d kind cone Near name
  pub ends : (k : ℕ) (end : WalkEnd) → slice_get cone.ends k ≡ Some end → IsPinEnd d kind pin cone Near name end
  pub each : (n : Named) → bytes_eq n.0 pin ≡ true → IsEndAt cone name n

-- the course of a walk, with a test
pub record IsWalkCourse (d : Design) (kind : Kind) (pin : List ℕ) (cone : Cone) (Near : ℕ → Type 0) (name : ℕ → Named) (walk : Walk) : Type 0 where
  pub end : WalkEnd
  pub end_at : slice_get cone.ends walk.end ≡ Some end
  pub pin_end : IsPinEnd d kind pin cone Near name end
  pub launch : Launch
  pub launch_at : slice_get end.launches walk.launch ≡ Some launch
  pub place : IsLaunchPlace d kind cone Near name (name end.node) launch
  pub more : List ℕ
  pub nodes : walk.nodes ≡ launch.node ∷ more
  pub sum : ℤ
  pub adds : walk_sum ◌==◌ (delay_between cone) end.node launch.node more ≡ Some sum
  pub rest : ℤ
  pub course : IsCourse d kind pin place.offer.edge (name launch.node) place.offer.time (map name more) rest
  pub last : last_of (name launch.node) (map name more) ≡ name end.node
  pub slack : launch.offer -ℤ signed kind rest ≡ walk.slack
  pub slack_in : Contains (launch_slacks d kind (name launch.node) place.offer.edge (place.offer.time +ℤ rest) (last_of (name launch.node) (map name more))) (place.offer.test, walk.slack)
  pub known : Each (IsPlace cone Near) more

-- the walk of a course, of a slack that is at most that of the course
pub record IsCourseWalk (cone : Cone) (Near : ℕ → Type 0) (name : ℕ → Named) (launch : Named) (post : List Named) (t : ℤ) : Type 0 where
  pub walk : Walk
  pub is : IsWalk cone walk
  pub low : walk.slack ≤ℤ t
  pub place : ℕ
  pub near : IsPlace cone Near place
  pub its : name place ≡ launch
  pub more : List ℕ
  pub nodes : walk.nodes ≡ place ∷ more
  pub names : map name more ≡ post
  pub known : Each (IsPlace cone Near) more

pub past : {X : Type 0} (k : ℕ) (xs : List X) → k < length xs → slice_get xs k ≡ None → ⊥
past k [] low e = omega (arith, low)
past zero (x ∷ xs) low e = cc
past (suc k) (x ∷ xs) low e = past k xs (omega (arith, low)) e

pub lower : (offer first rest t : ℤ) → offer ≤ℤ first → first -ℤ rest ≡ t → (offer -ℤ rest) ≤ℤ t
lower offer first rest t low e = omega (arith, ints)

pub lowest : (s w t : ℤ) → s ≤ℤ w → w ≤ℤ t → s ≤ℤ t
lowest s w t a b = omega (arith, ints)

between : (w s : ℤ) → w ≤ℤ s → s ≤ℤ w → w ≡ s
between w s a b = omega (arith, ints)

pub no_items : {X : Type 0} (xs : List X) → ((x : X) → Contains xs x → ⊥) → xs ≡ []
no_items [] none = refl
no_items (x ∷ xs) none = absurd (none x (first_in x xs))

some_same : {X : Type 0} {x y : X} → Some x ≡ Some y → x ≡ y
some_same e = cc

-- a launch node arrives on one edge at one time
pub launched_once : (d : Design) (split : Split) (e f : ℕ × Tran) (launch : Named) (t u : ℤ) → IsLaunched d split e launch t → IsLaunched d split f launch u → (e ≡ f) × (t ≡ u)
launched_once d split e f launch t u a b =
    let node : a.node ≡ b.node = some_same (sym a.its ∙ b.its) in
    let edge : e ≡ f = some_same (sym a.edge_is ∙ ap (λ (n : Node). edge_of_launch d split launch n) node ∙ b.edge_is) in
    (edge, some_same (sym a.arrives ∙ (λ k. arrival d split (node k) (edge k)) ∙ b.arrives))

-- a slack of a course is that of its launch node alone, less the delays
pub record IsUnshifted (d : Design) (kind : Kind) (launch : Named) (edge : ℕ × Tran) (time rest : ℤ) (end : Named) (test : Test) (t : ℤ) : Type 0 where
  pub first : ℤ
  pub within : Contains (launch_slacks d kind launch edge time end) (test, first)
  pub is : first -ℤ signed kind rest ≡ t

pub unshifted : (d : Design) (kind : Kind) (launch : Named) (edge : ℕ × Tran) (time rest : ℤ) (end : Named) (test : Test) (t : ℤ)
    → Contains (launch_slacks d kind launch edge (time +ℤ rest) end) (test, t) → IsUnshifted d kind launch edge time rest end test t
unshifted d kind launch edge time rest end test t c =
    let m = in_map_back (less kind rest) (launch_slacks d kind launch edge time end) (test, t)
    (subst (λ (xs : List (Test × ℤ)). Contains xs (test, t)) (slacks_shift d kind launch edge time rest end) c) in
    let first : ℤ = m.item.1 in
    let same : m.item.0 ≡ test = ap (λ (x : Test × ℤ). x.0) m.same in
    record {
      first = first;
      within = subst (λ (x : Test). Contains (launch_slacks d kind launch edge time end) (x, first)) same m.within;
      is = ap (λ (x : Test × ℤ). x.1) m.same;
    }

pub shifted : (d : Design) (kind : Kind) (launch : Named) (edge : ℕ × Tran) (time rest : ℤ) (end : Named) (test : Test) (first : ℤ)
    → Contains (launch_slacks d kind launch edge time end) (test, first) → Contains (launch_slacks d kind launch edge (time +ℤ rest) end) (test, first -ℤ signed kind rest)
shifted d kind launch edge time rest end test first c =
    subst (λ (xs : List (Test × ℤ)). Contains xs (test, first -ℤ signed kind rest)) (sym (slacks_shift d kind launch edge time rest end))
    (in_map (less kind rest) (launch_slacks d kind launch edge time end) (test, first) c)

pub nothing_in : {X : Type 0} (xs : List X) (x : X) → Contains xs x → xs ≡ [] → ⊥
nothing_in {X} xs x c e = none_in x (subst (λ (ys : List X). Contains ys x) e c)

module _ (d : Design) (kind : Kind) (pin : List ℕ) (cone : Cone) (Near : ℕ → Type 0) (name : ℕ → Named) (is : IsPinCone d kind pin cone Near name) where
  pub course_of : (walk : Walk) → IsWalk cone walk → IsWalkCourse d kind pin cone Near name walk
  course_of walk w = by (slice_get cone.ends walk.end) refl
    where
      at_end : (end : WalkEnd) → slice_get cone.ends walk.end ≡ Some end → IsWalkCourse d kind pin cone Near name walk
      at_end end at =
          let its = is.ends walk.end end at in
          let v = walked cone walk.end end walk at (w, refl) in
          let place = its.sound walk.launch v.launch v.at in
          let t = tail_of d kind cone Near name is.nodes end.node its.low v.launch.node v.listed.rest v.listed.sum v.listed.adds in
          let slack : v.launch.offer -ℤ signed kind t.rest ≡ walk.slack = ap (λ (x : ℤ). v.launch.offer -ℤ x) t.sign ∙ v.listed.is in
          let at_last = shifted d kind (name v.launch.node) place.offer.edge place.offer.time t.rest (name end.node) place.offer.test v.launch.offer place.offer.within in
          record {
            end = end;
            end_at = at;
            pin_end = its;
            launch = v.launch;
            launch_at = v.at;
            place = place;
            more = v.listed.rest;
            nodes = v.listed.whole;
            sum = v.listed.sum;
            adds = v.listed.adds;
            rest = t.rest;
            course = record { launched = place.offer.launched; tail = t.tail; ends = ap (λ (n : Named). bytes_eq n.0 pin) t.last ∙ its.aims };
            last = t.last;
            slack = slack;
            slack_in =
                subst
                (λ (n : Named). Contains (launch_slacks d kind (name v.launch.node) place.offer.edge (place.offer.time +ℤ t.rest) n) (place.offer.test, walk.slack)) (sym t.last)
                (subst
                (λ (x : ℤ). Contains (launch_slacks d kind (name v.launch.node) place.offer.edge (place.offer.time +ℤ t.rest) (name end.node)) (place.offer.test, x)) slack
                at_last);
            known = t.known;
          }

      by : (o : Option WalkEnd) → slice_get cone.ends walk.end ≡ o → IsWalkCourse d kind pin cone Near name walk
      by (Some end) e = at_end end e
      by None e = absurd (past walk.end cone.ends (end_within cone walk w) e)

  module _ (edge : ℕ × Tran) (launch : Named) (time : ℤ) (post : List Named) (rest : ℤ) (c : IsCourse d kind pin edge launch time post rest)
      (test : Test) (t : ℤ) (within : Contains (launch_slacks d kind launch edge (time +ℤ rest) (last_of launch post)) (test, t)) where
    -- a course whose tail is in the cone is a walk of it
    pub walk_of_tail : (to : IsEndAt cone name (last_of launch post)) → IsPlacedTail kind cone Near name to.end.node launch post rest → IsCourseWalk cone Near name launch post t
    walk_of_tail to p =
        let its = is.ends to.at to.end to.there in
        let u = unshifted d kind launch edge time rest (last_of launch post) test t within in
        let launched : IsLaunched d (data_split kind) edge (name p.place) time = subst (λ (n : Named). IsLaunched d (data_split kind) edge n time) (sym p.its) c.launched in
        let inside : Contains (launch_slacks d kind (name p.place) edge time (name to.end.node)) (test, u.first) =
        subst (λ (n : Named). Contains (launch_slacks d kind n edge time (name to.end.node)) (test, u.first)) (sym p.its)
        (subst (λ (n : Named). Contains (launch_slacks d kind launch edge time n) (test, u.first)) (sym to.its) u.within) in
        let o = its.all p.place p.low p.near edge time launched (nothing_in (launch_slacks d kind (name p.place) edge time (name to.end.node)) (test, u.first) inside) in
        let offer : IsOffer d kind (name p.place) (name to.end.node) o.launch.offer =
        subst (λ (n : ℕ). IsOffer d kind (name n) (name to.end.node) o.launch.offer) o.node (its.sound o.at o.launch o.there).offer in
        let once = launched_once d (data_split kind) edge offer.edge (name p.place) time offer.time launched offer.launched in
        let edge_same = once.0 in
        let time_same = once.1 in
        let low : o.launch.offer ≤ℤ u.first =
        offer.least test u.first
        (subst (λ (e : ℕ × Tran). Contains (launch_slacks d kind (name p.place) e offer.time (name to.end.node)) (test, u.first)) edge_same
        (subst (λ (x : ℤ). Contains (launch_slacks d kind (name p.place) edge x (name to.end.node)) (test, u.first)) time_same inside)) in
        let node = o.node in
        let first_is = u.is in
        let below : (o.launch.offer -ℤ signed kind rest) ≤ℤ t = lower o.launch.offer u.first (signed kind rest) t low first_is in
        record {
          walk = record { slack = o.launch.offer -ℤ signed kind rest; launch = o.at; end = to.at; nodes = o.launch.node ∷ p.more };
          is =
              joined cone to.at o.at to.end o.launch p.more (signed kind rest) to.there o.there
              (subst (λ (n : ℕ). walk_sum ◌==◌ (delay_between cone) to.end.node n p.more ≡ Some (signed kind rest)) (sym node) p.adds);
          low = below;
          place = p.place;
          near = (p.low, p.near);
          its = p.its;
          more = p.more;
          nodes = ap (λ (n : ℕ). n ∷ p.more) node;
          names = p.names;
          known = p.known;
        }

    -- all courses are walks of a whole cone
    pub walk_of_course : AreBack d kind cone Near name → IsCourseWalk cone Near name launch post t
    walk_of_course whole =
        let to = is.each (last_of launch post) c.ends in
        let its = is.ends to.at to.end to.there in
        walk_of_tail to (walk_of d kind cone Near name whole to.end.node its.low its.near launch post rest (sym to.its) c.tail)

-- how the ranks of a cone's numbers are those of the names
pub record IsNaming (d : Design) (split : Split) (cone : Cone) (Near Known : ℕ → Type 0) (name : ℕ → Named) (rank : ℕ → ℕ) (before : ℕ → List ℕ) : Type 0 where
  pub places : (n : ℕ) → IsPlace cone Near n → Known n
  pub compared : (a b : ℕ) → Known a → Known b → nat_cmp (rank a) (rank b) ≡ named_cmp (name a) (name b)
  pub names : (n : ℕ) → IsPlace cone Near n → (edge : ℕ × Tran) (time : ℤ) → IsLaunched d split edge (name n) time → map name (before n) ++ name n ∷ [] ≡ begin_names d (name n)
  pub known : (n : ℕ) → IsPlace cone Near n → Each Known (before n)

module _ (d : Design) (split : Split) (cone : Cone) (Near Known : ℕ → Type 0) (name : ℕ → Named) (rank : ℕ → ℕ) (before : ℕ → List ℕ) (is : IsNaming d split cone Near Known name rank before) where
  -- the names of a walk and of the nodes before it are a path
  pub whole_named : (n : ℕ) (ms : List ℕ) → IsPlace cone Near n → (edge : ℕ × Tran) (time : ℤ) → IsLaunched d split edge (name n) time → map name (whole_list before (n ∷ ms)) ≡ begin_names d (name n) ++ map name ms
  whole_named n ms p edge time l =
      map_append name (before n) (n ∷ ms)
      ∙ sym (append_assoc (map name (before n)) (name n ∷ []) (map name ms))
      ∙ ap (λ (xs : List Named). xs ++ map name ms) (is.names n p edge time l)

  pub whole_known : (n : ℕ) (ms : List ℕ) → IsPlace cone Near n → Each (IsPlace cone Near) ms → Each Known (whole_list before (n ∷ ms))
  whole_known n ms p each =
      each_append Known (before n) (n ∷ ms) (is.known n p) (is.places n p, each_more (IsPlace cone Near) Known is.places ms each)

  -- walks are in the order of their paths
  pub walks_agree : (n m : ℕ) (ns ms : List ℕ) → IsPlace cone Near n → IsPlace cone Near m → Each (IsPlace cone Near) ns → Each (IsPlace cone Near) ms
      → (edge : ℕ × Tran) (time : ℤ) → IsLaunched d split edge (name n) time → (other : ℕ × Tran) (late : ℤ) → IsLaunched d split other (name m) late
      → slice_cmp nat_cmp (map rank (whole_list before (n ∷ ns))) (map rank (whole_list before (m ∷ ms)))
      ≡ nodes_cmp (begin_names d (name n) ++ map name ns) (begin_names d (name m) ++ map name ms)
  walks_agree n m ns ms p q a b edge time l other late o =
      let first = whole_named n ns p edge time l in
      let second = whole_named m ms q other late o in
      lists_agree nat_cmp named_cmp rank name Known is.compared (whole_list before (n ∷ ns)) (whole_list before (m ∷ ms)) (whole_known n ns p a) (whole_known m ms q b)
      ∙ (λ k. nodes_cmp (first k) (second k))

-- the walk of a course of the slack of the worst walk doesn't come before it
module _ (d : Design) (kind : Kind) (pin : List ℕ) (cone : Cone) (Near Known : ℕ → Type 0) (name : ℕ → Named) (rank : ℕ → ℕ) (before : ℕ → List ℕ)
    (is : IsNaming d (data_split kind) cone Near Known name rank before) where
  pub first_told : (worst : Walk) (w : IsWorst rank before cone (Some worst)) (v : IsWalkCourse d kind pin cone Near name worst)
      → (edge : ℕ × Tran) (launch : Named) (time : ℤ) → IsLaunched d (data_split kind) edge launch time → (post : List Named) → IsCourseWalk cone Near name launch post worst.slack
      → is_gt (nodes_cmp (begin_names d (name v.launch.node) ++ map name v.more) (begin_names d launch ++ post)) ≡ false
  first_told worst w v edge launch time launched post u =
      let most = w.1 u.walk u.is in
      let tie : u.walk.slack ≡ worst.slack = between u.walk.slack worst.slack u.low most.0 in
      let after = most.1 tie in
      let here = v.nodes in
      let there = u.nodes in
      let lists : slice_cmp nat_cmp (ranks_along rank before worst) (ranks_along rank before u.walk)
      ≡ slice_cmp nat_cmp (map rank (whole_list before (v.launch.node ∷ v.more))) (map rank (whole_list before (u.place ∷ u.more))) =
      λ k. slice_cmp nat_cmp (map rank (whole_list before (here k))) (map rank (whole_list before (there k))) in
      let its = u.its in
      let names = u.names in
      sym (ap is_gt (lists ∙ walks_agree d (data_split kind) cone Near Known name rank before is v.launch.node u.place v.more u.more (v.place.low, v.place.near) u.near v.known u.known v.place.offer.edge v.place.offer.time v.place.offer.launched edge time (subst (λ (n : Named). IsLaunched d (data_split kind) edge n time) (sym its) launched)
      ∙ (λ k. nodes_cmp (begin_names d (name v.launch.node) ++ map name v.more) (begin_names d (its k) ++ names k))))
      ∙ after
