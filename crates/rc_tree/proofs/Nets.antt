-- What the fault of a net is, and what its tree tells.
use Rattle.std.proofs.Common.{◌≡◌, ℕ, zero, suc, ◌+◌, ◌-◌, ◌*◌, ◌<◌, ◌≤◌, ◌^◌, ◌==◌, nat_lt, pos, negsuc, ◌+ℤ◌, ◌-ℤ◌, ◌*ℤ◌, nat_abs, Bool, true, false, not, cond, ◌&&◌, ◌||◌, if◌then◌else◌, List, [], ◌∷◌, ◌++◌, map, length, get_or, Option, None, Some, is_some, refl, ap, sym, subst, ◌∙◌, arith, inl, inr, ◌⊎◌, Result, Ok, Err, IfErr}
use Rattle.std.specs.List.{AllByRecursion, list_all, flat_map}
use Rattle.std.specs.Option.{unwrap_or}
use Rattle.std.specs.Result.{IsErrAnd}
use Rattle.std.proofs.lemmas.Bool.{false≢true, cases_eq, cases_lt, lt-ltb, le-ltb, eqb-true, le-leb, lt-leb}
use Rattle.std.proofs.lemmas.List.{length-map}
use Rattle.sta_units.specs.Numbers.{rounded, limit, is_within}
use Rattle.timing_defs.specs.declared.parasitics.RcNode.{RcNode}
use Rattle.timing_defs.specs.declared.parasitics.RcNode.TheVariants.{Pin as rc_pin, Inner as rc_inner}
use Rattle.timing_defs.specs.declared.parasitics.RcRes.{RcRes}
use Rattle.timing_defs.specs.declared.parasitics.NetRc.{NetRc}
use Rattle.timing_defs.specs.declared.rows.PinCap.{PinCap}
use Rattle.timing_defs.specs.Wires.{sum_of, same_rc, res_of, path_between, elmore, second_moment, impulse, not_negative, is_lumped}
use Rattle.timing_defs.specs.NetChecks.{has_cycle, named_nodes}
use Rattle.rc_tree.specs.declared.faults.RcFault.{RcFault}
use Rattle.rc_tree.specs.declared.faults.RcFault.TheVariants.{Loop, Unreached, TooLarge, OutOfRange, Memory}
use Rattle.rc_tree.specs.declared.segments.Segment.{Segment}
use Rattle.rc_tree.specs.declared.forests.Row.{Row}
use Rattle.rc_tree.specs.declared.forests.Forest.{Forest}
use Rattle.rc_tree.specs.declared.wires.Wire.{Wire}
use Rattle.rc_tree.specs.Trees.{is_node, is_amount, pin_charges, tree_nodes, is_unreached, is_too_large, is_out_of_range, total_load, delay_of, impulse_of, rc_fault, IsFaultOf, IsTreeOf, IsMeasured}
use Rattle.rc_tree.specs.Numbering.{node_at, AreApart, IsJoined}
use Rattle.rc_tree.specs.Growth.{wired, AreSegments, segment_at, row_at, place_of}
use Rattle.rc_tree.specs.Ends.{IsResistorOf}
use Rattle.rc_tree.specs.Loops.{IsFound}
use Rattle.rc_tree.specs.Moments.{weight_at, moment_at}
use Rattle.rc_tree.specs.Weights.{cap_of, sum_nat, IsWeighed}
use Rattle.rc_tree.specs.Wiring.{micro, delay_at, IsOver, wire_at, IsLimited, AreWires, IsForestOf, is_whole, is_reached}
use Rattle.rc_tree.proofs.Routes.{all_right, all_more, same_rc_is, same_rc_self}
use Rattle.rc_tree.proofs.Growing.{node_of}
use Rattle.rc_tree.proofs.Bridge.{IsRooted, place_there, there_placed, free_of_loops, sum_of_nat}
use Rattle.rc_tree.proofs.Bounds.{rooted_whole, rooted_lumped}
use Rattle.rc_tree.proofs.Weighing.{amount_is, weights_total}
use Rattle.rc_tree.proofs.Whole.{all_true, one_false, all_reached, not_reached, count_of_nodes, delay_is, second_is}

-- an error that `?` passes on
pub passed_up : {T E : Type 0} (r : Result T E) (e : E) (P : E → Type 0) → IsErrAnd r (λ y. y ≡ e) → P e → IfErr r P
passed_up (Ok x) e P is p = absurd is
passed_up (Err y) e P is p = subst P (sym is) p

-- the first fault by its four tests
abbrev pub pick : Bool → Bool → Bool → Bool → Option RcFault
pick a b c d = (if a then Some Loop else (if b then Some Unreached else (if c then Some TooLarge else (if d then Some OutOfRange else None))))

pub pick_loop : (a b c d : Bool) → a ≡ true → pick a b c d ≡ Some Loop
pick_loop true b c d e = refl
pick_loop false b c d e = absurd (false≢true e)

pub pick_unreached : (a b c d : Bool) → a ≡ false → b ≡ true → pick a b c d ≡ Some Unreached
pick_unreached true b c d e h = absurd (false≢true (sym e))
pick_unreached false true c d e h = refl
pick_unreached false false c d e h = absurd (false≢true h)

pub pick_large : (a b c d : Bool) → a ≡ false → b ≡ false → c ≡ true → pick a b c d ≡ Some TooLarge
pick_large a b c d e h k = rw (e, h, k) refl

pub pick_range : (a b c d : Bool) → a ≡ false → b ≡ false → c ≡ false → d ≡ true → pick a b c d ≡ Some OutOfRange
pick_range a b c d e h k m = rw (e, h, k, m) refl

pub pick_none : (a b c d : Bool) → a ≡ false → b ≡ false → c ≡ false → d ≡ false → pick a b c d ≡ None
pick_none a b c d e h k m = rw (e, h, k, m) refl

-- members
or_right_true : (a b : Bool) → b ≡ true → (a || b) ≡ true
or_right_true true b h = refl
or_right_true false b h = h

self_there : (xs : List RcNode) → AllByRecursion (λ x. is_node xs x ≡ true) xs
self_there [] = tt
self_there (x ∷ xs) = (rw (same_rc_self x) refl, all_more (λ y. is_node xs y ≡ true) (λ y. is_node (x ∷ xs) y ≡ true) (λ y h. or_right_true (same_rc y x) (is_node xs y) h) xs (self_there xs))

tree_there : (net : NetRc) (root : List ℕ) (pins : List PinCap) (nodes : List RcNode) → IsJoined [] (tree_nodes net root pins) nodes → AllByRecursion (λ x. is_node nodes x ≡ true) (tree_nodes net root pins)
tree_there net root pins nodes j =
    all_more (λ x. is_node (tree_nodes net root pins) x ≡ true) (λ x. is_node nodes x ≡ true) (λ x h. j.members x ∙ h) (tree_nodes net root pins) (self_there (tree_nodes net root pins))

named_there : (net : NetRc) (root : List ℕ) (pins : List PinCap) (nodes : List RcNode) → IsJoined [] (tree_nodes net root pins) nodes → AllByRecursion (λ x. is_node nodes x ≡ true) (named_nodes net)
named_there net root pins nodes j =
    all_right (λ x. is_node nodes x ≡ true) (if is_lumped net then map (λ p. rc_pin p.pin) pins else []) (named_nodes net) (tree_there net root pins nodes j).1

ends_there : (nodes : List RcNode) (ress : List RcRes) (rest : List RcNode) → AllByRecursion (λ x. is_node nodes x ≡ true) (flat_map (λ r. r.a ∷ r.b ∷ []) ress ++ rest) → AllByRecursion (λ r. is_amount r.res.0 ≡ true) ress
    → AllByRecursion (IsResistorOf nodes) ress
ends_there nodes [] rest a b = tt
ends_there nodes (r ∷ ress) rest a b = ((a.0, a.1.0, b.0), ends_there nodes ress rest a.1.1 b.1)

pub resistors_there : (net : NetRc) (root : List ℕ) (pins : List PinCap) (nodes : List RcNode) → IsJoined [] (tree_nodes net root pins) nodes → IsMeasured net root pins → AllByRecursion (IsResistorOf nodes) net.ress
resistors_there net root pins nodes j m = ends_there nodes net.ress (map (λ c. c.node) net.caps) (named_there net root pins nodes j) m.resistances

-- numbers
amount_low : (n : ℕ) → is_amount (pos n) ≡ true → n ≤ 10 ^ 12
amount_low n h = elim (cases_lt limit n) [
  | inl more ↦ absurd (false≢true (sym (ap not (lt-ltb limit n more)) ∙ h))
  | inr less ↦ less
]

seg_small : (nodes : List RcNode) (segments : List Segment) (k : ℕ) → k < length segments → AllByRecursion (λ r. is_amount r.res.0 ≡ true) (map (wired nodes) segments) → (segment_at segments k).res ≤ 10 ^ 12
seg_small nodes [] k l a = absurd (omega arith)
seg_small nodes (s ∷ ss) zero l a = amount_low s.res a.0
seg_small nodes (s ∷ ss) (suc k) l a = seg_small nodes ss k (omega arith) a.1

pub within_is : (n : ℕ) → n ≤ 10 ^ 12 → is_within (pos n) ≡ true
within_is n l = le-leb n limit l

pub beyond_is : (n : ℕ) → 10 ^ 12 < n → is_within (pos n) ≡ false
beyond_is n l = lt-leb n limit l

rounded_pos : (n : ℕ) → rounded (pos n) (pos (10 ^ 6)) ≡ pos (micro n)
unfolding rounded
rounded_pos n = refl

kept : (n : ℕ) → not_negative (pos n) ≡ pos n
kept n = ap (λ t. if t then pos 0 else pos n) (le-ltb n 0 (omega arith))

cut : (a b : ℕ) → not_negative (pos a -ℤ pos b) ≡ pos (a - b)
cut a zero = kept (a + 0) ∙ ap pos (let z : a + 0 ≡ a - 0 = omega arith in z)
cut a (suc b) = elim (cases_lt a (suc b)) [
  | inl less ↦
      ap (λ t. not_negative (cond t (negsuc (suc b - suc a)) (pos (a - suc b)))) (lt-ltb a (suc b) less)
      ∙ ap pos (let z : 0 ≡ a - suc b = omega arith in z)
  | inr more ↦ ap (λ t. not_negative (cond t (negsuc (suc b - suc a)) (pos (a - suc b)))) (le-ltb a (suc b) more) ∙ kept (a - suc b)
]

same_lists : {X Y Z : Type 0} (g : X → Z) (h : Y → Z) (xs : List X) (ys : List Y) (dx : X) (dy : Y) → length xs ≡ length ys → ((u : ℕ) → u < length ys → g (get_or xs u dx) ≡ h (get_or ys u dy)) → map g xs ≡ map h ys
same_lists g h [] [] dx dy l e = refl
same_lists g h [] (y ∷ ys) dx dy l e = absurd (omega arith)
same_lists g h (x ∷ xs) [] dx dy l e = absurd (omega arith)
same_lists {X} {Y} {Z} g h (x ∷ xs) (y ∷ ys) dx dy l e =
    ap (λ z. z ∷ map g xs) (e 0 (omega arith))
    ∙ ap (λ zs. h y ∷ zs) (same_lists g h xs ys dx dy (omega arith) (λ u k. e (suc u) (let low : u < length ys = k in omega arith)))

map_both : {X Y Z : Type 0} (g : Y → Z) (f : X → Y) (xs : List X) → map g (map f xs) ≡ map (λ x. g (f x)) xs
map_both g f [] = refl
map_both g f (x ∷ xs) = ap (λ zs. g (f x) ∷ zs) (map_both g f xs)

or_left : (a b c : Bool) → (a || b) ≡ true → (a || b || c) ≡ true
or_left true b c h = refl
or_left false true c h = refl
or_left false false c h = absurd (false≢true h)

or_last : (a b c : Bool) → c ≡ true → (a || b || c) ≡ true
or_last true b c h = refl
or_last false true c h = refl
or_last false false c h = h

or_no : (a b c : Bool) → a ≡ false → b ≡ false → c ≡ false → (a || b || c) ≡ false
or_no a b c e h k = rw (e, h, k) refl

pub loop_fault : (net : NetRc) (root : List ℕ) (pins : List PinCap) (fault : RcFault) → (fault ≡ Memory) ⊎ ((fault ≡ Loop) × (has_cycle net ≡ true)) → IsFaultOf net root pins fault
loop_fault net root pins fault (inl e) = inl e
loop_fault net root pins fault (inr p) = inr (pick_loop (has_cycle net) (is_unreached net root) (is_too_large net root pins) (is_out_of_range net root pins) p.1 ∙ ap Some (sym p.0))

module _ (net : NetRc) (root : List ℕ) (pins : List PinCap) (nodes : List RcNode) (f : Forest) (joined : IsJoined [] (tree_nodes net root pins) nodes) (apart : AreApart nodes) (first : node_at nodes 0 ≡ rc_pin root)
    (forest : IsForestOf nodes net.ress f) where
  abbrev wires : AreSegments nodes net.ress forest.0
  wires = forest.1.0

  abbrev found : IsFound forest.0 (length nodes) f
  found = forest.1.1

  some_node : 0 < length nodes
  some_node = by nodes first
    where
      by : (ns : List RcNode) → node_at ns 0 ≡ rc_pin root → 0 < length ns
      by [] e = absurd (false≢true (ap (same_rc (rc_pin root)) e ∙ same_rc_self (rc_pin root)))
      by (n ∷ ns) e = omega arith

  some_place : 0 < length f.rows.items
  some_place = by (place_of f 0) refl
    where
      by : (o : Option ℕ) → place_of f 0 ≡ o → 0 < length f.rows.items
      by None o = absurd (false≢true (ap is_some (sym o) ∙ found.all 0 some_node))
      by (Some j) o = (let l : j < length f.rows.items = (found.grown.back 0 j o).0 in omega arith)

  root_is : node_of nodes f 0 ≡ rc_pin root
  root_is = ap (node_at nodes) (found.first some_node) ∙ first

  -- whether each node is reached
  all_home : (rows : List Row) → is_whole rows ≡ true → (j : ℕ) → j < length rows → (row_at rows j).home ≡ 0
  all_home [] h j l = absurd (omega arith)
  all_home (r ∷ rows) h j l = by (r.home == 0) refl h j l (λ k a b. all_home rows k a b)
    where
      by : (b : Bool) → (r.home == 0) ≡ b → (b && is_whole rows) ≡ true → (j : ℕ) → j < suc (length rows) → (is_whole rows ≡ true → (k : ℕ) → k < length rows → (row_at rows k).home ≡ 0) → (row_at (r ∷ rows) j).home ≡ 0
      by true e h zero l rest = eqb-true r.home 0 e
      by true e h (suc j) l rest = rest h j (omega arith)
      by false e h j l rest = absurd (false≢true h)

  some_other : (rows : List Row) → is_whole rows ≡ false → (j : ℕ) × ((j < length rows) × ((row_at rows j).home ≡ 0 → ⊥))
  some_other [] h = absurd (false≢true (sym h))
  some_other (r ∷ rows) h = elim (cases_eq r.home 0) [
    | inl e ↦ (let more = some_other rows (sym (ap (λ n. (n == 0) && is_whole rows) e) ∙ h) in (suc more.0, ((let l : more.0 < length rows = more.1.0 in omega arith), more.1.1)))
    | inr un ↦ (0, (omega arith, un))
  ]

  pub rooted_is : is_reached net f.rows.items ≡ true → IsRooted nodes net.ress forest.0 f apart wires found
  rooted_is h = by (is_lumped net) refl h
    where
      by : (b : Bool) → is_lumped net ≡ b → (b || is_whole f.rows.items) ≡ true → IsRooted nodes net.ress forest.0 f apart wires found
      by true e h =
          rooted_lumped nodes net.ress forest.0 f apart wires found
          (sym (length-map forest.0 (wired nodes)) ∙ ap length forest.1.0.0 ∙ eqb-true (length net.ress) 0 e)
      by false e h = rooted_whole nodes net.ress forest.0 f apart wires found (all_home f.rows.items h)

  pub reached_yes : is_reached net f.rows.items ≡ true → is_unreached net root ≡ false
  reached_yes h = by (is_lumped net) refl h
    where
      by : (b : Bool) → is_lumped net ≡ b → (b || is_whole f.rows.items) ≡ true → (not b && not (list_all (λ node. is_some (path_between net.ress (rc_pin root) node)) (named_nodes net))) ≡ false
      by true e h = refl
      by false e h =
          ap not (subst (λ r. list_all (λ node. is_some (path_between net.ress r node)) (named_nodes net) ≡ true) root_is
          (all_reached nodes net forest.0 f apart wires found (all_home f.rows.items h) (named_nodes net) (named_there net root pins nodes joined)))

  named_other : (j : ℕ) → j < length f.rows.items → ((row_at f.rows.items j).home ≡ 0 → ⊥) → is_lumped net ≡ false → is_node (named_nodes net) (node_of nodes f j) ≡ true
  named_other j l un e = by (same_rc (node_of nodes f j) (rc_pin root)) refl (sym (joined.members (node_of nodes f j)) ∙ there_placed nodes net.ress forest.0 f apart wires found j l)
    where
      same_place : node_of nodes f j ≡ rc_pin root → ⊥
      same_place q =
          let z : (row_at f.rows.items j).node ≡ 0 = apart (row_at f.rows.items j).node 0 (found.grown.placed j l).0 some_node (q ∙ sym first) in
          un (by_place (found.grown.placed j l).1 (found.grown.placed 0 some_place).1 (z ∙ sym (found.first some_node)))
        where
          by_place : place_of f (row_at f.rows.items j).node ≡ Some j → place_of f (row_at f.rows.items 0).node ≡ Some 0 → (row_at f.rows.items j).node ≡ (row_at f.rows.items 0).node → (row_at f.rows.items j).home ≡ 0
          by_place a b z =
              let e : Some j ≡ Some 0 = sym a ∙ ap (place_of f) z ∙ b in
              let s : j ≡ 0 = ap (λ o. unwrap_or o 0) e in
              ap (λ (k : ℕ). (row_at f.rows.items k).home) s ∙ found.grown.own_home 0 some_place (free_of_loops nodes net.ress forest.0 f apart wires found some_place)

      by : (b : Bool) → same_rc (node_of nodes f j) (rc_pin root) ≡ b
          → (same_rc (node_of nodes f j) (rc_pin root) || is_node ((if is_lumped net then map (λ p. rc_pin p.pin) pins else []) ++ named_nodes net) (node_of nodes f j)) ≡ true → is_node (named_nodes net) (node_of nodes f j) ≡ true
      by true s h = absurd (same_place (same_rc_is (node_of nodes f j) (rc_pin root) s))
      by false s h =
          sym (ap (λ t. is_node ((if t then map (λ p. rc_pin p.pin) pins else []) ++ named_nodes net) (node_of nodes f j)) e)
          ∙ sym (ap (λ t. t || is_node ((if is_lumped net then map (λ p. rc_pin p.pin) pins else []) ++ named_nodes net) (node_of nodes f j)) s) ∙ h

  pub reached_no : is_reached net f.rows.items ≡ false → is_unreached net root ≡ true
  reached_no h = by (is_lumped net) refl h
    where
      by : (b : Bool) → is_lumped net ≡ b → (b || is_whole f.rows.items) ≡ false → (not b && not (list_all (λ node. is_some (path_between net.ress (rc_pin root) node)) (named_nodes net))) ≡ true
      by true e h = absurd (false≢true (sym h))
      by false e h =
          let o = some_other f.rows.items h in
          ap not (subst (λ r. list_all (λ node. is_some (path_between net.ress r node)) (named_nodes net) ≡ false) root_is
          (not_reached nodes net forest.0 f apart wires found o.0 o.1.0 o.1.1 (named_nodes net) (named_other o.0 o.1.0 o.1.1 e)))

  pub large_no : length nodes ≤ 65535 → is_too_large net root pins ≡ false
  large_no l = ap (nat_lt 65535) (count_of_nodes (tree_nodes net root pins) nodes joined) ∙ le-ltb 65535 (length nodes) l

  pub large_yes : 65535 < length nodes → is_too_large net root pins ≡ true
  large_yes l = ap (nat_lt 65535) (count_of_nodes (tree_nodes net root pins) nodes joined) ∙ lt-ltb 65535 (length nodes) l

  pub unreached_fault : (fault : RcFault) → has_cycle net ≡ false → (fault ≡ Unreached) × (is_reached net f.rows.items ≡ false) → IsFaultOf net root pins fault
  unreached_fault fault a p =
      inr (pick_unreached (has_cycle net) (is_unreached net root) (is_too_large net root pins) (is_out_of_range net root pins) a (reached_no p.1) ∙ ap Some (sym p.0))

  pub large_fault : (fault : RcFault) → has_cycle net ≡ false → is_reached net f.rows.items ≡ true → (fault ≡ TooLarge) × (65535 < length nodes) → IsFaultOf net root pins fault
  large_fault fault a r p =
      inr (pick_large (has_cycle net) (is_unreached net root) (is_too_large net root pins) (is_out_of_range net root pins) a (reached_yes r) (large_yes p.1) ∙ ap Some (sym p.0))

  pub total_fault : (fault : RcFault) → has_cycle net ≡ false → is_reached net f.rows.items ≡ true → length nodes ≤ 65535
      → (fault ≡ OutOfRange) × ((not (is_within (sum_of res_of net.ress)) || not (is_within (total_load net pins))) ≡ true) → IsFaultOf net root pins fault
  total_fault fault a r few p =
      inr (pick_range (has_cycle net) (is_unreached net root) (is_too_large net root pins) (is_out_of_range net root pins) a (reached_yes r) (large_no few)
      (or_left (not (is_within (sum_of res_of net.ress))) (not (is_within (total_load net pins))) (not (list_all (λ node. is_within (delay_of net root pins node)) (tree_nodes net root pins))) p.1) ∙ ap Some (sym p.0))

  -- delays and impulses
  module _ (measured : IsMeasured net root pins) (reached : is_reached net f.rows.items ≡ true) (few : length nodes ≤ 65535) (load : ℕ) (total : pos load ≡ total_load net pins) (low : load ≤ 10 ^ 12)
      (weights : List ℕ) (size : length weights ≡ length f.rows.items) (weighed : IsWeighed nodes f (pin_charges net pins) (weight_at weights)) where
    amounts : AllByRecursion (λ c. c.cap.0 ≡ pos (cap_of c)) (pin_charges net pins)
    amounts = all_more (λ c. is_amount c.cap.0 ≡ true) (λ c. c.cap.0 ≡ pos (cap_of c)) (λ c h. amount_is c.cap.0 h) (pin_charges net pins) measured.caps

    all_caps : sum_nat cap_of (pin_charges net pins) ≤ load
    all_caps =
        let e : pos load ≡ pos (nat_abs net.lump.0 + sum_nat cap_of (pin_charges net pins)) =
        total ∙ ap (λ z. z +ℤ sum_of (λ c. c.cap.0) (pin_charges net pins)) (amount_is net.lump.0 measured.lump)
        ∙ ap (λ z. pos (nat_abs net.lump.0) +ℤ z) (sum_of_nat (λ c. c.cap.0) cap_of (pin_charges net pins) amounts) in
        let n : load ≡ nat_abs net.lump.0 + sum_nat cap_of (pin_charges net pins) = ap nat_abs e in
        omega arith

    pub limited : IsLimited f.rows.items f.places.items weights
    limited = record {
      rising = found.grown.rising;
      placed = λ u p e. (found.grown.back u p e).0;
      few = (let r = found.grown.room in omega arith);
      ohms = λ j p l o. (let k = found.grown.linked j p l o in
          let s = seg_small nodes forest.0 (row_at f.rows.items j).segment k.0 (subst (λ rs. AllByRecursion (λ r. is_amount r.res.0 ≡ true) rs) (sym forest.1.0.0) measured.resistances) in
          subst (λ n. n ≤ 10 ^ 12) (sym k.2) s);
      size = size;
      total = (let t = weights_total nodes f (pin_charges net pins) (weight_at weights) (λ i l. there_placed nodes net.ress forest.0 f apart wires found i l) weighed in let a = all_caps in omega arith);
    }

    pub delay_told : (k : ℕ) → k < length f.rows.items → delay_of net root pins (node_of nodes f k) ≡ pos (delay_at f.rows.items weights k)
    delay_told k l =
        subst (λ r. elmore net.ress r (pin_charges net pins) (node_of nodes f k) ≡ pos (delay_at f.rows.items weights k)) root_is
        (delay_is nodes net.ress forest.0 f apart wires found (rooted_is reached) some_place (pin_charges net pins) amounts weights weighed k l ∙ rounded_pos (moment_at f.rows.items weights k))

    pub delays_within : ((k : ℕ) → k < length f.rows.items → delay_at f.rows.items weights k ≤ 10 ^ 12) → list_all (λ node. is_within (delay_of net root pins node)) (tree_nodes net root pins) ≡ true
    delays_within h =
        all_true (λ node. is_within (delay_of net root pins node)) (tree_nodes net root pins)
        (all_more (λ x. is_node nodes x ≡ true) (λ x. is_within (delay_of net root pins x) ≡ true)
        (λ x t. (let p = place_there nodes net.ress forest.0 f apart wires found x t in
        subst (λ y. is_within (delay_of net root pins y) ≡ true) p.2 (ap is_within (delay_told p.0 p.1) ∙ within_is (delay_at f.rows.items weights p.0) (h p.0 p.1))))
        (tree_nodes net root pins) (tree_there net root pins nodes joined))

    pub delays_over : IsOver f.rows.items weights → list_all (λ node. is_within (delay_of net root pins node)) (tree_nodes net root pins) ≡ false
    delays_over o =
        one_false (λ node. is_within (delay_of net root pins node)) (node_of nodes f o.0) (tree_nodes net root pins)
        (sym (joined.members (node_of nodes f o.0)) ∙ there_placed nodes net.ress forest.0 f apart wires found o.0 o.1.0)
        (ap is_within (delay_told o.0 o.1.0) ∙ beyond_is (delay_at f.rows.items weights o.0) o.1.1)

    pub delay_fault : (fault : RcFault) → has_cycle net ≡ false → (fault ≡ Memory) ⊎ ((fault ≡ OutOfRange) × IsOver f.rows.items weights) → IsFaultOf net root pins fault
    delay_fault fault a (inl e) = inl e
    delay_fault fault a (inr p) =
        inr (pick_range (has_cycle net) (is_unreached net root) (is_too_large net root pins) (is_out_of_range net root pins) a (reached_yes reached) (large_no few)
        (or_last (not (is_within (sum_of res_of net.ress))) (not (is_within (total_load net pins))) (not (list_all (λ node. is_within (delay_of net root pins node)) (tree_nodes net root pins))) (ap not (delays_over p.1))) ∙ ap Some (sym p.0))

    module _ (ws : List Wire) (made : AreWires f.rows.items weights f.places.items ws) where
      pub delays_low : (k : ℕ) → k < length f.rows.items → delay_at f.rows.items weights k ≤ 10 ^ 12
      delays_low k l = (let e = made.timed k l in let b = made.bound k in omega arith)

      wait_is : (k : ℕ) → k < length f.rows.items → elmore net.ress (node_of nodes f 0) (pin_charges net pins) (node_of nodes f k) ≡ pos (weight_at made.delays k)
      wait_is k l =
          delay_is nodes net.ress forest.0 f apart wires found (rooted_is reached) some_place (pin_charges net pins) amounts weights weighed k l ∙ rounded_pos (moment_at f.rows.items weights k)
          ∙ ap pos (sym (made.timed k l))

      second_told : (k : ℕ) → k < length f.rows.items → second_moment net.ress (node_of nodes f 0) (pin_charges net pins) (node_of nodes f k) ≡ pos (micro (weight_at made.seconds k))
      second_told k l =
          second_is nodes net.ress forest.0 f apart wires found (rooted_is reached) some_place (pin_charges net pins) amounts weights weighed
          (λ i li. (let e = wait_is i li in e ∙ ap (λ z. pos (nat_abs z)) (sym e))) made.products
          (λ i li. made.times.1 i ∙ ap (λ n. weight_at weights i * n) (ap nat_abs (sym (wait_is i li)))) k l
          ∙ rounded_pos (moment_at f.rows.items made.products k) ∙ ap (λ n. pos (micro n)) (sym (made.second.1 k l))

      impulse_told : (k : ℕ) → k < length f.rows.items → impulse_of net root pins (node_of nodes f k) ≡ pos (wire_at made.delays made.seconds (Some k)).impulse
      impulse_told k l =
          subst (λ r. impulse net.ress r (pin_charges net pins) (node_of nodes f k) ≡ pos (wire_at made.delays made.seconds (Some k)).impulse) root_is
          (ap (λ z. not_negative (pos 2 *ℤ z -ℤ elmore net.ress (node_of nodes f 0) (pin_charges net pins) (node_of nodes f k) *ℤ elmore net.ress (node_of nodes f 0) (pin_charges net pins) (node_of nodes f k))) (second_told k l)
          ∙ ap (λ z. not_negative (pos 2 *ℤ pos (micro (weight_at made.seconds k)) -ℤ z *ℤ z)) (wait_is k l)
          ∙ cut (2 * micro (weight_at made.seconds k)) (weight_at made.delays k * weight_at made.delays k))

      told_delay : (k : ℕ) → k < length f.rows.items → delay_of net root pins (node_of nodes f k) ≡ (wire_at made.delays made.seconds (Some k)).delay
      told_delay k l = subst (λ r. elmore net.ress r (pin_charges net pins) (node_of nodes f k) ≡ pos (weight_at made.delays k)) root_is (wait_is k l)

      by_number : {Z : Type 0} (g : Wire → Z) (h : RcNode → Z) → ((k : ℕ) → k < length f.rows.items → h (node_of nodes f k) ≡ g (wire_at made.delays made.seconds (Some k))) → map g ws ≡ map h nodes
      by_number g h same =
          ap (map g) made.made ∙ map_both g (wire_at made.delays made.seconds) f.places.items
          ∙ same_lists (λ o. g (wire_at made.delays made.seconds o)) h f.places.items nodes None (rc_inner 0) found.grown.sized (λ u l. at u l (place_of f u) refl)
        where
          at : (u : ℕ) → u < length nodes → (o : Option ℕ) → place_of f u ≡ o → g (wire_at made.delays made.seconds (place_of f u)) ≡ h (node_at nodes u)
          at u l None e = absurd (false≢true (ap is_some (sym e) ∙ found.all u l))
          at u l (Some j) e =
              let b = found.grown.back u j e in
              ap (λ o. g (wire_at made.delays made.seconds o)) e ∙ sym (same j b.0) ∙ ap (λ n. h (node_at nodes n)) b.1

      pub wires_size : length ws ≡ length nodes
      wires_size = ap length made.made ∙ length-map f.places.items (wire_at made.delays made.seconds) ∙ found.grown.sized

      pub tree_told : IsTreeOf net root pins (record { nodes = nodes; delays = map (λ (w : Wire). w.delay) ws; impulses = map (λ (w : Wire). w.impulse) ws; load = pos load })
      tree_told = record {
        members = joined.members;
        once = apart;
        delays = by_number (λ (w : Wire). w.delay) (delay_of net root pins) told_delay;
        impulses = map_both pos (λ (w : Wire). w.impulse) ws ∙ by_number (λ (w : Wire). pos w.impulse) (impulse_of net root pins) impulse_told;
        load = total;
      }

      pub no_fault : has_cycle net ≡ false → is_within (sum_of res_of net.ress) ≡ true → rc_fault net root pins ≡ None
      no_fault a o =
          pick_none (has_cycle net) (is_unreached net root) (is_too_large net root pins) (is_out_of_range net root pins) a (reached_yes reached) (large_no few)
          (or_no (not (is_within (sum_of res_of net.ress))) (not (is_within (total_load net pins))) (not (list_all (λ node. is_within (delay_of net root pins node)) (tree_nodes net root pins)))
          (ap not o) (ap not (ap is_within (sym total) ∙ within_is load low)) (ap not (delays_within delays_low)))
