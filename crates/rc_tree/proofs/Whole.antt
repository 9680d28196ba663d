-- What a forest that was found says of the net: loops, nodes that are not reached, delays and impulses.
use Rattle.std.proofs.Common.{◌≡◌, ℕ, ◌*◌, ◌<◌, ◌^◌, ℤ, pos, ◌*ℤ◌, nat_abs, Bool, true, false, ◌&&◌, List, [], ◌∷◌, map, length, is_some, refl, ap, sym, subst, ◌∙◌, arith, inl, inr, ◌⊎◌, append-nil}
use Rattle.std.specs.List.{AllByRecursion, list_all}
use Rattle.std.proofs.lemmas.Bool.{cases_Bool, false≢true}
use Rattle.std.proofs.Math.IntN.{zero-*ℤ}
use Rattle.sta_units.specs.Numbers.{rounded}
use Rattle.timing_defs.specs.declared.parasitics.RcNode.{RcNode}
use Rattle.timing_defs.specs.declared.parasitics.RcRes.{RcRes}
use Rattle.timing_defs.specs.declared.parasitics.RcCap.{RcCap}
use Rattle.timing_defs.specs.declared.parasitics.NetRc.{NetRc}
use Rattle.timing_defs.specs.Wires.{same_rc, path_between, shared_resistance, elmore, second_moment}
use Rattle.timing_defs.specs.NetChecks.{has_cycle, different}
use Rattle.rc_tree.specs.Trees.{is_node}
use Rattle.rc_tree.specs.Numbering.{AreApart, IsJoined}
use Rattle.rc_tree.specs.declared.segments.Segment.{Segment}
use Rattle.rc_tree.specs.declared.forests.Forest.{Forest}
use Rattle.rc_tree.specs.Growth.{wired, AreSegments, row_at, up_of}
use Rattle.rc_tree.specs.Moments.{path_to, common, weight_at, moment_at}
use Rattle.rc_tree.specs.Loops.{IsFound, IsLoopOf, is_looped}
use Rattle.rc_tree.specs.declared.faults.RcFault.{RcFault}
use Rattle.rc_tree.specs.declared.faults.RcFault.TheVariants.{Loop, Memory}
use Rattle.rc_tree.specs.Weights.{cap_of, IsWeighed}
use Rattle.rc_tree.proofs.Routes.{all_more, same_rc_is}
use Rattle.rc_tree.proofs.Forest.{no_loop}
use Rattle.rc_tree.proofs.Growing.{node_of, forest_of, resistor, resistors_are}
use Rattle.rc_tree.proofs.Moments.{sum_agree}
use Rattle.rc_tree.proofs.Bridge.{path_is, path_none, place_there, IsRooted, elmore_sum, share, share_is, share_none, share_at, sum_of_nat}

-- a loop of the segments is one of the net
pub loop_of_net : (nodes : List RcNode) (net : NetRc) (segments : List Segment) → AreSegments nodes net.ress segments → is_looped (map (wired nodes) segments) ≡ true → has_cycle net ≡ true
loop_of_net nodes net segments wires h = subst (λ r. is_looped r ≡ true) wires.0 h

-- what is told of the segments, told of the net
pub loop_of_net_there : (nodes : List RcNode) (net : NetRc) (segments : List Segment) (fault : RcFault) → AreApart nodes → AreSegments nodes net.ress segments → IsLoopOf segments (length nodes) fault
    → (fault ≡ Memory) ⊎ ((fault ≡ Loop) × (has_cycle net ≡ true))
loop_of_net_there nodes net segments fault apart wires (inl e) = inl e
loop_of_net_there nodes net segments fault apart wires (inr p) = inr (p.0, loop_of_net nodes net segments wires (p.1 nodes apart refl))

-- how many nodes there are
pub count_of_nodes : (items nodes : List RcNode) → IsJoined [] items nodes → different [] items ≡ length nodes
count_of_nodes items nodes j = ap (different []) (sym (append-nil items)) ∙ sym (j.counted [])

pub all_true : {X : Type 0} (test : X → Bool) (xs : List X) → AllByRecursion (λ x. test x ≡ true) xs → list_all test xs ≡ true
all_true test [] a = refl
all_true test (x ∷ xs) a = rw (a.0, all_true test xs a.1) refl

each_there : (nodes : List RcNode) (P : RcNode → Type 0) (xs : List RcNode) → ((x : RcNode) → is_node nodes x ≡ true → P x) → AllByRecursion (λ x. is_node nodes x ≡ true) xs → AllByRecursion P xs
each_there nodes P xs h a = all_more (λ x. is_node nodes x ≡ true) P h xs a

pub one_false : (test : RcNode → Bool) (x : RcNode) (xs : List RcNode) → is_node xs x ≡ true → test x ≡ false → list_all test xs ≡ false
one_false test x [] h e = absurd (false≢true h)
one_false test x (y ∷ ys) h e = by (same_rc x y) refl (one_false test x ys)
  where
    and_none : (b : Bool) → (b && false) ≡ false
    and_none true = refl
    and_none false = refl

    by : (b : Bool) → same_rc x y ≡ b → (is_node ys x ≡ true → test x ≡ false → list_all test ys ≡ false) → (test y && list_all test ys) ≡ false
    by true s rest = (let t : test y ≡ false = ap test (sym (same_rc_is x y s)) ∙ e in ap (λ b. b && list_all test ys) t)
    by false s rest = ap (λ b. test y && b) (rest (rw s at h) e) ∙ and_none (test y)

module _ (nodes : List RcNode) (net : NetRc) (segments : List Segment) (f : Forest) (apart : AreApart nodes) (wires : AreSegments nodes net.ress segments) (found : IsFound segments (length nodes) f) where
  -- where a forest was found there is no loop
  pub no_loop_of_net : has_cycle net ≡ false
  no_loop_of_net =
      subst (λ r. is_looped r ≡ false) wires.0
      (subst (λ r. is_looped r ≡ false) (resistors_are nodes segments)
      (no_loop (resistor nodes segments) (node_of nodes f) (up_of f.rows.items) (λ j. (row_at f.rows.items j).segment) (λ j. (row_at f.rows.items j).home) (length segments) (length f.rows.items)
      (forest_of nodes segments f apart found.grown) found.used))

  -- where all places are of the first part, each node is reached
  pub all_reached : ((j : ℕ) → j < length f.rows.items → (row_at f.rows.items j).home ≡ 0) → (xs : List RcNode) → AllByRecursion (λ x. is_node nodes x ≡ true) xs
      → list_all (λ x. is_some (path_between net.ress (node_of nodes f 0) x)) xs ≡ true
  all_reached whole xs a =
      all_true (λ x. is_some (path_between net.ress (node_of nodes f 0) x)) xs
      (each_there nodes (λ x. is_some (path_between net.ress (node_of nodes f 0) x) ≡ true) xs
      (λ x h. (let p = place_there nodes net.ress segments f apart wires found x h in
      ap is_some (ap (path_between net.ress (node_of nodes f 0)) (sym p.2) ∙ path_is nodes net.ress segments f apart wires found p.0 p.1 (whole p.0 p.1)))) a)

  -- a place of another part is not reached
  pub not_reached : (j : ℕ) → j < length f.rows.items → ((row_at f.rows.items j).home ≡ 0 → ⊥) → (xs : List RcNode) → is_node xs (node_of nodes f j) ≡ true
      → list_all (λ x. is_some (path_between net.ress (node_of nodes f 0) x)) xs ≡ false
  not_reached j lj other xs there =
      one_false (λ x. is_some (path_between net.ress (node_of nodes f 0) x)) (node_of nodes f j) xs there
      (ap is_some (path_none nodes net.ress segments f apart wires found (omega arith) (node_of nodes f j)
      (λ v lv hv e. other (ap (λ (k : ℕ). (row_at f.rows.items k).home) ((forest_of nodes segments f apart found.grown).apart j v lj lv e) ∙ hv))))

-- the delay and the second moment of the definition
module _ (nodes : List RcNode) (ress : List RcRes) (segments : List Segment) (f : Forest) (apart : AreApart nodes) (wires : AreSegments nodes ress segments) (found : IsFound segments (length nodes) f)
    (rooted : IsRooted nodes ress segments f apart wires found) (some : 0 < length f.rows.items)
    (charges : List RcCap) (amounts : AllByRecursion (λ c. c.cap.0 ≡ pos (cap_of c)) charges) (weights : List ℕ) (weighed : IsWeighed nodes f charges (weight_at weights)) where
  pub delay_is : (k : ℕ) → k < length f.rows.items → elmore ress (node_of nodes f 0) charges (node_of nodes f k) ≡ rounded (pos (moment_at f.rows.items weights k)) (pos (10 ^ 6))
  delay_is k lk = ap (λ z. rounded z (pos (10 ^ 6))) (elmore_sum nodes ress segments f apart wires found rooted some charges amounts (weight_at weights) weighed k lk)

  abbrev wait : RcNode → ℤ
  wait x = elmore ress (node_of nodes f 0) charges x

  abbrev shares : ℕ → RcNode → ℕ
  shares k x = share nodes ress segments f apart wires found k x

  -- each node's delay is a number, and `products` are the weights times the delays of their places
  pub second_is : ((k : ℕ) → k < length f.rows.items → wait (node_of nodes f k) ≡ pos (nat_abs (wait (node_of nodes f k)))) → (products : List ℕ)
      → ((i : ℕ) → i < length f.rows.items → weight_at products i ≡ weight_at weights i * nat_abs (wait (node_of nodes f i)))
      → (k : ℕ) → k < length f.rows.items → second_moment ress (node_of nodes f 0) charges (node_of nodes f k) ≡ rounded (pos (moment_at f.rows.items products k)) (pos (10 ^ 6))
  second_is positive products made k lk =
      ap (λ z. rounded z (pos (10 ^ 6)))
      (sum_of_nat (λ c. shared_resistance ress (node_of nodes f 0) c.node (node_of nodes f k) *ℤ c.cap.0 *ℤ wait c.node) (λ c. shares k c.node * nat_abs (wait c.node) * cap_of c) charges
      (all_more (λ c. c.cap.0 ≡ pos (cap_of c)) (λ c. shared_resistance ress (node_of nodes f 0) c.node (node_of nodes f k) *ℤ c.cap.0 *ℤ wait c.node ≡ pos (shares k c.node * nat_abs (wait c.node) * cap_of c)) term charges amounts)
      ∙ ap pos (weighed (λ x. shares k x * nat_abs (wait x)) (λ x h. ap (λ n. n * nat_abs (wait x)) (share_none nodes ress segments f apart wires found some k x h) ∙ (let z : 0 * nat_abs (wait x) ≡ 0 = omega arith in z))
      ∙ sum_agree (λ i. shares k (node_of nodes f i) * nat_abs (wait (node_of nodes f i)) * weight_at weights i)
      (λ i. common (λ j. (row_at f.rows.items j).res) (path_to (up_of f.rows.items) i) (path_to (up_of f.rows.items) k) * weight_at products i) (length f.rows.items)
      (λ i l. ap (λ n. n * nat_abs (wait (node_of nodes f i)) * weight_at weights i) (share_at nodes ress segments f apart wires found rooted k i lk l)
      ∙ turn (common (λ j. (row_at f.rows.items j).res) (path_to (up_of f.rows.items) i) (path_to (up_of f.rows.items) k)) (nat_abs (wait (node_of nodes f i))) (weight_at weights i)
      ∙ ap (λ n. common (λ j. (row_at f.rows.items j).res) (path_to (up_of f.rows.items) i) (path_to (up_of f.rows.items) k) * n) (sym (made i l)))))
    where
      turn : (a b c : ℕ) → a * b * c ≡ a * (c * b)
      turn a b c = omega arith

      order : (a b c : ℕ) → a * c * b ≡ a * b * c
      order a b c = omega arith

      term : (c : RcCap) → c.cap.0 ≡ pos (cap_of c) → shared_resistance ress (node_of nodes f 0) c.node (node_of nodes f k) *ℤ c.cap.0 *ℤ wait c.node ≡ pos (shares k c.node * nat_abs (wait c.node) * cap_of c)
      term c e =
          ap (λ z. z *ℤ c.cap.0 *ℤ wait c.node) (share_is nodes ress segments f apart wires found rooted some k lk c.node)
          ∙ ap (λ z. pos (shares k c.node) *ℤ z *ℤ wait c.node) e
          ∙ elim (cases_Bool (is_node nodes c.node)) [
            | inl t ↦
                let p = place_there nodes ress segments f apart wires found c.node t in
                let w : wait c.node ≡ pos (nat_abs (wait c.node)) = subst (λ x. wait x ≡ pos (nat_abs (wait x))) p.2 (positive p.0 p.1) in
                ap (λ z. pos (shares k c.node) *ℤ pos (cap_of c) *ℤ z) w ∙ ap pos (order (shares k c.node) (nat_abs (wait c.node)) (cap_of c))
            | inr un ↦
                let z : shares k c.node ≡ 0 = share_none nodes ress segments f apart wires found some k c.node un in
                let left : 0 * cap_of c ≡ 0 = omega arith in
                let right : 0 * nat_abs (wait c.node) * cap_of c ≡ 0 = omega arith in
                ap (λ n. pos n *ℤ pos (cap_of c) *ℤ wait c.node) z ∙ ap (λ n. pos n *ℤ wait c.node) left ∙ zero-*ℤ (wait c.node)
                ∙ ap pos (sym (ap (λ n. n * nat_abs (wait c.node) * cap_of c) z ∙ right))
          ]
