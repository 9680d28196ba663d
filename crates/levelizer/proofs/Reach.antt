-- Marking the nodes that are reached from some first nodes.

use Rattle.std.proofs.Common.{◌≡◌, ℕ, zero, suc, ◌+◌, ◌<◌, ◌≤◌, ◌==◌, Bool, true, false, ◌&&◌, ◌||◌, List, [], ◌∷◌, ◌++◌, length, get_or, take, set, replicate, filter, refl, ap, sym, subst, ◌∙◌, inl, inr, arith}
use Rattle.std.specs.Prelude.{nat_eq, All}
use Rattle.std.specs.List.{count_by, list_any}
use Rattle.std.proofs.lemmas.Bool.{cases_Bool, cases_lt, cases_eq, false≢true, and_parts, and_from, or_cases, or_left, or_right, eq-eqb, ne_eqb, eqb-true}
use Rattle.std.proofs.lemmas.Cmp.{nat_eq_equiv}
use Rattle.std.proofs.lemmas.List.{get_or-set_same, get_or-set_other, get_or_past, get_or-take, length-append, take_all, take-append-le, take-take}
use Rattle.std.proofs.lemmas.List.Elements.{All-map, All-filter}
use Rattle.std.proofs.lemmas.List.Folds.{list_any-append, list_any_at, list_any_more}
use Rattle.std.proofs.lemmas.List.Sums.{count_by-le-length}
use Rattle.levelizer.proofs.Counting.{count_cons}
use Rattle.levelizer.specs.declared.links.Link.{Link}
use Rattle.levelizer.specs.Levels.{AreWithin}
use Rattle.levelizer.specs.FanOut.{fan_out}
use Rattle.levelizer.specs.Reaching.{has_mark, is_led_to, AreReached, AreQueued, AreMarked}

both : (a b : Bool) → (a ≡ true → b ≡ true) → (b ≡ true → a ≡ true) → a ≡ b
both true b f g = sym (f refl)
both false true f g = absurd (false≢true (g refl))
both false false f g = refl

or_same : (a : Bool) → (a || false) ≡ a
or_same true = refl
or_same false = refl

or_again : (a b : Bool) → (b ≡ true → a ≡ true) → (a || b) ≡ a
or_again true b f = refl
or_again false true f = absurd (false≢true (f refl))
or_again false false f = refl

or_assoc : (a b c : Bool) → ((a || b) || c) ≡ (a || (b || c))
or_assoc true b c = refl
or_assoc false b c = refl

-- nothing was to be marked
pub marked_none : (marks : List Bool) (queue : List ℕ) → AreQueued marks queue → AreMarked [] marks marks queue queue
marked_none marks queue q = record {
  marks = λ m. sym (or_same (has_mark marks m));
  queued = q;
  kept = take_all (length queue) queue (omega arith);
  grown = omega arith;
}

-- a marked node stays as it is
pub marked_again : (marks : List Bool) (queue : List ℕ) (node : ℕ) → AreQueued marks queue → has_mark marks node ≡ true
    → AreMarked (node ∷ []) marks marks queue queue
marked_again marks queue node q h = record {
  marks = λ m. sym (or_again (has_mark marks m) (nat_eq m node || false) (λ e. ap (has_mark marks) (eqb-true m node (sym (or_same (nat_eq m node)) ∙ e)) ∙ h));
  queued = q;
  kept = take_all (length queue) queue (omega arith);
  grown = omega arith;
}

one_more : (marks : List Bool) (node : ℕ) → node < length marks → get_or marks node false ≡ false
    → count_by (λ (b : Bool). b) (set marks node true) ≡ count_by (λ (b : Bool). b) marks + 1
one_more [] node l h = absurd (omega arith)
one_more (b ∷ bs) zero l h = rw h (counted bs)
  where
    counted : (cs : List Bool) → count_by (λ (c : Bool). c) (true ∷ cs) ≡ count_by (λ (c : Bool). c) (false ∷ cs) + 1
    counted cs =
        let one = count_cons (λ (c : Bool). c) true cs in
        let none = count_cons (λ (c : Bool). c) false cs in
        omega arith
one_more (b ∷ bs) (suc n) l h =
    let rest = one_more bs n (omega arith) h in
    let one = count_cons (λ (c : Bool). c) b (set bs n true) in
    let two = count_cons (λ (c : Bool). c) b bs in
    omega arith

-- a node that is not marked comes to the end of the queue
pub marked_new : (marks marks2 : List Bool) (queue queue2 : List ℕ) (node : ℕ) → AreQueued marks queue → node < length marks → has_mark marks node ≡ false
    → marks2 ≡ set marks node true → queue2 ≡ queue ++ node ∷ [] → AreMarked (node ∷ []) marks marks2 queue queue2
marked_new marks marks2 queue queue2 node q low h e f = record {
  marks = grows;
  queued = record {
    agree = λ m.
        ap (list_any (nat_eq m)) f ∙ list_any-append (nat_eq m) queue (node ∷ []) ∙ ap (λ b. b || (nat_eq m node || false)) (q.agree m) ∙ sym (grows m);
    count =
        let more = one_more marks node low h in
        omega (arith, ap length f, length-append queue (node ∷ []), q.count, ap (count_by (λ (b : Bool). b)) e);
  };
  kept = ap (take (length queue)) f ∙ take-append-le (length queue) queue (node ∷ []) (omega arith) ∙ take_all (length queue) queue (omega arith);
  grown = omega (arith, ap length f, length-append queue (node ∷ []));
}
  where
    grows : (m : ℕ) → has_mark marks2 m ≡ (has_mark marks m || (nat_eq m node || false))
    grows m = elim (cases_eq m node) [
      | inl same ↦
          ap (λ bs. get_or bs m false) e ∙ ap (λ k. get_or (set marks node true) k false) same ∙ get_or-set_same marks node true false low
          ∙ sym (or_right (has_mark marks m) (nat_eq m node || false) (or_left (nat_eq m node) false (eq-eqb m node same)))
      | inr other ↦
          ap (λ bs. get_or bs m false) e ∙ get_or-set_other marks node m true false other
          ∙ sym (ap (λ b. has_mark marks m || (b || false)) (ne_eqb m node other) ∙ or_same (has_mark marks m))
    ]

-- one node more of a list
pub marked_more : (nodes : List ℕ) (i : ℕ) (marks now marks2 : List Bool) (queue queue_now queue2 : List ℕ) → i < length nodes
    → AreMarked (take i nodes) marks now queue queue_now → AreMarked (get_or nodes i 0 ∷ []) now marks2 queue_now queue2
    → AreMarked (take (i + 1) nodes) marks marks2 queue queue2
marked_more nodes i marks now marks2 queue queue_now queue2 low had more = record {
  marks = λ m.
      more.marks m ∙ ap (λ b. b || (nat_eq m (get_or nodes i 0) || false)) (had.marks m)
      ∙ or_assoc (has_mark marks m) (list_any (nat_eq m) (take i nodes)) (nat_eq m (get_or nodes i 0) || false)
      ∙ ap (λ b. has_mark marks m || b) (ap (λ b. list_any (nat_eq m) (take i nodes) || b) (or_same (nat_eq m (get_or nodes i 0))) ∙ sym (list_any_more (nat_eq m) nodes i 0 low));
  queued = more.queued;
  kept =
      sym (take-take (length queue) (length queue_now) queue2 had.grown) ∙ ap (take (length queue)) more.kept ∙ had.kept;
  grown = omega (arith, had.grown, more.grown);
}

pub marked_all : (nodes : List ℕ) (i : ℕ) (marks now : List Bool) (queue queue_now : List ℕ) → length nodes ≤ i
    → AreMarked (take i nodes) marks now queue queue_now → AreMarked nodes marks now queue queue_now
marked_all nodes i marks now queue queue_now end had =
    subst (λ (ns : List ℕ). AreMarked ns marks now queue queue_now) (take_all i nodes end) had

-- more marks, more nodes that are led to
led_more : (arcs : List Link) (before after : List Bool) → ((m : ℕ) → has_mark before m ≡ true → has_mark after m ≡ true)
    → (m : ℕ) → is_led_to arcs before m ≡ true → is_led_to arcs after m ≡ true
led_more [] before after f m h = h
led_more (a ∷ more) before after f m h = elim (or_cases (nat_eq a.to m && has_mark before a.from) (is_led_to more before m) h) [
  | inl e ↦
      let k = and_parts (nat_eq a.to m) (has_mark before a.from) e in
      or_left (nat_eq a.to m && has_mark after a.from) (is_led_to more after m) (and_from (nat_eq a.to m) (has_mark after a.from) k.0 (f a.from k.1))
  | inr e ↦ or_right (nat_eq a.to m && has_mark after a.from) (is_led_to more after m) (led_more more before after f m e)
]

-- an arc to a node from a marked one leads to it
led_by : (arcs : List Link) (marks : List Bool) (from m : ℕ) → list_any (nat_eq m) (fan_out arcs from) ≡ true → has_mark marks from ≡ true → is_led_to arcs marks m ≡ true
led_by [] marks from m h e = absurd (false≢true h)
led_by (a ∷ more) marks from m h e = elim (cases_Bool (a.from == from)) [
  | inl g ↦
      let parts : (nat_eq m a.to || list_any (nat_eq m) (fan_out more from)) ≡ true = rw g at h in
      elim (or_cases (nat_eq m a.to) (list_any (nat_eq m) (fan_out more from)) parts) [
        | inl k ↦
            or_left (nat_eq a.to m && has_mark marks a.from) (is_led_to more marks m)
            (and_from (nat_eq a.to m) (has_mark marks a.from) (nat_eq_equiv.symm a.to m ∙ k) (ap (has_mark marks) (eqb-true a.from from g) ∙ e))
        | inr k ↦ or_right (nat_eq a.to m && has_mark marks a.from) (is_led_to more marks m) (led_by more marks from m k e)
      ]
  | inr g ↦
      let rest : list_any (nat_eq m) (fan_out more from) ≡ true = rw g at h in
      or_right (nat_eq a.to m && has_mark marks a.from) (is_led_to more marks m) (led_by more marks from m rest e)
]

-- an arc stands among those out of its node
out_has : (arcs : List Link) (k : ℕ) (d : Link) (from : ℕ) → k < length arcs → (get_or arcs k d).from ≡ from
    → list_any (nat_eq ((get_or arcs k d).to)) (fan_out arcs from) ≡ true
out_has [] k d from l e = absurd (omega arith)
out_has (a ∷ more) zero d from l e =
    let g : (a.from == from) ≡ true = eq-eqb a.from from e in
    rw g (or_left (nat_eq a.to a.to) (list_any (nat_eq a.to) (fan_out more from)) (nat_eq_equiv.refl a.to))
out_has (a ∷ more) (suc k) d from l e =
    let rest = out_has more k d from (omega arith) e in
    elim (cases_Bool (a.from == from)) [
      | inl g ↦ rw g (or_right (nat_eq ((get_or more k d).to) a.to) (list_any (nat_eq ((get_or more k d).to)) (fan_out more from)) rest)
      | inr g ↦ rw g rest
    ]

-- the first nodes of the queue are done: all nodes to which arcs lead from them are marked
pub record IsReaching (n : ℕ) (arcs : List Link) (first : List ℕ) (marks : List Bool) (queue : List ℕ) (done : ℕ) : Type 0 where
  pub long : length marks ≡ n
  pub queued : AreQueued marks queue
  pub behind : done ≤ length queue
  pub begun : (m : ℕ) → list_any (nat_eq m) first ≡ true → has_mark marks m ≡ true
  pub closed : (k : ℕ) → k < done → (m : ℕ) → list_any (nat_eq m) (fan_out arcs (get_or queue k 0)) ≡ true → has_mark marks m ≡ true
  pub held : (m : ℕ) → has_mark marks m ≡ true → (list_any (nat_eq m) first || is_led_to arcs marks m) ≡ true

pub no_marks : (marks : List Bool) (queue : List ℕ) (n : ℕ) → marks ≡ replicate n false → queue ≡ [] → AreQueued marks queue
no_marks marks queue n e f = record {
  agree = λ m. ap (list_any (nat_eq m)) f ∙ sym (ap (λ bs. has_mark bs m) e ∙ plain n m);
  count = ap length f ∙ sym (ap (count_by (λ (b : Bool). b)) e ∙ zeros n);
}
  where
    plain : (n m : ℕ) → get_or (replicate {A = Bool} n false) m false ≡ false
    plain zero m = refl
    plain (suc n) zero = refl
    plain (suc n) (suc m) = plain n m

    zeros : (n : ℕ) → count_by (λ (b : Bool). b) (replicate {A = Bool} n false) ≡ 0
    zeros zero = refl
    zeros (suc n) = let rest = zeros n in let one = count_cons (λ (c : Bool). c) false (replicate {A = Bool} n false) in omega arith

pub reaching_none : (n : ℕ) (arcs : List Link) (first : List ℕ) (blank marks : List Bool) (none queue : List ℕ) → blank ≡ replicate n false
    → length marks ≡ n → AreMarked first blank marks none queue → IsReaching n arcs first marks queue 0
reaching_none n arcs first blank marks none queue e long had = record {
  long = long;
  queued = had.queued;
  behind = omega arith;
  begun = λ m h. had.marks m ∙ or_right (has_mark blank m) (list_any (nat_eq m) first) h;
  closed = λ k low m h. absurd (omega arith);
  held = λ m h. elim (or_cases (has_mark blank m) (list_any (nat_eq m) first) (sym (had.marks m) ∙ h)) [
    | inl f ↦ absurd (false≢true (sym (ap (λ bs. has_mark bs m) e ∙ plain n m) ∙ f))
    | inr f ↦ or_left (list_any (nat_eq m) first) (is_led_to arcs marks m) f
  ];
}
  where
    plain : (n m : ℕ) → get_or (replicate {A = Bool} n false) m false ≡ false
    plain zero m = refl
    plain (suc n) zero = refl
    plain (suc n) (suc m) = plain n m

pub short_queue : (n : ℕ) (arcs : List Link) (first : List ℕ) (marks : List Bool) (queue : List ℕ) (done : ℕ) → IsReaching n arcs first marks queue done → length queue ≤ n
short_queue n arcs first marks queue done h =
    let few = count_by-le-length (λ (b : Bool). b) marks in omega (arith, h.queued.count, h.long)

-- the next node of the queue is marked, and so below the bound
pub next_marked : (n : ℕ) (arcs : List Link) (first : List ℕ) (marks : List Bool) (queue : List ℕ) (done node : ℕ) → IsReaching n arcs first marks queue done
    → done < length queue → node ≡ get_or queue done 0 → (has_mark marks node ≡ true) × (node < n)
next_marked n arcs first marks queue done node h low e =
    let marked : has_mark marks node ≡ true =
    sym (h.queued.agree node) ∙ list_any_at (nat_eq node) queue done 0 low (ap (nat_eq node) (sym e) ∙ nat_eq_equiv.refl node) in (
      marked,
      elim (cases_lt node (length marks)) [
        | inl inside ↦ omega (arith, h.long)
        | inr past ↦ absurd (false≢true (sym (get_or_past marks node false past) ∙ marked))
      ],
    )

pub reaching_more : (n : ℕ) (arcs : List Link) (first : List ℕ) (marks marks2 : List Bool) (queue queue2 heads : List ℕ) (done node : ℕ)
    → IsReaching n arcs first marks queue done → done < length queue → node ≡ get_or queue done 0 → heads ≡ fan_out arcs node → length marks2 ≡ length marks
    → AreMarked heads marks marks2 queue queue2 → IsReaching n arcs first marks2 queue2 (done + 1)
reaching_more n arcs first marks marks2 queue queue2 heads done node h low e out long had = record {
  long = long ∙ h.long;
  queued = had.queued;
  behind = omega (arith, had.grown);
  begun = λ m g. stays m (h.begun m g);
  closed = λ k l m g. elim (cases_eq k done) [
    | inl same ↦
        let at : get_or queue2 k 0 ≡ node = sym (front k (omega arith)) ∙ ap (λ j. get_or queue j 0) same ∙ sym e in
        had.marks m ∙ or_right (has_mark marks m) (list_any (nat_eq m) heads) (ap (list_any (nat_eq m)) (out ∙ ap (fan_out arcs) (sym at)) ∙ g)
    | inr other ↦ stays m (h.closed k (omega arith) m (ap (λ j. list_any (nat_eq m) (fan_out arcs j)) (front k (omega arith)) ∙ g))
  ];
  held = λ m g. elim (or_cases (has_mark marks m) (list_any (nat_eq m) heads) (sym (had.marks m) ∙ g)) [
    | inl f ↦ elim (or_cases (list_any (nat_eq m) first) (is_led_to arcs marks m) (h.held m f)) [
      | inl a ↦ or_left (list_any (nat_eq m) first) (is_led_to arcs marks2 m) a
      | inr a ↦ or_right (list_any (nat_eq m) first) (is_led_to arcs marks2 m) (led_more arcs marks marks2 stays m a)
    ]
    | inr f ↦
        or_right (list_any (nat_eq m) first) (is_led_to arcs marks2 m)
        (led_by arcs marks2 node m (ap (list_any (nat_eq m)) (sym out) ∙ f) (stays node (next_marked n arcs first marks queue done node h low e).0))
  ];
}
  where
    stays : (m : ℕ) → has_mark marks m ≡ true → has_mark marks2 m ≡ true
    stays m g = had.marks m ∙ or_left (has_mark marks m) (list_any (nat_eq m) heads) g

    front : (k : ℕ) → k < length queue → get_or queue k 0 ≡ get_or queue2 k 0
    front k l = ap (λ q. get_or q k 0) (sym had.kept) ∙ get_or-take (length queue) queue2 k 0 l

place_in : (q : List ℕ) (m : ℕ) → list_any (nat_eq m) q ≡ true → (k : ℕ) × (k < length q) × (get_or q k 0 ≡ m)
place_in [] m h = absurd (false≢true h)
place_in (x ∷ xs) m h = elim (or_cases (nat_eq m x) (list_any (nat_eq m) xs) h) [
  | inl e ↦ (0, omega arith, sym (eqb-true m x e))
  | inr e ↦ let r = place_in xs m e in (suc r.0, omega (arith, r.1), r.2)
]

arc_in : (arcs : List Link) (marks : List Bool) (m : ℕ) → is_led_to arcs marks m ≡ true
    → (from : ℕ) × (has_mark marks from ≡ true) × (list_any (nat_eq m) (fan_out arcs from) ≡ true)
arc_in [] marks m h = absurd (false≢true h)
arc_in (a ∷ more) marks m h = elim (or_cases (nat_eq a.to m && has_mark marks a.from) (is_led_to more marks m) h) [
  | inl e ↦
      let k = and_parts (nat_eq a.to m) (has_mark marks a.from) e in
      let g : (a.from == a.from) ≡ true = eq-eqb a.from a.from refl in
      (a.from, k.1, rw g (or_left (nat_eq m a.to) (list_any (nat_eq m) (fan_out more a.from)) (nat_eq_equiv.symm m a.to ∙ k.0)))
  | inr e ↦ let r = arc_in more marks m e in (r.0, r.1, wider r.0 r.2)
]
  where
    wider : (from : ℕ) → list_any (nat_eq m) (fan_out more from) ≡ true → list_any (nat_eq m) (fan_out (a ∷ more) from) ≡ true
    wider from g = elim (cases_Bool (a.from == from)) [
      | inl f ↦ rw f (or_right (nat_eq m a.to) (list_any (nat_eq m) (fan_out more from)) g)
      | inr f ↦ rw f g
    ]

pub reaching_all : (n : ℕ) (arcs : List Link) (first : List ℕ) (marks : List Bool) (queue : List ℕ) (done : ℕ)
    → IsReaching n arcs first marks queue done → length queue ≤ done → AreReached n arcs first marks
reaching_all n arcs first marks queue done h end = record {
  count = h.long;
  each = λ m low. both (has_mark marks m) (list_any (nat_eq m) first || is_led_to arcs marks m) (h.held m)
      (λ g. elim (or_cases (list_any (nat_eq m) first) (is_led_to arcs marks m) g) [
        | inl e ↦ h.begun m e
        | inr e ↦
            let a = arc_in arcs marks m e in
            let p = place_in queue a.0 (h.queued.agree a.0 ∙ a.1) in
            h.closed p.0 (omega (arith, p.1)) m (ap (λ j. list_any (nat_eq m) (fan_out arcs j)) p.2 ∙ a.2)
      ]);
}

-- the nodes to which arcs lead are below the bound
pub heads_within : (n : ℕ) (arcs : List Link) (node : ℕ) (heads : List ℕ) → AreWithin n arcs → heads ≡ fan_out arcs node → All (λ m. m < n) heads
heads_within n arcs node heads within e =
    subst (λ (xs : List ℕ). All (λ m. m < n) xs) (sym e)
    (All-map (λ m. m < n) (λ (a : Link). a.to) (filter (λ a. a.from == node) arcs)
    (All-filter (λ (a : Link). a.from == node) (λ a. a.to < n) arcs (λ k d l. (within k d l).1)))
