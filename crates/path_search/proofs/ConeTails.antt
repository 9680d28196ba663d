-- The walks of a cone are the tails of paths to its end nodes.

use Rattle.std.proofs.Common.{◌≡◌, ℕ, ◌<◌, ℤ, ◌+ℤ◌, pos, Bool, false, List, [], ◌∷◌, map, Option, Some, None, refl, sym, ap, ◌∙◌, inl, inr, arith}
use Rattle.std.specs.Prelude.{◌==◌, ◌||◌, if◌then◌else◌}
use Rattle.std.specs.List.{list_any}
use Rattle.std.specs.Option.{unwrap_or}
use Rattle.std.proofs.lemmas.Bool.{cases_Bool, or_parts, eqb-true, eq-eqb}
use Rattle.std.proofs.lemmas.Int.{ints}
use Rattle.timing_defs.specs.declared.kinds.Kind.{Kind}
use Rattle.timing_defs.specs.declared.kinds.Kind.TheVariants.{Setup, Hold}
use Rattle.timing_defs.specs.declared.design.Design.{Design}
use Rattle.timing_defs.specs.RowTimes.{plus_some}
use Rattle.timing_defs.specs.Kinds.{data_split}
use Rattle.timing_rules.specs.Paths.{Named, delay_between as named_delay, is_network_named, last_of, times_along, walk_delay}
use Rattle.worst_walks.specs.declared.cones.Cone.{Cone}
use Rattle.worst_walks.specs.Walks.{count_of, delay_between, walk_sum}
use Rattle.path_search.specs.Launches.{IsTail, signed}
use Rattle.path_search.specs.WalkTimes.{time_next, times_after}
use Rattle.path_search.proofs.PrefixSums.{sum_back}
use Rattle.path_search.proofs.RankLaws.{Each}

-- an arc of a walk, with its delay as a search takes it
pub record IsStep (d : Design) (kind : Kind) (n m : Named) (value : ℤ) : Type 0 where
  pub outside : is_network_named d m ≡ false
  pub delay : ℤ
  pub takes : named_delay d (data_split kind) n m ≡ Some delay
  pub sign : signed kind delay ≡ value

-- the place of a node before another
pub record IsBack (kind : Kind) (cone : Cone) (Near : ℕ → Type 0) (name : ℕ → Named) (n : Named) (b : ℕ) (delay : ℤ) : Type 0 where
  pub place : ℕ
  pub low : place < count_of cone
  pub near : Near place
  pub its : name place ≡ n
  pub arc : delay_between cone place b ≡ Some (signed kind delay)

-- the places of a cone have names, those near are of nodes of the design, and its arcs are some of those outside the clock network
pub record AreSteps (d : Design) (kind : Kind) (cone : Cone) (Near : ℕ → Type 0) (name : ℕ → Named) : Type 0 where
  pub forth : (a b : ℕ) (value : ℤ) → b < count_of cone → delay_between cone a b ≡ Some value → (a < count_of cone) × Near a × Near b × IsStep d kind (name a) (name b) value

-- all of them
pub record AreBack (d : Design) (kind : Kind) (cone : Cone) (Near : ℕ → Type 0) (name : ℕ → Named) : Type 0 where
  pub back : (b : ℕ) → b < count_of cone → Near b → is_network_named d (name b) ≡ false → (n : Named) (delay : ℤ) → named_delay d (data_split kind) n (name b) ≡ Some delay
      → IsBack kind cone Near name n b delay

abbrev pub IsPlace : Cone → (ℕ → Type 0) → ℕ → Type 0
IsPlace cone Near n = (n < count_of cone) × Near n

-- the tail of a walk of a cone
pub record IsNamedTail (d : Design) (kind : Kind) (cone : Cone) (Near : ℕ → Type 0) (name : ℕ → Named) (e n : ℕ) (ms : List ℕ) (sum : ℤ) : Type 0 where
  pub rest : ℤ
  pub tail : IsTail d (data_split kind) (name n) (map name ms) rest
  pub sign : signed kind rest ≡ sum
  pub last : last_of (name n) (map name ms) ≡ name e
  pub known : Each (IsPlace cone Near) ms
  pub low : n < count_of cone

-- the walk of a tail
pub record IsPlacedTail (kind : Kind) (cone : Cone) (Near : ℕ → Type 0) (name : ℕ → Named) (e : ℕ) (n : Named) (post : List Named) (rest : ℤ) : Type 0 where
  pub place : ℕ
  pub low : place < count_of cone
  pub near : Near place
  pub its : name place ≡ n
  pub more : List ℕ
  pub names : map name more ≡ post
  pub known : Each (IsPlace cone Near) more
  pub adds : walk_sum ◌==◌ (delay_between cone) e place more ≡ Some (signed kind rest)

pub signed_plus : (kind : Kind) (a b : ℤ) → signed kind (a +ℤ b) ≡ signed kind a +ℤ signed kind b
signed_plus Setup a b = refl
signed_plus Hold a b = omega (arith, ints)

pub signed_none : (kind : Kind) → signed kind (pos 0) ≡ pos 0
signed_none Setup = refl
signed_none Hold = refl

pub signed_twice : (kind : Kind) (a : ℤ) → signed kind (signed kind a) ≡ a
signed_twice Setup a = refl
signed_twice Hold a = omega (arith, ints)

some_is : {X : Type 0} {x y : X} → Some x ≡ Some y → x ≡ y
some_is e = cc

-- the empty walk ends where it begins
pub stays : (n e : ℕ) (sum : ℤ) → (if n == e then Some (pos 0) else None) ≡ Some sum → (n ≡ e) × (pos 0 ≡ sum)
stays n e sum f = elim (cases_Bool (n == e)) [
  | inl t ↦ (eqb-true n e t, some_is (sym (ap (λ (b : Bool). if b then Some (pos 0) else None) t) ∙ f))
  | inr t ↦ let g : None ≡ Some sum = sym (ap (λ (b : Bool). if b then Some (pos 0) else None) t) ∙ f in absurd (cc)
]

module _ (d : Design) (kind : Kind) (cone : Cone) (Near : ℕ → Type 0) (name : ℕ → Named) (steps : AreSteps d kind cone Near name) (e : ℕ) (inside : e < count_of cone) where
  pub tail_of : (n : ℕ) (ms : List ℕ) (sum : ℤ) → walk_sum ◌==◌ (delay_between cone) e n ms ≡ Some sum → IsNamedTail d kind cone Near name e n ms sum
  tail_of n [] sum f =
      let here = stays n e sum f in
      let is = here.0 in
      record {
        rest = pos 0;
        tail = record { outside = refl; walks = refl };
        sign = signed_none kind ∙ here.1;
        last = ap name is;
        known = tt;
        low = omega arith;
      }
  tail_of n (m ∷ ms) sum f =
      let z = sum_back (delay_between cone n m) (walk_sum ◌==◌ (delay_between cone) e m ms) sum f in
      let r = tail_of m ms z.right z.right_is in
      let step = steps.forth n m z.left r.low z.left_is in
      let takes = step.3.takes in
      let walks = r.tail.walks in
      record {
        rest = step.3.delay +ℤ r.rest;
        tail = record {
          outside = ap (λ (b : Bool). b || list_any (is_network_named d) (map name ms)) step.3.outside ∙ r.tail.outside;
          walks = λ k. plus_some (takes k) (walks k);
        };
        sign = signed_plus kind step.3.delay r.rest ∙ (let a = step.3.sign in let b = r.sign in λ k. a k +ℤ b k) ∙ z.both;
        last = r.last;
        known = ((r.low, step.2), r.known);
        low = step.0;
      }

  -- the times along a walk are those along its tail
  pub times_told : (n : ℕ) (ms : List ℕ) (sum : ℤ) → walk_sum ◌==◌ (delay_between cone) e n ms ≡ Some sum → (time : ℤ)
      → time ∷ times_after kind cone time n ms ≡ times_along d (data_split kind) time (name n) (map name ms)
  times_told n [] sum f time = refl
  times_told n (m ∷ ms) sum f time =
      let z = sum_back (delay_between cone n m) (walk_sum ◌==◌ (delay_between cone) e m ms) sum f in
      let r = tail_of m ms z.right z.right_is in
      let step = steps.forth n m z.left r.low z.left_is in
      let next : time_next kind cone time n m ≡ time +ℤ unwrap_or (named_delay d (data_split kind) (name n) (name m)) (pos 0) =
      ap (λ (o : Option ℤ). time +ℤ signed kind (unwrap_or o (pos 0))) z.left_is
      ∙ ap (λ (v : ℤ). time +ℤ v) (ap (signed kind) (sym step.3.sign) ∙ signed_twice kind step.3.delay)
      ∙ ap (λ (o : Option ℤ). time +ℤ unwrap_or o (pos 0)) (sym step.3.takes) in
      ap (λ (xs : List ℤ). time ∷ xs) (times_told m ms z.right z.right_is (time_next kind cone time n m))
      ∙ ap (λ (v : ℤ). time ∷ times_along d (data_split kind) v (name m) (map name ms)) next

module _ (d : Design) (kind : Kind) (cone : Cone) (Near : ℕ → Type 0) (name : ℕ → Named) (whole : AreBack d kind cone Near name) (e : ℕ) (inside : e < count_of cone) where
  pub walk_of : Near e → (n : Named) (post : List Named) (rest : ℤ) → last_of n post ≡ name e → IsTail d (data_split kind) n post rest → IsPlacedTail kind cone Near name e n post rest
  walk_of near n [] rest last tail =
      let zero_is : pos 0 ≡ rest = some_is tail.walks in
      record {
        place = e;
        low = inside;
        near = near;
        its = sym last;
        more = [];
        names = refl;
        known = tt;
        adds = ap (λ (b : Bool). if b then Some (pos 0) else None) (eq-eqb e e refl) ∙ ap Some (sym (signed_none kind) ∙ ap (signed kind) zero_is);
      }
  walk_of near n (m ∷ ms) rest last tail =
      let out = or_parts (is_network_named d m) (list_any (is_network_named d) ms) tail.outside in
      let z = sum_back (named_delay d (data_split kind) n m) (walk_delay d (data_split kind) m ms) rest tail.walks in
      let r = walk_of near m ms z.right last (record { outside = out.1; walks = z.right_is }) in
      let b = whole.back r.place r.low r.near (ap (is_network_named d) r.its ∙ out.0) n z.left (ap (named_delay d (data_split kind) n) r.its ∙ z.left_is) in
      let its = r.its in
      let names = r.names in
      let arc = b.arc in
      let adds = r.adds in
      record {
        place = b.place;
        low = b.low;
        near = b.near;
        its = b.its;
        more = r.place ∷ r.more;
        names = λ k. its k ∷ names k;
        known = ((r.low, r.near), r.known);
        adds = (λ k. plus_some (arc k) (adds k)) ∙ ap Some (sym (signed_plus kind z.left z.right) ∙ ap (signed kind) z.both);
      }
