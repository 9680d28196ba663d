-- The least slack of two end nodes, found one after the other.

use Rattle.std.proofs.Common.{◌≡◌, ℤ, pos, ◌-ℤ◌, ◌≤ℤ◌, true, ◌⊎◌, inl, inr, Option, Some, None, Result, Ok, Err, IfOk, sym, subst, arith}
use Rattle.std.proofs.lemmas.Int.{ints}
use Rattle.std.proofs.lemmas.Option.{none-some, same_Some}
use Rattle.sta_units.specs.declared.units.Memory.{Memory}
use Rattle.bounded_slack.specs.Nets.{Net, end_of, lesser, IsSlack, IsLeastSlack, IsLeastOfTwo, IsAtMost, IsNet}
use Rattle.bounded_slack.specs.Cuts.{end_held, is_shut, room_of, IsThrough}
use Rattle.bounded_slack.proofs.Prefixes.{backward, shut_out, lesser_left, lesser_right, lesser_one}

-- what the bound of an end node shuts out is no less than what is known
all_shut : (net : Net) (u : Option ℤ) → IsNet net → is_shut u (room_of net (end_held net)) ≡ true → (s : ℤ) → IsSlack net s → IsAtMost u s
all_shut net u good shut s w =
    let h = backward net w.0 s w.1 in
    let through : IsThrough net (end_of net) (pos 0) s = record { before = h.0; room = s; is = h.1; least = omega (arith, ints) } in
    shut_out net u (end_of net) (pos 0) s good good.shape.end shut through

least_all : (net : Net) (u : Option ℤ) → IsLeastSlack net u → (s : ℤ) → IsSlack net s → IsAtMost u s
least_all net None none s w = none s w
least_all net (Some v) h s w = h.1 s w

least_own : (net : Net) (u : Option ℤ) → IsLeastSlack net u → (s : ℤ) → u ≡ Some s → IsSlack net s
least_own net None none s e = absurd (none-some s e)
least_own net (Some v) h s e = subst (IsSlack net) (same_Some v s e) h.0

pub first_alone : (one other : Net) (u : Option ℤ) → IsLeastSlack one u → IsNet other → is_shut u (room_of other (end_held other)) ≡ true → IsLeastOfTwo one other u
first_alone one other u least good shut =
    record { its = λ s e. inl (least_own one u least s e); all_one = least_all one u least; all_other = all_shut other u good shut }

pub lesser_of_two : (one other : Net) (u v w : Option ℤ) → IsLeastSlack one u → IsLeastSlack other v → w ≡ lesser u v → IsLeastOfTwo one other w
lesser_of_two one other u v w a b is =
    subst (IsLeastOfTwo one other) (sym is)
    (record {
      its = λ s e. elim (lesser_one u v s e) [ inl p ↦ inl (least_own one u a s p) | inr p ↦ inr (least_own other v b s p) ];
      all_one = λ s w. lesser_left u v s (least_all one u a s w);
      all_other = λ s w. lesser_right u v s (least_all other v b s w);
    })

turned : (one other : Net) (u : Option ℤ) → IsLeastOfTwo other one u → IsLeastOfTwo one other u
turned one other u h = record { its = λ s e. elim (h.its s e) [ inl p ↦ inr p | inr p ↦ inl p ]; all_one = h.all_other; all_other = h.all_one }

pub turned_ok : (one other : Net) (r : Result (Option ℤ) Memory) → IfOk r (IsLeastOfTwo other one) → IfOk r (IsLeastOfTwo one other)
turned_ok one other (Err e) h = tt
turned_ok one other (Ok u) h = turned one other u h
