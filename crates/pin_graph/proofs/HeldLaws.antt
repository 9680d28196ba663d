-- The lists of nodes, as they are given others and as nodes are added.

use Rattle.std.proofs.Common.{◌≡◌, ℕ, ◌+◌, ◌-◌, ◌<◌, ◌≤◌, List, [], ◌++◌, length, get_or, set, replicate, None, Some, sym, ap, subst, ◌∙◌, inl, inr, arith}
use Rattle.std.specs.Option.{unwrap_or}
use Rattle.std.proofs.lemmas.Bool.{cases_lt, cases_eq}
use Rattle.std.proofs.lemmas.List.{length-replicate, get_or-replicate, get_or_past, length-set, get_or-set_same, get_or-set_other, get_or_append_left, get_or-append-add, length-append}
use Rattle.pin_graph.specs.declared.arcs.GraphArc.{GraphArc}
use Rattle.pin_graph.specs.declared.fans.End.{End}
use Rattle.pin_graph.specs.declared.fans.Fan.{Fan}
use Rattle.pin_graph.specs.declared.held_fans.Fans.{Fans}
use Rattle.pin_graph.specs.Fans.{room_of, IsFanOf, IsRoom}
use Rattle.pin_graph.specs.HeldFans.{with_list, longer, IsHeldFan}
use Rattle.pin_graph.specs.Graphs.{fan_at, IsFans}
use Rattle.pin_graph.proofs.FanLaws.{is_room}

all_same : {X : Type 0} (x : X) (n m : ℕ) → get_or (replicate n x) m x ≡ x
all_same x n m = elim (cases_lt m n) [
  | inl low ↦ get_or-replicate n m x x low
  | inr high ↦ get_or_past (replicate n x) m x (omega (arith, length-replicate n x))
]

-- the lists of a fan
pub held_at : (n : ℕ) (fan : Fan) (fans : Fans) → IsHeldFan n fan fans → (m : ℕ) → fan_at fans m ≡ room_of fan m
held_at n fan fans h m =
    ap (λ o. unwrap_or o (room_of fans.first m)) (ap (λ xs. get_or xs m None) h.later ∙ all_same None n m) ∙ ap (λ (f : Fan). room_of f m) h.first

pub held_fans : (end : End) (n : ℕ) (arcs : List GraphArc) (fan : Fan) (fans : Fans) → IsFanOf n end arcs fan → IsHeldFan n fan fans → IsFans n fans
held_fans end n arcs fan fans of h = record {
  count = ap length h.later ∙ length-replicate n None;
  room = λ m low e. subst (λ (f : Fan). IsRoom f m) (sym h.first) (is_room end n arcs fan of m low);
}

-- a node is given a list
pub set_same : (fans : Fans) (node : ℕ) (arcs : List GraphArc) → node < length fans.later → fan_at (with_list fans node arcs) node ≡ arcs
set_same fans node arcs low = ap (λ o. unwrap_or o (room_of fans.first node)) (get_or-set_same fans.later node (Some arcs) None low)

pub set_other : (fans : Fans) (node m : ℕ) (arcs : List GraphArc) → (m ≡ node → ⊥) → fan_at (with_list fans node arcs) m ≡ fan_at fans m
set_other fans node m arcs other = ap (λ o. unwrap_or o (room_of fans.first m)) (get_or-set_other fans.later node m (Some arcs) None other)

pub set_fans : (n : ℕ) (fans : Fans) (node : ℕ) (arcs : List GraphArc) → IsFans n fans → node < n → IsFans n (with_list fans node arcs)
set_fans n fans node arcs h low = record {
  count = length-set fans.later node (Some arcs) ∙ h.count;
  room = λ m below e. elim (cases_eq m node) [
    | inl same ↦
        let some : Some arcs ≡ None = sym (get_or-set_same fans.later node (Some arcs) None (omega (arith, h.count))) ∙ ap (λ k. get_or (set fans.later node (Some arcs)) k None) (sym same) ∙ e in
        absurd (cc)
    | inr other ↦ h.room m below (sym (get_or-set_other fans.later node m (Some arcs) None other) ∙ e)
  ];
}

-- nodes are added
right_of : {X : Type 0} (xs ys : List X) (d : X) (m : ℕ) → length xs ≤ m → get_or (xs ++ ys) m d ≡ get_or ys (m - length xs) d
right_of xs ys d m high =
    let e : m ≡ length xs + (m - length xs) = omega arith in
    ap (λ k. get_or (xs ++ ys) k d) e ∙ get_or-append-add xs ys (m - length xs) d

pub longer_old : (fans : Fans) (n m : ℕ) → m < length fans.later → fan_at (longer fans n) m ≡ fan_at fans m
longer_old fans n m low =
    ap (λ o. unwrap_or o (room_of fans.first m)) (get_or_append_left fans.later (replicate (n - length fans.later) (Some [])) None m low)

pub longer_new : (fans : Fans) (n m : ℕ) → length fans.later ≤ m → m < n → fan_at (longer fans n) m ≡ []
longer_new fans n m high low =
    ap (λ o. unwrap_or o (room_of fans.first m))
    (right_of fans.later (replicate (n - length fans.later) (Some [])) None m high
    ∙ get_or-replicate (n - length fans.later) (m - length fans.later) (Some []) None (omega arith))

pub longer_fans : (k n : ℕ) (fans : Fans) → IsFans k fans → k ≤ n → IsFans n (longer fans n)
longer_fans k n fans h more =
    let none : List GraphArc = [] in
    let count = h.count in record {
      count = omega (arith, length-append fans.later (replicate (n - length fans.later) (Some none)), length-replicate (n - length fans.later) (Some none));
      room = λ m low e. elim (cases_lt m (length fans.later)) [
        | inl here ↦ h.room m (omega arith) (sym (get_or_append_left fans.later (replicate (n - length fans.later) (Some none)) None m here) ∙ e)
        | inr high ↦
            let some : Some none ≡ None =
            sym (right_of fans.later (replicate (n - length fans.later) (Some none)) None m high
            ∙ get_or-replicate (n - length fans.later) (m - length fans.later) (Some none) None (omega arith)) ∙ e in
            absurd (cc)
      ];
    }
