-- Answers for nodes of a level that are written to their rows: the definition's rows, of fine nodes.

use Rattle.std.proofs.Common.{◌≡◌, ℕ, ◌+◌, ◌-◌, ◌<◌, ◌≤◌, Bool, true, List, [], ◌∷◌, map, All, drop, length, get_or, Some, Result, Ok, Err, refl, sym, ap, subst, ◌∙◌, inl, inr, arith}
use Rattle.std.specs.Prelude.{Contains, slice_get, slice_set, IsOk, if◌then◌else◌, nat_le}
use Rattle.std.proofs.lemmas.Bool.{false≢true}
use Rattle.std.proofs.lemmas.List.{drop_more, set-get_or}
use Rattle.std.proofs.lemmas.Option.{get_or_from_slice_get}
use Rattle.std.proofs.lemmas.List.Elements.{All-nil, All-cons, All-head, All-tail}
use Rattle.timing_defs.specs.declared.faults.Fault.{Fault}
use Rattle.timing_defs.specs.declared.rows.BackRow.{BackRow}
use Rattle.netlist_store.specs.Linked.{IsLinked}
use Rattle.netlist_store.specs.Numbering.{Stored, IsNumbered}
use Rattle.cow_table.specs.Writes.{put_at, written}
use Rattle.level_workers.specs.Mapped.{IsMap}
use Rattle.level_cone.specs.Cone.{put_all}
use Rattle.pin_graph.specs.declared.arcs.GraphArc.{GraphArc}
use Rattle.pin_graph.specs.Nodes.{node_bound}
use Rattle.pin_graph.specs.Graphs.{Graphed, IsGraph, fan_at}
use Rattle.pin_graph.specs.RowTables.{back_numbered, IsRangeFault}
use Rattle.timing_defs.proofs.Members.{none_in, in_cases}
use Rattle.required_engine.specs.declared.turns.Counted.{Counted}
use Rattle.required_engine.specs.Worked.{IsAnswerAt, IsCountedAt, answers_of}
use Rattle.required_engine.specs.Updated.{IsFineAt, IsAtLevel}
use Rattle.required_engine.proofs.BackCone.{froms_low}

put_first : (rows : List BackRow) (place : ℕ) (told : BackRow) → put_at {E = Fault} 0 rows place (Ok told) ≡ slice_set rows place told
unfolding put_at
put_first rows place told =
    let yes : nat_le 0 place ≡ true = grind arith in
    let same : place - 0 ≡ place = omega arith in
    ap (λ (b : Bool). if b then slice_set rows (place - 0) told else rows) yes ∙ ap (λ (n : ℕ). slice_set rows n told) same

module _ (g : Graphed) (level : ℕ) where
  pub put_told : (rows : List BackRow) (nodes : List ℕ) (answers : List (Result BackRow Fault)) → All IsOk answers → All (IsAtLevel g level) nodes
      → IsMap (IsAnswerAt g level) nodes answers → written 0 rows nodes answers ≡ put_all rows nodes (map (back_numbered g.stored) nodes)
  unfolding written
  put_told rows [] [] none at m = refl
  put_told rows [] (r ∷ rs) none at m = absurd m
  put_told rows (n ∷ nodes) [] none at m = absurd m
  put_told rows (n ∷ nodes) (Err f ∷ rs) none at m = absurd (false≢true (All-head IsOk (Err f) rs none))
  put_told rows (n ∷ nodes) (Ok told ∷ rs) none at m =
      let own = All-head (IsAtLevel g level) n nodes at in
      ap (λ (xs : List BackRow). written 0 xs nodes rs) (put_first rows n told ∙ ap (slice_set rows n) (m.0 own.0 own.1).row)
      ∙ put_told (slice_set rows n (back_numbered g.stored n)) nodes rs (All-tail IsOk (Ok told) rs none) (All-tail (IsAtLevel g level) n nodes at) m.1

  pub fines_told : (nodes : List ℕ) (answers : List (Result BackRow Fault)) → All IsOk answers → All (IsAtLevel g level) nodes → IsMap (IsAnswerAt g level) nodes answers → All (IsFineAt g.stored) nodes
  fines_told [] [] none at m = All-nil (IsFineAt g.stored)
  fines_told [] (r ∷ rs) none at m = absurd m
  fines_told (n ∷ nodes) [] none at m = absurd m
  fines_told (n ∷ nodes) (Err f ∷ rs) none at m = absurd (false≢true (All-head IsOk (Err f) rs none))
  fines_told (n ∷ nodes) (Ok told ∷ rs) none at m =
      let own = All-head (IsAtLevel g level) n nodes at in
      All-cons (IsFineAt g.stored) n nodes (m.0 own.0 own.1).fine (fines_told nodes rs (All-tail IsOk (Ok told) rs none) (All-tail (IsAtLevel g level) n nodes at) m.1)

  -- a fault among the answers is an origin
  pub range_told : (nodes : List ℕ) (answers : List (Result BackRow Fault)) → All (IsAtLevel g level) nodes → IsMap (IsAnswerAt g level) nodes answers
      → (f : Fault) → Contains answers (Err f) → IsRangeFault g.stored.design f
  range_told [] [] at m f c = absurd (none_in (Err f) c)
  range_told [] (r ∷ rs) at m f c = absurd m
  range_told (n ∷ nodes) [] at m f c = absurd m
  range_told (n ∷ nodes) (r ∷ rs) at m f c = elim (in_cases r rs (Err f) c) [
    | inl e ↦
        let own = All-head (IsAtLevel g level) n nodes at in
        subst (λ (x : Result BackRow Fault). IsAnswerAt g level n x) e m.0 own.0 own.1
    | inr d ↦ range_told nodes rs (All-tail (IsAtLevel g level) n nodes at) m.1 f d
  ]

-- what is counted of nodes of a level is answered for them, and each counts one step
pub answers_told : {L : Type 0} (g : Graphed) (level : ℕ) (nodes : List ℕ) (found : List (Counted L)) → IsMap (IsCountedAt g level) nodes found
    → IsMap (IsAnswerAt g level) nodes (answers_of found)
answers_told g level [] [] m = m
answers_told g level [] (c ∷ found) m = absurd m
answers_told g level (n ∷ nodes) [] m = absurd m
answers_told g level (n ∷ nodes) (c ∷ found) m = (λ low here. (m.0 low here).0, answers_told g level nodes found m.1)

module _ {L : Type 0} (g : Graphed) (level : ℕ) (nodes : List ℕ) (all : All (IsAtLevel g level) nodes) (at : ℕ) (items rest : List (Counted L)) (one : Counted L)
    (low : at < length nodes) (left : IsMap (IsCountedAt g level) (drop at nodes) items) (e : items ≡ one ∷ rest) where
  both_left : IsMap (IsCountedAt g level) (get_or nodes at 0 ∷ drop (at + 1) nodes) (one ∷ rest)
  both_left =
      subst (λ (xs : List ℕ). IsMap (IsCountedAt g level) xs (one ∷ rest)) (drop_more nodes at 0 low)
      (subst (λ (cs : List (Counted L)). IsMap (IsCountedAt g level) (drop at nodes) cs) e left)

  pub counted_left : IsMap (IsCountedAt g level) (drop (at + 1) nodes) rest
  counted_left = both_left.1

  -- steps that counted those before it count it too
  pub counts_one : (old steps steps' : ℕ) → steps ≡ old + at → steps' ≡ steps + one.steps → (steps' ≡ old + at + 1) × (steps' ≤ old + length nodes)
  counts_one old steps steps' was more =
      let here = all at 0 low in
      let step = (both_left.0 here.0 here.1).1 in
      (omega (arith, was, more, step), omega (arith, was, more, step, low))

pub froms_there : (g : Graphed) (s : Stored) → g.stored ≡ s → IsNumbered s → IsLinked s.design → IsGraph g
    → (n : ℕ) → n < node_bound g.stored → All (λ (arc : GraphArc). arc.from < node_bound g.stored) (fan_at g.ins n)
froms_there g s same num linked is =
    froms_low g (subst (λ (x : Stored). IsNumbered x) (sym same) num) (subst (λ (x : Stored). IsLinked x.design) (sym same) linked) is

-- a node of a level has a row
pub place_low : (g : Graphed) (level : ℕ) (nodes : List ℕ) → All (IsAtLevel g level) nodes → (i d : ℕ) → i < length nodes → get_or nodes i d < node_bound g.stored
place_low g level nodes at i d low = (at i d low).0

-- a row that is there already need not be written
pub set_found : (rows : List BackRow) (i : ℕ) (was told : BackRow) → slice_get rows i ≡ Some was → was ≡ told → rows ≡ slice_set rows i told
set_found rows i was told here same =
    sym (set-get_or rows i was) ∙ ap (slice_set rows i) (get_or_from_slice_get rows i was was here ∙ same)
