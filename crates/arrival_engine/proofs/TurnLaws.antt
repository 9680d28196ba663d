-- The loops of a turn of an update: what is told of nodes, what they mark, and what is put.

use Rattle.std.proofs.Common.{◌≡◌, ℕ, suc, ◌+◌, ◌<◌, ◌≤◌, Bool, true, false, ◌||◌, List, [], ◌∷◌, ◌++◌, map, take, drop, length, get_or, ℤ, Option, None, Some, Result, Ok, Err, refl, sym, ap, subst, ◌∙◌, arith}
use Rattle.std.specs.Prelude.{All, OnOk, nat_eq, ◌&&◌, slice_get, slice_set}
use Rattle.std.specs.List.{list_any}
use Rattle.std.specs.Ordering.{int_eq}
use Rattle.std.specs.Cmp.Lexicographic.{pointwise}
use Rattle.std.proofs.lemmas.Bool.{false≢true, and_parts}
use Rattle.std.proofs.lemmas.Bool.Decides.{Decides-int_eq, Decides-eqb}
use Rattle.std.proofs.lemmas.List.{drop_more, get_or_default, get_or-map, length-map, set-get_or}
use Rattle.std.proofs.lemmas.List.Folds.{list_any_more}
use Rattle.std.proofs.lemmas.Option.{get_or_from_slice_get}
use Rattle.timing_defs.specs.declared.faults.Fault.{Fault}
use Rattle.timing_defs.specs.declared.rows.NodeRow.{NodeRow}
use Rattle.timing_rules.specs.Cones.{same_option}
use Rattle.arc_delays.specs.declared.tables.ArcDelay.{ArcDelay}
use Rattle.level_workers.specs.Mapped.{IsMap}
use Rattle.level_workers.proofs.Joins.{map-more}
use Rattle.level_cone.specs.Cone.{put_all}
use Rattle.pin_graph.specs.declared.arcs.GraphArc.{GraphArc}
use Rattle.pin_graph.specs.Nodes.{node_bound}
use Rattle.pin_graph.specs.Graphs.{Graphed, level_at}
use Rattle.pin_graph.specs.RowTables.{row_numbered, IsRangeFault}
use Rattle.arrival_engine.specs.declared.nodes.NodeAnswer.{NodeAnswer}
use Rattle.arrival_engine.specs.declared.passes.Counted.{Counted}
use Rattle.arrival_engine.specs.Analysed.{IsNodeAnswer, IsAnswer, IsLevelAnswer}
use Rattle.arrival_engine.specs.Updated.{same_delay, rows_told}

-- the first answer that is left is told, and counts one step
module _ {L : Type 0} (g : Graphed) (level : ℕ) (nodes : List ℕ) (all : All (λ n. (n < node_bound g.stored) × (level_at g n ≡ level)) nodes)
    (found : List NodeAnswer) (items rest : List (Counted L)) (answer : Counted L)
    (many : length found + length items ≡ length nodes) (left : IsMap (IsLevelAnswer g level) (drop (length found) nodes) items)
    (done : IsMap (IsNodeAnswer g) (take (length found) nodes) found) (e : items ≡ answer ∷ rest) where
  low : length found < length nodes
  low = let size = ap length e in omega (arith, size, many)

  n : ℕ
  n = get_or nodes (length found) 0

  both : IsMap (IsLevelAnswer g level) (get_or nodes (length found) 0 ∷ drop (length found + 1) nodes) (answer ∷ rest)
  both =
      subst (λ (xs : List ℕ). IsMap (IsLevelAnswer g level) xs (answer ∷ rest)) (drop_more nodes (length found) 0 low)
      (subst (λ (rs : List (Counted L)). IsMap (IsLevelAnswer g level) (drop (length found) nodes) rs) e left)

  here : IsAnswer g (get_or nodes (length found) 0) answer.answer × (answer.steps ≡ 1)
  here = let at = all (length found) 0 low in both.0 at.0 at.1

  pub told_fails : (f : Fault) → answer.answer ≡ Err f → IsRangeFault g.stored.design f
  told_fails f err = subst (λ (r : Result NodeAnswer Fault). IsAnswer g (get_or nodes (length found) 0) r) err here.0

  -- steps that counted those before it count it too
  pub told_counts : (old steps steps' : ℕ) → steps ≡ old + length found → steps' ≡ steps + answer.steps → (steps' ≡ old + length found + 1) × (steps' ≤ old + length nodes)
  told_counts old steps steps' was more = let one = here.1 in (omega (arith, was, more, one), omega (arith, was, more, one, low))

  module _ (a : NodeAnswer) (ok : answer.answer ≡ Ok a) (found' : List NodeAnswer) (pushed : found' ≡ found ++ a ∷ []) where
    pub longer : length found' ≡ length found + 1
    longer = ap length pushed ∙ one found
      where
        one : (xs : List NodeAnswer) → length (xs ++ a ∷ []) ≡ length xs + 1
        one [] = refl
        one (x ∷ xs) = let more = one xs in omega (arith, more)

    pub told_many : length found' + length rest ≡ length nodes
    told_many = let size = ap length e in omega (arith, size, many, longer)

    pub told_left : IsMap (IsLevelAnswer g level) (drop (length found') nodes) rest
    told_left = subst (λ (k : ℕ). IsMap (IsLevelAnswer g level) (drop k nodes) rest) (sym longer) both.1

    pub told_done : IsMap (IsNodeAnswer g) (take (length found') nodes) found'
    told_done =
        subst (λ (k : ℕ). IsMap (IsNodeAnswer g) (take k nodes) found') (sym longer)
        (map-more (IsNodeAnswer g) nodes (length found) (get_or nodes (length found) 0) found found' a low
        (get_or_default nodes (length found) 0 (get_or nodes (length found) 0) low) done
        (subst (λ (r : Result NodeAnswer Fault). IsAnswer g (get_or nodes (length found) 0) r) ok here.0) pushed)

-- answers that are told are as many as the nodes, and their rows those of the store
pub told_rows : (g : Graphed) (nodes : List ℕ) (answers : List NodeAnswer) → IsMap (IsNodeAnswer g) nodes answers → rows_told answers ≡ map (row_numbered g.stored) nodes
told_rows g [] [] m = refl
told_rows g [] (a ∷ more) m = absurd m
told_rows g (n ∷ nodes) [] m = absurd m
told_rows g (n ∷ nodes) (a ∷ more) m = λ k. m.0.row.row k ∷ told_rows g nodes more m.1 k

pub told_length : (g : Graphed) (nodes : List ℕ) (answers : List NodeAnswer) → IsMap (IsNodeAnswer g) nodes answers → length answers ≡ length nodes
told_length g [] [] m = refl
told_length g [] (a ∷ more) m = absurd m
told_length g (n ∷ nodes) [] m = absurd m
told_length g (n ∷ nodes) (a ∷ more) m = ap suc (told_length g nodes more m.1)

-- the row that is told of a node
pub row_here : (f : ℕ → NodeRow) (nodes : List ℕ) (answers : List NodeAnswer) (i d : ℕ) (e : NodeAnswer) → rows_told answers ≡ map f nodes → i < length nodes
    → (get_or answers i e).row ≡ f (get_or nodes i d)
row_here f nodes answers i d e same low =
    let long : length answers ≡ length nodes = sym (length-map answers (λ (a : NodeAnswer). a.row)) ∙ ap length same ∙ length-map nodes f in
    sym (get_or-map (λ (a : NodeAnswer). a.row) answers i e (e.row) (omega (arith, low, long)))
    ∙ ap (λ (xs : List NodeRow). get_or xs i (e.row)) same ∙ get_or-map f nodes i d (e.row) low

-- what one node more marks
pub marks_more : (p : ℕ → Bool) (old mid : Bool) (xs : List ℕ) (i d : ℕ) → i < length xs → mid ≡ (old || list_any p (take i xs))
    → (mid || p (get_or xs i d)) ≡ (old || list_any p (take (i + 1) xs))
marks_more p old mid xs i d low e =
    ap (λ b. b || p (get_or xs i d)) e ∙ apart old ∙ ap (λ b. old || b) (sym (list_any_more p xs i d low))
  where
    apart : (b : Bool) → ((b || list_any p (take i xs)) || p (get_or xs i d)) ≡ (b || (list_any p (take i xs) || p (get_or xs i d)))
    apart true = refl
    apart false = refl

pub on_ok : {X Y P Q : Type 0} (r : Result X Y) → (P → Q) → OnOk r P → OnOk r Q
on_ok (Ok x) f p = f p
on_ok (Err e) f p = p

-- the nodes to which arcs lead
pub any_heads : (p : ℕ → Bool) (arcs : List GraphArc) → list_any (λ (a : GraphArc). p a.to) arcs ≡ list_any p (map (λ (a : GraphArc). a.to) arcs)
any_heads p [] = refl
any_heads p (a ∷ arcs) = ap (λ b. p a.to || b) (any_heads p arcs)

pub heads_within : (bound : ℕ) (arcs : List GraphArc) → All (λ n. n < bound) (map (λ (a : GraphArc). a.to) arcs) → All (λ (a : GraphArc). a.to < bound) arcs
heads_within bound arcs all i d low =
    subst (λ (n : ℕ). n < bound) (get_or-map (λ (a : GraphArc). a.to) arcs i d (d.to) low)
    (all i (d.to) (omega (arith, low, length-map arcs (λ (a : GraphArc). a.to))))

-- one answer more is put
pub put_next : {X : Type 0} (f : NodeAnswer → X) (table table' : List X) (nodes : List ℕ) (i d : ℕ) (items rest : List NodeAnswer) (a : NodeAnswer) (goal : List X)
    → i < length nodes → items ≡ a ∷ rest → table' ≡ slice_set table (get_or nodes i d) (f a) → put_all table (drop i nodes) (map f items) ≡ goal
    → put_all table' (drop (i + 1) nodes) (map f rest) ≡ goal
put_next f table table' nodes i d items rest a goal low e put was =
    ap (λ t. put_all t (drop (i + 1) nodes) (map f rest)) put
    ∙ sym (ap (λ xs. put_all table xs (f a ∷ map f rest)) (drop_more nodes i d low))
    ∙ sym (ap (λ xs. put_all table (drop i nodes) (map f xs)) e)
    ∙ was

-- where no answer is left
pub put_done : {X : Type 0} (f : NodeAnswer → X) (table : List X) (nodes : List ℕ) (items : List NodeAnswer) (goal : List X) → length items ≡ 0
    → put_all table nodes (map f items) ≡ goal → table ≡ goal
put_done f table [] items goal none was = was
put_done f table (n ∷ nodes) [] goal none was = was
put_done f table (n ∷ nodes) (a ∷ items) goal none was = absurd (omega (arith, none))

-- what stands at a place already need not be written there
pub set_same : {X : Type 0} (xs : List X) (i : ℕ) (d told : X) → get_or xs i d ≡ told → xs ≡ slice_set xs i told
set_same xs i d told same = sym (set-get_or xs i d) ∙ ap (slice_set xs i) same

pub set_found : {X : Type 0} (xs : List X) (i : ℕ) (was told : X) → slice_get xs i ≡ Some was → was ≡ told → xs ≡ slice_set xs i told
set_found xs i was told here same = set_same xs i was told (get_or_from_slice_get xs i was was here ∙ same)

-- delays of arcs that compare as the same are equal
value_is : (a b : Option ℤ) → same_option int_eq a b ≡ true → a ≡ b
value_is None None e = refl
value_is None (Some y) e = absurd (false≢true e)
value_is (Some x) None e = absurd (false≢true e)
value_is (Some x) (Some y) e = ap Some ((Decides-int_eq x y).0 e)

delay_is : (a b : ArcDelay) → same_delay a b ≡ true → a ≡ b
delay_is a b e =
    let two = and_parts (nat_eq a.from b.from && same_option int_eq a.early b.early) (same_option int_eq a.late b.late) e in
    let one = and_parts (nat_eq a.from b.from) (same_option int_eq a.early b.early) two.0 in
    let from = (Decides-eqb a.from b.from).0 one.0 in
    let early = value_is a.early b.early one.1 in
    let late = value_is a.late b.late two.1 in
    λ k. record { from = from k; early = early k; late = late k }

pub delays_are : (xs ys : List ArcDelay) → pointwise same_delay xs ys ≡ true → xs ≡ ys
delays_are [] [] e = refl
delays_are [] (y ∷ ys) e = absurd (false≢true e)
delays_are (x ∷ xs) [] e = absurd (false≢true e)
delays_are (x ∷ xs) (y ∷ ys) e =
    let both = and_parts (same_delay x y) (pointwise same_delay xs ys) e in
    ap (λ (d : ArcDelay). d ∷ xs) (delay_is x y both.0) ∙ ap (λ (ds : List ArcDelay). y ∷ ds) (delays_are xs ys both.1)
