-- The walks to which branches lead.

use Rattle.std.proofs.Common.{◌≡◌, ℕ, zero, suc, ◌<◌, ◌≤◌, Bool, true, false, inl, inr, List, [], ◌∷◌, ◌++◌, length, take, Option, Some, None, refl, sym, ap, subst, ◌∙◌, arith}
use Rattle.std.specs.Prelude.{int_lt, min, slice_get, IsSome, All}
use Rattle.std.proofs.lemmas.Bool.{cases_Bool, cases_lt}
use Rattle.std.proofs.lemmas.Int.{ints}
use Rattle.std.proofs.lemmas.Option.{same_Some, slice_get_within}
use Rattle.worst_walks.specs.declared.cones.WalkEnd.{WalkEnd}
use Rattle.worst_walks.specs.declared.cones.Cone.{Cone}
use Rattle.worst_walks.specs.declared.cones.Walk.{Walk}
use Rattle.worst_walks.specs.declared.tables.Entry.{Entry}
use Rattle.worst_walks.specs.Walks.{count_of, comes_before, IsCone}
use Rattle.worst_walks.specs.Tables.{row_in, IsTable, LeadsTo, Traces, IsTrace}
use Rattle.worst_walks.specs.Searches.{IsFalling}
use Rattle.worst_walks.proofs.Knowing.{walk_known}
use Rattle.worst_walks.proofs.Offers.{is_falling}
use Rattle.ranked_walks.specs.declared.branches.Branch.{Branch}
use Rattle.ranked_walks.specs.declared.branches.Tables.{Tables}
use Rattle.ranked_walks.specs.Branches.{kept_of, IsShown}
use Rattle.ranked_walks.specs.Outs.{rows_at, AreTables}
use Rattle.ranked_walks.specs.Searching.{IsOpen, IsTold, IsWalkOf}
use Rattle.ranked_walks.proofs.Comparing.{slack_below, slack_above}

pub none_taken : (i : ℕ) → take {A = ℕ} i [] ≡ []
none_taken zero = refl
none_taken (suc i) = refl

pub taken_least : (i : ℕ) (xs : List ℕ) → take (min i (length xs)) xs ≡ take i xs
taken_least i xs = elim (cases_lt i (length xs)) [
  | inl low ↦ let e : min i (length xs) ≡ i = omega arith in rw e refl
  | inr high ↦ let e : min i (length xs) ≡ length xs = omega arith in rw e (take_all (length xs) xs (omega arith) ∙ sym (take_all i xs high))
]
  where
    take_all : (j : ℕ) (ys : List ℕ) → length ys ≤ j → take j ys ≡ ys
    take_all j [] low = none_taken j
    take_all zero (y ∷ ys) low = absurd (omega arith)
    take_all (suc j) (y ∷ ys) low = ap (λ zs. y ∷ zs) (take_all j ys (omega arith))

-- the list that the entries lead along is one
leads_one : (o : Option Entry) (m p : ℕ) → LeadsTo o m → LeadsTo o p → m ≡ p
leads_one None m p f g = absurd f
leads_one (Some entry) m p f g = sym f ∙ g

traces_one : (rows : List (Option Entry)) (end n : ℕ) (ms ps : List ℕ) → Traces rows end n ms → Traces rows end n ps → ms ≡ ps
traces_one rows end n [] [] f g = refl
traces_one rows end n [] (p ∷ ps) f g = absurd (g.0 f)
traces_one rows end n (m ∷ ms) [] f g = absurd (f.0 g)
traces_one rows end n (m ∷ ms) (p ∷ ps) f g =
    let same = leads_one (row_in rows n) m p f.1 g.1 in
    let rest = traces_one rows end p ms ps (subst (λ j. Traces rows end j ms) same f.2) g.2 in
    ap (λ j. j ∷ ms) same ∙ ap (λ js. p ∷ js) rest

pub shown_one : (rows : List (Option Entry)) (end : ℕ) (kept : List ℕ) (b : Branch) (v w : Walk) → IsShown rows end kept b v → IsShown rows end kept b w → v ≡ w
shown_one rows end kept b v w f g =
    let s : v.slack ≡ w.slack = f.slack ∙ sym g.slack in
    let l : v.launch ≡ w.launch = f.from ∙ sym g.from in
    let e : v.end ≡ w.end = f.to ∙ sym g.to in
    let rest = traces_one rows end b.next f.rest g.rest f.traces g.traces in
    let n : v.nodes ≡ w.nodes = f.nodes ∙ ap (λ ms. kept ++ (b.next ∷ ms)) rest ∙ sym g.nodes in
    λ i. record { slack = s i; launch = l i; end = e i; nodes = n i }

row-by : (rows : List (Option Entry)) (end n : ℕ) (ms : List ℕ) (o : Option Entry) → row_in rows n ≡ o → (n ≡ end → IsSome (row_in rows n)) → Traces rows end n ms → IsSome (row_in rows n)
row-by rows end n [] o e last tr = last tr
row-by rows end n (m ∷ ms) None e last tr = absurd (subst (λ x. LeadsTo x m) e tr.1)
row-by rows end n (m ∷ ms) (Some entry) e last tr = subst IsSome (sym e) refl

module _ (rank : ℕ → ℕ) (before : ℕ → List ℕ) (cone : Cone) (tables : Tables) (given : List Walk) (good : IsCone cone) (t : AreTables rank cone tables) where
  module _ (b : Branch) (o : IsOpen rank before cone tables given b) where
    pub open_low : b.end < length cone.ends
    open_low = slice_get_within cone.ends b.end o.end o.there

    h : IsTable rank cone o.end.node (rows_at tables b.end)
    h = t.rows b.end o.end o.there

    same_end : (end : WalkEnd) → slice_get cone.ends b.end ≡ Some end → o.end ≡ end
    same_end end there = same_Some o.end end (sym o.there ∙ there)

    pub open_falling : (end : WalkEnd) → slice_get cone.ends b.end ≡ Some end → IsFalling (rows_at tables b.end) end.node
    open_falling end there = is_falling rank cone end.node (rows_at tables b.end) good (t.rows b.end end there)

    pub open_row : IsSome (row_in (rows_at tables b.end) b.next)
    open_row =
        row-by (rows_at tables b.end) o.end.node b.next o.shown.rest (row_in (rows_at tables b.end) b.next) refl
        (λ e. subst (λ n. IsSome (row_in (rows_at tables b.end) n)) (sym e) (subst IsSome (sym h.last) refl)) o.shown.traces

    pub open_walk : (w : Walk) → IsWalkOf cone tables given b w → w ≡ o.walk
    open_walk w of = shown_one (rows_at tables b.end) o.end.node (kept_of given b) b w o.walk (of o.end o.there) o.shown

    pub open_known : (count : ℕ) → count_of cone ≤ count → (w : Walk) → IsWalkOf cone tables given b w → All (λ n. n < count) w.nodes
    open_known count low w of = subst (λ (v : Walk). All (λ n. n < count) v.nodes) (sym (open_walk w of)) (walk_known rank before count cone good low o.walk o.best.0.is)

    led-by : (end : WalkEnd) → slice_get cone.ends b.end ≡ Some end → (list : List ℕ) → IsTrace (rows_at tables b.end) end.node b.next list
        → (w : Walk) → w.slack ≡ b.slack → w.launch ≡ b.launch → w.end ≡ b.end → w.nodes ≡ kept_of given b ++ list → IsShown (rows_at tables b.end) end.node (kept_of given b) b w
    led-by end there [] tr w s l e n = absurd tr
    led-by end there (m ∷ ms) tr w s l e n =
        record { slack = s; to = e; from = l; rest = ms; nodes = n ∙ ap (λ x. kept_of given b ++ (x ∷ ms)) tr.0; traces = tr.1 }

    pub led : (end : WalkEnd) → slice_get cone.ends b.end ≡ Some end → (list : List ℕ) → IsTrace (rows_at tables b.end) end.node b.next list
        → (w : Walk) → w.slack ≡ b.slack → w.launch ≡ b.launch → w.end ≡ b.end → w.nodes ≡ kept_of given b ++ list → IsWalkOf cone tables given b w
    led end there list tr w s l e n = λ other at.
        led-by other at list (subst (λ (x : WalkEnd). IsTrace (rows_at tables b.end) x.node b.next list) (same_Some end other (sym there ∙ at)) tr) w s l e n

  module _ (b c : Branch) (o : IsOpen rank before cone tables given b) (p : IsOpen rank before cone tables given c) where
    pub told_by_slack : (b.slack ≡ c.slack → ⊥) → IsTold rank before cone tables given b c (int_lt b.slack c.slack)
    told_by_slack other = λ v w f g.
        (let s = (f o.end o.there).slack in
        let r = (g p.end p.there).slack in
        let off : v.slack ≡ w.slack → ⊥ = λ e. other (sym s ∙ e ∙ r) in
        elim (cases_Bool (int_lt b.slack c.slack)) [
          | inl less ↦ slack_below rank before v w (grind (arith, ints)) off ∙ sym less
          | inr more ↦ slack_above rank before v w (grind (arith, ints)) off ∙ sym more
        ])

    pub told_behind : int_lt c.slack b.slack ≡ true → IsTold rank before cone tables given b c false
    told_behind more =
        let less : int_lt b.slack c.slack ≡ false = grind (arith, ints) in
        subst (IsTold rank before cone tables given b c) less (told_by_slack (λ e. grind (arith, ints)))

    pub told_by_walks : (x y : Walk) → IsWalkOf cone tables given b x → IsWalkOf cone tables given c y → (told : Bool) → told ≡ comes_before rank before x y → IsTold rank before cone tables given b c told
    told_by_walks x y f g told e = λ v w k l.
        ap (λ z. comes_before rank before z w) (open_walk b o v k ∙ sym (open_walk b o x f))
        ∙ ap (λ z. comes_before rank before x z) (open_walk c p w l ∙ sym (open_walk c p y g)) ∙ sym e
