-- The branches by which a search begins: the walks from each launch to each end.

use Rattle.std.proofs.Common.{◌≡◌, ℕ, ◌+◌, inl, inr, List, [], ◌++◌, length, Option, Some, None, refl, arith}
use Rattle.std.specs.Prelude.{slice_get}
use Rattle.std.specs.List.{AllByRecursion}
use Rattle.std.proofs.lemmas.Bool.{cases_eq, cases_lt}
use Rattle.std.proofs.lemmas.Option.{slice_get_within}
use Rattle.worst_walks.specs.declared.cones.Launch.{Launch}
use Rattle.worst_walks.specs.declared.cones.WalkEnd.{WalkEnd}
use Rattle.worst_walks.specs.declared.cones.Cone.{Cone}
use Rattle.worst_walks.specs.declared.cones.Walk.{Walk}
use Rattle.worst_walks.specs.declared.tables.Entry.{Entry}
use Rattle.worst_walks.specs.Walks.{IsWalk, AreRanked, IsCone}
use Rattle.worst_walks.specs.Tables.{row_in, IsTable}
use Rattle.worst_walks.proofs.Offers.{walked, end_within}
use Rattle.ranked_walks.specs.declared.branches.Branch.{Branch}
use Rattle.ranked_walks.specs.declared.branches.Tables.{Tables}
use Rattle.ranked_walks.specs.Branches.{start_by, InBranch, IsOf, IsBranched}
use Rattle.ranked_walks.specs.Outs.{rows_at, AreTables}
use Rattle.ranked_walks.specs.Searching.{made_list, HasOne, IsOpen, Nothing, WaitsFrom, IsSearched}
use Rattle.ranked_walks.proofs.Bests.{from_launch, started}
use Rattle.ranked_walks.proofs.Classes.{added}

module _ (rank : ℕ → ℕ) (before : ℕ → List ℕ) (cone : Cone) (tables : Tables) (good : IsCone cone) (ranked : AreRanked cone rank) (t : AreTables rank cone tables) where
  pub start_none : IsSearched rank before cone tables [] [] (WaitsFrom cone 0 0)
  start_none = record {
    first = tt;
    each = tt;
    apart = tt;
    left = λ w one. tt;
    alone = λ w one waits. one;
    covers = λ w is left. inr (is, elim (cases_lt 0 w.end) [ inl low ↦ inl low | inr high ↦ inr (omega arith, omega arith) ]);
  }

  pub start_all : (bs : List Branch) → IsSearched rank before cone tables [] bs (WaitsFrom cone (length cone.ends) 0) → IsSearched rank before cone tables [] bs Nothing
  start_all bs s = record {
    first = s.first;
    each = s.each;
    apart = s.apart;
    left = s.left;
    alone = λ w one none. none;
    covers = λ w is left. elim (s.covers w is left) [
      | inl old ↦ inl old
      | inr waits ↦ (let low = end_within cone w waits.0 in elim waits.1 [ inl later ↦ absurd (omega arith) | inr here ↦ (let at = here.0 in absurd (omega arith)) ])
    ];
  }

  module _ (place : ℕ) (end : WalkEnd) (there : slice_get cone.ends place ≡ Some end) where
    pub next_end : (bs : List Branch) (n : ℕ) → n ≡ length end.launches → IsSearched rank before cone tables [] bs (WaitsFrom cone place n) → IsSearched rank before cone tables [] bs (WaitsFrom cone (place + 1) 0)
    next_end bs n e s = record {
      first = s.first;
      each = s.each;
      apart = s.apart;
      left = s.left;
      alone = λ w one waits. s.alone w one (waits.0, elim waits.1 [ inl later ↦ inl (omega arith) | inr here ↦ (let at = here.0 in inl (omega arith)) ]);
      covers = λ w is left. elim (s.covers w is left) [
        | inl old ↦ inl old
        | inr waits ↦ inr (
          waits.0,
          elim waits.1 [
            | inl later ↦ elim (cases_eq w.end (place + 1)) [ inl at ↦ inr (at, omega arith) | inr off ↦ inl (omega arith) ]
            | inr here ↦ (let x = walked cone place end w there (is, here.0) in
                let low = slice_get_within end.launches w.launch x.launch x.at in
                let high = here.1 in absurd (omega arith))
          ],
        )
      ];
    }

    module _ (i : ℕ) (launch : Launch) (at : slice_get end.launches i ≡ Some launch) where
      abbrev rows : List (Option Entry)
      rows = rows_at tables place

      h : IsTable rank cone end.node rows
      h = t.rows place end there

      abbrev C : Walk → Type 0
      C w = IsOf cone place i [] [] w

      in_class : (w : Walk) → IsWalk cone w → w.end ≡ place → w.launch ≡ i → C w
      in_class w is to from =
          let l = from_launch rank before cone place end rows good ranked there h i launch at w (is, to) from in
          record { is = is; to = to; from = from; next = launch.node; rest = l.rest; nodes = l.whole; free = refl }

      open_by : (o : Option Entry) → IsBranched rank before cone rows end.node place i [] [] (start_by place i launch o) → AllByRecursion (IsOpen rank before cone tables []) (made_list (start_by place i launch o))
      open_by None f = tt
      open_by (Some entry) f = (record { end = end; launch = launch; there = there; at = at; root = inl refl; walk = f.walk; shown = f.shown; best = f.best }, tt)

      into_by : (o : Option Entry) → IsBranched rank before cone rows end.node place i [] [] (start_by place i launch o) → (w : Walk) → C w → HasOne (λ b. InBranch cone [] b w) (made_list (start_by place i launch o))
      into_by None f w c = f w c
      into_by (Some entry) f w c = inl c

      back_by : (o : Option Entry) (w : Walk) → HasOne (λ b. InBranch cone [] b w) (made_list (start_by place i launch o)) → C w
      back_by None w none = absurd none
      back_by (Some entry) w one = elim one [ inl c ↦ c | inr none ↦ absurd none ]

      pub start_step : (bs : List Branch) → IsSearched rank before cone tables [] bs (WaitsFrom cone place i)
          → IsSearched rank before cone tables [] (bs ++ made_list (start_by place i launch (row_in (rows_at tables place) launch.node))) (WaitsFrom cone place (i + 1))
      start_step bs s =
          let f = started rank before cone place end rows good ranked there h i launch at in
          added rank before cone tables [] bs (start_by place i launch (row_in (rows_at tables place) launch.node)) C (WaitsFrom cone place i) (WaitsFrom cone place (i + 1))
          (record {
            opens = open_by (row_in (rows_at tables place) launch.node) f;
            into = into_by (row_in (rows_at tables place) launch.node) f;
            back = back_by (row_in (rows_at tables place) launch.node);
            parts = λ w waits. elim waits.1 [
              | inl later ↦ inr (waits.0, inl later)
              | inr here ↦ elim (cases_eq w.launch i) [
                | inl same ↦ inl (in_class w waits.0 here.0 same)
                | inr off ↦ (let high = here.1 in inr (waits.0, inr (here.0, omega arith)))
              ]
            ];
            of_class = λ w c. (let from = c.from in (c.is, inr (c.to, omega arith)));
            of_next = λ w waits. (waits.0, elim waits.1 [ inl later ↦ inl later | inr here ↦ (let high = here.1 in inr (here.0, omega arith)) ]);
            apart = λ w c waits. (let to = c.to in let from = c.from in elim waits.1 [ inl later ↦ omega arith | inr here ↦ (let high = here.1 in omega arith) ]);
            left = λ w c. tt;
          }) s
