use Rattle.std.proofs.Common.{◌≡◌, ◌<◌, ℤ, List, length, Option, sym, subst, ◌∙◌}
use Rattle.std.specs.Prelude.{All, IfSome}
use Rattle.timing_defs.specs.declared.edge_times.EdgeTime.{EdgeTime}
use Rattle.timing_defs.specs.declared.kinds.Split.TheVariants.{Early}
use Rattle.timing_rules.specs.Rows.{outer_some}
use Rattle.timing_defs.specs.RowTimes.{times_in}
use Rattle.timing_defs.specs.Kinds.{data_split}
use Rattle.pin_graph.specs.RowTables.{row_numbered}
use Rattle.timing_defs.proofs.Members.{some_is}
use Rattle.bounded_changes.specs.Carried.{IsBeyond}
use Rattle.bounded_changes.proofs.Outermost.{keep_beyond, add_beyond}
use Rattle.path_search.specs.declared.ends.EndTest.{EndTest}
use Rattle.path_search.specs.EndLows.{low_on}
use Rattle.path_search.specs.Slacks.{IsReadyTest}
use Rattle.path_search.proofs.EndLowLaws.{end_low_is, rows_low}
use Rattle.path_search.proofs.OfferForms.{tests_ready, tests_placed}
use Rattle.path_search.proofs.end_lows.end_low.Goals as goal

pub low_on_both-requires-clause-tests : goal.low_on_both-requires-clause-tests
low_on_both-requires-clause-tests g c =
    subst (λ (xs : List EndTest). All (IsReadyTest c.args.sources.now.store.now.design) xs) (sym c.as_slice.ensures)
    (tests_ready c.args.sources.now.graph.now c.args.sources.now.store.now c.requires.sources.graph c.laws.ensures.numbered c.laws.ensures.linked c.laws-2.ensures c.args.sources.now.tree.now
    c.requires.sources.clocks c.args.sources.now.kind c.args.end c.in_ok-tests.tests c.in_ok-tests.ensures c.requires.there)

pub low_on_both-requires-clause-places : goal.low_on_both-requires-clause-places
low_on_both-requires-clause-places g c =
    subst (λ (xs : List EndTest). All (λ (t : EndTest). IfSome t.place (λ p. p < length c.args.sources.now.tree.now)) xs) (sym c.as_slice.ensures)
    (tests_placed c.args.sources.now.graph.now c.args.sources.now.store.now c.requires.sources.graph c.laws.ensures.numbered c.laws.ensures.linked c.laws-2.ensures c.args.sources.now.tree.now
    c.requires.sources.clocks c.args.sources.now.kind c.args.end c.in_ok-tests.tests c.in_ok-tests.ensures c.requires.there)

pub low_on_both-requires-clause-before : goal.low_on_both-requires-clause-before
low_on_both-requires-clause-before g c =
    subst (λ (xs : List EdgeTime). All (λ (t : EdgeTime). t.clock < length c.args.sources.now.store.now.design.constraints.clocks) xs) (sym c.as_slice-2.ensures) c.requires.clocks

pub low_on_both-requires-clause-after : goal.low_on_both-requires-clause-after
low_on_both-requires-clause-after g c =
    let below = c.requires.end in
    let row : c.row-row.result.now ≡ row_numbered c.args.sources.now.store.now c.args.end = some_is (sym c.row-row.ensures ∙ c.requires.sources.told.row c.args.end below) in
    subst (λ (xs : List EdgeTime). All (λ (t : EdgeTime). t.clock < length c.args.sources.now.store.now.design.constraints.clocks) xs)
    (sym (c.as_slice-3.ensures ∙ c.times-after.ensures ∙ (λ k. times_in (c.data_split.ensures k) (row k))))
    (rows_low c.args.sources.now.graph.now c.args.sources.now.store.now c.requires.sources.graph c.laws.ensures.numbered c.laws.ensures.linked c.laws-2.ensures
    (data_split c.args.sources.now.kind) c.args.end)

pub returns-clause-before : goal.returns-clause-before
returns-clause-before g c =
    let below = c.requires.end in
    let row : c.row-row.result.now ≡ row_numbered c.args.sources.now.store.now c.args.end = some_is (sym c.row-row.ensures ∙ c.requires.sources.told.row c.args.end below) in
    let after = c.as_slice-3.ensures ∙ c.times-after.ensures ∙ (λ k. times_in (c.data_split.ensures k) (row k)) in
    let same = c.low_on_both.ensures ∙ (λ k.
    outer_some Early (low_on c.args.sources.now.store.now.design c.args.sources.now.kind c.args.sources.now.tree.now (c.as_slice.ensures k) (c.as_slice-2.ensures k))
    (low_on c.args.sources.now.store.now.design c.args.sources.now.kind c.args.sources.now.tree.now (c.as_slice.ensures k) (after k))) in
    end_low_is c.args.sources.now.graph.now c.args.sources.now.store.now c.requires.sources.graph c.laws.ensures.numbered c.laws.ensures.linked c.laws-2.ensures c.args.sources.now.tree.now
    c.requires.sources.clocks c.args.sources.now.kind c.args.end c.in_ok-tests.tests c.in_ok-tests.ensures c.args.before.now c.requires.clocks c.low_on_both.result
    (λ v h. subst (λ (o : Option ℤ). IsBeyond Early o v) (sym same)
    (keep_beyond Early (low_on c.args.sources.now.store.now.design c.args.sources.now.kind c.args.sources.now.tree.now c.in_ok-tests.tests c.args.before.now)
    (low_on c.args.sources.now.store.now.design c.args.sources.now.kind c.args.sources.now.tree.now c.in_ok-tests.tests
    (times_in (data_split c.args.sources.now.kind) (row_numbered c.args.sources.now.store.now c.args.end))) v h))

pub returns-clause-after : goal.returns-clause-after
returns-clause-after g c =
    let below = c.requires.end in
    let row : c.row-row.result.now ≡ row_numbered c.args.sources.now.store.now c.args.end = some_is (sym c.row-row.ensures ∙ c.requires.sources.told.row c.args.end below) in
    let after = c.as_slice-3.ensures ∙ c.times-after.ensures ∙ (λ k. times_in (c.data_split.ensures k) (row k)) in
    let same = c.low_on_both.ensures ∙ (λ k.
    outer_some Early (low_on c.args.sources.now.store.now.design c.args.sources.now.kind c.args.sources.now.tree.now (c.as_slice.ensures k) (c.as_slice-2.ensures k))
    (low_on c.args.sources.now.store.now.design c.args.sources.now.kind c.args.sources.now.tree.now (c.as_slice.ensures k) (after k))) in
    end_low_is c.args.sources.now.graph.now c.args.sources.now.store.now c.requires.sources.graph c.laws.ensures.numbered c.laws.ensures.linked c.laws-2.ensures c.args.sources.now.tree.now
    c.requires.sources.clocks c.args.sources.now.kind c.args.end c.in_ok-tests.tests c.in_ok-tests.ensures
    (times_in (data_split c.args.sources.now.kind) (row_numbered c.args.sources.now.store.now c.args.end))
    (rows_low c.args.sources.now.graph.now c.args.sources.now.store.now c.requires.sources.graph c.laws.ensures.numbered c.laws.ensures.linked c.laws-2.ensures
    (data_split c.args.sources.now.kind) c.args.end) c.low_on_both.result
    (λ v h. subst (λ (o : Option ℤ). IsBeyond Early o v) (sym same)
    (add_beyond Early (low_on c.args.sources.now.store.now.design c.args.sources.now.kind c.args.sources.now.tree.now c.in_ok-tests.tests c.args.before.now)
    (low_on c.args.sources.now.store.now.design c.args.sources.now.kind c.args.sources.now.tree.now c.in_ok-tests.tests
    (times_in (data_split c.args.sources.now.kind) (row_numbered c.args.sources.now.store.now c.args.end))) v h))
