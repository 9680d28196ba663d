use Rattle.std.proofs.Common.{rules, ◌≡◌, ◌+◌, ◌++◌, [], length, sym, ap, subst, ◌∙◌}
use Rattle.std.proofs.lemmas.Option.{slice_get_within}
use Rattle.worst_walks.specs.Walks.{most_nodes}
use Rattle.worst_walks.specs.Tables.{row_in, IsBounded}
use Rattle.ranked_walks.specs.Branches.{start_by}
use Rattle.ranked_walks.specs.Searching.{made_list, IsSearched, WaitsFrom}
use Rattle.ranked_walks.proofs.Fitting.{rows_bounded}
use Rattle.ranked_walks.proofs.Starting.{start_step, next_end}
use Rattle.ranked_walks.proofs.starts.start_at.Goals as goal

pub start_by-made-requires-clause-bounded : goal.start_by-made-requires-clause-bounded
start_by-made-requires-clause-bounded g c =
    subst (λ rows. IsBounded most_nodes (row_in rows c.launch_at.result.now.node)) (sym c.rows_of.ensures)
    (rows_bounded (g.O.WalkOrder.rank c.args.order.now) c.args.cone.now c.args.tables.now c.args.place c.launch_at.result.now.node c.requires.cone c.requires.tables
    (slice_get_within c.args.cone.now.ends c.args.place c.args.end.now c.requires.there))

pub loop-launch-preserved : goal.loop-launch-preserved
loop-launch-preserved g c =
    let rank = g.O.WalkOrder.rank c.args.order.now in
    let before = g.O.WalkOrder.before c.args.order.now in
    subst (λ bs. IsSearched rank before c.args.cone.now c.args.tables.now [] bs (WaitsFrom c.args.cone.now c.args.place (c.loop-launch.launch + 1)))
    (sym (c.in_ok-add.ensures ∙ ap (λ m. c.loop-launch.branches.items ++ made_list m)
    (c.start_by-made.ensures ∙ ap (λ rows. start_by c.args.place c.loop-launch.launch c.launch_at.result.now (row_in rows c.launch_at.result.now.node)) c.rows_of.ensures)))
    (start_step rank before c.args.cone.now c.args.tables.now c.requires.cone c.requires.order.ranked c.requires.tables c.args.place c.args.end.now c.requires.there
    c.loop-launch.launch c.launch_at.result.now c.launch_at.ensures c.loop-launch.branches.items c.loop-launch.invariant)

pub returns : goal.returns
returns g c =
    let all : c.loop-launch.launch ≡ length c.args.end.now.launches = search rules in
    next_end (g.O.WalkOrder.rank c.args.order.now) (g.O.WalkOrder.before c.args.order.now) c.args.cone.now c.args.tables.now c.requires.cone c.requires.order.ranked c.requires.tables
    c.args.place c.args.end.now c.requires.there c.loop-launch.branches.items c.loop-launch.launch all c.loop-launch.invariant
