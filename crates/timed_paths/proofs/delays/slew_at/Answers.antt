use Rattle.std.proofs.Common.{◌≡◌, ℕ, ◌<◌, sym, ◌∙◌}
use Rattle.pin_graph.specs.Nodes.{node_bound}
use Rattle.path_search.proofs.TreeLaws.{some_of}
use Rattle.timed_paths.proofs.NumberLaws.{slew_there}
use Rattle.timed_paths.proofs.delays.slew_at.Goals as goal

pub returns-in-Some : goal.returns-in-Some
returns-in-Some g c = λ to e.
    c.slew_in.ensures
    ∙ slew_there c.args.store.now c.laws.ensures.numbered c.args.split (g.A.Rows.rows c.args.arrivals.now) c.requires.rows c.in-Some.node
    (some_of c.args.number c.in-Some.node (λ n. n < node_bound c.args.store.now) c.in-Some.is c.requires.number) c.row.result.now c.row.ensures to (sym c.in-Some.is ∙ e)
