use Rattle.std.proofs.Common.{◌≡◌, ◌++◌, ◌∙◌, ◌<◌, ℕ, [], Option, Some, None, sym, ap, subst}
use Rattle.std.specs.Prelude.{OnOk}
use Rattle.std.specs.Option.{option_map_or}
use Rattle.std.proofs.lemmas.List.{append-nil}
use Rattle.pin_graph.specs.Joins.{before}
use Rattle.pin_graph.specs.NodeArcs.{net_pair}
use Rattle.pin_graph.proofs.DriverLaws.{before_read}
use Rattle.pin_graph.proofs.GraphOf.{before_low}
use Rattle.pin_graph.proofs.node_arcs.add_net_arcs.Goals as goal

pub bounds : goal.bounds
bounds c = (before_read c.args.store.now c.args.table.now c.args.pin c.requires.table c.requires.pin).0

pub add_net_pair-requires-clause-from : goal.add_net_pair-requires-clause-from
add_net_pair-requires-clause-from c =
    let read = (before_read c.args.store.now c.args.table.now c.args.pin c.requires.table c.requires.pin).1 in
    let e : before c.args.store.now c.args.pin ≡ Some c.in-Some.from = sym read ∙ c.in-Some.is in
    subst (λ (n : ℕ). c.in-Some.from < n) (sym c.requires.network) (before_low c.args.store.now c.laws.ensures.numbered c.laws.ensures.linked c.args.pin c.in-Some.from e)

pub returns-in-Some : goal.returns-in-Some
returns-in-Some c =
    let read = (before_read c.args.store.now c.args.table.now c.args.pin c.requires.table c.requires.pin).1 in
    let e : before c.args.store.now c.args.pin ≡ Some c.in-Some.from = sym read ∙ c.in-Some.is in
    subst (λ (o : Option ℕ). OnOk c.add_net_pair.result (c.add_net_pair.new.arcs ≡ c.args.arcs.now ++ option_map_or (net_pair c.args.network.now c.args.pin) o [])) (sym e) c.add_net_pair.ensures

pub returns-in-None : goal.returns-in-None
returns-in-None c =
    let read = (before_read c.args.store.now c.args.table.now c.args.pin c.requires.table c.requires.pin).1 in
    let e : before c.args.store.now c.args.pin ≡ None = sym read ∙ c.in-None.is in
    sym (ap (λ o. c.args.arcs.now ++ option_map_or (net_pair c.args.network.now c.args.pin) o []) e ∙ append-nil c.args.arcs.now)
