use Rattle.std.proofs.Common.{◌≡◌, ◌++◌, ◌∙◌, ℕ, Option, Some, None, sym, ap, subst}
use Rattle.std.specs.Prelude.{OnOk, option_map}
use Rattle.std.specs.Option.{option_to_list}
use Rattle.std.proofs.lemmas.List.{append-nil}
use Rattle.pin_graph.specs.Joins.{before, link_from}
use Rattle.pin_graph.proofs.DriverLaws.{before_read}
use Rattle.pin_graph.proofs.pin_links.add_net_link.Goals as goal

pub bounds : goal.bounds
bounds c = (before_read c.args.store.now c.args.table.now c.args.pin c.requires.table c.requires.pin).0

pub returns-in-Some : goal.returns-in-Some
returns-in-Some c =
    let read = (before_read c.args.store.now c.args.table.now c.args.pin c.requires.table c.requires.pin).1 in
    let e : before c.args.store.now c.args.pin ≡ Some c.in-Some.from = sym read ∙ c.in-Some.is in
    subst (λ (o : Option ℕ). OnOk c.push.result (c.push.new.self ≡ c.args.links.now ++ option_to_list (option_map (link_from c.args.pin) o))) (sym e) c.push.ensures.ok

pub returns-in-None : goal.returns-in-None
returns-in-None c =
    let read = (before_read c.args.store.now c.args.table.now c.args.pin c.requires.table c.requires.pin).1 in
    let e : before c.args.store.now c.args.pin ≡ None = sym read ∙ c.in-None.is in
    sym (ap (λ o. c.args.links.now ++ option_to_list (option_map (link_from c.args.pin) o)) e ∙ append-nil c.args.links.now)
