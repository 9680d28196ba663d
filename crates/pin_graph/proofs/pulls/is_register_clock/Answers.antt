use Rattle.std.proofs.Common.{◌∙◌, false, ap, sym}
use Rattle.std.specs.Prelude.{nat_eq}
use Rattle.std.specs.List.{list_any}
use Rattle.std.specs.Option.{option_map_or}
use Rattle.pin_graph.specs.Pulls.{own_clocks}
use Rattle.pin_graph.proofs.PullLaws.{clock_is}
use Rattle.pin_graph.proofs.pulls.is_register_clock.Goals as goal

pub returns-in_ok-pins-in-Some : goal.returns-in_ok-pins-in-Some
returns-in_ok-pins-in-Some c =
    c.is_among.ensures ∙ ap (list_any (nat_eq c.args.pin)) (c.as_slice.ensures ∙ c.in_ok-pins-in-Some.ensures)
    ∙ ap (λ o. option_map_or (λ i. list_any (nat_eq c.args.pin) (own_clocks c.args.store.now i)) o false) c.in-Some.ensures
    ∙ sym (clock_is c.args.store.now c.laws.ensures.numbered c.laws.ensures.linked c.args.pin)

pub returns-in-None : goal.returns-in-None
returns-in-None c =
    ap (λ o. option_map_or (λ i. list_any (nat_eq c.args.pin) (own_clocks c.args.store.now i)) o false) c.in-None.ensures
    ∙ sym (clock_is c.args.store.now c.laws.ensures.numbered c.laws.ensures.linked c.args.pin)
