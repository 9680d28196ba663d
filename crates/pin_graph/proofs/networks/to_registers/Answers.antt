use Rattle.std.proofs.Common.{◌<◌, ◌∙◌, List, ℕ, map, length, sym, ap, subst}
use Rattle.std.specs.Prelude.{All, IfOk}
use Rattle.levelizer.specs.declared.links.Link.{Link}
use Rattle.levelizer.specs.Levels.{AreWithin}
use Rattle.levelizer.specs.Reaching.{AreReached}
use Rattle.pin_graph.specs.Networks.{network_links, turned, clock_pins}
use Rattle.pin_graph.proofs.NetworkLaws.{turned_within, pins_within}
use Rattle.pin_graph.proofs.networks.to_registers.Goals as goal

pub reached-requires-clause-within : goal.reached-requires-clause-within
reached-requires-clause-within c =
    subst (λ (n : ℕ). AreWithin n c.as_slice.result.now) (sym c.pin_bound.ensures.bound)
    (subst (λ (ls : List Link). AreWithin (length c.args.store.now.pins) ls) (sym (c.as_slice.ensures ∙ c.in_ok-turned.ensures ∙ ap (map turned) c.requires.links))
    (turned_within c.args.store.now c.laws.ensures.numbered c.laws.ensures.linked c.requires.fault))

pub reached-requires-clause-first : goal.reached-requires-clause-first
reached-requires-clause-first c =
    subst (λ (n : ℕ). All (λ k. k < n) c.as_slice-2.result.now) (sym c.pin_bound.ensures.bound)
    (subst (λ (xs : List ℕ). All (λ k. k < length c.args.store.now.pins) xs) (sym (c.as_slice-2.ensures ∙ c.in_ok-pins.ensures))
    (pins_within c.args.store.now c.laws.ensures.numbered c.laws.ensures.linked c.requires.fault))

pub returns : goal.returns
returns c =
    subst (λ (n : ℕ). IfOk c.reached.result (AreReached n (map turned (network_links c.args.store.now)) (clock_pins c.args.store.now))) c.pin_bound.ensures.bound
    (subst (λ (ls : List Link). IfOk c.reached.result (AreReached c.pin_bound.result ls (clock_pins c.args.store.now))) (c.as_slice.ensures ∙ c.in_ok-turned.ensures ∙ ap (map turned) c.requires.links)
    (subst (λ (xs : List ℕ). IfOk c.reached.result (AreReached c.pin_bound.result c.as_slice.result.now xs)) (c.as_slice-2.ensures ∙ c.in_ok-pins.ensures) c.reached.ensures))
