use Rattle.std.proofs.Common.{◌<◌, ◌∙◌, List, ℕ, length, sym, subst}
use Rattle.std.specs.Prelude.{All, IfOk}
use Rattle.levelizer.specs.declared.links.Link.{Link}
use Rattle.levelizer.specs.Levels.{AreWithin}
use Rattle.levelizer.specs.Reaching.{AreReached}
use Rattle.pin_graph.specs.Networks.{network_links, clock_ports}
use Rattle.pin_graph.proofs.NetworkLaws.{network_within, ports_within}
use Rattle.pin_graph.proofs.networks.from_clocks.Goals as goal

pub reached-requires-clause-within : goal.reached-requires-clause-within
reached-requires-clause-within c =
    subst (λ (n : ℕ). AreWithin n c.args.links.now) (sym c.pin_bound.ensures.bound)
    (subst (λ (ls : List Link). AreWithin (length c.args.store.now.pins) ls) (sym c.requires.links)
    (network_within c.args.store.now c.laws.ensures.numbered c.laws.ensures.linked c.requires.fault))

pub reached-requires-clause-first : goal.reached-requires-clause-first
reached-requires-clause-first c =
    subst (λ (n : ℕ). All (λ k. k < n) c.as_slice.result.now) (sym c.pin_bound.ensures.bound)
    (subst (λ (xs : List ℕ). All (λ k. k < length c.args.store.now.pins) xs) (sym (c.as_slice.ensures ∙ c.in_ok-ports.ensures))
    (ports_within c.args.store.now c.laws.ensures.numbered c.laws.ensures.linked c.requires.fault))

pub returns : goal.returns
returns c =
    subst (λ (n : ℕ). IfOk c.reached.result (AreReached n (network_links c.args.store.now) (clock_ports c.args.store.now))) c.pin_bound.ensures.bound
    (subst (λ (ls : List Link). IfOk c.reached.result (AreReached c.pin_bound.result ls (clock_ports c.args.store.now))) c.requires.links
    (subst (λ (xs : List ℕ). IfOk c.reached.result (AreReached c.pin_bound.result c.args.links.now xs)) (c.as_slice.ensures ∙ c.in_ok-ports.ensures) c.reached.ensures))
