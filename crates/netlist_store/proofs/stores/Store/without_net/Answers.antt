use Rattle.std.proofs.Common.{ap, ◌∙◌, not, None, set, filter}
use Rattle.std.specs.Str.{bytes_eq}
use Rattle.timing_defs.specs.Wires.{rc_of}
use Rattle.timing_defs.specs.Edits.{net_in_use}
use Rattle.netlist_store.specs.Numbering.{Stored, number_of}
use Rattle.netlist_store.specs.Drafts.{with_nets}
use Rattle.netlist_store.proofs.NamedLaws.{number_is}
use Rattle.netlist_store.proofs.NetSteps.{net_left_design, net_left_tables}
use Rattle.netlist_store.proofs.stores.Store.without_net.Goals as goal

pub without_net_name-requires : goal.without_net_name-requires
without_net_name-requires c = number_is c.self.inside.names.nets c.args.name.now c.args.net (ap (λ (s : Stored). number_of s.nets c.args.name.now) c.self.view_is ∙ c.requires.number)

pub without_net_place-requires : goal.without_net_place-requires
without_net_place-requires c =
    c.self.invariant.nets_ordered c.args.net ∙ number_is c.self.inside.names.nets c.args.name.now c.args.net (ap (λ (s : Stored). number_of s.nets c.args.name.now) c.self.view_is ∙ c.requires.number)

pub invariant_of-result : goal.invariant_of-result
invariant_of-result c =
    net_left_tables c.self.inside.frame c.self.inside.names c.self.inside.rows c.self.inside.orders c.self.invariant c.args.name.now c.args.net c.in-Ok.names c.in-Ok.ensures c.laws.ensures (ap (λ (s : Stored). number_of s.nets c.args.name.now) c.self.view_is ∙ c.requires.number) (ap (λ (s : Stored). net_in_use s.design c.args.name.now) c.self.view_is ∙ c.requires.unused) (ap (λ (s : Stored). rc_of s.design c.args.name.now) c.self.view_is ∙ c.requires.bare)
    c.in-Ok-without_net_place.orders c.in-Ok-without_net_place.ensures

pub returns-in-Ok-without_net_place : goal.returns-in-Ok-without_net_place
returns-in-Ok-without_net_place c =
    net_left_design c.self.inside.frame c.self.inside.names c.self.inside.rows c.self.inside.orders c.self.invariant c.args.name.now c.args.net c.in-Ok.names c.in-Ok.ensures c.laws.ensures (ap (λ (s : Stored). number_of s.nets c.args.name.now) c.self.view_is ∙ c.requires.number) (ap (λ (s : Stored). net_in_use s.design c.args.name.now) c.self.view_is ∙ c.requires.unused) (ap (λ (s : Stored). rc_of s.design c.args.name.now) c.self.view_is ∙ c.requires.bare)
    c.in-Ok-without_net_place.orders c.in-Ok-without_net_place.ensures
    ∙ ap (λ (s : Stored). with_nets s (filter (λ n. not (bytes_eq n c.args.name.now)) s.design.nets) (set s.nets c.args.net None)) c.self.view_is
