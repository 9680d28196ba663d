use Rattle.std.proofs.Common.{ap, ◌∙◌, set, None, not, filter}
use Rattle.std.specs.Str.{bytes_eq}
use Rattle.timing_defs.specs.Wires.{rc_of}
use Rattle.timing_defs.specs.Edits.{net_in_use}
use Rattle.netlist_store.specs.Numbering.{Stored, number_of}
use Rattle.netlist_store.specs.Drafts.{with_nets}
use Rattle.netlist_store.proofs.EditFacts.{left_listed, left_free, no_rc_left}
use Rattle.netlist_store.proofs.EditEnds.{net_left_follows}
use Rattle.netlist_store.proofs.stores.Store.remove_net.Goals as goal

pub known_net-number-requires : goal.known_net-number-requires
known_net-number-requires c = left_listed c.args.self.design c.args.net.now c.requires.faults

pub without_net-requires : goal.without_net-requires
without_net-requires c = record {
  number = ap (λ (s : Stored). number_of s.nets c.args.net.now) c.in_ok-bare.ensures ∙ c.known_net-number.ensures;
  unused = ap (λ (s : Stored). net_in_use s.design c.args.net.now) c.in_ok-bare.ensures ∙ left_free c.args.self.design c.args.net.now c.requires.faults;
  bare = ap (λ (s : Stored). rc_of s.design c.args.net.now) c.in_ok-bare.ensures ∙ no_rc_left c.args.net.now c.args.self.design.rcs;
}

pub returns-clause-design : goal.returns-clause-design
returns-clause-design c =
    ap (λ (z : Stored). z.design) c.in_ok-after.ensures
    ∙ ap (λ (z : Stored). record z.design { nets = filter (λ n. not (bytes_eq n c.args.net.now)) z.design.nets }) c.in_ok-bare.ensures

pub returns-clause-follows : goal.returns-clause-follows
returns-clause-follows c =
    net_left_follows c.args.base.now c.args.self c.in_ok-after.after c.args.net.now c.known_net-number.result c.known_net-number.ensures c.laws.ensures.numbered.nets
    c.laws-2.ensures.numbered.nets
    (c.in_ok-after.ensures
    ∙ ap (λ (z : Stored). with_nets z (filter (λ n. not (bytes_eq n c.args.net.now)) z.design.nets) (set z.nets c.known_net-number.result None)) c.in_ok-bare.ensures)
    c.requires.follows
