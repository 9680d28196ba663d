use Rattle.std.proofs.Common.{◌≡◌, ap, subst, ◌∙◌}
use Rattle.std.specs.Prelude.{IfOk}
use Rattle.std.specs.Str.{bytes_eq}
use Rattle.std.proofs.lemmas.Bool.{and_parts}
use Rattle.timing_defs.specs.declared.parasitics.NetRc.{NetRc}
use Rattle.timing_defs.specs.Edits.{with_rc}
use Rattle.timing_defs.specs.Documents.{is_net_rc}
use Rattle.netlist_store.specs.Numbering.{Stored, number_of}
use Rattle.netlist_store.specs.Drafts.{with_rcs}
use Rattle.netlist_store.proofs.ShardLaws.{same_is}
use Rattle.netlist_store.proofs.stores.Store.replace_rc.Goals as goal

pub with_rc-requires : goal.with_rc-requires
with_rc-requires c =
    let k = and_parts (bytes_eq c.args.rc.now.net c.args.net.now) (is_net_rc c.args.rc.now) c.requires.edit in
    record {
      number =
          ap (λ (r : NetRc). number_of c.args.self.nets r.net) c.in-Ok.ensures ∙ ap (number_of c.args.self.nets) (same_is c.args.rc.now.net c.args.net.now k.0)
          ∙ c.known_net-number.ensures;
      amounts = ap is_net_rc c.in-Ok.ensures ∙ k.1;
    }

pub returns-in-Ok : goal.returns-in-Ok
returns-in-Ok c =
    subst (λ (r : NetRc). IfOk c.with_rc.result (λ (after : Stored). after ≡ with_rcs c.args.self (with_rc r c.args.self.design.rcs))) c.in-Ok.ensures c.with_rc.ensures
