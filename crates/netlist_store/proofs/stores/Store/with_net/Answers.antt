use Rattle.std.proofs.Common.{◌≤◌, ap, sym, subst, ◌∙◌, List, ℕ, ◌∷◌, [], ◌++◌, length, arith}
use Rattle.std.specs.Prelude.{is_some}
use Rattle.netlist_store.specs.declared.tables.Names.{Names}
use Rattle.netlist_store.specs.Numbering.{Stored, number_of, with_name, AreKept}
use Rattle.netlist_store.specs.Drafts.{Follows, with_nets}
use Rattle.netlist_store.proofs.PinTables.{longer_with}
use Rattle.netlist_store.proofs.NetSteps.{net_added_design, net_added_tables}
use Rattle.netlist_store.proofs.stores.Store.with_net.Goals as goal

pub with_net_name-requires : goal.with_net_name-requires
with_net_name-requires c = record {
  fresh = (ap (λ (s : Stored). number_of s.nets c.in-Ok.copy) c.self.view_is ∙ ap (number_of c.args.self.nets) c.in-Ok.ensures ∙ c.requires.fresh);
  follows =
      subst (λ (b : Stored). Follows b.nets c.self.inside.names.nets) (sym c.base.view_is)
      (subst (λ (s : Stored). Follows c.args.base.now.nets s.nets) (sym c.self.view_is) c.requires.follows);
}

pub put_net-requires : goal.put_net-requires
put_net-requires c = c.self.invariant.nets_ordered c.in-Ok-with_net_name.made.1 ∙ ap is_some c.in-Ok-with_net_name.ensures.gap

pub invariant_of-result : goal.invariant_of-result
invariant_of-result c =
    net_added_tables c.self.inside.frame c.self.inside.names c.self.inside.rows c.self.inside.orders c.self.invariant c.in-Ok.copy c.in-Ok-with_net_name.made.1 c.in-Ok-with_net_name.made.0 c.in-Ok-with_net_name.ensures.added c.in-Ok-with_net_name.ensures.gap c.in-Ok-with_net_name.ensures.within
    (ap (λ (s : Stored). number_of s.nets c.in-Ok.copy) c.self.view_is ∙ ap (number_of c.args.self.nets) c.in-Ok.ensures ∙ c.requires.fresh) c.laws.ensures c.in-Ok-put_net.orders c.in-Ok-put_net.ensures.orders c.put_net.new.rows
    c.in-Ok-put_net.ensures.here c.in-Ok-put_net.ensures.kept

pub returns-in-Ok-put_net-clause-changed : goal.returns-in-Ok-put_net-clause-changed
returns-in-Ok-put_net-clause-changed c =
    net_added_design c.self.inside.frame c.self.inside.names c.self.inside.rows c.self.inside.orders c.self.invariant c.in-Ok.copy c.in-Ok-with_net_name.made.1 c.in-Ok-with_net_name.made.0 c.in-Ok-with_net_name.ensures.added c.in-Ok-with_net_name.ensures.gap c.in-Ok-with_net_name.ensures.within
    (ap (λ (s : Stored). number_of s.nets c.in-Ok.copy) c.self.view_is ∙ ap (number_of c.args.self.nets) c.in-Ok.ensures ∙ c.requires.fresh) c.laws.ensures c.in-Ok-put_net.orders c.in-Ok-put_net.ensures.orders c.put_net.new.rows
    ∙ ap (λ (s : Stored). with_nets s (s.design.nets ++ c.in-Ok.copy ∷ []) c.in-Ok-with_net_name.made.0.nets) c.self.view_is
    ∙ ap (λ (n : List ℕ). with_nets c.args.self (c.args.self.design.nets ++ n ∷ []) c.in-Ok-with_net_name.made.0.nets) c.in-Ok.ensures

pub returns-in-Ok-put_net-clause-follows : goal.returns-in-Ok-put_net-clause-follows
returns-in-Ok-put_net-clause-follows c = record {
  kept = subst (λ (b : Stored). AreKept b.nets c.in-Ok-with_net_name.made.0.nets) c.base.view_is c.in-Ok-with_net_name.ensures.kept;
  longer =
      let one : length c.args.base.now.nets ≤ length c.self.inside.names.nets =
      subst (λ (s : Stored). length c.args.base.now.nets ≤ length s.nets) (sym c.self.view_is) c.requires.follows.longer in
      let two : length c.self.inside.names.nets ≤ length (with_name c.self.inside.names.nets c.in-Ok-with_net_name.made.1 c.in-Ok.copy) =
      longer_with c.self.inside.names.nets c.in-Ok-with_net_name.made.1 c.in-Ok.copy in
      let three : length c.args.base.now.nets ≤ length (with_name c.self.inside.names.nets c.in-Ok-with_net_name.made.1 c.in-Ok.copy) = omega (arith, one, two) in
      subst (λ (n : Names). length c.args.base.now.nets ≤ length n.nets) (sym c.in-Ok-with_net_name.ensures.added) three;
}
