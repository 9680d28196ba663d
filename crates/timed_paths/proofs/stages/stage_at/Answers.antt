use Rattle.std.proofs.Common.{◌≡◌, ap, subst, ◌∙◌, Option}
use Rattle.std.specs.Prelude.{option_and_then}
use Rattle.timing_rules.specs.Paths.{Named, delay_between}
use Rattle.timing_rules.specs.Rows.{as_fs}
use Rattle.timing_rules.specs.Stages.{named_node}
use Rattle.netlist_store.specs.Numbering.{Stored}
use Rattle.timed_paths.specs.Numbers.{number_named}
use Rattle.timed_paths.proofs.stages.stage_at.Goals as goal

pub returns : goal.returns
returns g c = λ from e.
    let at = subst (λ (z : Stored). (f : Option Named) (to : Named) → c.args.before ≡ option_and_then (number_named z) f → c.args.number ≡ number_named z to
    → c.delay_into-delay.result ≡ option_and_then (λ x. delay_between z.design c.args.split x to) f) c.requires.sources.graph c.delay_into-delay.ensures in
    let delay = c.in_fs.ensures ∙ ap as_fs (at from (named_node c.args.node.now) e c.requires.number) in
    let slew = c.in_fs-2.ensures ∙ ap as_fs (c.slew_at-slew.ensures (named_node c.args.node.now) c.requires.number) in
    λ i. record {
      pin = c.in_ok-pin.ensures i;
      tran = c.args.node.now.tran;
      time = c.args.node.now.time;
      delay = delay i;
      slew = slew i;
      drives = c.in_ok-drives.ensures i;
    }
