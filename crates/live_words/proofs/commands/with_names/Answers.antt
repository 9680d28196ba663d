use Rattle.std.proofs.Common.{◌≡◌, ◌∙◌, ap, rules}
use Rattle.std.proofs.lemmas.Result.{IfOk-weaker}
use Rattle.clap.specs.Walk.{rule_of}
use Rattle.clap.specs.Simple.{app_of, with_rule}
use Rattle.live_words.specs.Command.{repeated}
use Rattle.live_words.proofs.commands.with_names.Goals as goal

pub returns : goal.returns
returns c =
    let rule_is : rule_of c.num_args.result ≡ repeated c.args.id.now = search rules in
    IfOk-weaker c.arg.result _ _ (λ made h. h.shape (search rules) ∙ ap (with_rule (app_of c.args.command)) rule_is) c.arg.ensures
