use Rattle.std.proofs.Common.{◌≡◌, ◌∙◌, ap, rules}
use Rattle.std.proofs.lemmas.Result.{IfOk-weaker}
use Rattle.clap.specs.Walk.{rule_of}
use Rattle.clap.specs.Simple.{app_of, with_rule}
use Rattle.command_words.specs.Command.{optional}
use Rattle.live_words.proofs.commands.with_option.Goals as goal

pub returns : goal.returns
returns c =
    let rule_is : rule_of c.long.result ≡ optional c.args.id.now c.args.name.now = search rules in
    IfOk-weaker c.arg.result _ _ (λ made h. h.shape (search rules) ∙ ap (with_rule (app_of c.args.command)) rule_is) c.arg.ensures
