use Rattle.std.proofs.Common.{◌≡◌, ◌∙◌, ap, ap₂, true, false, codes}
use Rattle.std.proofs.lemmas.Result.{IfOk-weaker}
use Rattle.clap.specs.Simple.{App, app_of, app_of_fields, new_app, on_top, with_subcommand}
use Rattle.clap.specs.declared.builder.command.Command.TheViews.{out-Command}
use Rattle.live_words.specs.Command.{live_app}
use Rattle.live_words.proofs.AppLemmas.{plain_local}
use Rattle.live_words.proofs.commands.lizdrog.Goals as goal

abbrev unnamed : App → App
unnamed a = on_top (λ s. record s { no_binary_name = true }) a

pub returns : goal.returns
returns c =
    let live_is : app_of c.in_ok-lives.lives ≡ live_app = c.in_ok-lives.ensures in
    let live_local : (out-Command c.in_ok-lives.lives).has_globals ≡ false = plain_local c.in_ok-lives.lives (ap (λ (a : App). a.top.is_plain) live_is) in
    let top_is : app_of c.no_binary_name.result ≡ unnamed (new_app (codes "lizdrog")) = ap app_of_fields c.no_binary_name.ensures ∙ ap unnamed c.new.ensures.app in
    IfOk-weaker c.subcommand.result _ _
    (λ made h. h.shape live_local ∙ ap₂ with_subcommand top_is (ap (λ (a : App). a.top) live_is))
    c.subcommand.ensures
