use Rattle.std.proofs.Common.{◌≡◌, ◌∙◌, ap, ap₂, true, false, codes}
use Rattle.std.proofs.lemmas.Result.{IfOk-weaker}
use Rattle.clap.specs.Simple.{App, app_of, app_of_fields, new_app, on_top, with_subcommand}
use Rattle.clap.specs.declared.builder.command.Command.TheViews.{out-Command}
use Rattle.command_words.specs.Command.{run_app, generate_app}
use Rattle.command_words.proofs.AppLemmas.{plain_local}
use Rattle.command_words.proofs.commands.lizdrog.Goals as goal

abbrev unnamed : App → App
unnamed a = on_top (λ s. record s { no_binary_name = true }) a

pub returns : goal.returns
returns c =
    let run_is : app_of c.in_ok-runs.runs ≡ run_app = c.in_ok-runs.ensures in
    let generate_is : app_of c.in_ok-generates.generates ≡ generate_app = c.in_ok-generates.ensures in
    let run_local : (out-Command c.in_ok-runs.runs).has_globals ≡ false = plain_local c.in_ok-runs.runs (ap (λ (a : App). a.top.is_plain) run_is) in
    let generate_local : (out-Command c.in_ok-generates.generates).has_globals ≡ false = plain_local c.in_ok-generates.generates (ap (λ (a : App). a.top.is_plain) generate_is) in
    let top_is : app_of c.no_binary_name.result ≡ unnamed (new_app (codes "lizdrog")) = ap app_of_fields c.no_binary_name.ensures ∙ ap unnamed c.new.ensures.app in
    IfOk-weaker c.subcommand-2.result _ _
    (λ made h. h.shape generate_local
    ∙ ap₂ with_subcommand (c.in_ok-subcommand.ensures.shape run_local ∙ ap₂ with_subcommand top_is (ap (λ (a : App). a.top) run_is)) (ap (λ (a : App). a.top) generate_is))
    c.subcommand-2.ensures
