use Rattle.std.proofs.Common.{◌≡◌, ◌++◌, ap, ◌∙◌}
use Rattle.std.specs.List.{flat_map}
use Rattle.timing_defs.specs.Output.{line, sink_text, edit_text}
use Rattle.timing_defs.specs.declared.edits.Edit.TheVariants.{SetParasitics}
use Rattle.report_text.specs.NetLines.{net_line}
use Rattle.report_text.proofs.Joined.{on_ok, three}
use Rattle.report_text.proofs.nets.push_net.Goals as goal

pub returns : goal.returns
returns c =
    let head : c.push_net_line.new.out.items ≡ c.args.out.now.items ++ net_line c.args.name.now c.args.net.now = c.in_ok-push_net_line.ensures in
    let sinks : c.push_sinks.new.out.items ≡ c.push_net_line.new.out.items ++ flat_map sink_text c.args.net.now.sinks =
    c.in_ok-push_sinks.ensures ∙ ap (λ rows. c.push_net_line.new.out.items ++ flat_map sink_text rows) c.as_slice.ensures in
    on_ok c.push_parasitics.result
    (λ (last : c.push_parasitics.new.out.items ≡ c.push_sinks.new.out.items ++ line (edit_text (SetParasitics c.args.name.now c.args.net.now.rc))).
    three c.args.out.now.items (net_line c.args.name.now c.args.net.now) (flat_map sink_text c.args.net.now.sinks)
    (line (edit_text (SetParasitics c.args.name.now c.args.net.now.rc))) c.push_net_line.new.out.items c.push_sinks.new.out.items
    c.push_parasitics.new.out.items head sinks last)
    c.push_parasitics.ensures
