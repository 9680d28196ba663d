use Rattle.std.proofs.Common.{◌≡◌, ℕ, List, ◌++◌, ◌∙◌, ap, codes, length}
use Rattle.sta_units.specs.Picoseconds.{ps_text}
use Rattle.timing_defs.specs.Output.{word, number, name_text, wires_text}
use Rattle.report_text.proofs.Joined.{on_ok, two, three, five}
use Rattle.report_text.proofs.nets.push_net_line.Goals as goal

pub returns : goal.returns
returns c =
    let out = c.args.out.now.items in
    let a : List ℕ = codes "net" ++ word c.args.name.now ++ codes " driver" ++ word (name_text c.args.net.now.driver) ++ codes " load" in
    let b : List ℕ = a ++ word (ps_text c.args.net.now.early_load.0) ++ word (ps_text c.args.net.now.late_load.0) in
    let d : List ℕ = b ++ codes " parasitics" ++ wires_text c.args.net.now.wires in
    let e : List ℕ = d ++ codes " sinks" ++ number (length c.args.net.now.sinks) in
    let driver = five out (codes "net") _ _ _ _ _ _ _ _ _ (c.in_ok-push.ensures) (c.in_ok-push_word.ensures) (c.in_ok-push-2.ensures) (c.in_ok-push_name.ensures) (c.in_ok-push-3.ensures) in
    let load = three out a _ _ _ _ _ driver (c.in_ok-push_capacitance.ensures) (c.in_ok-push_capacitance-2.ensures) in
    let wires = three out b _ _ _ _ _ load (c.in_ok-push-4.ensures) (c.in_ok-push_wires.ensures) in
    let count : c.push_number.new.out.items ≡ c.push-5.new.out.items ++ number (length c.args.net.now.sinks) =
    c.in_ok-push_number.ensures ∙ ap (λ n. c.push-5.new.out.items ++ number n) c.len.ensures in
    let sinks = three out d _ _ _ _ _ wires (c.in_ok-push-5.ensures) count in
    let edits = two out e _ _ _ sinks (c.in_ok-push-6.ensures) in
    on_ok c.push_end.result (λ last. two out (e ++ codes " edits 1") _ _ _ edits last) c.push_end.ensures
