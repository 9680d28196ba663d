use Rattle.std.proofs.Common.{◌≡◌, ◌++◌, ap, ◌∙◌}
use Rattle.std.specs.List.{flat_map}
use Rattle.timing_defs.specs.Output.{timed_head, stage_text, edge_part, parts_text}
use Rattle.report_text.proofs.Joined.{on_ok, five}
use Rattle.report_text.proofs.timed.push_timed_path.Goals as goal

pub returns : goal.returns
returns c =
    let head : c.push_timed_head.new.out.items ≡ c.args.out.now.items ++ timed_head c.args.clocks.now c.args.kind.now c.args.pin.now c.args.timed.now =
    c.in_ok-push_timed_head.ensures in
    let stages : c.push_stages.new.out.items ≡ c.push_timed_head.new.out.items ++ flat_map stage_text c.args.timed.now.stages =
    c.in_ok-push_stages.ensures ∙ ap (λ rows. c.push_timed_head.new.out.items ++ flat_map stage_text rows) c.as_slice.ensures in
    let capture : c.push_stages-2.new.out.items ≡ c.push_stages.new.out.items ++ flat_map stage_text c.args.timed.now.capture =
    c.in_ok-push_stages-2.ensures ∙ ap (λ rows. c.push_stages.new.out.items ++ flat_map stage_text rows) c.as_slice-2.ensures in
    let edge : c.push_edge_part.new.out.items
    ≡ c.push_stages-2.new.out.items ++ edge_part c.args.clocks.now c.args.timed.now.path c.args.timed.now.parts.separation =
    c.in_ok-push_edge_part.ensures in
    on_ok c.push_parts.result
    (λ (last : c.push_parts.new.out.items ≡ c.push_edge_part.new.out.items ++ parts_text c.args.timed.now.parts).
    five c.args.out.now.items (timed_head c.args.clocks.now c.args.kind.now c.args.pin.now c.args.timed.now) (flat_map stage_text c.args.timed.now.stages)
    (flat_map stage_text c.args.timed.now.capture) (edge_part c.args.clocks.now c.args.timed.now.path c.args.timed.now.parts.separation)
    (parts_text c.args.timed.now.parts) c.push_timed_head.new.out.items c.push_stages.new.out.items c.push_stages-2.new.out.items
    c.push_edge_part.new.out.items c.push_parts.new.out.items head stages capture edge last)
    c.push_parts.ensures
