use Rattle.std.proofs.Common.{◌∷◌, ◌++◌, [], map, ap, ◌∙◌}
use Rattle.std.specs.List.{filter_map, flat_map}
use Rattle.design_link.specs.Rooted.{bare_pin}
use Rattle.design_link.proofs.RootedLaws.{all_bare}
use Rattle.design_link.proofs.rooted.bare_pins.Goals as goal

pub returns : goal.returns
returns c =
    all_bare c.args.rc.now c.args.root.now c.new-pins.result c.add_pin.new.pins c.add_resistors.new.pins c.add_caps.new.pins c.new-pins.ensures c.in_ok-add_pin.ensures
    (c.in_ok-add_resistors.ensures ∙ ap (λ rs. c.add_pin.new.pins ++ filter_map bare_pin (flat_map (λ r. r.a ∷ r.b ∷ []) rs)) c.as_slice.ensures)
    (c.in_ok-add_caps.ensures ∙ ap (λ cs. c.add_resistors.new.pins ++ filter_map bare_pin (map (λ x. x.node) cs)) c.as_slice-2.ensures)
