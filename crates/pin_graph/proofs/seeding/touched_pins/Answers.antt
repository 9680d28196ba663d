use Rattle.std.proofs.Common.{◌∙◌, ap}
use Rattle.std.specs.Prelude.{nat_eq, ◌||◌}
use Rattle.std.specs.List.{list_any}
use Rattle.pin_graph.specs.Seeds.{is_joined_at, is_owned_at}
use Rattle.pin_graph.proofs.SeedPins.{touched_both, touched_below}
use Rattle.pin_graph.proofs.seeding.touched_pins.Goals as goal

pub returns : goal.returns
returns c =
    let each = touched_both c.args.store.now (record { insts = c.args.touched.now.insts; nets = c.args.touched.now.nets }) c.add_insts_pins.new.pins c.in_ok-pins.pins
    (λ n. c.in_ok-pins.ensures n ∙ ap (λ names. is_joined_at c.args.store.now names n) c.as_slice.ensures)
    (λ n. c.in_ok-add_insts_pins.ensures n ∙ ap (λ names. list_any (nat_eq n) c.in_ok-pins.pins || is_owned_at c.args.store.now names n) c.as_slice-2.ensures) in
    record {
      each = each;
      below = touched_below c.args.store.now c.laws.ensures.numbered c.laws.ensures.linked (record { insts = c.args.touched.now.insts; nets = c.args.touched.now.nets }) c.add_insts_pins.new.pins each;
    }
