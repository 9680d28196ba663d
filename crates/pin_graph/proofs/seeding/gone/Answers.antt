use Rattle.std.proofs.Common.{◌≡◌, ◌||◌, ◌∙◌}
use Rattle.std.specs.Prelude.{nat_eq}
use Rattle.std.specs.List.{list_any}
use Rattle.pin_graph.specs.Seeds.{is_owned_at}
use Rattle.std.proofs.Common.{List, ℕ, subst}
use Rattle.std.specs.Prelude.{IfOk}
use Rattle.std.specs.List.{filter_map}
use Rattle.pin_graph.specs.Seeds.{gone_at}
use Rattle.pin_graph.proofs.GonePins.{gone_ok}
use Rattle.pin_graph.proofs.seeding.gone.Goals as goal

pub returns : goal.returns
returns c =
    gone_ok c.args.base.now c.args.store.now (record { insts = c.args.touched.now.insts; nets = c.args.touched.now.nets }) c.requires c.laws.ensures.numbered c.laws-2.ensures.numbered c.laws.ensures.linked
    c.new-pins.result c.add_insts_pins.new.pins c.gone_of.result c.new-pins.ensures
    (λ k. c.in_ok-add_insts_pins.ensures k ∙ (λ i. list_any (nat_eq k) c.new-pins.result || is_owned_at c.args.base.now (c.as_slice.ensures i) k))
    (subst (λ (xs : List ℕ). IfOk c.gone_of.result (λ gone. gone ≡ filter_map (gone_at c.args.store.now) xs)) c.as_slice-2.ensures c.gone_of.ensures)
