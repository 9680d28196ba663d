use Rattle.std.proofs.Common.{◌≡◌, ℕ, List, Option, Some, sym, ap, ◌∙◌}
use Rattle.std.specs.Prelude.{is_some}
use Rattle.timing_rules.specs.Paths.{owner_named}
use Rattle.netlist_store.specs.Numbering.{name_at}
use Rattle.store_pins.proofs.PinLaws.{told_at}
use Rattle.path_search.proofs.Forms.{ok_then}
use Rattle.timed_paths.proofs.launches.owner_of.Goals as goal

pub owner_name-requires : goal.owner_name-requires
owner_name-requires c = ap is_some (told_at c.args.store.now.pins c.args.pin.now c.in-Some.number (sym c.pin.ensures ∙ c.in-Some.is))

pub returns-in-Some : goal.returns-in-Some
returns-in-Some c =
    ok_then c.owner_name.result
    (λ (cell : Option (List ℕ)). (name : List ℕ) → name_at c.args.store.now.pins c.in-Some.number ≡ Some name → cell ≡ owner_named c.args.store.now.design name)
    (λ (cell : Option (List ℕ)). cell ≡ owner_named c.args.store.now.design c.args.pin.now)
    c.owner_name.ensures
    (λ cell h. h c.args.pin.now (told_at c.args.store.now.pins c.args.pin.now c.in-Some.number (sym c.pin.ensures ∙ c.in-Some.is)))
