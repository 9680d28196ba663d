use Rattle.std.proofs.Common.{ap, sym, ◌∙◌, ◌∷◌, ◌++◌, false, Option}
use Rattle.std.specs.Option.{option_map_or}
use Rattle.std.proofs.lemmas.Bool.{false≢true}
use Rattle.timing_defs.specs.declared.library.Cell.{Cell}
use Rattle.timing_defs.specs.Edits.{is_buffer, first_pin}
use Rattle.netlist_store.proofs.NumberLaws.{some_is}
use Rattle.netlist_store.proofs.BufferSteps.{first_is_named}
use Rattle.netlist_store.proofs.stores.Store.buffer_pin.Goals as goal

pub pin_of_dir-requires : goal.pin_of_dir-requires
pin_of_dir-requires c = ap (λ (o : Option Cell). option_map_or is_buffer o false) c.in-Some.ensures ∙ c.requires

pub unreachable-requires : goal.unreachable-requires
unreachable-requires c = false≢true (ap (λ (o : Option Cell). option_map_or is_buffer o false) c.in_default.ensures ∙ c.requires)

pub returns : goal.returns
returns c = λ cell found.
    c.in_ok-name.ensures
    ∙ ap (λ own. c.args.inst.now ++ 58 ∷ own) (sym (first_is_named c.args.dir c.in-Some.cell.now c.pin_of_dir.result.now c.pin_of_dir.ensures))
    ∙ ap (λ (x : Cell). c.args.inst.now ++ 58 ∷ first_pin c.args.dir x) (some_is (c.in-Some.ensures ∙ found))
