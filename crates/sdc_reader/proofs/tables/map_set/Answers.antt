-- The map puts the value in the place of the one before.
use Rattle.std.proofs.Common.{◌≡◌, OnOk, subst}
use Rattle.std.specs.Prelude.{List}
use Rattle.sdc_reader.specs.declared.tables.Corner.{Corner}
use Rattle.sdc_reader.specs.declared.tables.Amount.{Amount}
use Rattle.sdc_reader.proofs.TableLemmas.{inserted}
use Rattle.sdc_reader.proofs.tables.map_set.Goals as goal

pub returns : goal.returns
returns c =
    subst (λ (entries : List (Corner × Amount)). OnOk c.insert.result (c.insert.new.self.entries ≡ entries))
    (inserted c.args.corner c.args.amount c.args.amounts.now.entries) c.insert.ensures.entries
