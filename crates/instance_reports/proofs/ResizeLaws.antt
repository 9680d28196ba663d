-- An instance may be resized to a cell where the store accepts that edit.

use Rattle.std.proofs.Common.{◌≡◌, ℕ, Bool, true, false, List, [], length, Option, None, Some, refl, ap, ◌∙◌}
use Rattle.std.specs.Prelude.{is_ok, is_none, option_map, nat_lt, if◌then◌else◌}
use Rattle.std.proofs.lemmas.Bool.{ltb-false}
use Rattle.timing_defs.specs.declared.design.Design.{Design}
use Rattle.timing_defs.specs.declared.edits.Edit.TheVariants.{Repower}
use Rattle.timing_defs.specs.declared.edits.Eco.{Eco}
use Rattle.timing_defs.specs.declared.faults.Fault.{Fault}
use Rattle.timing_defs.specs.declared.faults.Fault.TheVariants.{ManyDrivers, TooLarge}
use Rattle.timing_defs.specs.declared.faults.Large.{Large}
use Rattle.timing_defs.specs.declared.faults.Large.TheVariants.{Pins, Insts, Nets, Net as large_net}
use Rattle.timing_defs.specs.Edits.{edit_faults, first_fault, edit_by, edited_list, edited}
use Rattle.timing_defs.specs.NetChecks.{most, least, nets_where, is_large_net, many_drivers, first_of_two}
use Rattle.timing_defs.specs.Netlist.{pins}
use Rattle.timing_rules.specs.Checks.{IsSound}
use Rattle.timing_rules.specs.Connections.{may_be}
use Rattle.netlist_store.specs.Linked.{IsSized}
use Rattle.instance_reports.specs.Resizes.{resize}

-- the edit's faults decide
pub resized : (d : Design) (eco : Eco) (inst cell : List ℕ) (accepted : Bool) → eco ≡ resize inst cell → accepted ≡ is_ok (edited d eco)
    → accepted ≡ may_be d inst cell
resized d eco inst cell accepted e is = is ∙ ap (λ x. is_ok (edited d x)) e ∙ by (first_fault (edit_faults d (Repower inst cell)))
  where
    by : (o : Option Fault) → is_ok (edited_list (edit_by o d (Repower inst cell)) []) ≡ is_none o
    by None = refl
    by (Some fault) = refl

-- a design that is not too large has a size that can be edited
counted : (p i n : Bool) (rest : Option Large) (more : Option Fault)
    → first_of_two (option_map TooLarge (if p then Some Pins else (if i then Some Insts else (if n then Some Nets else rest)))) more ≡ None
    → (i ≡ false) × (n ≡ false)
counted true i n rest more e = absurd (cc)
counted false true n rest more e = absurd (cc)
counted false false true rest more e = absurd (cc)
counted false false false rest more e = (refl, refl)

pub sound_sized : (d : Design) → IsSound d → IsSized d
sound_sized d sound =
    let few =
    counted (nat_lt most (length (pins d))) (nat_lt most (length d.insts)) (nat_lt most (length d.nets))
    (option_map large_net (least (nets_where (is_large_net d) d))) (option_map ManyDrivers (many_drivers d)) sound.0 in
    record { insts = ltb-false most (length d.insts) few.0; nets = ltb-false most (length d.nets) few.1 }
