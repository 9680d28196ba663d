-- The nets and instances that an edit touches.

use Rattle.std.specs.Prelude.{ℕ, ◌+◌, List, [], ◌∷◌, ◌++◌}
use Rattle.std.specs.List.{filter_map}
use Rattle.std.specs.Option.{option_map_or, option_to_list}
use Rattle.timing_defs.specs.declared.design.Design.{Design}
use Rattle.timing_defs.specs.declared.edits.Edit.{Edit}
use Rattle.timing_defs.specs.declared.edits.Edit.TheVariants.{Repower, InsertGate, RemoveGate, InsertNet, RemoveNet, Connect, Disconnect, InsertBuffer, SetParasitics}
use Rattle.timing_defs.specs.Edits.{inst_named, before_last, word_net, changed}

-- what an edit touched: instances and nets by their names
pub record Touch : Type 0 where
  pub insts : List (List ℕ)
  pub nets : List (List ℕ)

-- what one edit touches: the instances that it names, adds or removes, and the nets on which it acts
abbrev pub nets_of_inst : Design → List ℕ → List (List ℕ)
nets_of_inst d inst = option_map_or (λ i. filter_map (λ conn. conn.net) i.conns) (inst_named d.insts inst) []

abbrev pub touched_by : Design → Edit → Touch
touched_by d (Repower inst cell) = record { insts = inst ∷ []; nets = nets_of_inst d inst }
touched_by d (InsertGate inst cell) = record { insts = inst ∷ []; nets = [] }
touched_by d (RemoveGate inst) = record { insts = inst ∷ []; nets = [] }
touched_by d (InsertNet net) = record { insts = []; nets = net ∷ [] }
touched_by d (RemoveNet net) = record { insts = []; nets = net ∷ [] }
touched_by d (Connect pin net) = record { insts = before_last pin ∷ []; nets = net ∷ [] }
touched_by d (Disconnect pin) = record { insts = before_last pin ∷ []; nets = option_to_list (word_net d pin) }
touched_by d (InsertBuffer net inst fresh cell sinks) = record { insts = inst ∷ []; nets = net ∷ fresh ∷ [] }
touched_by d (SetParasitics net rc) = record { insts = []; nets = net ∷ [] }

abbrev pub both_touches : Touch → Touch → Touch
both_touches a b = record { insts = a.insts ++ b.insts; nets = a.nets ++ b.nets }

-- what the edits of an ECO touch, each in the design that it finds
abbrev pub touched_list : Design → List Edit → Touch
touched_list d [] = record { insts = []; nets = [] }
touched_list d (e ∷ es) = both_touches (touched_by d e) (touched_list (changed d e) es)
