use Rattle.std.proofs.Common.{◌≡◌, drop, map}
use Rattle.timing_defs.specs.Edits.{need_pin_inst, first_fault}
use Rattle.netlist_store.proofs.pin_words.check_pin_insts.Given as goal

abbrev pub invariant-loop-word : goal.invariant-loop-word
invariant-loop-word l = first_fault (map (need_pin_inst l.store.design) (drop l.word-index l.words)) ≡ first_fault (map (need_pin_inst l.store.design) l.words)
