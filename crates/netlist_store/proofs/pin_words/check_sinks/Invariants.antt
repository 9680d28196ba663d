use Rattle.std.proofs.Common.{◌≡◌, drop, map}
use Rattle.std.specs.List.{list_all}
use Rattle.timing_defs.specs.Edits.{need_sink, first_fault, has_colon}
use Rattle.netlist_store.proofs.pin_words.check_sinks.Given as goal

abbrev pub invariant-loop-word : goal.invariant-loop-word
invariant-loop-word l = record {
  faults : first_fault (map (need_sink l.store.design) (drop l.word-index l.words)) ≡ first_fault (map (need_sink l.store.design) l.words);
  colons : list_all has_colon (drop l.word-index l.words) ≡ list_all has_colon l.words;
}
