-- The documents of a generated run, as values.
use Rattle.std.specs.Prelude.{◌≡◌, ℕ, List, [], None, Ok}
use Rattle.timing_defs.specs.declared.scripts.Script.{Script}
use Rattle.script_reader.specs.Scripts.{script_of}
use Rattle.shell_core.specs.declared.documents.Documents.{Documents}
use Rattle.design_maker.specs.Insts.{insts_of}
use Rattle.design_maker.specs.Sessions.{scripts_of}
use Rattle.design_laws.specs.Netlists.{module_of_insts}
use Rattle.design_laws.specs.Constants.{generated_library, generated_constraints}

-- the library stands for both splits, there are no parasitics, and the run goes on from no saved journal
abbrev pub with_those : ℕ → ℕ → List Script → Documents
with_those start gates scripts =
    record {
      early = generated_library;
      late = generated_library;
      netlist = module_of_insts (insts_of start gates);
      sdc = generated_constraints;
      spef = record { nets = [] };
      saved = None;
      scripts = scripts;
    }

abbrev pub generated_documents : ℕ → ℕ → ℕ → Documents
generated_documents start gates edits = with_those start gates (scripts_of start gates edits)

-- the reader of scripts finds no fault in the text
abbrev pub IsFine : List ℕ → Type 0
IsFine text = (script : Script) × (script_of text ≡ Ok script)
