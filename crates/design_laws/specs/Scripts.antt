-- What written scripts are read as.
use Rattle.std.specs.Prelude.{Result, Ok}
use Rattle.timing_defs.specs.declared.codes.ReadFault.{ReadFault}
use Rattle.timing_defs.specs.declared.scripts.Script.{Script}
use Rattle.script_reader.specs.Scripts.{script_of}
use Rattle.design_maker.specs.Written.{commands_text}

-- what the reader's definition gives for the script's text
abbrev pub read_of : Script → Result Script ReadFault
read_of script = script_of (commands_text script.commands)

-- the script itself
abbrev pub made_of : Script → Result Script ReadFault
made_of script = Ok script
