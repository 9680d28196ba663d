use Rattle.std.proofs.Common.{List, ◌/◌, map, arith}
use Rattle.std.proofs.lemmas.Result.{IfOk-weaker}
use Rattle.std.proofs.lemmas.List.Elements.{All-same}
use Rattle.timing_defs.specs.declared.scripts.Script.{Script}
use Rattle.shell_core.specs.Scripts.{IsScript}
use Rattle.design_maker.specs.Insts.{behind_lanes}
use Rattle.design_maker.specs.Sessions.{scripts_of}
use Rattle.generated_runs.specs.Generated.{IsFine}
use Rattle.generated_runs.proofs.ScriptLaws.{text_of, all_fine, scripts_kept, scripts_same}
use Rattle.generated_runs.proofs.scripts.made_scripts.Goals as goal

pub read_scripts-requires : goal.read_scripts-requires
read_scripts-requires c =
    let made : List Script = scripts_of c.args.start c.args.gates c.args.edits in
    let law = c.scripts_read_back.ensures c.args.start c.args.gates c.args.edits c.requires.gates.0 c.requires.gates.1 c.requires.edits in
    All-same IsFine c.args.texts.now (map text_of made) c.requires.texts (all_fine made law)

pub returns-clause-value : goal.returns-clause-value
returns-clause-value c =
    let law = c.scripts_read_back.ensures c.args.start c.args.gates c.args.edits c.requires.gates.0 c.requires.gates.1 c.requires.edits in
    IfOk-weaker c.read_scripts.result _ _ (λ found h. scripts_same c.args.texts.now found (scripts_of c.args.start c.args.gates c.args.edits) c.requires.texts law h) c.read_scripts.ensures

pub returns-clause-kept : goal.returns-clause-kept
returns-clause-kept c =
    let made : List Script = scripts_of c.args.start c.args.gates c.args.edits in
    let law = c.scripts_read_back.ensures c.args.start c.args.gates c.args.edits c.requires.gates.0 c.requires.gates.1 c.requires.edits in
    IfOk-weaker c.read_scripts.result _ _
    (λ found h. All-same IsScript found made (scripts_same c.args.texts.now found made c.requires.texts law h)
    (scripts_kept 0 4 (c.args.gates / 4) (c.args.edits / 4) (behind_lanes 4 (c.args.gates / 4) c.args.start)
    (omega arith) (omega (arith, c.requires.gates.0)) (omega (arith, c.requires.gates.1)) (omega (arith, c.requires.edits))))
    c.read_scripts.ensures
