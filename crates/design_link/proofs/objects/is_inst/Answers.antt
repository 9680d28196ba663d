use Rattle.std.proofs.Common.{◌∙◌, ap}
use Rattle.std.specs.Prelude.{is_some}
use Rattle.design_link.proofs.objects.is_inst.Goals as goal

pub returns : goal.returns
returns c = c.is_some.ensures ∙ ap is_some c.inst.ensures ∙ c.laws.ensures.numbered.inst_names c.args.name.now
