use Rattle.std.proofs.Common.{◌∙◌, ap, sym}
use Rattle.node_rows.specs.Between.{are_within}
use Rattle.node_rows.proofs.AlongLaws.{no_slew}
use Rattle.node_rows.proofs.values.cell_values.Goals as goal

pub returns-in-None : goal.returns-in-None
returns-in-None c =
    let r = no_slew c.args.setting.now.store.now c.args.split c.args.to c.args.before.now c.requires.joined c.requires.drives (sym c.in-None.ensures) in
    record {
      told = c.no_values.ensures ∙ r.0;
      within = ap are_within c.no_values.ensures;
      fine = r.1;
    }
