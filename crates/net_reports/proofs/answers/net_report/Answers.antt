use Rattle.std.proofs.Common.{ap, ◌∙◌, rules, FitsSigned, w64}
use Rattle.std.specs.Prelude.{option_and_then}
use Rattle.std.specs.Option.{option_copied}
use Rattle.std.proofs.lemmas.Int.{to_z-of_z}
use Rattle.timing_defs.specs.declared.kinds.Split.TheVariants.{Early, Late}
use Rattle.timing_defs.specs.Wires.{rc_of}
use Rattle.net_reports.proofs.NetLaws.{rc_fits, net_is, load_is}
use Rattle.net_reports.proofs.answers.net_report.Goals as goal

pub wires_of-model-requires : goal.wires_of-model-requires
wires_of-model-requires c =
    rc_fits c.args.setting.now.store.now c.laws.ensures.numbered c.laws.ensures.linked c.args.net.now c.args.number c.requires.net c.requires.none
    (option_copied c.net_rc-rc.result) c.net_rc-rc.ensures

pub returns : goal.returns
returns c =
    let early : FitsSigned w64 c.load-early.result = search rules in
    let late : FitsSigned w64 c.load-late.result = search rules in
    simp to_z-of_z
    (net_is c.args.setting.now.store.now.design c.args.net.now (option_copied c.driver_name-root.result) (option_copied c.net_rc-rc.result) c.driver_name-root.ensures
    (c.net_rc-rc.ensures ∙ ap (option_and_then (rc_of c.args.setting.now.store.now.design)) c.requires.net)
    c.in_ok-driver.driver c.load-early.result c.load-late.result c.wires_of-model.result c.in_ok-sinks.sinks c.in_ok-kept.kept c.in_ok-driver.ensures
    (load_is c.args.setting.now.store.now c.args.setting.now.wires.now c.requires.setting.wires c.args.number c.args.net.now c.requires.net Early c.load-early.result c.load-early.ensures)
    (load_is c.args.setting.now.store.now c.args.setting.now.wires.now c.requires.setting.wires c.args.number c.args.net.now c.requires.net Late c.load-late.result c.load-late.ensures)
    c.wires_of-model.ensures c.in_ok-sinks.ensures c.in_ok-kept.ensures)
