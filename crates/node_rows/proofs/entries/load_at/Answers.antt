use Rattle.std.proofs.Common.{rules, FitsSigned, w64}
use Rattle.std.proofs.lemmas.Int.{to_z-of_z}
use Rattle.node_rows.proofs.LoadLaws.{net_low, loaded, unloaded}
use Rattle.node_rows.proofs.entries.load_at.Goals as goal

pub load-requires : goal.load-requires
load-requires c =
    net_low c.args.setting.now.store.now c.laws.ensures.numbered c.laws.ensures.linked c.args.setting.now.wires.now c.requires.setting.wires c.in-Some.net c.in-Some.ensures.net

pub returns-in-Some-clause-value : goal.returns-in-Some-clause-value
returns-in-Some-clause-value c =
    let f : FitsSigned w64 c.load.result = search rules in
    simp to_z-of_z
    (loaded c.args.setting.now.store.now c.laws.ensures.numbered c.laws.ensures.linked c.args.setting.now.wires.now c.requires.setting.wires c.args.split c.args.pin c.in-Some.net c.load.result
    c.requires.pin c.in-Some.ensures.value c.load.ensures).0

pub returns-in-Some-clause-bound : goal.returns-in-Some-clause-bound
returns-in-Some-clause-bound c =
    let f : FitsSigned w64 c.load.result = search rules in
    simp to_z-of_z
    (loaded c.args.setting.now.store.now c.laws.ensures.numbered c.laws.ensures.linked c.args.setting.now.wires.now c.requires.setting.wires c.args.split c.args.pin c.in-Some.net c.load.result
    c.requires.pin c.in-Some.ensures.value c.load.ensures).1

pub returns-in-None-clause-value : goal.returns-in-None-clause-value
returns-in-None-clause-value c =
    unloaded c.args.setting.now.store.now c.laws.ensures.numbered c.laws.ensures.linked c.args.setting.now.wires.now c.requires.setting.wires c.args.split c.args.pin c.requires.pin c.in-None.ensures.none
