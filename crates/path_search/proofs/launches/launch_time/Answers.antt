use Rattle.std.proofs.Common.{sym, ap, ◌∙◌}
use Rattle.std.specs.Prelude.{option_map}
use Rattle.sta_units.specs.declared.units.Fs.{Fs}
use Rattle.path_search.proofs.Forms.{none_launched, none_arrives, one_arrives}
use Rattle.path_search.proofs.launches.launch_time.Goals as goal

pub returns-in_default : goal.returns-in_default
returns-in_default c =
    none_launched c.args.graph.now c.args.store.now c.requires.graph c.laws.ensures.numbered c.laws.ensures.linked c.laws-2.ensures c.args.split c.args.node c.launch_edge.result
    c.in_default.is c.launch_edge.ensures

pub returns-in_default-arrival_on : goal.returns-in_default-arrival_on
returns-in_default-arrival_on c =
    none_arrives c.args.graph.now c.args.store.now c.requires.graph c.laws.ensures.numbered c.laws.ensures.linked c.laws-2.ensures c.args.split c.args.node c.launch_edge.result
    c.in-Some.edge c.in-Some.is c.args.row.now (sym (ap (option_map (λ (t : Fs). t.0)) c.in_default-arrival_on.is) ∙ c.arrival_on.ensures) c.launch_edge.ensures c.requires.row

pub returns : goal.returns
returns c =
    one_arrives c.args.graph.now c.args.store.now c.requires.graph c.laws.ensures.numbered c.laws.ensures.linked c.laws-2.ensures c.args.split c.args.node c.launch_edge.result
    c.in-Some.edge c.in-Some.is c.args.row.now c.in-Some-arrival_on.time.0 (sym (ap (option_map (λ (t : Fs). t.0)) c.in-Some-arrival_on.is) ∙ c.arrival_on.ensures)
    c.launch_edge.ensures c.requires.row
