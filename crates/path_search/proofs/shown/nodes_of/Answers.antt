use Rattle.std.proofs.Common.{◌≡◌, rules, FitsSigned, w64, to_z, of_z}
use Rattle.std.proofs.lemmas.Int.{to_z-of_z}
use Rattle.path_search.proofs.SearchForms.{nodes_form}
use Rattle.path_search.proofs.shown.nodes_of.Goals as goal

pub returns : goal.returns
returns g c =
    let f : FitsSigned w64 c.args.counted.now.time.0 = search rules in
    let time : to_z w64 (of_z w64 c.args.counted.now.time.0) ≡ c.args.counted.now.time.0 = simp to_z-of_z in
    nodes_form c.args.sources.now.graph.now c.args.sources.now.store.now c.requires.sources.graph c.args.sources.now.kind c.args.search.now c.args.launch c.args.counted.now c.args.first c.args.rest.now
    c.in_ok-before.before c.in_ok-before.ensures.value c.as_slice.result.now c.as_slice.ensures c.data_split-split.result c.data_split-split.ensures c.as_slice-nodes.result.now c.as_slice-nodes.ensures
    (to_z w64 (of_z w64 c.args.counted.now.time.0)) time c.in_ok-path.path c.add_node.new.path c.add_rest.new.path c.in_ok-path.ensures.names c.in_ok-path.ensures.times
    c.in_ok-add_node.ensures.names c.in_ok-add_node.ensures.times c.in_ok-add_rest.ensures.names c.in_ok-add_rest.ensures.times
