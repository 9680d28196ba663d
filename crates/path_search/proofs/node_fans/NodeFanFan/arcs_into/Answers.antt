use Rattle.std.proofs.Common.{◌≡◌, ◌<◌, sym, ap, subst, ◌∙◌}
use Rattle.pin_graph.specs.Nodes.{node_bound}
use Rattle.path_cones.specs.Following.{arcs_followed}
use Rattle.path_search.specs.NodeNets.{arcs_there, FanValue}
use Rattle.path_search.proofs.Forms.{ok_then}
use Rattle.path_search.proofs.NodeForms.{arcs_as}
use Rattle.path_search.proofs.node_fans.NodeFanFan.arcs_into.Goals as goal

pub returns : goal.returns
returns g c =
    let low = subst (λ (v : FanValue). c.args.node < node_bound v.0.stored) (sym c.self.view_is) c.requires in
    ok_then c.arcs_into.result (λ arcs. arcs ≡ arcs_followed c.self.inside.sources.now.graph.now c.self.inside.sources.now.kind c.args.node)
    (λ arcs. arcs ≡ arcs_there c.args.self.now.0 c.args.self.now.1 c.args.node) c.arcs_into.ensures
    (λ arcs e. e
    ∙ arcs_as _ _ _ _ _ _ _ _ _ c.self.invariant c.laws.ensures.numbered c.laws.ensures.linked c.laws-2.ensures c.args.node low
    ∙ ap (λ (v : FanValue). arcs_there v.0 v.1 c.args.node) c.self.view_is)
