use Rattle.std.proofs.Common.{◌∙◌, sym, subst}
use Rattle.std.specs.Prelude.{All}
use Rattle.pin_graph.specs.Alike.{IsSameInst, IsSameNet}
use Rattle.pin_graph.proofs.AlikeAfter.{links_kept}
use Rattle.pin_graph.proofs.keeping.keeps_links.Goals as goal

pub returns : goal.returns
returns c =
    λ yes.
    links_kept c.args.base.now c.args.store.now (record { insts = c.args.touched.now.insts; nets = c.args.touched.now.nets }) c.laws.ensures.numbered c.laws-2.ensures.numbered
    c.laws.ensures.linked c.laws-2.ensures.linked c.requires.fault c.requires.made
    (sym c.pin_bound-2.ensures.bound ∙ sym c.if-pin_bound.false ∙ c.pin_bound.ensures.bound)
    (sym c.inst_bound-else-pin_bound.ensures.bound ∙ sym c.if-inst_bound.false ∙ c.inst_bound.ensures.bound)
    (subst (λ names. All (λ name. IsSameInst c.args.base.now c.args.store.now name) names) c.as_slice.ensures (c.keeps_insts.ensures c.if-not-keeps_insts.false))
    (subst (λ names. All (λ name. IsSameNet c.args.base.now c.args.store.now name) names) c.as_slice-2.ensures (c.keeps_nets.ensures yes))
