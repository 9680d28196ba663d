use Rattle.std.proofs.Common.{◌≡◌, ◌⊎◌, true, sym, subst}
use Rattle.timing_defs.specs.NetChecks.{has_cycle}
use Rattle.rc_tree.specs.declared.faults.RcFault.TheVariants.{Loop, Memory}
use Rattle.rc_tree.specs.Numbering.{numbered}
use Rattle.rc_tree.specs.Growth.{AreSegments}
use Rattle.rc_tree.specs.Loops.{IsFound, IsReady, IsLoopOf}
use Rattle.rc_tree.proofs.Nets.{passed_up}
use Rattle.rc_tree.proofs.Whole.{no_loop_of_net, loop_of_net_there}
use Rattle.rc_tree.proofs.trees.net_forest.Goals as goal

pub forest_of-requires : goal.forest_of-requires
forest_of-requires c =
    let there : AreSegments (numbered c.args.nodes.now) c.args.net.now.ress c.in_ok-segments.segments = subst (λ rs. AreSegments (numbered c.args.nodes.now) rs c.in_ok-segments.segments) c.as_slice.ensures c.in_ok-segments.ensures in
    subst (λ ss. IsReady ss c.len.result) (sym c.as_slice-2.ensures) (subst (IsReady c.in_ok-segments.segments) (sym c.len.ensures.len) there.1)

pub returns-in_err-forest-clause-looped : goal.returns-in_err-forest-clause-looped
returns-in_err-forest-clause-looped c =
    passed_up c.from_residual-in_err-forest.result c.in_err-forest.field-0.0 (λ fault. (fault ≡ Memory) ⊎ ((fault ≡ Loop) × (has_cycle c.args.net.now ≡ true))) c.from_residual-in_err-forest.ensures.1
    (loop_of_net_there (numbered c.args.nodes.now) c.args.net.now c.in_ok-segments.segments c.in_err-forest.field-0.0 c.len.ensures.apart
    (subst (λ rs. AreSegments (numbered c.args.nodes.now) rs c.in_ok-segments.segments) c.as_slice.ensures c.in_ok-segments.ensures)
    (subst (λ n. IsLoopOf c.in_ok-segments.segments n c.in_err-forest.field-0.0) c.len.ensures.len (subst (λ ss. IsLoopOf ss c.len.result c.in_err-forest.field-0.0) c.as_slice-2.ensures c.in_err-forest.ensures.looped)))

pub returns-clause-found : goal.returns-clause-found
returns-clause-found c = (
  c.in_ok-segments.segments,
  (
    subst (λ rs. AreSegments (numbered c.args.nodes.now) rs c.in_ok-segments.segments) c.as_slice.ensures c.in_ok-segments.ensures,
    subst (λ n. IsFound c.in_ok-segments.segments n c.in_ok-forest.forest) c.len.ensures.len (subst (λ ss. IsFound ss c.len.result c.in_ok-forest.forest) c.as_slice-2.ensures c.in_ok-forest.ensures.found),
  ),
)

pub returns-clause-acyclic : goal.returns-clause-acyclic
returns-clause-acyclic c =
    no_loop_of_net (numbered c.args.nodes.now) c.args.net.now c.in_ok-segments.segments c.in_ok-forest.forest c.len.ensures.apart
    (subst (λ rs. AreSegments (numbered c.args.nodes.now) rs c.in_ok-segments.segments) c.as_slice.ensures c.in_ok-segments.ensures)
    (subst (λ n. IsFound c.in_ok-segments.segments n c.in_ok-forest.forest) c.len.ensures.len (subst (λ ss. IsFound ss c.len.result c.in_ok-forest.forest) c.as_slice-2.ensures c.in_ok-forest.ensures.found))
