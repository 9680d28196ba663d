use Rattle.std.proofs.Common.{◌++◌, length, ap, ◌∙◌, arith}
use Rattle.std.specs.Vec.Iter.{into_iter_items}
use Rattle.netlist_store.proofs.ListLaws.{one_taken}
use Rattle.netlist_store.proofs.RcLaws.{next_rcs}
use Rattle.netlist_store.proofs.building.rc_rows.Goals as goal

pub loop-rc-preserved : goal.loop-rc-preserved
loop-rc-preserved c =
    let was = c.loop-rc.invariant.left in
    let gone = c.in-Some.ensures.steps.1 in
    let short = ap length c.in-Some.ensures.steps.0 in
    record {
      made =
          next_rcs c.args.nets.now c.args.rcs c.loop-rc.yielded (into_iter_items c.next.new.self) c.in-Some.rc c.loop-rc.rows c.put_rc.new.rows c.laws.ensures c.requires
          (c.loop-rc.invariant.all ∙ ap (λ rest. c.loop-rc.yielded ++ rest) c.in-Some.ensures.steps.0)
          c.in_ok-put_rc.ensures c.loop-rc.invariant.made;
      all =
          one_taken c.args.rcs c.loop-rc.yielded (into_iter_items c.loop-rc.rc-iterator) (into_iter_items c.next.new.self) c.in-Some.rc c.loop-rc.invariant.all
          c.in-Some.ensures.steps.0;
      left = omega (arith, was, gone, short);
    }
