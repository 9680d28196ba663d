use Rattle.std.proofs.Common.{◌++◌, sym, ap, ◌∙◌, arith}
use Rattle.std.specs.Prelude.{option_map}
use Rattle.std.specs.Option.{option_to_list}
use Rattle.timing_defs.specs.RowTimes.{edge_of}
use Rattle.timing_rules.specs.Rows.{edge_time}
use Rattle.path_search.specs.Lows.{low_over, lows_told}
use Rattle.path_search.proofs.LowLists.{lows_more, lows_done}
use Rattle.path_search.proofs.lows.lows_of.Goals as goal

pub loop-clock-preserved : goal.loop-clock-preserved
loop-clock-preserved c =
    lows_more (λ edge. option_map (edge_time edge) (low_over c.args.store.now.design c.args.kind c.args.tree.now c.args.tests.now edge)) c.args.store.now.design.constraints.clocks
    (lows_told c.args.store.now.design c.args.kind c.args.tree.now c.args.tests.now) c.loop-clock.clock
    (let a = c.loop-clock-test.true in let b = c.clock_count-count.ensures in omega (arith, a, b))
    c.loop-clock.lows c.add_low.new.lows c.add_low-in-loop-clock.new.lows
    (c.in_ok-add_low.ensures
    ∙ ap (λ o. c.loop-clock.lows ++ option_to_list (option_map (edge_time (edge_of c.edge_on-rise.result)) o)) c.low_over.ensures
    ∙ ap (λ e. c.loop-clock.lows ++ option_to_list (option_map (edge_time e) (low_over c.args.store.now.design c.args.kind c.args.tree.now c.args.tests.now e))) c.edge_on-rise.ensures)
    (c.in_ok-add_low-2.ensures
    ∙ ap (λ o. c.add_low.new.lows ++ option_to_list (option_map (edge_time (edge_of c.edge_on-fall.result)) o)) c.low_over-in-loop-clock.ensures
    ∙ ap (λ e. c.add_low.new.lows ++ option_to_list (option_map (edge_time e) (low_over c.args.store.now.design c.args.kind c.args.tree.now c.args.tests.now e))) c.edge_on-fall.ensures)
    c.loop-clock.invariant

pub returns : goal.returns
returns c =
    lows_done (λ edge. option_map (edge_time edge) (low_over c.args.store.now.design c.args.kind c.args.tree.now c.args.tests.now edge)) c.args.store.now.design.constraints.clocks
    (lows_told c.args.store.now.design c.args.kind c.args.tree.now c.args.tests.now) c.loop-clock.clock
    (let a = c.loop-clock-test.false in let e = c.loop-clock.auto.clock-end in let b = c.clock_count-count.ensures in omega (arith, a, b, e))
    c.loop-clock.lows c.loop-clock.invariant
