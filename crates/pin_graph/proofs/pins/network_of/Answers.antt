use Rattle.std.proofs.Common.{◌≡◌, ◌∙◌, length, sym, ap, arith}
use Rattle.std.specs.Prelude.{◌&&◌}
use Rattle.pin_graph.specs.Networks.{IsNetwork, AreClockMarks}
use Rattle.pin_graph.proofs.NetworkLaws.{marks_are}
use Rattle.pin_graph.proofs.StartLaws.{marks_ok}
use Rattle.levelizer.specs.Reaching.{has_mark}
use Rattle.pin_graph.proofs.pins.network_of.Goals as goal

pub both-requires : goal.both-requires
both-requires c =
    ap length c.as_slice.ensures ∙ c.requires.from.count ∙ sym (ap length c.as_slice-2.ensures ∙ c.requires.to.count)

pub returns-clause-network : goal.returns-clause-network
returns-clause-network c =
    let long : length c.as_slice.result.now ≡ length c.args.store.now.pins = ap length c.as_slice.ensures ∙ c.requires.from.count in
    marks_ok (IsNetwork c.args.store.now) c.both.result c.as_slice.result.now c.as_slice-2.result.now
    (λ marks count each.
    marks_are c.args.store.now c.laws.ensures.numbered c.laws.ensures.linked c.requires.fault c.args.levels.now c.requires.levels
    c.args.reach.now.from_clocks c.args.reach.now.to_registers c.requires.from c.requires.to
    marks (count ∙ long)
    (λ m low. each m (omega (arith, long)) ∙ ap (λ xs. has_mark xs m && has_mark c.as_slice-2.result.now m) c.as_slice.ensures
    ∙ ap (λ xs. has_mark c.args.reach.now.from_clocks m && has_mark xs m) c.as_slice-2.ensures))
    c.both.ensures.count c.both.ensures.each

pub returns-clause-clocked : goal.returns-clause-clocked
returns-clause-clocked c =
    let long : length c.as_slice.result.now ≡ length c.args.store.now.pins = ap length c.as_slice.ensures ∙ c.requires.from.count in
    marks_ok (AreClockMarks c.args.store.now c.args.reach.now.from_clocks c.args.reach.now.to_registers) c.both.result c.as_slice.result.now c.as_slice-2.result.now
    (λ marks count each. record {
      forth = c.requires.from;
      back = c.requires.to;
      count = count ∙ long;
      each = λ m low.
          each m (omega (arith, long)) ∙ ap (λ xs. has_mark xs m && has_mark c.as_slice-2.result.now m) c.as_slice.ensures
          ∙ ap (λ xs. has_mark c.args.reach.now.from_clocks m && has_mark xs m) c.as_slice-2.ensures;
    })
    c.both.ensures.count c.both.ensures.each
