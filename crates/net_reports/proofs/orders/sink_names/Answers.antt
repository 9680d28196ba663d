use Rattle.std.proofs.Common.{◌++◌, get_or, map, drop, sym, ap, ◌∙◌, List, ℕ, Vec, Global}
use denote.Ref.{Bor}
use Rattle.node_rows.proofs.LoadForms.{read_twice}
use Rattle.net_reports.specs.Sinks.{sink_words}
use Rattle.net_reports.proofs.SinkLaws.{words_more, words_same}
use Rattle.net_reports.proofs.orders.sink_names.Goals as goal
use Rattle.net_reports.proofs.orders.sink_names.Goals.{then-not-is_driving+in_ok-push, else-not-is_driving}

pub loop-pin-preserved : goal.loop-pin-preserved
loop-pin-preserved c = elim c.if-not-is_driving.branch [
  | then-not-is_driving+in_ok-push w ↦
      words_more c.args.store.now c.args.pins.now c.loop-pin.pin-index (get_or c.args.pins.now c.loop-pin.pin-index 0) c.loop-pin-test.true
      (read_twice c.args.pins.now c.loop-pin.pin-index 0 c.loop-pin-test.true) (sink_words c.args.store.now c.args.pins.now)
      c.loop-pin.names.items c.if-not-is_driving.names.items w.pin_name.result (sym c.is_driving.ensures ∙ w.if-not-is_driving.true) w.pin_name.ensures
      (ap (λ (v : Vec (Bor (List ℕ)) Global). v.items) w.names-is ∙ w.in_ok-push.ensures.items) c.loop-pin.invariant
  | else-not-is_driving w ↦
      words_same c.args.store.now c.args.pins.now c.loop-pin.pin-index (get_or c.args.pins.now c.loop-pin.pin-index 0) c.loop-pin-test.true
      (read_twice c.args.pins.now c.loop-pin.pin-index 0 c.loop-pin-test.true) (sink_words c.args.store.now c.args.pins.now)
      c.if-not-is_driving.names.items (sym c.is_driving.ensures ∙ w.if-not-is_driving.false)
      (ap (λ (v : Vec (Bor (List ℕ)) Global). map (λ n. n.now) v.items ++ sink_words c.args.store.now (drop c.loop-pin.pin-index c.args.pins.now)) w.names-is ∙ c.loop-pin.invariant)
]
