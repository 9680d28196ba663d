use Rattle.std.proofs.Common.{◌≡◌, ◌≤◌, ◌^◌, map, length, ap, sym, subst, ◌∙◌}
use Rattle.rc_tree.specs.Moments.{sum_below, weight_at, AreMoments, AreSmall}
use Rattle.rc_tree.specs.Weights.{AreUnder}
use Rattle.rc_tree.specs.Wiring.{micro, wire_at, AreTimes, ArePlaces}
use Rattle.rc_tree.proofs.Wiring.{weights_under, moments_small, moments_under, delays_timed, delays_size, products_small, seconds_small, same_moments, same_times}
use Rattle.rc_tree.proofs.wires.wires.Goals as goal

pub moments-requires-clause-small : goal.moments-requires-clause-small
moments-requires-clause-small c =
    subst (λ rs. AreSmall rs c.in_ok-from_slice.field-0.items) (sym c.deref.ensures.value)
    (subst (AreSmall c.args.forest.now.rows.items) (sym (c.in_ok-from_slice.ensures.items ∙ c.deref-2.ensures.value)) (moments_small c.args.forest.now.rows.items c.args.forest.now.places.items c.args.weights.items c.requires))

pub delays_of-requires : goal.delays_of-requires
delays_of-requires c =
    let first : AreMoments c.args.forest.now.rows.items c.args.weights.items c.in_ok-first.first =
    same_moments c.args.forest.now.rows.items c.deref.result.now c.args.weights.items c.in_ok-from_slice.field-0.items c.in_ok-first.first c.deref.ensures.value (c.in_ok-from_slice.ensures.items ∙ c.deref-2.ensures.value) c.in_ok-first.ensures.moments in
    subst (AreUnder (2 ^ 125)) (sym c.as_slice.ensures)
    (moments_under c.args.forest.now.rows.items c.args.weights.items c.in_ok-first.first (moments_small c.args.forest.now.rows.items c.args.forest.now.places.items c.args.weights.items c.requires) first)

pub times-requires-clause-weights : goal.times-requires-clause-weights
times-requires-clause-weights c = subst (AreUnder (10 ^ 12)) (sym c.deref-3.ensures.value) (weights_under c.args.forest.now.rows.items c.args.forest.now.places.items c.args.weights.items c.requires)

pub moments-requires-2-clause-bound : goal.moments-requires-2-clause-bound
moments-requires-2-clause-bound c =
    let first : AreMoments c.args.forest.now.rows.items c.args.weights.items c.in_ok-first.first =
    same_moments c.args.forest.now.rows.items c.deref.result.now c.args.weights.items c.in_ok-from_slice.field-0.items c.in_ok-first.first c.deref.ensures.value (c.in_ok-from_slice.ensures.items ∙ c.deref-2.ensures.value) c.in_ok-first.ensures.moments in
    let delays : c.in_ok-delays.delays ≡ map micro c.in_ok-first.first = c.in_ok-delays.ensures.delays ∙ ap (map micro) c.as_slice.ensures in
    let timed = delays_timed c.args.forest.now.rows.items c.args.weights.items c.in_ok-first.first c.in_ok-delays.delays first delays in
    let times : AreTimes c.args.weights.items c.in_ok-delays.delays c.in_ok-products.products.items =
    same_times c.args.weights.items c.deref-3.result.now c.in_ok-delays.delays c.as_slice-2.result.now c.in_ok-products.products.items c.deref-3.ensures.value c.as_slice-2.ensures c.in_ok-products.ensures.times in
    subst (λ rs. sum_below (weight_at c.in_ok-products.products.items) (length rs) ≤ 2 ^ 125) (sym c.deref-4.ensures.value)
    (products_small c.args.forest.now.rows.items c.args.forest.now.places.items c.args.weights.items c.in_ok-delays.delays c.in_ok-products.products.items c.requires c.in_ok-delays.ensures.bound times timed)

pub moments-requires-2-clause-small : goal.moments-requires-2-clause-small
moments-requires-2-clause-small c =
    let first : AreMoments c.args.forest.now.rows.items c.args.weights.items c.in_ok-first.first =
    same_moments c.args.forest.now.rows.items c.deref.result.now c.args.weights.items c.in_ok-from_slice.field-0.items c.in_ok-first.first c.deref.ensures.value (c.in_ok-from_slice.ensures.items ∙ c.deref-2.ensures.value) c.in_ok-first.ensures.moments in
    let delays : c.in_ok-delays.delays ≡ map micro c.in_ok-first.first = c.in_ok-delays.ensures.delays ∙ ap (map micro) c.as_slice.ensures in
    let timed = delays_timed c.args.forest.now.rows.items c.args.weights.items c.in_ok-first.first c.in_ok-delays.delays first delays in
    let times : AreTimes c.args.weights.items c.in_ok-delays.delays c.in_ok-products.products.items =
    same_times c.args.weights.items c.deref-3.result.now c.in_ok-delays.delays c.as_slice-2.result.now c.in_ok-products.products.items c.deref-3.ensures.value c.as_slice-2.ensures c.in_ok-products.ensures.times in
    subst (λ rs. AreSmall rs c.in_ok-products.products.items) (sym c.deref-4.ensures.value)
    (seconds_small c.args.forest.now.rows.items c.args.forest.now.places.items c.args.weights.items c.in_ok-delays.delays c.in_ok-products.products.items c.requires c.in_ok-delays.ensures.bound times timed)

pub wires_at-requires-clause-places : goal.wires_at-requires-clause-places
wires_at-requires-clause-places c =
    let first : AreMoments c.args.forest.now.rows.items c.args.weights.items c.in_ok-first.first =
    same_moments c.args.forest.now.rows.items c.deref.result.now c.args.weights.items c.in_ok-from_slice.field-0.items c.in_ok-first.first c.deref.ensures.value (c.in_ok-from_slice.ensures.items ∙ c.deref-2.ensures.value) c.in_ok-first.ensures.moments in
    let delays : c.in_ok-delays.delays ≡ map micro c.in_ok-first.first = c.in_ok-delays.ensures.delays ∙ ap (map micro) c.as_slice.ensures in
    subst (ArePlaces (length c.as_slice-3.result.now)) (sym c.deref-5.ensures.value)
    (subst (λ n. ArePlaces n c.args.forest.now.places.items) (sym (ap length c.as_slice-3.ensures ∙ delays_size c.args.forest.now.rows.items c.args.weights.items c.in_ok-first.first c.in_ok-delays.delays first delays)) c.requires.placed)

pub wires_at-requires-clause-seconds : goal.wires_at-requires-clause-seconds
wires_at-requires-clause-seconds c =
    let first : AreMoments c.args.forest.now.rows.items c.args.weights.items c.in_ok-first.first =
    same_moments c.args.forest.now.rows.items c.deref.result.now c.args.weights.items c.in_ok-from_slice.field-0.items c.in_ok-first.first c.deref.ensures.value (c.in_ok-from_slice.ensures.items ∙ c.deref-2.ensures.value) c.in_ok-first.ensures.moments in
    let delays : c.in_ok-delays.delays ≡ map micro c.in_ok-first.first = c.in_ok-delays.ensures.delays ∙ ap (map micro) c.as_slice.ensures in
    let timed = delays_timed c.args.forest.now.rows.items c.args.weights.items c.in_ok-first.first c.in_ok-delays.delays first delays in
    let times : AreTimes c.args.weights.items c.in_ok-delays.delays c.in_ok-products.products.items =
    same_times c.args.weights.items c.deref-3.result.now c.in_ok-delays.delays c.as_slice-2.result.now c.in_ok-products.products.items c.deref-3.ensures.value c.as_slice-2.ensures c.in_ok-products.ensures.times in
    let second : AreMoments c.args.forest.now.rows.items c.in_ok-products.products.items c.in_ok-seconds.seconds =
    subst (λ rs. AreMoments rs c.in_ok-products.products.items c.in_ok-seconds.seconds) c.deref-4.ensures.value c.in_ok-seconds.ensures.moments in
    subst (AreUnder (2 ^ 125)) (sym c.as_slice-4.ensures)
    (moments_under c.args.forest.now.rows.items c.in_ok-products.products.items c.in_ok-seconds.seconds
    (seconds_small c.args.forest.now.rows.items c.args.forest.now.places.items c.args.weights.items c.in_ok-delays.delays c.in_ok-products.products.items c.requires c.in_ok-delays.ensures.bound times timed) second)

pub returns-clause-wires : goal.returns-clause-wires
returns-clause-wires c =
    let first : AreMoments c.args.forest.now.rows.items c.args.weights.items c.in_ok-first.first =
    same_moments c.args.forest.now.rows.items c.deref.result.now c.args.weights.items c.in_ok-from_slice.field-0.items c.in_ok-first.first c.deref.ensures.value (c.in_ok-from_slice.ensures.items ∙ c.deref-2.ensures.value) c.in_ok-first.ensures.moments in
    let delays : c.in_ok-delays.delays ≡ map micro c.in_ok-first.first = c.in_ok-delays.ensures.delays ∙ ap (map micro) c.as_slice.ensures in
    let timed = delays_timed c.args.forest.now.rows.items c.args.weights.items c.in_ok-first.first c.in_ok-delays.delays first delays in
    let times : AreTimes c.args.weights.items c.in_ok-delays.delays c.in_ok-products.products.items =
    same_times c.args.weights.items c.deref-3.result.now c.in_ok-delays.delays c.as_slice-2.result.now c.in_ok-products.products.items c.deref-3.ensures.value c.as_slice-2.ensures c.in_ok-products.ensures.times in
    let second : AreMoments c.args.forest.now.rows.items c.in_ok-products.products.items c.in_ok-seconds.seconds =
    subst (λ rs. AreMoments rs c.in_ok-products.products.items c.in_ok-seconds.seconds) c.deref-4.ensures.value c.in_ok-seconds.ensures.moments in
    record {
      delays = c.in_ok-delays.delays;
      products = c.in_ok-products.products.items;
      seconds = c.in_ok-seconds.seconds;
      timed = timed;
      bound = c.in_ok-delays.ensures.bound;
      times = times;
      second = second;
      made = c.in_ok-wires.ensures.wires ∙ ap (λ ds. map (wire_at ds c.as_slice-4.result.now) c.deref-5.result.now) c.as_slice-3.ensures
          ∙ ap (λ ss. map (wire_at c.in_ok-delays.delays ss) c.deref-5.result.now) c.as_slice-4.ensures ∙ ap (map (wire_at c.in_ok-delays.delays c.in_ok-seconds.seconds)) c.deref-5.ensures.value;
    }
