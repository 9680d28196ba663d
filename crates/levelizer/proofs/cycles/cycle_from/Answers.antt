use Rattle.std.proofs.Common.{◌≡◌, ℕ, ◌+◌, ◌-◌, ◌<◌, List, take, false, length, get_or, drop, reverse, ◌∷◌, ◌∙◌, refl, ap, sym, subst, arith}
use Rattle.std.proofs.lemmas.List.{get_or_read, take_rest}
use Rattle.levelizer.specs.Levels.{IsCycle}
use Rattle.levelizer.specs.Tails.{is_marked}
use Rattle.levelizer.proofs.Walks.{there, walk-none, walk-more, cycle_cut, ok_more}
use Rattle.levelizer.proofs.cycles.cycle_from.Goals as goal

pub loop-marks-init : goal.loop-marks-init
loop-marks-init c =
    walk-none c.args.arcs.now c.args.waiting.now c.in_ok-marks.marks.items c.new-walk.result c.args.start
    (omega (arith, c.in_ok-marks.ensures.len)) (c.in_ok-marks.ensures.items_if_clones_equal (λ y e. e)) c.new-walk.ensures c.requires.start

pub loop-marks-preserved : goal.loop-marks-preserved
loop-marks-preserved c =
    let low = there c.args.waiting.now c.loop-marks.at c.loop-marks.invariant.still in
    let fresh : is_marked c.loop-marks.marks.items c.loop-marks.at ≡ false = ap (λ bs. is_marked bs c.loop-marks.at) (sym c.deref.ensures.value) ∙ sym c.loop-marks-test.ensures in
    let read : c.index-at.result.now ≡ get_or c.in_ok-tails.tails.items c.loop-marks.at 0 =
    get_or_read c.in_ok-tails.tails.items c.loop-marks.at c.index-at.result.now (omega (arith, c.in_ok-tails.ensures.len)) c.index-at.ensures 0 in
    walk-more c.args.arcs.now c.args.waiting.now c.in_ok-tails.tails.items c.loop-marks.marks.items _ c.loop-marks.walk c.push.new.self c.loop-marks.at c.index-at.result.now
    c.in_ok-tails.ensures.each c.requires.closed c.loop-marks.invariant fresh refl c.in_ok-push.ensures.ok read

pub returns : goal.returns
returns c =
    let at_place : get_or c.loop-marks.walk c.place_of-place.result 0 ≡ c.loop-marks.at = ap (λ xs. get_or xs c.place_of-place.result 0) (sym c.as_slice.ensures) ∙ c.place_of-place.ensures.there in
    let low : c.place_of-place.result < length c.loop-marks.walk = omega (arith, c.place_of-place.ensures.within, ap length c.as_slice.ensures) in
    let cut = cycle_cut c.args.arcs.now c.loop-marks.walk c.loop-marks.at c.place_of-place.result low at_place c.loop-marks.invariant.apart c.loop-marks.invariant.joined in
    let rest : take (length c.as_slice-2.result.now - (c.place_of-place.result + 1)) (drop (c.place_of-place.result + 1) c.as_slice-2.result.now) ≡ drop (c.place_of-place.result + 1) c.loop-marks.walk =
    take_rest c.as_slice-2.result.now (c.place_of-place.result + 1) ∙ ap (drop (c.place_of-place.result + 1)) c.as_slice-2.ensures in
    ok_more c.turned.result
    (λ nodes e. subst (λ (ns : List ℕ). IsCycle c.args.arcs.now ns) (sym (e ∙ ap (λ xs. c.loop-marks.at ∷ reverse xs) rest)) cut)
    c.turned.ensures
