use Rattle.std.proofs.Common.{rules, arith, ◌∙◌, length, ◌≡◌}
use Rattle.std.specs.Arc.{arc_value}
use Rattle.cow_table.proofs.Parts.{parts_of, joined, both_written, both_long}
use Rattle.cow_table.proofs.writes.+parts.Goals as goal

pub put_parts-overflow_mul-at : goal.put_parts-overflow_mul-at
put_parts-overflow_mul-at g t c =
    let parts = parts_of arc_value c.args.pages.now c.split_at_mut-front.result.0.now c.split_at_mut-front.result.1.now c.last_part-at.result c.args.count
    c.split_at_mut-front.ensures.value c.split_at_mut-front.ensures.front_len c.last_part-at.ensures c.requires.cut c.requires.counted in
    let fits = c.ranges.count in
    let most = parts.within in
    search (rules, most, fits)

pub put_parts-overflow_mul-at-2 : goal.put_parts-overflow_mul-at-2
put_parts-overflow_mul-at-2 g t c = put_parts-overflow_mul-at g t c

pub put_parts-overflow_sub-count : goal.put_parts-overflow_sub-count
put_parts-overflow_sub-count g t c =
    (parts_of arc_value c.args.pages.now c.split_at_mut-front.result.0.now c.split_at_mut-front.result.1.now c.last_part-at.result c.args.count
    c.split_at_mut-front.ensures.value c.split_at_mut-front.ensures.front_len c.last_part-at.ensures c.requires.cut c.requires.counted).within

pub put_parts-put_both-requires-clause-front_cut : goal.put_parts-put_both-requires-clause-front_cut
put_parts-put_both-requires-clause-front_cut g t c κs within =
    (parts_of arc_value c.args.pages.now c.split_at_mut-front.result.0.now c.split_at_mut-front.result.1.now c.last_part-at.result c.args.count
    c.split_at_mut-front.ensures.value c.split_at_mut-front.ensures.front_len c.last_part-at.ensures c.requires.cut c.requires.counted).front_cut

pub put_parts-put_both-requires-clause-back_cut : goal.put_parts-put_both-requires-clause-back_cut
put_parts-put_both-requires-clause-back_cut g t c κs within =
    (parts_of arc_value c.args.pages.now c.split_at_mut-front.result.0.now c.split_at_mut-front.result.1.now c.last_part-at.result c.args.count
    c.split_at_mut-front.ensures.value c.split_at_mut-front.ensures.front_len c.last_part-at.ensures c.requires.cut c.requires.counted).back_cut

pub put_parts-put_both-requires-clause-before : goal.put_parts-put_both-requires-clause-before
put_parts-put_both-requires-clause-before g t c κs within =
    (parts_of arc_value c.args.pages.now c.split_at_mut-front.result.0.now c.split_at_mut-front.result.1.now c.last_part-at.result c.args.count
    c.split_at_mut-front.ensures.value c.split_at_mut-front.ensures.front_len c.last_part-at.ensures c.requires.cut c.requires.counted).before

pub put_parts-put_both-requires-clause-behind : goal.put_parts-put_both-requires-clause-behind
put_parts-put_both-requires-clause-behind g t c κs within =
    (parts_of arc_value c.args.pages.now c.split_at_mut-front.result.0.now c.split_at_mut-front.result.1.now c.last_part-at.result c.args.count
    c.split_at_mut-front.ensures.value c.split_at_mut-front.ensures.front_len c.last_part-at.ensures c.requires.cut c.requires.counted).behind

pub put_parts-returns-clause-cut : goal.put_parts-returns-clause-cut
put_parts-returns-clause-cut g t c =
    let long : length c.put_both.new.front ≡ c.last_part-at.result = c.put_both.auto.front ∙ c.split_at_mut-front.ensures.front_len in
    joined arc_value c.put_both.new.front c.put_both.new.back c.put_both.ensures.front_cut c.put_both.ensures.back_cut (omega (arith, long, c.put_both.ensures.before))

pub put_parts-returns-clause-len : goal.put_parts-returns-clause-len
put_parts-returns-clause-len g t c =
    let parts = parts_of arc_value c.args.pages.now c.split_at_mut-front.result.0.now c.split_at_mut-front.result.1.now c.last_part-at.result c.args.count
    c.split_at_mut-front.ensures.value c.split_at_mut-front.ensures.front_len c.last_part-at.ensures c.requires.cut c.requires.counted in
    both_long arc_value c.put_both.new.front c.put_both.new.back _ _ c.args.count c.put_both.ensures.before c.put_both.ensures.behind (omega (arith, parts.within))

pub put_parts-returns-clause-ok : goal.put_parts-returns-clause-ok
put_parts-returns-clause-ok g t c =
    let parts = parts_of arc_value c.args.pages.now c.split_at_mut-front.result.0.now c.split_at_mut-front.result.1.now c.last_part-at.result c.args.count
    c.split_at_mut-front.ensures.value c.split_at_mut-front.ensures.front_len c.last_part-at.ensures c.requires.cut c.requires.counted in
    both_written arc_value c.put_both.result c.args.pages.now c.split_at_mut-front.result.0.now c.split_at_mut-front.result.1.now c.put_both.new.front c.put_both.new.back
    _ c.args.places.now c.args.values.now c.split_at_mut-front.ensures.value parts.before c.put_both.ensures.front c.put_both.ensures.back
