use Rattle.std.proofs.Common.{◌+◌, ◌<◌, length, ap, sym, ◌∙◌, arith}
use Rattle.std.specs.Str.{bytes_eq}
use Rattle.path_rules.proofs.Marks.{whole_word, other_length, pin_at}
use Rattle.path_rules.proofs.words.is_pin_word.Goals as goal

pub returns-then-pin-word : goal.returns-then-pin-word
returns-then-pin-word c = sym (other_length c.args.pin.now c.args.word.now (λ e. omega (arith, e)))

pub returns-then-place-word : goal.returns-then-place-word
returns-then-place-word c =
    c.eq.ensures ∙ ap (bytes_eq c.args.pin.now) (sym (whole_word c.args.word.now (c.last_split-place.ensures.whole (omega arith))))

pub returns : goal.returns
returns c =
    let low : c.last_split-place.result < length c.args.word.now = omega (arith, c.last_split-place.ensures.within) in
    c.is_same_around.ensures
    ∙ sym (pin_at c.args.pin.now c.args.word.now c.last_split-place.result (c.last_split-place.result + 1) (omega arith) (omega arith) low (c.last_split-place.ensures.mark low) c.last_split-place.ensures.after)
