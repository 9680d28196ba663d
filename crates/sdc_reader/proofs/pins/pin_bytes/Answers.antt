-- The last mark becomes a colon; a word without a mark stays.
use Rattle.std.proofs.Common.{◌≡◌, ◌<◌, ℕ, List, length, IfOk, subst, ◌∙◌, arith}
use Rattle.sdc_reader.proofs.PinLemmas.{pin_at, whole_at}
use Rattle.sdc_reader.proofs.pins.pin_bytes.Goals as goal

pub returns-then-place-word : goal.returns-then-place-word
returns-then-place-word c =
    c.in_ok-from_slice.ensures.items
    ∙ whole_at c.args.word.now c.last_split-place.result c.last_split-place.ensures c.if-place-word.true

pub returns : goal.returns
returns c =
    let low : c.last_split-place.result < length c.args.word.now = omega (arith, c.last_split-place.ensures.within, c.if-place-word.false) in
    subst (λ (word : List ℕ). IfOk c.with_colon.result (λ bytes. bytes.items ≡ word))
    (pin_at c.args.word.now c.last_split-place.result c.last_split-place.ensures low) c.with_colon.ensures
