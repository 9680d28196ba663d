-- The line through two neighbours of a column.
use Rattle.std.proofs.Common.{rules, FitsSigned, ◌≡◌, ◌∙◌, ◌+◌, ap, pos, get_or, w64}
use Rattle.std.proofs.lemmas.Int.{to_z-of_z}
use Rattle.timing_defs.specs.Lookup.{entry_at, line}
use Rattle.nldm_lookup.proofs.Rising.{along_line}
use Rattle.nldm_lookup.proofs.columns.column.Goals as goal
use mir.Syntax.{w128}

pub returns-clause-value : goal.returns-clause-value
returns-clause-value c =
    let t = c.args.t.now in
    let i = c.args.i in
    let j = c.args.j in
    let x-fits : FitsSigned w64 c.args.x = c.ranges.x in
    let low-fits : FitsSigned w64 c.value-2.result = search rules in
    let high-fits : FitsSigned w64 c.value-3.result = search rules in
    let below-fits : FitsSigned w128 c.from-below.result = search rules in
    let above-fits : FitsSigned w128 c.from-above.result = search rules in
    let line-fits : FitsSigned w128 c.line.result = search rules in
    let low : c.from-below.result ≡ c.value-2.result = simp to_z-of_z at c.from-below.ensures in
    let high : c.from-above.result ≡ c.value-3.result = simp to_z-of_z at c.from-above.ensures in
    let met : c.line.result ≡ line c.from-below.result c.from-above.result c.span.result.from c.span.result.to c.args.x =
    simp to_z-of_z at c.line.ensures.value in
    let drawn = along_line t.xs (λ i. entry_at t i j) c.args.x i
    c.from-below.result c.from-above.result c.span.result.from c.span.result.to
    (λ e. c.if-len-eq1.false (c.len.ensures ∙ e)) c.requires.row (low ∙ c.value-2.ensures.value) (high ∙ c.value-3.ensures.value)
    (c.span.ensures.from ∙ ap (λ l. get_or l i (pos 0)) c.as_slice.ensures) (c.span.ensures.to ∙ ap (λ l. get_or l (i + 1) (pos 0)) c.as_slice.ensures) in
    simp to_z-of_z (met ∙ drawn)
