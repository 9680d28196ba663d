-- One column where the second axis has one entry, else the line through two columns.
use Rattle.std.proofs.Common.{rules, FitsSigned, ◌≡◌, ◌∙◌, ◌+◌, ap, sym, pos, get_or, w64}
use Rattle.std.proofs.lemmas.Int.{to_z-of_z}
use Rattle.timing_defs.specs.Lookup.{segment, along, entry_at, line}
use Rattle.nldm_lookup.proofs.Rising.{along_constant, along_line}
use Rattle.nldm_lookup.proofs.lookups.interpolated.Goals as goal
use mir.Syntax.{w128}

pub returns-then-len-eq1 : goal.returns-then-len-eq1
returns-then-len-eq1 c =
    let t = c.args.t.now in
    let x-fits : FitsSigned w64 c.args.x = c.ranges.x in
    let fits : FitsSigned w128 c.column.result = search rules in
    let met : c.column.result ≡ along t.xs (λ i. entry_at t i 0) c.args.x = simp to_z-of_z at c.column.ensures.value in
    simp to_z-of_z (met ∙ sym (along_constant t.ys (λ j. along t.xs (λ i. entry_at t i j) c.args.x) c.args.y (sym c.len.ensures ∙ c.if-len-eq1.true)))

pub returns : goal.returns
returns c =
    let t = c.args.t.now in
    let j = c.segment-j.result in
    let x-fits : FitsSigned w64 c.args.x = c.ranges.x in
    let y-fits : FitsSigned w64 c.args.y = c.ranges.y in
    let left-fits : FitsSigned w128 c.column-left.result = search rules in
    let right-fits : FitsSigned w128 c.column-right.result = search rules in
    let line-fits : FitsSigned w128 c.line.result = search rules in
    let left : c.column-left.result ≡ along t.xs (λ i. entry_at t i j) c.args.x = simp to_z-of_z at c.column-left.ensures.value in
    let right : c.column-right.result ≡ along t.xs (λ i. entry_at t i (j + 1)) c.args.x = simp to_z-of_z at c.column-right.ensures.value in
    let place : j ≡ segment c.as_slice-2.result.now c.args.y = simp to_z-of_z at c.segment-j.ensures.value in
    let met : c.line.result ≡ line c.column-left.result c.column-right.result c.span.result.from c.span.result.to c.args.y =
    simp to_z-of_z at c.line.ensures.value in
    let drawn = along_line t.ys (λ j. along t.xs (λ i. entry_at t i j) c.args.x) c.args.y j
    c.column-left.result c.column-right.result c.span.result.from c.span.result.to
    (λ e. c.if-len-eq1.false (c.len.ensures ∙ e)) (place ∙ ap (λ l. segment l c.args.y) c.as_slice-2.ensures) left right
    (c.span.ensures.from ∙ ap (λ l. get_or l j (pos 0)) c.as_slice-3.ensures) (c.span.ensures.to ∙ ap (λ l. get_or l (j + 1) (pos 0)) c.as_slice-3.ensures) in
    simp to_z-of_z (met ∙ drawn)
