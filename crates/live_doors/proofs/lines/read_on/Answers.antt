use Rattle.std.proofs.Common.{◌+◌, subst, rules, arith}
use Rattle.std.specs.Io.BufRead.{FillKeeps}
use Rattle.std.proofs.BufReadLemmas.{Consumes_shown}
use Rattle.live_doors.proofs.Pieces.{nothing_read, part_read, end_read}
use Rattle.live_doors.proofs.lines.read_on.Goals as goal

pub returns-in-Err-clause-read : goal.returns-in-Err-clause-read
returns-in-Err-clause-read g c = nothing_read _ _ _ (omega (arith, c.requires, c.args.line.now.ok.0)) c.fill_buf.follows.holds-at-none.0

pub returns-then-is_ended-clause-read : goal.returns-then-is_ended-clause-read
returns-then-is_ended-clause-read g c =
    let end = c.first_end-end in
    let some = c.if-is_ended.true in
    let rested = c.fill_buf.follows.lender-at-none in
    let filled = subst (FillKeeps _ (g.B.Read.remaining rested) (g.B.BufRead.consumable_len rested)) c.in-Ok.is c.fill_buf.follows.holds-at-none in
    let moved =
    Consumes_shown _ _ _ _ c.in-Ok.shown.now (end.result + 1) (omega (arith, some)) c.in-Ok.ensures.front c.in-Ok.ensures.end filled.0 filled.1 c.consume.ensures.bytes in
    end_read _ _ _ c.in-Ok.shown.now _ end.result c.min-kept.result (omega (arith, c.requires, c.args.line.now.ok.0)) end.ensures.before (search rules) (search rules) some
    (end.ensures.end some) moved.0

pub returns-else-is_ended-clause-read : goal.returns-else-is_ended-clause-read
returns-else-is_ended-clause-read g c =
    let end = c.first_end-end in
    let rested = c.fill_buf.follows.lender-at-none in
    let filled = subst (FillKeeps _ (g.B.Read.remaining rested) (g.B.BufRead.consumable_len rested)) c.in-Ok.is c.fill_buf.follows.holds-at-none in
    let moved =
    Consumes_shown _ _ _ _ c.in-Ok.shown.now end.result end.ensures.bound c.in-Ok.ensures.front c.in-Ok.ensures.end filled.0 filled.1 c.consume-else-is_ended.ensures.bytes in
    part_read _ _ _ c.in-Ok.shown.now _ end.result c.min-kept.result (omega (arith, c.requires, c.args.line.now.ok.0)) end.ensures.before (search rules) (search rules) moved.0
