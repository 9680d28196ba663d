use Rattle.std.proofs.Common.{◌≡◌, ◌+◌, ◌<◌, ◌^◌, length}
use Rattle.sta_text.specs.Tokens.{tokens}
use Rattle.sta_text.proofs.cursor.Cursor.next.Given as goal

-- the tokens that are left are those from the begin on
abbrev pub invariant-loop-first : goal.invariant-loop-first
invariant-loop-first l =
    (l.fn.self ≡ tokens l.self-inside.style 0 l.self-inside.context l.self-inside.at l.self-inside.rest.now)
    × (l.self-inside.at + length l.self-inside.rest.now < 2 ^ 64)

abbrev pub decreases-loop-first : goal.decreases-loop-first
decreases-loop-first l = length l.self-inside.rest.now
