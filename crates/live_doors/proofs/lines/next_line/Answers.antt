use Rattle.std.proofs.Common.{[], subst, sym, ◌∙◌, rules, arith}
use Rattle.live_doors.specs.Lines.{Reads}
use Rattle.live_doors.specs.declared.lines.Behind.TheVariants.{InputEnd}
use Rattle.live_doors.proofs.Pieces.{read_more, line_ended, line_whole, line_none, some_unless_zero}
use Rattle.live_doors.proofs.lines.next_line.Goals as goal

pub loop-preserved : goal.loop-preserved
loop-preserved g c = (c.read_on.ensures.within, read_more _ _ _ _ _ [] c.loop.invariant.1 (search rules))

pub returns-in-LineEnd-clause-line : goal.returns-in-LineEnd-clause-line
returns-in-LineEnd-clause-line g c = line_ended _ _ _ (read_more _ _ _ _ _ _ c.loop.invariant.1 (search rules))

pub returns-in-InputEnd-clause-line : goal.returns-in-InputEnd-clause-line
returns-in-InputEnd-clause-line g c =
    let read : Reads _ _ _ _ InputEnd = subst (Reads _ _ _ _) c.in-InputEnd.is c.in_ok-read_on.ensures.read in
    line_none _ _ _ _ c.read_on.new.line.items c.loop.invariant.1 read.0 read.1 read.2 (search rules)

pub returns-in-InputEnd-2-clause-line : goal.returns-in-InputEnd-2-clause-line
returns-in-InputEnd-2-clause-line g c =
    let read : Reads _ _ _ _ InputEnd = subst (Reads _ _ _ _) c.in-InputEnd-2.is c.in_ok-read_on.ensures.read in
    line_whole _ _ _ _ c.read_on.new.line.items c.loop.invariant.1 read.0 read.1 read.2
    (omega (arith, some_unless_zero _ (sym c.is_empty.ensures ∙ c.if-is_empty.false), c.read_on.new.line.ok.0))
