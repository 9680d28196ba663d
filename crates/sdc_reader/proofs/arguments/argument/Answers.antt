use Rattle.std.proofs.Common.{sym, ◌∙◌}
use Rattle.sta_text.specs.Tokens.{tok_of}
use Rattle.sdc_reader.specs.Reads.{place_behind}
use Rattle.sdc_reader.proofs.GoingOn.{takes_on}
use Rattle.sdc_reader.proofs.arguments.argument.Goals as goal

pub returns-else-passes_over-clause-reads : goal.returns-else-passes_over-clause-reads
returns-else-passes_over-clause-reads c =
    takes_on c.argument_from.result place_behind c.args.size c.args.more.line c.args.more.passes_word (tok_of c.in-Some.token) c.next.new.self
    c.args.cursor.now c.argument_from.new.cursor c.args.out.now.items c.argument_from.new.out.items
    c.in-Some.ensures (sym c.passes_over.ensures ∙ c.if-passes_over.false) c.argument_from.ensures
