use Rattle.std.proofs.Common.{arith, is_ok}
use Rattle.std.specs.Arc.{arc_value}
use Rattle.cow_table.proofs.Places.{begun_or_kept}
use Rattle.cow_table.proofs.tables.begin.Goals as goal

pub returns-clause-cut : goal.returns-clause-cut
returns-clause-cut g c =
    begun_or_kept 4096 (omega arith) arc_value c.args.pages.now.items c.push.new.self.items c.in_ok-page.page c.args.value (is_ok c.push.result)
    c.requires.cut c.requires.full c.in_ok-page.ensures c.push.ensures.items
