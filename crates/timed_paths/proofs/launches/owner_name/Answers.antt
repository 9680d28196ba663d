use Rattle.std.proofs.Common.{sym, ◌∙◌}
use Rattle.path_search.proofs.NameLaws.{owner_is}
use Rattle.timed_paths.proofs.launches.owner_name.Goals as goal

pub returns-in_ok-copied-in-Some : goal.returns-in_ok-copied-in-Some
returns-in_ok-copied-in-Some c =
    owner_is c.args.store.now c.laws.ensures.numbered c.laws.ensures.linked c.args.pin c.in-Some.inst c.requires (sym c.in-Some.is ∙ c.inst_of.ensures.value) c.inst_at.result.now
    c.inst_at.ensures.name c.in_ok-copied-in-Some.field-0 c.in_ok-copied-in-Some.ensures
