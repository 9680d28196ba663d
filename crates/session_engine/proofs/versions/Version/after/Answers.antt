use Rattle.std.specs.Arc.{arc_value}
use Rattle.session_engine.proofs.VersionLaws.{next_version, is_next}
use Rattle.session_engine.proofs.versions.Version.after.Goals as goal

pub version_of-requires : goal.version_of-requires
version_of-requires c =
    next_version c.args.self.now c.laws.ensures c.args.who c.args.eco.now c.requires.eco (arc_value c.args.store) (arc_value c.args.analysis)
    c.requires.accepts c.requires.analysis c.tell_laws.ensures c.requires.room
    c.args.history.first (arc_value c.args.history.origin) c.args.history.journal c.requires.first c.requires.origin c.requires.journal

pub returns-clause-next : goal.returns-clause-next
returns-clause-next c =
    is_next c.args.self.now c.laws.ensures c.args.who c.args.eco.now c.requires.eco (arc_value c.args.store) (arc_value c.args.analysis)
    c.requires.accepts c.args.history.first (arc_value c.args.history.origin) c.args.history.journal
    c.requires.first c.requires.origin c.requires.journal c.version_of.result c.version_of.ensures
