use Rattle.std.proofs.Common.{Some, ap, ◌∙◌}
use Rattle.timing_defs.specs.declared.kinds.Kind.TheVariants.{Setup, Hold}
use Rattle.required_engine.proofs.EndLaws.{untested_pin}
use Rattle.required_engine.proofs.nodes.node_back.Goals as goal

pub tested_back-requires-clause-setup : goal.tested_back-requires-clause-setup
tested_back-requires-clause-setup g c =
    (untested_pin c.args.store.now c.laws.ensures.numbered c.laws.ensures.linked c.args.node Setup c.args.pin c.requires.pin
    (c.is_endpoint.ensures ∙ ap Some c.if-asked.false)).0

pub tested_back-requires-clause-hold : goal.tested_back-requires-clause-hold
tested_back-requires-clause-hold g c =
    (untested_pin c.args.store.now c.laws.ensures.numbered c.laws.ensures.linked c.args.node Hold c.args.pin c.requires.pin
    (c.is_endpoint.ensures ∙ ap Some c.if-asked.false)).0

pub tested_back-requires-clause-setup_needs : goal.tested_back-requires-clause-setup_needs
tested_back-requires-clause-setup_needs g c =
    (untested_pin c.args.store.now c.laws.ensures.numbered c.laws.ensures.linked c.args.node Setup c.args.pin c.requires.pin
    (c.is_endpoint.ensures ∙ ap Some c.if-asked.false)).1

pub tested_back-requires-clause-hold_needs : goal.tested_back-requires-clause-hold_needs
tested_back-requires-clause-hold_needs g c =
    (untested_pin c.args.store.now c.laws.ensures.numbered c.laws.ensures.linked c.args.node Hold c.args.pin c.requires.pin
    (c.is_endpoint.ensures ∙ ap Some c.if-asked.false)).1
