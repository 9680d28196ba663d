use Rattle.std.proofs.Common.{inl, inr, refl}
use Rattle.bounded_slack.proofs.firsts.nearer.Goals as goal

pub room-requires-clause-net : goal.room-requires-clause-net
room-requires-clause-net g c = c.requires.net

pub room-requires-clause-held : goal.room-requires-clause-held
room-requires-clause-held g c = c.requires.next

pub room-requires-in-Some-clause-net : goal.room-requires-in-Some-clause-net
room-requires-in-Some-clause-net g c = c.requires.net

pub room-requires-in-Some-clause-held : goal.room-requires-in-Some-clause-held
room-requires-in-Some-clause-held g c = rw c.in-Some.is at c.requires.best

pub returns-in-None : goal.returns-in-None
returns-in-None g c = inr refl

pub returns-then-is_less : goal.returns-then-is_less
returns-then-is_less g c = inr refl

pub returns-else-is_less : goal.returns-else-is_less
returns-else-is_less g c = inl c.in-Some.is
