use Rattle.std.proofs.Common.{rules}
use Rattle.live_journal.proofs.Kept.{put_well, knows_more}
use Rattle.live_journal.proofs.desks.Desk.put.Goals as goal

pub invariant_of-self : goal.invariant_of-self
invariant_of-self g c =
    let i = c.self.invariant in (
      i.0,
      put_well g.T.Saves.text g.met.T.Saves.joins g.B.Room.about _ _ _ _ i.1 (search rules) (search rules) (search rules) (search rules),
      i.2,
      knows_more g.T.Saves.text g.B.Room.about _ _ _ i.1 (search rules) i.3,
    )
