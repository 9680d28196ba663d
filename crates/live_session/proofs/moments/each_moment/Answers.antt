use Rattle.live_session.proofs.MomentLaws.{moment}
use Rattle.live_session.proofs.moments.each_moment.Goals as goal

pub returns : goal.returns
returns c = λ way ended lines replies now more begins. moment way ended lines replies now more begins
