use Rattle.std.proofs.Common.{sym, subst}
use Rattle.std.proofs.lemmas.Option.{slice_get_within}
use Rattle.worst_walks.specs.Walks.{count_of}
use Rattle.ranked_walks.specs.Outs.{AreListed}
use Rattle.ranked_walks.proofs.starts.tables_of.Goals as goal

pub returns : goal.returns
returns g c =
    record {
      outs = subst (AreListed c.args.cone.now (count_of c.args.cone.now)) (sym c.from_vec.ensures) c.in_ok-outs.ensures;
      ends = c.in_ok-rows.ensures.long;
      rows = λ place end there. c.in_ok-rows.ensures.rows place end (slice_get_within c.args.cone.now.ends place end there) there;
    }
