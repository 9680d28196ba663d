use Rattle.std.proofs.Common.{ℤ, pos, Option, Some, sym, ap, ◌∙◌}
use Rattle.std.specs.Option.{unwrap_or}
use Rattle.timed_paths.proofs.CaptureLaws.{node_made}
use Rattle.timed_paths.proofs.captures.walk_node.Goals as goal

pub returns : goal.returns
returns g c =
    node_made c.args.sources.now.store.now c.laws.ensures.numbered c.laws.ensures.linked c.args.split (c.args.clock, c.args.tran) c.args.node c.requires.there _
    (c.pin_name.ensures ∙ ap Some (sym c.in_ok-pin.ensures)) c.tran_of.ensures
    (c.time_or_zero-time.ensures ∙ ap (λ (o : Option ℤ). unwrap_or o (pos 0)) c.arrival_at.ensures.value)
