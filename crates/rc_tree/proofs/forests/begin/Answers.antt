use Rattle.std.proofs.Common.{rules, ◌≡◌, None, length, ap, sym, subst}
use Rattle.rc_tree.specs.declared.forests.Row.{Row}
use Rattle.rc_tree.specs.Loops.{IsPart}
use Rattle.rc_tree.proofs.Growing.{part_begun, part_sized, begun_further}
use Rattle.rc_tree.proofs.forests.begin.Goals as goal

pub spread-requires-clause-part : goal.spread-requires-clause-part
spread-requires-clause-part c =
    let size : c.len-first.result ≡ length c.args.forest.rows.items = search rules in
    let row : Row = record { node = c.args.node; parent = None; segment = 0; res = 0; home = c.len-first.result } in
    let made = part_begun c.args.segments.now (length c.args.forest.places.items) c.args.node c.args.forest c.in_ok-begun.begun row c.requires.done c.requires.free c.requires.node
    (ap (λ h. record { node = c.args.node; parent = None; segment = 0; res = 0; home = h }) size) c.in_ok-begun.ensures.rows c.in_ok-begun.ensures.places in
    subst (λ k. IsPart c.args.segments.now (length c.in_ok-begun.begun.places.items) k k c.in_ok-begun.begun) (sym size)
    (part_sized c.args.segments.now (length c.args.forest.places.items) (length c.args.forest.rows.items) (length c.args.forest.rows.items) c.in_ok-begun.begun made.0)

pub returns-clause-done : goal.returns-clause-done
returns-clause-done c =
    let size : c.len-first.result ≡ length c.args.forest.rows.items = search rules in
    let row : Row = record { node = c.args.node; parent = None; segment = 0; res = 0; home = c.len-first.result } in
    begun_further c.args.segments.now (length c.args.forest.places.items) c.args.node c.args.forest c.in_ok-begun.begun c.in_ok-more.more row c.requires.done c.requires.free c.requires.node
    (ap (λ h. record { node = c.args.node; parent = None; segment = 0; res = 0; home = h }) size) c.in_ok-begun.ensures.rows c.in_ok-begun.ensures.places c.in_ok-more.ensures.done
