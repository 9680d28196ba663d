use Rattle.std.proofs.Common.{rules, ◌≡◌, ◌+◌, length, position, None, Some, ap, ◌∙◌}
use Rattle.rc_tree.proofs.Keeping.{place_any, place_first, place_later, place_none}
use Rattle.rc_tree.proofs.keys.Keys.place.Goals as goal

pub returns-in-Some-clause-index : goal.returns-in-Some-clause-index
returns-in-Some-clause-index g c =
    place_first (g.T.PartialEq.eq c.args.key.now) c.in-Some.place c.self.inside.first.items c.self.inside.more.keys (c.in-Some.ensures ∙ ap (position (g.T.PartialEq.eq c.args.key.now)) c.deref.ensures.value)
    ∙ ap (position (g.T.PartialEq.eq c.args.key.now)) c.self.view_is

pub returns-in-Some-clause-found : goal.returns-in-Some-clause-found
returns-in-Some-clause-found g c = place_any (g.T.PartialEq.eq c.args.key.now) (Some c.in-Some.place) c.args.self.now (returns-in-Some-clause-index g c)

pub returns-in-Some-later_place-clause-index : goal.returns-in-Some-later_place-clause-index
returns-in-Some-later_place-clause-index g c =
    let size : c.len.result ≡ length c.self.inside.first.items = search rules in
    ap (λ n. Some (n + c.in-Some-later_place.later)) size
    ∙ place_later (g.T.PartialEq.eq c.args.key.now) c.in-Some-later_place.later c.self.inside.first.items c.self.inside.more.keys (c.in-None.ensures ∙ ap (position (g.T.PartialEq.eq c.args.key.now)) c.deref.ensures.value) c.in-Some-later_place.ensures.index
    ∙ ap (position (g.T.PartialEq.eq c.args.key.now)) c.self.view_is

pub returns-in-Some-later_place-clause-found : goal.returns-in-Some-later_place-clause-found
returns-in-Some-later_place-clause-found g c =
    place_any (g.T.PartialEq.eq c.args.key.now) (Some (c.len.result + c.in-Some-later_place.later)) c.args.self.now (returns-in-Some-later_place-clause-index g c)

pub returns-in-None-later_place-clause-index : goal.returns-in-None-later_place-clause-index
returns-in-None-later_place-clause-index g c =
    place_none (g.T.PartialEq.eq c.args.key.now) c.self.inside.first.items c.self.inside.more.keys (c.in-None.ensures ∙ ap (position (g.T.PartialEq.eq c.args.key.now)) c.deref.ensures.value) c.in-None-later_place.ensures.index
    ∙ ap (position (g.T.PartialEq.eq c.args.key.now)) c.self.view_is

pub returns-in-None-later_place-clause-found : goal.returns-in-None-later_place-clause-found
returns-in-None-later_place-clause-found g c = place_any (g.T.PartialEq.eq c.args.key.now) None c.args.self.now (returns-in-None-later_place-clause-index g c)
