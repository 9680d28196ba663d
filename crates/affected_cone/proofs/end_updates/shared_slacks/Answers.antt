use Rattle.std.proofs.Common.{◌≡◌, ℕ, true, subst}
use Rattle.std.proofs.lemmas.List.Elements.{All-contains}
use Rattle.affected_cone.specs.Analysed.{is_end, IsEnd}
use Rattle.affected_cone.proofs.SearchLaws.{map_weaker, ok_more}
use Rattle.affected_cone.proofs.end_updates.shared_slacks.Goals as goal

pub returns : goal.returns
returns g c =
    ok_more c.map_shared.result
    (λ rs m. map_weaker _ (IsEnd c.args.weighed.now.search.now.store.now) c.args.ends.now rs
    (λ x l r k. subst (λ (n : ℕ). is_end c.args.weighed.now.search.now.store.now n ≡ true → IsEnd c.args.weighed.now.search.now.store.now n r) k.shows k.says.met
    (All-contains (λ pin. is_end c.args.weighed.now.search.now.store.now pin ≡ true) c.args.ends.now x c.requires.ends l)) m)
    c.map_shared.ensures
