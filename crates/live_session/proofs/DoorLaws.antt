-- What is done at a door in turn.
use Rattle.std.proofs.Common.{ℕ, ◌++◌, List, [], sym, ap, ◌∙◌, subst, append_assoc}
use Rattle.std.specs.Prelude.{Option, Some, None}
use Rattle.std.proofs.lemmas.List.{append-nil}
use Rattle.live_doors.specs.Doors.{Deed, Loses, Grows}

pub grows_more : (a b c : Option (List Deed)) (first more : List Deed) → Grows a b first → Grows b c more → Grows a c (first ++ more)
grows_more None None None first more g h = tt
grows_more None None (Some z) first more g h = absurd h
grows_more None (Some y) c first more g h = absurd g
grows_more (Some x) None c first more g h = absurd g
grows_more (Some x) (Some y) None first more g h = absurd h
grows_more (Some x) (Some y) (Some z) first more g h = h ∙ ap (λ l. l ++ more) g ∙ append_assoc x first more

pub loses_more : (a b c : Option (List (List ℕ))) (first more : List (List ℕ)) → Loses a b first → Loses b c more → Loses a c (first ++ more)
loses_more None None None first more g h = tt
loses_more None None (Some z) first more g h = absurd h
loses_more None (Some y) c first more g h = absurd g
loses_more (Some x) None c first more g h = absurd g
loses_more (Some x) (Some y) None first more g h = absurd h
loses_more (Some x) (Some y) (Some z) first more g h = g ∙ ap (λ l. first ++ l) h ∙ sym (append_assoc first more z)

-- where nothing more was done
pub loses_same : (a b c : Option (List (List ℕ))) (first : List (List ℕ)) → Loses a b first → Loses b c [] → Loses a c first
loses_same a b c first g h = subst (Loses a c) (append-nil first) (loses_more a b c first [] g h)

pub grows_same : (a b c : Option (List Deed)) (first : List Deed) → Grows a b first → Grows b c [] → Grows a c first
grows_same a b c first g h = subst (Grows a c) (append-nil first) (grows_more a b c first [] g h)
