-- Lists of sessions with one more at their end.
use Rattle.std.proofs.Common.{◌≡◌, ℕ, ◌+◌, ◌≤◌, ◌++◌, List, [], ◌∷◌, map, length, Bool, true, false, Option, suc, ◌<◌, IfSome, slice_get, All, refl, sym, ap, ◌∙◌, subst, arith}
use Rattle.std.proofs.lemmas.List.{length-map, map-append}
use Rattle.std.proofs.lemmas.List.Elements.{All-head, All-tail}
use Rattle.timing_defs.specs.declared.design.Design.{Design}
use Rattle.timing_defs.specs.declared.edits.Entry.{Entry}
use Rattle.version_board.specs.Callers.{Standing, Sitting, IsSeatOf, IsNew}
use Rattle.session_engine.specs.Versions.{Versioned}
use Rattle.session_engine.specs.Looking.{meant}
use Rattle.live_doors.specs.declared.door.Lost.{Lost}
use Rattle.live_session.specs.declared.replies.Manner.{Manner}
use Rattle.live_session.specs.Talks.{AtDoor}
use Rattle.live_run.specs.declared.ended.Parted.{Parted}
use Rattle.live_run.specs.declared.ended.Ended.{Ended}
use Rattle.live_run.specs.declared.sessions.Seating.{Seating}
use Rattle.live_run.specs.Seating.{seat_in}
use Rattle.live_run.specs.Sessions.{HandsBack, EachHandsBack, AreNew}
use Rattle.live_run.specs.Closing.{AreConfirmed, seat_left, parted_left}

map_popped : {X Y : Type 0} (f : X → Y) (all xs : List X) (x : X) (ys more : List Y) → all ≡ xs ++ x ∷ [] → ys ≡ map f xs → more ≡ ys ++ f x ∷ [] → more ≡ map f all
map_popped f all xs x ys more parts are is =
    is ∙ ap (λ l. l ++ f x ∷ []) are ∙ sym (map-append f xs (x ∷ [])) ∙ sym (ap (map f) parts)

-- the last of new seats
pub new_popped : (b : Standing Versioned) (n : ℕ) (seats : List (Sitting Entry Design)) (s : Sitting Entry Design)
    → AreNew b n (seats ++ s ∷ []) → AreNew b n seats × IsNew (n + length seats) s × IsSeatOf meant b s
new_popped b n [] s h = (tt, subst (λ k. IsNew k s) (omega arith) h.0, h.1)
new_popped b n (x ∷ seats) s h =
    let rest = new_popped b (n + 1) seats s h.2 in
    ((h.0, h.1, rest.0), subst (λ k. IsNew k s) (omega arith) rest.1, rest.2)

-- the seats of a board that was begun
pub all_new : (b : Standing Versioned) (n : ℕ) (seats : List (Sitting Entry Design)) → All (IsSeatOf meant b) seats
    → ((k : ℕ) → k < length seats → IfSome (slice_get seats k) (IsNew (k + n))) → AreNew b n seats
all_new b n [] all new = tt
all_new b n (s ∷ seats) all new = (
  (let here : IsNew (0 + n) s = new 0 (omega arith) in subst (λ k. IsNew k s) (omega arith) here),
  All-head (IsSeatOf meant b) s seats all,
  all_new b (n + 1) seats (All-tail (IsSeatOf meant b) s seats all)
      (λ k within. subst (λ j. IfSome (slice_get seats k) (IsNew j)) (omega arith) (new (suc k) (omega (arith, within)))),
)

module _ {D : Type 0} {B : _} where
  pub seats_popped : (all ended : List (Ended D B)) (e : Ended D B) (seats more : List (Sitting Entry Design)) → all ≡ ended ++ e ∷ []
      → seats ≡ map seat_left ended → more ≡ seats ++ e.seat ∷ [] → more ≡ map seat_left all
  seats_popped all ended e seats more parts are is = map_popped seat_left all ended e seats more parts are is

  pub parted_popped : (all ended : List (Ended D B)) (e : Ended D B) (sessions more : List (Parted D)) → all ≡ ended ++ e ∷ []
      → sessions ≡ map parted_left ended → more ≡ sessions ++ e.parted ∷ [] → more ≡ map parted_left all
  parted_popped all ended e sessions more parts are is = map_popped parted_left all ended e sessions more parts are is

  confirmed_more : (kept : ℕ) (sound : Bool) (ended : List (Ended D B)) (e : Ended D B) → AreConfirmed kept sound ended → e.receipt.upto ≤ kept
      → (e.receipt.torn ≡ true → sound ≡ false) → AreConfirmed kept sound (ended ++ e ∷ [])
  confirmed_more kept sound [] e sure low fails = (low, fails, tt)
  confirmed_more kept sound (x ∷ ended) e sure low fails = (sure.0, sure.1, confirmed_more kept sound ended e sure.2 low fails)

  pub confirmed_popped : (kept : ℕ) (sound : Bool) (all ended : List (Ended D B)) (e : Ended D B) → all ≡ ended ++ e ∷ [] → AreConfirmed kept sound ended
      → e.receipt.upto ≤ kept → (e.receipt.torn ≡ true → sound ≡ false) → AreConfirmed kept sound all
  confirmed_popped kept sound all ended e parts sure low fails =
      subst (AreConfirmed kept sound) (sym parts) (confirmed_more kept sound ended e sure low fails)

  -- what a session hands back by its seat and its manner it does by equal ones
  pub hands_still : (told : D → AtDoor) (lines : ℕ → Option (List (List ℕ))) (denies : ℕ → Lost → Type 0) (m n : Manner) (s t : Sitting Entry Design) (e : Ended D B) → m ≡ n → s ≡ t
      → HandsBack told lines denies m s e → HandsBack told lines denies n t e
  hands_still told lines denies m n s t e same is h = subst (λ x. HandsBack told lines denies n x e) is (subst (λ x. HandsBack told lines denies x s e) same h)

  module _ (told : D → AtDoor) (lines : ℕ → Option (List (List ℕ))) (denies : ℕ → Lost → Type 0) (manner : Manner) where
    each_more : (seats : List (Sitting Entry Design)) (ended : List (Ended D B)) (s : Sitting Entry Design) (e : Ended D B)
        → EachHandsBack told lines denies manner seats ended → HandsBack told lines denies manner s e → EachHandsBack told lines denies manner (seats ++ s ∷ []) (ended ++ e ∷ [])
    each_more [] [] s e h one = (one, tt)
    each_more (x ∷ seats) (f ∷ ended) s e h one = (h.0, each_more seats ended s e h.1 one)
    each_more [] (f ∷ ended) s e h one = absurd h
    each_more (x ∷ seats) [] s e h one = absurd h

    -- one session behind others that handed back their seats
    pub each_popped : (all seatings : List (Seating B)) (x : Seating B) (ended more : List (Ended D B)) (e : Ended D B)
        → all ≡ seatings ++ x ∷ [] → more ≡ ended ++ e ∷ [] → EachHandsBack told lines denies manner (map seat_in seatings) ended
        → HandsBack told lines denies manner x.seat e → EachHandsBack told lines denies manner (map seat_in all) more
    each_popped all seatings x ended more e parts is h one =
        subst (λ l. EachHandsBack told lines denies manner (map seat_in l) more) (sym parts)
        (subst (λ l. EachHandsBack told lines denies manner l more) (sym (map-append seat_in seatings (x ∷ [])))
        (subst (EachHandsBack told lines denies manner (map seat_in seatings ++ x.seat ∷ [])) (sym is)
        (each_more (map seat_in seatings) ended x.seat e h one)))

-- the last of new seats that sessions begin at
pub seat_popped : {B : _} (b : Standing Versioned) (all seatings : List (Seating B)) (x : Seating B) → all ≡ seatings ++ x ∷ []
    → AreNew b 1 (map seat_in all)
    → AreNew b 1 (map seat_in seatings) × (x.seat.view.number ≡ length seatings + 1) × IsNew x.seat.view.number x.seat × IsSeatOf meant b x.seat
seat_popped b all seatings x parts new =
    let p = new_popped b 1 (map seat_in seatings) x.seat (subst (AreNew b 1) (ap (map seat_in) parts ∙ map-append seat_in seatings (x ∷ [])) new) in
    let many : length (map seat_in seatings) ≡ length seatings = length-map seatings seat_in in
    let last : 1 + length (map seat_in seatings) ≡ length seatings + 1 = omega (arith, many) in
    (p.0, p.1.0 ∙ last, (refl, p.1.1, p.1.2, p.1.3), p.2)

-- the seats that sessions begin at, with one more
pub seatings_popped : {B : _} (all rest : List (Sitting Entry Design)) (s : Sitting Entry Design) (seatings more : List (Seating B)) (x : Seating B)
    → all ≡ rest ++ s ∷ [] → map seat_in seatings ≡ rest → x.seat ≡ s → more ≡ seatings ++ x ∷ [] → map seat_in more ≡ all
seatings_popped all rest s seatings more x parts are is longer =
    ap (map seat_in) longer ∙ map-append seat_in seatings (x ∷ []) ∙ ap (λ l. l ++ x.seat ∷ []) are ∙ ap (λ t. rest ++ t ∷ []) is ∙ sym parts
