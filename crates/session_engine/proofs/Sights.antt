-- Looks of a seat, one after another.

use Rattle.std.proofs.Common.{◌≡◌, ℕ, ◌+◌, ◌<◌, ◌≤◌, List, [], ◌∷◌, ◌++◌, length, Some, sym, ap, subst, ◌∙◌, arith, refl, append_assoc, append-nil, length-append}
use mathlib.Core.List.{IsPrefix}
use Rattle.std.specs.Arc.{arc_value}
use Rattle.std.specs.declared.sync.Arc.{Arc}
use Rattle.std.specs.declared.alloc.Global.{Global}
use Rattle.timing_defs.specs.declared.design.Design.{Design}
use Rattle.timing_defs.specs.declared.edits.Eco.{Eco}
use Rattle.timing_defs.specs.declared.edits.Entry.{Entry}
use Rattle.timing_defs.specs.declared.scripts.Answer.{Answer}
use Rattle.timing_defs.specs.declared.scripts.Answer.TheVariants.{Accepted, Refused}
use Rattle.timing_rules.specs.Checks.{Refuses}
use Rattle.timing_rules.specs.Sessions.{Looks, entry_by}
use Rattle.session_engine.specs.declared.commands.Attempt.{Attempt}
use Rattle.session_engine.specs.declared.commands.Attempt.TheVariants.{Done, Moved}
use Rattle.timing_defs.proofs.Members.{some_is}
use Rattle.version_board.specs.Callers.{Sitting, IsSame, Publishes, Looks as LooksAt}
use Rattle.session_engine.specs.Versions.{Versioned, IsVersion, IsNext}
use Rattle.session_engine.specs.Looking.{Sight, Holds, Saw, Looked, SawLast, Adds, Reaches, Changes}
use Rattle.session_engine.specs.Trying.{Tried}
use Rattle.session_engine.proofs.Numbers.{prefix_self, prefix_trans, looks_more}

-- the looks of two parts
looks_both : (a b c ns ms : List ℕ) → b ≡ a ++ ns → c ≡ b ++ ms → c ≡ a ++ (ns ++ ms)
looks_both a b c ns ms e f = f ∙ ap (λ x. x ++ ms) e ∙ append_assoc a ns ms

pub saw_then : (u v w : Sight) (ns ms : List ℕ) → Saw u ns v → Saw v ms w → Saw u (ns ++ ms) w
saw_then u v w ns ms h k = (looks_both u.looks v.looks w.looks ns ms h.0 k.0, prefix_trans u.seen v.seen w.seen h.1 k.1, k.2 ∙ h.2)

pub saw_one : (v w : Sight) (n : ℕ) → Saw v (n ∷ []) w → SawLast v n w
saw_one v w n h = ([], h)

pub saw_last_then : (u v w : Sight) (m n : ℕ) → SawLast u m v → Saw v (n ∷ []) w → SawLast u n w
saw_last_then u v w m n h k = (h.0 ++ m ∷ [], saw_then u v w (h.0 ++ m ∷ []) (n ∷ []) h.1 k)

-- no look
pub looked_none : (v : Sight) → Looked v v
looked_none v = ([], (sym (append-nil v.looks), prefix_self v.seen, refl))

-- one look, which adds nothing
pub looked_once : (v w : Sight) → LooksAt v w.seen w → w.mine ≡ v.mine → Looked v w
looked_once v w h same = ((v.first + length w.seen) ∷ [], (h.0, h.1, same))

-- some looks, and perhaps further ones
pub looked_then : (u v w : Sight) (ns : List ℕ) → Saw u ns v → Looked v w → Looked u w
looked_then u v w ns h k = (ns ++ k.0, saw_then u v w ns k.0 h k.1)

pub last_looked : (u v w : Sight) (n : ℕ) → SawLast u n v → Looked v w → Looked u w
last_looked u v w n h k = looked_then u v w (h.0 ++ n ∷ []) h.1 k

pub looked_both : (u v w : Sight) (ns ms : List ℕ) → Saw u ns v → Saw v ms w → Looked u w
looked_both u v w ns ms h k = (ns ++ ms, saw_then u v w ns ms h k)

-- one look more that sees a number below the awaited one
pub wait_more : (u v w : Sight) (seen more : List ℕ) (before awaited last n found at : ℕ)
    → Saw u seen v → Looks before awaited last seen → length seen ≡ at → Saw v (n ∷ []) w → last ≤ n → found ≡ n → found < awaited → more ≡ seen ++ found ∷ []
    → Saw u more w × Looks before awaited n more × (length more ≡ at + 1)
wait_more u v w seen more before awaited last n found at h looks long k low is below grown =
    let same : more ≡ seen ++ n ∷ [] = grown ∙ ap (λ m. seen ++ m ∷ []) is in
    let less : n < awaited = omega (arith, is, below) in (
      subst (λ ns. Saw u ns w) (sym same) (saw_then u v w seen (n ∷ []) h k),
      subst (Looks before awaited n) (sym same) (looks_more before awaited last n seen looks low less),
      ap length same ∙ length-append seen (n ∷ []) ∙ ap (λ m. m + 1) long,
    )

-- the look that sees the awaited number or a greater one
pub wait_reached : (u v w : Sight) (seen : List ℕ) (before awaited last n found at looks : ℕ)
    → Saw u seen v → Looks before awaited last seen → length seen ≡ at → at < looks → Saw v (n ∷ []) w → last ≤ n → found ≡ n → awaited ≤ found
    → Reaches u before awaited looks w n
wait_reached u v w seen before awaited last n found at looks h lower long few k low is high = (
  seen,
  last,
  saw_then u v w seen (n ∷ []) h k,
  omega (arith, long, few),
  lower,
  low,
  omega (arith, is, high),
)

pub adds_then : (u v w : Sight) (m : ℕ) (e : Entry) → SawLast u m v → Adds v e w → Adds u e w
adds_then u v w m e h k =
    let before = h.0 ++ m ∷ [] in
    let found = (w.first + length k.1) ∷ [] in (
      before ++ k.0,
      k.1,
      looks_both u.looks v.looks w.looks before (k.0 ++ found) h.1.0 k.2 ∙ ap (λ x. u.looks ++ x) (sym (append_assoc before k.0 found)),
      prefix_trans u.seen v.seen k.1 h.1.1 k.3,
      k.4,
      k.5 ∙ ap (λ x. x ++ e ∷ []) h.1.2,
    )

-- a seat that stays the same, twice
pub same_then : (a b c : Sitting Entry Design) → IsSame a b → IsSame b c → IsSame a c
same_then a b c h k = (k.0 ∙ h.0, k.1 ∙ h.1, k.2 ∙ h.2, k.3 ∙ h.3)

-- the next version of what was seen last may be offered to the board
pub next_continues : (who : ℕ) (v : Sight) (base next : Versioned) (eco : Eco) (first : ℕ) (origin : Design) (number : ℕ)
    → v.first ≡ first → v.origin ≡ Some origin → v.number ≡ who → Holds v base → IsVersion base → number ≡ base.number → IsNext base who eco next
    → (next.first ≡ first) × (next.origin ≡ origin) × (next.first + length next.journal ≡ number + 1)
    × ((l : List Entry) × (e : Entry) × (next.journal ≡ l ++ e ∷ []) × IsPrefix l v.seen × (e.session ≡ v.number))
next_continues who v base next eco first origin number from over numbered holds version counted is =
    let long : length next.journal ≡ length base.journal + 1 = ap length is.journal ∙ length-append base.journal (entry_by who eco ∷ []) in
    let start : next.first ≡ base.first = is.first in
    let count : base.number ≡ base.first + length base.journal = version.number in (
      is.first ∙ holds.0 ∙ from,
      is.origin ∙ some_is (holds.1 ∙ over),
      omega (arith, long, start, count, counted),
      (base.journal, entry_by who eco, is.journal, subst (IsPrefix base.journal) holds.2 (prefix_self base.journal), sym numbered),
    )

-- the next version of what was seen last is on the board
pub next_added : (who : ℕ) (v w : Sight) (base next : Versioned) (eco : Eco) → Holds v base → IsNext base who eco next → Publishes v next.journal w → w.first ≡ v.first → w.origin ≡ v.origin
    → Adds v (entry_by who eco) w × Holds w next
next_added who v w base next eco holds is published still same =
    let k = published base.journal (entry_by who eco) is.journal in (
      (
        [],
        base.journal,
        k.0.0 ∙ ap (λ n. v.looks ++ (n + length base.journal) ∷ []) (sym still),
        k.0.1,
        k.1 ∙ is.journal,
        k.2,
      ),
      (is.first ∙ holds.0 ∙ sym still, ap Some is.origin ∙ holds.1 ∙ sym same, sym k.1),
    )

-- one attempt, over the version that was seen last
module _ (who : ℕ) (u v w : Sight) (base : Versioned) (eco : Eco) (holds : Holds v base) (saw : SawLast u base.number v) where
  pub tried_changes : (next : Arc Versioned Global) (answer : Answer) → Tried who v base eco w (Done next answer) → Changes who u eco w (arc_value next) answer
  tried_changes next Accepted h = adds_then u v w base.number (entry_by who eco) saw h.0
  tried_changes next (Refused x) h = (
    subst (λ (s : Sight). SawLast u (arc_value next).number s) (sym h.0) (subst (λ (n : ℕ). SawLast u n v) (sym (ap (λ (a : Versioned). a.number) h.1)) saw),
    subst (λ (a : Versioned). Refuses a.stored.design eco x) (sym h.1) h.2,
  )
  tried_changes next answer h = absurd h

  pub tried_holds : (next : Arc Versioned Global) (answer : Answer) → Tried who v base eco w (Done next answer) → Holds w (arc_value next)
  tried_holds next Accepted h = h.1
  tried_holds next (Refused x) h =
      subst (λ (s : Sight). Holds s (arc_value next)) (sym h.0) (subst (λ (a : Versioned). Holds v a) (sym h.1) holds)
  tried_holds next answer h = absurd h

  pub tried_moved : (tried : Attempt) (newest : Arc Versioned Global) → Tried who v base eco w tried → tried ≡ Moved newest → SawLast u (arc_value newest).number w × Holds w (arc_value newest)
  tried_moved tried newest h is =
      let k : Tried who v base eco w (Moved newest) = subst (Tried who v base eco w) is h in
      (saw_last_then u v w base.number (arc_value newest).number saw k.0, k.1)
