-- What one event more makes of a script.
use Rattle.std.proofs.Common.{◌≡◌, ◌<◌, ◌≤◌, ℕ, ◌+◌, Bool, true, false, List, [], ◌∷◌, ◌++◌, length, refl, ap, arith, append_assoc, append-nil, length-append, inl, inr}
use Rattle.std.specs.Prelude.{Option, Some, None, nat_le}
use Rattle.std.proofs.lemmas.Bool.{cases_Bool, le-leb, lt-leb}
use Rattle.timing_defs.specs.declared.scripts.Command.{Command}
use Rattle.sta_text.specs.declared.faults.Wrong.{Wrong}
use Rattle.sta_text.specs.Faults.{is_before, lesser, least_from}
use Rattle.script_reader.specs.Scripts.{Event, Place, outside, commands, faults, too_long, behind, excess, told}

-- where a fault stands, the commands are not looked at
pub some_fault : (fault : Option Wrong) (wrong : Wrong) (xs ys : List Command) → told (lesser fault wrong) xs ≡ told (lesser fault wrong) ys
some_fault None wrong xs ys = refl
some_fault (Some other) wrong xs ys = elim (cases_Bool (is_before wrong other)) [
  | inl hit ↦ rw hit refl
  | inr miss ↦ rw miss refl
]

-- one fault and those behind it
pub one_more : (fault : Option Wrong) (x : Wrong) (xs : List Wrong) → least_from fault (x ∷ xs) ≡ least_from (lesser fault x) xs
unfolding least_from
one_more fault x xs = refl

pub none_more : (fault : Option Wrong) → least_from fault [] ≡ fault
unfolding least_from
none_more fault = refl

-- one command more
pub pushed : (fault : Option Wrong) (before : List Command) (c : Command) (rest : List Event)
    → told (least_from fault (faults (length (before ++ c ∷ [])) outside rest)) ((before ++ c ∷ []) ++ commands outside rest)
    ≡ told (least_from fault (faults (length before + 1) outside rest)) (before ++ c ∷ commands outside rest)
pushed fault before c rest = rw (length-append before (c ∷ []), append_assoc before (c ∷ []) (commands outside rest)) refl

-- a fault where so many stand before
pub excess_more : (fault : Option Wrong) (limit before line : ℕ) (rest : List Wrong) → limit ≤ before
    → least_from fault (behind limit before line ++ rest) ≡ least_from (lesser fault (excess line)) rest
excess_more fault limit before line rest over =
    let many : nat_le limit before ≡ true = le-leb limit before over in
    rw many (one_more fault (excess line) rest)

-- a line that is too long
pub long_more : (fault : Option Wrong) (before : List Command) (place : Place) (n : ℕ) (line : List ℕ) (rest : List Event) → 65536 < length line
    → told (least_from fault (faults (length before) place (too_long n line ++ rest))) (before ++ commands place (too_long n line ++ rest))
    ≡ told (least_from (lesser fault (excess n)) (faults (length before) place rest)) (before ++ commands place rest)
unfolding faults commands
long_more fault before place n line rest over =
    let many : nat_le (length line) 65536 ≡ false = lt-leb (length line) 65536 over in
    rw many (ap (λ (told_now : Option Wrong). told told_now (before ++ commands place rest)) (one_more fault (excess n) (faults (length before) place rest)))

pub ruleset stopping = (some_fault, one_more, none_more)

pub ruleset ending = (one_more, none_more, append-nil)
