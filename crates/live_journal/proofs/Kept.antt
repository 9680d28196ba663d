-- A desk after a look and after a put.
use Rattle.std.proofs.Common.{◌≡◌, ℕ, ◌+◌, ◌-◌, ◌^◌, ◌<◌, ◌≤◌, Bool, true, false, List, ◌++◌, length, drop, refl, sym, ap, subst, ◌∙◌, ⊎_elim, arith}
use Rattle.std.specs.declared.option.Option.{Option}
use mathlib.Core.List.{IsPrefix}
use Rattle.timing_defs.specs.declared.constraints.Derates.{Derates}
use Rattle.sta_outside.specs.Shelf.{Rose}
use Rattle.sta_outside.specs.Sink.{Appends, AppendsPrefix}
use Rattle.version_board.specs.Callers.{Sitting, IsSame}
use Rattle.eco_journal.specs.Blocks.{blocks_text}
use Rattle.timing_defs.specs.declared.edits.Entry.{Entry}
use Rattle.live_journal.specs.Desk.{single, Setting, Keeping, IsDesk, HasText, HasFile, IsBlamed}
use Rattle.live_journal.specs.declared.cells.Known.{Known}
use Rattle.live_journal.specs.Receipts.{known, IsAtMost}
use Rattle.live_journal.proofs.Texts.{prefix_length, longer, put_whole, put_partly, file_longer}

module _ {E O : Type 0} (text : Derates → ℕ → List E → List ℕ) (joins : (d : Derates) (n : ℕ) (xs ys : List E) → text d n (xs ++ ys) ≡ text d n xs ++ text d (n + length xs) ys) (s : Setting O) where
  -- how many entries stand there
  count_few : (d : Keeping E O) → IsDesk text s d → d.kept - s.first ≤ length d.seat.view.seen
  count_few d h = let low = h.low in let few = h.few in omega (arith, low, few)

  -- what the seat saw and does not stand there
  not_there : (d : Keeping E O) → IsDesk text s d
      → text s.derates d.kept (drop (d.kept - s.first) d.seat.view.seen) ≡ text s.derates (s.first + (d.kept - s.first)) (drop (d.kept - s.first) d.seat.view.seen)
  not_there d h =
      let low = h.low in
      let same : d.kept ≡ s.first + (d.kept - s.first) = omega (arith, low) in
      ap (λ n. text s.derates n (drop (d.kept - s.first) d.seat.view.seen)) same

  sound_text : (d : Keeping E O) → IsDesk text s d → d.sound ≡ true
      → HasText (text s.derates) s.before d.file s.first d.seat.view.seen (d.kept - s.first) true
  sound_text d h sound = subst (HasText (text s.derates) s.before d.file s.first d.seat.view.seen (d.kept - s.first)) sound h.written

  -- the count stands where each put went well
  sound_blamed : (d : Keeping E O) → IsDesk text s d → d.sound ≡ true → d.faults ≡ s.faults
  sound_blamed d h sound = subst (λ sound'. IsBlamed sound' s.faults d.faults) sound h.blamed

  pub looked : (d : Keeping E O) (seat : Sitting E O) → IsDesk text s d → IsSame d.seat seat → seat.view.mine ≡ d.seat.view.mine
      → IsPrefix d.seat.view.seen seat.view.seen → IsDesk text s (record d { seat = seat })
  looked d seat h same mine p =
      let low = h.low in
      let few = h.few in
      let long = prefix_length d.seat.view.seen seat.view.seen p in
      record {
        sits = (same.0 ∙ h.sits.0, same.3 ∙ h.sits.1, same.2 ∙ h.sits.2, same.1 ∙ h.sits.3, mine ∙ h.sits.4);
        low = h.low;
        few = omega (arith, few, long);
        written = longer (text s.derates) (joins s.derates) s.before d.file s.first d.seat.view.seen seat.view.seen (d.kept - s.first) d.sound (count_few d h) p h.written;
        blamed = h.blamed;
      }

  pub put_well : (d : Keeping E O) (file : Option (List ℕ)) (faults upto : ℕ) → IsDesk text s d → d.sound ≡ true → upto ≡ s.first + length d.seat.view.seen
      → Appends d.file file (text s.derates d.kept (drop (d.kept - s.first) d.seat.view.seen)) → faults ≡ d.faults
      → IsDesk text s (record { seat = d.seat; kept = upto; sound = d.sound; file = file; faults = faults })
  put_well d file faults upto h sound all put quiet =
      let here : length d.seat.view.seen ≡ upto - s.first = omega (arith, all) in
      record {
        sits = h.sits;
        low = omega (arith, all);
        few = omega (arith, all);
        written = subst (λ n. HasText (text s.derates) s.before file s.first d.seat.view.seen n d.sound) here
            (subst (HasText (text s.derates) s.before file s.first d.seat.view.seen (length d.seat.view.seen)) (sym sound)
            (put_whole (text s.derates) (joins s.derates) s.before d.file file s.first (d.kept - s.first) d.seat.view.seen (count_few d h) (sound_text d h sound)
            (subst (Appends d.file file) (not_there d h) put)));
        blamed = subst (IsBlamed d.sound s.faults) (sym quiet) h.blamed;
      }

  pub put_ill : (d : Keeping E O) (file : Option (List ℕ)) (faults : ℕ) → IsDesk text s d → d.sound ≡ true
      → AppendsPrefix d.file file (text s.derates d.kept (drop (d.kept - s.first) d.seat.view.seen)) → Rose d.faults faults
      → IsDesk text s (record { seat = d.seat; kept = d.kept; sound = false; file = file; faults = faults })
  put_ill d file faults h sound put rose =
      record {
        sits = h.sits;
        low = h.low;
        few = h.few;
        written = put_partly (text s.derates) (joins s.derates) s.before d.file file s.first (d.kept - s.first) d.seat.view.seen (sound_text d h sound)
            (subst (AppendsPrefix d.file file) (not_there d h) put);
        blamed = subst (λ n. Rose n faults) (sound_blamed d h sound) rose;
      }

module _ {E O : Type 0} (text : Derates → ℕ → List E → List ℕ) (s : Setting O) where
  -- what was known before is known after a put of all that was seen
  pub knows_more : (d : Keeping E O) (k : Known) (upto : ℕ) → IsDesk text s d → upto ≡ s.first + length d.seat.view.seen
      → IsAtMost k (known d.kept d.sound) → IsAtMost k (known upto d.sound)
  knows_more d k upto h all low = let few = h.few in let most = low.0 in (omega (arith, few, most, all), low.1)

-- what the file has of the board's list, once the board was closed
pub file_closed : {O : Type 0} (s : Setting O) (d : Keeping Entry O) (all : List Entry) → IsDesk (λ derates from es. blocks_text derates from (single es)) s d
    → IsPrefix d.seat.view.seen all → HasFile s.before d.file s.derates s.first all (d.kept - s.first) d.sound × (d.kept - s.first ≤ length all)
file_closed s d all h p =
    let low = h.low in
    let few = h.few in
    let there : d.kept - s.first ≤ length d.seat.view.seen = omega (arith, low, few) in
    let long = prefix_length d.seat.view.seen all p in
    (file_longer s.before d.file s.derates s.first d.seat.view.seen all (d.kept - s.first) d.sound there p h.written, omega (arith, there, long))

-- a desk over a file whose count of faults is as it was at first is sound, unless the count is at its greatest value; so is one over
-- no file, whose count is 0
pub unblamed : (sound : Bool) (n : ℕ) → n < 2 ^ 64 - 1 → IsBlamed sound n n → sound ≡ true
unblamed true n low h = refl
unblamed false n low h =
    ⊎_elim (λ (less : n < n). absurd (omega (arith, less))) (λ (most : n ≡ 2 ^ 64 - 1). absurd (omega (arith, low, most))) h

pub unblamed_nowhere : (sound : Bool) → IsBlamed sound 0 0 → sound ≡ true
unblamed_nowhere sound h = unblamed sound 0 (omega arith) h
