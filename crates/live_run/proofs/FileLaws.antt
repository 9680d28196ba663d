-- The file of a journal at the end of a run.
use Rattle.std.proofs.Common.{◌≡◌, ℕ, ◌+◌, ◌-◌, ◌<◌, ◌≤◌, ◌++◌, List, length, take, drop, Bool, true, false, not, Option, Some, None, Result, Ok, Err, refl, sym, ap, ◌∙◌, subst, inl, inr, arith, true≢false}
use Rattle.timing_defs.specs.declared.constraints.Derates.{Derates}
use Rattle.timing_defs.specs.declared.edits.Entry.{Entry}
use Rattle.sta_outside.specs.Shelf.{Rose}
use Rattle.sta_outside.specs.Sink.{Appends, AppendsPrefix}
use Rattle.eco_journal.specs.Blocks.{blocks_text}
use Rattle.live_journal.specs.declared.desks.Unkept.{Unkept}
use Rattle.live_journal.specs.declared.desks.Unkept.TheVariants.{Failed, Memory}
use Rattle.live_journal.specs.declared.sinks.JournalSink.{JournalSink}
use Rattle.live_journal.specs.declared.sinks.JournalSink.TheVariants.{File, Nowhere}
use Rattle.live_journal.specs.Desk.{single, HasFile, IsBlamed}
use Rattle.live_journal.specs.Sinks.{written_of, faults_of}
use Rattle.live_journal.proofs.Texts.{file_rest, file_torn}
use Rattle.live_run.specs.Closing.{Settles}
use Rattle.live_run.specs.Runs.{AtFile, at_file, IsKeptAll, file_of}

-- what is known of the file at the end, where so much was kept before
pub record Filed (before after : AtFile) (d : Derates) (first : ℕ) (J : List Entry) (kept : ℕ) (was : Bool) (result : Result Unit Unkept) : Type 0 where
  pub count : ℕ
  pub sound : Bool
  pub high : kept ≤ first + count
  pub broken : not was ≡ true → sound ≡ false
  pub file : HasFile before.text after.text d first J count sound
  pub blamed : IsBlamed sound before.faults after.faults
  pub all : IsKeptAll J count sound result

unbroken : (was : Bool) (P : Type 0) → was ≡ true → not was ≡ true → P
unbroken was P well ill = absurd (true≢false (sym ill ∙ ap not well))

no_file : (before : Option (List ℕ)) (xs ys : List ℕ) → Appends before None xs → Appends before None ys
no_file None xs ys h = tt
no_file (Some old) xs ys h = absurd h

module _ (before file : Option (List ℕ)) (f g : ℕ) (d : Derates) (first : ℕ) (J : List Entry) (kept : ℕ) (was : Bool)
    (low : first ≤ kept) (few : kept - first ≤ length J) (has : HasFile before file d first J (kept - first) was) (blamed : IsBlamed was f g) where
  abbrev End : Option (List ℕ) → ℕ → Result Unit Unkept → Type 0
  End after h = Filed (at_file before f) (at_file after h) d first J kept was

  well : was ≡ true → HasFile before file d first J (kept - first) true
  well is = subst (HasFile before file d first J (kept - first)) is has

  ill : was ≡ false → HasFile before file d first J (kept - first) false
  ill is = subst (HasFile before file d first J (kept - first)) is has

  -- the count of faults stands, or it rose
  calm : was ≡ true → (h : ℕ) → h ≡ g → h ≡ f
  calm is h same = same ∙ subst (λ w. IsBlamed w f g) is blamed

  rose : was ≡ false → (h : ℕ) → h ≡ g → Rose f h
  rose is h same = subst (Rose f) (sym same) (subst (λ w. IsBlamed w f g) is blamed)

  rises : was ≡ true → (h : ℕ) → Rose g h → Rose f h
  rises is h up = subst (λ k. Rose k h) (subst (λ w. IsBlamed w f g) is blamed) up

  within : kept ≤ first + (kept - first)
  within = omega (arith, low)

  -- all entries stand there
  whole : (after : Option (List ℕ)) (h : ℕ) (done : Unit) → was ≡ true → HasFile before after d first J (length J) true → h ≡ f → End after h (Ok done)
  whole after h done is there same = record {
    count = length J;
    sound = true;
    high = omega (arith, low, few);
    broken = unbroken was (true ≡ false) is;
    file = there;
    blamed = same;
    all = (refl, refl);
  }

  -- a put failed
  torn : (after : Option (List ℕ)) (h : ℕ) → HasFile before after d first J (kept - first) false → Rose f h → End after h (Err Failed)
  torn after h there up =
      record { count = kept - first; sound = false; high = within; broken = λ i. refl; file = there; blamed = up; all = refl }

  -- memory was wanting
  short : (after : Option (List ℕ)) (h : ℕ) → was ≡ true → HasFile before after d first J (kept - first) true → h ≡ f → kept - first < length J
      → End after h (Err Memory)
  short after h is there same less = record {
    count = kept - first;
    sound = true;
    high = within;
    broken = unbroken was (true ≡ false) is;
    file = there;
    blamed = same;
    all = (refl, less);
  }

  module _ {F : Type 0} (written : F → Option (List ℕ)) (faults : F → ℕ) where
    -- the file is given what it lacks, or there is none
    pub filed : (sink : JournalSink F) (journal : Option F) (result : Result Unit Unkept) → written_of written sink ≡ file → faults_of faults sink ≡ g
        → Settles written faults d first J kept was sink journal result
        → Filed (at_file before f) (file_of written faults journal) d first J kept was result
    filed Nowhere None (Ok done) is count h =
        let there : HasFile before None d first J (kept - first) true = subst (λ t. HasFile before t d first J (kept - first) true) (sym is) (well h) in
        whole None 0 done h
        (no_file before (blocks_text d first (single (take (kept - first) J))) (blocks_text d first (single (take (length J) J))) there) (calm h 0 count)
    filed Nowhere None (Err Failed) is count h =
        torn None 0 (subst (λ t. HasFile before t d first J (kept - first) false) (sym is) (ill h)) (rose h 0 count)
    filed Nowhere None (Err Memory) is count h = absurd h
    filed Nowhere (Some new) result is count h = absurd h
    filed (File old) None result is count h = absurd h
    filed (File old) (Some new) (Ok done) is count ((sound, put), (_, same)) =
        whole (written new) (faults new) done sound
        (file_rest before file (written new) d first J (kept - first) few (well sound)
        (subst (λ t. Appends t (written new) (blocks_text d (first + (kept - first)) (single (drop (kept - first) J)))) is put))
        (calm sound (faults new) (same ∙ count))
    filed (File old) (Some new) (Err Failed) is count (inl (sound, same), inl (_, still)) =
        torn (written new) (faults new) (subst (λ t. HasFile before t d first J (kept - first) false) (sym (same ∙ is)) (ill sound))
        (rose sound (faults new) (still ∙ count))
    filed (File old) (Some new) (Err Failed) is count (inr (sound, put), inr (_, up)) =
        torn (written new) (faults new)
        (file_torn before file (written new) d first J (kept - first) (well sound)
        (subst (λ t. AppendsPrefix t (written new) (blocks_text d (first + (kept - first)) (single (drop (kept - first) J)))) is put))
        (rises sound (faults new) (subst (λ k. Rose k (faults new)) count up))
    filed (File old) (Some new) (Err Failed) is count (inl (ill, same), inr (well, up)) = absurd (true≢false (sym well ∙ ill))
    filed (File old) (Some new) (Err Failed) is count (inr (well, put), inl (ill, still)) = absurd (true≢false (sym well ∙ ill))
    filed (File old) (Some new) (Err Memory) is count ((sound, same, less), (_, still)) =
        short (written new) (faults new) sound (subst (λ t. HasFile before t d first J (kept - first) true) (sym (same ∙ is)) (well sound))
        (calm sound (faults new) (still ∙ count)) less
