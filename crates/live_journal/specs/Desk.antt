-- A desk keeps the entries of a board in a file: the file is what it was, and then the entries' texts in the board's order.

use Rattle.std.specs.Prelude.{ℕ, ◌≡◌, ◌+◌, ◌-◌, ◌<◌, ◌≤◌, ◌⊎◌, Bool, true, false, List, [], ◌∷◌, ◌++◌, length, take, drop, Result, Ok, Err}
use Rattle.std.specs.declared.option.Option.{Option}
use Rattle.std.specs.declared.option.Option.TheVariants.{None, Some}
use Rattle.atomic_table.specs.Seated.{TableId}
use Rattle.timing_defs.specs.declared.constraints.Derates.{Derates}
use Rattle.timing_defs.specs.declared.edits.Entry.{Entry}
use Rattle.timing_defs.specs.Documents.{no_derates}
use Rattle.timing_defs.specs.Saved.{block_text}
use Rattle.sta_outside.specs.Shelf.{Rose}
use Rattle.sta_outside.specs.Sink.{Appends, AppendsPrefix}
use Rattle.version_board.specs.Callers.{Sitting, Standing}
use Rattle.version_board.specs.History.{Meaning}
use Rattle.eco_journal.specs.Blocks.{blocks_text}
use Rattle.live_journal.specs.declared.desks.Unkept.{Unkept}
use Rattle.live_journal.specs.declared.desks.Unkept.TheVariants.{Failed, Memory}

-- blocks of one entry each
abbrev pub single : List Entry → List (List Entry)
single [] = []
single (e ∷ es) = (e ∷ []) ∷ single es

-- the text of blocks of one entry each, numbered behind `first` others
abbrev pub entry_blocks : Derates → ℕ → List Entry → List ℕ
entry_blocks derates first entries = blocks_text derates first (single entries)

-- a text grows by the block of one entry, numbered behind `first` others
abbrev pub AddsBlock : ℕ → Derates → Entry → List ℕ → List ℕ → Type 0
AddsBlock first derates entry old new = new ≡ old ++ block_text first derates (entry ∷ [])

module _ {E : Type 0} where
  -- the text of a list is that of its beginning, and then that of the rest, numbered behind it
  abbrev pub JoinsLists : (Derates → ℕ → List E → List ℕ) → Type 0
  JoinsLists text = (d : Derates) (n : ℕ) (xs ys : List E) → text d n (xs ++ ys) ≡ text d n xs ++ text d (n + length xs) ys

  -- the file is what it was, then the text of the first n entries, and where a put failed a prefix of the text of the next ones.
  -- `text from es` is the text of entries that stand behind the number `from`
  abbrev pub HasText : (ℕ → List E → List ℕ) → Option (List ℕ) → Option (List ℕ) → ℕ → List E → ℕ → Bool → Type 0
  HasText text old new first J n true = Appends old new (text first (take n J))
  HasText text old new first J n false = (k : ℕ) × Appends old new (text first (take n J) ++ take k (text (first + n) (drop n J)))

  -- a file that has the first n entries of a list is given the others; not where a put failed before
  abbrev pub PutsRest : (ℕ → List E → List ℕ) → ℕ → List E → ℕ → Bool → Option (List ℕ) → Option (List ℕ) → Result Unit Unkept → Type 0
  PutsRest text first all n sound old new (Ok done) = (sound ≡ true) × Appends old new (text (first + n) (drop n all))
  PutsRest text first all n sound old new (Err Failed) =
      ((sound ≡ false) × (new ≡ old)) ⊎ ((sound ≡ true) × AppendsPrefix old new (text (first + n) (drop n all)))
  PutsRest text first all n sound old new (Err Memory) = (sound ≡ true) × (new ≡ old) × (n < length all)

-- a file's count of faults when it is given the rest: it rises where a put fails now, and stands else
abbrev pub RestBlamed : Bool → ℕ → ℕ → Result Unit Unkept → Type 0
RestBlamed sound old new (Ok done) = (sound ≡ true) × (new ≡ old)
RestBlamed sound old new (Err Failed) = ((sound ≡ false) × (new ≡ old)) ⊎ ((sound ≡ true) × Rose old new)
RestBlamed sound old new (Err Memory) = (sound ≡ true) × (new ≡ old)

-- each put went well and the file's count of faults stands; or one failed, and it rose
abbrev pub IsBlamed : Bool → ℕ → ℕ → Type 0
IsBlamed true old new = new ≡ old
IsBlamed false old new = Rose old new

-- the journal file is what it was, then the blocks of the first n entries of J, a block each, numbered behind `first` others,
-- and where a put failed a prefix of the next blocks
abbrev pub HasFile : Option (List ℕ) → Option (List ℕ) → Derates → ℕ → List Entry → ℕ → Bool → Type 0
HasFile old new derates first J n sound = HasText (λ from es. blocks_text derates from (single es)) old new first J n sound

-- the name of no table
abbrev no_table : TableId
no_table = record { words = 0; slots = 0; views_name = 0; atom = 0; block = 0; offset = 0; slot_names = [] }

-- what a desk is tied to: the board, its first number and its origin, the number of the desk's seat, the file as it was at
-- first, its count of faults then, the factors of the blocks, and the cell of its receipts
pub record Setting (O : Type 0) : Type 0 where
  pub table : TableId
  pub first : ℕ
  pub origin : Option O
  pub number : ℕ
  pub before : Option (List ℕ)
  pub faults : ℕ
  pub derates : Derates
  pub cell : TableId

-- the setting of no desk
abbrev pub nowhere : {O : Type 0} → Setting O
nowhere = record {
  table = no_table;
  first = 0;
  origin = None;
  number = 0;
  before = None;
  faults = 0;
  derates = no_derates;
  cell = no_table;
}

-- what contracts see of a desk: its seat, the number up to which all entries stand in the file, whether each put went well,
-- the file, and how often it failed
pub record Keeping (E O : Type 0) : Type 0 where
  pub seat : Sitting E O
  pub kept : ℕ
  pub sound : Bool
  pub file : Option (List ℕ)
  pub faults : ℕ

abbrev pub keeping : {E O : Type 0} → Sitting E O → ℕ → Bool → Option (List ℕ) → ℕ → Keeping E O
keeping seat kept sound file faults = record { seat = seat; kept = kept; sound = sound; file = file; faults = faults }

module _ {T E O : Type 0} where
  -- the board that a desk is tied to
  abbrev pub IsBoardOf : Meaning T E O → Setting O → Standing T → Type 0
  IsBoardOf m s b = (b.id ≡ s.table) × (m.from b.opening ≡ s.first) × (Some (m.origin b.opening) ≡ s.origin)

module _ {E O : Type 0} where
  -- a seat that a desk is tied to: it added nothing
  abbrev pub IsSeatAt : Setting O → Sitting E O → Type 0
  IsSeatAt s seat =
      (seat.board ≡ s.table) × (seat.view.first ≡ s.first) × (seat.view.origin ≡ s.origin) × (seat.view.number ≡ s.number) × (seat.view.mine ≡ [])

  -- a desk at any moment: the entries up to its number are the first ones that its seat saw, and a put that failed has its cause in
  -- the file's count of faults
  pub record IsDesk (text : Derates → ℕ → List E → List ℕ) (s : Setting O) (d : Keeping E O) : Type 0 where
    pub sits : IsSeatAt s d.seat
    pub low : s.first ≤ d.kept
    pub few : d.kept ≤ s.first + length d.seat.view.seen
    pub written : HasText (text s.derates) s.before d.file s.first d.seat.view.seen (d.kept - s.first) d.sound
    pub blamed : IsBlamed d.sound s.faults d.faults

  -- the text of all that a desk's seat saw and that does not stand in the file
  abbrev pub lacking_text : (Derates → ℕ → List E → List ℕ) → Setting O → Keeping E O → List ℕ
  lacking_text text s d = text s.derates d.kept (drop (d.kept - s.first) d.seat.view.seen)

  -- a desk saw to it that all entries up to a number stand in the file: they did, or it looked at the board and one put wrote
  -- all that its seat saw then; or a put failed, now or before, and it never writes again
  abbrev pub Keeps : ℕ → ℕ → Keeping E O → Keeping E O → Result Unit Unkept → Type 0
  Keeps first number d k (Ok done) =
      (number ≤ k.kept)
      × ((k ≡ d) ⊎ ((d.kept < number) × (d.sound ≡ true) × (k.sound ≡ true) × (k.kept ≡ first + length k.seat.view.seen) × (k.faults ≡ d.faults)))
  Keeps first number d k (Err Failed) =
      (d.kept < number) × (k.kept ≡ d.kept) × (k.sound ≡ false) × ((k ≡ d) ⊎ ((d.sound ≡ true) × Rose d.faults k.faults))
  Keeps first number d k (Err Memory) =
      (d.kept < number) × (d.sound ≡ true) × (k.kept ≡ d.kept) × (k.sound ≡ true) × (k.file ≡ d.file) × (k.faults ≡ d.faults)

  -- a put of all that the seat saw went well, or failed
  abbrev pub Puts : ℕ → Keeping E O → Keeping E O → Result Unit Unkept → Type 0
  Puts first d k (Ok done) = (k.kept ≡ first + length d.seat.view.seen) × (k.sound ≡ true) × (k.faults ≡ d.faults)
  Puts first d k (Err Failed) = (k.kept ≡ d.kept) × (k.sound ≡ false) × Rose d.faults k.faults
  Puts first d k (Err Memory) = ⊥
