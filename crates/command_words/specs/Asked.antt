-- What the words of a command line ask for.
use Rattle.std.specs.Prelude.{ℕ, List, Option, map, option_map, length, ◌≡◌, ◌≤◌, ◌%◌}
use Rattle.command_words.specs.declared.asked.Run.{Run}
use Rattle.command_words.specs.declared.asked.Generate.{Generate}
use Rattle.command_words.specs.declared.asked.Asked.{Asked}
use Rattle.command_words.specs.declared.asked.Asked.TheVariants.{Run as run_asked, Generate as generate_asked}

-- a run: the names of its documents, of a saved journal if any, and of 1 to 16 scripts, and how many workers it has
pub record RunWords : Type 0 where
  pub early : List ℕ
  pub late : List ℕ
  pub netlist : List ℕ
  pub sdc : List ℕ
  pub spef : List ℕ
  pub journal : Option (List ℕ)
  pub workers : ℕ
  pub scripts : List (List ℕ)

-- a generated run: the number that the draws start from, and how many gates and edits there are
pub record GenerateWords : Type 0 where
  pub number : ℕ
  pub gates : ℕ
  pub edits : ℕ

pub data Words : Type 0 where
  run : RunWords → Words
  generate : GenerateWords → Words

abbrev pub run_words : Run → RunWords
run_words r =
    record {
      early = r.early.now;
      late = r.late.now;
      netlist = r.netlist.now;
      sdc = r.sdc.now;
      spef = r.spef.now;
      journal = option_map (λ s. s.now) r.journal;
      workers = r.workers;
      scripts = map (λ s. s.now) r.scripts.items;
    }

abbrev pub generate_words : Generate → GenerateWords
generate_words g = record { number = g.number; gates = g.gates; edits = g.edits }

abbrev pub words_of_asked : Asked → Words
words_of_asked (run_asked r) = run (run_words r)
words_of_asked (generate_asked g) = generate (generate_words g)

-- the ranges of a command's numbers, and how many scripts it has
abbrev pub IsInRange : Asked → Type 0
IsInRange (run_asked r) = (1 ≤ r.workers) × (r.workers ≤ 32) × (1 ≤ length r.scripts.items) × (length r.scripts.items ≤ 16)
IsInRange (generate_asked g) = (4 ≤ g.gates) × (g.gates ≤ 40000) × (g.gates % 4 ≡ 0) × (g.edits ≤ 4000) × (g.edits % 4 ≡ 0)
