-- What the words of a live run ask for.
use Rattle.std.specs.Prelude.{ℕ, List, Option, map, option_map, length, ◌≤◌}
use Rattle.live_words.specs.declared.asked.LiveWords.{LiveWords}
use Rattle.live_words.specs.declared.asked.Pair.{Pair}

-- the names of the documents, of a journal if any, and of an input and an output for each of up to 16 sessions, and how many
-- workers the run has
pub record LiveAsked : Type 0 where
  pub early : List ℕ
  pub late : List ℕ
  pub netlist : List ℕ
  pub sdc : List ℕ
  pub spef : List ℕ
  pub journal : Option (List ℕ)
  pub workers : ℕ
  pub pairs : List (List ℕ × List ℕ)

abbrev pub pair_words : Pair → List ℕ × List ℕ
pair_words p = (p.input.now, p.output.now)

abbrev pub asked_words : LiveWords → LiveAsked
asked_words words =
    record {
      early = words.early.now;
      late = words.late.now;
      netlist = words.netlist.now;
      sdc = words.sdc.now;
      spef = words.spef.now;
      journal = option_map (λ s. s.now) words.journal;
      workers = words.workers;
      pairs = map pair_words words.pairs.items;
    }

-- the ranges of its numbers
pub record IsInRange (words : LiveWords) : Type 0 where
  pub least : 1 ≤ words.workers
  pub most : words.workers ≤ 32
  pub few : length words.pairs.items ≤ 16
