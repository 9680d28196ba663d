-- The generated scripts are read back as their commands.
use Rattle.std.proofs.Common.{◌≡◌, ℕ, zero, suc, ◌+◌, ◌*◌, ◌/◌, ◌%◌, ◌^◌, ◌<◌, ◌≤◌, true, false, List, [], ◌∷◌, ◌++◌, length, map, refl, ap, ◌∙◌, arith, length-append, append-nil}
use Rattle.std.specs.Prelude.{Ok, None, codes, decimal, ◌==◌}
use Rattle.std.specs.List.{list_all}
use Rattle.std.proofs.lemmas.Nat.{mod_below}
use Rattle.std.proofs.lemmas.Bool.{and_from, cond_both, le-leb, lt-leb}
use Rattle.std.proofs.lemmas.List.Folds.{list_all-append}
use Rattle.std.proofs.lemmas.Fmt.{length-decimal-le}
use Rattle.timing_defs.specs.Names.{is_graphic, is_name}
use Rattle.timing_defs.specs.Output.{line}
use Rattle.timing_defs.specs.declared.kinds.Kind.TheVariants.{Setup}
use Rattle.timing_defs.specs.declared.texts.Sort.TheVariants.{Word}
use Rattle.timing_defs.specs.declared.texts.Style.TheVariants.{Script as script_style}
use Rattle.timing_defs.specs.declared.edits.Edit.TheVariants.{Repower}
use Rattle.timing_defs.specs.declared.reports.Query.TheVariants.{Wns}
use Rattle.timing_defs.specs.declared.scripts.Command.TheVariants.{Ask}
use Rattle.sta_text.specs.declared.pieces.Context.TheVariants.{Fresh, Within}
use Rattle.sta_text.specs.Pieces.{script_piece}
use Rattle.sta_text.specs.Tokens.{tok, tokens}
use Rattle.sta_text.specs.Faults.{least_from}
use Rattle.eco_journal.specs.Lines.{cut_lines, placed}
use Rattle.eco_journal.specs.EditLines.{edit_of}
use Rattle.eco_journal.proofs.Joined.{is_printed, line_cut}
use Rattle.script_reader.specs.Words.{kind_of}
use Rattle.script_reader.specs.Commands.{command_of}
use Rattle.script_reader.specs.Scripts.{Event, is_ascii, change, single, events, line_said, too_long, outside, commands, faults, script_of}
use Rattle.design_maker.specs.Draws.{drawn, drawn_on, chosen}
use Rattle.design_maker.specs.Insts.{gate_name}
use Rattle.design_maker.specs.Sessions.{drawn_cell, resize, commands_from, scripts_from}
use Rattle.design_maker.specs.Written.{commands_text}
use Rattle.design_laws.specs.Scripts.{read_of, made_of}
use Rattle.design_laws.proofs.VerilogWords.{prefix_all, skip_word, take_word}
use Rattle.design_laws.proofs.GeneratedWords.{decimal_pass}

graphic_printed : (bs : List ℕ) → list_all is_graphic bs ≡ true → list_all is_printed bs ≡ true
graphic_printed [] h = refl
graphic_printed (b ∷ bs) h = grind (arith, graphic_printed bs)

-- the bytes of a gate's name behind its letter
tail_graphic : (lane n : ℕ) → lane < 2 ^ 64 → n < 2 ^ 64 → list_all is_graphic (decimal lane ++ (95 ∷ decimal n)) ≡ true
tail_graphic lane n a b =
    rw (list_all-append is_graphic (decimal lane) (95 ∷ decimal n))
    (and_from (list_all is_graphic (decimal lane)) (list_all is_graphic (95 ∷ decimal n)) (decimal_pass lane a).1 (decimal_pass n b).1)

-- a line of three words of which the second begins with g
three_words : (cs cell : List ℕ) → list_all is_graphic cs ≡ true
    → tokens script_style 0 Fresh 0 (codes "repower_gate " ++ (103 ∷ (cs ++ (32 ∷ cell))))
    ≡ tok (codes "repower_gate") 0 Word ∷ tok (103 ∷ cs) 13 Word ∷ tokens script_style 0 Within (13 + 1 + length cs + 1) cell
unfolding tokens script_piece
three_words cs cell h =
    let one : length cs + 1 ≡ suc (length cs) = omega arith in
    rw (prefix_all is_graphic cs 32 cell h refl, one, take_word cs (32 ∷ cell))
    (ap (λ ts. tok (codes "repower_gate") 0 Word ∷ tok (103 ∷ cs) 13 Word ∷ ts) (skip_word script_style cs (32 ∷ cell) (13 + 1)))

no_zero : (n : ℕ) → (suc n == 0) ≡ false
no_zero n = grind arith

graphic_ascii : (bs : List ℕ) → list_all is_graphic bs ≡ true → list_all is_ascii bs ≡ true
graphic_ascii [] h = refl
graphic_ascii (b ∷ bs) h = grind (arith, graphic_ascii bs)

-- the line of an edit, by the gate's name behind its letter and the cell
abbrev repower_line : List ℕ → List ℕ → List ℕ
repower_line cs cell = codes "repower_gate " ++ (103 ∷ (cs ++ (32 ∷ cell)))

ascii_line : (cs cell : List ℕ) → list_all is_graphic cs ≡ true → list_all is_ascii cell ≡ true → list_all is_ascii (repower_line cs cell) ≡ true
ascii_line cs cell h plain =
    rw (list_all-append is_ascii cs (32 ∷ cell)) (and_from (list_all is_ascii cs) (list_all is_ascii (32 ∷ cell)) (graphic_ascii cs h) plain)

-- what it says
repower_by : (n : ℕ) (cs cell : List ℕ) → list_all is_graphic cs ≡ true
    → ((at : ℕ) → tokens script_style 0 Within at cell ≡ tok cell at Word ∷ [])
    → list_all is_ascii cell ≡ true → is_name cell ≡ true → kind_of cell ≡ None
    → line_said n (repower_line cs cell) ≡ change n (Repower (103 ∷ cs) cell) ∷ []
unfolding command_of edit_of
repower_by n cs cell h last plain name kind =
    rw (ascii_line cs cell h plain, three_words cs cell h, last (13 + 1 + length cs + 1), no_zero (length cs), h, kind, no_zero (length cs), h, name) refl

repower_said : (n : ℕ) (cs : List ℕ) (x : ℕ) → list_all is_graphic cs ≡ true → line_said n (repower_line cs (drawn_cell x)) ≡ change n (Repower (103 ∷ cs) (drawn_cell x)) ∷ []
unfolding drawn_cell tokens script_piece
repower_said n cs x h =
    cond_both (x / 2 ^ 16 % 2 == 1) (codes "AND2_X2") (codes "AND2_X1") (λ cell. line_said n (repower_line cs cell) ≡ change n (Repower (103 ∷ cs) cell) ∷ [])
    (λ _. repower_by n cs (codes "AND2_X2") h (λ at. refl) refl refl refl) (λ _. repower_by n cs (codes "AND2_X1") h (λ at. refl) refl refl refl)

abbrev question : List ℕ
question = codes "report_wns setup"

question_said : (n : ℕ) → line_said n question ≡ single n (Ask (Wns Setup)) ∷ []
unfolding command_of tokens script_piece
question_said n = refl

cell_graphic : (x : ℕ) → list_all is_graphic (drawn_cell x) ≡ true
unfolding drawn_cell
cell_graphic x = cond_both (x / 2 ^ 16 % 2 == 1) (codes "AND2_X2") (codes "AND2_X1") (λ cell. list_all is_graphic cell ≡ true) (λ _. refl) (λ _. refl)

cell_short : (x : ℕ) → length (drawn_cell x) ≤ 7
unfolding drawn_cell
cell_short x = cond_both (x / 2 ^ 16 % 2 == 1) (codes "AND2_X2") (codes "AND2_X1") (λ cell. length cell ≤ 7) (λ _. omega arith) (λ _. omega arith)

printed_line : (cs : List ℕ) (x : ℕ) → list_all is_graphic cs ≡ true → list_all is_printed (repower_line cs (drawn_cell x)) ≡ true
printed_line cs x h =
    rw (list_all-append is_printed cs (32 ∷ drawn_cell x))
    (and_from (list_all is_printed cs) (list_all is_printed (32 ∷ drawn_cell x)) (graphic_printed cs h) (graphic_printed (drawn_cell x) (cell_graphic x)))

short : (n : ℕ) (text : List ℕ) → length text ≤ 65536 → too_long n text ≡ []
short n text few = rw (le-leb (length text) 65536 few) refl

-- what the lines of a script say, the first of which has the number n
abbrev said : ℕ → ℕ → ℕ → ℕ → ℕ → List Event
said n lane gates zero x = []
said n lane gates (suc k) x =
    change n (Repower (gate_name lane (1 + chosen (drawn x) gates)) (drawn_cell (drawn x))) ∷ single (n + 1) (Ask (Wns Setup))
    ∷ said (n + 1 + 1) lane gates k (drawn x)

-- the two lines of an edit and its question
text_more : (lane gates k x : ℕ) → commands_text (commands_from lane gates (suc k) x)
    ≡ line (repower_line (decimal lane ++ (95 ∷ decimal (1 + chosen (drawn x) gates))) (drawn_cell (drawn x))) ++ (line question ++ commands_text (commands_from lane gates k (drawn x)))
unfolding commands_from commands_text
text_more lane gates k x =
    ap (λ t. t ++ (line question ++ commands_text (commands_from lane gates k (drawn x))))
    (append-nil (line (repower_line (decimal lane ++ (95 ∷ decimal (1 + chosen (drawn x) gates))) (drawn_cell (drawn x)))))

lines_more : (cs : List ℕ) (x : ℕ) (more : List ℕ) → list_all is_graphic cs ≡ true
    → cut_lines (line (repower_line cs (drawn_cell x)) ++ (line question ++ more)) ≡ repower_line cs (drawn_cell x) ∷ question ∷ cut_lines more
lines_more cs x more h =
    line_cut (repower_line cs (drawn_cell x)) (line question ++ more) (printed_line cs x h)
    ∙ ap (λ ls. repower_line cs (drawn_cell x) ∷ ls) (line_cut question more refl)

events_more : (n at : ℕ) (cs : List ℕ) (x : ℕ) (ls : List (List ℕ)) → list_all is_graphic cs ≡ true → length cs ≤ 60
    → events n (placed at (repower_line cs (drawn_cell x) ∷ question ∷ ls))
    ≡ change n (Repower (103 ∷ cs) (drawn_cell x)) ∷ single (n + 1) (Ask (Wns Setup))
    ∷ events (n + 1 + 1) (placed (at + length (repower_line cs (drawn_cell x)) + 1 + length question + 1) ls)
unfolding placed events
events_more n at cs x ls h few =
    let size : length (repower_line cs (drawn_cell x)) ≤ 65536 = omega (arith, length-append cs (32 ∷ drawn_cell x), few, cell_short x) in
    rw (short n (repower_line cs (drawn_cell x)) size, repower_said n cs x h, question_said (n + 1)) refl

events_are : (n lane gates k x at : ℕ) → lane < 4 → 0 < gates → gates < 2 ^ 32 → events n (placed at (cut_lines (commands_text (commands_from lane gates k x)))) ≡ said n lane gates k x
unfolding commands_from commands_text cut_lines placed events
events_are n lane gates zero x at low some few = refl
events_are n lane gates (suc k) x at low some few =
    let number : ℕ = 1 + chosen (drawn x) gates in
    let below : chosen (drawn x) gates < gates = mod_below (drawn x / 2 ^ 33) gates some in
    let cs : List ℕ = decimal lane ++ (95 ∷ decimal number) in
    let h : list_all is_graphic cs ≡ true = tail_graphic lane number (omega (arith, low)) (omega (arith, below, few)) in
    let cell : List ℕ = drawn_cell (drawn x) in
    let this : List ℕ = repower_line cs cell in
    let more : List ℕ = commands_text (commands_from lane gates k (drawn x)) in
    let l1 : length (decimal lane) ≤ 20 = length-decimal-le 20 lane (omega arith) (omega (arith, low)) (omega (arith, low)) in
    let l2 : length (decimal number) ≤ 20 = length-decimal-le 20 number (omega arith) (omega (arith, below, few)) (omega (arith, below, few)) in
    let size : length cs ≤ 60 = omega (arith, length-append (decimal lane) (95 ∷ decimal number), l1, l2) in
    ap (λ t. events n (placed at (cut_lines t))) (text_more lane gates k x)
    ∙ (ap (λ ls. events n (placed at ls)) (lines_more cs (drawn x) more h)
    ∙ (events_more n at cs (drawn x) (cut_lines more) h size
    ∙ ap (λ es. change n (Repower (103 ∷ cs) cell) ∷ single (n + 1) (Ask (Wns Setup)) ∷ es)
    (events_are (n + 1 + 1) lane gates k (drawn x) (at + length this + 1 + length question + 1) low some few)))

commands_are : (n lane gates k x : ℕ) → commands outside (said n lane gates k x) ≡ commands_from lane gates k x
unfolding commands commands_from
commands_are n lane gates zero x = refl
commands_are n lane gates (suc k) x =
    ap (λ cs. resize lane gates (drawn x) ∷ Ask (Wns Setup) ∷ cs) (commands_are (n + 1 + 1) lane gates k (drawn x))

faults_are : (n lane gates k x count : ℕ) → count + 2 * k ≤ 10000 → faults count outside (said n lane gates k x) ≡ []
unfolding faults
faults_are n lane gates zero x count few = refl
faults_are n lane gates (suc k) x count few =
    rw (lt-leb 10000 count (omega (arith, few)), lt-leb 10000 (count + 1) (omega (arith, few)))
    (faults_are (n + 1 + 1) lane gates k (drawn x) (count + 1 + 1) (omega (arith, few)))

pub script_back : (lane gates k x : ℕ) → lane < 4 → 0 < gates → gates < 2 ^ 32 → k ≤ 5000
    → script_of (commands_text (commands_from lane gates k x)) ≡ Ok (record { commands = commands_from lane gates k x })
unfolding least_from
script_back lane gates k x low some few edits =
    rw (events_are 1 lane gates k x 0 low some few, faults_are 1 lane gates k x 0 (omega (arith, edits)), commands_are 1 lane gates k x) refl

pub scripts_back : (lane more gates k x : ℕ) → lane + more ≤ 4 → 0 < gates → gates < 2 ^ 32 → k ≤ 5000
    → map read_of (scripts_from lane more gates k x) ≡ map made_of (scripts_from lane more gates k x)
unfolding scripts_from
scripts_back lane zero gates k x low some few edits = refl
scripts_back lane (suc more) gates k x low some few edits =
    rw (script_back lane gates k x (omega (arith, low)) some few edits)
    (ap (λ scripts. Ok (record { commands = commands_from lane gates k x }) ∷ scripts) (scripts_back (lane + 1) more gates k (drawn_on k x) (omega (arith, low)) some few edits))
