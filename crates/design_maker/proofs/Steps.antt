-- Lists that are counted down, unrolled by one step.
use Rattle.std.proofs.Common.{◌≡◌, ℕ, suc, ◌+◌, ◌-◌, ◌<◌, ◌≤◌, List, [], ◌∷◌, ◌++◌, map, refl, ap, sym, ◌∙◌, arith, append_assoc, append-nil}
use Rattle.std.specs.Prelude.{codes, decimal}
use Rattle.std.specs.List.{flat_map}
use Rattle.timing_defs.specs.Output.{line, edit_text}
use Rattle.timing_defs.specs.declared.edits.Edit.{Edit}
use Rattle.timing_defs.specs.declared.edits.Edit.TheVariants.{Repower}
use Rattle.timing_defs.specs.declared.netlist.Inst.{Inst}
use Rattle.timing_defs.specs.declared.scripts.Script.{Script}
use Rattle.design_maker.specs.Draws.{drawn, drawn_on, chosen}
use Rattle.design_maker.specs.Insts.{gate_name, first_register, blocks_of, gate, gates_from, last_register, registers_from, lane_of, lanes_from, behind_lanes}
use Rattle.design_maker.specs.Sessions.{drawn_cell, resize_text, commands_from, scripts_from}
use Rattle.design_maker.specs.Written.{inst_text, insts_text, commands_text}

-- one less than what is left
left : (at count : ℕ) → at < count → count - at ≡ suc (count - (at + 1))
left at count below = omega (arith, below)

-- a text in its parts
pub four : (a b c d : List ℕ) → a ++ b ++ c ++ d ≡ a ++ (b ++ (c ++ d))
four a b c d = append_assoc (a ++ b) c d ∙ append_assoc a b (c ++ d)

pub five : (a b c d e : List ℕ) → a ++ b ++ c ++ d ++ e ≡ a ++ (b ++ (c ++ (d ++ e)))
five a b c d e = append_assoc (a ++ b ++ c) d e ∙ four a b c (d ++ e)

pub six : (a b c d e f : List ℕ) → a ++ b ++ c ++ d ++ e ++ f ≡ a ++ (b ++ (c ++ (d ++ (e ++ f))))
six a b c d e f = append_assoc (a ++ b ++ c ++ d) e f ∙ five a b c d (e ++ f)

pub insts_joined : (xs ys : List Inst) → insts_text (xs ++ ys) ≡ insts_text xs ++ insts_text ys
unfolding insts_text
insts_joined [] ys = refl
insts_joined (x ∷ xs) ys = ap (λ t. inst_text x ++ t) (insts_joined xs ys) ∙ sym (append_assoc (inst_text x) (insts_text xs) (insts_text ys))

pub drawn_less : (at count x : ℕ) → at < count → drawn_on (count - (at + 1)) (drawn x) ≡ drawn_on (count - at) x
unfolding drawn_on
drawn_less at count x below = rw (left at count below) refl

pub gates_less : (lane gates at x : ℕ) (out : List ℕ) → at < gates
    → out ++ inst_text (gate lane at (drawn x)) ++ insts_text (gates_from lane (at + 1) (gates - (at + 1)) (drawn x))
    ≡ out ++ insts_text (gates_from lane at (gates - at) x)
unfolding gates_from insts_text
gates_less lane gates at x out below =
    rw (left at gates below)
    (append_assoc out (inst_text (gate lane at (drawn x))) (insts_text (gates_from lane (at + 1) (gates - (at + 1)) (drawn x))))

pub registers_less : (lane gates count at : ℕ) (out : List ℕ) → at < count
    → out ++ inst_text (last_register lane gates at) ++ insts_text (registers_from lane gates (at + 1) (count - (at + 1)))
    ≡ out ++ insts_text (registers_from lane gates at (count - at))
unfolding registers_from insts_text
registers_less lane gates count at out below =
    rw (left at count below)
    (append_assoc out (inst_text (last_register lane gates at)) (insts_text (registers_from lane gates (at + 1) (count - (at + 1)))))

pub lanes_less : (lane gates x : ℕ) (out : List ℕ) → lane < 4
    → out ++ insts_text (lane_of lane gates x) ++ insts_text (lanes_from (lane + 1) (4 - (lane + 1)) gates (drawn_on gates x))
    ≡ out ++ insts_text (lanes_from lane (4 - lane) gates x)
unfolding lanes_from
lanes_less lane gates x out below =
    let more : List Inst = lanes_from (lane + 1) (4 - (lane + 1)) gates (drawn_on gates x) in
    rw (left lane 4 below)
    (append_assoc out (insts_text (lane_of lane gates x)) (insts_text more)
    ∙ ap (λ t. out ++ t) (sym (insts_joined (lane_of lane gates x) more)))

pub behind_less : (lane draws x : ℕ) → lane < 4 → behind_lanes (4 - (lane + 1)) draws (drawn_on draws x) ≡ behind_lanes (4 - lane) draws x
unfolding behind_lanes
behind_less lane draws x below = rw (left lane 4 below) refl

-- the text of a script
abbrev pub text_of : Script → List ℕ
text_of script = commands_text script.commands

pub scripts_less : (lane gates edits x : ℕ) (all : List (List ℕ)) → lane < 4
    → all ++ (commands_text (commands_from lane gates edits x) ∷ []) ++ map text_of (scripts_from (lane + 1) (4 - (lane + 1)) gates edits (drawn_on edits x))
    ≡ all ++ map text_of (scripts_from lane (4 - lane) gates edits x)
unfolding scripts_from
scripts_less lane gates edits x all below =
    rw (left lane 4 below)
    (append_assoc all (commands_text (commands_from lane gates edits x) ∷ []) (map text_of (scripts_from (lane + 1) (4 - (lane + 1)) gates edits (drawn_on edits x))))

-- nothing is left
pub drawn_none : (at count x : ℕ) → count ≤ at → drawn_on (count - at) x ≡ x
unfolding drawn_on
drawn_none at count x high = let e : count - at ≡ 0 = omega (arith, high) in rw e refl

pub behind_none : (lane draws x : ℕ) → 4 ≤ lane → behind_lanes (4 - lane) draws x ≡ x
unfolding behind_lanes
behind_none lane draws x high = let e : 4 - lane ≡ 0 = omega (arith, high) in rw e refl

pub gates_none : (lane gates at x : ℕ) (out : List ℕ) → gates ≤ at → out ++ insts_text (gates_from lane at (gates - at) x) ≡ out
unfolding gates_from insts_text
gates_none lane gates at x out high = let e : gates - at ≡ 0 = omega (arith, high) in rw e (append-nil out)

pub registers_none : (lane gates count at : ℕ) (out : List ℕ) → count ≤ at → out ++ insts_text (registers_from lane gates at (count - at)) ≡ out
unfolding registers_from insts_text
registers_none lane gates count at out high = let e : count - at ≡ 0 = omega (arith, high) in rw e (append-nil out)

pub lanes_none : (lane gates x : ℕ) (out : List ℕ) → 4 ≤ lane → out ++ insts_text (lanes_from lane (4 - lane) gates x) ≡ out
unfolding lanes_from insts_text
lanes_none lane gates x out high = let e : 4 - lane ≡ 0 = omega (arith, high) in rw e (append-nil out)

pub scripts_none : (lane gates edits x : ℕ) (all : List (List ℕ)) → 4 ≤ lane → all ++ map text_of (scripts_from lane (4 - lane) gates edits x) ≡ all
unfolding scripts_from
scripts_none lane gates edits x all high = let e : 4 - lane ≡ 0 = omega (arith, high) in rw e (append-nil all)

-- a lane in its three parts
pub lane_whole : (lane gates x : ℕ) (out : List ℕ)
    → out ++ inst_text (first_register lane) ++ insts_text (gates_from lane 0 gates x) ++ insts_text (registers_from lane gates 0 (blocks_of gates))
    ≡ out ++ insts_text (lane_of lane gates x)
unfolding insts_text
lane_whole lane gates x out =
    let first : List ℕ = inst_text (first_register lane) in
    let gs : List Inst = gates_from lane 0 gates x in
    let rs : List Inst = registers_from lane gates 0 (blocks_of gates) in
    append_assoc (out ++ first) (insts_text gs) (insts_text rs)
    ∙ append_assoc out first (insts_text gs ++ insts_text rs)
    ∙ ap (λ t. out ++ (first ++ t)) (sym (insts_joined gs rs))

-- an edit of a script, and the question behind it
same_line : (lane gates x : ℕ) → flat_map (λ (edit : Edit). line (edit_text edit)) (Repower (gate_name lane (1 + chosen x gates)) (drawn_cell x) ∷ []) ≡ resize_text lane gates x
unfolding resize_text
same_line lane gates x =
    let d : List ℕ = decimal lane in
    let n : List ℕ = 95 ∷ decimal (1 + chosen x gates) in
    let cell : List ℕ = drawn_cell x in
    append-nil (line (edit_text (Repower (gate_name lane (1 + chosen x gates)) cell)))
    ∙ ap (λ t. codes "repower_gate g" ++ t) (append_assoc (d ++ n) (32 ∷ cell) (10 ∷ []))

pub edits_less : (lane gates edits at x : ℕ) (out : List ℕ) → at < edits
    → out ++ resize_text lane gates (drawn x) ++ codes "report_wns setup\n" ++ commands_text (commands_from lane gates (edits - (at + 1)) (drawn x))
    ≡ out ++ commands_text (commands_from lane gates (edits - at) x)
unfolding commands_from commands_text
edits_less lane gates edits at x out below =
    let r : List ℕ = resize_text lane gates (drawn x) in
    let q : List ℕ = codes "report_wns setup\n" in
    let more : List ℕ = commands_text (commands_from lane gates (edits - (at + 1)) (drawn x)) in
    rw (left at edits below)
    (append_assoc (out ++ r) q more ∙ append_assoc out r (q ++ more)
    ∙ ap (λ t. out ++ (t ++ (q ++ more))) (sym (same_line lane gates (drawn x))))

pub edits_none : (lane gates edits at x : ℕ) (out : List ℕ) → edits ≤ at → out ++ commands_text (commands_from lane gates (edits - at) x) ≡ out
unfolding commands_from commands_text
edits_none lane gates edits at x out high = let e : edits - at ≡ 0 = omega (arith, high) in rw e (append-nil out)
