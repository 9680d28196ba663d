-- The tokens of a written instance.
use Rattle.std.proofs.Common.{◌≡◌, ℕ, ◌+◌, false, List, [], ◌∷◌, ◌++◌, length, refl, ap, ◌∙◌, append_assoc}
use Rattle.timing_defs.specs.declared.netlist.Conn.{Conn}
use Rattle.timing_defs.specs.declared.netlist.Inst.{Inst}
use Rattle.timing_defs.specs.declared.texts.Sort.TheVariants.{Word, Mark}
use Rattle.timing_defs.specs.declared.texts.Style.TheVariants.{Verilog}
use Rattle.sta_text.specs.declared.pieces.Context.{Context}
use Rattle.sta_text.specs.declared.pieces.Context.TheVariants.{Fresh, Within}
use Rattle.sta_text.specs.Bytes.{begins}
use Rattle.sta_text.specs.Tokens.{Tok, tok, tokens}
use Rattle.design_maker.specs.Written.{net_text, conn_text, conns_text, inst_text}
use Rattle.design_laws.specs.Netlists.{IsConn, IsInst}
use Rattle.design_laws.proofs.VerilogWords.{dot, close, opening, blank}

-- the five tokens of a connection
abbrev pub conn_tokens : Conn → ℕ → ℕ → ℕ → ℕ → ℕ → List Tok → List Tok
conn_tokens c a0 a1 a2 a3 a4 ts =
    tok (46 ∷ []) a0 Mark ∷ tok c.pin a1 Word ∷ tok (40 ∷ []) a2 Mark ∷ tok (net_text c.net) a3 Word ∷ tok (41 ∷ []) a4 Mark ∷ ts

-- where a connection ends that begins at a place
abbrev pub behind_conn : ℕ → Conn → ℕ
behind_conn at c = at + 1 + length c.pin + 1 + length (net_text c.net) + 1

abbrev pub tokens_at : ℕ → Conn → List Tok → List Tok
tokens_at at c ts =
    conn_tokens c at (at + 1) (at + 1 + length c.pin) (at + 1 + length c.pin + 1) (at + 1 + length c.pin + 1 + length (net_text c.net)) ts

pub conn_cut : (context : Context) (at : ℕ) (c : Conn) → IsConn c → (rest : List ℕ)
    → tokens Verilog 0 context at (conn_text c ++ rest) ≡ tokens_at at c (tokens Verilog 0 Within (behind_conn at c) rest)
unfolding conn_text
conn_cut context at c ok rest =
    let net : List ℕ = net_text c.net in
    let a2 : ℕ = at + 1 + length c.pin in
    let a3 : ℕ = a2 + 1 in
    let a4 : ℕ = a3 + length net in
    let text : (c.pin ++ (40 ∷ (net ++ 41 ∷ []))) ++ rest ≡ c.pin ++ (40 ∷ (net ++ (41 ∷ rest))) =
    append_assoc c.pin (40 ∷ (net ++ 41 ∷ [])) rest ∙ ap (λ t. c.pin ++ (40 ∷ t)) (append_assoc net (41 ∷ []) rest) in
    dot context at ((c.pin ++ (40 ∷ (net ++ 41 ∷ []))) ++ rest)
    ∙ ap (λ ts. tok (46 ∷ []) at Mark ∷ ts)
    (ap (λ t. tokens Verilog 0 Within (at + 1) t) text
    ∙ (ok.pin.cut Within (at + 1) 40 (net ++ (41 ∷ rest)) refl
    ∙ ap (λ ts. tok c.pin (at + 1) Word ∷ ts)
    (opening Within a2 (net ++ (41 ∷ rest)) (ok.net.no_star (41 ∷ rest))
    ∙ ap (λ ts. tok (40 ∷ []) a2 Mark ∷ ts)
    (ok.net.word.cut Within a3 41 rest refl
    ∙ ap (λ ts. tok net a3 Word ∷ ts) (close Within a4 rest)))))

-- where connections behind another one end
abbrev pub behind_more : ℕ → List Conn → ℕ
behind_more at [] = at
behind_more at (c ∷ cs) = behind_more (behind_conn (at + 1 + 1) c) cs

-- where all connections of an instance end
abbrev pub behind_conns : ℕ → List Conn → ℕ
behind_conns at [] = at
behind_conns at (c ∷ cs) = behind_more (behind_conn at c) cs

-- where the connections of an instance begin, and where its line ends
abbrev pub conns_at : ℕ → Inst → ℕ
conns_at at i = at + length i.cell + 1 + length i.name + 1 + 1

abbrev pub behind_inst : ℕ → Inst → ℕ
behind_inst at i = behind_conns (conns_at at i) i.conns + 1 + 1 + 1

abbrev pub behind_insts : ℕ → List Inst → ℕ
behind_insts at [] = at
behind_insts at (i ∷ is) = behind_insts (behind_inst at i) is

no_star : (cs : List Conn) (rest : List ℕ) → begins 42 (conns_text cs ++ 41 ∷ rest) ≡ false
unfolding conn_text
no_star [] rest = refl
no_star (c ∷ cs) rest = refl

inst_text_on : (i : Inst) (rest : List ℕ)
    → inst_text i ++ rest ≡ i.cell ++ (32 ∷ (i.name ++ (32 ∷ 40 ∷ (conns_text i.conns ++ (41 ∷ 59 ∷ 10 ∷ rest)))))
unfolding inst_text
inst_text_on i rest =
    append_assoc i.cell (32 ∷ (i.name ++ (32 ∷ 40 ∷ (conns_text i.conns ++ (41 ∷ 59 ∷ 10 ∷ []))))) rest
    ∙ ap (λ t. i.cell ++ (32 ∷ t))
    (append_assoc i.name (32 ∷ 40 ∷ (conns_text i.conns ++ (41 ∷ 59 ∷ 10 ∷ []))) rest
    ∙ ap (λ t. i.name ++ (32 ∷ 40 ∷ t)) (append_assoc (conns_text i.conns) (41 ∷ 59 ∷ 10 ∷ []) rest))

-- the tokens up to the connections
pub inst_cut : (at : ℕ) (i : Inst) → IsInst i → (rest : List ℕ)
    → tokens Verilog 0 Fresh at (inst_text i ++ rest)
    ≡ tok i.cell at Word ∷ tok i.name (at + length i.cell + 1) Word ∷ tok (40 ∷ []) (at + length i.cell + 1 + length i.name + 1) Mark
    ∷ tokens Verilog 0 Within (conns_at at i) (conns_text i.conns ++ (41 ∷ 59 ∷ 10 ∷ rest))
inst_cut at i ok rest =
    let behind : List ℕ = conns_text i.conns ++ (41 ∷ 59 ∷ 10 ∷ rest) in
    let a1 : ℕ = at + length i.cell in
    let a2 : ℕ = a1 + 1 + length i.name in
    ap (λ t. tokens Verilog 0 Fresh at t) (inst_text_on i rest)
    ∙ (ok.cell.word.cut Fresh at 32 (i.name ++ (32 ∷ 40 ∷ behind)) refl
    ∙ ap (λ ts. tok i.cell at Word ∷ ts)
    (blank Within a1 (i.name ++ (32 ∷ 40 ∷ behind))
    ∙ (ok.name.cut Within (a1 + 1) 32 (40 ∷ behind) refl
    ∙ ap (λ ts. tok i.name (a1 + 1) Word ∷ ts)
    (blank Within a2 (40 ∷ behind) ∙ opening Within (a2 + 1) behind (no_star i.conns (59 ∷ 10 ∷ rest))))))
