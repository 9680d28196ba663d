-- What a list function of the events of a netlist is over written instances, whatever these events are.
use Rattle.std.proofs.Common.{◌≡◌, ℕ, ◌+◌, Bool, true, List, [], ◌∷◌, ◌++◌, length, refl, ap, ◌∙◌, append_assoc}
use Rattle.timing_defs.specs.declared.netlist.Conn.{Conn}
use Rattle.timing_defs.specs.declared.netlist.Inst.{Inst}
use Rattle.timing_defs.specs.declared.texts.Sort.TheVariants.{Word, Mark}
use Rattle.timing_defs.specs.declared.texts.Style.TheVariants.{Verilog}
use Rattle.sta_text.specs.declared.pieces.Context.TheVariants.{Fresh, Within}
use Rattle.sta_text.specs.Tokens.{Tok, tok, tokens}
use Rattle.verilog_netlist.specs.Grammar.{State, events, item, inst_name, inst_open, first_conn, conn, conn_next, inst_end}
use Rattle.design_maker.specs.Written.{net_text, conn_text, more_conns, conns_text, inst_text, insts_text}
use Rattle.design_laws.specs.Netlists.{IsWord, IsCell, IsConn, AreConns, IsInst, AreInsts}
use Rattle.design_laws.proofs.VerilogWords.{comma, close, semicolon, blank, feed}
use Rattle.design_laws.proofs.InstTokens.{conn_tokens, behind_conn, conn_cut, behind_more, behind_conns, conns_at, behind_inst, behind_insts, inst_cut}

-- how a grammar goes on at the marks of an instance
pub record Marks {E : Type 0} (ev : ℕ → State → List Tok → List E) : Type 0 where
  pub first : (size a : ℕ) (ts : List Tok) → ev size first_conn (tok (46 ∷ []) a Mark ∷ ts) ≡ ev size conn (tok (46 ∷ []) a Mark ∷ ts)
  pub none : (size a : ℕ) (ts : List Tok) → ev size first_conn (tok (41 ∷ []) a Mark ∷ ts) ≡ ev size inst_end ts
  pub next : (size a : ℕ) (ts : List Tok) → ev size conn_next (tok (44 ∷ []) a Mark ∷ ts) ≡ ev size conn ts
  pub last : (size a : ℕ) (ts : List Tok) → ev size conn_next (tok (41 ∷ []) a Mark ∷ ts) ≡ ev size inst_end ts
  pub begin : (size a : ℕ) (ts : List Tok) → ev size inst_open (tok (40 ∷ []) a Mark ∷ ts) ≡ ev size first_conn ts
  pub done : (size a : ℕ) (ts : List Tok) → ev size inst_end (tok (59 ∷ []) a Mark ∷ ts) ≡ ev size item ts

pub marks : Marks events
unfolding events
marks =
    record {
      first = λ size a ts. refl;
      none = λ size a ts. refl;
      next = λ size a ts. refl;
      last = λ size a ts. refl;
      begin = λ size a ts. refl;
      done = λ size a ts. refl;
    }

-- what is known so far, behind the cell word, the name and each connection of an instance, and where each may stand
pub record Turns (A : Type 0) : Type 0 where
  pub cell : A → A
  pub name : A → List ℕ → A
  pub conn : A → Conn → A
  pub cell_ok : A → Bool
  pub name_ok : A → List ℕ → Bool
  pub conn_ok : A → Conn → Bool

-- nothing changes
abbrev pub still : {A : Type 0} → Turns A
still =
    record {
      cell = λ a. a;
      name = λ a w. a;
      conn = λ a c. a;
      cell_ok = λ a. true;
      name_ok = λ a w. true;
      conn_ok = λ a c. true;
    }

abbrev pub over_conns : {A : Type 0} → Turns A → A → List Conn → A
over_conns t a [] = a
over_conns t a (c ∷ cs) = over_conns t (t.conn a c) cs

abbrev pub FineConns : {A : Type 0} → Turns A → A → List Conn → Type 0
FineConns t a [] = Unit {0}
FineConns t a (c ∷ cs) = (t.conn_ok a c ≡ true) × FineConns t (t.conn a c) cs

abbrev pub named : {A : Type 0} → Turns A → A → Inst → A
named t a i = t.name (t.cell a) i.name

abbrev pub over_insts : {A : Type 0} → Turns A → A → List Inst → A
over_insts t a [] = a
over_insts t a (i ∷ is) = over_insts t (over_conns t (named t a i) i.conns) is

abbrev pub FineInsts : {A : Type 0} → Turns A → A → List Inst → Type 0
FineInsts t a [] = Unit {0}
FineInsts t a (i ∷ is) =
    (t.cell_ok a ≡ true) × (t.name_ok (t.cell a) i.name ≡ true) × FineConns t (named t a i) i.conns
    × FineInsts t (over_conns t (named t a i) i.conns) is

-- a function takes these turns at connections
abbrev pub TurnsAtConns : {E A X : Type 0} → (ℕ → State → List Tok → List E) → (A → List E → X) → Turns A → Type 0
TurnsAtConns {E} {A} {X} ev f t =
    (size : ℕ) (c : Conn) → IsConn c → (a : A) → t.conn_ok a c ≡ true → (a0 a1 a2 a3 a4 : ℕ) (ts : List Tok)
    → f a (ev size conn (conn_tokens c a0 a1 a2 a3 a4 ts)) ≡ f (t.conn a c) (ev size conn_next ts)

abbrev pub TurnsAtCells : {E A X : Type 0} → (ℕ → State → List Tok → List E) → (A → List E → X) → Turns A → Type 0
TurnsAtCells {E} {A} {X} ev f t =
    (size : ℕ) (w : List ℕ) → IsCell w → (a : A) → t.cell_ok a ≡ true → (at : ℕ) (ts : List Tok)
    → f a (ev size item (tok w at Word ∷ ts)) ≡ f (t.cell a) (ev size (inst_name w) ts)

abbrev pub TurnsAtNames : {E A X : Type 0} → (ℕ → State → List Tok → List E) → (A → List E → X) → Turns A → Type 0
TurnsAtNames {E} {A} {X} ev f t =
    (size : ℕ) (cell w : List ℕ) → IsWord w → (a : A) → t.name_ok a w ≡ true → (at : ℕ) (ts : List Tok)
    → f a (ev size (inst_name cell) (tok w at Word ∷ ts)) ≡ f (t.name a w) (ev size inst_open ts)

pub conn_walked : {E A X : Type 0} (ev : ℕ → State → List Tok → List E) (f : A → List E → X) (t : Turns A) → TurnsAtConns ev f t
    → (size at : ℕ) (c : Conn) → IsConn c → (a : A) → t.conn_ok a c ≡ true → (rest : List ℕ)
    → f a (ev size conn (tokens Verilog 0 Within at (conn_text c ++ rest)))
    ≡ f (t.conn a c) (ev size conn_next (tokens Verilog 0 Within (behind_conn at c) rest))
conn_walked ev f t turns size at c ok a fine rest =
    ap (λ ts. f a (ev size conn ts)) (conn_cut Within at c ok rest)
    ∙ turns size c ok a fine at (at + 1) (at + 1 + length c.pin) (at + 1 + length c.pin + 1) (at + 1 + length c.pin + 1 + length (net_text c.net))
    (tokens Verilog 0 Within (behind_conn at c) rest)

more_walked : {E A X : Type 0} (ev : ℕ → State → List Tok → List E) (f : A → List E → X) (t : Turns A) → Marks ev → TurnsAtConns ev f t
    → (size at : ℕ) (cs : List Conn) → AreConns cs → (a : A) → FineConns t a cs → (rest : List ℕ)
    → f a (ev size conn_next (tokens Verilog 0 Within at (more_conns cs ++ rest)))
    ≡ f (over_conns t a cs) (ev size conn_next (tokens Verilog 0 Within (behind_more at cs) rest))
more_walked ev f t m turns size at [] ok a fine rest = refl
more_walked ev f t m turns size at (c ∷ cs) ok a fine rest =
    let bs : List ℕ = (conn_text c ++ more_conns cs) ++ rest in
    ap (λ ts. f a (ev size conn_next ts)) (comma Within at (32 ∷ bs))
    ∙ (ap (λ es. f a es) (m.next size at (tokens Verilog 0 Within (at + 1) (32 ∷ bs)))
    ∙ (ap (λ ts. f a (ev size conn ts)) (blank Within (at + 1) bs ∙ ap (λ t. tokens Verilog 0 Within (at + 1 + 1) t) (append_assoc (conn_text c) (more_conns cs) rest))
    ∙ (conn_walked ev f t turns size (at + 1 + 1) c ok.0 a fine.0 (more_conns cs ++ rest)
    ∙ more_walked ev f t m turns size (behind_conn (at + 1 + 1) c) cs ok.1 (t.conn a c) fine.1 rest)))

-- all connections of an instance, and the bracket behind them
pub conns_walked : {E A X : Type 0} (ev : ℕ → State → List Tok → List E) (f : A → List E → X) (t : Turns A) → Marks ev → TurnsAtConns ev f t
    → (size at : ℕ) (cs : List Conn) → AreConns cs → (a : A) → FineConns t a cs → (rest : List ℕ)
    → f a (ev size first_conn (tokens Verilog 0 Within at (conns_text cs ++ 41 ∷ rest)))
    ≡ f (over_conns t a cs) (ev size inst_end (tokens Verilog 0 Within (behind_conns at cs + 1) rest))
conns_walked ev f t m turns size at [] ok a fine rest =
    ap (λ ts. f a (ev size first_conn ts)) (close Within at rest)
    ∙ ap (λ es. f a es) (m.none size at (tokens Verilog 0 Within (at + 1) rest))
conns_walked {A = A} ev f t m turns size at (c ∷ cs) ok a fine rest =
    let last : ℕ = behind_more (behind_conn at c) cs in
    let more : List ℕ = more_conns cs ++ 41 ∷ rest in
    let ts : List Tok = tokens Verilog 0 Within (behind_conn at c) more in
    let all : A = over_conns t (t.conn a c) cs in
    ap (λ t. f a (ev size first_conn (tokens Verilog 0 Within at t))) (append_assoc (conn_text c) (more_conns cs) (41 ∷ rest))
    ∙ (ap (λ ts. f a (ev size first_conn ts)) (conn_cut Within at c ok.0 more)
    ∙ (ap (λ es. f a es) (m.first size at (tok c.pin (at + 1) Word ∷ tok (40 ∷ []) (at + 1 + length c.pin) Mark ∷ tok (net_text c.net) (at + 1 + length c.pin + 1) Word
    ∷ tok (41 ∷ []) (at + 1 + length c.pin + 1 + length (net_text c.net)) Mark ∷ ts))
    ∙ (turns size c ok.0 a fine.0 at (at + 1) (at + 1 + length c.pin) (at + 1 + length c.pin + 1) (at + 1 + length c.pin + 1 + length (net_text c.net)) ts
    ∙ (more_walked ev f t m turns size (behind_conn at c) cs ok.1 (t.conn a c) fine.1 (41 ∷ rest)
    ∙ (ap (λ ts. f all (ev size conn_next ts)) (close Within last rest)
    ∙ ap (λ es. f all es) (m.last size last (tokens Verilog 0 Within (last + 1) rest)))))))

-- the end of an instance's line
pub end_walked : {E A X : Type 0} (ev : ℕ → State → List Tok → List E) (f : A → List E → X) → Marks ev
    → (size at : ℕ) (a : A) (rest : List ℕ)
    → f a (ev size inst_end (tokens Verilog 0 Within at (59 ∷ 10 ∷ rest))) ≡ f a (ev size item (tokens Verilog 0 Fresh (at + 1 + 1) rest))
end_walked ev f m size at a rest =
    ap (λ ts. f a (ev size inst_end ts)) (semicolon Within at (10 ∷ rest))
    ∙ (ap (λ es. f a es) (m.done size at (tokens Verilog 0 Within (at + 1) (10 ∷ rest)))
    ∙ ap (λ ts. f a (ev size item ts)) (feed Within (at + 1) rest))

inst_walked : {E A X : Type 0} (ev : ℕ → State → List Tok → List E) (f : A → List E → X) (t : Turns A) → Marks ev
    → TurnsAtConns ev f t → TurnsAtCells ev f t → TurnsAtNames ev f t
    → (size at : ℕ) (i : Inst) → IsInst i → (a : A) → t.cell_ok a ≡ true → t.name_ok (t.cell a) i.name ≡ true → FineConns t (named t a i) i.conns → (rest : List ℕ)
    → f a (ev size item (tokens Verilog 0 Fresh at (inst_text i ++ rest)))
    ≡ f (over_conns t (named t a i) i.conns) (ev size item (tokens Verilog 0 Fresh (behind_inst at i) rest))
inst_walked ev f t m conns cells names size at i ok a fc fn fs rest =
    let a1 : ℕ = at + length i.cell + 1 in
    let a2 : ℕ = a1 + length i.name + 1 in
    let ts : List Tok = tokens Verilog 0 Within (conns_at at i) (conns_text i.conns ++ (41 ∷ 59 ∷ 10 ∷ rest)) in
    ap (λ ts. f a (ev size item ts)) (inst_cut at i ok rest)
    ∙ (cells size i.cell ok.cell a fc at (tok i.name a1 Word ∷ tok (40 ∷ []) a2 Mark ∷ ts)
    ∙ (names size i.cell i.name ok.name (t.cell a) fn a1 (tok (40 ∷ []) a2 Mark ∷ ts)
    ∙ (ap (λ es. f (named t a i) es) (m.begin size a2 ts)
    ∙ (conns_walked ev f t m conns size (conns_at at i) i.conns ok.conns (named t a i) fs (59 ∷ 10 ∷ rest)
    ∙ end_walked ev f m size (behind_conns (conns_at at i) i.conns + 1) (over_conns t (named t a i) i.conns) rest))))

-- instances, a line each
pub insts_walked : {E A X : Type 0} (ev : ℕ → State → List Tok → List E) (f : A → List E → X) (t : Turns A) → Marks ev
    → TurnsAtConns ev f t → TurnsAtCells ev f t → TurnsAtNames ev f t
    → (size at : ℕ) (is : List Inst) → AreInsts is → (a : A) → FineInsts t a is → (rest : List ℕ)
    → f a (ev size item (tokens Verilog 0 Fresh at (insts_text is ++ rest)))
    ≡ f (over_insts t a is) (ev size item (tokens Verilog 0 Fresh (behind_insts at is) rest))
unfolding insts_text
insts_walked ev f t m conns cells names size at [] ok a fine rest = refl
insts_walked ev f t m conns cells names size at (i ∷ is) ok a fine rest =
    ap (λ t. f a (ev size item (tokens Verilog 0 Fresh at t))) (append_assoc (inst_text i) (insts_text is) rest)
    ∙ (inst_walked ev f t m conns cells names size at i ok.0 a fine.0 fine.1 fine.2 (insts_text is ++ rest)
    ∙ insts_walked ev f t m conns cells names size (behind_inst at i) is ok.1 (over_conns t (named t a i) i.conns) fine.3 rest)
