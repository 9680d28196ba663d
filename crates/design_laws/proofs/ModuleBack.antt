-- A written netlist is read back as its instances.
use Rattle.std.proofs.Common.{◌≡◌, ℕ, ◌+◌, ◌≤◌, Bool, true, false, not, List, [], ◌∷◌, ◌++◌, length, cond, refl, ap, sym, ◌∙◌, arith, length-append, append_assoc, append-nil}
use Rattle.std.specs.Prelude.{Some, nat_lt, ◌||◌, codes}
use Rattle.std.specs.Str.{bytes_eq}
use Rattle.std.proofs.lemmas.Bool.{lt-ltb, le-ltb, cond_both, false≢true}
use Rattle.std.proofs.lemmas.Slice.Eq.{bytes_eq-Decides}
use Rattle.timing_defs.specs.declared.kinds.Dir.TheVariants.{Input}
use Rattle.timing_defs.specs.declared.netlist.Conn.{Conn}
use Rattle.timing_defs.specs.declared.netlist.Inst.{Inst}
use Rattle.timing_defs.specs.declared.netlist.Port.{Port}
use Rattle.timing_defs.specs.declared.texts.Sort.TheVariants.{Word, Mark}
use Rattle.timing_defs.specs.declared.texts.Style.TheVariants.{Verilog}
use Rattle.sta_text.specs.declared.pieces.Context.TheVariants.{Fresh, Within}
use Rattle.sta_text.specs.Pieces.{verilog_piece}
use Rattle.sta_text.specs.Tokens.{Tok, tok, tokens}
use Rattle.sta_text.specs.Names.{stands}
use Rattle.sta_text.proofs.DistinctLemmas.{stands_still}
use Rattle.verilog_netlist.specs.Lexicon.{is_identifier, is_left_out_item}
use Rattle.verilog_netlist.specs.Grammar.{State, start, item, inst_name, inst_open, events, events_of}
use Rattle.verilog_netlist.specs.Nets.{nets_of}
use Rattle.verilog_netlist.specs.Faults.{nothing, with_name, with_names, wrongs, strays, header_doubles, declaration_faults, instance_doubles, instance_excess, pin_doubles, whole_vectors, undirected, undeclared_bits, with_implicit, net_excess, all_vectors, all_directed, all_declared, all_nets, faults_of}
use Rattle.verilog_netlist.specs.Modules.{ports_of, conns_of, insts_of, module_name, module_of}
use Rattle.design_maker.specs.Written.{net_text, conns_text, inst_text, insts_text, module_head, module_text}
use Rattle.design_laws.specs.Netlists.{IsWord, AreInsts, IsInst, Lone, names_of, pins_of, PinsLone, conn_count, IsWritable, inputs, with_net, with_conns, with_insts, module_of_insts}
use Rattle.design_laws.proofs.InstTokens.{conns_at, behind_conns, behind_inst, behind_insts, inst_cut}
use Rattle.design_laws.proofs.Walks.{Marks, marks, Turns, still, over_conns, over_insts, FineConns, FineInsts, TurnsAtConns, TurnsAtCells, TurnsAtNames, conns_walked, end_walked, insts_walked}
use Rattle.design_laws.proofs.NetlistChecks.{alone, naming, counting, pinning, netting, listing, behind_those, joining, wrong_conns, wrong_cells, wrong_names, stray_conns, stray_cells, stray_names, header_conns, header_cells, header_names, declaration_conns, declaration_cells, declaration_names, whole_conns, whole_cells, whole_names, undirected_conns, undirected_cells, undirected_names, bit_conns, bit_cells, bit_names, vector_conns, vector_cells, vector_names, directed_conns, directed_cells, directed_names, declared_conns, declared_cells, declared_names, port_conns, port_cells, port_names, double_conns, double_cells, double_names, excess_conns, excess_cells, excess_names, pin_conns, pin_cells, pin_names, net_conns, net_cells, net_names, list_conns, list_cells, list_names, conn_conns, conn_cells, inst_conns, inst_cells}

abbrev end_text : List ℕ
end_text = codes "endmodule\n"

-- a list function of a whole netlist, by what it is at the head, over the instances, and at the end
over_module : {E A X : Type 0} (ev : ℕ → State → List Tok → List E) (f : A → List E → X) (t : Turns A) → Marks ev
    → TurnsAtConns ev f t → TurnsAtCells ev f t → TurnsAtNames ev f t
    → (size : ℕ) (is : List Inst) → AreInsts is → (a0 a1 : A) → FineInsts t a1 is → (x : X)
    → ((rest : List ℕ) → f a0 (ev size start (tokens Verilog 0 Fresh 0 (module_head ++ rest))) ≡ f a1 (ev size item (tokens Verilog 0 Fresh 41 rest)))
    → ((at : ℕ) → f (over_insts t a1 is) (ev size item (tokens Verilog 0 Fresh at end_text)) ≡ x)
    → f a0 (ev size start (tokens Verilog 0 Fresh 0 (module_text is))) ≡ x
unfolding module_text
over_module ev f t m conns cells names size is ok a0 a1 fine x head end =
    head (insts_text is ++ end_text)
    ∙ (insts_walked ev f t m conns cells names size 41 is ok a1 fine end_text
    ∙ end (behind_insts 41 is))

fine_conns : {A : Type 0} (a : A) (cs : List Conn) → FineConns still a cs
fine_conns a [] = tt
fine_conns a (c ∷ cs) = (refl, fine_conns a cs)

over_still : {A : Type 0} (a : A) (cs : List Conn) → over_conns still a cs ≡ a
over_still a [] = refl
over_still a (c ∷ cs) = over_still a cs

fine_still : {A : Type 0} (a : A) (is : List Inst) → FineInsts still a is
fine_still a [] = tt
fine_still a (i ∷ is) = (refl, refl, fine_conns a i.conns, fine_still (over_conns still a i.conns) is)

insts_still : {A : Type 0} (a : A) (is : List Inst) → over_insts still a is ≡ a
insts_still a [] = refl
insts_still a (i ∷ is) = insts_still (over_conns still a i.conns) is ∙ over_still a i.conns

wrongs_are : (size : ℕ) (is : List Inst) → AreInsts is → wrongs (events size start (tokens Verilog 0 Fresh 0 (module_text is))) ≡ []
unfolding events tokens verilog_piece is_identifier is_left_out_item with_names nets_of wrongs
wrongs_are size is ok =
    over_module events (alone wrongs) still marks wrong_conns wrong_cells wrong_names size is ok tt tt (fine_still _ is) [] (λ rest. refl) (λ at. refl)

strays_are : (size : ℕ) (is : List Inst) → AreInsts is → strays [] (events size start (tokens Verilog 0 Fresh 0 (module_text is))) ≡ []
unfolding events tokens verilog_piece is_identifier is_left_out_item with_names nets_of strays
strays_are size is ok =
    over_module events strays still marks stray_conns stray_cells stray_names size is ok [] inputs (fine_still _ is) [] (λ rest. refl) (λ at. refl)

headers_are : (size : ℕ) (is : List Inst) → AreInsts is → header_doubles [] (events size start (tokens Verilog 0 Fresh 0 (module_text is))) ≡ []
unfolding events tokens verilog_piece is_identifier is_left_out_item with_names nets_of header_doubles
headers_are size is ok =
    over_module events header_doubles still marks header_conns header_cells header_names size is ok [] inputs (fine_still _ is) [] (λ rest. refl) (λ at. refl)

declarations_are : (size : ℕ) (is : List Inst) → AreInsts is → declaration_faults nothing (events size start (tokens Verilog 0 Fresh 0 (module_text is))) ≡ []
unfolding events tokens verilog_piece is_identifier is_left_out_item with_names nets_of declaration_faults
declarations_are size is ok =
    over_module events declaration_faults still marks declaration_conns declaration_cells declaration_names size is ok nothing _ (fine_still _ is) [] (λ rest. refl) (λ at. refl)

wholes_are : (size : ℕ) (is : List Inst) → AreInsts is → whole_vectors [] (events size start (tokens Verilog 0 Fresh 0 (module_text is))) ≡ []
unfolding events tokens verilog_piece is_identifier is_left_out_item with_names nets_of whole_vectors
wholes_are size is ok =
    over_module events (alone (whole_vectors [])) still marks whole_conns whole_cells whole_names size is ok tt tt (fine_still _ is) [] (λ rest. refl) (λ at. refl)

undirected_are : (size : ℕ) (is : List Inst) → AreInsts is → undirected inputs (events size start (tokens Verilog 0 Fresh 0 (module_text is))) ≡ []
unfolding events tokens verilog_piece is_identifier is_left_out_item with_names nets_of undirected
undirected_are size is ok =
    over_module events undirected still marks undirected_conns undirected_cells undirected_names size is ok inputs inputs (fine_still _ is) [] (λ rest. refl) (λ at. refl)

bits_are : (size : ℕ) (is : List Inst) → AreInsts is → undeclared_bits inputs (events size start (tokens Verilog 0 Fresh 0 (module_text is))) ≡ []
unfolding events tokens verilog_piece is_identifier is_left_out_item with_names nets_of undeclared_bits
bits_are size is ok =
    over_module events undeclared_bits still marks bit_conns bit_cells bit_names size is ok inputs inputs (fine_still _ is) [] (λ rest. refl) (λ at. refl)

vectors_are : (size : ℕ) (is : List Inst) → AreInsts is → all_vectors [] (events size start (tokens Verilog 0 Fresh 0 (module_text is))) ≡ []
unfolding events tokens verilog_piece is_identifier is_left_out_item with_names nets_of all_vectors
vectors_are size is ok =
    over_module events all_vectors still marks vector_conns vector_cells vector_names size is ok [] [] (fine_still _ is) [] (λ rest. refl) (λ at. insts_still [] is)

directed_are : (size : ℕ) (is : List Inst) → AreInsts is → all_directed [] (events size start (tokens Verilog 0 Fresh 0 (module_text is))) ≡ inputs
unfolding events tokens verilog_piece is_identifier is_left_out_item with_names nets_of all_directed
directed_are size is ok =
    over_module events all_directed still marks directed_conns directed_cells directed_names size is ok [] inputs (fine_still _ is) inputs (λ rest. refl) (λ at. insts_still inputs is)

declared_are : (size : ℕ) (is : List Inst) → AreInsts is → all_declared [] (events size start (tokens Verilog 0 Fresh 0 (module_text is))) ≡ inputs
unfolding events tokens verilog_piece is_identifier is_left_out_item with_names nets_of all_declared
declared_are size is ok =
    over_module events all_declared still marks declared_conns declared_cells declared_names size is ok [] inputs (fine_still _ is) inputs (λ rest. refl) (λ at. insts_still inputs is)

abbrev ports : List Port
ports = record { name = codes "clk"; dir = Input } ∷ record { name = codes "d"; dir = Input } ∷ []

ports_are : (size : ℕ) (is : List Inst) → AreInsts is → ports_of (events size start (tokens Verilog 0 Fresh 0 (module_text is))) ≡ ports
unfolding events tokens verilog_piece is_identifier is_left_out_item with_names nets_of ports_of module_text
ports_are size is ok =
    ap (λ (more : List Port). record { name = codes "clk"; dir = Input } ∷ record { name = codes "d"; dir = Input } ∷ more)
    (insts_walked events (alone ports_of) still marks port_conns port_cells port_names size 41 is ok tt (fine_still tt is) end_text)

-- no instance twice
still_named : (names : List (List ℕ)) (cs : List Conn) → FineConns naming names cs × (over_conns naming names cs ≡ names)
still_named names [] = (tt, refl)
still_named names (c ∷ cs) = let more = still_named names cs in ((refl, more.0), more.1)

not_false : (b : Bool) → b ≡ false → not b ≡ true
not_false true h = sym h
not_false false h = refl

fine_names : (names : List (List ℕ)) (is : List Inst) → Lone names (names_of is) → FineInsts naming names is
fine_names names [] lone = tt
fine_names names (i ∷ is) lone =
    let same = still_named (names ++ i.name ∷ []) i.conns in (
      refl,
      not_false (stands names i.name) lone.0,
      same.0,
      rw same.1 (fine_names (names ++ i.name ∷ []) is lone.1),
    )

doubles_are : (size : ℕ) (is : List Inst) → AreInsts is → Lone [] (names_of is)
    → instance_doubles [] (events size start (tokens Verilog 0 Fresh 0 (module_text is))) ≡ []
unfolding events tokens verilog_piece is_identifier is_left_out_item with_names nets_of instance_doubles
doubles_are size is ok lone =
    over_module events instance_doubles naming marks double_conns double_cells double_names size is ok [] [] (fine_names [] is lone) [] (λ rest. refl) (λ at. refl)

-- few instances
still_counted : (n : ℕ) (cs : List Conn) → FineConns counting n cs × (over_conns counting n cs ≡ n)
still_counted n [] = (tt, refl)
still_counted n (c ∷ cs) = let more = still_counted n cs in ((refl, more.0), more.1)

fine_counts : (n : ℕ) (is : List Inst) → n + length is ≤ 200000 → FineInsts counting n is
fine_counts n [] few = tt
fine_counts n (i ∷ is) few =
    let same = still_counted (n + 1) i.conns in
    (lt-ltb n 200000 (omega (arith, few)), refl, same.0, rw same.1 (fine_counts (n + 1) is (omega (arith, few))))

excess_is : (size : ℕ) (is : List Inst) → AreInsts is → length is ≤ 200000
    → instance_excess 0 (events size start (tokens Verilog 0 Fresh 0 (module_text is))) ≡ []
unfolding events tokens verilog_piece is_identifier is_left_out_item with_names nets_of instance_excess
excess_is size is ok few =
    over_module events instance_excess counting marks excess_conns excess_cells excess_names size is ok 0 0 (fine_counts 0 is (omega (arith, few))) [] (λ rest. refl) (λ at. refl)

-- no pin twice
fine_pins : (names : List (List ℕ)) (cs : List Conn) → Lone names (pins_of cs) → FineConns pinning names cs
fine_pins names [] lone = tt
fine_pins names (c ∷ cs) lone = (not_false (stands names c.pin) lone.0, fine_pins (names ++ c.pin ∷ []) cs lone.1)

fine_insts : (names : List (List ℕ)) (is : List Inst) → PinsLone is → FineInsts pinning names is
fine_insts names [] lone = tt
fine_insts names (i ∷ is) lone = (refl, refl, fine_pins [] i.conns lone.0, fine_insts (over_conns pinning [] i.conns) is lone.1)

pins_are : (size : ℕ) (is : List Inst) → AreInsts is → PinsLone is
    → pin_doubles [] (events size start (tokens Verilog 0 Fresh 0 (module_text is))) ≡ []
unfolding events tokens verilog_piece is_identifier is_left_out_item with_names nets_of pin_doubles
pins_are size is ok lone =
    over_module events pin_doubles pinning marks pin_conns pin_cells pin_names size is ok [] [] (fine_insts [] is lone) [] (λ rest. refl) (λ at. refl)

-- few nets
implicit_few : (nets : List (List ℕ)) (name : List ℕ) → length (with_implicit inputs [] nets name) ≤ length nets + 1
implicit_few nets name =
    cond_both (stands inputs name || stands [] name) nets (with_name nets name) (λ found. length found ≤ length nets + 1) (λ _. omega arith)
    (λ _. cond_both (stands nets name) nets (nets ++ name ∷ []) (λ found. length found ≤ length nets + 1) (λ _. omega arith) (λ _. omega (arith, length-append nets (name ∷ []))))

few_over : (nets : List (List ℕ)) (cs : List Conn) → length (over_conns (netting inputs) nets cs) ≤ length nets + length cs
few_over nets [] = omega arith
few_over nets (c ∷ cs) =
    omega (arith, few_over (with_implicit inputs [] nets (net_text c.net)) cs, implicit_few nets (net_text c.net))

fine_nets : (nets : List (List ℕ)) (cs : List Conn) → length nets + length cs ≤ 200000 → FineConns (netting inputs) nets cs
fine_nets nets [] few = tt
fine_nets nets (c ∷ cs) few =
    let more : List (List ℕ) = with_implicit inputs [] nets (net_text c.net) in
    let low : length more ≤ length nets + 1 = implicit_few nets (net_text c.net) in
    (not_false (nat_lt 200000 (length more)) (le-ltb 200000 (length more) (omega (arith, low, few))), fine_nets more cs (omega (arith, low, few)))

fine_netted : (nets : List (List ℕ)) (is : List Inst) → length nets + conn_count is ≤ 200000 → FineInsts (netting inputs) nets is
fine_netted nets [] few = tt
fine_netted nets (i ∷ is) few =
    (refl, refl, fine_nets nets i.conns (omega (arith, few)), fine_netted (over_conns (netting inputs) nets i.conns) is (omega (arith, few, few_over nets i.conns)))

nets_are : (size : ℕ) (is : List Inst) → AreInsts is → 2 + conn_count is ≤ 200000
    → net_excess inputs [] [] (events size start (tokens Verilog 0 Fresh 0 (module_text is))) ≡ []
unfolding events tokens verilog_piece is_identifier is_left_out_item with_names nets_of net_excess
nets_are size is ok few =
    over_module events (net_excess inputs []) (netting inputs) marks (net_conns inputs) (net_cells inputs) (net_names inputs) size is ok [] inputs (fine_netted inputs is few) [] (λ rest. refl) (λ at. refl)

-- the nets
abbrev Known : List (List ℕ) → Type 0
Known nets = (stands nets (codes "clk") ≡ true) × (stands nets (codes "d") ≡ true)

one_of : (nets : List (List ℕ)) (name : List ℕ) → Known nets → stands inputs name ≡ true → stands nets name ≡ true
one_of nets name known h = by_clock (bytes_eq name (codes "clk")) refl
  where
    by_data : (b : Bool) → bytes_eq name (codes "d") ≡ b → bytes_eq name (codes "clk") ≡ false → stands nets name ≡ true
    by_data true e f = let same : name ≡ codes "d" = (bytes_eq-Decides name (codes "d")).0 e in rw same known.1
    by_data false e f = absurd (false≢true (rw (f, e) at h))

    by_clock : (b : Bool) → bytes_eq name (codes "clk") ≡ b → stands nets name ≡ true
    by_clock true e = let same : name ≡ codes "clk" = (bytes_eq-Decides name (codes "clk")).0 e in rw same known.0
    by_clock false e = by_data (bytes_eq name (codes "d")) refl e

no_vector : (b : Bool) → (b || false) ≡ b
no_vector true = refl
no_vector false = refl

-- a declared net is there already
implicit_is : (nets : List (List ℕ)) (name : List ℕ) → Known nets → with_implicit inputs [] nets name ≡ with_net nets name
implicit_is nets name known = rw (no_vector (stands inputs name)) (by_cases (stands inputs name) refl)
  where
    by_cases : (b : Bool) → stands inputs name ≡ b → cond b nets (with_name nets name) ≡ with_net nets name
    by_cases true e = rw (one_of nets name known e) refl
    by_cases false e = refl

known_still : (nets : List (List ℕ)) (name : List ℕ) → Known nets → Known (with_net nets name)
known_still nets name known =
    cond_both (stands nets name) nets (nets ++ name ∷ []) Known (λ _. known)
    (λ _. (stands_still nets name (codes "clk") known.0, stands_still nets name (codes "d") known.1))

listed_conns : (nets : List (List ℕ)) (cs : List Conn) → Known nets → Known (with_conns nets cs) × (over_conns (listing inputs) nets cs ≡ with_conns nets cs)
listed_conns nets [] known = (known, refl)
listed_conns nets (c ∷ cs) known =
    let more = listed_conns (with_net nets (net_text c.net)) cs (known_still nets (net_text c.net) known) in
    (more.0, rw (implicit_is nets (net_text c.net) known) more.1)

fine_listing : (nets : List (List ℕ)) (cs : List Conn) → FineConns (listing inputs) nets cs
fine_listing nets [] = tt
fine_listing nets (c ∷ cs) = (refl, fine_listing (with_implicit inputs [] nets (net_text c.net)) cs)

fine_listed : (nets : List (List ℕ)) (is : List Inst) → FineInsts (listing inputs) nets is
fine_listed nets [] = tt
fine_listed nets (i ∷ is) = (refl, refl, fine_listing nets i.conns, fine_listed (over_conns (listing inputs) nets i.conns) is)

listed_insts : (nets : List (List ℕ)) (is : List Inst) → Known nets → over_insts (listing inputs) nets is ≡ with_insts nets is
listed_insts nets [] known = refl
listed_insts nets (i ∷ is) known =
    let these = listed_conns nets i.conns known in
    rw these.1 (listed_insts (with_conns nets i.conns) is these.0)

nets_made : (size : ℕ) (is : List Inst) → AreInsts is
    → all_nets inputs [] [] (events size start (tokens Verilog 0 Fresh 0 (module_text is))) ≡ with_insts inputs is
unfolding events tokens verilog_piece is_identifier is_left_out_item with_names nets_of all_nets
nets_made size is ok =
    over_module events (all_nets inputs []) (listing inputs) marks (list_conns inputs) (list_cells inputs) (list_names inputs) size is ok [] inputs (fine_listed inputs is)
    (with_insts inputs is) (λ rest. refl) (λ at. listed_insts inputs is (refl, refl))

-- the instances
joined_conns : (all cs : List Conn) → FineConns joining all cs × (over_conns joining all cs ≡ all ++ cs)
joined_conns all [] = (tt, sym (append-nil all))
joined_conns all (c ∷ cs) =
    let more = joined_conns (all ++ c ∷ []) cs in
    ((refl, more.0), more.1 ∙ append_assoc all (c ∷ []) cs)

none_named : (size : ℕ) (cell w : List ℕ) → IsWord w → (at : ℕ) (ts : List Tok) → conns_of (events size (inst_name cell) (tok w at Word ∷ ts)) ≡ []
unfolding events conns_of
none_named size cell w ok at ts = rw (ok.identifier) refl

none_behind : (size at : ℕ) (is : List Inst) → AreInsts is → conns_of (events size item (tokens Verilog 0 Fresh at (insts_text is ++ end_text))) ≡ []
unfolding events tokens verilog_piece is_identifier is_left_out_item with_names nets_of conns_of insts_text
none_behind size at [] ok = refl
none_behind size at (i ∷ is) ok =
    let rest : List ℕ = insts_text is ++ end_text in
    let a1 : ℕ = at + length i.cell + 1 in
    let a2 : ℕ = a1 + length i.name + 1 in
    let ts : List Tok = tok (40 ∷ []) a2 Mark ∷ tokens Verilog 0 Within (conns_at at i) (conns_text i.conns ++ (41 ∷ 59 ∷ 10 ∷ rest)) in
    ap (λ t. conns_of (events size item (tokens Verilog 0 Fresh at t))) (append_assoc (inst_text i) (insts_text is) end_text)
    ∙ (ap (λ ts. conns_of (events size item ts)) (inst_cut at i ok.0 rest)
    ∙ (conn_cells size i.cell ok.0.cell tt refl at (tok i.name a1 Word ∷ ts)
    ∙ none_named size i.cell i.name ok.0.name a1 ts))

name_made : (size : ℕ) (cell w : List ℕ) → IsWord w → (at : ℕ) (ts : List Tok)
    → insts_of (events size (inst_name cell) (tok w at Word ∷ ts))
    ≡ record { name = w; cell = cell; conns = conns_of (events size inst_open ts) } ∷ insts_of (events size inst_open ts)
unfolding events insts_of
name_made size cell w ok at ts = rw (ok.identifier, ok.same) refl

conns_made : (size at : ℕ) (i : Inst) → IsInst i → (a2 : ℕ) (rest : List ℕ)
    → conns_of (events size item (tokens Verilog 0 Fresh (behind_inst at i) rest)) ≡ []
    → conns_of (events size inst_open (tok (40 ∷ []) a2 Mark ∷ tokens Verilog 0 Within (conns_at at i) (conns_text i.conns ++ (41 ∷ 59 ∷ 10 ∷ rest)))) ≡ i.conns
conns_made size at i ok a2 rest none =
    let these = joined_conns [] i.conns in
    let ts : List Tok = tokens Verilog 0 Within (conns_at at i) (conns_text i.conns ++ (41 ∷ 59 ∷ 10 ∷ rest)) in
    ap conns_of (marks.begin size a2 ts)
    ∙ (conns_walked events (behind_those conns_of) joining marks conn_conns size (conns_at at i) i.conns ok.conns [] these.0 (59 ∷ 10 ∷ rest)
    ∙ (end_walked events (behind_those conns_of) marks size (behind_conns (conns_at at i) i.conns + 1) (over_conns joining [] i.conns) rest
    ∙ (ap (λ more. over_conns joining [] i.conns ++ more) none
    ∙ (append-nil (over_conns joining [] i.conns) ∙ these.1))))

insts_made : (size at : ℕ) (is : List Inst) → AreInsts is → insts_of (events size item (tokens Verilog 0 Fresh at (insts_text is ++ end_text))) ≡ is
unfolding events tokens verilog_piece is_identifier is_left_out_item with_names nets_of insts_of insts_text
insts_made size at [] ok = refl
insts_made size at (i ∷ is) ok =
    let rest : List ℕ = insts_text is ++ end_text in
    let a1 : ℕ = at + length i.cell + 1 in
    let a2 : ℕ = a1 + length i.name + 1 in
    let us : List Tok = tokens Verilog 0 Within (conns_at at i) (conns_text i.conns ++ (41 ∷ 59 ∷ 10 ∷ rest)) in
    let ts : List Tok = tok (40 ∷ []) a2 Mark ∷ us in
    ap (λ t. insts_of (events size item (tokens Verilog 0 Fresh at t))) (append_assoc (inst_text i) (insts_text is) end_text)
    ∙ (ap (λ ts. insts_of (events size item ts)) (inst_cut at i ok.0 rest)
    ∙ (inst_cells size i.cell ok.0.cell tt refl at (tok i.name a1 Word ∷ ts)
    ∙ (name_made size i.cell i.name ok.0.name a1 ts
    ∙ (ap (λ (cs : List Conn). record { name = i.name; cell = i.cell; conns = cs } ∷ insts_of (events size inst_open ts))
    (conns_made size at i ok.0 a2 rest (none_behind size (behind_inst at i) is ok.1))
    ∙ ap (λ more. i ∷ more)
    (ap insts_of (marks.begin size a2 us)
    ∙ (conns_walked events (alone insts_of) still marks inst_conns size (conns_at at i) i.conns ok.0.conns tt (fine_conns tt i.conns) (59 ∷ 10 ∷ rest)
    ∙ (end_walked events (alone insts_of) marks size (behind_conns (conns_at at i) i.conns + 1) tt rest
    ∙ insts_made size (behind_inst at i) is ok.1)))))))

whole_insts : (size : ℕ) (is : List Inst) → AreInsts is → insts_of (events size start (tokens Verilog 0 Fresh 0 (module_text is))) ≡ is
unfolding events tokens verilog_piece is_identifier is_left_out_item with_names nets_of module_text insts_of
whole_insts size is ok = insts_made size 41 is ok

name_is : (size : ℕ) (is : List Inst) → module_name (events size start (tokens Verilog 0 Fresh 0 (module_text is))) ≡ Some (codes "generated")
unfolding events tokens verilog_piece is_identifier is_left_out_item with_names nets_of module_text module_name
name_is size is = refl

pub no_faults : (is : List Inst) → IsWritable is → faults_of (events_of (module_text is)) ≡ []
no_faults is ok =
    let size : ℕ = length (module_text is) in
    rw (
      wrongs_are size is ok.words,
      strays_are size is ok.words,
      headers_are size is ok.words,
      declarations_are size is ok.words,
      doubles_are size is ok.words ok.lone,
      excess_is size is ok.words ok.few,
      pins_are size is ok.words ok.pins,
      vectors_are size is ok.words,
      directed_are size is ok.words,
      declared_are size is ok.words,
      wholes_are size is ok.words,
      undirected_are size is ok.words,
      bits_are size is ok.words,
      nets_are size is ok.words ok.few_nets,
    )
    refl

pub module_back : (is : List Inst) → IsWritable is → module_of (events_of (module_text is)) ≡ Some (module_of_insts is)
module_back is ok =
    let size : ℕ = length (module_text is) in
    rw (name_is size is, ports_are size is ok.words, vectors_are size is ok.words, declared_are size is ok.words, nets_made size is ok.words, whole_insts size is ok.words)
    refl
