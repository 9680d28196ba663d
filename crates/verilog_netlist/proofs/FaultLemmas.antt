-- The least fault of lists of faults that stand one behind another.
use Rattle.std.proofs.Common.{◌≡◌, ℕ, List, [], ◌∷◌, ◌++◌, Bool, true, false, if◌then◌else◌, Option, Some, None, refl, ap, ◌∙◌}
use Rattle.std.specs.Prelude.{is_some}
use Rattle.sta_text.specs.declared.faults.Wrong.{Wrong}
use Rattle.sta_text.specs.Faults.{least_from}
use Rattle.sta_text.proofs.FaultsLemmas.{least_append, least_none}
use Rattle.sta_text.specs.Tokens.{Tok}
use Rattle.verilog_netlist.specs.declared.events.Event.{Event}
use Rattle.verilog_netlist.specs.declared.events.Event.TheVariants.{Module, Fault}
use Rattle.verilog_netlist.specs.Grammar.{events, start, events_of}
use Rattle.verilog_netlist.specs.Modules.{module_name}
use Rattle.verilog_netlist.specs.Faults.{is_empty, wrongs, strays, header_doubles, declaration_faults, nothing, instance_doubles, instance_excess, pin_doubles, whole_vectors, all_vectors, all_directed, all_declared, undirected, undeclared_bits, net_excess, stops, early_faults, net_faults, whole_faults, faults_of}

pub least_early : (best : Option Wrong) (es : List Event) → least_from best (early_faults es)
    ≡ least_from (least_from (least_from (least_from (least_from best (header_doubles [] es)) (declaration_faults nothing es)) (instance_doubles [] es)) (instance_excess 0 es)) (pin_doubles [] es)
least_early best es = simp least_append

accepted : (best : Option Wrong) (s e a b : List Wrong) → s ≡ [] → least_from best (s ++ e ++ (if is_empty s then a else b)) ≡ least_from (least_from (least_from best s) e) a
unfolding least_from
accepted best [] e a b h = least_append best e a
accepted best (x ∷ s) e a b h = cc

broken : (s e a b : List Wrong) (w : Wrong) → least_from None s ≡ Some w → least_from None (s ++ e ++ (if is_empty s then a else b)) ≡ least_from (least_from (least_from None s) e) b
unfolding least_from
broken [] e a b w h = cc
broken (x ∷ s) e a b w h = least_append None (x ∷ s ++ e) b ∙ ap (λ best. least_from best b) (least_append None (x ∷ s) e)

pub least_accepted : (es : List Event) → least_from None (stops es) ≡ None
    → least_from None (faults_of es) ≡ least_from (least_from (least_from None (stops es)) (early_faults es)) (whole_faults es)
least_accepted es h = accepted None (stops es) (early_faults es) (whole_faults es) (whole_vectors [] es) (least_none (stops es) h)

pub least_broken : (es : List Event) (w : Wrong) → least_from None (stops es) ≡ Some w
    → least_from None (faults_of es) ≡ least_from (least_from (least_from None (stops es)) (early_faults es)) (whole_vectors [] es)
least_broken es w h = broken (stops es) (early_faults es) (whole_faults es) (whole_vectors [] es) w h

pub front : (xs ys : List Wrong) → xs ++ ys ≡ [] → xs ≡ []
front [] ys h = refl
front (x ∷ xs) ys h = cc

pub back : (xs ys : List Wrong) → xs ++ ys ≡ [] → ys ≡ []
back [] ys h = h
back (x ∷ xs) ys h = cc

pub chosen : (s a b : List Wrong) → s ≡ [] → (if is_empty s then a else b) ≡ [] → a ≡ []
chosen [] a b e h = h
chosen (x ∷ s) a b e h = cc

-- what needs the whole text
pub least_whole : (best : Option Wrong) (es : List Event)
    → least_from best (whole_faults es)
    ≡ least_from (least_from (least_from best (whole_vectors (all_vectors [] es) es)) (undirected (all_directed [] es) es)) (net_faults es)
least_whole best es =
    least_append best (whole_vectors (all_vectors [] es) es ++ undirected (all_directed [] es) es) (net_faults es)
    ∙ ap (λ b. least_from b (net_faults es)) (least_append best (whole_vectors (all_vectors [] es) es) (undirected (all_directed [] es) es))

-- without a fault of the text there is none of each kind
pub no_stop : (es : List Event) → faults_of es ≡ [] → stops es ≡ []
no_stop es h =
    front (stops es) (early_faults es)
    (front (stops es ++ early_faults es) (if is_empty (stops es) then whole_faults es else whole_vectors [] es) h)

pub stop_none : (es : List Event) → faults_of es ≡ [] → least_from None (stops es) ≡ None
unfolding least_from
stop_none es h = ap (least_from None) (no_stop es h)

pub no_net_fault : (es : List Event) → faults_of es ≡ [] → net_faults es ≡ []
no_net_fault es h =
    back (whole_vectors (all_vectors [] es) es ++ undirected (all_directed [] es) es) (net_faults es)
    (chosen (stops es) (whole_faults es) (whole_vectors [] es) (no_stop es h)
    (back (stops es ++ early_faults es) (if is_empty (stops es) then whole_faults es else whole_vectors [] es) h))

pub no_excess : (es : List Event) → net_faults es ≡ [] → net_excess (all_declared [] es) (all_vectors [] es) [] es ≡ []
no_excess es h = back (undeclared_bits (all_declared [] es) es) (net_excess (all_declared [] es) (all_vectors [] es) [] es) h

-- a text that was read to its end names its module
either : (b : Bool) (xs ys : List Event) → (wrongs xs ≡ [] → is_some (module_name xs) ≡ true) → (wrongs ys ≡ [] → is_some (module_name ys) ≡ true)
    → wrongs (if b then xs else ys) ≡ [] → is_some (module_name (if b then xs else ys)) ≡ true
either true xs ys f g h = f h
either false xs ys f g h = g h

faulty : (w : Wrong) (es : List Event) → wrongs (Fault w ∷ es) ≡ [] → is_some (module_name (Fault w ∷ es)) ≡ true
unfolding wrongs
faulty w es h = cc

named : (name : List ℕ) (es : List Event) → wrongs (Module name ∷ es) ≡ [] → is_some (module_name (Module name ∷ es)) ≡ true
unfolding module_name
named name es h = refl

pub has_name : (size : ℕ) (ts : List Tok) → wrongs (events size start ts) ≡ [] → is_some (module_name (events size start ts)) ≡ true
unfolding events
has_name size [] h = faulty _ [] h
has_name size (t ∷ []) h = either _ _ _ (faulty _ []) (faulty _ []) h
has_name size (t ∷ u ∷ us) h = either _ _ _ (either _ _ _ (named _ _) (faulty _ [])) (faulty _ []) h

pub is_named : (bytes : List ℕ) → faults_of (events_of bytes) ≡ [] → is_some (module_name (events_of bytes)) ≡ true
is_named bytes h = has_name _ _ (front (wrongs (events_of bytes)) (strays [] (events_of bytes)) (no_stop (events_of bytes) h))
