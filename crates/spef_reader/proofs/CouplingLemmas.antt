-- Where no capacitance stands between two nodes, the pins of a net are not asked for.
use Rattle.std.proofs.Common.{◌≡◌, ℕ, false, List, [], ◌∷◌, refl, ap}
use Rattle.std.specs.Prelude.{Some, None}
use Rattle.std.specs.List.{list_any}
use Rattle.timing_defs.specs.declared.parasitics.RcCap.{RcCap}
use Rattle.spef_reader.specs.declared.events.Event.{Event}
use Rattle.spef_reader.specs.declared.events.Event.TheVariants.{Net, Total, Connection, Ground, Coupling, Resistor, End, Fault}
use Rattle.spef_reader.specs.Faults.{is_coupling, pins_on, strange_couplings}
use Rattle.spef_reader.specs.Parasitics.{cap_at, caps_of}

strange_alike : (ps qs : List (List ℕ)) (es : List Event) → list_any is_coupling es ≡ false → strange_couplings ps es ≡ strange_couplings qs es
unfolding strange_couplings
strange_alike ps qs [] h = refl
strange_alike ps qs (Net at name place ∷ es) h = strange_alike ps qs es h
strange_alike ps qs (Total size ∷ es) h = strange_alike ps qs es h
strange_alike ps qs (Connection a ∷ es) h = strange_alike ps qs es h
strange_alike ps qs (Ground a size ∷ es) h = strange_alike ps qs es h
strange_alike ps qs (Coupling at a b size ∷ es) h = cc
strange_alike ps qs (Resistor a b size ∷ es) h = strange_alike ps qs es h
strange_alike ps qs (End ∷ es) h = strange_alike ps qs es h
strange_alike ps qs (Fault w ∷ es) h = strange_alike ps qs es h

caps_alike : (ps qs : List (List ℕ)) (es : List Event) → list_any is_coupling es ≡ false → caps_of ps es ≡ caps_of qs es
unfolding caps_of
caps_alike ps qs [] h = refl
caps_alike ps qs (Net at name place ∷ es) h = caps_alike ps qs es h
caps_alike ps qs (Total size ∷ es) h = caps_alike ps qs es h
caps_alike ps qs (Connection a ∷ es) h = caps_alike ps qs es h
caps_alike ps qs (Ground (Some a) (Some size) ∷ es) h = ap (λ (rest : List RcCap). cap_at a size ∷ rest) (caps_alike ps qs es h)
caps_alike ps qs (Ground (Some a) None ∷ es) h = caps_alike ps qs es h
caps_alike ps qs (Ground None size ∷ es) h = caps_alike ps qs es h
caps_alike ps qs (Coupling at a b size ∷ es) h = cc
caps_alike ps qs (Resistor a b size ∷ es) h = caps_alike ps qs es h
caps_alike ps qs (End ∷ es) h = caps_alike ps qs es h
caps_alike ps qs (Fault w ∷ es) h = caps_alike ps qs es h

pub strange_unasked : (es : List Event) → list_any is_coupling es ≡ false → strange_couplings (pins_on [] es) es ≡ strange_couplings [] es
strange_unasked es h = strange_alike (pins_on [] es) [] es h

pub caps_unasked : (es : List Event) → list_any is_coupling es ≡ false → caps_of (pins_on [] es) es ≡ caps_of [] es
caps_unasked es h = caps_alike (pins_on [] es) [] es h
