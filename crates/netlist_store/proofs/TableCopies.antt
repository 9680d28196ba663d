-- Tables that are equal part by part are equal.

use Rattle.std.proofs.Common.{◌≡◌, ap, ◌∙◌}
use Rattle.netlist_store.specs.declared.tables.Names.{Names}
use Rattle.netlist_store.specs.declared.tables.Orders.{Orders}
use Rattle.netlist_store.specs.declared.tables.Rows.{Rows}

pub same_names : (a b : Names) → a.insts ≡ b.insts → a.nets ≡ b.nets → a.pins ≡ b.pins → a ≡ b
same_names a b e f g =
    ap (λ x. record { insts = x; nets = a.nets; pins = a.pins }) e ∙ ap (λ x. record { insts = b.insts; nets = x; pins = a.pins }) f
    ∙ ap (λ x. record { insts = b.insts; nets = b.nets; pins = x }) g

pub same_orders : (a b : Orders) → a.insts ≡ b.insts → a.nets ≡ b.nets → a.rcs ≡ b.rcs → a ≡ b
same_orders a b e f g =
    ap (λ x. record { insts = x; nets = a.nets; rcs = a.rcs }) e ∙ ap (λ x. record { insts = b.insts; nets = x; rcs = a.rcs }) f
    ∙ ap (λ x. record { insts = b.insts; nets = b.nets; rcs = x }) g

pub same_rows : (a b : Rows) → a.insts ≡ b.insts → a.rcs ≡ b.rcs → a.net_pins ≡ b.net_pins → a.pins ≡ b.pins → a ≡ b
same_rows a b e f g h =
    ap (λ x. record { insts = x; rcs = a.rcs; net_pins = a.net_pins; pins = a.pins }) e
    ∙ ap (λ x. record { insts = b.insts; rcs = x; net_pins = a.net_pins; pins = a.pins }) f
    ∙ ap (λ x. record { insts = b.insts; rcs = b.rcs; net_pins = x; pins = a.pins }) g
    ∙ ap (λ x. record { insts = b.insts; rcs = b.rcs; net_pins = b.net_pins; pins = x }) h
