use Rattle.node_rows.proofs.ports.Ports.of.Goals as goal

pub returns : goal.returns
returns c =
    let slews = rw c.as_slice.ensures at c.in_ok-slews.ensures in
    let loads = rw c.as_slice-2.ensures at c.in_ok-loads.ensures in
    let starts = rw c.as_slice-3.ensures at c.in_ok-starts.ensures in
    record { slews = slews; loads = loads; starts = starts }
