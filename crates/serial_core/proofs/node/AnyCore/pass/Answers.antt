use Rattle.serial_core.proofs.node.AnyCore.pass.Goals as goal

pub returns-in-Demux-clause-stands : goal.returns-in-Demux-clause-stands
returns-in-Demux-clause-stands g c number h at =
    let s = rw c.in-Demux.is at at in
    (s.0, (c.pass.ensures.stands h s.1).1)

pub returns-in-Dvr-clause-stands : goal.returns-in-Dvr-clause-stands
returns-in-Dvr-clause-stands g c number h at =
    let s = rw c.in-Dvr.is at at in
    (s.0, (c.pass-in-Dvr.ensures.stands h s.1).1)
