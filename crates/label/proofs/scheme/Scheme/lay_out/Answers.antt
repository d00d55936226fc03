-- What the proof of `scheme::Scheme::lay_out` leaves to be shown.
use Rattle.std.proofs.Common.{arith}
use Rattle.label.proofs.Apart.{apart}
use Rattle.label.proofs.Doors.{each_door}
use Rattle.label.proofs.scheme.Scheme.lay_out.Goals as goal

pub returns-in-Ok-clause-labels : goal.returns-in-Ok-clause-labels
returns-in-Ok-clause-labels g c =
    let m = g.A.Arithmetic.meaning c.args.arithmetic in
    let L = g.met.A.Arithmetic.lawful c.args.arithmetic in
    let is = c.in-Ok.ensures in
    (apart m L _ _ is.different, each_door m L _ _ is.different (omega arith) (omega arith))
