-- What the proof of `reader::read` leaves to be shown.
use Rattle.reading.proofs.Returned.{read_back}
use Rattle.reading.proofs.reader.read.Goals as goal

pub returns-clause-printed : goal.returns-clause-printed
returns-clause-printed g c =
    let a = c.args.scheme.now.arithmetic in
    read_back (g.A.Arithmetic.meaning a) _ _ _ _ _ c.read_by.result _ c.read_by.ensures.answers (g.met.A.Arithmetic.lawful a)
