-- What the proof of `Sums::correct` leaves to be shown.
use Rattle.std.proofs.Common.{refl, sym, ◌∙◌}
use Rattle.reading.proofs.Corrected.{mended}
use Rattle.reading.proofs.points.Sums.correct.Goals as goal

pub returns : goal.returns
returns g c d label near =
    let self = c.args.self.now in
    let cells = c.args.cells.now in
    let a = self.arithmetic.now in
    mended (g.A.Arithmetic.meaning a) (g.met.A.Arithmetic.lawful a) _ self.points.now cells.smudges.now self.sums.now
    c.find_suspects.new.suspects c.args.row.now c.fill.new.row
    (record {
      length_points = refl;
      length_smudges = cells.lengths.1 ∙ sym c.requires.lengths.0;
      length_before = c.requires.lengths.1;
      length_after = c.fill.auto.row ∙ c.requires.lengths.1;
      points_are = self.powers;
      sum_codes = self.sum_codes;
      codes = c.requires.codes;
      sums_are = c.requires.sums;
      suspected = c.find_suspects.ensures;
      filled = c.fill.ensures.filled;
    }) d label near
